use Rattle.std.proofs.Common.{arith, refl, ℕ}
use denote.Param.Object.{read_made}
use Rattle.pico_tests.proofs.call.counted.OwnLists.{own-2, at-2-1, at-2-2, at-2-3}
use Rattle.pico_tests.proofs.call.counted.Goals as goal

-- the words of the three parts are read through their boxes
pub pico-requires-clause-room : goal.pico-requires-clause-room
pico-requires-clause-room g c κs =
    let button = read_made own-2 (own-2.entry at-2-1) at-2-1 refl ℕ (λ j v. (j.1.meaning v).words) _ _ c.in_ok-new-3.field-0.value c.into_dyn_box-in_ok-new-3.ensures.1 in
    let shift = read_made own-2 (own-2.entry at-2-2) at-2-2 refl ℕ (λ j v. (j.1.meaning v).words) _ _ c.in_ok-new-4.field-0.value c.into_dyn_box-in_ok-new-4.ensures.1 in
    let wire = read_made own-2 (own-2.entry at-2-3) at-2-3 refl ℕ (λ j v. (j.1.meaning v).words) _ _ c.in_ok-new-5.field-0.value c.into_dyn_box-in_ok-new-5.ensures.1 in
    rw (c.in_ok-push-5.ensures.items, c.in_ok-push-4.ensures.items, c.in_ok-push-3.ensures.items, c.new-parts.ensures.items)
    (omega (arith, button, shift, wire))
