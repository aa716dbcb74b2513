use Rattle.std.proofs.Common.{refl, ◌∙◌, ◌∷◌, []}
use Rattle.turn_board.specs.Slots.{numbered}
use Rattle.turn_board.proofs.Refills.{same_value}
use Rattle.turn_board.proofs.collect.refill_all.Goals as goal

pub refill-l0-requires-clause-found : goal.refill-l0-requires-clause-found
refill-l0-requires-clause-found g c = let t = c.requires.in_hand in (t.0.l0, rw t.1.6 refl)

pub refill-l1-requires-clause-found : goal.refill-l1-requires-clause-found
refill-l1-requires-clause-found g c = let t = c.requires.in_hand in (t.0.l1, rw (c.refill-l0.ensures.in_hand, t.1.6) refl)

pub refill-l2-requires-clause-found : goal.refill-l2-requires-clause-found
refill-l2-requires-clause-found g c = let t = c.requires.in_hand in (t.0.l2, rw (c.refill-l1.ensures.in_hand, c.refill-l0.ensures.in_hand, t.1.6) refl)

pub refill-l3-requires-clause-found : goal.refill-l3-requires-clause-found
refill-l3-requires-clause-found g c = let t = c.requires.in_hand in (t.0.l3, rw (c.refill-l2.ensures.in_hand, c.refill-l1.ensures.in_hand, c.refill-l0.ensures.in_hand, t.1.6) refl)

pub refill-l4-requires-clause-found : goal.refill-l4-requires-clause-found
refill-l4-requires-clause-found g c = let t = c.requires.in_hand in (t.0.l4, rw (c.refill-l3.ensures.in_hand, c.refill-l2.ensures.in_hand, c.refill-l1.ensures.in_hand, c.refill-l0.ensures.in_hand, t.1.6) refl)

pub refill-l5-requires-clause-found : goal.refill-l5-requires-clause-found
refill-l5-requires-clause-found g c = let t = c.requires.in_hand in (t.0.l5, rw (c.refill-l4.ensures.in_hand, c.refill-l3.ensures.in_hand, c.refill-l2.ensures.in_hand, c.refill-l1.ensures.in_hand, c.refill-l0.ensures.in_hand, t.1.6) refl)

pub returns-clause-values : goal.returns-clause-values
returns-clause-values g c =
    let t = c.requires.in_hand in let s = t.0 in let u = t.1 in let x = c.args.firsts in
    let r0 = same_value 0 x.l0 s.l0 c.refill-l0.result c.args.post.now.me.1 (rw t.1.6 refl) c.refill-l0.ensures.value in
    let r1 = same_value 1 x.l1 s.l1 c.refill-l1.result c.refill-l0.new.post.me.1 (rw (c.refill-l0.ensures.in_hand, t.1.6) refl) c.refill-l1.ensures.value in
    let r2 = same_value 2 x.l2 s.l2 c.refill-l2.result c.refill-l1.new.post.me.1 (rw (c.refill-l1.ensures.in_hand, c.refill-l0.ensures.in_hand, t.1.6) refl) c.refill-l2.ensures.value in
    let r3 = same_value 3 x.l3 s.l3 c.refill-l3.result c.refill-l2.new.post.me.1 (rw (c.refill-l2.ensures.in_hand, c.refill-l1.ensures.in_hand, c.refill-l0.ensures.in_hand, t.1.6) refl) c.refill-l3.ensures.value in
    let r4 = same_value 4 x.l4 s.l4 c.refill-l4.result c.refill-l3.new.post.me.1 (rw (c.refill-l3.ensures.in_hand, c.refill-l2.ensures.in_hand, c.refill-l1.ensures.in_hand, c.refill-l0.ensures.in_hand, t.1.6) refl) c.refill-l4.ensures.value in
    let r5 = same_value 5 x.l5 s.l5 c.refill-l5.result c.refill-l4.new.post.me.1 (rw (c.refill-l4.ensures.in_hand, c.refill-l3.ensures.in_hand, c.refill-l2.ensures.in_hand, c.refill-l1.ensures.in_hand, c.refill-l0.ensures.in_hand, t.1.6) refl) c.refill-l5.ensures.value in
    (u.0, u.1, u.2, u.3, u.4, u.5, u.6 ∙ (λ q. numbered 0 (u.0 ∷ r0 q ∷ u.1 ∷ r1 q ∷ u.2 ∷ r2 q ∷ u.3 ∷ r3 q ∷ u.4 ∷ r4 q ∷ u.5 ∷ r5 q ∷ [])))
