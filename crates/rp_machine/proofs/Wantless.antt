-- A cycle in which nobody wants anything.
use Rattle.std.proofs.Common.{◌≡◌, ◌&&◌, Bool, true, false, not, if◌then◌else◌, List, [], ◌∷◌, length, Option, Some, None, refl, ap, arith, ◌∙◌}
use Rattle.rp_machine.proofs.Shared.{Begun, CyclesWithoutWantsChangeTheLanesAlone, Launch, Setting, State, Want, Wanted, after_deed, after_deeds, after_launcher, after_turn, asked, asked_of, begun, core1_launched, deed_of, deeds, ended, granted, has_hold, is_nothing, is_wantless, launch_of, launched_where, list_all, next, next_by, no_turns, nobody-after, offers_of, started_by, stepped, turn_of, turns, wanted, wantless_next, wants_nothing, with_sio, with_turns}
use Rattle.lane_look.specs.declared.lane.Want.TheVariants as want
use Rattle.sio_block.specs.State.{State as SioState}

pub both : (a b : Bool) → (a && b) ≡ true → (a ≡ true) × (b ≡ true)
both true b h = (refl, h)
both false b h = absurd (cc h)

pub nothing : (v : Want) → is_nothing v ≡ true → v ≡ want.Nothing
nothing want.Nothing h = refl
nothing _ h = absurd (cc h)

-- where no want is left, nothing is wanted in the cycle
pub wantless_four : (w : Setting) (b : Begun) (x0 x1 x2 x3 : Wanted) (s : State)
    → x0.want ≡ want.Nothing → x1.want ≡ want.Nothing → x2.want ≡ want.Nothing → x3.want ≡ want.Nothing
    → has_hold s.fabric ≡ false
    → next_by w b (x0 ∷ x1 ∷ x2 ∷ x3 ∷ []) s ≡ wantless_next w b s
unfolding next_by stepped granted asked asked_of turns turn_of deeds deed_of after_deeds after_deed wantless_next core1_launched with_turns
wantless_four w b x0 x1 x2 x3 s e0 e1 e2 e3 free = rw (e0, e1, e2, e3, nobody-after s.fabric free) refl

pub wantless_by : (w : Setting) (b : Begun) (xs : List Wanted) (s : State)
    → length xs ≡ 4 → list_all wants_nothing xs ≡ true → has_hold s.fabric ≡ false
    → next_by w b xs s ≡ wantless_next w b s
wantless_by w b (x0 ∷ x1 ∷ x2 ∷ x3 ∷ []) s l all free =
    let a = both (is_nothing x0.want) _ all in
    let c = both (is_nothing x1.want) _ a.1 in
    let d = both (is_nothing x2.want) _ c.1 in
    let e = both (is_nothing x3.want) _ d.1 in
    wantless_four w b x0 x1 x2 x3 s (nothing x0.want a.0) (nothing x1.want c.0) (nothing x2.want d.0) (nothing x3.want e.0) free
wantless_by w b [] s l all free = absurd (omega (arith, l))
wantless_by w b (x0 ∷ []) s l all free = absurd (omega (arith, l))
wantless_by w b (x0 ∷ x1 ∷ []) s l all free = absurd (omega (arith, l))
wantless_by w b (x0 ∷ x1 ∷ x2 ∷ []) s l all free = absurd (omega (arith, l))
wantless_by w b (x0 ∷ x1 ∷ x2 ∷ x3 ∷ x4 ∷ xs) s l all free = absurd (omega (arith, l))

pub is_false : (b : Bool) → not b ≡ true → b ≡ false
is_false true h = absurd (cc h)
is_false false h = refl

pub wantless_step : (w : Setting) (b : Begun) (xs : List Wanted) (s : State)
    → is_wantless xs s ≡ true → length xs ≡ 4 → next_by w b xs s ≡ wantless_next w b s
wantless_step w b xs s rest l =
    let a = both (list_all wants_nothing xs) _ rest in
    wantless_by w b xs s l a.0 (is_false (has_hold s.fabric) a.1)

-- ---- what such a cycle leaves

record Leaves (s t : State) : Type 0 where
  pub sram : t.sram ≡ s.sram
  pub fabric : t.fabric ≡ s.fabric
  pub resets : t.resets ≡ s.resets

follows : (s t u : State) → Leaves s t → Leaves t u → Leaves s u
follows s t u a b = record { sram = b.sram ∙ a.sram; fabric = b.fabric ∙ a.fabric; resets = b.resets ∙ a.resets }

sio_leaves : (sio : SioState) (s : State) → Leaves s (with_sio sio s)
unfolding with_sio
sio_leaves sio s = record { sram = refl; fabric = refl; resets = refl }

start_leaves : (l : Option Launch) (s : State) → Leaves s (started_by l s)
start_leaves None s = record { sram = refl; fabric = refl; resets = refl }
start_leaves (Some l) s = record { sram = refl; fabric = refl; resets = refl }

launcher_leaves : (s : State) → Leaves s (after_launcher s)
unfolding after_launcher
launcher_leaves s =
    follows s _ _ (sio_leaves (after_turn s.sio) s) (start_leaves (launch_of s.sio) (with_sio (after_turn s.sio) s))

core1_leaves_by : (asleep offered : Bool) (s : State) → Leaves s (if asleep then launched_where offered s else s)
core1_leaves_by true true s = launcher_leaves s
core1_leaves_by true false s = record { sram = refl; fabric = refl; resets = refl }
core1_leaves_by false offered s = record { sram = refl; fabric = refl; resets = refl }

wantless_leaves : (w : Setting) (b : Begun) (s : State) → Leaves s (wantless_next w b s)
unfolding wantless_next core1_launched ended with_turns
wantless_leaves w b s =
    let stepped_lanes = with_turns w b no_turns s in
    let here = core1_leaves_by stepped_lanes.core1.asleep (offers_of s.sio) stepped_lanes in
    let there = sio_leaves _ (core1_launched (offers_of s.sio) stepped_lanes) in
    record { sram = there.sram ∙ here.sram; fabric = there.fabric ∙ here.fabric; resets = there.resets ∙ here.resets }

pub cycles_without_wants : CyclesWithoutWantsChangeTheLanesAlone
unfolding next wanted
cycles_without_wants w s rest =
    let e = wantless_step w (begun s) (wanted (begun s)) s rest refl in
    let leaves = wantless_leaves w (begun s) s in
    record {
      steps = e;
      sram = ap (λ (t : State). t.sram) e ∙ leaves.sram;
      fabric = ap (λ (t : State). t.fabric) e ∙ leaves.fabric;
      resets = ap (λ (t : State). t.resets) e ∙ leaves.resets;
    }
