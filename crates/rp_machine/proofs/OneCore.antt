-- A cycle in which core 0 alone is at work is the one that the definition says.
use Rattle.std.proofs.Common.{◌≡◌, ◌+◌, true, false, List, [], ◌∷◌, Option, Some, None, refl, sym, ap, ◌∙◌}
use Rattle.rp_machine.proofs.Shared.{Begun, Blocks, IsCore0Alone, Setting, State, Turn, Want, Wanted, Why, after_deed, after_deeds, alone_next, asked, asked_of, begun, beside, cause_in, cause_of, core1_launched, deed_of, deeds, first_cause, first_next, granted, has_hold, is_first_alone, is_nothing, next, next_by, slice_index_or, stepped, stepped_alone, turn_for, turn_of, turns, wanted, wanted_by, wantless_next, with_grants, with_turns}
use Rattle.rp_base.specs.declared.Master.TheVariants as master
use Rattle.lane_look.specs.declared.lane.Want.TheVariants as want
use Rattle.lane_look.specs.declared.lane.Turn.TheVariants as turn
use Rattle.m0_core.specs.State.{State as Core}
use Rattle.m0_core.specs.Cycle as core
use Rattle.dma_engine.specs.Cycle as dma
use Rattle.pio_block.specs.Cycle as pio
use Rattle.rp_machine.proofs.Wantless.{both, nothing, wantless_four}

-- ---- what the others begin

pub first_want : (a b : Want) → a ∷ b ∷ [] ≡ want.Nothing ∷ want.Nothing ∷ [] → a ≡ want.Nothing
first_want a b e = ap (λ (xs : List Want). slice_index_or xs 0 want.Nothing) e

pub second_want : (a b : Want) → a ∷ b ∷ [] ≡ want.Nothing ∷ want.Nothing ∷ [] → b ≡ want.Nothing
second_want a b e = ap (λ (xs : List Want). slice_index_or xs 1 want.Nothing) e

pub wanted_alone : (s : State) (p : Blocks) (c : Core) → IsCore0Alone s p c → wanted (begun s) ≡ beside (core.want_of (begun s).core0)
unfolding wanted
wanted_alone s p c h = rw (h.rests, first_want _ _ h.wants, second_want _ _ h.wants) refl

-- ---- the first cause

alone_first : (cause : Option Why) → first_cause (cause ∷ None ∷ None ∷ None ∷ []) ≡ cause
alone_first None = refl
alone_first (Some why) = refl

cause_beside : (w : Setting) (b : Begun) (x : Want) (s : State) → cause_in w b (beside x) s ≡ cause_of w b.outer s (wanted_by master.Core0 x)
unfolding cause_in cause_of
cause_beside w b x s = alone_first _

pub cause_alone : (w : Setting) (s : State) (p : Blocks) (c : Core) → IsCore0Alone s p c
    → cause_in w (begun s) (wanted (begun s)) s ≡ cause_of w (begun s).outer s (wanted_by master.Core0 (core.want_of (begun s).core0))
cause_alone w s p c h =
    ap (λ xs. cause_in w (begun s) xs s) (wanted_alone s p c h) ∙ cause_beside w (begun s) (core.want_of (begun s).core0) s

-- ---- the steps

turns_by : (w : Setting) (p : Blocks) (c : Core) (b : Begun) (ts : List Turn) (t : State)
    → core.next t.core1 b.core1 (turn_for ts master.Core1 ∷ turn.Nothing ∷ []) ≡ c
    → dma.next t.dma.block b.dma (turn_for ts master.DmaRead ∷ turn_for ts master.DmaWrite ∷ []) ≡ p.dma
    → pio.next b.pio0 t.pio0.block ≡ p.pio0
    → pio.next b.pio1 t.pio1.block ≡ p.pio1
    → with_turns w b ts t ≡ stepped_alone w p c b.core0 b.outer (turn_for ts master.Core0) t
unfolding with_turns
turns_by w p c b ts t e1 e2 e3 e4 = rw (e1, e2, e3, e4) refl

steps_alone : (w : Setting) (ts : List Turn) (s t : State) (p : Blocks) (c : Core) → IsCore0Alone s p c → turn_for ts master.Core1 ≡ turn.Nothing → t.core1 ≡ s.core1
    → t.dma ≡ s.dma → t.pio0 ≡ s.pio0 → t.pio1 ≡ s.pio1
    → with_turns w (begun s) ts t ≡ stepped_alone w p c (begun s).core0 (begun s).outer (turn_for ts master.Core0) t
steps_alone w ts s t p c h nothing same_core1 same_dma same_pio0 same_pio1 =
    turns_by w p c (begun s) ts t
    (rw (nothing, same_core1) h.core1)
    (rw same_dma (h.dma _))
    (rw same_pio0 h.pio0)
    (rw same_pio1 h.pio1)

-- ---- the cycle

abbrev ending : Setting → Begun → Want → State → State → State
ending w b x s t = record (after_deeds w (deeds w b (beside x) s (granted (beside x) s)) t) { cycle = s.cycle + 1 }

abbrev told : Setting → Begun → Want → State → Turn
told w b x s = turn_for (turns w b (beside x) s (granted (beside x) s)) master.Core0

-- core 1, which wants nothing, is told nothing
untold : (w : Setting) (b : Begun) (x : Want) (s : State) → turn_for (turns w b (beside x) s (granted (beside x) s)) master.Core1 ≡ turn.Nothing
unfolding granted asked asked_of turns turn_of
untold w b x s = refl

ends_alone : (w : Setting) (p : Blocks) (c : Core) (b : Begun) (x : Want) (s : State)
    → ending w b x s (stepped_alone w p c b.core0 b.outer (told w b x s) (with_grants (beside x) s)) ≡ alone_next w p c b.core0 b.outer x s
unfolding granted asked asked_of turns turn_of deeds deed_of after_deeds after_deed core1_launched alone_next
ends_alone w p c b x s = refl

next_beside : (w : Setting) (x : Want) (s : State) (p : Blocks) (c : Core) → IsCore0Alone s p c
    → next_by w (begun s) (beside x) s ≡ alone_next w p c (begun s).core0 (begun s).outer x s
unfolding next_by stepped
next_beside w x s p c h =
    ap (ending w (begun s) x s)
    (steps_alone w (turns w (begun s) (beside x) s (granted (beside x) s)) s (with_grants (beside x) s) p c h (untold w (begun s) x s) refl refl refl refl)
    ∙ ends_alone w p c (begun s) x s

pub next_alone : (w : Setting) (s : State) (p : Blocks) (c : Core) → IsCore0Alone s p c
    → next w s ≡ alone_next w p c (begun s).core0 (begun s).outer (core.want_of (begun s).core0) s
unfolding next
next_alone w s p c h =
    ap (λ xs. next_by w (begun s) xs s) (wanted_alone s p c h) ∙ next_beside w (core.want_of (begun s).core0) s p c h

-- ---- a cycle in which the first master alone wants something

first_four : (w : Setting) (b : Begun) (x0 x1 x2 x3 : Wanted) (s : State) → x1.want ≡ want.Nothing → x2.want ≡ want.Nothing → x3.want ≡ want.Nothing
    → next_by w b (x0 ∷ x1 ∷ x2 ∷ x3 ∷ []) s ≡ first_next w b x0 s
unfolding next_by stepped granted asked asked_of turns turn_of deeds deed_of after_deeds after_deed first_next core1_launched with_turns
first_four w b x0 x1 x2 x3 s e1 e2 e3 = rw (e1, e2, e3) refl

-- ---- where no master behind core 0 wants anything

record Behind (b : Begun) : Type 0 where
  core1 : core.want_of b.core1 ≡ want.Nothing
  read : dma.want_of b.dma.read ≡ want.Nothing
  write : dma.want_of b.dma.write ≡ want.Nothing

behind : (b : Begun) → is_first_alone (wanted b) ≡ true → Behind b
unfolding wanted
behind b h =
    let a = both (is_nothing (core.want_of b.core1)) _ h in
    let c = both (is_nothing (dma.want_of b.dma.read)) _ a.1 in
    let d = both (is_nothing (dma.want_of b.dma.write)) _ c.1 in
    record {
      core1 = nothing (core.want_of b.core1) a.0;
      read = nothing (dma.want_of b.dma.read) c.0;
      write = nothing (dma.want_of b.dma.write) d.0;
    }

pub no_cause : (w : Setting) (b : Begun) (s : State) → core.want_of b.core0 ≡ want.Nothing
    → cause_of w b.outer s (wanted_by master.Core0 (core.want_of b.core0)) ≡ None
unfolding cause_of
no_cause w b s e = rw e refl

pub cause_first : (w : Setting) (b : Begun) (s : State) → is_first_alone (wanted b) ≡ true
    → cause_of w b.outer s (wanted_by master.Core0 (core.want_of b.core0)) ≡ cause_in w b (wanted b) s
unfolding wanted cause_in cause_of
cause_first w b s h =
    let none = behind b h in
    rw (none.core1, none.read, none.write) (sym (alone_first (cause_of w b.outer s (wanted_by master.Core0 (core.want_of b.core0)))))

-- nobody who wants nothing stops a cycle
pub goes_on : (w : Setting) (b : Begun) (s : State) → b ≡ begun s → is_first_alone (wanted b) ≡ true → core.want_of b.core0 ≡ want.Nothing
    → cause_in w (begun s) (wanted (begun s)) s ≡ None
goes_on w b s e first none =
    ap (λ x. cause_in w x (wanted x) s) (sym e) ∙ sym (cause_first w b s first) ∙ no_cause w b s none

pub next_begun : (w : Setting) (b : Begun) (s : State) → b ≡ begun s → next_by w b (wanted b) s ≡ next w s
unfolding next
next_begun w b s e = rw e refl

pub next_first : (w : Setting) (b : Begun) (s : State) → is_first_alone (wanted b) ≡ true
    → first_next w b (wanted_by master.Core0 (core.want_of b.core0)) s ≡ next_by w b (wanted b) s
unfolding wanted
next_first w b s h =
    let none = behind b h in
    sym (first_four w b _ _ _ _ s none.core1 none.read none.write)

pub next_wantless : (w : Setting) (b : Begun) (s : State) → is_first_alone (wanted b) ≡ true → core.want_of b.core0 ≡ want.Nothing → has_hold s.fabric ≡ false
    → wantless_next w b s ≡ next_by w b (wanted b) s
unfolding wanted
next_wantless w b s h e free =
    let none = behind b h in
    sym (wantless_four w b _ _ _ _ s e none.core1 none.read none.write free)
