-- Where no interrupt line is high, and none was in the cycle before, the lines change nothing.
use Rattle.std.proofs.Common.{◌≡◌, ◌-◌, ◌^◌, refl, ap, sym, ◌∙◌}
use Rattle.std.specs.Prelude.{bit_and}
use Rattle.std.proofs.Math.Bool.{or-false}
use Rattle.std.specs.Int.Bits.{and_zero_l, or_zero_r}
use Rattle.m0_nvic.specs.State.{State}
use Rattle.m0_nvic.specs.Numbers.{of_interrupts}
use Rattle.m0_nvic.specs.Changes.{with_pending}
use Rattle.m0_nvic.specs.Cycle.{with_lines, after_lines}

nothing_pends : (s : State) → with_pending 0 s ≡ s
nothing_pends s = rw (and_zero_l (2 ^ 64 - 1 - s.pending), or_zero_r s.pending, or-false s.arrived) refl

same_lines : (s : State) → s.lines ≡ 0 → with_lines 0 s ≡ s
same_lines s h = ap (λ l. record s { lines = l }) (sym h)

pub no_lines : (s : State) → s.lines ≡ 0 → after_lines 0 s ≡ s
no_lines s h =
    ap (λ set. with_pending set (with_lines 0 s)) (and_zero_l (2 ^ 64 - 1 - bit_and (of_interrupts s.lines) s.active))
    ∙ nothing_pends (with_lines 0 s) ∙ same_lines s h
