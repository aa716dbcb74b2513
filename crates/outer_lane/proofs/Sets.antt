-- What drives the pads from outside, by sets of pins: that of a script and a device.
use Rattle.std.proofs.Common.{◌≡◌, ℕ, zero, suc, ◌-◌, ◌^◌, ◌<◌, Bool, true, false, not, ◌&&◌, ◌||◌, eqb, Some, None, if◌then◌else◌, refl, ap, ◌∙◌, arith}
use Rattle.std.specs.Prelude.{bit_and, bit_or}
use Rattle.std.specs.Int.{bit_at, w32}
use Rattle.std.proofs.lemmas.Nat.Bits.{bit_at_not, bit_at-lt}
use Rattle.rp_base.specs.Word.{has_bit}
use Rattle.io_bank.specs.Levels.{by_sets}
use Rattle.io_bank.proofs.Bits.{has_and, has_or}
use Rattle.outer_lane.specs.Step.{either}

-- ---- a script and a device

turned : (a : ℕ) → a < 2 → eqb (1 - a) 1 ≡ not (eqb a 1)
turned zero h = refl
turned (suc zero) h = refl
turned (suc (suc a)) h = absurd (omega arith)

has_not : (n i : ℕ) → n < 2 ^ 32 → i < 32 → has_bit (2 ^ 32 - 1 - n) i ≡ not (has_bit n i)
has_not n i h lt = ap (λ x. eqb x 1) (bit_at_not w32 n i h lt) ∙ turned (bit_at n i) (bit_at-lt n i)

-- what one set of four leaves at a pin
chosen : (d h m l : Bool) →
    (if d || m then Some ((h && d) || (l && not d)) else None)
    ≡ either (if d then Some h else None) (if m then Some l else None)
chosen true true m l = refl
chosen true false m true = refl
chosen true false m false = refl
chosen false true true true = refl
chosen false true true false = refl
chosen false false true true = refl
chosen false false true false = refl
chosen false h false l = refl

high_bit : (d h l i : ℕ) → d < 2 ^ 32 → i < 32 →
    has_bit (bit_or (bit_and h d) (bit_and l (2 ^ 32 - 1 - d))) i
    ≡ ((has_bit h i && has_bit d i) || (has_bit l i && not (has_bit d i)))
high_bit d h l i word lt =
    has_or (bit_and h d) (bit_and l (2 ^ 32 - 1 - d)) i
    ∙ rw (has_and h d i, has_and l (2 ^ 32 - 1 - d) i, has_not d i word lt) refl

pub joined_sets : (d h m l i : ℕ) → d < 2 ^ 32 → i < 32 →
    by_sets (bit_or d m) (bit_or (bit_and h d) (bit_and l (2 ^ 32 - 1 - d))) i ≡ either (by_sets d h i) (by_sets m l i)
joined_sets d h m l i word lt =
    rw (has_or d m i, high_bit d h l i word lt) (chosen (has_bit d i) (has_bit h i) (has_bit m i) (has_bit l i))
