-- The line of IO_BANK0 beside the other ones.
use Rattle.std.proofs.Common.{◌≡◌, ◌∙◌, ℕ, ◌*◌, ◌^◌, Bool, true, false, ap, refl, arith, bit_or}
use lib.Bits.{or_zero_r}
use Rattle.std.proofs.lemmas.Nat.Bits.{bit_at_or, same_from_bits}
use Rattle.rp_base.specs.Word.{bit_number}
use Rattle.outer_lane.specs.Lines.{block_lines}

or_in_turn : (a b c : ℕ) → bit_or (bit_or a b) c ≡ bit_or a (bit_or b c)
or_in_turn a b c =
    same_from_bits (bit_or (bit_or a b) c) (bit_or a (bit_or b c))
    (λ i. rw (bit_at_or (bit_or a b) c i, bit_at_or a b i, bit_at_or a (bit_or b c) i, bit_at_or b c i) (omega arith))

high : (first second : Bool) → bit_or (block_lines false first second) (2 ^ 13) ≡ block_lines true first second
unfolding block_lines
high true true = refl
high true false = refl
high false true = refl
high false false = refl

pub with_bank : (irq timer : ℕ) (bank first second : Bool) →
    bit_or (bit_or irq (bit_or timer (block_lines false first second))) (bit_number bank * 2 ^ 13)
    ≡ bit_or irq (bit_or timer (block_lines bank first second))
with_bank irq timer true first second =
    or_in_turn irq (bit_or timer (block_lines false first second)) (2 ^ 13)
    ∙ ap (bit_or irq) (or_in_turn timer (block_lines false first second) (2 ^ 13) ∙ ap (bit_or timer) (high first second))
with_bank irq timer false first second = or_zero_r (bit_or irq (bit_or timer (block_lines false first second)))
