-- The close bit of the word of the open numbers.
use Rattle.std.proofs.Common.{◌≡◌, ℕ, ◌+◌, ◌-◌, ◌*◌, ◌^◌, ◌<◌, ◌≢◌, Bool, true, false, bit_or, sym, refl, ap, ◌∙◌, arith}
use Rattle.std.proofs.lemmas.Nat.Bits.{bit_at_or, bit_at-pow_same, bit_at-pow_other, bit_at-lt, bit_at_above, bit_at_cat_low, bit_at_cat_high, same_from_bits}
use Rattle.std.specs.Int.{bit_at}
use mathlib.Core.Logic.{dite}
use native.Mathlib.Decide.{ℕ_discrete, dec_le}
use Rattle.turn_board.specs.Rule.{open_word}

-- a number with the bits of n, but for bit 63, which is then set
set_bit : (n a : ℕ) → n < 2 ^ 63 → ((i : ℕ) → i ≢ 63 → bit_at a i ≡ bit_at (1 * 2 ^ 63 + n) i) → bit_or a (2 ^ 63) ≡ 1 * 2 ^ 63 + n
set_bit n a low same = same_from_bits (bit_or a (2 ^ 63)) (1 * 2 ^ 63 + n) (λ i. dite (ℕ_discrete i 63)
    (λ e. let here : bit_at (1 * 2 ^ 63 + n) 63 ≡ 1 = bit_at_cat_high 1 63 n 63 low (omega arith) in
    ap (bit_at (bit_or a (2 ^ 63))) e ∙ (bit_at_or a (2 ^ 63) 63 ∙ (omega (arith, bit_at-pow_same 63, bit_at-lt a 63, here) ∙ ap (bit_at (1 * 2 ^ 63 + n)) (sym e))))
    (λ ne. bit_at_or a (2 ^ 63) i ∙ omega (arith, bit_at-pow_other 63 i ne, same i ne)))

above : (n i : ℕ) → n < 2 ^ 63 → 63 < i → bit_at n i ≡ bit_at (1 * 2 ^ 63 + n) i
above n i low over = let high = bit_at_cat_high 1 63 n i low (omega arith) in let none : bit_at 1 (i - 63) ≡ 0 = bit_at_above 1 1 (i - 63) (omega arith) (omega arith) in
    bit_at_above n 63 i low (omega arith) ∙ sym (high ∙ none)

other_bits : (n i : ℕ) → n < 2 ^ 63 → i ≢ 63 → bit_at n i ≡ bit_at (1 * 2 ^ 63 + n) i
other_bits n i low ne = dite (dec_le i 63) (λ le. sym (bit_at_cat_low 1 63 n i (omega arith))) (λ over. above n i low (omega arith))

pub close_sets : (opened : ℕ) (closed : Bool) → opened < 2 ^ 63 → bit_or (open_word opened closed) (2 ^ 63) ≡ open_word opened true
close_sets opened true low = let e : open_word opened true ≡ 1 * 2 ^ 63 + opened = omega arith in
    ap (λ x. bit_or x (2 ^ 63)) e ∙ (set_bit opened (1 * 2 ^ 63 + opened) low (λ i ne. refl) ∙ sym e)
close_sets opened false low = let e : open_word opened true ≡ 1 * 2 ^ 63 + opened = omega arith in let f : open_word opened false ≡ opened = omega arith in
    ap (λ x. bit_or x (2 ^ 63)) f ∙ (set_bit opened opened low (λ i ne. other_bits opened i low ne) ∙ sym e)
