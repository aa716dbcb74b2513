-- A side-set of no pins writes nothing.
use Rattle.pio_machine.proofs.Shared.{Done, Machine1, and_mask, ap, arith, bit_and, bit_not, bit_or, either-way, has_side, overlaid, pins_from, refl, side_base, side_pindir, side_pins, w32, with_side, ℕ, ◌<◌, ◌^◌, ◌∙◌, ◌≡◌}
use lib.Bits.{and_zero_r, or_zero_r}

none_over : (bits word : ℕ) → word < 2 ^ 32 → overlaid 0 bits word ≡ word
none_over bits word fits =
    ap (bit_or (bit_and word (bit_not w32 0))) (and_zero_r bits) ∙ or_zero_r (bit_and word (bit_not w32 0)) ∙ and_mask word 32 ∙ omega (arith, fits)

no_levels : (mask bits : ℕ) (d : Done) → mask ≡ 0 → d.levels < 2 ^ 32 →
    record d { levels = overlaid mask bits d.levels; level_mask = bit_or d.level_mask mask } ≡ d
no_levels mask bits d none fits = rw (none, none_over bits d.levels fits, or_zero_r d.level_mask) refl

no_enables : (mask bits : ℕ) (d : Done) → mask ≡ 0 → d.enables < 2 ^ 32 →
    record d { enables = overlaid mask bits d.enables; enable_mask = bit_or d.enable_mask mask } ≡ d
no_enables mask bits d none fits = rw (none, none_over bits d.enables fits, or_zero_r d.enable_mask) refl

pub no_side : (word : ℕ) (m : Machine1) (d : Done) → pins_from (side_base m) (side_pins m) ≡ 0 → d.levels < 2 ^ 32 → d.enables < 2 ^ 32 →
    with_side word m d ≡ d
unfolding with_side
no_side word m d none levels enables =
    either-way (λ x. x ≡ d) (has_side word m)
    (either-way (λ x. x ≡ d) (side_pindir m) (no_enables _ _ d none enables) (no_levels _ _ d none levels)) refl
