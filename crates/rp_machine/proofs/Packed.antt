-- Counts that are packed one after another.
use Rattle.std.proofs.Common.{◌≡◌, ℕ, ◌+◌, ◌*◌, ◌^◌, List, [], ◌∷◌, ◌++◌, length, refl, arith}
use Rattle.pio_machine.specs.declared.machine.Machine1.{Machine1}
use Rattle.pio_block.specs.Words.{pacing_of}
use Rattle.pio_block.specs.Beside as pio
use Rattle.dma_engine.specs.Pace.{packed_counts}

-- eight counts, and those that follow
packed_after : (xs ys : List ℕ) → length xs ≡ 8 → packed_counts (xs ++ ys) ≡ pio.packed_counts xs + packed_counts ys * 2 ^ 48
packed_after (a ∷ b ∷ c ∷ d ∷ e ∷ f ∷ g ∷ h ∷ []) ys l = omega arith
packed_after _ ys l = grind arith

-- those of both PIO blocks, and those that follow
pub packed_in_turn : (ms ns : List Machine1) (zs : List ℕ) → packed_counts (pacing_of ms ++ (pacing_of ns ++ zs))
    ≡ pio.packed_counts (pacing_of ms) + pio.packed_counts (pacing_of ns) * 2 ^ 48 + packed_counts zs * 2 ^ 96
unfolding pacing_of
packed_in_turn ms ns zs =
    let first = packed_after (pacing_of ms) (pacing_of ns ++ zs) refl in
    let second = packed_after (pacing_of ns) zs refl in
    omega (arith, first, second)
