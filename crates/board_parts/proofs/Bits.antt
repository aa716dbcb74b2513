-- Bits that are kept as a number and a count.
use Rattle.std.proofs.Common.{◌≡◌, ℕ, zero, suc, ◌+◌, ◌*◌, ◌/◌, ◌%◌, ◌^◌, ◌<◌, [], ◌∷◌, length, refl, arith, ap, ◌∙◌}
use Rattle.std.proofs.lemmas.Grind.{common_steps}
use Rattle.board_parts.specs.Bits.{bits_in}
use Rattle.board_parts.specs.Probe.{one_more}
use Rattle.board_parts.specs.Ws2812.{number_of, with_bits}

-- there are as many as the count says
pub bits_long : (count number : ℕ) → length (bits_in count number) ≡ count
bits_long zero number = refl
bits_long (suc count) number = ap suc (bits_long count (number / 2))

-- their number is the one that they are kept as
pub bits_number : (count number : ℕ) → number < 2 ^ count → number_of (bits_in count number) ≡ number
bits_number zero number small = omega arith
bits_number (suc count) number small =
    let half : number_of (bits_in count (number / 2)) ≡ number / 2 = bits_number count (number / 2) (omega arith) in
    omega (arith, half)

-- one more bit, the latest, doubles the number
pub bits_more : (count more number bit : ℕ) → more ≡ count + 1 → bit < 2 → bits_in more (2 * number + bit) ≡ bit ∷ bits_in count number
bits_more count zero number bit e small = absurd (omega arith)
bits_more count (suc more) number bit e small =
    let same : more ≡ count = omega arith in
    let low : (2 * number + bit) % 2 ≡ bit = omega arith in
    let high : (2 * number + bit) / 2 ≡ number = omega arith in
    rw (same, low, high) refl

-- the 24th bit makes a colour
pub bits_full : (cycle colours last count number bit : ℕ) → count ≡ 23 → number < 2 ^ count
    → with_bits cycle colours last (bit ∷ bits_in count number) ≡ cycle ∷ one_more colours ∷ (2 * number + bit) ∷ []
bits_full cycle colours last count number bit e small =
    let long : length (bits_in count number) ≡ 23 = bits_long count number ∙ e in
    let value : number_of (bits_in count number) ≡ number = bits_number count number small in
    rw (long, value) (grind (arith, common_steps))

-- a bit before it is kept
pub bits_few : (cycle colours last count more number bit : ℕ) → count < 23 → more ≡ count + 1 → bit < 2
    → with_bits cycle colours last (bit ∷ bits_in count number) ≡ cycle ∷ colours ∷ last ∷ bits_in more (2 * number + bit)
bits_few cycle colours last count more number bit few e small =
    let long : length (bits_in count number) ≡ count = bits_long count number in
    rw (bits_more count more number bit e small, long) (grind (arith, common_steps, few))
