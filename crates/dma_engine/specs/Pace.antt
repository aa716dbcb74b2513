-- The answer to the engine's question about pacing: twenty counts of six bits each. Count k for k from 0 to 15 is that of
-- data request (TREQ) k, which the PIO blocks' FIFOs have, and counts 16 to 19 are those of requests 20 to 23, which UART0's
-- transmitter and receiver and UART1's have (RP2040 Datasheet, 2.5.3.1, "System DREQ Table"). The count of a transmitter is
-- the number of its FIFO's free room, and that of a receiver the number of words in its FIFO.
use Rattle.std.specs.Prelude.{◌≡◌, ℕ, ◌+◌, ◌*◌, ◌/◌, ◌%◌, ◌^◌, ◌<◌, ◌≤◌, List, [], ◌∷◌, length, slice_index}

-- the counts as one number, the first one lowest
abbrev pub packed_counts : List ℕ → ℕ
packed_counts [] = 0
packed_counts (count ∷ counts) = count + packed_counts counts * 2 ^ 6

-- the count at an index
abbrev pub count_at : ℕ → ℕ → ℕ
count_at index counts = counts / 2 ^ (6 * index) % 2 ^ 6

-- each count has six bits
abbrev pub FitSixBits : List ℕ → Type 0
FitSixBits counts = (index : ℕ) → index < length counts → slice_index counts index ≤ 63

-- what was packed at an index is taken from there
abbrev pub CountsAreTakenAsPacked : Type 0
CountsAreTakenAsPacked =
    (counts : List ℕ) (index : ℕ) → FitSixBits counts → index < length counts →
    count_at index (packed_counts counts) ≡ slice_index counts index
