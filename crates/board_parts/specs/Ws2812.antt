-- The decoder of a strip of lights (WS2812): each bit is a high level, whose length says which one, and a long low level ends a
-- frame. The lengths are the project's own, in cycles of 8 ns. The state is the cycle of the latest change, how many colours
-- there were, the last of them, and the bits since the last colour or frame, the latest first.
use Rattle.std.specs.Prelude.{ℕ, ◌+◌, ◌-◌, ◌*◌, ◌/◌, ◌%◌, ◌^◌, ◌==◌, nat_lt, nat_le, if◌then◌else◌, Bool, true, false, List, [], ◌∷◌, ◌++◌, length, map, codes, decimal}
use Rattle.std.specs.Char.{digit_char}
use Rattle.board_parts.specs.Probe.{ProbeMeaning, one_more}

-- the bit of a high level of so many cycles
abbrev pub bit_of : ℕ → ℕ
bit_of long = if nat_lt long 75 then 0 else 1

-- the bits that are left after a low level of so many cycles
abbrev pub kept : ℕ → List ℕ → List ℕ
kept long bits = if nat_le 6250 long then [] else bits

-- the number of some bits: the earliest is the highest
abbrev pub number_of : List ℕ → ℕ
number_of [] = 0
number_of (bit ∷ bits) = bit + 2 * number_of bits

-- the state with these bits: 24 of them make a colour
abbrev pub with_bits : ℕ → ℕ → ℕ → List ℕ → List ℕ
with_bits cycle colours last bits =
    if length bits == 24 then cycle ∷ one_more colours ∷ number_of bits ∷ [] else cycle ∷ colours ∷ last ∷ bits

abbrev pub decoded : ℕ → Bool → List ℕ → List ℕ
decoded cycle true (since ∷ colours ∷ last ∷ bits) = cycle ∷ colours ∷ last ∷ kept (cycle - since) bits
decoded cycle false (since ∷ colours ∷ last ∷ bits) = with_bits cycle colours last (bit_of (cycle - since) ∷ bits)
decoded cycle level _ = []

-- the six hexadecimal digits of a colour, the highest first
unfoldable pub hex_colour : ℕ → List ℕ
hex_colour colour = map (λ k. digit_char (colour / 16 ^ k % 16)) (5 ∷ 4 ∷ 3 ∷ 2 ∷ 1 ∷ 0 ∷ [])

abbrev pub colours_text : List ℕ → List ℕ
colours_text (since ∷ colours ∷ last ∷ bits) = codes "colours " ++ decimal colours ++ codes " last " ++ hex_colour last
colours_text _ = []

abbrev pub ws2812 : ProbeMeaning
ws2812 = record { aimed = λ pin. 0 ∷ 0 ∷ 0 ∷ []; next = decoded; text = colours_text }
