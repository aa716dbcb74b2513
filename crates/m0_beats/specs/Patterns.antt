-- How instructions are written: patterns of halfwords, with operands in their places (ARMv6-M Architecture Reference Manual, A5.2
-- "16-bit Thumb instruction encoding" and A5.3 "32-bit Thumb instruction encoding").
use Rattle.std.specs.Prelude.{ℕ, ◌+◌, ◌*◌, ◌/◌, ◌%◌, ◌^◌, Bool, false, ◌==◌, ◌||◌, if◌then◌else◌, List, [], ◌∷◌, Option, codes, map}
use Prim.Native.String.{String}
use Rattle.rp_base.specs.Word.{bit_number}

-- A pattern is written as in the manual, from bit 15 down to bit 0: a digit is a bit that is fixed, and a run of one letter
-- is an operand of so many bits. So it is a list of segments.
pub data Segment : Type 0 where
  Fixed : (bit : Bool) → Segment
  Operand : (count : ℕ) → Segment

abbrev pub begins_with : ℕ → List ℕ → Bool
begins_with c [] = false
begins_with c (d ∷ ds) = c == d

abbrev pub one_longer : List Segment → List Segment
one_longer [] = []
one_longer (Fixed bit ∷ segments) = Fixed bit ∷ segments
one_longer (Operand count ∷ segments) = Operand (count + 1) ∷ segments

-- the codes of 0 and 1 are 48 and 49
abbrev pub segments_of : List ℕ → List Segment
segments_of [] = []
segments_of (c ∷ cs) =
    if c == 48 || c == 49 then Fixed (c == 49) ∷ segments_of cs
    else if begins_with c cs then one_longer (segments_of cs)
    else Operand 1 ∷ segments_of cs

abbrev pub width_of : List Segment → ℕ
width_of [] = 0
width_of (Fixed bit ∷ segments) = 1 + width_of segments
width_of (Operand count ∷ segments) = count + width_of segments

-- the mask has a 1 at each fixed bit, and the value has the fixed bits
abbrev pub mask_of : List Segment → ℕ
mask_of [] = 0
mask_of (Fixed bit ∷ segments) = 1 * 2 ^ width_of segments + mask_of segments
mask_of (Operand count ∷ segments) = mask_of segments

abbrev pub value_of : List Segment → ℕ
value_of [] = 0
value_of (Fixed bit ∷ segments) = bit_number bit * 2 ^ width_of segments + value_of segments
value_of (Operand count ∷ segments) = value_of segments

-- of each operand, in order: how many bits it has, and how many stand behind it
abbrev pub runs_of : List Segment → List (ℕ × ℕ)
runs_of [] = []
runs_of (Fixed bit ∷ segments) = runs_of segments
runs_of (Operand count ∷ segments) = (count, width_of segments) ∷ runs_of segments

-- the operands that a halfword has in its runs
abbrev pub operands_in : List (ℕ × ℕ) → ℕ → List ℕ
operands_in [] w = []
operands_in ((count, behind) ∷ runs) w = w / 2 ^ behind % 2 ^ count ∷ operands_in runs w

-- A halfword of an operation: its pattern, the patterns that are left out of it, and the operands for its runs.
pub record Halfword : Type 0 where
  pub pattern : List Segment
  pub left_out : List (List Segment)
  pub operands : List ℕ

abbrev pub read : String → List Segment
read pattern = segments_of (codes pattern)

abbrev pub bits_but : List String → String → List ℕ → Halfword
bits_but others pattern operands = record { pattern = read pattern; left_out = map read others; operands = operands }

abbrev pub bits : String → List ℕ → Halfword
bits pattern operands = bits_but [] pattern operands

-- the halfwords of an operation: a 16-bit instruction has no second one
pub record Encoding : Type 0 where
  pub first : Halfword
  pub second : Option Halfword
