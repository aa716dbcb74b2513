-- The way from an operation to its halfwords (ARMv6-M Architecture Reference Manual, A5.2 "16-bit Thumb instruction encoding" and A5.3
-- "32-bit Thumb instruction encoding"): the patterns of the table of instructions, with the operands in the places of their letters.
use Rattle.std.specs.Prelude.{ℕ, ◌+◌, ◌*◌, ◌^◌, ◌≡◌, ◌&&◌, nat_lt, not, Bool, false, if◌then◌else◌, List, [], ◌∷◌, Option, Some, None, is_some}
use Rattle.std.specs.Option.{option_map_or}
use Rattle.rp_base.specs.declared.op.Op.{Op}
use Rattle.m0_beats.specs.Patterns.{Halfword, runs_of, value_of}
use Rattle.m0_beats.specs.Instructions.{encoding_of}
use Rattle.thumb_rows.specs.Rows.{begins_long, is_left_out, operation_of, test_of}
use Rattle.thumb_words.specs.declared.halfwords.Code.{Code}

-- each operand fits the count of its letters, there is one for each run, and one more test passes
abbrev pub all_fit : List (ℕ × ℕ) → List ℕ → Bool → Bool
all_fit [] [] test = test
all_fit [] (x ∷ xs) test = false
all_fit ((count, behind) ∷ runs) [] test = false
all_fit ((count, behind) ∷ runs) (x ∷ xs) test = nat_lt x (2 ^ count) && all_fit runs xs test

-- the operands in their places
abbrev pub placed : List (ℕ × ℕ) → List ℕ → ℕ
placed [] xs = 0
placed (run ∷ runs) [] = 0
placed ((count, behind) ∷ runs) (x ∷ xs) = x * 2 ^ behind + placed runs xs

abbrev pub filled : Halfword → ℕ
filled h = value_of h.pattern + placed (runs_of h.pattern) h.operands

-- the operands fit, and the row does not leave out what they come to
abbrev pub can_hold : Halfword → Bool
can_hold h = all_fit (runs_of h.pattern) h.operands (not (is_left_out (test_of h) (filled h)))

abbrev pub coded : Bool → Code → Option Code
coded fits code = if fits then Some code else None

abbrev pub code_by : Halfword → Option Halfword → Option Code
code_by h None = coded (can_hold h) (record { first = filled h; second = None })
code_by h (Some k) = coded (can_hold h && can_hold k) (record { first = filled h; second = Some (filled k) })

-- the halfwords of an operation; None where a field does not fit its letters, or the row leaves it out
unfoldable pub code_of : Op → Option Code
code_of op = option_map_or (λ e. code_by e.first e.second) (encoding_of op) None

-- the fields of an operation fit
abbrev pub fits : Op → Bool
fits op = is_some (code_of op)

-- ## The law

-- one or two halfwords are those of an operation by the table of encodings; after a 16-bit instruction may stand anything
abbrev pub DecodesTo : ℕ → Option ℕ → Op → Type 0
DecodesTo first None op = (second : ℕ) → operation_of first second ≡ op
DecodesTo first (Some second) op = operation_of first second ≡ op

pub record IsCodeOf (op : Op) (code : Code) : Type 0 where
  pub operation : DecodesTo code.first code.second op
  pub long : begins_long code.first ≡ is_some code.second

-- the halfwords of an operation are decoded to that operation
abbrev pub CodesDecode : Type 0
CodesDecode = (op : Op) (code : Code) → code_of op ≡ Some code → IsCodeOf op code
