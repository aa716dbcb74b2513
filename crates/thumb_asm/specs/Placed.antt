-- What an item is at an address: its size, its bytes and its faults (ARMv6-M Architecture Reference Manual, A6.7.6 ADR, A6.7.10 B,
-- A6.7.13 BL, A6.7.27 LDR literal; the directives and the order of faults are the project's own). Where a name is not defined its
-- address counts as 0, and the line has a fault.
use Rattle.std.specs.Prelude.{ℕ, ◌+◌, ◌-◌, ◌*◌, ◌/◌, ◌%◌, Bool, true, false, not, ◌==◌, ◌&&◌, ◌||◌, nat_lt, nat_le, if◌then◌else◌, List, [], ◌∷◌, ◌++◌, length, replicate, Option, None, Some, is_none}
use Rattle.std.specs.Option.{option_map_or}
use Rattle.rp_base.specs.declared.op.Op.{Op}
use Rattle.rp_base.specs.declared.op.Op.TheVariants.{LdrLit, Adr, B, Bl, BCond}
use Rattle.thumb_words.specs.declared.halfwords.Code.{Code}
use Rattle.thumb_words.specs.Codes.{code_of}
use Rattle.thumb_parse.specs.declared.token.Span.{Span}
use Rattle.thumb_parse.specs.declared.token.Number.{Number}
use Rattle.thumb_parse.specs.declared.item.Item.{Item}
use Rattle.thumb_parse.specs.declared.item.Item.TheVariants.{Empty, Instruction, OutOfRange, WrongRegister, Literal, Address, Branch, Call, BranchIf, Word, WordAt, Half, Space, Align}

-- ---- bytes, from the lowest

abbrev pub half_bytes : ℕ → List ℕ
half_bytes h = h % 256 ∷ h / 256 ∷ []

abbrev pub word_bytes : ℕ → List ℕ
word_bytes w = w % 256 ∷ w / 256 % 256 ∷ w / 65536 % 256 ∷ w / 16777216 ∷ []

abbrev pub code_bytes : Code → List ℕ
code_bytes code = half_bytes code.first ++ option_map_or half_bytes code.second []

-- the bytes of an operation
unfoldable pub op_bytes : Op → List ℕ
op_bytes op = option_map_or code_bytes (code_of op) []

-- ---- sizes

-- how many zeros bring an address to a multiple of 4
abbrev pub padding : ℕ → ℕ
padding address = (4 - address % 4) % 4

abbrev pub size_at : ℕ → Item → ℕ
size_at address Empty = 0
size_at address (Instruction op) = length (op_bytes op)
size_at address (OutOfRange size) = size
size_at address (WrongRegister size) = size
size_at address (Literal t name) = 2
size_at address (Address d name) = 2
size_at address (Branch name) = 2
size_at address (Call name) = 4
size_at address (BranchIf condition name) = 2
size_at address (Word k) = 4
size_at address (WordAt name k) = 4
size_at address (Half k) = 2
size_at address (Space k) = k
size_at address Align = padding address

-- ---- distances

-- PC, two instructions on, and PC at a multiple of 4
abbrev pub pc_at : ℕ → ℕ
pc_at address = address + 4

abbrev pub aligned_pc : ℕ → ℕ
aligned_pc address = pc_at address / 4 * 4

-- a literal or an address is 0 to 1020 ahead
abbrev pub is_ahead : ℕ → ℕ → Bool
is_ahead address target = nat_le (aligned_pc address) target && nat_le target (aligned_pc address + 1020)

abbrev pub words_ahead : ℕ → ℕ → ℕ
words_ahead address target = (target - aligned_pc address) / 4 % 256

-- a branch at an even address goes from so far back to so far ahead by halfwords
abbrev pub is_near : ℕ → ℕ → ℕ → ℕ → Bool
is_near back ahead address target =
    address % 2 == 0 && target % 2 == 0 && nat_le (pc_at address) (target + back) && nat_le target (pc_at address + ahead)

-- the distance of a branch in halfwords, modulo this even number of them
abbrev pub halfwords : ℕ → ℕ → ℕ → ℕ
halfwords modulus address target = (target + modulus * 2 - pc_at address) / 2 % modulus

-- a number of `.word name+k` is from -2^31 to 2^32 - 1
abbrev pub is_word : ℕ → Number → Bool
is_word target k = nat_le (target + k.up) (0xFFFF_FFFF + k.down) && nat_le k.down (target + k.up + 0x8000_0000)

-- its value, modulo 2^32
abbrev pub word_value : ℕ → Number → ℕ
word_value target k = (target + k.up + 0x1_0000_0000 - k.down) % 0x1_0000_0000

-- ---- operations

-- BL by its distance in halfwords modulo 2^24: S, and J1 and J2, which are the next two bits where S is 1 and their opposites else
abbrev pub call_by : ℕ → Op
call_by distance =
    if nat_lt distance 0x80_0000 then Bl false (distance % 0x20_0000) (3 - distance / 0x20_0000 % 4)
    else Bl true (distance % 0x20_0000) (distance / 0x20_0000 % 4)

-- the operation of an item at an address, where its name is defined at another
abbrev pub op_at : ℕ → ℕ → Item → Option Op
op_at address target (Instruction op) = Some op
op_at address target (Literal t name) = Some (LdrLit t (words_ahead address target))
op_at address target (Address d name) = Some (Adr d (words_ahead address target))
op_at address target (Branch name) = Some (B (halfwords 2048 address target))
op_at address target (Call name) = Some (call_by (halfwords 0x100_0000 address target))
op_at address target (BranchIf condition name) = Some (BCond condition (halfwords 256 address target))
op_at address target item = None

-- the bytes of an item at an address
abbrev pub bytes_at : ℕ → ℕ → Item → List ℕ
bytes_at address target (Word k) = word_bytes k
bytes_at address target (WordAt name k) = word_bytes (word_value target k)
bytes_at address target (Half k) = half_bytes k
bytes_at address target (Space k) = replicate k 0
bytes_at address target Align = replicate (padding address) 0
bytes_at address target item = option_map_or op_bytes (op_at address target item) []

-- ---- faults

-- the name that an item has
abbrev pub name_of : Item → Option Span
name_of (Literal t name) = Some name
name_of (Address d name) = Some name
name_of (Branch name) = Some name
name_of (Call name) = Some name
name_of (BranchIf condition name) = Some name
name_of (WordAt name k) = Some name
name_of item = None

-- a number or a distance is out of its range
abbrev pub is_out_of_range : ℕ → ℕ → Item → Bool
is_out_of_range address target (OutOfRange size) = true
is_out_of_range address target (Literal t name) = not (is_ahead address target)
is_out_of_range address target (Address d name) = not (is_ahead address target)
is_out_of_range address target (Branch name) = not (is_near 2048 2046 address target)
is_out_of_range address target (Call name) = not (is_near 0x100_0000 0xFF_FFFE address target)
is_out_of_range address target (BranchIf condition name) = not (is_near 256 254 address target)
is_out_of_range address target (WordAt name k) = not (is_word target k)
is_out_of_range address target item = false

abbrev pub is_marked : Item → Bool
is_marked (WrongRegister size) = true
is_marked item = false

abbrev pub has_no_code : Option Op → Bool
has_no_code (Some op) = is_none (code_of op)
has_no_code None = false

-- a register or a list does not fit its form, or the operation has no encoding
abbrev pub is_wrong_register : ℕ → ℕ → Item → Bool
is_wrong_register address target item = is_marked item || has_no_code (op_at address target item)

-- a word at an address that is no multiple of 4, an instruction or a half at an odd one, a literal or an address of no multiple of 4
abbrev pub is_misaligned : ℕ → ℕ → Item → Bool
is_misaligned address target (Instruction op) = not (address % 2 == 0)
is_misaligned address target (Literal t name) = not (address % 2 == 0) || not (target % 4 == 0)
is_misaligned address target (Address d name) = not (address % 2 == 0) || not (target % 4 == 0)
is_misaligned address target (Word k) = not (address % 4 == 0)
is_misaligned address target (WordAt name k) = not (address % 4 == 0)
is_misaligned address target (Half k) = not (address % 2 == 0)
is_misaligned address target item = false
