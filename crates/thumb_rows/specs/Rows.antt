-- The table of encodings: the patterns of the table of instructions, by which halfwords are decoded (ARMv6-M Architecture
-- Reference Manual, A5.2 "16-bit Thumb instruction encoding" and A5.3 "32-bit Thumb instruction encoding").
use Rattle.std.specs.Prelude.{ℕ, Bool, true, false, List, [], ◌∷◌, ◌++◌, Option, Some, None, ◌≡◌, ◌+◌, ◌-◌, ◌*◌, ◌/◌, ◌%◌, ◌^◌, ◌<◌, ◌==◌, ◌&&◌, ◌||◌, not, if◌then◌else◌, bit_and, filter, filter_map, length, map, slice_index}
use Rattle.std.specs.List.{list_any}
use Rattle.std.specs.Option.{option_map, option_map_or}
use Rattle.rp_base.specs.declared.op.Op.{Op}
use Rattle.rp_base.specs.declared.op.Op.TheVariants.{LslImm, LsrImm, AsrImm, AddReg, SubReg, AddImm3, SubImm3, MovImm, CmpImm, AddImm8, SubImm8, And, Eor, LslReg, LsrReg, AsrReg, Adc, Sbc, Ror, Tst, Rsb, Cmp, Cmn, Orr, Mul, Bic, Mvn, AddHigh, CmpHigh, MovHigh, Bx, Blx, LdrLit, StrReg, StrhReg, StrbReg, LdrsbReg, LdrReg, LdrhReg, LdrbReg, LdrshReg, StrImm, LdrImm, StrbImm, LdrbImm, StrhImm, LdrhImm, StrSp, LdrSp, Adr, AddSp, AddSpImm, SubSpImm, Sxth, Sxtb, Uxth, Uxtb, Push, Cpsie, Cpsid, Rev, Rev16, Revsh, Pop, Bkpt, Nop, Yield, Wfe, Wfi, Sev, Stm, Ldm, BCond, Udf, Svc, B, Bl, Msr, Mrs, Dsb, Dmb, Isb, Undefined}
use Rattle.m0_beats.specs.Patterns.{Encoding, Halfword, mask_of, operands_in, runs_of, value_of}
use Rattle.m0_beats.specs.Instructions.{encoding_of}

-- bits high to low of a halfword, as a number
abbrev pub field : ℕ → ℕ → ℕ → ℕ
field w high low = w / 2 ^ low % 2 ^ (high + 1 - low)

-- ---- tests

-- The test of one halfword: a pattern fits, and none of the patterns that are left out does.
pub record Half : Type 0 where
  pub mask : ℕ
  pub value : ℕ
  pub left_out : List (ℕ × ℕ)

abbrev pub is_left_out : Half → ℕ → Bool
is_left_out h w = list_any (λ o. bit_and w o.0 == o.1) h.left_out

abbrev pub half_fits : Half → ℕ → Bool
half_fits h w = (bit_and w h.mask == h.value) && not (is_left_out h w)

abbrev pub test_of : Halfword → Half
test_of h = record {
  mask = mask_of h.pattern;
  value = value_of h.pattern;
  left_out = map (λ o. (mask_of o, value_of o)) h.left_out;
}

-- ---- the rows

-- A row: the tests of the first and of the second halfword, and the operation with its operands.
pub record Row : Type 0 where
  pub first : Half
  pub second : Option Half
  pub operation : ℕ → ℕ → Op

abbrev pub operation_by_runs : (List ℕ → Op) → List (ℕ × ℕ) → List (ℕ × ℕ) → ℕ → ℕ → Op
operation_by_runs op runs others first second = op (operands_in runs first ++ operands_in others second)

-- the row of an encoding, with the operation of the operands that stand in its runs
abbrev pub row_of : (List ℕ → Op) → Encoding → Row
row_of op e = record {
  first = test_of e.first;
  second = option_map test_of e.second;
  operation = operation_by_runs op (runs_of e.first.pattern) (option_map_or (λ h. runs_of h.pattern) e.second []);
}

-- an entry of the table: an encoding, whose own operands count for nothing, and the operation of any operands
abbrev pub Entry : Type 0
Entry = Option Encoding × (List ℕ → Op)

-- the entry of an operation with so many operands
abbrev pub none : Op → Entry
none op = (encoding_of op, λ xs. op)

abbrev pub one : (ℕ → Op) → Entry
one op = (encoding_of (op 0), λ xs. op (slice_index xs 0))

abbrev pub two : (ℕ → ℕ → Op) → Entry
two op = (encoding_of (op 0 0), λ xs. op (slice_index xs 0) (slice_index xs 1))

abbrev pub three : (ℕ → ℕ → ℕ → Op) → Entry
three op = (encoding_of (op 0 0 0), λ xs. op (slice_index xs 0) (slice_index xs 1) (slice_index xs 2))

-- of one where bit 3 of a register stands alone
abbrev pub high : (ℕ → ℕ → Op) → Entry
high op = (encoding_of (op 0 0), λ xs. op (8 * slice_index xs 0 + slice_index xs 2) (slice_index xs 1))

-- of one with a list of registers, and one more
abbrev pub stack : (Bool → ℕ → Op) → Entry
stack op = (encoding_of (op false 0), λ xs. op (slice_index xs 0 == 1) (slice_index xs 1))

-- of BL
abbrev pub link : Entry
link = (
  encoding_of (Bl false 0 0),
  λ xs. Bl (slice_index xs 0 == 1) (slice_index xs 1 * 2 ^ 11 + slice_index xs 4)
      (2 * slice_index xs 2 + slice_index xs 3),
)

-- each operation once, in the order of the manual
abbrev pub table : List Entry
table =
    map three (LslImm ∷ LsrImm ∷ AsrImm ∷ AddReg ∷ SubReg ∷ AddImm3 ∷ SubImm3 ∷ [])
    ++ map two (MovImm ∷ CmpImm ∷ AddImm8 ∷ SubImm8 ∷ [])
    ++ map two (And ∷ Eor ∷ LslReg ∷ LsrReg ∷ AsrReg ∷ Adc ∷ Sbc ∷ Ror ∷ [])
    ++ map two (Tst ∷ Rsb ∷ Cmp ∷ Cmn ∷ Orr ∷ Mul ∷ Bic ∷ Mvn ∷ [])
    ++ map high (AddHigh ∷ CmpHigh ∷ MovHigh ∷ []) ++ map one (Bx ∷ Blx ∷ [])
    ++ map two (LdrLit ∷ [])
    ++ map three (StrReg ∷ StrhReg ∷ StrbReg ∷ LdrsbReg ∷ LdrReg ∷ LdrhReg ∷ LdrbReg ∷ LdrshReg ∷ [])
    ++ map three (StrImm ∷ LdrImm ∷ StrbImm ∷ LdrbImm ∷ StrhImm ∷ LdrhImm ∷ [])
    ++ map two (StrSp ∷ LdrSp ∷ Adr ∷ AddSp ∷ [])
    ++ map one (AddSpImm ∷ SubSpImm ∷ []) ++ map two (Sxth ∷ Sxtb ∷ Uxth ∷ Uxtb ∷ [])
    ++ map stack (Push ∷ []) ++ map none (Cpsie ∷ Cpsid ∷ []) ++ map two (Rev ∷ Rev16 ∷ Revsh ∷ [])
    ++ map stack (Pop ∷ []) ++ map one (Bkpt ∷ []) ++ map none (Nop ∷ Yield ∷ Wfe ∷ Wfi ∷ Sev ∷ [])
    ++ map two (Stm ∷ Ldm ∷ BCond ∷ []) ++ map one (Udf ∷ Svc ∷ B ∷ [])
    ++ link ∷ map two (Msr ∷ Mrs ∷ []) ++ map none (Dsb ∷ Dmb ∷ Isb ∷ [])

unfoldable pub rows : List Row
rows = filter_map (λ entry. option_map (row_of entry.1) entry.0) table

abbrev pub second_fits : Option Half → ℕ → Bool
second_fits None w = true
second_fits (Some h) w = half_fits h w

abbrev pub row_fits : Row → ℕ → ℕ → Bool
row_fits r first second = half_fits r.first first && second_fits r.second second

-- the operation of the row of a list that fits a pair; Undefined is the row of all the rest
abbrev pub operation_by : List Row → ℕ → ℕ → Op
operation_by [] first second = Undefined
operation_by
    (r ∷ rs) first second = if row_fits r first second then r.operation first second else operation_by rs first second

-- the operation of a pair of halfwords
unfoldable pub operation_of : ℕ → ℕ → Op
operation_of first second = operation_by rows first second

-- how many rows fit a pair, with Undefined, the row that fits where no other does
abbrev pub fitting : List Row → ℕ → ℕ → ℕ
fitting rs first second = let named = length (filter (λ r. row_fits r first second) rs) in named +
    (if named == 0 then 1 else 0)

-- for every pair of halfwords exactly one row fits
abbrev pub ExactlyOneFits : Type 0
ExactlyOneFits = (first second : ℕ) → first < 2 ^ 16 → second < 2 ^ 16 → fitting rows first second ≡ 1

-- a first halfword that begins 11101, 11110 or 11111 (29, 30 or 31) has a second one (A5.1)
abbrev pub begins_long : ℕ → Bool
begins_long first = let start = field first 15 11 in start == 29 || start == 30 || start == 31
