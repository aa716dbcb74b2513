-- The divider of a core (RP2040 Datasheet, 2.3.1.5, Integer Divider, and 2.3.1.7). The unsigned and the signed words of an
-- operand are the same operand; which of them was written last decides how the operands are read.
use Rattle.std.specs.Prelude.{ℕ, ◌+◌, ◌-◌, ◌*◌, ◌^◌, Bool, true, false, ◌&&◌, ◌==◌, ℤ, pos, if◌then◌else◌, List, [], ◌∷◌, Option, Some, None, ⊤}
use Rattle.std.specs.Int.{cast_signed, w32}
use Rattle.std.specs.Int.RustNames.{int_div, int_rem}
use Rattle.rp_base.specs.Word.{word_of, bit_number, is_negative_word}
use Rattle.rp_base.specs.Rows.{Row, register, read_only, read_write, word_at, effect_at}
use Rattle.sio_block.specs.declared.divider.Divider.{Divider}

-- at reset no division is going on
abbrev pub divider_at_reset : Divider
divider_at_reset =
    record { dividend = 0; divisor = 0; signed = false; quotient = 0; remainder = 0; left = 0; dirty = false }

-- the number that an operand stands for
abbrev pub number_of : Bool → ℕ → ℤ
number_of signed w = if signed then cast_signed w32 w else pos w

-- the exact quotient and the remainder, where the quotient is truncated towards zero. The quotient by 0 is all ones, which is
-- -1 for a signed dividend that is not negative, and 1 for a negative one; the remainder is the dividend.
abbrev pub quotient_of : Divider → ℕ
quotient_of d =
    if d.divisor == 0
    then (if d.signed && is_negative_word d.dividend then 1 else 2 ^ 32 - 1)
    else word_of (int_div (number_of d.signed d.dividend) (number_of d.signed d.divisor))

abbrev pub remainder_of : Divider → ℕ
remainder_of d =
    if d.divisor == 0
    then d.dividend
    else word_of (int_rem (number_of d.signed d.dividend) (number_of d.signed d.divisor))

-- READY and DIRTY
abbrev pub csr_of : Divider → ℕ
csr_of d = bit_number (d.left == 0) + bit_number d.dirty * 2

-- a division begins, also where one was going on; it takes 8 cycles, that of the write among them
abbrev pub begun : Bool → Divider → Divider
begun signed d = record d { signed = signed; left = 8; dirty = true }

-- a result is written, which ends a division
abbrev pub ended_by_write : Divider → Divider
ended_by_write d = record d { left = 0; dirty = true }

-- the operands, the results, of which a read of the quotient clears DIRTY, and the status
abbrev pub divider_rows : List (Row ⊤ Divider)
divider_rows =
    read_write 0x060 "DIV_UDIVIDEND" (λ d. d.dividend) (λ w d. begun false (record d { dividend = w }))
    ∷ read_write 0x064 "DIV_UDIVISOR" (λ d. d.divisor) (λ w d. begun false (record d { divisor = w }))
    ∷ read_write 0x068 "DIV_SDIVIDEND" (λ d. d.dividend) (λ w d. begun true (record d { dividend = w }))
    ∷ read_write 0x06c "DIV_SDIVISOR" (λ d. d.divisor) (λ w d. begun true (record d { divisor = w }))
    ∷ register 0x070 "DIV_QUOTIENT" (λ seen d. d.quotient) (λ d. record d { dirty = false }) (λ w d. ended_by_write (record d { quotient = w }))
    ∷ read_write 0x074 "DIV_REMAINDER" (λ d. d.remainder) (λ w d. ended_by_write (record d { remainder = w }))
    ∷ read_only 0x078 "DIV_CSR" (λ d. csr_of d)
    ∷ []

abbrev pub divider_word : ℕ → Divider → Option ℕ
divider_word offset d = word_at divider_rows tt offset d

abbrev pub divider_written : ℕ → ℕ → Divider → Divider
divider_written offset w d = effect_at divider_rows offset (Some w) d

abbrev pub divider_read : ℕ → Divider → Divider
divider_read offset d = effect_at divider_rows offset None d

-- the results appear at the end of the last cycle; until then the old ones stay
abbrev pub divider_ended : Divider → Divider
divider_ended d =
    if d.left == 0 then d else
    if d.left == 1
    then record d { quotient = quotient_of d; remainder = remainder_of d; left = 0 }
    else record d { left = d.left - 1 }
