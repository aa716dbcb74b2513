-- The special registers by their number SYSm (ARMv6-M Architecture Reference Manual, B5.1.1, MRS and MSR). Those that are
-- not named read 0 and ignore writes; IPSR is never written.
use Rattle.std.specs.Prelude.{ℕ, ◌+◌, ◌*◌, ◌/◌, ◌%◌, ◌||◌, ◌==◌, nat_lt, if◌then◌else◌}
use Rattle.rp_base.specs.Word.{bit_number, has_bit}
use Rattle.m0_beats.specs.declared.registers.Regs.{Regs}
use Rattle.m0_beats.specs.Registers.{is_thread, flags_word, ipsr_word, with_flags_word}

-- 0 to 3 are the flags, with IPSR for 1 and 3; EPSR reads 0
abbrev pub special_of : Regs → ℕ → ℕ
special_of s number =
    if nat_lt number 4 then flags_word s + (if number % 2 == 1 then ipsr_word s else 0) else
    if number == 5 || number == 7 then ipsr_word s else
    if number == 8 then s.msp else
    if number == 9 then s.psp else
    if number == 16 then bit_number s.primask else
    if number == 20 then bit_number s.spsel * 2 else 0

-- SPSEL, bit 1 of CONTROL, is written in Thread mode alone
abbrev pub with_special : Regs → ℕ → ℕ → Regs
with_special s number value =
    if nat_lt number 4 then with_flags_word s value else
    if number == 8 then record s { msp = value / 4 * 4 } else
    if number == 9 then record s { psp = value / 4 * 4 } else
    if number == 16 then record s { primask = has_bit value 0 } else
    if number == 20 then (if is_thread s then record s { spsel = has_bit value 1 } else s) else s
