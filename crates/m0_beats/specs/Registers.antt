-- Registers and flags, and the words that they are read and written as (ARMv6-M Architecture Reference Manual, B1.4).
use Rattle.std.specs.Prelude.{ℕ, ◌+◌, ◌*◌, ◌/◌, ◌%◌, ◌^◌, Bool, ◌&&◌, ◌==◌, nat_lt, if◌then◌else◌, List, [], ◌∷◌, ◌++◌, slice_index, slice_set}
use Rattle.rp_base.specs.Word.{bit_number, has_bit, is_negative_word, is_zero_word}
use Rattle.m0_beats.specs.declared.registers.Regs.{Regs}

-- Thread mode is the mode of no exception
abbrev pub is_thread : Regs → Bool
is_thread s = s.ipsr == 0

-- the process stack pointer serves in Thread mode alone
abbrev pub sp_of : Regs → ℕ
sp_of s = if is_thread s && s.spsel then s.psp else s.msp

-- what an instruction reads as PC
abbrev pub pc_of : Regs → ℕ
pc_of s = (s.pc + 4) % 2 ^ 32

-- a register by its number (A5.1.2): R0 to R12, SP, LR, PC
abbrev pub register_of : Regs → ℕ → ℕ
register_of s k =
    if nat_lt k 13 then slice_index s.r k else if k == 13 then sp_of s else if k == 14 then s.lr else pc_of s

-- the two low bits of a stack pointer are 0
abbrev pub with_sp : Regs → ℕ → Regs
with_sp s value =
    if is_thread s && s.spsel then record s { psp = value / 4 * 4 } else record s { msp = value / 4 * 4 }

-- a branch clears bit 0 and stays in its state (BranchWritePC)
abbrev pub with_pc : Regs → ℕ → Regs
with_pc s value = record s { pc = value / 2 * 2 }

-- a register by its number takes a word (A5.1.2)
abbrev pub with_register : Regs → ℕ → ℕ → Regs
with_register s k value =
    if nat_lt k 13 then record s { r = slice_set s.r k value } else
    if k == 13 then with_sp s value else
    if k == 14 then record s { lr = value } else with_pc s value

-- the next instruction, this one having so many bytes
abbrev pub moved_on : Regs → ℕ → Regs
moved_on s bytes = record s { pc = (s.pc + bytes) % 2 ^ 32 }

-- the flags N and Z of a word
abbrev pub with_sign : Regs → ℕ → Regs
with_sign s value = record s { n = is_negative_word value; z = is_zero_word value }

-- the flags as the high bits of a word: N, Z, C and V are bits 31 to 28 (B1.4.2, APSR)
abbrev pub flags_word : Regs → ℕ
flags_word s =
    bit_number s.n * 2 ^ 31 + bit_number s.z * 2 ^ 30 + bit_number s.c * 2 ^ 29 + bit_number s.v * 2 ^ 28

abbrev pub with_flags_word : Regs → ℕ → Regs
with_flags_word s value =
    record s { n = has_bit value 31; z = has_bit value 30; c = has_bit value 29; v = has_bit value 28 }

-- the number of the exception in progress has six bits (B1.4.2, IPSR)
abbrev pub ipsr_word : Regs → ℕ
ipsr_word s = s.ipsr % 2 ^ 6

-- the whole program status register; T is bit 24 (B1.4.2, XPSR)
abbrev pub xpsr_of : Regs → ℕ
xpsr_of s = flags_word s + bit_number s.t * 2 ^ 24 + ipsr_word s

-- R0 to R12, the active stack pointer, LR, PC and XPSR
abbrev pub register_words : Regs → List ℕ
register_words s = s.r ++ sp_of s ∷ s.lr ∷ s.pc ∷ xpsr_of s ∷ []
