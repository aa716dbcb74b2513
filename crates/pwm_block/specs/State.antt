-- The PWM block (RP2040 Datasheet, 4.5, PWM): eight slices, each a counter of 16 bits with two outputs, A and B.
use Rattle.std.specs.Prelude.{ℕ, ◌+◌, ◌*◌, ◌/◌, ◌%◌, ◌^◌, Bool, false, ◌==◌, if◌then◌else◌, List, replicate, slice_index_or, bit_and, bit_or}
use Rattle.rp_base.specs.Word.{has_bit}

pub record Slice : Type 0 where
  -- CSR: EN, PH_CORRECT, A_INV and B_INV in bits 0 to 3, DIVMODE in bits 5:4
  pub csr : ℕ
  -- DIV: INT in bits 11:4, FRAC in bits 3:0
  pub div : ℕ
  -- CTR
  pub ctr : ℕ
  -- CC and TOP as they were written; A is in bits 15:0 of CC, and B in bits 31:16
  pub cc : ℕ
  pub top : ℕ
  -- CC and TOP as they count: the written ones from a wrap on
  pub live_cc : ℕ
  pub live_top : ℕ
  -- with PH_CORRECT: it counts down
  pub down : Bool
  -- the divider: the sixteenths of a cycle that are gathered for the next count
  pub acc : ℕ

pub record State : Type 0 where
  -- slices 0 to 7
  pub slices : List Slice
  -- the levels of the pads in the last cycle, pad 0 in bit 0
  pub last : ℕ
  -- INTR, INTE and INTF, slice n in bit n
  pub raised : ℕ
  pub enabled : ℕ
  pub forced : ℕ

abbrev pub slice_at_reset : Slice
slice_at_reset =
    record { csr = 0; div = 0x10; ctr = 0; cc = 0; top = 0xffff; live_cc = 0; live_top = 0xffff; down = false; acc = 0 }

abbrev pub at_reset : State
at_reset = record { slices = replicate 8 slice_at_reset; last = 0; raised = 0; enabled = 0; forced = 0 }

abbrev pub slice_at : State → ℕ → Slice
slice_at b n = slice_index_or b.slices n slice_at_reset

-- ---- the fields of CSR and DIV

abbrev pub is_enabled : Slice → Bool
is_enabled s = has_bit s.csr 0

abbrev pub is_phase_correct : Slice → Bool
is_phase_correct s = has_bit s.csr 1

abbrev pub mode_of : Slice → ℕ
mode_of s = s.csr / 2 ^ 4 % 4

-- the sixteenths of a count: an INT of 0 stands for 256
abbrev pub divisor_of : Slice → ℕ
divisor_of s = (if s.div / 2 ^ 4 % 2 ^ 8 == 0 then 256 else s.div / 2 ^ 4 % 2 ^ 8) * 16 + s.div % 2 ^ 4

-- INTS
abbrev pub shown_of : State → ℕ
shown_of b = bit_or (bit_and b.raised b.enabled) b.forced
