-- The registers of the PWM block (RP2040 Datasheet, 4.5.3, List of Registers), by their offsets after 40050000.
use Rattle.std.specs.Prelude.{ℕ, ◌+◌, ◌*◌, ◌/◌, ◌%◌, ◌^◌, Bool, ◌==◌, if◌then◌else◌, List, [], ◌∷◌, ◌++◌, Some, ⊤}
use Rattle.rp_base.specs.Alias.{aliased, or_zero}
use Rattle.rp_base.specs.Rows.{Row, read_only, read_write, repeated, word_at, effect_at, IsListed}
use Rattle.rp_base.specs.Word.{minus, bit_number, has_bit}
use Rattle.pwm_block.specs.State.{Slice, State, slice_at, is_enabled, shown_of}
use Rattle.pwm_block.specs.Step.{numbered}
use Rattle.pwm_block.specs.Outputs.{enabled_of}

-- ---- what a write makes of a slice

abbrev pub with_csr : ℕ → Slice → Slice
with_csr w s = record s { csr = w % 2 ^ 6 }

abbrev pub with_div : ℕ → Slice → Slice
with_div w s = record s { div = w % 2 ^ 12 }

abbrev pub with_ctr : ℕ → Slice → Slice
with_ctr w s = record s { ctr = w % 2 ^ 16 }

-- CC and TOP count from the next wrap on; at once where the slice is not enabled
abbrev pub with_cc : ℕ → Slice → Slice
with_cc w s = record s { cc = w; live_cc = if is_enabled s then s.live_cc else w }

abbrev pub with_top : ℕ → Slice → Slice
with_top w s = record s { top = w % 2 ^ 16; live_top = if is_enabled s then s.live_top else w % 2 ^ 16 }

-- bit n of EN is EN of slice n
abbrev pub with_enable : ℕ → ℕ → Slice → Slice
with_enable w n s = record s { csr = s.csr / 2 * 2 + bit_number (has_bit w n) }

-- the slice of a number alone
abbrev pub only : ℕ → (Slice → Slice) → ℕ → Slice → Slice
only number g n s = if n == number then g s else s

abbrev pub with_slices : (ℕ → Slice → Slice) → State → State
with_slices f b = record b { slices = numbered f 0 b.slices }

-- ---- the rows

abbrev pub slice_rows : List (Row ⊤ State)
slice_rows =
    repeated 8 20 (λ n. read_write 0x00 "CHn_CSR" (λ b. (slice_at b n).csr) (λ w. with_slices (only n (with_csr w))))
    ∷ repeated 8 20 (λ n. read_write 0x04 "CHn_DIV" (λ b. (slice_at b n).div) (λ w. with_slices (only n (with_div w))))
    ∷ repeated 8 20 (λ n. read_write 0x08 "CHn_CTR" (λ b. (slice_at b n).ctr) (λ w. with_slices (only n (with_ctr w))))
    ∷ repeated 8 20 (λ n. read_write 0x0c "CHn_CC" (λ b. (slice_at b n).cc) (λ w. with_slices (only n (with_cc w))))
    ∷ repeated 8 20 (λ n. read_write 0x10 "CHn_TOP" (λ b. (slice_at b n).top) (λ w. with_slices (only n (with_top w))))
    ∷ []

-- a 1 written to INTR clears
abbrev pub block_rows : List (Row ⊤ State)
block_rows =
    read_write 0xa0 "EN" (λ b. enabled_of b) (λ w. with_slices (with_enable w))
    ∷ read_write 0xa4 "INTR" (λ b. b.raised) (λ w b. record b { raised = minus b.raised w })
    ∷ read_write 0xa8 "INTE" (λ b. b.enabled) (λ w b. record b { enabled = w % 2 ^ 8 })
    ∷ read_write 0xac "INTF" (λ b. b.forced) (λ w b. record b { forced = w % 2 ^ 8 })
    ∷ read_only 0xb0 "INTS" (λ b. shown_of b)
    ∷ []

-- PH_RET and PH_ADV of CSR are left out
abbrev pub pwm_rows : List (Row ⊤ State)
pwm_rows = slice_rows ++ block_rows

abbrev pub EachRegisterIsAtItsOffset : Type 0
EachRegisterIsAtItsOffset = IsListed pwm_rows

-- ---- accesses, by addresses (2.1.2, Atomic Register Access)

-- the block, with its aliases, is at 40050000 to 40053fff
abbrev pub is_pwm : ℕ → Bool
is_pwm address = address / 2 ^ 14 == 0x40050000 / 2 ^ 14

-- the offset of the word that has an address
abbrev pub offset_of : ℕ → ℕ
offset_of address = address % 2 ^ 12 / 4 * 4

abbrev pub read_at : ℕ → State → ℕ
read_at address b = or_zero (word_at pwm_rows tt (offset_of address) b)

abbrev pub write_at : ℕ → ℕ → State → State
write_at address value b =
    effect_at pwm_rows (offset_of address) (Some (aliased (address / 2 ^ 12 % 4) (read_at address b) value)) b
