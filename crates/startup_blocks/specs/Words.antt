-- The registers that start-up code waits for (RP2040 Datasheet, 2.15.7, 2.16.7, 2.18.4 and 4.7.6, Lists of Registers), by the
-- addresses of their blocks and their offsets after these. The state is a list of 46 words. No clock changes by them: an oscillator,
-- a PLL and a glitchless multiplexer are ready at once.
use Prim.Native.String.{String}
use Rattle.std.specs.Prelude.{ℕ, ◌+◌, ◌*◌, ◌/◌, ◌%◌, ◌^◌, ◌==◌, Bool, false, if◌then◌else◌, List, [], ◌∷◌, Option, None, Some, slice_index, slice_set, ⊤}
use Rattle.rp_base.specs.Alias.{aliased, or_zero}
use Rattle.rp_base.specs.Rows.{Row, read_only, read_write, word_at, has_row, effect_at, IsListed}

-- a word that is kept as it is written, by its place in the state
abbrev pub kept : ℕ → String → ℕ → Row ⊤ (List ℕ)
kept offset name n = read_write offset name (λ s. slice_index s n) (λ w s. slice_set s n w)

-- ---- CLOCKS, at 40008000: the selected source of the glitchless multiplexers of CLK_REF and CLK_SYS is that of SRC in CTRL, as one bit;
-- the others have no such multiplexer, and read 1

abbrev pub clocks_rows : List (Row ⊤ (List ℕ))
clocks_rows =
    kept 0x00 "CLK_GPOUT0_CTRL" 0
    ∷ kept 0x04 "CLK_GPOUT0_DIV" 1
    ∷ read_only 0x08 "CLK_GPOUT0_SELECTED" (λ s. 1)
    ∷ kept 0x0c "CLK_GPOUT1_CTRL" 3
    ∷ kept 0x10 "CLK_GPOUT1_DIV" 4
    ∷ read_only 0x14 "CLK_GPOUT1_SELECTED" (λ s. 1)
    ∷ kept 0x18 "CLK_GPOUT2_CTRL" 6
    ∷ kept 0x1c "CLK_GPOUT2_DIV" 7
    ∷ read_only 0x20 "CLK_GPOUT2_SELECTED" (λ s. 1)
    ∷ kept 0x24 "CLK_GPOUT3_CTRL" 9
    ∷ kept 0x28 "CLK_GPOUT3_DIV" 10
    ∷ read_only 0x2c "CLK_GPOUT3_SELECTED" (λ s. 1)
    ∷ kept 0x30 "CLK_REF_CTRL" 12
    ∷ kept 0x34 "CLK_REF_DIV" 13
    ∷ read_only 0x38 "CLK_REF_SELECTED" (λ s. 2 ^ (slice_index s 12 % 4))
    ∷ kept 0x3c "CLK_SYS_CTRL" 15
    ∷ kept 0x40 "CLK_SYS_DIV" 16
    ∷ read_only 0x44 "CLK_SYS_SELECTED" (λ s. 2 ^ (slice_index s 15 % 2))
    ∷ kept 0x48 "CLK_PERI_CTRL" 18
    ∷ kept 0x4c "CLK_PERI_DIV" 19
    ∷ read_only 0x50 "CLK_PERI_SELECTED" (λ s. 1)
    ∷ kept 0x54 "CLK_USB_CTRL" 21
    ∷ kept 0x58 "CLK_USB_DIV" 22
    ∷ read_only 0x5c "CLK_USB_SELECTED" (λ s. 1)
    ∷ kept 0x60 "CLK_ADC_CTRL" 24
    ∷ kept 0x64 "CLK_ADC_DIV" 25
    ∷ read_only 0x68 "CLK_ADC_SELECTED" (λ s. 1)
    ∷ kept 0x6c "CLK_RTC_CTRL" 27
    ∷ kept 0x70 "CLK_RTC_DIV" 28
    ∷ read_only 0x74 "CLK_RTC_SELECTED" (λ s. 1)
    ∷ kept 0x78 "CLK_SYS_RESUS_CTRL" 30
    ∷ kept 0x7c "CLK_SYS_RESUS_STATUS" 31
    ∷ []

-- ---- XOSC, at 40024000: STABLE (bit 31) and ENABLED (bit 12)

abbrev pub xosc_rows : List (Row ⊤ (List ℕ))
xosc_rows =
    kept 0x00 "CTRL" 32
    ∷ read_only 0x04 "STATUS" (λ s. 0x80001000)
    ∷ kept 0x08 "DORMANT" 34
    ∷ kept 0x0c "STARTUP" 35
    ∷ kept 0x1c "COUNT" 36
    ∷ []

-- ---- PLL_SYS, at 40028000, and PLL_USB, at 4002C000, by the place of their first word: LOCK is bit 31 of CS, which keeps bits 8:0

abbrev pub pll_rows : ℕ → List (Row ⊤ (List ℕ))
pll_rows first =
    read_write 0x00 "CS" (λ s. 0x80000000 + slice_index s first % 2 ^ 9) (λ w s. slice_set s first (w % 2 ^ 9))
    ∷ kept 0x04 "PWR" (first + 1)
    ∷ kept 0x08 "FBDIV_INT" (first + 2)
    ∷ kept 0x0c "PRIM" (first + 3)
    ∷ []

-- ---- WATCHDOG, at 40058000: TICK keeps bits 9:0, and RUNNING (bit 10) is ENABLE (bit 9)

abbrev pub watchdog_rows : List (Row ⊤ (List ℕ))
watchdog_rows =
    read_write
    0x2c
    "TICK"
    (λ s. slice_index s 45 % 2 ^ 10 + slice_index s 45 / 2 ^ 9 % 2 * 2 ^ 10)
    (λ w s. slice_set s 45 (w % 2 ^ 10))
    ∷ []

-- ---- the words by their addresses

-- what is found of the rows of the block at a base, or where there is none
abbrev pub at_block : {A : Type 0} → A → (List (Row ⊤ (List ℕ)) → A) → ℕ → A
at_block none found base =
    if base == 0x40008000 then found clocks_rows
    else if base == 0x40024000 then found xosc_rows
    else if base == 0x40028000 then found (pll_rows 37)
    else if base == 0x4002c000 then found (pll_rows 41)
    else if base == 0x40058000 then found watchdog_rows
    else none

-- the block that has an address, with its aliases, and the offset of the word in it
abbrev pub base_of : ℕ → ℕ
base_of address = address / 2 ^ 14 * 2 ^ 14

abbrev pub offset_of : ℕ → ℕ
offset_of address = address % 2 ^ 12 / 4 * 4

-- what the word that has an address reads as; None where there is none
abbrev pub word_of : ℕ → List ℕ → Option ℕ
word_of address s = at_block None (λ rows. word_at rows tt (offset_of address) s) (base_of address)

-- there is a word at an address
abbrev pub is_word : ℕ → Bool
is_word address = at_block false (λ rows. has_row rows (offset_of address)) (base_of address)

-- what a write of a word does
abbrev pub written : ℕ → ℕ → List ℕ → List ℕ
written address w s = at_block s (λ rows. effect_at rows (offset_of address) (Some w) s) (base_of address)

-- ---- accesses (2.1.2, Atomic Register Access)

abbrev pub read_at : ℕ → List ℕ → ℕ
read_at address s = or_zero (word_of address s)

abbrev pub write_at : ℕ → ℕ → List ℕ → List ℕ
write_at address value s = written address (aliased (address / 2 ^ 12 % 4) (read_at address s) value) s

-- each register is what stands at its offset, and nothing stands at any other
pub record EachRegisterIsAtItsOffset : Type 0 where
  pub clocks : IsListed clocks_rows
  pub xosc : IsListed xosc_rows
  pub pll_sys : IsListed (pll_rows 37)
  pub pll_usb : IsListed (pll_rows 41)
  pub watchdog : IsListed watchdog_rows
