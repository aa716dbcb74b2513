-- The pins that software drives (RP2040 Datasheet, 2.3.1.2, GPIO Control, and 2.3.1.7, List of Registers): GPIO_OUT and GPIO_OE
-- have 30 bits, one for each pin. After each of the two come its SET, CLR and XOR words, which are written only and read as 0.
use Rattle.std.specs.Prelude.{ℕ, ◌%◌, ◌^◌, List, [], ◌∷◌, Option, Some, bit_or, bit_xor, ⊤}
use Rattle.rp_base.specs.Rows.{Row, read_write, write_only, word_at, effect_at}
use Rattle.sio_block.specs.declared.pins.Pins.{Pins}
use Rattle.rp_base.specs.Word.{minus}

-- at reset no pin is driven
abbrev pub pins_at_reset : Pins
pins_at_reset = record { out = 0; enable = 0 }

-- a word has a bit for each of 30 pins
abbrev pub pins_of : ℕ → ℕ
pins_of w = w % 2 ^ 30

abbrev pub pin_rows : List (Row ⊤ Pins)
pin_rows =
    read_write 0x010 "GPIO_OUT" (λ p. p.out) (λ w p. record p { out = pins_of w })
    ∷ write_only 0x014 "GPIO_OUT_SET" (λ w p. record p { out = bit_or p.out (pins_of w) })
    ∷ write_only 0x018 "GPIO_OUT_CLR" (λ w p. record p { out = minus p.out (pins_of w) })
    ∷ write_only 0x01c "GPIO_OUT_XOR" (λ w p. record p { out = bit_xor p.out (pins_of w) })
    ∷ read_write 0x020 "GPIO_OE" (λ p. p.enable) (λ w p. record p { enable = pins_of w })
    ∷ write_only 0x024 "GPIO_OE_SET" (λ w p. record p { enable = bit_or p.enable (pins_of w) })
    ∷ write_only 0x028 "GPIO_OE_CLR" (λ w p. record p { enable = minus p.enable (pins_of w) })
    ∷ write_only 0x02c "GPIO_OE_XOR" (λ w p. record p { enable = bit_xor p.enable (pins_of w) })
    ∷ []

abbrev pub pins_word : ℕ → Pins → Option ℕ
pins_word offset p = word_at pin_rows tt offset p

abbrev pub pins_written : ℕ → ℕ → Pins → Pins
pins_written offset w p = effect_at pin_rows offset (Some w) p
