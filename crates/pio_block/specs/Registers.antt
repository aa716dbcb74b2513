-- The registers of one machine, by the offsets of those of machine 0 (RP2040 Datasheet, 3.7, List of Registers). What INSTR reads as is
-- seen in the instruction memory.
use Rattle.std.specs.Prelude.{ℕ, ◌+◌, ◌*◌, ◌/◌, ◌%◌, ◌^◌, ◌==◌, if◌then◌else◌, List, [], ◌∷◌, Option, Some, bit_and, bit_or, slice_index}
use Rattle.rp_base.specs.Rows.{Row, register, read_only, read_write, word_at, effect_at}
use Rattle.rp_base.specs.Word.{bit_number}
use Rattle.pio_machine.specs.declared.machine.Machine1.{Machine1}
use Rattle.pio_machine.specs.Progress.{forced}
use Rattle.pio_machine.specs.Quiet.{is_forced}

-- EXEC_STALLED tells that a word that was written to INSTR waits
abbrev pub execctrl_of : Machine1 → ℕ
execctrl_of m = bit_or m.execctrl (bit_number (is_forced m.waiting) * 2 ^ 31)

-- the named bits of EXECCTRL that are kept: SIDE_EN, SIDE_PINDIR, JMP_PIN, WRAP_TOP, WRAP_BOTTOM, STATUS_SEL and STATUS_N
abbrev pub execctrl_bits : ℕ
execctrl_bits = 0x7F01FF9F

-- a change of FJOIN_RX or FJOIN_TX empties both FIFOs
abbrev pub joined : ℕ → Machine1 → Machine1
joined w m = if m.shiftctrl / 2 ^ 30 == w / 2 ^ 30 then m else record m { tx = []; rx = [] }

abbrev pub with_shiftctrl : ℕ → Machine1 → Machine1
with_shiftctrl w m = record m { shiftctrl = w / 2 ^ 16 * 2 ^ 16 }

-- those of machine n stand 18h times n later. INSTR reads as the instruction at PC; a word that is written to it waits, in place of one
-- that waited before, and was not tried yet
abbrev pub machine_rows : List (Row (List ℕ) Machine1)
machine_rows =
    read_write 0x0c8 "SMn_CLKDIV" (λ m. m.clkdiv) (λ w m. record m { clkdiv = w / 2 ^ 8 * 2 ^ 8 })
    ∷ read_write 0x0cc "SMn_EXECCTRL" execctrl_of (λ w m. record m { execctrl = bit_and w execctrl_bits })
    ∷ read_write 0x0d0 "SMn_SHIFTCTRL" (λ m. m.shiftctrl) (λ w m. with_shiftctrl w (joined w m))
    ∷ read_only 0x0d4 "SMn_ADDR" (λ m. m.pc)
    ∷ register 0x0d8 "SMn_INSTR" (λ memory m. slice_index memory (m.pc % 32)) (λ m. m) (λ w m. record m { waiting = Some (forced (w % 2 ^ 16)) })
    ∷ read_write 0x0dc "SMn_PINCTRL" (λ m. m.pinctrl) (λ w m. record m { pinctrl = w })
    ∷ []

-- by an offset from the machine's first register on: what it reads as, and what a write does
unfoldable pub register_of : ℕ → List ℕ → Machine1 → Option ℕ
register_of offset memory m = word_at machine_rows memory (0x0c8 + offset) m

unfoldable pub register_written : ℕ → ℕ → Machine1 → Machine1
register_written offset w m = effect_at machine_rows (0x0c8 + offset) (Some w) m
