-- The registers of a block (RP2040 Datasheet, 3.7, List of Registers), by their offsets after 50200000 (PIO0) and 50300000 (PIO1).
use Rattle.std.specs.Prelude.{ℕ, ◌+◌, ◌-◌, ◌*◌, ◌%◌, ◌^◌, Bool, false, not, ◌&&◌, ◌||◌, ◌==◌, if◌then◌else◌, Option, Some, None, List, [], ◌∷◌, ◌++◌, map, length, bit_and, bit_or, slice_set, ⊤}
use Rattle.rp_base.specs.Rows.{Row, first_of, is_at, register, read_only, write_only, read_write, read_acts, repeated, word_at, has_row, effect_at, place_in, IsListed, IsHeld}
use Rattle.rp_base.specs.Word.{has_bit}
use Rattle.pio_machine.specs.Fields.{is_tx_full, tx_depth}
use Rattle.pio_machine.specs.declared.machine.Machine1.{Machine1}
use Rattle.pio_machine.specs.Operation.{with_pc}
use Rattle.pio_block.specs.State.{State, machine_of, changed, with_machines, without}
use Rattle.pio_block.specs.Control.{ctrl_of, control_written}
use Rattle.pio_block.specs.Queues.{bits_of, fstat_of, fdebug_of, flevel_of, is_rx_empty, first_of as first_word, debug_written, sent, taken}
use Rattle.pio_block.specs.Registers.{machine_rows}

abbrev pub control_rows : {V : Type 0} → List (Row V State)
control_rows =
    read_write 0x000 "CTRL" (λ s. ctrl_of s.machines) control_written
    ∷ read_only 0x004 "FSTAT" (λ s. fstat_of s.machines)
    ∷ read_write 0x008 "FDEBUG" fdebug_of debug_written
    ∷ read_only 0x00c "FLEVEL" (λ s. flevel_of s.machines)
    ∷ []

-- a read of RXF takes a word away
abbrev pub fifo_rows : {V : Type 0} → List (Row V State)
fifo_rows =
    repeated 4 4 (λ n. write_only 0x010 "TXFn" (sent n))
    ∷ repeated 4 4 (λ n. read_acts 0x020 "RXFn" (λ s. first_word (machine_of n s.machines).rx) (taken n))
    ∷ []

-- the chip has 30 pins; DBG_CFGINFO tells 32 words of instruction memory, four machines and FIFOs of four words
abbrev pub pin_rows : {V : Type 0} → List (Row V State)
pin_rows =
    read_write 0x030 "IRQ" (λ s. s.flags) (λ w s. record s { flags = without s.flags (w % 2 ^ 8) })
    ∷ write_only 0x034 "IRQ_FORCE" (λ w s. record s { flags = bit_or s.flags (w % 2 ^ 8) })
    ∷ read_write 0x038 "INPUT_SYNC_BYPASS" (λ s. s.bypass) (λ w s. record s { bypass = w })
    ∷ read_only 0x03c "DBG_PADOUT" (λ s. s.levels % 2 ^ 30)
    ∷ read_only 0x040 "DBG_PADOE" (λ s. s.enables % 2 ^ 30)
    ∷ read_only 0x044 "DBG_CFGINFO" (λ s. 0x00200404)
    ∷ []

abbrev pub memory_rows : {V : Type 0} → List (Row V State)
memory_rows =
    repeated 32 4 (λ n. write_only 0x048 "INSTR_MEMn" (λ w s. record s { memory = slice_set s.memory n (w % 2 ^ 16) }))
    ∷ []

-- a register of machine 0 stands 18h times n later for machine n
abbrev pub of_machines : {V : Type 0} → Row (List ℕ) Machine1 → Row V State
of_machines row =
    repeated 4 24 (λ n. register (first_of row.place) row.name
    (λ seen s. row.reads 0 s.memory (machine_of n s.machines)) (λ s. s)
    (λ w s. with_machines (changed n (row.write_does 0 w) s.machines) s))

abbrev pub has_room : Machine1 → Bool
has_room m = not (is_tx_full m)

abbrev pub has_words : Machine1 → Bool
has_words m = not (is_rx_empty m)

-- flags 0 to 3, TX FIFOs that are not full, RX FIFOs that are not empty
unfoldable pub intr_of : State → ℕ
intr_of s = s.flags % 2 ^ 4 * 2 ^ 8 + bits_of has_room s.machines * 2 ^ 4 + bits_of has_words s.machines

abbrev pub ints_of : ℕ → ℕ → State → ℕ
ints_of inte intf s = bit_or (bit_and (intr_of s) inte) intf

abbrev pub ints0_of : State → ℕ
ints0_of s = ints_of s.inte0 s.intf0 s

abbrev pub ints1_of : State → ℕ
ints1_of s = ints_of s.inte1 s.intf1 s

abbrev pub interrupt_rows : {V : Type 0} → List (Row V State)
interrupt_rows =
    read_only 0x128 "INTR" intr_of
    ∷ read_write 0x12c "IRQ0_INTE" (λ s. s.inte0) (λ w s. record s { inte0 = w % 2 ^ 12 })
    ∷ read_write 0x130 "IRQ0_INTF" (λ s. s.intf0) (λ w s. record s { intf0 = w % 2 ^ 12 })
    ∷ read_only 0x134 "IRQ0_INTS" ints0_of
    ∷ read_write 0x138 "IRQ1_INTE" (λ s. s.inte1) (λ w s. record s { inte1 = w % 2 ^ 12 })
    ∷ read_write 0x13c "IRQ1_INTF" (λ s. s.intf1) (λ w s. record s { intf1 = w % 2 ^ 12 })
    ∷ read_only 0x140 "IRQ1_INTS" ints1_of
    ∷ []

-- ---- all words

abbrev pub pio_rows : List (Row ⊤ State)
pio_rows = control_rows ++ fifo_rows ++ pin_rows ++ memory_rows ++ map of_machines machine_rows ++ interrupt_rows

unfoldable pub is_word : ℕ → Bool
is_word offset = has_row pio_rows offset

-- what a word reads as; None where there is no such word
unfoldable pub word_of : ℕ → State → Option ℕ
word_of offset s = word_at pio_rows tt offset s

-- OUT_STICKY and INLINE_OUT_EN of EXECCTRL are left out: a write that sets one of them is not allowed
abbrev pub sets_left_out : ℕ → Option ℕ → Bool
sets_left_out offset None = false
sets_left_out offset (Some w) = is_at (place_in pio_rows "SMn_EXECCTRL") offset && (has_bit w 17 || has_bit w 18)

unfoldable pub is_allowed : ℕ → Option ℕ → Bool
is_allowed offset write = is_word offset && not (sets_left_out offset write)

unfoldable pub after_any : ℕ → Option ℕ → State → State
after_any offset write s = effect_at pio_rows offset write s

unfoldable pub effect_of : ℕ → Option ℕ → State → State
effect_of offset write s = if is_allowed offset write then after_any offset write s else s

-- each register is what stands at its offset, and nothing stands at any other
abbrev pub EachRegisterIsAtItsOffset : Type 0
EachRegisterIsAtItsOffset = IsListed pio_rows

-- a block that is held reads as 0, and stays as it is
abbrev pub ABlockThatIsHeldIsStill : Type 0
ABlockThatIsHeldIsStill = IsHeld pio_rows

-- ---- what the rest of the machine is told

-- the room left in the TX FIFOs, then the words of the RX FIFOs
abbrev pub room_left : Machine1 → ℕ
room_left m = tx_depth m - length m.tx

abbrev pub words_held : Machine1 → ℕ
words_held m = length m.rx

unfoldable pub pacing_of : List Machine1 → List ℕ
pacing_of ms =
    room_left (machine_of 0 ms) ∷ room_left (machine_of 1 ms) ∷ room_left (machine_of 2 ms)
    ∷ room_left (machine_of 3 ms) ∷ words_held (machine_of 0 ms) ∷ words_held (machine_of 1 ms)
    ∷ words_held (machine_of 2 ms) ∷ words_held (machine_of 3 ms) ∷ []

-- PC, X, Y, ISR and OSR of a machine
abbrev pub register_list : Machine1 → List ℕ
register_list m = m.pc ∷ m.x ∷ m.y ∷ m.isr ∷ m.osr ∷ []

-- the levels and the enables of the 30 pins of the chip
abbrev pub outs_of : State → List ℕ
outs_of s = s.levels % 2 ^ 30 ∷ s.enables % 2 ^ 30 ∷ []

abbrev pub lines_of : State → List Bool
lines_of s = not (ints0_of s == 0) ∷ not (ints1_of s == 0) ∷ []

-- the word at the new PC was not tried yet
abbrev pub counter_set : ℕ → ℕ → State → State
counter_set n address s = with_machines (changed n (with_pc address) s.machines) s
