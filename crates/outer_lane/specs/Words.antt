-- The words of the register blocks: what they read as, and what an access does. A block that is held reads 0 and ignores
-- accesses (RP2040 Datasheet, 2.14, Subsystem Resets, 2.19.6, 4.2.8 and 4.6.5, List of Registers).
use Rattle.std.specs.Prelude.{ℕ, ◌+◌, Bool, false, ◌&&◌, nat_lt, if◌then◌else◌, Option, None}
use Rattle.rp_base.specs.declared.map.Block.{Block}
use Rattle.rp_base.specs.declared.map.Block.TheVariants as block
use Rattle.rp_base.specs.Held.{unless_held}
use Rattle.rp_base.specs.Resettable.{unless_held_becomes}
use Rattle.io_bank.specs.declared.outputs.Outs.{Outs}
use Rattle.io_bank.specs.Offsets.{PADS_BANK0}
use Rattle.io_bank.specs.State.{State as Bank}
use Rattle.io_bank.specs.Words as bank
use Rattle.rp_uart.specs.Words as uart
use Rattle.rp_timer.specs.Words as timer
use Rattle.outer_lane.specs.declared.world.SeenOutputs.{SeenOutputs}
use Rattle.outer_lane.specs.Setting.{Setting}
use Rattle.outer_lane.specs.State.{State}
use Rattle.outer_lane.specs.Step.{outs_of, wires_of}

-- the outputs of all parts as they are in a cycle
abbrev pub outs_now : Setting → SeenOutputs → State → Outs
outs_now w seen s = outs_of (wires_of w.device seen.cycle s) seen s

-- what the words of IO_BANK0, and from there on of PADS_BANK0, read as
unfoldable pub pads_word : ℕ → Setting → SeenOutputs → State → Option ℕ
pads_word offset w seen s = bank.word_of offset (outs_now w seen s) s.pads

-- the offsets of IO_BANK0 end below those of PADS_BANK0
abbrev pub bank_word : ℕ → Setting → SeenOutputs → State → Option ℕ
bank_word offset w seen s = if nat_lt offset PADS_BANK0 then pads_word offset w seen s else None

-- what a word of the timer or a UART reads as; None where the block has no such word, or is none of them
unfoldable pub own_word : Block → ℕ → State → Option ℕ
own_word block.Uart0 offset s = unless_held s.uart0.held (uart.word_of offset s.uart0.block)
own_word block.Uart1 offset s = unless_held s.uart1.held (uart.word_of offset s.uart1.block)
own_word block.Timer offset s = unless_held s.timer.held (timer.word_of offset s.timer.block)
own_word _ offset s = None

-- what a word reads as; None where the block has no such word, or is no peripheral
unfoldable pub outer_word : Block → ℕ → Setting → SeenOutputs → State → Option ℕ
outer_word block.IoBank0 offset w seen s = bank_word offset w seen s
outer_word block.PadsBank0 offset w seen s = pads_word (PADS_BANK0 + offset) w seen s
outer_word other offset w seen s = own_word other offset s

-- whether a block has a word; whether it is held does not matter
unfoldable pub outer_allowed : Block → ℕ → Bool
outer_allowed block.IoBank0 offset = nat_lt offset PADS_BANK0 && bank.is_word offset
outer_allowed block.PadsBank0 offset = bank.is_word (PADS_BANK0 + offset)
outer_allowed block.Uart0 offset = uart.is_word offset
outer_allowed block.Uart1 offset = uart.is_word offset
outer_allowed block.Timer offset = timer.is_word offset
outer_allowed _ offset = false

abbrev pub bank_accessed : ℕ → Option ℕ → Bank → Bank
bank_accessed offset write b = if nat_lt offset PADS_BANK0 then bank.effect_of offset write b else b

-- what a read or a write does
unfoldable pub outer_accessed : Block → ℕ → Option ℕ → State → State
outer_accessed block.IoBank0 offset write s = record s { pads = bank_accessed offset write s.pads }
outer_accessed block.PadsBank0 offset write s = record s { pads = bank.effect_of (PADS_BANK0 + offset) write s.pads }
outer_accessed block.Uart0 offset write s = record s { uart0 = unless_held_becomes s.uart0 (uart.effect_of offset write s.uart0.block) }
outer_accessed block.Uart1 offset write s = record s { uart1 = unless_held_becomes s.uart1 (uart.effect_of offset write s.uart1.block) }
outer_accessed block.Timer offset write s = record s { timer = unless_held_becomes s.timer (timer.effect_of offset write s.timer.block) }
outer_accessed _ offset write s = s
