-- The registers of the engine (RP2040 Datasheet, 2.5.7, List of Registers), by their offsets after 50000000.
use Prim.Native.String.{String}
use Rattle.std.specs.Prelude.{ℕ, ◌+◌, ◌-◌, ◌*◌, ◌/◌, ◌%◌, ◌^◌, Bool, not, ◌==◌, if◌then◌else◌, List, [], ◌∷◌, ◌++◌, Option, bit_and, bit_or, slice_set, ⊤}
use Rattle.rp_base.specs.Rows.{Row, read_only, write_only, read_write, repeated, word_at, has_row, effect_at, IsListed, IsHeld}
use Rattle.rp_base.specs.Word.{has_bit, bit_number}
use Rattle.dma_engine.specs.declared.channel.Channel.{Channel}
use Rattle.dma_engine.specs.declared.timer.PacingTimer.{PacingTimer}
use Rattle.dma_engine.specs.declared.line.InterruptLine.{InterruptLine}
use Rattle.dma_engine.specs.Control.{irq_quiet}
use Rattle.dma_engine.specs.Channel.{changed, with_trigger, with_abort, with_raised, in_turn}
use Rattle.dma_engine.specs.State.{State, channel_at, timer_at}

-- ---- channels

-- BUSY stands in the control word; the bits of errors that the engine does not find are 0
abbrev pub control_of : Channel → ℕ
control_of c = c.ctrl % 2 ^ 23 + bit_number c.busy * 2 ^ 24

abbrev pub with_read_address : ℕ → Channel → Channel
with_read_address w c = record c { read = w }

abbrev pub with_write_address : ℕ → Channel → Channel
with_write_address w c = record c { write = w }

-- a write to the count is loaded by the next trigger; CTRL has the 23 bits up to BSWAP
abbrev pub with_count : ℕ → Channel → Channel
with_count w c = record c { reload = w }

abbrev pub with_control : ℕ → Channel → Channel
with_control w c = record c { ctrl = w % 2 ^ 23 }

-- a 0 in a trigger word starts nothing; it raises the interrupt of a channel that is else quiet
abbrev pub null_trigger : ℕ → State → State
null_trigger n e = if irq_quiet (channel_at n e) then with_raised n e else e

abbrev pub trigger_word : ℕ → ℕ → State → State
trigger_word n w e = if w == 0 then null_trigger n e else with_trigger n e

-- a register of channel n, and one whose write triggers the channel
abbrev pub of_channel : {V : Type 0} → ℕ → String → (Channel → ℕ) → (ℕ → Channel → Channel) → ℕ → Row V State
of_channel offset name reads write n = read_write offset name (λ e. reads (channel_at n e)) (λ w. changed (write w) n)

abbrev pub triggering : {V : Type 0} → ℕ → String → (Channel → ℕ) → (ℕ → Channel → Channel) → ℕ → Row V State
triggering offset name reads write n =
    read_write offset name (λ e. reads (channel_at n e)) (λ w e. trigger_word n w (changed (write w) n e))

-- the four registers of each channel in four orders, of which the last one triggers
abbrev pub channel_rows : {V : Type 0} → List (Row V State)
channel_rows =
    repeated 12 64 (of_channel 0x00 "CHn_READ_ADDR" (λ c. c.read) with_read_address)
    ∷ repeated 12 64 (of_channel 0x04 "CHn_WRITE_ADDR" (λ c. c.write) with_write_address)
    ∷ repeated 12 64 (of_channel 0x08 "CHn_TRANS_COUNT" (λ c. c.count) with_count)
    ∷ repeated 12 64 (triggering 0x0c "CHn_CTRL_TRIG" control_of with_control)
    ∷ repeated 12 64 (of_channel 0x10 "CHn_AL1_CTRL" control_of with_control)
    ∷ repeated 12 64 (of_channel 0x14 "CHn_AL1_READ_ADDR" (λ c. c.read) with_read_address)
    ∷ repeated 12 64 (of_channel 0x18 "CHn_AL1_WRITE_ADDR" (λ c. c.write) with_write_address)
    ∷ repeated 12 64 (triggering 0x1c "CHn_AL1_TRANS_COUNT_TRIG" (λ c. c.count) with_count)
    ∷ repeated 12 64 (of_channel 0x20 "CHn_AL2_CTRL" control_of with_control)
    ∷ repeated 12 64 (of_channel 0x24 "CHn_AL2_TRANS_COUNT" (λ c. c.count) with_count)
    ∷ repeated 12 64 (of_channel 0x28 "CHn_AL2_READ_ADDR" (λ c. c.read) with_read_address)
    ∷ repeated 12 64 (triggering 0x2c "CHn_AL2_WRITE_ADDR_TRIG" (λ c. c.write) with_write_address)
    ∷ repeated 12 64 (of_channel 0x30 "CHn_AL3_CTRL" control_of with_control)
    ∷ repeated 12 64 (of_channel 0x34 "CHn_AL3_WRITE_ADDR" (λ c. c.write) with_write_address)
    ∷ repeated 12 64 (of_channel 0x38 "CHn_AL3_TRANS_COUNT" (λ c. c.count) with_count)
    ∷ repeated 12 64 (triggering 0x3c "CHn_AL3_READ_ADDR_TRIG" (λ c. c.read) with_read_address)
    ∷ []

-- ---- the block

abbrev pub status_of : ℕ → InterruptLine → ℕ
status_of raised line = bit_or (bit_and raised line.enable) line.force

-- a 1 in INTR or INTS clears the interrupt of a channel
abbrev pub without_raised : ℕ → State → State
without_raised w e = record e { raised = bit_and e.raised (2 ^ 16 - 1 - w % 2 ^ 16) }

abbrev pub with_enable : ℕ → InterruptLine → InterruptLine
with_enable w line = record line { enable = w % 2 ^ 16 }

abbrev pub with_force : ℕ → InterruptLine → InterruptLine
with_force w line = record line { force = w % 2 ^ 16 }

-- X above Y
abbrev pub word_of_timer : PacingTimer → ℕ
word_of_timer t = t.x * 2 ^ 16 + t.y

abbrev pub with_timer_word : ℕ → PacingTimer → PacingTimer
with_timer_word w t = record t { x = w / 2 ^ 16; y = w % 2 ^ 16 }

abbrev pub with_timer : ℕ → ℕ → State → State
with_timer k w e = record e { timers = slice_set e.timers k (with_timer_word w (timer_at k e.timers)) }

-- each bit of MULTI_CHAN_TRIGGER and CHAN_ABORT stands for a channel
abbrev pub block_rows : {V : Type 0} → List (Row V State)
block_rows =
    read_write 0x400 "INTR" (λ e. e.raised) without_raised
    ∷ read_write 0x404 "INTE0" (λ e. e.line_0.enable) (λ w e. record e { line_0 = with_enable w e.line_0 })
    ∷ read_write 0x408 "INTF0" (λ e. e.line_0.force) (λ w e. record e { line_0 = with_force w e.line_0 })
    ∷ read_write 0x40c "INTS0" (λ e. status_of e.raised e.line_0) without_raised
    ∷ read_write 0x414 "INTE1" (λ e. e.line_1.enable) (λ w e. record e { line_1 = with_enable w e.line_1 })
    ∷ read_write 0x418 "INTF1" (λ e. e.line_1.force) (λ w e. record e { line_1 = with_force w e.line_1 })
    ∷ read_write 0x41c "INTS1" (λ e. status_of e.raised e.line_1) without_raised
    ∷ repeated 4 4 (λ k. read_write 0x420 "TIMERn" (λ e. word_of_timer (timer_at k e.timers)) (with_timer k))
    ∷ write_only 0x430 "MULTI_CHAN_TRIGGER" (λ w. in_turn (has_bit w) with_trigger 12)
    ∷ write_only 0x444 "CHAN_ABORT" (λ w. in_turn (has_bit w) with_abort 12)
    ∷ read_only 0x448 "N_CHANNELS" (λ e. 12)
    ∷ []

-- the sniffer and the debug registers are left out
abbrev pub dma_rows : List (Row ⊤ State)
dma_rows = channel_rows ++ block_rows

-- what a word reads as; None where there is no such word
unfoldable pub word_of : ℕ → State → Option ℕ
word_of offset s = word_at dma_rows tt offset s

unfoldable pub is_word : ℕ → Bool
is_word offset = has_row dma_rows offset

unfoldable pub effect_of : ℕ → Option ℕ → State → State
effect_of offset write s = effect_at dma_rows offset write s

-- each register is what stands at its offset, and nothing stands at any other
abbrev pub EachRegisterIsAtItsOffset : Type 0
EachRegisterIsAtItsOffset = IsListed dma_rows

-- an engine that is held reads as 0, and stays as it is
abbrev pub AnEngineThatIsHeldIsStill : Type 0
AnEngineThatIsHeldIsStill = IsHeld dma_rows

-- ---- interrupt lines

-- some bit of INTS is set
abbrev pub is_raised : ℕ → InterruptLine → Bool
is_raised raised line = not (status_of raised line == 0)

abbrev pub lines_of : State → List Bool
lines_of s = is_raised s.raised s.line_0 ∷ is_raised s.raised s.line_1 ∷ []
