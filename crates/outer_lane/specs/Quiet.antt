-- For how long the peripherals are quiet, and what they are after so many cycles.
use Rattle.std.specs.Prelude.{◌≡◌, ℕ, ◌+◌, ◌<◌, ◌≤◌, Bool, true, false, if◌then◌else◌, List, [], ◌∷◌, length, Option, None}
use Rattle.std.specs.List.{filter}
use Rattle.rp_base.specs.declared.map.Block.{Block}
use Rattle.rp_base.specs.declared.map.Block.TheVariants as block
use Rattle.rp_base.specs.declared.resettable.Resettable.{Resettable}
use Rattle.rp_base.specs.Held.{unless_held}
use Rattle.rp_base.specs.ResetBits.{TIMER, UART0, UART1}
use Rattle.rp_base.specs.Word.{has_bit}
use Rattle.lane_look.specs.declared.marks.Mark.{Mark}
use Rattle.lane_look.specs.Device.{DeviceMeaning}
use Rattle.lane_look.specs.Quiet.{device_after}
use Rattle.lane_look.specs.Times.{times}
use Rattle.io_bank.specs.Step.{after_step}
use Rattle.pin_script.specs.declared.entry.Entry.{Entry}
use Rattle.pin_script.specs.Levels.{is_due}
use Rattle.rp_timer.specs.State.{State as TimerState, lines_of}
use Rattle.rp_timer.specs.Words as timer
use Rattle.rp_uart.specs.State.{State as SerialPort}
use Rattle.rp_uart.specs.Step.{output_of, pacing_of}
use Rattle.rp_uart.specs.Interrupts.{is_line_high}
use Rattle.rp_uart.specs.Quiet.{IsLater}
use Rattle.rp_uart.specs.Words.{word_of}
use Rattle.rp_uart.specs.Words as uart
use Rattle.outer_lane.specs.declared.world.SeenOutputs.{SeenOutputs}
use Rattle.outer_lane.specs.Setting.{Setting}
use Rattle.outer_lane.specs.State.{State}
use Rattle.outer_lane.specs.Lines.{outer_lines, outer_pacing}
use Rattle.outer_lane.specs.Step.{is_fitting, next, marked, outs_of, outside_of, timer_after, uart_after, byte_of, wires_by, wires_of, words_by}
use Rattle.outer_lane.specs.Words.{own_word}

-- what is seen in another cycle, where the outputs of PIO stay
abbrev pub seen_in : SeenOutputs → ℕ → SeenOutputs
seen_in seen cycle = record seen { cycle = cycle }

-- a cycle, where the outputs of PIO are these
abbrev pub outer_step : Setting → SeenOutputs → ℕ → State → State
outer_step w seen cycle s = next w s (seen_in seen cycle)

-- the state after so many cycles, from the one on in which this is seen
abbrev pub outer_after : Setting → SeenOutputs → ℕ → State → State
outer_after w seen n s = times (outer_step w seen) seen.cycle n s

-- which blocks are held in reset beside the pads, and the bits of RESET that hold them
abbrev pub held_blocks : State → List Bool
held_blocks s = s.timer.held ∷ s.uart0.held ∷ s.uart1.held ∷ []

abbrev pub held_by : ℕ → List Bool
held_by reset = has_bit reset TIMER ∷ has_bit reset UART0 ∷ has_bit reset UART1 ∷ []

-- the mark of a cycle in which no frame ends and no level changes
abbrev pub quiet_mark : State → Mark
quiet_mark s = record { uart = None ∷ None ∷ []; pads = s.pads.current }

-- a read of a word of the timer or of a UART that changes nothing
abbrev pub is_pure_read : Block → ℕ → State → Bool
is_pure_read block.Uart0 offset s = uart.is_pure_read offset s.uart0.block
is_pure_read block.Uart1 offset s = uart.is_pure_read offset s.uart1.block
is_pure_read block.Timer offset s = timer.is_pure_read offset
is_pure_read _ offset s = false

-- one that also reads the same as long as they are quiet: of a UART, since time goes on in the timer
abbrev pub is_lasting_read : Block → ℕ → State → Bool
is_lasting_read block.Timer offset s = false
is_lasting_read other offset s = is_pure_read other offset s

-- in each of so many cycles, as long as the outputs of PIO are these, no frame ends and no level changes; after each the pads, the
-- interrupt lines, the counts that pace DMA channels, what is kept of SIO and of RESETS, and the number of the device's words are
-- what they were, and lasting reads last
pub record IsQuiet (w : Setting) (seen : SeenOutputs) (s : State) (n : ℕ) : Type 0 where
  pub mark : (k : ℕ) → k < n → marked w (outer_after w seen k s) (seen_in seen (seen.cycle + k)) ≡ quiet_mark s
  pub pads : (k : ℕ) → k ≤ n → (outer_after w seen k s).pads ≡ s.pads
  pub lines : (k : ℕ) → k ≤ n → (core : ℕ) → outer_lines core (outer_after w seen k s) ≡ outer_lines core s
  pub pacing : (k : ℕ) → k ≤ n → outer_pacing (outer_after w seen k s) ≡ outer_pacing s
  pub irq : (k : ℕ) → k ≤ n → (outer_after w seen k s).irq ≡ s.irq
  pub sio : (k : ℕ) → k ≤ n → (outer_after w seen k s).sio ≡ s.sio
  pub held : (k : ℕ) → k ≤ n → held_blocks (outer_after w seen k s) ≡ held_blocks s
  pub words : (k : ℕ) → k ≤ n → length (outer_after w seen k s).device ≡ length s.device
  pub lasts : (k : ℕ) → k ≤ n → (block : Block) (offset : ℕ) → is_lasting_read block offset (outer_after w seen k s) ≡ is_lasting_read block offset s
  pub reads : (k : ℕ) → k ≤ n → (block : Block) (offset : ℕ) → is_lasting_read block offset s ≡ true
      → own_word block offset (outer_after w seen k s) ≡ own_word block offset s

-- a cycle in which this is seen leaves the pads as they are, and the lines of the device
pub record IsSettled (w : Setting) (seen : SeenOutputs) (s : State) : Type 0 where
  pub pads : after_step (outs_of (wires_of w.device seen.cycle s) seen s) (outside_of w.script (wires_of w.device seen.cycle s) seen.cycle) s.pads ≡ s.pads
  pub irq : (wires_of w.device seen.cycle s).irq ≡ s.irq

-- ---- part by part

-- a UART hears this line, whatever the number of the cycle
abbrev pub uart_cycle : Bool → ℕ → Resettable SerialPort → Resettable SerialPort
uart_cycle line cycle u = uart_after line u

abbrev pub uart_word : ℕ → Resettable SerialPort → Option ℕ
uart_word offset u = unless_held u.held (word_of offset u.block)

-- the words of the device, where the pads have these levels
abbrev pub words_cycle : DeviceMeaning → ℕ → ℕ → List ℕ → List ℕ
words_cycle d levels cycle words = words_by d words cycle levels

-- they after so many cycles, where their number stays
unfoldable pub words_after : DeviceMeaning → ℕ → ℕ → ℕ → List ℕ → List ℕ
words_after d levels cycle n words = if is_fitting d words then device_after d levels cycle n words else words

pub record IsTimerQuiet (t : Resettable TimerState) (cycle n : ℕ) : Type 0 where
  pub lines : (k : ℕ) → k ≤ n → lines_of (times timer_after cycle k t).block ≡ lines_of t.block
  pub held : (k : ℕ) → k ≤ n → (times timer_after cycle k t).held ≡ t.held

pub record IsUartQuiet (line : Bool) (u : Resettable SerialPort) (cycle n : ℕ) : Type 0 where
  pub silent : (k : ℕ) → k < n → byte_of (times (uart_cycle line) cycle k u) ≡ None
  pub output : (k : ℕ) → k ≤ n → output_of (times (uart_cycle line) cycle k u).block ≡ output_of u.block
  pub interrupt : (k : ℕ) → k ≤ n → is_line_high (times (uart_cycle line) cycle k u).block ≡ is_line_high u.block
  pub pacing : (k : ℕ) → k ≤ n → pacing_of (times (uart_cycle line) cycle k u).block ≡ pacing_of u.block
  pub held : (k : ℕ) → k ≤ n → (times (uart_cycle line) cycle k u).held ≡ u.held
  pub words : (k : ℕ) → k ≤ n → (offset : ℕ) → uart_word offset (times (uart_cycle line) cycle k u) ≡ uart_word offset u
  pub later : (k : ℕ) → k ≤ n → IsLater u.block (times (uart_cycle line) cycle k u).block

pub record AreWordsQuiet (d : DeviceMeaning) (words : List ℕ) (cycle levels n : ℕ) : Type 0 where
  pub drives : (k : ℕ) → k < n → wires_by d (times (words_cycle d levels) cycle k words) (cycle + k) levels ≡ wires_by d words cycle levels
  pub count : (k : ℕ) → k ≤ n → length (times (words_cycle d levels) cycle k words) ≡ length words

-- no entry of the script comes in so many cycles
abbrev pub IsScriptQuiet : List Entry → ℕ → ℕ → Type 0
IsScriptQuiet script cycle n = (k : ℕ) → k < n → filter (is_due (cycle + k)) script ≡ filter (is_due cycle) script
