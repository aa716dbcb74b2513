-- A cycle of the peripherals. Outputs, inputs and the levels that the device sees are those at the start of the cycle; what the
-- device and the script drive acts on the pads in the same cycle (RP2040 Datasheet, 2.19, GPIO, 4.2, UART, and 4.6, Timer; the
-- script and the device are the project's own).
use Rattle.std.specs.Prelude.{ℕ, ◌/◌, ◌%◌, ◌-◌, ◌^◌, ◌==◌, Bool, if◌then◌else◌, List, [], ◌∷◌, length, Option, Some, None}
use Rattle.rp_base.specs.declared.resettable.Resettable.{Resettable}
use Rattle.rp_base.specs.Resettable.{unless_held_becomes}
use Rattle.lane_look.specs.declared.lane.Ask.TheVariants as ask
use Rattle.lane_look.specs.declared.lane.Want.{Want}
use Rattle.lane_look.specs.declared.lane.Want.TheVariants as want
use Rattle.lane_look.specs.declared.marks.Mark.{Mark}
use Rattle.lane_look.specs.declared.device.Wires.{Wires}
use Rattle.lane_look.specs.Asking.{Asking}
use Rattle.lane_look.specs.Asking.Asking.{Ready, Question}
use Rattle.lane_look.specs.Device.{DeviceMeaning, no_wires}
use Rattle.pin_script.specs.declared.entry.Entry.{Entry}
use Rattle.pin_script.specs.Levels.{drive_at}
use Rattle.io_bank.specs.declared.outputs.Outs.{Outs}
use Rattle.io_bank.specs.State.{State as Bank}
use Rattle.io_bank.specs.Levels.{levels_of, by_sets, is_used, receive_level, uart_outputs}
use Rattle.io_bank.specs.Step as pads
use Rattle.rp_uart.specs.State.{State as SerialPort}
use Rattle.rp_uart.specs.Step as uart
use Rattle.rp_timer.specs.State.{State as TimerState}
use Rattle.rp_timer.specs.Step as timer
use Rattle.outer_lane.specs.declared.world.SeenOutputs.{SeenOutputs}
use Rattle.outer_lane.specs.Setting.{Setting}
use Rattle.outer_lane.specs.State.{State}

-- ---- what the lane asks: the outputs of a PIO block where some pin has its function, the levels in the low 32 bits of the
-- answer and the enables in the next 32

abbrev pub pins_in : ℕ → List ℕ
pins_in answer = (answer % 2 ^ 32) ∷ (answer / 2 ^ 32 % 2 ^ 32) ∷ []

abbrev pub no_pins : List ℕ
no_pins = 0 ∷ 0 ∷ []

abbrev pub seen_of : ℕ → List ℕ → List ℕ → SeenOutputs
seen_of cycle first second = record { cycle = cycle; pio0 = first; pio1 = second }

-- PIO block 1 is function 7
unfoldable pub asks_second : State → ℕ → List ℕ → Asking SeenOutputs
asks_second s cycle first =
    if is_used 7 s.pads then Question (ask.Outs 1) (λ answer. Ready (seen_of cycle first (pins_in answer)))
    else Ready (seen_of cycle first no_pins)

-- PIO block 0 is function 6
unfoldable pub asks : State → ℕ → Asking SeenOutputs
asks s cycle =
    if is_used 6 s.pads then Question (ask.Outs 0) (λ answer. asks_second s cycle (pins_in answer))
    else asks_second s cycle no_pins

-- the peripherals want nothing of the bus
abbrev pub wanted : SeenOutputs → List Want
wanted seen = want.Nothing ∷ want.Nothing ∷ []

-- ---- the device: it steps with the levels of the pads at the start. One that has another number of words does nothing

abbrev pub is_fitting : DeviceMeaning → List ℕ → Bool
is_fitting d words = length words == d.count

unfoldable pub wires_by : DeviceMeaning → List ℕ → ℕ → ℕ → Wires
wires_by d words cycle levels = if is_fitting d words then d.wires words cycle levels else no_wires

unfoldable pub words_by : DeviceMeaning → List ℕ → ℕ → ℕ → List ℕ
words_by d words cycle levels = if is_fitting d words then d.after_step words cycle levels else words

abbrev pub wires_of : DeviceMeaning → ℕ → State → Wires
wires_of d cycle s = wires_by d s.device cycle s.pads.current

abbrev pub device_after : DeviceMeaning → ℕ → State → List ℕ
device_after d cycle s = words_by d s.device cycle s.pads.current

-- ---- the pads

-- the outputs of all parts at the start; those of function 4 are the device's, with the enable on at every pin
abbrev pub outs_of : Wires → SeenOutputs → State → Outs
outs_of wires seen s = record {
  sio = s.sio;
  pio0 = seen.pio0;
  pio1 = seen.pio1;
  pwm = wires.pwm ∷ (2 ^ 30 - 1) ∷ [];
  uart = uart_outputs (uart.output_of s.uart0.block) (uart.output_of s.uart1.block);
}

-- a scripted level drives a pad, else the device does
abbrev pub either : Option Bool → Option Bool → Option Bool
either (Some level) other = Some level
either None other = other

unfoldable pub outside_of : List Entry → Wires → ℕ → ℕ → Option Bool
outside_of script wires cycle pin = either (drive_at script cycle pin) (by_sets wires.mask wires.level pin)

-- the levels of the pads in the cycle, and the pads after it, by what the device drives
unfoldable pub levels_by : List Entry → Wires → SeenOutputs → State → ℕ
levels_by script wires seen s = levels_of (outs_of wires seen s) (outside_of script wires seen.cycle) s.pads

unfoldable pub pads_by : List Entry → Wires → SeenOutputs → State → Bank
pads_by script wires seen s = pads.after_step (outs_of wires seen s) (outside_of script wires seen.cycle) s.pads

-- ---- the UARTs and the timer; one that is held does not step

abbrev pub uart_after : Bool → Resettable SerialPort → Resettable SerialPort
uart_after line u = unless_held_becomes u (uart.after_step line u.block)

abbrev pub byte_of : Resettable SerialPort → Option ℕ
byte_of u = if u.held then None else uart.sent_byte u.block

abbrev pub timer_after : ℕ → Resettable TimerState → Resettable TimerState
timer_after cycle t = unless_held_becomes t (timer.after_step cycle t.block)

-- ---- the cycle

-- all but the device's words, by what the device drives. A UART hears the second level of its lowest RX pin
unfoldable pub next_by : List Entry → Wires → SeenOutputs → State → State
next_by script wires seen s = record s {
  timer = timer_after seen.cycle s.timer;
  uart0 = uart_after (receive_level 0 s.pads) s.uart0;
  uart1 = uart_after (receive_level 1 s.pads) s.uart1;
  pads = pads_by script wires seen s;
  irq = wires.irq;
}

unfoldable pub next : Setting → State → SeenOutputs → State
next w s seen =
    record (next_by w.script (wires_of w.device seen.cycle s) seen s) { device = device_after w.device seen.cycle s }

-- the bytes whose frames ended, and the levels of the pads
unfoldable pub marked_by : List Entry → Wires → SeenOutputs → State → Mark
marked_by script wires seen s = record {
  uart = byte_of s.uart0 ∷ byte_of s.uart1 ∷ [];
  pads = levels_by script wires seen s;
}

unfoldable pub marked : Setting → State → SeenOutputs → Mark
marked w s seen = marked_by w.script (wires_of w.device seen.cycle s) seen s
