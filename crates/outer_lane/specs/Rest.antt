-- What the pads are stepped by, in words, and when a step by these changes nothing. Nothing of it is told outside.
use Rattle.std.specs.Prelude.{◌≡◌, ℕ, ◌-◌, ◌^◌, false, List, [], ◌∷◌}
use Rattle.lane_look.specs.declared.marks.Mark.{Mark}
use Rattle.lane_look.specs.declared.device.Wires.{Wires}
use Rattle.pin_script.specs.declared.script.Drives.{Drives}
use Rattle.io_bank.specs.declared.outputs.Outs.{Outs}
use Rattle.io_bank.specs.State.{State as Bank}
use Rattle.io_bank.specs.Levels.{by_sets, receive_level}
use Rattle.io_bank.specs.Step as pads
use Rattle.outer_lane.specs.declared.blocks.Blocks.{Blocks}
use Rattle.outer_lane.specs.declared.drivers.Drivers.{Drivers}
use Rattle.outer_lane.specs.declared.world.SeenOutputs.{SeenOutputs}
use Rattle.outer_lane.specs.BroughtUp.{blocks_outs}
use Rattle.outer_lane.specs.Lines.{bank_line}
use Rattle.outer_lane.specs.State.{State}
use Rattle.outer_lane.specs.Step.{outs_of, uart_after, byte_of, timer_after}

abbrev pub outs_by : List ℕ → Drivers → Outs
outs_by sio d = record {
  sio = sio;
  pio0 = d.pio0_levels ∷ d.pio0_enables ∷ [];
  pio1 = d.pio1_levels ∷ d.pio1_enables ∷ [];
  pwm = d.pwm ∷ (2 ^ 30 - 1) ∷ [];
  uart = d.uart_levels ∷ d.uart_enables ∷ [];
}

-- the pads after a step by these
unfoldable pub pads_after : List ℕ → Drivers → Bank → Bank
pads_after sio d b = pads.after_step (outs_by sio d) (by_sets d.driven d.high) b

-- ---- a cycle by what drives the pads from outside, as pins of sets

unfoldable pub pads_driven : Wires → SeenOutputs → Drives → State → Bank
pads_driven wires seen drives s = pads.after_step (outs_of wires seen s) (by_sets drives.driven drives.high) s.pads

abbrev pub next_driven : Wires → SeenOutputs → Drives → State → State
next_driven wires seen drives s = record s {
  timer = timer_after seen.cycle s.timer;
  uart0 = uart_after (receive_level 0 s.pads) s.uart0;
  uart1 = uart_after (receive_level 1 s.pads) s.uart1;
  pads = pads_driven wires seen drives s;
  irq = wires.irq;
}

abbrev pub marked_driven : Wires → SeenOutputs → Drives → State → Mark
marked_driven wires seen drives s = record {
  uart = byte_of s.uart0 ∷ byte_of s.uart1 ∷ [];
  pads = (pads_driven wires seen drives s).current;
}

-- ---- rest

-- a step by these leaves the pads as they are, which interrupt neither core; among these is what the UARTs put out
abbrev pub Stays : List ℕ → Drivers → Bank → Blocks → Type 0
Stays sio d b blocks =
    (pads_after sio d b ≡ b)
    × (((core : ℕ) → bank_line core b ≡ false) × (blocks_outs blocks ≡ d.uart_levels ∷ d.uart_enables ∷ []))
