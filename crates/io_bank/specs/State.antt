-- The registers of IO_BANK0 and PADS_BANK0, and the levels of the pads (RP2040 Datasheet, 2.19.6, List of Registers).
use Rattle.std.specs.Prelude.{ℕ, Bool, true, false, List, replicate, if◌then◌else◌}
use Rattle.io_bank.specs.declared.events.Edges.{Edges}
use Rattle.io_bank.specs.declared.events.Events.{Events}
use Rattle.io_bank.specs.declared.events.Interrupts.{Interrupts}

pub record State : Type 0 where
  -- the copies of the bits IO_BANK0 and PADS_BANK0 of RESETS
  pub bank_held : Bool
  pub pads_held : Bool
  -- for each pin CTRL, and the pad's register
  pub controls : List ℕ
  pub pads : List ℕ
  -- the word VOLTAGE_SELECT
  pub voltage : ℕ
  -- the edges that are latched, and of these the ones of the last step
  pub latched : Edges
  pub fresh : Edges
  -- what interrupts core 0 and core 1
  pub core0 : Interrupts
  pub core1 : Interrupts
  -- the pads that were high in the last cycle, in the one before and in the one before that, by bits
  pub current : ℕ
  pub first : ℕ
  pub second : ℕ

abbrev pub no_edges : Edges
no_edges = record { low = 0; high = 0 }

abbrev pub no_events : Events
no_events = record { level_low = 0; level_high = 0; edge_low = 0; edge_high = 0 }

abbrev pub no_interrupts : Interrupts
no_interrupts = record { enable = no_events; force = no_events }

-- no pin has a function (FUNCSEL 31), and each pad has its input enable, its pull-down and its Schmitt trigger on
abbrev pub controls_at_reset : List ℕ
controls_at_reset = replicate 30 0x1F

abbrev pub pads_at_reset : List ℕ
pads_at_reset = replicate 30 0x56

abbrev pub at_reset : State
at_reset =
    record {
      bank_held = false;
      pads_held = false;
      controls = controls_at_reset;
      pads = pads_at_reset;
      voltage = 0;
      latched = no_edges;
      fresh = no_edges;
      core0 = no_interrupts;
      core1 = no_interrupts;
      current = 0;
      first = 0;
      second = 0;
    }

-- IO_BANK0 in reset or out of it: in reset its registers have their reset values
abbrev pub with_bank_held : Bool → State → State
with_bank_held held s =
    if held
    then record s {
      bank_held = true;
      controls = controls_at_reset;
      latched = no_edges;
      fresh = no_edges;
      core0 = no_interrupts;
      core1 = no_interrupts;
    }
    else record s { bank_held = false }

-- the same of PADS_BANK0
abbrev pub with_pads_held : Bool → State → State
with_pads_held held s =
    if held
    then record s { pads_held = true; pads = pads_at_reset; voltage = 0 }
    else record s { pads_held = false }

abbrev pub after_held : Bool → Bool → State → State
after_held bank pads s = with_pads_held pads (with_bank_held bank s)
