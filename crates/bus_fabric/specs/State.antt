-- What the bus fabric keeps from cycle to cycle (RP2040 Datasheet, 2.1.1.1 "Bus Priority", 2.1.3 "APB Bridge" and 2.1.5 "List
-- of Registers", BUS_PRIORITY).
use Rattle.std.specs.Prelude.{ℕ, Bool, is_some, bit_and, List, replicate, slice_index_or, slice_set, Option, None}
use Rattle.rp_base.specs.declared.Master.{Master}
use Rattle.rp_base.specs.declared.Master.TheVariants.{DmaWrite}
use Rattle.bus_fabric.specs.declared.Hold.{Hold}

pub record State : Type 0 where
  -- the access that lasts on APB, the one port on which accesses last longer than a cycle
  pub hold : Option Hold
  -- BUS_PRIORITY
  pub priority : ℕ
  -- of each of the eight ports the master that won it last, port 0 first
  pub last : List Master

abbrev pub at_reset : State
at_reset = record { hold = None; priority = 0; last = replicate 8 DmaWrite }

abbrev pub has_hold : State → Bool
has_hold s = is_some s.hold

-- BUS_PRIORITY keeps the bits of the four masters
abbrev pub with_priority : ℕ → State → State
with_priority bits s = record s { priority = bit_and bits 0x1111 }

-- the master that a port remembers
abbrev pub last_on : ℕ → State → Master
last_on port s = slice_index_or s.last port DmaWrite

abbrev pub with_last : ℕ → Master → State → State
with_last port master s = record s { last = slice_set s.last port master }
