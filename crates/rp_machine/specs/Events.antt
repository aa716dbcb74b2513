-- The events of a cycle: the bytes whose frames ended, UART0's first, and then the pins whose levels changed, by their numbers.
use Rattle.std.specs.Prelude.{ℕ, ◌+◌, Bool, List, [], ◌∷◌, ◌++◌, map, Option, Some, None, bit_xor}
use Rattle.std.specs.List.{filter, range_with_len}
use Rattle.rp_base.specs.Word.{has_bit}
use Rattle.lane_look.specs.declared.marks.Mark.{Mark}
use Rattle.outer_lane.specs.Setting.{Setting}
use Rattle.rp_machine.specs.State.{State}
use Rattle.rp_machine.specs.Cycle.{mark}

pub data Event : Type 0 where
  -- a UART, by its number, has sent a byte
  Byte : (cycle uart byte : ℕ) → Event
  -- a pin has a new level, high or low
  Pin : (cycle pin : ℕ) (high : Bool) → Event

abbrev pub bytes_of : ℕ → ℕ → List (Option ℕ) → List Event
bytes_of cycle uart [] = []
bytes_of cycle uart (None ∷ others) = bytes_of cycle (uart + 1) others
bytes_of cycle uart (Some byte ∷ others) = Byte cycle uart byte ∷ bytes_of cycle (uart + 1) others

-- the pins that have another level in one set than in the other
abbrev pub changed_pins : ℕ → ℕ → List ℕ
changed_pins before after = filter (has_bit (bit_xor before after)) (range_with_len 0 30)

abbrev pub changes_of : ℕ → ℕ → ℕ → List Event
changes_of cycle before after = map (λ pin. Pin cycle pin (has_bit after pin)) (changed_pins before after)

-- the events of a cycle that leaves this mark, where the pads had these levels before
unfoldable pub events_of : ℕ → ℕ → Mark → List Event
events_of cycle before mark = bytes_of cycle 0 mark.uart ++ changes_of cycle before mark.pads

-- the events of the cycle of a state
unfoldable pub events : Setting → State → List Event
events w s = events_of s.cycle s.outer.pads.current (mark w s)
