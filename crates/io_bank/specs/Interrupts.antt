-- The words INTR, INTE, INTF and INTS (RP2040 Datasheet, 2.19.3, Interrupts, and 2.19.6.1, INTR0 to PROC1_INTS3). Each
-- word has four bits for each of eight pins: level low, level high, edge low and edge high.
use Rattle.std.specs.Prelude.{ℕ, ◌+◌, ◌*◌, ◌/◌, ◌%◌, Bool, not, ◌&&◌, ◌||◌, ◌==◌, if◌then◌else◌, bit_and, bit_or}
use Rattle.rp_base.specs.Word.{has_bit}
use Rattle.io_bank.specs.declared.events.Edges.{Edges}
use Rattle.io_bank.specs.declared.events.Events.{Events}
use Rattle.io_bank.specs.declared.events.Interrupts.{Interrupts}
use Rattle.io_bank.specs.Pins.{bits_below, pins_where}
use Rattle.io_bank.specs.State.{State}
use Rattle.io_bank.specs.Levels.{input_of}

-- the pins of a kind of event, by its number among a pin's four bits
abbrev pub kind_of : Events → ℕ → ℕ
kind_of e kind =
    if kind == 0 then e.level_low else if kind == 1 then e.level_high else if kind == 2 then e.edge_low else e.edge_high

-- the word of the eight pins from 8 * number on
abbrev pub event_word : Events → ℕ → ℕ
event_word e number = bits_below (λ bit. has_bit (kind_of e (bit % 4)) (8 * number + bit / 4)) 32

-- a word's bit of a pin and a kind
abbrev pub is_named : ℕ → ℕ → ℕ → Bool
is_named word kind pin = has_bit word (4 * (pin % 8) + kind)

-- a set of pins, of which a word gives eight
abbrev pub with_eight : ℕ → ℕ → ℕ → ℕ → ℕ
with_eight number word kind set =
    pins_where (λ pin. if pin / 8 == number then is_named word kind pin else has_bit set pin)

abbrev pub with_word : ℕ → ℕ → Events → Events
with_word number word e =
    record {
      level_low = with_eight number word 0 e.level_low;
      level_high = with_eight number word 1 e.level_high;
      edge_low = with_eight number word 2 e.edge_low;
      edge_high = with_eight number word 3 e.edge_high;
    }

-- INTR: the levels of the inputs, and the latched edges
abbrev pub raw_of : State → Events
raw_of s =
    record {
      level_low = pins_where (λ pin. not (input_of s s.second pin));
      level_high = pins_where (input_of s s.second);
      edge_low = s.latched.low;
      edge_high = s.latched.high;
    }

-- INTS is (INTR & INTE) | INTF
abbrev pub shown : Events → Interrupts → Events
shown raw i =
    record {
      level_low = bit_or (bit_and raw.level_low i.enable.level_low) i.force.level_low;
      level_high = bit_or (bit_and raw.level_high i.enable.level_high) i.force.level_high;
      edge_low = bit_or (bit_and raw.edge_low i.enable.edge_low) i.force.edge_low;
      edge_high = bit_or (bit_and raw.edge_high i.enable.edge_high) i.force.edge_high;
    }

-- some pin has some event
abbrev pub is_any : Events → Bool
is_any e = not (e.level_low == 0 && e.level_high == 0 && e.edge_low == 0 && e.edge_high == 0)

-- a core's interrupt line: a bit of its INTS is set
abbrev pub line_of : State → Interrupts → Bool
line_of s i = is_any (shown (raw_of s) i)

-- the edges that stay where a word is written to INTR: a 1 clears, but no edge of the same cycle
abbrev pub left_of : ℕ → ℕ → ℕ → ℕ → ℕ → ℕ
left_of number word kind latched fresh =
    pins_where (λ pin. has_bit latched pin && (has_bit fresh pin || not (pin / 8 == number && is_named word kind pin)))

abbrev pub cleared : ℕ → ℕ → Edges → Edges → Edges
cleared number word latched fresh =
    record {
      low = left_of number word 2 latched.low fresh.low;
      high = left_of number word 3 latched.high fresh.high;
    }
