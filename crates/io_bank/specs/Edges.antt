-- The edges that a step latches (RP2040 Datasheet, 2.19.3, Interrupts).
use Rattle.std.specs.Prelude.{ℕ, not, ◌&&◌, if◌then◌else◌, bit_or}
use Rattle.io_bank.specs.declared.events.Edges.{Edges}
use Rattle.io_bank.specs.Pins.{pins_where}
use Rattle.io_bank.specs.State.{State, no_edges}
use Rattle.io_bank.specs.Levels.{input_of}

-- the inputs that go low and high as the second level becomes the first one
abbrev pub falling : State → ℕ
falling s = pins_where (λ pin. input_of s s.second pin && not (input_of s s.first pin))

abbrev pub rising : State → ℕ
rising s = pins_where (λ pin. not (input_of s s.second pin) && input_of s s.first pin)

-- no edge is seen while IO_BANK0 is held
abbrev pub edges_of : State → Edges
edges_of s = if s.bank_held then no_edges else record { low = falling s; high = rising s }

abbrev pub joined : Edges → Edges → Edges
joined a b = record { low = bit_or a.low b.low; high = bit_or a.high b.high }
