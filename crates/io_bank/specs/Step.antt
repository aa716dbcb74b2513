-- A cycle of the pads: the levels of the last three cycles move on, and edges are latched where the second level changes
-- an input. A part of the chip sees a pad through two flip-flops (RP2040 Datasheet, 2.19, GPIO, and 3.5.6.3, Input
-- Synchronisers), and an interrupt sees the second of them.
use Rattle.std.specs.Prelude.{ℕ, Bool, ◌&&◌, ◌==◌, Option}
use Rattle.io_bank.specs.declared.outputs.Outs.{Outs}
use Rattle.io_bank.specs.declared.events.Edges.{Edges}
use Rattle.io_bank.specs.State.{State}
use Rattle.io_bank.specs.Levels.{levels_of}
use Rattle.io_bank.specs.Edges.{edges_of, joined}

abbrev pub with_edges : Edges → State → State
with_edges edges s = record s { latched = joined s.latched edges; fresh = edges }

abbrev pub with_levels : ℕ → State → State
with_levels levels s = record s { current = levels; first = s.current; second = s.first }

-- the levels go on also while the registers are held
abbrev pub after_step : Outs → (ℕ → Option Bool) → State → State
after_step outs outside s = with_levels (levels_of outs outside s) (with_edges (edges_of s) s)

-- the levels of the last three cycles are the same, and the last step latched no edge
abbrev pub is_quiet : State → Bool
is_quiet s = s.first == s.current && s.second == s.first && s.fresh.low == 0 && s.fresh.high == 0
