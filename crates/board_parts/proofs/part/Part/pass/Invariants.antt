use Rattle.std.proofs.Common.{◌≡◌, ℕ, ◌≤◌, length}
use Rattle.lane_look.specs.Quiet.{device_after}
use Rattle.board_parts.specs.Parts.{part_device, placed_at}
use Rattle.board_parts.proofs.part.Part.pass.Given as goal

-- so many cycles have passed, and after each of them the state had its words
abbrev pub invariant-loop-k : goal.invariant-loop-k
invariant-loop-k g l =
    (l.state ≡ device_after (part_device (placed_at (g.Self.Part.attached l.self) (g.Self.Part.meaning l.self))) l.pads l.first l.k l.fn.state)
    × ((j : ℕ) → j ≤ l.k → length (device_after (part_device (placed_at (g.Self.Part.attached l.self) (g.Self.Part.meaning l.self))) l.pads l.first j l.fn.state) ≡ (g.Self.Part.meaning l.self).words)
