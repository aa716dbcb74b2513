use Rattle.std.proofs.Common.{◌≤◌, length}
use Rattle.lane_look.specs.Replay.{meaning}
use Rattle.lane_look.proofs.Replays.{Stands}
use Rattle.lane_look.proofs.replay.replay.Given as goal

abbrev pub invariant-loop-k : goal.invariant-loop-k
invariant-loop-k g l = record {
  stands : Stands (meaning g.S.Lane.asks g.S.Lane.wanted g.S.Lane.next g.S.Lane.marked) l.env l.fn.lane l.start l.log l.k l.lane l.look l.marks;
  shorter : length l.look ≤ length l.log;
}
