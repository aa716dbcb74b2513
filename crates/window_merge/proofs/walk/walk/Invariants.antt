use Rattle.lane_look.specs.Replay.{meaning}
use Rattle.window_merge.specs.Walks.{IsWalked}
use Rattle.window_merge.proofs.walk.walk.Given as goal

abbrev pub invariant-loop-k : goal.invariant-loop-k
invariant-loop-k g l = IsWalked (meaning g.S.Lane.asks g.S.Lane.wanted g.S.Lane.next g.S.Lane.marked) l.fn.lane l.start l.fn.walker l.k l.lane l.walker l.ended
