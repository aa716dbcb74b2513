use Rattle.std.proofs.Common.{◌+◌, ℕ, arith, ap}
use Rattle.lane_look.proofs.Replays.{stands_next, runs_shorter}
use Rattle.lane_look.proofs.replay.replay.Goals as goal

pub loop-k-preserved : goal.loop-k-preserved
loop-k-preserved g c = record {
  stands = stands_next _ _ _ _ _ _ _ _ _ _ _ _ _ _ c.loop-k.invariant.stands c.begin-begun.ensures (ap (λ (k : ℕ). c.args.start + k) c.from.ensures) c.finish_alone.ensures.state c.finish_alone.ensures.marks;
  shorter = let one = runs_shorter _ _ _ _ c.begin-begun.ensures in omega (arith, one);
}
