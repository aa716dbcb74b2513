use Rattle.std.proofs.Common.{◌≡◌}
use Rattle.lane_look.specs.Device.{paired}
use Rattle.lane_look.specs.Quiet.{device_after}
use Rattle.lane_look.proofs.pair.PairDevice.pass.Given as goal

abbrev pub invariant-loop-k : goal.invariant-loop-k
invariant-loop-k g l = l.state ≡ device_after (paired (g.A.Device.meaning l.self.first) (g.B.Device.meaning l.self.second)) l.pads l.first l.k l.fn.state
