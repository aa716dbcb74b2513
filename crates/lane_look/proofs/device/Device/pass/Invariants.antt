use Rattle.std.proofs.Common.{◌≡◌}
use Rattle.lane_look.specs.Quiet.{device_after}
use Rattle.lane_look.proofs.device.Device.pass.Given as goal

abbrev pub invariant-loop-k : goal.invariant-loop-k
invariant-loop-k g l = l.state ≡ device_after (g.Self.Device.meaning l.self) l.pads l.first l.k l.fn.state
