use Rattle.std.proofs.Common.{◌≡◌}
use Rattle.lane_look.specs.Quiet.{device_after}
use Rattle.pwm_block.specs.Device.{pwm_device}
use Rattle.pwm_block.proofs.device.cycles.Given as goal

abbrev pub invariant-loop-k : goal.invariant-loop-k
invariant-loop-k l = l.state ≡ device_after pwm_device l.pads l._first l._k l.fn.state
