use Rattle.std.proofs.Common.{ap}
use Rattle.rp_timer.specs.State.{lines_of}
use Rattle.rp_timer.proofs.Passing.{stands}
use Rattle.rp_timer.proofs.timer.Timer.quiet.Goals as goal

pub returns-then-self : goal.returns-then-self
returns-then-self c = record { lines = λ k le. ap lines_of (stands c.args.self.now c.args.cycle k (rw (← c.self.view_is) c.if-self.true)) }
