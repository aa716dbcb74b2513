use Rattle.std.proofs.Common.{sym}
use Rattle.rp_timer.proofs.Passing.{stands}
use Rattle.rp_timer.proofs.timer.Timer.pass.Goals as goal

pub returns-then-self : goal.returns-then-self
returns-then-self c = sym (stands c.args.self.now c.args.first c.args.n (rw (← c.self.view_is) c.if-self.true))
