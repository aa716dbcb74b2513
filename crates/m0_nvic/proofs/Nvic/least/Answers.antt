use Rattle.m0_nvic.proofs.Least.{least_of-empty}
use Rattle.m0_nvic.proofs.Nvic.least.Goals as goal

pub returns-then-set-eq0 : goal.returns-then-set-eq0
returns-then-set-eq0 c = rw c.if-set-eq0.true (least_of-empty c.args.self.now)
