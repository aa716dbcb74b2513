use Rattle.io_bank.specs.Routes.{routes_of}
use Rattle.io_bank.proofs.Same.{same_at, pwm_levels-same}
use Rattle.io_bank.proofs.bank.IoBank.is_pwm_same.Goals as goal

pub returns-clause-value : goal.returns-clause-value
unfolding routes_of
returns-clause-value c = rw (c.self.invariant, ← c.self.view_is) (same_at _ _ _)

pub returns-clause-levels : goal.returns-clause-levels
returns-clause-levels c same outs enables driven high =
    pwm_levels-same c.args.self.now outs _ _ enables driven high ((returns-clause-value c).0 same)
