use Rattle.m0_nvic.proofs.Period.{period}
use Rattle.m0_nvic.proofs.laws.the_timer_has_its_period.Goals as goal

pub returns : goal.returns
returns c = period
