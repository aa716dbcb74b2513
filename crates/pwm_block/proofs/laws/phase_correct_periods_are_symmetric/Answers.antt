use Rattle.pwm_block.proofs.Periods.{phase_correct_periods_are_symmetric}
use Rattle.pwm_block.proofs.laws.phase_correct_periods_are_symmetric.Goals as goal

pub returns : goal.returns
returns c = phase_correct_periods_are_symmetric
