use Rattle.pwm_block.proofs.Counting.{counts_are_those_of_the_divider}
use Rattle.pwm_block.proofs.laws.counts_are_those_of_the_divider.Goals as goal

pub returns : goal.returns
returns c = counts_are_those_of_the_divider
