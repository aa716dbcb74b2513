use Rattle.pwm_block.proofs.Wraps.{a_write_shows_at_the_wrap}
use Rattle.pwm_block.proofs.laws.a_write_shows_at_the_wrap.Goals as goal

pub returns : goal.returns
returns c = a_write_shows_at_the_wrap
