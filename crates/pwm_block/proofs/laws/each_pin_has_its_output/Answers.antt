use Rattle.pwm_block.proofs.Pins.{each_pin_has_its_output}
use Rattle.pwm_block.proofs.laws.each_pin_has_its_output.Goals as goal

pub returns : goal.returns
returns c = each_pin_has_its_output
