use Rattle.pwm_block.proofs.packing.+enabled.Given as goal

abbrev pub decreases-enabled : goal.decreases-enabled
decreases-enabled l = l.left
