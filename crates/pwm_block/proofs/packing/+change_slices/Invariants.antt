use Rattle.pwm_block.proofs.packing.+change_slices.Given as goal

abbrev pub decreases-change_slices : goal.decreases-change_slices
decreases-change_slices l = l.left
