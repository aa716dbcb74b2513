use Rattle.m0_nvic.proofs.Nvic.+least_member.Given as goal

abbrev pub decreases-least_member : goal.decreases-least_member
decreases-least_member l = l.set
