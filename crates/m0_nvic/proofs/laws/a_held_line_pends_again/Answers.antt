use Rattle.m0_nvic.proofs.Held.{a_held_line_pends_again}
use Rattle.m0_nvic.proofs.laws.a_held_line_pends_again.Goals as goal

pub returns : goal.returns
returns c = a_held_line_pends_again
