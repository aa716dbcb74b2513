use Rattle.std.proofs.Common.{◌+◌, ◌^◌, ◌<◌, arith}
use Rattle.reverse_debug.proofs.Moves.{sum_fits, end_obeyed}
use Rattle.reverse_debug.proofs.session.Session.obey.Goals as goal

pub overflow_add-now : goal.overflow_add-now
overflow_add-now g c =
    let low : c.cycle-now.result + c.in-Step.cycles < 2 ^ 64 = sum_fits _ _ _ _ _ c.requires.stands c.requires.fits c.in-Step.is c.cycle-now.ensures in
    omega arith

pub returns-in-End : goal.returns-in-End
returns-in-End g c = end_obeyed _ _ _ _ _ _ _ _ c.in-End.is c.move_to-in-End.view_is c.requires.stands c.move_to-in-End-2.ensures
