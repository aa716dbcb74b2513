use Rattle.reverse_debug.proofs.Moves.{moved_there, moved_stopped, stop_written}
use Rattle.reverse_debug.proofs.session.Session.move_to.Goals as goal

pub returns-in-None : goal.returns-in-None
returns-in-None g c =
    moved_there _ _ _ _ _ _ _ _ c.requires.stands (c.jump.ensures _ c.requires.stands) c.in-None.ensures.way c.in-None.ensures.there c.put_cycle.ensures

pub returns-in-Some : goal.returns-in-Some
returns-in-Some g c =
    moved_stopped _ _ _ _ _ _ _ _ _ c.requires.stands (c.jump.ensures _ c.requires.stands) c.in-Some.ensures.way
    (stop_written _ _ _ _ _ c.requires.empty c.cycle.ensures c.stop_line.ensures)
