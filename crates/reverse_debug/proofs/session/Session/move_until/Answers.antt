use Rattle.reverse_debug.proofs.Moves.{stop_written}
use Rattle.reverse_debug.proofs.Seeking.{moved_behind, none_behind}
use Rattle.reverse_debug.proofs.session.Session.move_until.Goals as goal

pub returns-in-None : goal.returns-in-None
returns-in-None g c = moved_behind _ _ _ _ _ _ _ _ _ c.requires.stands c.in-None.ensures c.cycle.ensures c.put_cycle.ensures

pub returns-in-Some : goal.returns-in-Some
returns-in-Some g c = none_behind _ _ _ _ _ _ _ _ _ c.requires.stands c.in-Some.ensures (stop_written _ _ _ _ _ c.requires.empty c.cycle-in-Some.ensures c.stop_line.ensures)
