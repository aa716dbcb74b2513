use Rattle.reverse_debug.proofs.Sessions.{part_close}
use Rattle.reverse_debug.proofs.session.Session.jump_near.Goals as goal

pub returns : goal.returns
returns c w k = part_close w _ _ _ _ _ c.self.view_is k c.requires.close c.in-Some.ensures c.restore.ensures.machine
