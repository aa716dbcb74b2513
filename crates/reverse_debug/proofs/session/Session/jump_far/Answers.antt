use Rattle.std.proofs.Common.{sym, ◌∙◌}
use Rattle.reverse_debug.proofs.Sessions.{part_landed}
use Rattle.reverse_debug.proofs.session.Session.jump_far.Goals as goal

pub returns : goal.returns
returns c w k =
    part_landed w _ _ _ _ _ _ _ _ c.self.view_is k c.requires.far c.number-now.ensures c.in-Some.ensures c.restore.ensures.machine
    (sym c.is_nearer.ensures ∙ c.if-not-is_nearer.false) c.restart.ensures c.keep.ensures.kept
