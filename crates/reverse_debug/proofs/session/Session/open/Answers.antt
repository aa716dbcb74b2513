use Rattle.reverse_debug.proofs.Sessions.{opened}
use Rattle.reverse_debug.proofs.session.Session.open.Goals as goal

pub returns : goal.returns
returns c =
    opened _ _ _ _ _ _ _ _ c.requires.start c.requires.limit c.in_ok-ring.ensures c.spacing.ensures c.in_ok-near.ensures c.keep.ensures.kept c.keep-2.ensures.kept
    c.in_ok-twin.ensures
