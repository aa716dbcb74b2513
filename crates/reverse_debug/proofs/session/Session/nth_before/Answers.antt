use Rattle.reverse_debug.proofs.Befores.{kept_of}
use Rattle.reverse_debug.proofs.session.Session.nth_before.Goals as goal

pub nth_before-requires-clause-kept : goal.nth_before-requires-clause-kept
nth_before-requires-clause-kept g c κs within = kept_of _ _ _ _ _ c.self.view_is c.requires.stands c.cycle-now.ensures
