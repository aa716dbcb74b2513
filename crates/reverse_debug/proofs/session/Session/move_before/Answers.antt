use Rattle.reverse_debug.proofs.Befores.{went_back}
use Rattle.reverse_debug.proofs.session.Session.move_before.Goals as goal

pub returns-in-Some : goal.returns-in-Some
returns-in-Some g c =
    went_back _ _ _ _ _ _ _ _ _ _ _ c.requires.stands c.in-Some.ensures.same c.in-Some.ensures.found c.in-Some.ensures.forward c.in-Some.ensures.steps c.in-Some.ensures.near c.move_to.ensures
