use Rattle.reverse_debug.proofs.Seeking.{seeking_on, seeking_nearer, seeking_stopped}
use Rattle.reverse_debug.proofs.session.Session.until_nth.Goals as goal

pub cycles-smaller : goal.cycles-smaller
cycles-smaller g c = seeking_nearer _ _ _ _ _ _ c.in-None.ensures.way c.in-None.ensures.ahead

pub cycles-preserved : goal.cycles-preserved
cycles-preserved g c =
    seeking_on _ _ _ _ _ _ _ _ _ _ _ _ _ _ _ _ _ c.cycles.invariant c.cycles-test.true c.self.view_is c.in-None.ensures.way c.in-None.ensures.ahead
    c.in-None.ensures.none c.self-in-cycles.view_is c.seen.ensures c.seen-before.ensures c.ends_by-ended.ensures c.fewer-left.ensures

pub returns-in-Some : goal.returns-in-Some
returns-in-Some g c = seeking_stopped _ _ _ _ _ _ _ _ _ _ _ _ c.cycles.invariant c.cycles-test.true c.in-Some.ensures.way c.in-Some.ensures.none
