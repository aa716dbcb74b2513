use Rattle.std.proofs.Common.{arith}
use Rattle.reverse_debug.proofs.Sessions.{part_stops}
use Rattle.reverse_debug.proofs.session.Session.next_stop.Goals as goal

pub place_after-far-requires-clause-small : goal.place_after-far-requires-clause-small
place_after-far-requires-clause-small c =
    let h = part_stops _ _ c.self.view_is c.requires.stands in
    omega (arith, c.number-at.ensures, h.small)

pub place_after-requires-clause-small : goal.place_after-requires-clause-small
place_after-requires-clause-small c =
    let h = part_stops _ _ c.self.view_is c.requires.stands in
    omega (arith, c.number-at.ensures, h.small, h.low)
