use Rattle.reverse_debug.proofs.Shared.{ap, arith, max, next_place, ◌+◌, ◌∙◌, ◌≤◌}
use Rattle.reverse_debug.proofs.Sessions.{low_number, part_low, part_stretched}
use Rattle.reverse_debug.proofs.session.Session.seek.Goals as goal

pub next_stop-until-requires-clause-ahead : goal.next_stop-until-requires-clause-ahead
next_stop-until-requires-clause-ahead g c = low_number _ _ c.requires.stands

pub seek-why-requires-clause-low : goal.seek-why-requires-clause-low
seek-why-requires-clause-low g c κs within = part_low _ _ _ c.self.view_is c.requires.stands

pub returns-clause-way : goal.returns-clause-way
returns-clause-way g c =
    let old = c.args.self.now in
    let reach : next_place old.ring old.now.cycle ≤ old.now.cycle + old.ring.spacing = omega arith in
    part_stretched _ _ _ _ _ _ _ _ _ _ _ _ c.self.view_is c.requires.stands c.seek-why.ensures.way (omega (arith, reach, c.next_stop-until.ensures.far))
    c.next_stop-until.ensures.far c.next_stop-until.ensures.near c.keep.ensures.kept c.keep-2.ensures.kept
    (c.max-self-inside.ensures ∙ ap (λ n. max c.self.inside.reached n) c.number.ensures)
