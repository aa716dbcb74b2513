use Rattle.std.proofs.Common.{max, ap, ◌∙◌}
use Rattle.reverse_debug.proofs.Sessions.{part_low, part_stretched}
use Rattle.reverse_debug.proofs.session.Session.stretch.Goals as goal

pub advance-why-requires-clause-low : goal.advance-why-requires-clause-low
advance-why-requires-clause-low g c κs within = part_low _ _ _ c.self.view_is c.requires.stands

pub returns-clause-way : goal.returns-clause-way
returns-clause-way g c =
    part_stretched _ _ _ _ _ _ _ _ _ _ _ _ c.self.view_is c.requires.stands c.advance-why.ensures.way c.next_stop-until.ensures.within
    c.next_stop-until.ensures.far c.next_stop-until.ensures.near c.keep.ensures.kept c.keep-2.ensures.kept
    (c.max-self-inside.ensures ∙ ap (λ n. max c.self.inside.reached n) c.number.ensures)
