use Rattle.std.proofs.Common.{[], ◌∷◌, ◌++◌, ap, ◌∙◌}
use Rattle.outer_lane.proofs.Staying.{driven_next, driven_marked}
use Rattle.outer_lane.proofs.outer.Outer.step_by.Goals as goal

pub returns-clause-state : goal.returns-clause-state
returns-clause-state c =
    rw (← c.self.view_is) (c.step_all.ensures.state ∙ driven_next _ _ _ _ _ c.drives-drives.ensures)

pub returns-clause-marks : goal.returns-clause-marks
returns-clause-marks c =
    rw (← c.self.view_is)
    (c.step_all.ensures.marks ∙ ap (λ m. c.args.marks.now ++ m ∷ []) (driven_marked _ _ _ _ _ c.drives-drives.ensures))
