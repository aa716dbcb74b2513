use Rattle.outer_lane.proofs.Staying.{pads_stay}
use Rattle.outer_lane.proofs.outer.Outer.stays_by.Goals as goal

pub returns-then-is_pwm_same : goal.returns-then-is_pwm_same
returns-then-is_pwm_same c same =
    let by = c.is_driven_by.ensures in
    rw (← c.self.view_is)
    (pads_stay _ _ _ _ c.self.inside.drivers (c.self.invariant.1.1 c.if-self.true)
    (by.pio0 same) (by.pio1 same) (c.is_pwm_same.ensures.levels c.if-is_pwm_same.true) (by.driven same) (by.high same))
