use Rattle.std.proofs.Common.{refl}
use Rattle.rp_base.proofs.Exact.{numbers, flags, lists, both, whole, seen, told}
use Rattle.rp_timer.proofs.timer.Timer.is_same.Goals as goal

pub returns : goal.returns
returns c = seen _ c.self.view_is c.other.view_is
    (whole _
    (λ t. (((((((((t.time, t.low), t.high), t.alarms), t.armed), t.paused), t.debug_pause), t.raised), t.enabled), t.forced))
    (λ p. record { time = p.0.0.0.0.0.0.0.0.0; low = p.0.0.0.0.0.0.0.0.1; high = p.0.0.0.0.0.0.0.1; alarms = p.0.0.0.0.0.0.1; armed = p.0.0.0.0.0.1; paused = p.0.0.0.0.1; debug_pause = p.0.0.0.1; raised = p.0.0.1; enabled = p.0.1; forced = p.1 })
    (λ _. refl)
    (both _ _ (both _ _ (both _ _ (both _ _ (both _ _ (both _ _ (both _ _ (both _ _ (both _ _ (numbers _ _)
    (numbers _ _))
    (numbers _ _))
    (told _ (lists numbers) c.eq-alarms.ensures))
    (numbers _ _))
    (flags _ _))
    (numbers _ _))
    (numbers _ _))
    (numbers _ _))
    (numbers _ _)))
