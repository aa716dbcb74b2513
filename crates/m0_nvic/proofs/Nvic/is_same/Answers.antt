use Rattle.std.proofs.Common.{refl}
use Rattle.rp_base.proofs.Exact.{numbers, flags, lists, both, whole, seen, told}
use Rattle.m0_nvic.proofs.Comparisons.{exact_systick}
use Rattle.m0_nvic.proofs.Nvic.is_same.Goals as goal

pub returns : goal.returns
returns c = seen _ c.self.view_is c.other.view_is
    (whole _
    (λ t. ((((((((t.pending, t.active), t.enabled), t.priorities), t.lines), t.arrived), t.systick), t.vtor), t.scr))
    (λ p. record { pending = p.0.0.0.0.0.0.0.0; active = p.0.0.0.0.0.0.0.1; enabled = p.0.0.0.0.0.0.1; priorities = p.0.0.0.0.0.1; lines = p.0.0.0.0.1; arrived = p.0.0.0.1; systick = p.0.0.1; vtor = p.0.1; scr = p.1 })
    (λ _. refl)
    (both _ _ (both _ _ (both _ _ (both _ _ (both _ _ (both _ _ (both _ _ (both _ _ (numbers _ _)
    (numbers _ _))
    (numbers _ _))
    (told _ (lists numbers) c.eq-priorities.ensures))
    (numbers _ _))
    (flags _ _))
    (told _ exact_systick c.eq-systick.ensures))
    (numbers _ _))
    (numbers _ _)))
