use Rattle.pico_top.proofs.Shared.{refl}
use Rattle.pico_top.proofs.open.boot.Goals as goal

pub returns-in-Run-clause-ok : goal.returns-in-Run-clause-ok
returns-in-Run-clause-ok g c = rw c.in-Run.is (_, refl, c.in_ok-machine.ensures, refl, refl, refl)

pub returns-in_ok-open-in-Debug-clause-ok : goal.returns-in_ok-open-in-Debug-clause-ok
returns-in_ok-open-in-Debug-clause-ok g c = rw c.in-Debug.is (_, refl, rw c.in_ok-machine.ensures at c.in_ok-open-in-Debug.ensures, refl, refl)
