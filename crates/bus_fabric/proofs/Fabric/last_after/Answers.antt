use Rattle.std.proofs.Common.{ap}
use Rattle.bus_fabric.specs.State.{State}
use Rattle.bus_fabric.proofs.Remembering.{all_remembered}
use Rattle.bus_fabric.proofs.Fabric.last_after.Goals as goal

pub returns : goal.returns
returns c =
    rw (
      c.remember-4.ensures,
      c.remember-3.ensures,
      c.remember-2.ensures,
      c.remember.ensures,
      c.requires.won,
      ap (λ (s : State). s.last) c.self.view_is,
    )
    (all_remembered c.args.asked.now c.args.self.now)
