use Rattle.rp_base.proofs.Exact.{both, four, seen}
use Rattle.pio_block.proofs.machines.Machines.is_same.Goals as goal

pub returns : goal.returns
returns c = seen _ c.self.view_is c.other.view_is
    (four _
    (both _ _ (both _ _ (both _ _ c.is_same-first.ensures c.is_same-second.ensures) c.is_same-third.ensures)
    c.is_same-fourth.ensures))
