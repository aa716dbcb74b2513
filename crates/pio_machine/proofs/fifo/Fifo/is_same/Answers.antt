use Rattle.rp_base.proofs.Exact.{numbers, lists, seen, told}
use Rattle.pio_machine.proofs.fifo.Fifo.is_same.Goals as goal

pub returns : goal.returns
returns c = seen _ c.self.view_is c.other.view_is
    (seen _ c.as_slice.ensures.value c.as_slice-2.ensures.value (told _ (lists numbers) c.eq.ensures))
