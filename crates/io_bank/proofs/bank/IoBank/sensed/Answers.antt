use Rattle.io_bank.specs.contracts.bank.IoBank.{the_view}
use Rattle.io_bank.proofs.Routed.{routed_inputs-is}
use Rattle.io_bank.proofs.bank.IoBank.sensed.Goals as goal

pub returns : goal.returns
returns c = rw (c.inputs.ensures, c.self.invariant, ← c.self.view_is) (routed_inputs-is (the_view c.self.inside) _)
