use Rattle.io_bank.specs.contracts.bank.IoBank.{the_view}
use Rattle.io_bank.proofs.Routed.{routed_levels-is}
use Rattle.io_bank.proofs.bank.IoBank.levels.Goals as goal

pub returns : goal.returns
returns c = rw (c.levels.ensures, c.self.invariant, ← c.self.view_is) (routed_levels-is (the_view c.self.inside) _ _ _)
