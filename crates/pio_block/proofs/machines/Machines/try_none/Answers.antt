use Rattle.std.proofs.Common.{List, subst, ap, ◌∙◌, min}
use Rattle.pio_machine.specs.declared.machine.Machine1.{Machine1}
use Rattle.pio_block.specs.Quiet.{AreMachinesQuiet}
use Rattle.pio_block.proofs.Between.{four_machines}
use Rattle.pio_block.proofs.machines.Machines.try_none.Goals as goal

pub returns : goal.returns
returns c seen level enable =
    subst (λ (ms : List Machine1). AreMachinesQuiet 0 seen level enable ms c.min.result) c.self.view_is
    (four_machines seen level enable _ _ _ _ _ _ _ _ _ (c.tries_none.ensures 0 seen level enable) (c.tries_none-2.ensures 1 seen level enable)
    (c.tries_none-3.ensures 2 seen level enable) (c.tries_none-4.ensures 3 seen level enable)
    (c.min.ensures ∙ ap (λ x. min x c.min-high.result) c.min-low.ensures ∙ ap (min (min c.tries_none.result c.tries_none-2.result)) c.min-high.ensures))
