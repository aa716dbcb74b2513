use Rattle.rp_machine.proofs.Shared.{State, answer_of, answered, ap, arith, sym, the_view, ◌∙◌}
use Rattle.dma_engine.specs.Asks as dma
use Rattle.pio_block.specs.Cycle.{inputs_of as pins_of}
use Rattle.rp_machine.proofs.Going.{quiet_by, none_by}
use Rattle.rp_machine.proofs.machine.Machine.quiet_blocks.Goals as goal

pub returns-then-pio-eq0 : goal.returns-then-pio-eq0
returns-then-pio-eq0 c = none_by (the_view c.self.inside) c.args.self.now c.inputs_of-inputs.result c.quiet-pio0.result c.quiet.result c.self.view_is
    (c.inputs_of-inputs.ensures ∙ ap pins_of c.inputs.ensures) c.quiet-pio0.ensures c.quiet.ensures

pub returns : goal.returns
returns c =
    let s = c.args.self.now in
    let low = c.min-pio.ensures in
    let least = c.min.ensures in
    quiet_by (the_view c.self.inside) s c.inputs_of-inputs.result c.quiet-2.result c.quiet-pio0.result c.quiet.result c.min.result c.self.view_is
    (c.inputs_of-inputs.ensures ∙ ap pins_of c.inputs.ensures)
    (c.quiet-2.ensures (answer_of 2 s) (c.begin_dma.ensures ∙ ap (λ (x : State). answered (answer_of 2 s) (dma.asks x.dma.block)) (sym c.self.view_is)))
    c.quiet-pio0.ensures c.quiet.ensures (omega arith) (omega arith) (omega arith)
