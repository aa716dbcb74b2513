use Rattle.std.proofs.Common.{sym, ◌∙◌}
use Rattle.rp_base.specs.declared.map.Block.TheVariants as block
use Rattle.outer_lane.proofs.BroughtUp.{pure_after}
use Rattle.outer_lane.proofs.behind.Behind.is_pure_read.Goals as goal

pub returns-in-Uart0 : goal.returns-in-Uart0
returns-in-Uart0 c =
    rw (← c.self.view_is, c.in-Uart0.is)
    (c.is_pure_read.ensures ∙ sym (pure_after _ _ _ _ _ _ block.Uart0 c.args.offset c.self.invariant.1.1.0 c.self.invariant.0))

pub returns-in-Uart1 : goal.returns-in-Uart1
returns-in-Uart1 c =
    rw (← c.self.view_is, c.in-Uart1.is)
    (c.is_pure_read-in-Uart1.ensures ∙ sym (pure_after _ _ _ _ _ _ block.Uart1 c.args.offset c.self.invariant.1.1.0 c.self.invariant.0))
