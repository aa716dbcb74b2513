use Rattle.std.proofs.Common.{◌∙◌}
use Rattle.uf2_image.proofs.Placing.{keyed_parts, placed_step, values_of_all}
use Rattle.uf2_image.proofs.order.parts_in_order.Goals as goal

pub loop-block-init : goal.loop-block-init
unfolding keyed_parts
loop-block-init c = c.new-ordered.ensures.empty

pub loop-block-preserved : goal.loop-block-preserved
loop-block-preserved c = placed_step c.args.blocks.now c.loop-block.block-index c.block-item.result _ _ c.in_ok-part.part c.loop-block-test.true c.requires c.block-item.is c.in_ok-insert.ensures.entries c.loop-block.invariant c.in_ok-part.ensures.part

pub returns-clause-parts : goal.returns-clause-parts
returns-clause-parts c = c.from_vec.ensures ∙ c.in_ok-values_in_order.ensures.values ∙ values_of_all c.args.blocks.now c.loop-block.block-index c.loop-block.ordered.entries c.loop-block.invariant c.loop-block-test.false
