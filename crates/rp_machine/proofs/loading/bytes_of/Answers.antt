use Rattle.rp_machine.proofs.Placing.{next_part_inside, placed_next}
use Rattle.rp_machine.proofs.loading.bytes_of.Goals as goal

pub put_part-requires-clause-low : goal.put_part-requires-clause-low
put_part-requires-clause-low c = (next_part_inside _ _ _ _ c.loop-part.invariant.1 c.loop-part-test.true c.part-item.is).0

pub put_part-requires-clause-high : goal.put_part-requires-clause-high
put_part-requires-clause-high c = (next_part_inside _ _ _ _ c.loop-part.invariant.1 c.loop-part-test.true c.part-item.is).1

pub loop-part-preserved : goal.loop-part-preserved
loop-part-preserved c =
    (c.put_part.ensures.size, placed_next _ _ _ _ _ c.loop-part.invariant.1 c.loop-part-test.true c.part-item.is c.put_part.ensures.value)
