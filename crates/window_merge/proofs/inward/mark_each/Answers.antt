use Rattle.window_merge.proofs.InwardCycles.{mark_with, same_more}
use Rattle.window_merge.proofs.inward.mark_each.Goals as goal

pub loop-k-preserved : goal.loop-k-preserved
loop-k-preserved c = same_more (mark_with c.args.pads) c.loop-k._k c.args.marks.now c.loop-k.marks c.push.new.self c.loop-k.invariant c.push.ensures
