use Rattle.window_merge.proofs.InwardCycles.{mark_with, AreSame}
use Rattle.window_merge.proofs.inward.mark_each.Given as goal

abbrev pub invariant-loop-k : goal.invariant-loop-k
invariant-loop-k l = AreSame (mark_with l.fn.pads) l._k l.fn.marks l.marks
