use Rattle.uf2_image.proofs.Steps.{Pushed}
use Rattle.uf2_image.proofs.numbered.push_code.Given as goal

abbrev pub invariant-loop-left : goal.invariant-loop-left
invariant-loop-left l = Pushed l.fn.bytes.items l.fn.count l.fn.random.state l.bytes.items l.left l.random.state l.random.increment

abbrev pub decreases-loop-left : goal.decreases-loop-left
decreases-loop-left l = l.left
