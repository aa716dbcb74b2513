use Rattle.window_merge.proofs.Shared.{ap, meaning, ℕ, ◌+◌, ◌≡◌}
use Rattle.window_merge.proofs.Walking.{walk_next}
use Rattle.window_merge.proofs.walk.walk.Goals as goal
use Rattle.window_merge.proofs.walk.walk.Goals.{then-step, else-step}

pub loop-k-preserved : goal.loop-k-preserved
loop-k-preserved g c =
    let cycle : c.args.start + c.from.result ≡ c.args.start + c.loop-k.k = ap (λ (k : ℕ). c.args.start + k) c.from.ensures in
    walk_next (meaning g.S.Lane.asks g.S.Lane.wanted g.S.Lane.next g.S.Lane.marked) c.args.lane.now c.args.start c.args.walker.now c.loop-k.k c.loop-k.lane c.step.new.lane c.loop-k.walker c.step.new.walker (c.args.start + c.from.result)
    c.loop-k.ended c.step.result c.if-step.ended c.loop-k.invariant c.step.ensures cycle (elim c.if-step.branch [
      | then-step w ↦ rw w.if-step.true w.ended-is
      | else-step w ↦ rw w.if-step.false w.ended-is
    ])
