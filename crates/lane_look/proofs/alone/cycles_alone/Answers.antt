use Rattle.std.proofs.Common.{◌≡◌, ℕ, ◌+◌, ap, ◌∙◌, arith}
use Rattle.lane_look.specs.Replay.{meaning}
use Rattle.lane_look.specs.Alone.{surroundings}
use Rattle.lane_look.proofs.RunsAlone.{alone_next, alone_ended, alone_full}
use Rattle.lane_look.proofs.alone.cycles_alone.Goals as goal

pub returns-then-not-cycle_alone-clause-length : goal.returns-then-not-cycle_alone-clause-length
returns-then-not-cycle_alone-clause-length g c =
    let cycle : c.args.start + c.from.result ≡ c.args.start + c.loop-k.k = ap (λ (k : ℕ). c.args.start + k) c.from.ensures in
    alone_ended (meaning g.S.Lane.asks g.S.Lane.wanted g.S.Lane.next g.S.Lane.marked) (surroundings g.W.Around.answer g.W.Around.stored) c.args.env.now c.args.lane.now c.args.start c.args.look.now.around c.loop-k.k c.loop-k.lane c.loop-k.look.around c.loop-k.look.log.now c.loop-k.marks (c.args.start + c.from.result) c.cycle_alone.result c.args.at_most c.loop-k.invariant.0 cycle c.cycle_alone.ensures.goes c.if-not-cycle_alone.true c.loop-k-test.true

pub loop-k-preserved : goal.loop-k-preserved
loop-k-preserved g c =
    let cycle : c.args.start + c.from.result ≡ c.args.start + c.loop-k.k = ap (λ (k : ℕ). c.args.start + k) c.from.ensures in
    (alone_next (meaning g.S.Lane.asks g.S.Lane.wanted g.S.Lane.next g.S.Lane.marked) (surroundings g.W.Around.answer g.W.Around.stored) c.args.env.now c.args.lane.now c.args.start c.args.look.now.around c.loop-k.k c.loop-k.lane c.loop-k.look.around c.loop-k.look.log.now c.loop-k.marks (c.args.start + c.from.result) c.cycle_alone.result c.cycle_alone.new.lane c.cycle_alone.new.look.around c.cycle_alone.new.look.log.now c.cycle_alone.new.marks c.loop-k.invariant.0 cycle c.cycle_alone.ensures.goes c.if-not-cycle_alone.false c.if-not-cycle_alone.ensures.state c.cycle_alone.ensures.log c.cycle_alone.ensures.marks, c.cycle_alone.ensures.same_log ∙ c.loop-k.invariant.1)

pub returns-clause-length : goal.returns-clause-length
returns-clause-length g c = alone_full (meaning g.S.Lane.asks g.S.Lane.wanted g.S.Lane.next g.S.Lane.marked) (surroundings g.W.Around.answer g.W.Around.stored) c.args.env.now c.args.lane.now c.args.start c.args.look.now.around c.loop-k.k c.loop-k.lane c.loop-k.look.around c.loop-k.look.log.now c.loop-k.marks c.args.at_most c.loop-k.invariant.0 (omega arith)
