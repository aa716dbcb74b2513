use Rattle.std.proofs.Common.{refl}
use Rattle.lane_look.specs.Replay.{meaning}
use Rattle.lane_look.specs.Alone.{surroundings}
use Rattle.lane_look.proofs.Records.{asks_more, runs_recorded, goes_on, stepped, few_more, unchanged}
use Rattle.lane_look.proofs.alone.cycle_alone.Goals as goal

pub returns-then-ends_wants-clause-goes : goal.returns-then-ends_wants-clause-goes
returns-then-ends_wants-clause-goes g c =
    let r = runs_recorded g.W.Around.answer c.args.look.now _ _ _ 8 c.begin-begun.ensures (asks_more (g.S.Lane.asks c.args.env.now c.args.lane.now c.args.cycle) g.S.Lane.most 8 g.met.S.Lane.few (g.met.S.Lane.asks_at_most c.args.env.now c.args.lane.now c.args.cycle)) c.requires.room in
    goes_on (meaning g.S.Lane.asks g.S.Lane.wanted g.S.Lane.next g.S.Lane.marked) (surroundings g.W.Around.answer g.W.Around.stored) c.args.env.now c.args.cycle c.args.lane.now c.args.look.now.around _ _ _ _ r.begun c.wants-wants.ensures c.ends_wants.ensures c.if-ends_wants.true

pub returns-then-ends_wants-clause-state : goal.returns-then-ends_wants-clause-state
returns-then-ends_wants-clause-state g c =
    let r = runs_recorded g.W.Around.answer c.args.look.now _ _ _ 8 c.begin-begun.ensures (asks_more (g.S.Lane.asks c.args.env.now c.args.lane.now c.args.cycle) g.S.Lane.most 8 g.met.S.Lane.few (g.met.S.Lane.asks_at_most c.args.env.now c.args.lane.now c.args.cycle)) c.requires.room in
    unchanged g.W.Around.answer c.args.look.now _ _ _ _ _ _ _ _ r refl c.count-kept.ensures.value c.cut.ensures

pub returns-then-ends_wants-clause-same_log : goal.returns-then-ends_wants-clause-same_log
returns-then-ends_wants-clause-same_log g c =
    let r = runs_recorded g.W.Around.answer c.args.look.now _ _ _ 8 c.begin-begun.ensures (asks_more (g.S.Lane.asks c.args.env.now c.args.lane.now c.args.cycle) g.S.Lane.most 8 g.met.S.Lane.few (g.met.S.Lane.asks_at_most c.args.env.now c.args.lane.now c.args.cycle)) c.requires.room in
    r.same

pub returns-clause-goes : goal.returns-clause-goes
returns-clause-goes g c =
    let r = runs_recorded g.W.Around.answer c.args.look.now _ _ _ 8 c.begin-begun.ensures (asks_more (g.S.Lane.asks c.args.env.now c.args.lane.now c.args.cycle) g.S.Lane.most 8 g.met.S.Lane.few (g.met.S.Lane.asks_at_most c.args.env.now c.args.lane.now c.args.cycle)) c.requires.room in
    goes_on (meaning g.S.Lane.asks g.S.Lane.wanted g.S.Lane.next g.S.Lane.marked) (surroundings g.W.Around.answer g.W.Around.stored) c.args.env.now c.args.cycle c.args.lane.now c.args.look.now.around _ _ _ _ r.begun c.wants-wants.ensures c.ends_wants.ensures c.if-ends_wants.false

pub returns-clause-state : goal.returns-clause-state
returns-clause-state g c =
    let r = runs_recorded g.W.Around.answer c.args.look.now _ _ _ 8 c.begin-begun.ensures (asks_more (g.S.Lane.asks c.args.env.now c.args.lane.now c.args.cycle) g.S.Lane.most 8 g.met.S.Lane.few (g.met.S.Lane.asks_at_most c.args.env.now c.args.lane.now c.args.cycle)) c.requires.room in
    stepped (meaning g.S.Lane.asks g.S.Lane.wanted g.S.Lane.next g.S.Lane.marked) (surroundings g.W.Around.answer g.W.Around.stored) c.args.env.now c.args.cycle c.args.lane.now c.args.look.now c.args.marks.now _ _ _ _ _ _ _ r c.wants-wants.ensures c.finish_alone.ensures.state c.finish_alone.ensures.marks c.store_all.ensures refl

pub returns-clause-log : goal.returns-clause-log
returns-clause-log g c =
    let r = runs_recorded g.W.Around.answer c.args.look.now _ _ _ 8 c.begin-begun.ensures (asks_more (g.S.Lane.asks c.args.env.now c.args.lane.now c.args.cycle) g.S.Lane.most 8 g.met.S.Lane.few (g.met.S.Lane.asks_at_most c.args.env.now c.args.lane.now c.args.cycle)) c.requires.room in
    few_more g.W.Around.answer c.args.look.now _ _ _ r (asks_more (g.S.Lane.asks c.args.env.now c.args.lane.now c.args.cycle) g.S.Lane.most 8 g.met.S.Lane.few (g.met.S.Lane.asks_at_most c.args.env.now c.args.lane.now c.args.cycle))

pub returns-clause-same_log : goal.returns-clause-same_log
returns-clause-same_log g c =
    let r = runs_recorded g.W.Around.answer c.args.look.now _ _ _ 8 c.begin-begun.ensures (asks_more (g.S.Lane.asks c.args.env.now c.args.lane.now c.args.cycle) g.S.Lane.most 8 g.met.S.Lane.few (g.met.S.Lane.asks_at_most c.args.env.now c.args.lane.now c.args.cycle)) c.requires.room in
    r.same
