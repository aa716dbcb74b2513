use Rattle.std.proofs.Common.{sym, arith}
use Rattle.lane_look.specs.Replay.{meaning}
use Rattle.lane_look.specs.Alone.{surroundings}
use Rattle.lane_look.proofs.RunsAlone.{alone_true}
use Rattle.lane_look.proofs.alone.run_lane_alone.Goals as goal

pub returns-clause-holds : goal.returns-clause-holds
returns-clause-holds g c =
    let within = c.alone_in.ensures.within in
    let same = c.alone_in.ensures.start in
    let cycles = c.requires.cycles in
    let number = c.requires.number in
    alone_true (meaning g.S.Lane.asks g.S.Lane.wanted g.S.Lane.next g.S.Lane.marked) (surroundings g.W.Around.answer g.W.Around.stored) c.args.env.now c.alone_in.new.report c.args.report.now.before c.args.around c.alone_in.result (sym c.alone_in.ensures.before) (omega arith) (omega arith) (rw same c.alone_in.ensures.run)
