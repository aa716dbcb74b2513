use Rattle.std.proofs.Common.{◌≡◌}
use Rattle.lane_look.specs.Replay.{meaning}
use Rattle.lane_look.specs.Alone.{surroundings}
use Rattle.lane_look.proofs.RunsAlone.{RunsAlone}
use Rattle.lane_look.proofs.alone.cycles_alone.Given as goal

abbrev pub invariant-loop-k : goal.invariant-loop-k
invariant-loop-k g l = RunsAlone (meaning g.S.Lane.asks g.S.Lane.wanted g.S.Lane.next g.S.Lane.marked) (surroundings g.W.Around.answer g.W.Around.stored) l.env l.fn.lane l.start l.fn.look.around l.k l.lane l.look.around l.look.log.now l.marks × (l.look.log.ghost_name ≡ l.fn.look.log.ghost_name)
