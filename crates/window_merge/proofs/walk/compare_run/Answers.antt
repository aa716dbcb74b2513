use Rattle.window_merge.proofs.Shared.{ap, meaning, refl}
use Rattle.rp_machine.specs.State.{State}
use Rattle.window_merge.proofs.Walking.{walked_other, walked_length}
use Rattle.window_merge.proofs.walk.compare_run.Goals as goal

pub returns-clause-length : goal.returns-clause-length
returns-clause-length g c =
    walked_length (meaning g.S.Lane.asks g.S.Lane.wanted g.S.Lane.next g.S.Lane.marked) c.args.lane c.machine.inside.at _ c.args.cycles _ _ _ c.args.machine.now c.args.number c.args.at_most c.is_length-same_length.result
    c.walk-ended.ensures refl c.new.ensures refl (ap (λ (s : State). s.cycle) c.machine.view_is) c.is_length-same_length.ensures

pub returns-clause-other : goal.returns-clause-other
returns-clause-other g c =
    walked_other (meaning g.S.Lane.asks g.S.Lane.wanted g.S.Lane.next g.S.Lane.marked) c.args.lane c.machine.inside.at _ c.args.cycles _ _ _ c.args.machine.now c.args.number c.args.log.now c.first_other-other.result
    c.walk-ended.ensures refl c.new.ensures refl (ap (λ (s : State). s.cycle) c.machine.view_is) refl c.first_other-other.ensures
