use Rattle.window_merge.proofs.Shared.{IsWindow, ap, arith, begun, setting, subst, sym, ◌∙◌, ◌≡◌}
use Rattle.std.proofs.lemmas.List.{append-nil}
use Rattle.rp_machine.specs.State.{State}
use Rattle.window_merge.proofs.Windows.{at_most}
use Rattle.window_merge.proofs.Passing.{along_none, closed_later, closed_full, passes_later, has_room}
use Rattle.window_merge.proofs.InwardCycles.{same_first, start_first}
use Rattle.window_merge.proofs.here.go.Goals as goal

pub go_paced-more-requires-clause-first : goal.go_paced-more-requires-clause-first
go_paced-more-requires-clause-first g c κs within = λ zero. start_first c.cycles.invariant.passes zero

pub try_later-requires-clause-first : goal.try_later-requires-clause-first
try_later-requires-clause-first g c κs within = λ zero.
    let p = along_none c.cycles.invariant.passes c.go_paced-more.ensures.gone c.cycles-test.true c.requires.most c.if-more-gt0.false in
    c.cycles.invariant.first zero ∙ ap begun (c.cycles.invariant.passes.stands.is_states ∙ sym p.stands.is_states)

pub try_later-requires-clause-same : goal.try_later-requires-clause-same
try_later-requires-clause-same g c κs within = λ zero.
    let p = along_none c.cycles.invariant.passes c.go_paced-more.ensures.gone c.cycles-test.true c.requires.most c.if-more-gt0.false in
    same_first p zero

pub try_later-requires-clause-number : goal.try_later-requires-clause-number
try_later-requires-clause-number g c κs within =
    let below = c.cycles-test.true in
    let p = along_none c.cycles.invariant.passes c.go_paced-more.ensures.gone c.cycles-test.true c.requires.most c.if-more-gt0.false in
    let at = p.stands.at in
    let top = c.requires.number in
    omega (arith, at, below, top)

pub try_later-requires-clause-marks : goal.try_later-requires-clause-marks
try_later-requires-clause-marks g c κs within =
    let below = c.cycles-test.true in
    let most = c.requires.most in
    let p = along_none c.cycles.invariant.passes c.go_paced-more.ensures.gone c.cycles-test.true c.requires.most c.if-more-gt0.false in
    let few = at_most (setting g.X.Device.meaning c.args.world.now) c.args.machine.now in
    let count = p.stands.few in
    omega (arith, below, most, few, count)

pub try_later-requires-clause-room : goal.try_later-requires-clause-room
try_later-requires-clause-room g c κs within =
    let below = c.cycles-test.true in
    let most = c.requires.most in
    let p = along_none c.cycles.invariant.passes c.go_paced-more.ensures.gone c.cycles-test.true c.requires.most c.if-more-gt0.false in
    let few = at_most (setting g.X.Device.meaning c.args.world.now) c.args.machine.now in
    has_room _ _ _ _ _ 1 3 p.follows (omega (arith, below, most, few)) (omega arith)

pub returns-then-not-try_later-clause-window : goal.returns-then-not-try_later-clause-window
returns-then-not-try_later-clause-window g c =
    let below = c.cycles-test.true in
    let most = c.requires.most in
    let p = along_none c.cycles.invariant.passes c.go_paced-more.ensures.gone c.cycles-test.true c.requires.most c.if-more-gt0.false in
    let stays = c.if-not-try_later.ensures in
    record {
      length = closed_later _ _ c.cycles.k _ _ _ _ p (omega (arith, below, most))
          (sym c.try_later.ensures.goes ∙ c.if-not-try_later.true);
      state = stays.state ∙ p.stands.is_states;
      number = ap (λ (x : State). x.cycle) stays.state ∙ p.stands.at;
      marked = stays.marks ∙ append-nil c.go_paced-more.new.marks ∙ p.stands.is_marks;
    }

pub cycles-preserved : goal.cycles-preserved
cycles-preserved g c =
    let none = c.if-more-gt0.false in
    let below = c.cycles-test.true in
    let most = c.requires.most in
    let p = along_none c.cycles.invariant.passes c.go_paced-more.ensures.gone c.cycles-test.true c.requires.most c.if-more-gt0.false in
    let t = c.try_later.ensures in
    let goes = c.if-not-try_later.false in
    record {
      passes = passes_later _ _ c.cycles.k _ _ _ _ _ _ _ p (omega (arith, below, most)) (sym t.goes ∙ goes) (rw goes at t.state)
          (rw goes at t.marks) (rw goes at t.notes);
      within = omega (arith, below);
      first = λ zero. absurd (omega (arith, zero));
      counted = let before = c.cycles.invariant.counted in let tick = c.tick.ensures in let
          more = c.go_paced-more.ensures.steps in omega (arith, before, tick, more, none);
    }

pub returns-clause-window : goal.returns-clause-window
returns-clause-window g c =
    let ended = c.cycles-test.false in
    let within = c.cycles.invariant.within in
    let full : c.cycles.k ≡ c.args.most = omega (arith, ended, within) in
    subst (λ k. IsWindow (setting g.X.Device.meaning c.args.world.now) c.args.machine.now k c.cycles.machine c.cycles.marks)
    full
    (closed_full c.cycles.invariant.passes (full ∙ c.requires.most))
