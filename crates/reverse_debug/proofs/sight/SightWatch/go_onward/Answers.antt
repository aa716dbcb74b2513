use Rattle.std.proofs.Common.{refl, sym, arith, ◌∙◌}
use Rattle.reverse_debug.proofs.Sights.{unstopped_here, one_more, nothing_more}
use Rattle.reverse_debug.proofs.sight.SightWatch.go_onward.Goals as goal

pub cycles-init : goal.cycles-init
cycles-init g c = (unstopped_here _ _ _ _, refl)

pub cycles-preserved : goal.cycles-preserved
cycles-preserved g c =
    let one = one_more _ _ _ _ _ _ _ _ _ _ c.cycles.invariant.0 c.cycles-test.true (omega (arith, c.go_onward.ensures.most, c.if-go_onward-eq0.false)) c.go_onward.ensures.state c.go_onward.ensures.inward c.go_onward.ensures.steps in
    (record { gone = one; last = λ _. sym c.stops.ensures ∙ c.if-stops.false }, c.go_onward.ensures.marks ∙ c.cycles.invariant.1)

pub returns-then-go_onward-eq0 : goal.returns-then-go_onward-eq0
returns-then-go_onward-eq0 g c =
    let k = c.cycles.invariant.0.gone in
    let none = c.if-go_onward-eq0.true in
    let is = c.go_onward.ensures in record {
      most = k.within;
      state = nothing_more _ _ _ _ _ k.state (omega (arith, none)) is.state;
      inward = k.inward;
      unstopped = k.none;
      marks = is.marks ∙ c.cycles.invariant.1;
      steps = omega (arith, none, k.counted, is.steps);
    }

pub returns-then-stops : goal.returns-then-stops
returns-then-stops g c =
    let one = one_more _ _ _ _ _ _ _ _ _ _ c.cycles.invariant.0 c.cycles-test.true (omega (arith, c.go_onward.ensures.most, c.if-go_onward-eq0.false)) c.go_onward.ensures.state c.go_onward.ensures.inward c.go_onward.ensures.steps in
    record { most = one.within; state = one.state; inward = one.inward; unstopped = one.none; marks = c.go_onward.ensures.marks ∙ c.cycles.invariant.1; steps = one.counted }
