use Rattle.std.proofs.Common.{◌≡◌, ◌+◌, ◌%◌, sym, ap, ◌∙◌, arith}
use Rattle.dma_engine.specs.State.{State}
use Rattle.dma_engine.proofs.Search.{passing-none, passing-other, passing-candidate, passing-high}
use Rattle.dma_engine.proofs.engine.Engine.choice.Goals as goal
use Rattle.dma_engine.proofs.engine.Engine.choice.Goals.{then-is_candidate+else-is_high, else-is_candidate}

pub loop-passed-init : goal.loop-passed-init
loop-passed-init c =
    let last = ap (λ (s : State). s.last_chosen) c.self.view_is in
    record { found = passing-none c.args.counts c.args.self.now; at = omega (arith, last) }

pub loop-passed-preserved : goal.loop-passed-preserved
loop-passed-preserved c =
    let before = c.loop-passed.invariant.at in
    let number : c.next_number-number.result ≡ (c.args.self.now.last_chosen + 1 + c.loop-passed.passed) % 12 = omega (arith, before, c.next_number-number.ensures) in
    record {
      found = elim c.if-is_candidate.branch [
        | then-is_candidate+else-is_high w ↦
            rw (w.other-is, w.or_else-other.ensures)
            (passing-candidate _ _ _ _ _ number c.loop-passed.invariant.found c.loop-passed-test.true
            (sym c.is_candidate.ensures ∙ w.if-is_candidate.true) (sym w.is_high.ensures ∙ w.if-is_high.false))
        | else-is_candidate w ↦
            rw w.other-is
            (passing-other _ _ _ _ _ number c.loop-passed.invariant.found c.loop-passed-test.true
            (sym c.is_candidate.ensures ∙ w.if-is_candidate.false))
      ];
      at = omega (arith, before, c.next_number-number.ensures);
    }

pub returns-then-is_high : goal.returns-then-is_high
returns-then-is_high c =
    let before = c.loop-passed.invariant.at in
    let number : c.next_number-number.result ≡ (c.args.self.now.last_chosen + 1 + c.loop-passed.passed) % 12 = omega (arith, before, c.next_number-number.ensures) in
    passing-high _ _ _ _ _ number c.loop-passed.invariant.found c.loop-passed-test.true (sym c.is_candidate.ensures ∙ c.if-is_candidate.true)
    (sym c.is_high.ensures ∙ c.if-is_high.true)
