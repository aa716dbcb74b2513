use Rattle.std.proofs.Common.{◌+◌, drop, sym, ap, ◌∙◌, arith}
use Rattle.source_text.proofs.Capped.{cut_after, next_digit}
use Rattle.source_text.proofs.numbers.value_of_digits.Goals as goal

pub loop-byte-preserved : goal.loop-byte-preserved
loop-byte-preserved c = (
  omega (arith, c.min-value.ensures),
  c.loop-byte.invariant.1
      ∙ next_digit c.args.base c.args.most c.loop-byte.value c.in_ok-next.next c.loop-byte.byte-index c.args.digits.now c.requires.positive c.loop-byte-test.true
      (sym c.in_ok-next.was ∙ c.digit.ensures.value) c.if-next-base.false
      ∙ ap (λ v. cut_after c.args.base c.args.most v (drop (c.loop-byte.byte-index + 1) c.args.digits.now)) (sym c.min-value.ensures),
)
