use Rattle.std.proofs.Common.{length, refl, sym, arith}
use Rattle.std.proofs.lemmas.Bool.{eqb-true}
use Rattle.thumb_asm.specs.Lines.{has_other_char}
use Rattle.source_text.proofs.FirstThat.{test_end, test_here, test_more}
use Rattle.thumb_asm.proofs.lines.first_other_char.Goals as goal

pub loop-rest-init : goal.loop-rest-init
loop-rest-init c = record { left = refl; short = omega arith }

pub loop-rest-preserved : goal.loop-rest-preserved
loop-rest-preserved c = record {
  left =
      test_more has_other_char _ _ c.loop-rest.rest.now c.first_line.result.0.now c.first_line.result.1.now c.loop-rest.invariant.left
      c.first_line.ensures.line (sym c.if-has_other_char.ensures);
  short = let before = c.loop-rest.invariant.short in omega (arith, c.first_line.ensures.shorter);
}

pub returns-then-has_other_char : goal.returns-then-has_other_char
returns-then-has_other_char c =
    sym (test_here has_other_char _ _ c.loop-rest.rest.now c.first_line.result.0.now c.first_line.result.1.now c.loop-rest.invariant.left
    c.first_line.ensures.line (sym c.if-has_other_char.ensures))

pub returns : goal.returns
returns c =
    sym (test_end has_other_char _ _ c.loop-rest.rest.now c.loop-rest.invariant.left
    (eqb-true (length c.loop-rest.rest.now) 0 (sym c.loop-rest-test.ensures)))
