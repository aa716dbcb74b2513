use Rattle.std.proofs.Common.{◌≡◌, ◌+◌, length, Err, sym, ◌∙◌, arith}
use Rattle.std.specs.Str.Lines.{lines}
use Rattle.pin_script.specs.Script.{after_lines, entries_of, headed, nothing}
use Rattle.std.proofs.lemmas.Bool.{eqb-true}
use Rattle.std.proofs.lemmas.Result.{IfErr-weaker, IfOk-weaker}
use Rattle.pin_script.proofs.FileLines.{head_here, head_none, skip_more, start}
use Rattle.pin_script.proofs.reading.find_heading.Goals as goal

pub loop-line-init : goal.loop-line-init
loop-line-init c = record { left = start c.args.bytes.now; short = omega arith }

pub loop-line-preserved : goal.loop-line-preserved
loop-line-preserved c = record {
  left =
      skip_more c.args.bytes.now c.loop-line.rest.now c.first_line.result.0.now c.first_line.result.1.now _ c.loop-line.invariant.left
      c.first_line.ensures.line (sym c.if-not-is_skipped.ensures);
  short = let before = c.loop-line.invariant.short in omega (arith, c.first_line.ensures.shorter);
}

pub returns-then-not-is_skipped-clause-ok : goal.returns-then-not-is_skipped-clause-ok
returns-then-not-is_skipped-clause-ok c =
    let here =
    head_here c.args.bytes.now c.loop-line.rest.now c.first_line.result.0.now c.first_line.result.1.now _ c.loop-line.invariant.left
    c.first_line.ensures.line (sym c.if-not-is_skipped.ensures)
    in
    IfOk-weaker c.headed.result
    (λ heading. headed (c.loop-line.number + 1) c.first_line.result.0.now (lines c.first_line.result.1.now)
    ≡ after_lines heading.sends (heading.number + 1) nothing (lines heading.rest.now))
    (λ heading. entries_of c.args.bytes.now ≡ after_lines heading.sends (heading.number + 1) nothing (lines heading.rest.now))
    (λ heading e. here ∙ e) c.headed.ensures.ok

pub returns-then-not-is_skipped-clause-fault : goal.returns-then-not-is_skipped-clause-fault
returns-then-not-is_skipped-clause-fault c =
    let here =
    head_here c.args.bytes.now c.loop-line.rest.now c.first_line.result.0.now c.first_line.result.1.now _ c.loop-line.invariant.left
    c.first_line.ensures.line (sym c.if-not-is_skipped.ensures)
    in
    IfErr-weaker c.headed.result
    (λ fault. headed (c.loop-line.number + 1) c.first_line.result.0.now (lines c.first_line.result.1.now) ≡ Err fault)
    (λ fault. entries_of c.args.bytes.now ≡ Err fault)
    (λ fault e. here ∙ e) c.headed.ensures.fault

pub returns-clause-ok : goal.returns-clause-ok
returns-clause-ok c =
    head_none c.args.bytes.now c.loop-line.rest.now _ c.loop-line.invariant.left
    (eqb-true (length c.loop-line.rest.now) 0 (sym c.loop-line-test.ensures))
