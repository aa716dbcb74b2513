use Rattle.std.proofs.Common.{length, Ok, sym, ap, ◌∙◌, arith}
use Rattle.std.proofs.lemmas.Bool.{eqb-true}
use Rattle.std.proofs.lemmas.Result.{err_from_is_err_and}
use Rattle.pin_script.specs.Lines.{Earlier}
use Rattle.pin_script.proofs.FileLines.{lines_end, lines_fault, lines_more}
use Rattle.pin_script.proofs.reading.read_entries.Goals as goal

pub loop-heading-init : goal.loop-heading-init
loop-heading-init c = record { left = rw c.new-earlier.ensures c.in_ok-heading.ensures.ok; short = c.in_ok-heading.ensures.short }

pub loop-heading-preserved : goal.loop-heading-preserved
loop-heading-preserved c = record {
  left =
      lines_more c.args.bytes.now c.loop-heading.rest.now c.first_line.result.0.now c.first_line.result.1.now _ _ _ _
      c.loop-heading.invariant.left c.first_line.ensures.line c.in_ok-read_line.ensures.ok;
  short = let before = c.loop-heading.invariant.short in omega (arith, c.first_line.ensures.shorter);
}

pub returns-in_err-read_line-clause-fault : goal.returns-in_err-read_line-clause-fault
returns-in_err-read_line-clause-fault c =
    let p = err_from_is_err_and c.from_residual-in_err-read_line.result c.from_residual-in_err-read_line.ensures.1 in
    rw (p.1, p.2)
    (λ other. lines_fault c.args.bytes.now c.loop-heading.rest.now c.first_line.result.0.now c.first_line.result.1.now _ _ _ _
    c.loop-heading.invariant.left c.first_line.ensures.line (c.in_err-read_line.ensures.fault other))

pub returns-clause-ok : goal.returns-clause-ok
returns-clause-ok c =
    lines_end c.args.bytes.now c.loop-heading.rest.now _ _ _ c.loop-heading.invariant.left
    (eqb-true (length c.loop-heading.rest.now) 0 (sym c.loop-heading-test.ensures))
    ∙ ap (λ (s : Earlier). Ok s.entries) (sym c.earlier-2.view_is)
