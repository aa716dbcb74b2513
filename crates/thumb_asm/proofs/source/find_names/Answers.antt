use Rattle.std.proofs.Common.{length, refl, sym, arith}
use Rattle.std.proofs.lemmas.Bool.{eqb-true}
use Rattle.std.proofs.lemmas.Result.{err_from_is_err_and}
use Rattle.thumb_asm.specs.Lines.{is_misfit}
use Rattle.source_text.proofs.FirstThat.{test_end, test_here, test_more}
use Rattle.thumb_asm.proofs.SourceSteps.{names_end, names_more}
use Rattle.thumb_asm.proofs.source.find_names.Goals as goal

pub loop-rest-init : goal.loop-rest-init
loop-rest-init c = record { named = rw c.new-names.ensures refl; fits = refl; short = omega arith; near = omega arith }

pub loop-rest-preserved : goal.loop-rest-preserved
loop-rest-preserved c = record {
  named =
      rw c.in_ok-address.ensures.next
      (names_more _ _ _ _ _ c.loop-rest.rest.now c.first_line.result.0.now c.first_line.result.1.now c.loop-rest.invariant.named
      c.first_line.ensures.line c.in_ok-address.ensures.names);
  fits =
      test_more is_misfit _ _ c.loop-rest.rest.now c.first_line.result.0.now c.first_line.result.1.now c.loop-rest.invariant.fits
      c.first_line.ensures.line c.in_ok-address.ensures.fits;
  short = let before = c.loop-rest.invariant.short in omega (arith, c.first_line.ensures.shorter);
  near = let before = c.loop-rest.invariant.near in omega (arith, c.first_line.ensures.shorter, c.in_ok-address.ensures.near);
}

pub returns-in_err-address-clause-fault : goal.returns-in_err-address-clause-fault
returns-in_err-address-clause-fault c =
    let p = err_from_is_err_and c.from_residual.result c.from_residual.ensures.1 in
    rw (p.1, p.2)
    (λ other.
    rw (test_here is_misfit _ _ c.loop-rest.rest.now c.first_line.result.0.now c.first_line.result.1.now c.loop-rest.invariant.fits
    c.first_line.ensures.line (c.in_err-address.ensures.misfit other))
    (c.in_err-address.ensures.fault other))

pub returns-clause-names : goal.returns-clause-names
returns-clause-names c =
    sym (names_end _ _ _ _ c.loop-rest.rest.now c.loop-rest.invariant.named
    (eqb-true (length c.loop-rest.rest.now) 0 (sym c.loop-rest-test.ensures)))

pub returns-clause-fits : goal.returns-clause-fits
returns-clause-fits c =
    test_end is_misfit _ _ c.loop-rest.rest.now c.loop-rest.invariant.fits
    (eqb-true (length c.loop-rest.rest.now) 0 (sym c.loop-rest-test.ensures))
