use Rattle.std.proofs.Common.{length, refl, sym, arith}
use Rattle.std.proofs.lemmas.Bool.{eqb-true}
use Rattle.std.proofs.lemmas.Result.{err_from_is_err_and}
use Rattle.thumb_asm.proofs.Sizes.{bytes_fit}
use Rattle.thumb_asm.proofs.SourceSteps.{bytes_end, bytes_fault, bytes_more}
use Rattle.thumb_asm.proofs.source.read_bytes.Goals as goal

pub loop-rest-init : goal.loop-rest-init
loop-rest-init c = record {
  left = rw c.new-bytes.ensures.items refl;
  short = omega arith;
  low = omega arith;
  held = rw c.new-bytes.ensures.items (omega arith);
}

pub loop-rest-preserved : goal.loop-rest-preserved
loop-rest-preserved c = record {
  left =
      rw c.in_ok-address.ensures.next
      (bytes_more _ _ _ _ _ _ c.loop-rest.rest.now c.first_line.result.0.now c.first_line.result.1.now c.loop-rest.invariant.left
      c.first_line.ensures.line c.in_ok-address.ensures.fine c.in_ok-address.ensures.bytes);
  short = let before = c.loop-rest.invariant.short in omega (arith, c.first_line.ensures.shorter);
  low = c.in_ok-address.ensures.low;
  held = bytes_fit _ _ _ _ _ _ c.loop-rest.invariant.held c.in_ok-address.ensures.bytes c.in_ok-address.ensures.next;
}

pub returns-in_err-address-clause-fault : goal.returns-in_err-address-clause-fault
returns-in_err-address-clause-fault c =
    let p = err_from_is_err_and c.from_residual.result c.from_residual.ensures.1 in
    rw (p.1, p.2)
    (λ other.
    bytes_fault _ _ _ _ _ c.loop-rest.rest.now c.first_line.result.0.now c.first_line.result.1.now _ c.loop-rest.invariant.left
    c.first_line.ensures.line (c.in_err-address.ensures.fault other))

pub returns-clause-bytes : goal.returns-clause-bytes
returns-clause-bytes c =
    bytes_end _ _ _ _ _ c.loop-rest.rest.now c.loop-rest.invariant.left
    (eqb-true (length c.loop-rest.rest.now) 0 (sym c.loop-rest-test.ensures))

pub returns-clause-short : goal.returns-clause-short
returns-clause-short c = let held = c.loop-rest.invariant.held in let low = c.loop-rest.invariant.low in omega (arith, held, low)
