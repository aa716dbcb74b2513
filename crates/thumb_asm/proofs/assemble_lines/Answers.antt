use Rattle.std.proofs.lemmas.Result.{err_from_is_err_and}
use Rattle.thumb_asm.proofs.Whole.{line_fault, made, misfit_fault}
use Rattle.thumb_asm.proofs.assemble_lines.Goals as goal

pub returns-in_err-names-clause-image : goal.returns-in_err-names-clause-image
returns-in_err-names-clause-image c =
    let p = err_from_is_err_and c.from_residual.result c.from_residual.ensures.1 in
    rw (p.1, p.2) (λ other. misfit_fault c.args.text.now _ c.requires.allowed (c.in_err-names.ensures.fault other))

pub returns-in_err-bytes-clause-image : goal.returns-in_err-bytes-clause-image
returns-in_err-bytes-clause-image c =
    let p = err_from_is_err_and c.from_residual-in_err-bytes.result c.from_residual-in_err-bytes.ensures.1 in
    rw (p.1, p.2)
    (λ other. line_fault c.args.text.now _ _ c.requires.allowed c.in_ok-names.ensures.fits c.in_ok-names.ensures.names (c.in_err-bytes.ensures.fault other))

pub returns-clause-image : goal.returns-clause-image
returns-clause-image c =
    made c.args.text.now _ _ _ c.requires.allowed c.in_ok-names.ensures.fits c.in_ok-names.ensures.names c.in_ok-bytes.ensures.bytes
    c.image_or_nothing.ensures.image
