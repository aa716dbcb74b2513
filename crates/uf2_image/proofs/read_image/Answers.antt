use Rattle.std.proofs.Common.{◌/◌, ◌∙◌, sym, arith, length, subst, List, ℕ}
use Rattle.std.proofs.lemmas.Bool.{eqb-false}
use Rattle.std.proofs.lemmas.Result.{err_from_is_err_and, MatchResult-weaker}
use Rattle.uf2_image.specs.Reading.{AreSpread}
use Rattle.uf2_image.proofs.Files.{image_fault, image_whole}
use Rattle.uf2_image.proofs.Spread.{spread_kept}
use Rattle.uf2_image.proofs.read_image.Goals as goal

pub returns-in_err-kept-clause-image : goal.returns-in_err-kept-clause-image
returns-in_err-kept-clause-image c =
    let p = err_from_is_err_and c.from_residual.result c.from_residual.ensures.1 in
    rw (p.1, p.2) (λ other. image_fault c.args.bytes.now _ (eqb-false (length c.args.bytes.now) 0 (sym c.if-is_empty.ensures)) c.if-bytes-ne0.false (c.in_err-kept.ensures.fault other))

pub image_of_blocks-requires-clause-spread : goal.image_of_blocks-requires-clause-spread
image_of_blocks-requires-clause-spread c =
    subst (λ (bs : List (List ℕ)). AreSpread bs) (sym c.in_ok-kept.ensures.blocks) (spread_kept c.args.bytes.now (length c.args.bytes.now / 512) (omega arith) c.in_ok-kept.ensures.none)

pub returns-clause-image : goal.returns-clause-image
returns-clause-image c =
    let whole_is = image_whole c.args.bytes.now c.in_ok-kept.kept.blocks.items (eqb-false (length c.args.bytes.now) 0 (sym c.if-is_empty.ensures)) c.if-bytes-ne0.false c.in_ok-kept.ensures.none c.in_ok-kept.ensures.blocks in
    MatchResult-weaker c.image_of_blocks.result c.image_of_blocks.ensures.image (λ image h. whole_is ∙ h) (λ fault h other. whole_is ∙ h other)
