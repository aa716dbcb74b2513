use Rattle.std.proofs.Common.{◌∙◌, ap, min, map, ℕ, List, slice_get}
use Rattle.std.specs.List.{fold}
use Rattle.uf2_image.specs.Uf2.{in_order, part_of, target_of}
use Rattle.uf2_image.proofs.Images.{image_fits}
use Rattle.uf2_image.proofs.order.image_of_blocks.Goals as goal

pub returns-clause-fits : goal.returns-clause-fits
returns-clause-fits c =
    image_fits c.args.kept.now.blocks.items c.in-Some.first.now c.lowest_target-lowest.result c.target.result c.in_ok-parts.parts
    (c.in-Some.ensures.value ∙ ap (λ (xs : List (List ℕ)). slice_get xs 0) c.deref.ensures.value)
    (c.in_ok-parts.ensures.parts ∙ ap (λ (bs : List (List ℕ)). in_order (map part_of bs)) c.deref-3.ensures.value)
    (c.lowest_target-lowest.ensures ∙ ap (λ (bs : List (List ℕ)). fold (λ a block. min a (target_of block)) c.target.result bs) c.deref-2.ensures.value)
    c.target.ensures c.requires.spread
