use Rattle.std.proofs.Common.{◌≡◌, map, take}
use Rattle.uf2_image.specs.Uf2.{in_order, part_of}
use Rattle.uf2_image.proofs.Placing.{keyed_parts}
use Rattle.uf2_image.proofs.order.parts_in_order.Given as goal

-- the map has the parts of the blocks so far
abbrev pub invariant-loop-block : goal.invariant-loop-block
invariant-loop-block l = l.ordered.entries ≡ keyed_parts (in_order (take l.block-index (map part_of l.blocks)))
