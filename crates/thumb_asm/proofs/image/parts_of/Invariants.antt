use Rattle.std.proofs.Common.{◌≡◌}
use Rattle.std.specs.Prelude.{map}
use Rattle.std.specs.List.{range_with_len}
use Rattle.thumb_asm.specs.Source.{part_at}
use Rattle.thumb_asm.proofs.image.parts_of.Given as goal

abbrev pub invariant-loop-index : goal.invariant-loop-index
invariant-loop-index l = l.parts.items ≡ map (part_at l.bytes) (range_with_len 0 l.index)
