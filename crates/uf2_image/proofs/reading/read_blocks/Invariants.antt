use Rattle.std.proofs.Common.{◌≡◌, None}
use Rattle.uf2_image.specs.Uf2.{first_fault, kept}
use Rattle.uf2_image.specs.Reading.{IsIndexed}
use Rattle.uf2_image.proofs.reading.read_blocks.Given as goal

-- the blocks so far are read, and have no fault
abbrev pub invariant-loop-index : goal.invariant-loop-index
invariant-loop-index l = IsIndexed l.kept × (l.kept.blocks.items ≡ kept l.bytes l.index) × (first_fault l.bytes l.index ≡ None)
