use Rattle.uf2_image.proofs.Written.{IsPart}
use Rattle.uf2_image.proofs.writing.write_image.Given as goal

abbrev pub invariant-loop-part : goal.invariant-loop-part
invariant-loop-part l = IsPart l.parts l.count l.number l.part-index l.bytes.items
