use Rattle.thumb_asm.proofs.Parts.{part_more}
use Rattle.thumb_asm.proofs.image.parts_of.Goals as goal

pub loop-index-preserved : goal.loop-index-preserved
loop-index-preserved c = part_more _ _ _ _ _ c.in_ok-push.ensures.items c.loop-index.invariant c.in_ok-part_at.ensures
