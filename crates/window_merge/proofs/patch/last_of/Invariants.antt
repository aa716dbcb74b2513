use Rattle.std.proofs.Common.{◌≡◌, take}
use Rattle.std.specs.Prelude.{◌≤◌, length}
use Rattle.window_merge.specs.Notes.{last_of}
use Rattle.window_merge.proofs.patch.last_of.Given as goal

abbrev pub invariant-loop-left : goal.invariant-loop-left
invariant-loop-left l = (l.left ≤ length l.words) × (last_of (take l.left l.words) l.index l.word ≡ last_of l.words l.index l.word)

abbrev pub decreases-loop-left : goal.decreases-loop-left
decreases-loop-left l = l.left
