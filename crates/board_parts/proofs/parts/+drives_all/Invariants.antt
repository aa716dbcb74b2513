use Rattle.std.proofs.Common.{length}
use Rattle.board_parts.proofs.parts.+drives_all.Given as goal

-- fewer parts are left
abbrev pub decreases-drives_all : goal.decreases-drives_all
decreases-drives_all g l = length l.list.now
