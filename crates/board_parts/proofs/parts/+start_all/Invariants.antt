use Rattle.std.proofs.Common.{length}
use Rattle.board_parts.proofs.parts.+start_all.Given as goal

-- fewer parts are left
abbrev pub decreases-start_all : goal.decreases-start_all
decreases-start_all g l = length l.list.now
