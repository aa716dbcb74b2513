use Rattle.std.proofs.Common.{length}
use Rattle.board_parts.proofs.parts.+quiet_all.Given as goal

-- fewer parts are left
abbrev pub decreases-quiet_all : goal.decreases-quiet_all
decreases-quiet_all g l = length l.list.now
