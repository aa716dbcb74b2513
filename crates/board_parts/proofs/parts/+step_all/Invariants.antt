use Rattle.std.proofs.Common.{length}
use Rattle.board_parts.proofs.parts.+step_all.Given as goal

-- fewer parts are left
abbrev pub decreases-step_all : goal.decreases-step_all
decreases-step_all g l = length l.list.now
