use Rattle.std.proofs.Common.{length}
use Rattle.board_parts.proofs.parts.+pass_all.Given as goal

-- fewer parts are left
abbrev pub decreases-pass_all : goal.decreases-pass_all
decreases-pass_all g l = length l.list.now
