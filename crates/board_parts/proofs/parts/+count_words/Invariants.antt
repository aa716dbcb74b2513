use Rattle.std.proofs.Common.{length}
use Rattle.board_parts.proofs.parts.+count_words.Given as goal

-- fewer parts are left
abbrev pub decreases-count_words : goal.decreases-count_words
decreases-count_words g l = length l.list.now
