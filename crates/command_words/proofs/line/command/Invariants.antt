use Rattle.std.proofs.Common.{◌≡◌, map, drop}
use Rattle.std.specs.List.{fold}
use Rattle.clap.specs.Words.{app_of}
use Rattle.command_words.specs.Table.{row_in}
use Rattle.command_words.specs.Line.{with_row, app_for}
use Rattle.command_words.proofs.line.command.Given as goal

-- the rows that are left make the command whole
abbrev pub invariant-loop-of : goal.invariant-loop-of
invariant-loop-of l = fold (with_row l.word) (app_of l.command) (map row_in (drop l.of-index l.of-items)) ≡ app_for l.word
