use Rattle.std.proofs.Common.{◌≡◌, map, drop, Bor, List, ℕ}
use Rattle.std.specs.List.{fold}
use Rattle.clap.specs.Words.{app_of}
use Rattle.command_words.specs.Line.{with_command, table}
use Rattle.command_words.proofs.line.table.Given as goal

-- the commands that are left make the table whole
abbrev pub invariant-loop-word : goal.invariant-loop-word
invariant-loop-word l = fold with_command (app_of l.table) (map (λ (word : Bor (List ℕ)). word.now) (drop l.word-index l.word-items)) ≡ table
