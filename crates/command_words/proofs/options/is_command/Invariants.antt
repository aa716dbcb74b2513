use Rattle.std.proofs.Common.{◌≡◌, map, drop, Bor, List, ℕ}
use Rattle.std.specs.List.{list_any}
use Rattle.std.specs.Str.{bytes_eq}
use Rattle.command_words.specs.Options.{is_command}
use Rattle.command_words.proofs.options.is_command.Given as goal

-- none of the commands so far is the word
abbrev pub invariant-loop-command : goal.invariant-loop-command
invariant-loop-command l = list_any (bytes_eq l.word) (map (λ (word : Bor (List ℕ)). word.now) (drop l.command-index l.command-items)) ≡ is_command l.word
