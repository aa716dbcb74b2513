use Rattle.std.proofs.Common.{◌≡◌, map, length}
use Rattle.std.specs.String.{string_bytes}
use Rattle.command_words.specs.Options.{are_options, settings_of}
use Rattle.command_words.proofs.options.are_options.Given as goal

-- what is left gives what all of them give
abbrev pub invariant-loop-name : goal.invariant-loop-name
invariant-loop-name l = are_options l.command (settings_of (map string_bytes l.left)) ≡ are_options l.command (settings_of (map string_bytes l.options))

abbrev pub decreases-loop-name : goal.decreases-loop-name
decreases-loop-name l = length l.left
