use Rattle.std.proofs.Common.{◌≡◌, map, length}
use Rattle.std.specs.String.{string_bytes}
use Rattle.command_words.specs.Options.{setting_for, settings_of}
use Rattle.command_words.proofs.options.setting_for.Given as goal

-- what is left gives what all of them give
abbrev pub invariant-loop-other : goal.invariant-loop-other
invariant-loop-other l = setting_for l.name (settings_of (map string_bytes l.left)) ≡ setting_for l.name (settings_of (map string_bytes l.options))

abbrev pub decreases-loop-other : goal.decreases-loop-other
decreases-loop-other l = length l.left
