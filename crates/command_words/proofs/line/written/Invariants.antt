use Rattle.std.proofs.Common.{◌≡◌, ◌++◌, map, drop, Some}
use Rattle.std.specs.Prelude.{flat_map}
use Rattle.std.specs.String.{string_bytes}
use Rattle.clap.specs.Matches.{found_of, first_value}
use Rattle.command_words.specs.Table.{row_in}
use Rattle.command_words.specs.Line.{normal_line, row_words}
use Rattle.command_words.proofs.line.written.Given as goal

-- the line so far, and the options of the rows that are left, are the line
abbrev pub invariant-loop-of : goal.invariant-loop-of
invariant-loop-of l = normal_line l.command (first_value (found_of l.found))
    ≡ Some (map string_bytes l.line.items ++ flat_map (row_words l.command (first_value (found_of l.found))) (map row_in (drop l.of-index l.of-items)))
