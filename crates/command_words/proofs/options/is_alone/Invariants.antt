use Rattle.std.proofs.Common.{◌≡◌, ◌&&◌, map, drop, None}
use Rattle.std.specs.List.{list_any}
use Rattle.command_words.specs.Table.{row_in}
use Rattle.command_words.specs.Options.{fits, names, is_alone}
use Rattle.command_words.proofs.options.is_alone.Given as goal

-- none of the rows so far has the name
abbrev pub invariant-loop-name : goal.invariant-loop-name
invariant-loop-name l = list_any (λ row. fits row.way None && names l.word row) (map row_in (drop l.name-index l.name-items)) ≡ is_alone l.word
