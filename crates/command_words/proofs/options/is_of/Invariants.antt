use Rattle.std.proofs.Common.{◌≡◌, map, drop}
use Rattle.std.specs.Option.{option_map}
use Rattle.std.specs.List.{list_any}
use Rattle.command_words.specs.Table.{row_in}
use Rattle.command_words.specs.Options.{NamedValue, suits, is_of}
use Rattle.command_words.proofs.options.is_of.Given as goal

-- none of the rows so far is that of the option
abbrev pub invariant-loop-of : goal.invariant-loop-of
invariant-loop-of l =
    let setting : NamedValue = (l.word, option_map (λ text. text.now) l.value) in
    list_any (suits l.command setting) (map row_in (drop l.of-index l.of-items)) ≡ is_of l.command setting
