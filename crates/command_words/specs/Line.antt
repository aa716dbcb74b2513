-- The commands as the crate `clap` sees them, one command with a subcommand for each, with its argument and its options; and a line of
-- words as `clap` reads it, written in normal form: the command, its argument, and then its options in the order of their rows (the
-- project's own).
use Rattle.std.specs.Prelude.{true, if◌then◌else◌, Some, codes, List, [], ◌∷◌, flat_map, Option, None}
use Rattle.std.specs.List.{fold}
use Rattle.std.specs.Str.{bytes_eq}
use Rattle.clap.specs.Walk.{Rule, Text, Row as Found, first_of}
use Rattle.clap.specs.declared.builder.action.ArgAction.TheVariants.{SetTrue}
use Rattle.clap.specs.Simple.{App, new_app, new_rule, on_top, with_rule, with_subcommand, subcommand_of}
use Rattle.command_words.specs.Table.{Way, Needed, Valued, Alone, Row, commands, options, dashed}
use Rattle.std.specs.Option.{option_and_then, option_map}
use Rattle.clap.specs.Kinds.{Kinds}
use Rattle.clap.specs.Faults.{fault_of}

-- the argument of a command, which must be given
abbrev pub argument : Rule
argument = record (new_rule (codes "argument")) { required = true }

-- an option; `clap` gives one without a value the text `true` where it is among the words, and else `false`
abbrev pub rule_for : Way → Text → Rule
rule_for Needed name = record (new_rule name) { long = Some name; required = true }
rule_for Valued name = record (new_rule name) { long = Some name }
rule_for Alone name = record (new_rule name) { long = Some name; action = Some SetTrue }

-- a command with one more option, where the row is its own
abbrev pub with_row : Text → App → Row → App
with_row word app row = if bytes_eq row.command word then with_rule app (rule_for row.way row.name) else app

-- a command with its argument and its options
abbrev pub app_for : Text → App
app_for word = fold (with_row word) (with_rule (new_app word) argument) options

-- the first word is no program's name
abbrev pub top : App
top = on_top (λ s. record s { no_binary_name = true }) (new_app (codes "pico"))

abbrev pub with_command : App → Text → App
with_command app word = with_subcommand app (app_for word).top

unfoldable pub table : App
table = fold with_command top commands

-- ---- the line

-- an option, where it was given: its name and its value, or its name alone, where `clap` has the text `true` for it
abbrev pub option_words : Way → Text → Option Text → List Text
option_words way name None = []
option_words Alone name (Some text) = if bytes_eq text (codes "true") then dashed name ∷ [] else []
option_words _ name (Some value) = dashed name ∷ value ∷ []

-- the words of a row, where it is one of the command
abbrev pub row_words : Text → (Text → Option Text) → Row → List Text
row_words command given row = if bytes_eq row.command command then option_words row.way row.name (given row.name) else []

-- the line of a command by its name and by what was given for the argument and for each option
abbrev pub normal_line : Text → (Text → Option Text) → Option (List Text)
normal_line command given =
    option_map (λ argument. command ∷ argument ∷ flat_map (row_words command given) options) (given (codes "argument"))

-- the line of a command by its name and its matches
abbrev pub line_found : Text × List Found → Option (List Text)
line_found found = normal_line found.0 (λ name. first_of name found.1)

-- the line, where the words have no fault
abbrev pub without_fault : Kinds → Option (Text × List Found) → Option (List Text)
without_fault [] found = option_and_then line_found found
without_fault (kind ∷ kinds) found = None

-- The line that the words are read as; none where `clap` refuses them for another cause than memory, or they have no command.
unfoldable pub line_in : List Text → Option (List Text)
line_in words = without_fault (fault_of table words) (subcommand_of table words)
