-- What a parse by the table gives.
use Rattle.std.proofs.Common.{◌≡◌, ℕ, ◌+◌, ◌<◌, Bool, true, false, not, ◌&&◌, List, [], ◌∷◌, map, drop, length, get_or, drop-cons, add-one, Bor, Option, Some, None, option_map, refl, ap, ap₂, sym, ◌∙◌, arith}
use mathlib.Core.Path.{fun_ext}
use Rattle.std.proofs.lemmas.Option.{none-some}
use Rattle.std.proofs.lemmas.Bool.{and_parts}
use Rattle.std.proofs.lemmas.Bool.Decides.{nat_tests}
use Rattle.std.specs.Prelude.{Box, unwrap_or, if◌then◌else◌}
use Rattle.std.specs.List.{fold}
use Rattle.std.specs.Str.{bytes_eq}
use Rattle.std.specs.Box.{box_value}
use Rattle.std.specs.Option.{option_and_then}
use Rattle.clap.specs.Matches.{first_value}
use Rattle.clap.specs.Walk.{Row, Rule, Text, rows_of}
use Rattle.clap.specs.declared.parser.matches.Found.{Found}
use Rattle.clap.proofs.WalkLemmas.{first_value-rows}
use Rattle.clap.specs.Built.{AddsSubcommand}
use Rattle.clap.specs.Simple.{App, app_of, is_simple, subcommand_of, subcommand_rows, new_app, with_rule, with_subcommand}
use Rattle.clap.specs.Kinds.{IsAmong, Kinds}
use Rattle.clap.specs.Faults.{fault_of, is_simple_and_free}
use Rattle.clap.specs.declared.builder.command.Command.{Command}
use Rattle.clap.specs.declared.error.kind.ErrorKind.{ErrorKind}
use Rattle.clap.specs.declared.parser.matches.SubCommand.{SubCommand}
use Rattle.clap.specs.declared.parser.matches.ArgMatches.TheViews.{out-SubCommand}
use Rattle.clap.proofs.OnLiterals.{clap_on_literals}
use Rattle.command_words.specs.Table.{Row as OptionRow, commands, options}
use Rattle.command_words.specs.Line.{argument, rule_for, with_row, app_for, with_command, table, line_in, normal_line, line_found, without_fault}

pub table_is_free : is_simple_and_free table ≡ true
unfolding table commands options clap_on_literals
table_is_free = refl

-- the line where the parse by a command that is the table has no fault
pub at_ok : (words : List Text) (app : App) (found : Option (Text × List Row)) → app ≡ table → (is_simple_and_free app ≡ true → fault_of app words ≡ [])
    → (is_simple app ≡ true → found ≡ subcommand_of app words) → line_in words ≡ option_and_then line_found found
unfolding line_in
at_ok words app found is faultless met =
    ap₂ without_fault (sym (ap (λ (a : App). fault_of a words) is) ∙ faultless (ap is_simple_and_free is ∙ table_is_free))
    (sym (met (ap is_simple is ∙ (and_parts (is_simple table) _ table_is_free).0) ∙ ap (λ (a : App). subcommand_of a words) is))

pub at_fault : (kinds : Kinds) (kind : ErrorKind) (found : Option (Text × List Row)) → IsAmong kind kinds → without_fault kinds found ≡ None
at_fault [] kind found among = absurd among
at_fault (k ∷ ks) kind found among = refl

pub at_err : (words : List Text) (kind : ErrorKind) → IsAmong kind (fault_of table words) → line_in words ≡ None
unfolding line_in
at_err words kind among = at_fault (fault_of table words) kind (subcommand_of table words) among

-- no subcommand was met
pub none_met : (met : Option (Text × List Row)) → None ≡ option_map (λ p. p.1) met → met ≡ None
none_met None e = refl
none_met (Some p) e = absurd (none-some p.1 e)

-- a subcommand was met, by its name and its rows
pub one_met : (Z : Type 0) (met : Option (Box SubCommand Z)) (name : Text) (rows : List Row)
    → Some name ≡ option_map (λ b. (out-SubCommand (box_value b)).name.now) met
    → Some rows ≡ option_map (λ p. p.1) (subcommand_rows met)
    → subcommand_rows met ≡ Some (name, rows)
one_met Z None name rows n r = absurd (none-some name (sym n))
one_met Z (Some b) name rows n r = ap Some (ap₂ (λ (x : Text) (y : List Row). (x, y)) (sym (ap (λ o. unwrap_or o name) n)) (sym (ap (λ o. unwrap_or o rows) r)))

-- what the getters give is what stands in the rows
pub same_line : (found : Found) (command : Text) → normal_line command (first_value found) ≡ line_found (command, rows_of found)
same_line found command = ap (normal_line command) (fun_ext (first_value-rows found))

-- a plain command has no global argument
pub local_of : (a b g r : Bool) → (a && (b && (not g && r))) ≡ true → g ≡ false
local_of a b g r e = grind (arith, nat_tests)

-- a command with one more subcommand
pub adds_sub : (old sub new : Command) (app below : App) → app_of old ≡ app → app_of sub ≡ below → below.top.is_plain ≡ true
    → AddsSubcommand old sub new → app_of new ≡ with_subcommand app below.top
adds_sub old sub new app below is under plain h =
    h.shape (local_of _ _ _ _ (ap (λ (a : App). a.top.is_plain) under ∙ plain)) ∙ ap₂ with_subcommand is (ap (λ (a : App). a.top) under)

-- ---- the table, command by command

-- a command keeps its settings over its options
plain_row : (b : Bool) (app : App) (rule : Rule) → (if b then with_rule app rule else app).top.is_plain ≡ app.top.is_plain
plain_row true app rule = refl
plain_row false app rule = refl

plain_rows : (word : Text) (app : App) (rows : List OptionRow) → (fold (with_row word) app rows).top.is_plain ≡ app.top.is_plain
plain_rows word app [] = refl
plain_rows word app (row ∷ rows) =
    plain_rows word (with_row word app row) rows ∙ plain_row (bytes_eq row.command word) app (rule_for row.way row.name)

abbrev pub texts_of : List (Bor Text) → List Text
texts_of = map (λ (word : Bor Text). word.now)

pub next_word : (items : List (Bor Text)) (i : ℕ) (d : Bor Text) → i < length items
    → texts_of (drop i items) ≡ (get_or items i d).now ∷ texts_of (drop (i + 1) items)
next_word items i d lt = rw (add-one, drop-cons items i d) refl

-- one more command, before others
pub command_added : (word : Text) (words : List Text) (old sub new : Command) (whole : App) → app_of sub ≡ app_for word → AddsSubcommand old sub new
    → fold with_command (app_of old) (word ∷ words) ≡ whole → fold with_command (app_of new) words ≡ whole
command_added word words old sub new whole is added rest =
    ap (λ (app : App). fold with_command app words)
    (adds_sub old sub new (app_of old) (app_for word) refl is (plain_rows word (with_rule (new_app word) argument) options) added) ∙ rest
