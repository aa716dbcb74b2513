-- The options behind a command's argument: each a name with its value or a name alone, in any order and each at most once (the
-- project's own).
use Rattle.std.specs.Prelude.{ℕ, Bool, true, false, not, ◌&&◌, if◌then◌else◌, List, [], ◌∷◌, find, Option, Some, None, is_some}
use Rattle.std.specs.Option.{option_and_then}
use Rattle.std.specs.List.{list_any}
use Rattle.std.specs.Str.{bytes_eq}
use Rattle.command_words.specs.Numbers.{begins_with, number_within}
use Rattle.command_words.specs.Table.{Way, Alone, Row, commands, options, dashed}

abbrev pub is_command : List ℕ → Bool
is_command word = list_any (bytes_eq word) commands

-- the word is the name of an option
abbrev pub names : List ℕ → Row → Bool
names word row = bytes_eq word (dashed row.name)

-- what may follow an option: a value that does not begin with a dash, or nothing
abbrev pub fits : Way → Option (List ℕ) → Bool
fits Alone None = true
fits Alone (Some value) = false
fits _ None = false
fits _ (Some value) = not (begins_with 45 value)

-- the names that stand alone: no value follows them
abbrev pub is_alone : List ℕ → Bool
is_alone word = list_any (λ row. fits row.way None && names word row) options

-- an option as it is written: its name, and its value where it has one
abbrev pub NamedValue : Type 0
NamedValue = List ℕ × Option (List ℕ)

-- the options that some words write, one after another: the word behind a name is its value, unless the name stands alone
abbrev pub settings_of : List (List ℕ) → List NamedValue
settings_of [] = []
settings_of (name ∷ []) = (name, None) ∷ []
settings_of (name ∷ value ∷ words) =
    if is_alone name then (name, None) ∷ settings_of (value ∷ words)
    else (name, Some value) ∷ settings_of words

-- the option of this name among them
abbrev pub setting_for : List ℕ → List NamedValue → Option NamedValue
setting_for name settings = find (λ s. bytes_eq s.0 name) settings

abbrev pub is_given : List ℕ → List NamedValue → Bool
is_given name settings = is_some (setting_for name settings)

-- its value
abbrev pub value_for : List ℕ → List NamedValue → Option (List ℕ)
value_for name settings = option_and_then (λ s. s.1) (setting_for name settings)

-- the option is that of a row
abbrev pub suits : List ℕ → NamedValue → Row → Bool
suits command s row = bytes_eq row.command command && names s.0 row && fits row.way s.1

-- the command has the option
abbrev pub is_of : List ℕ → NamedValue → Bool
is_of command s = list_any (suits command s) options

-- these are options of the command, each name at most once
abbrev pub are_options : List ℕ → List NamedValue → Bool
are_options command [] = true
are_options command (s ∷ settings) = is_of command s && not (is_given s.0 settings) && are_options command settings

-- The words are in normal form: a command, its one argument, and then its options, each the pair of a name and a value, or a name
-- that stands alone, and each name at most once; neither the argument nor a value begins with a dash.
unfoldable pub is_normal : List (List ℕ) → Bool
is_normal [] = false
is_normal (command ∷ []) = false
is_normal (command ∷ argument ∷ words) =
    is_command command && not (begins_with 45 argument) && are_options command (settings_of words)

-- a number from 0 to high, 0 where there is none
abbrev pub number_or_zero : ℕ → Option (List ℕ) → Option ℕ
number_or_zero high None = Some 0
number_or_zero high (Some value) = number_within 0 high value

abbrev pub number_for : List ℕ → ℕ → List NamedValue → Option ℕ
number_for name high settings = number_or_zero high (value_for name settings)
