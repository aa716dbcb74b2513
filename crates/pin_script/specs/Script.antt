-- A script of pin levels (the project's own): a list of lines. A line ends with LF, before which one CR is dropped, and the last
-- LF may be missing. Empty lines and lines that begin with `#` are skipped. A file whose first line that is not skipped is
-- `version 2` is of version 2, and that line is no entry; every other file is of version 1, which has level lines alone.
use Rattle.std.specs.Prelude.{◌≤◌, ◌<◌, ℕ, ◌+◌, Bool, true, false, not, ◌&&◌, ◌==◌, nat_le, if◌then◌else◌, List, [], ◌∷◌, take, drop, map, Result, Ok, Err, codes}
use Rattle.std.specs.Option.{option_map_or}
use Rattle.std.specs.Str.{bytes_eq}
use Rattle.std.specs.Str.Lines.{lines}
use Rattle.source_text.specs.Numbers.{number_of}
use Rattle.source_text.specs.Outcome.{and_then, map_ok}
use Rattle.pin_script.specs.declared.entry.Entry.{Entry}
use Rattle.pin_script.specs.declared.entry.LineEntry.{LineEntry}
use Rattle.pin_script.specs.declared.fault.ScriptFault.{ScriptFault}
use Rattle.pin_script.specs.declared.fault.ScriptFault.TheVariants.{Version}
use Rattle.pin_script.specs.Lines.{Earlier, after_line, is_skipped}

-- ---- the lines after the first one

-- the entries of these lines after the earlier ones, or the first fault; the first of these lines is line n
unfoldable pub after_lines : Bool → ℕ → Earlier → List (List ℕ) → Result (List LineEntry) ScriptFault
after_lines sends n s [] = Ok s.entries
after_lines sends n s (line ∷ more) = and_then (λ s'. after_lines sends (n + 1) s' more) (after_line sends n s line)

-- ---- the first line that is not skipped

abbrev pub nothing : Earlier
nothing = record { entries = []; cycle = 0 }

-- `version ` with 1 to 10 digits that stand for another number than 2
abbrev pub is_other_version : List ℕ → Bool
is_other_version line =
    bytes_eq (take 8 line) (codes "version ") && option_map_or (λ n. not (n == 2)) (number_of 10 10 (drop 8 line)) false

abbrev pub headed : ℕ → List ℕ → List (List ℕ) → Result (List LineEntry) ScriptFault
headed n line more =
    if bytes_eq line (codes "version 2") then after_lines true (n + 1) nothing more
    else if is_other_version line then Err (Version n)
    else after_lines false n nothing (line ∷ more)

unfoldable pub of_lines : ℕ → List (List ℕ) → Result (List LineEntry) ScriptFault
of_lines n [] = Ok []
of_lines n (line ∷ more) = if is_skipped line then of_lines (n + 1) more else headed n line more

-- the entries of a file with their lines, as the file has them, or its first fault; lines are counted from 1
unfoldable pub entries_of : List ℕ → Result (List LineEntry) ScriptFault
entries_of bytes = of_lines 1 (lines bytes)

-- ---- in order

-- an entry among others that stand after it in the file
abbrev pub inserted : LineEntry → List LineEntry → List LineEntry
inserted entry [] = entry ∷ []
inserted entry (next ∷ more) = if nat_le entry.cycle next.cycle then entry ∷ next ∷ more else next ∷ inserted entry more

-- in order of their cycles, and those of one cycle in order of their lines
unfoldable pub in_order : List LineEntry → List LineEntry
in_order [] = []
in_order (entry ∷ more) = inserted entry (in_order more)

abbrev pub without_line : LineEntry → Entry
without_line entry = record { cycle = entry.cycle; pin = entry.pin; level = entry.level }

-- the script of a file, or its first fault
unfoldable pub script_of : List ℕ → Result (List Entry) ScriptFault
script_of bytes = map_ok (λ entries. map without_line (in_order entries)) (entries_of bytes)

-- ---- what holds of every script

-- the cycles do not fall from this one on, and each pin is one of the 30
abbrev pub IsScriptFrom : ℕ → List Entry → Type 0
IsScriptFrom low [] = Unit {0}
IsScriptFrom low (entry ∷ entries) = (low ≤ entry.cycle) × (entry.pin < 30) × IsScriptFrom entry.cycle entries

abbrev pub IsScript : List Entry → Type 0
IsScript entries = IsScriptFrom 0 entries
