-- The scripted level of a pin by the set of a file's entries: that of the entry for the pin with the greatest pair of cycle and
-- line whose cycle is not later, and the script says the same.
use Rattle.std.specs.Prelude.{◌≡◌, ◌≤◌, ℕ, Bool, ◌&&◌, ◌||◌, ◌==◌, nat_lt, nat_le, if◌then◌else◌, List, [], ◌∷◌, map, Option, Some, None, Ok}
use Rattle.pin_script.specs.declared.entry.Entry.{Entry}
use Rattle.pin_script.specs.declared.entry.Level.{Level}
use Rattle.pin_script.specs.declared.entry.Level.TheVariants.{Free}
use Rattle.pin_script.specs.declared.entry.LineEntry.{LineEntry}
use Rattle.pin_script.specs.Levels.{level_at}
use Rattle.pin_script.specs.Script.{entries_of, in_order, script_of, without_line}

-- the lines do not fall from this one on, as in a file
abbrev pub LinesFrom : ℕ → List LineEntry → Type 0
LinesFrom low [] = Unit {0}
LinesFrom low (entry ∷ more) = (low ≤ entry.line) × LinesFrom entry.line more

-- this pair of cycle and line is not above that one
abbrev pub is_before : LineEntry → LineEntry → Bool
is_before a b = nat_lt a.cycle b.cycle || (a.cycle == b.cycle && nat_le a.line b.line)

-- the entry may act on the pin in the cycle
abbrev pub may_act : ℕ → ℕ → LineEntry → Bool
may_act cycle pin entry = nat_le entry.cycle cycle && entry.pin == pin

-- of the entries that may act the one with the greatest pair
abbrev pub greater : LineEntry → Option LineEntry → Option LineEntry
greater a None = Some a
greater a (Some b) = if is_before a b then Some b else Some a

abbrev pub acting : ℕ → ℕ → List LineEntry → Option LineEntry
acting cycle pin [] = None
acting cycle pin (entry ∷ more) =
    if may_act cycle pin entry then greater entry (acting cycle pin more) else acting cycle pin more

abbrev pub level_of : Option LineEntry → Level
level_of None = Free
level_of (Some entry) = entry.level

-- in a script of entries whose lines do not fall
abbrev pub TheGreatestPairActs : Type 0
TheGreatestPairActs =
    (entries : List LineEntry) (cycle pin : ℕ) → LinesFrom 0 entries →
    level_at (map without_line (in_order entries)) cycle pin ≡ level_of (acting cycle pin entries)

-- and so in the script of every file
abbrev pub TheGreatestPairOfAFileActs : Type 0
TheGreatestPairOfAFileActs =
    (bytes : List ℕ) (entries : List LineEntry) (script : List Entry) (cycle pin : ℕ)
    → entries_of bytes ≡ Ok entries
    → script_of bytes ≡ Ok script
    → level_at script cycle pin ≡ level_of (acting cycle pin entries)
