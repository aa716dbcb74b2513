-- What a script keeps beside its entries: what is driven after each of them.
use Rattle.std.specs.Prelude.{◌≡◌, ◌≤◌, ◌<◌, ℕ, ◌+◌, ◌-◌, zero, suc, List, [], ◌∷◌, length, take, slice_index_or}
use Rattle.std.specs.List.{All}
use Rattle.pin_script.specs.declared.entry.Entry.{Entry}
use Rattle.pin_script.specs.declared.entry.LineEntry.{LineEntry}
use Rattle.pin_script.specs.declared.script.Drives.{Drives}
use Rattle.pin_script.specs.Levels.{drive_of, driven_level, level_after}
use Rattle.pin_script.specs.Script.{IsScript}

-- each pin is one of the 30
abbrev pub HasPins : List LineEntry → Type 0
HasPins entries = All (λ entry. entry.pin < 30) entries

-- this is what the entries leave the 30 pins
abbrev pub Shows : List Entry → Drives → Type 0
Shows entries drives = (pin : ℕ) → pin < 30 → driven_level drives.driven drives.high pin ≡ drive_of (level_after entries pin)

-- one for each of the first entries
pub record IsTable (entries : List Entry) (table : List Drives) (count : ℕ) : Type 0 where
  pub rows : length table ≡ count
  pub shown : (k : ℕ) (d : Drives) → k < count → Shows (take (k + 1) entries) (slice_index_or table k d)

-- these are the entries of a script with their table
pub record IsTabled (entries : List Entry) (drives : List Drives) : Type 0 where
  pub script : IsScript entries
  pub table : IsTable entries drives (length entries)

-- the cycle of an entry, 0 past the last one
unfoldable pub cycle_at : List Entry → ℕ → ℕ
cycle_at [] k = 0
cycle_at (entry ∷ entries) zero = entry.cycle
cycle_at (entry ∷ entries) (suc k) = cycle_at entries k

-- an entry before this one is due in the cycle, if there is one, and with it those before it
abbrev pub IsDueBefore : List Entry → ℕ → ℕ → Type 0
IsDueBefore entries cycle index = 0 < index → cycle_at entries (index - 1) ≤ cycle
