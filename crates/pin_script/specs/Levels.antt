-- The scripted level of a pin in a cycle: that of the last entry for the pin, in the script's order, whose cycle is not later;
-- without one the pin is free (the project's own).
use Rattle.std.specs.Prelude.{ℕ, Bool, true, false, ◌==◌, nat_le, if◌then◌else◌, List, [], ◌∷◌, length, Option, Some, None}
use Rattle.std.specs.List.{filter}
use Rattle.rp_base.specs.Word.{has_bit}
use Rattle.pin_script.specs.declared.entry.Level.{Level}
use Rattle.pin_script.specs.declared.entry.Level.TheVariants.{Low, High, Free}
use Rattle.pin_script.specs.declared.entry.Entry.{Entry}

abbrev pub is_due : ℕ → Entry → Bool
is_due cycle entry = nat_le entry.cycle cycle

-- how many entries are due in a cycle
abbrev pub due_count : List Entry → ℕ → ℕ
due_count entries cycle = length (filter (is_due cycle) entries)

abbrev pub is_for : ℕ → Entry → Bool
is_for pin entry = entry.pin == pin

abbrev pub last_of : {X : Type 0} → List X → Option X
last_of [] = None
last_of (x ∷ []) = Some x
last_of (x ∷ y ∷ more) = last_of (y ∷ more)

abbrev pub level_or_free : Option Entry → Level
level_or_free None = Free
level_or_free (Some entry) = entry.level

-- the level that the entries leave a pin
abbrev pub level_after : List Entry → ℕ → Level
level_after entries pin = level_or_free (last_of (filter (is_for pin) entries))

-- the scripted level of a pin in a cycle
abbrev pub level_at : List Entry → ℕ → ℕ → Level
level_at entries cycle pin = level_after (filter (is_due cycle) entries) pin

-- a level that drives the pin, or none where the pin is free
abbrev pub drive_of : Level → Option Bool
drive_of Low = Some false
drive_of High = Some true
drive_of Free = None

-- what a script drives a pin with in a cycle
unfoldable pub drive_at : List Entry → ℕ → ℕ → Option Bool
drive_at entries cycle pin = drive_of (level_at entries cycle pin)

-- the level of a pin by the set of those that are driven, and the set of those that are driven high
abbrev pub driven_level : ℕ → ℕ → ℕ → Option Bool
driven_level driven high pin = if has_bit driven pin then Some (has_bit high pin) else None
