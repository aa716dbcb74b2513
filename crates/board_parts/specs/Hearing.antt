-- What a probe hears of the changes of all pins: those of its own pin, in order. The project's own.
use Rattle.std.specs.Prelude.{ℕ, ◌==◌, map, List, ◌++◌, codes, decimal}
use Rattle.std.specs.List.{filter, fold}
use Rattle.board_parts.specs.Probe.{ProbeMeaning}
use Rattle.board_parts.specs.declared.probe.Probe.{Ghosts}
use Rattle.board_parts.specs.declared.change.PinChange.{PinChange}

-- a probe that is aimed: its index among the probes, its pin, what it does, and its state
pub record Aim : Type 0 where
  pub index : ℕ
  pub pin : ℕ
  pub probe : ProbeMeaning
  pub state : List ℕ

-- what is seen of an aimed probe: its index, its pin, and what its kind tells of it
abbrev pub aim_of : {P : Type 0} → ℕ → ℕ → Ghosts P → P → Aim
aim_of index pin kind probe = record { index = index; pin = pin; probe = kind.meaning probe; state = kind.state probe }

-- these values in turn, as what a view shows of each
abbrev pub seen : {A : Type 0} → List A → (A → Aim) → List Aim
seen values view = map view values

-- a probe that was aimed at a pin just now
abbrev pub aimed_at : ℕ → ℕ → ProbeMeaning → Aim
aimed_at index pin probe = record { index = index; pin = pin; probe = probe; state = probe.aimed pin }

-- the changes of a pin among some
abbrev pub changes_of : ℕ → List PinChange → List PinChange
changes_of pin changes = filter (λ change. change.pin == pin) changes

-- the state that some changes leave, one after another
abbrev pub after_changes : ProbeMeaning → List ℕ → List PinChange → List ℕ
after_changes probe state changes = fold (λ s change. probe.next change.cycle change.level s) state changes

-- a probe after changes of all pins
unfoldable pub after_hearing : List PinChange → Aim → Aim
after_hearing changes a = record a { state = after_changes a.probe a.state (changes_of a.pin changes) }

-- the line of a probe
unfoldable pub aim_text : Aim → List ℕ
aim_text a = codes "probe " ++ decimal a.index ++ codes " pin " ++ decimal a.pin ++ codes " " ++ a.probe.text a.state ++ codes "\n"
