-- Which probes are aimed: those that a list of targets names, in the order of the probes. The project's own.
use Rattle.std.specs.Prelude.{ℕ, ◌+◌, ◌==◌, if◌then◌else◌, List, [], ◌∷◌, ◌++◌, Option, Some, None}
use Rattle.board_parts.specs.Probe.{ProbeMeaning}
use Rattle.board_parts.specs.Hearing.{Aim, aimed_at}
use Rattle.board_parts.specs.declared.target.Target.{Target}

-- the pin that the targets name for the probe of an index
abbrev pub pin_for : ℕ → List Target → Option ℕ
pin_for index [] = None
pin_for index (target ∷ targets) = if target.index == index then Some target.pin else pin_for index targets

-- a probe that is aimed, where a pin is named for it
abbrev pub aim_where : ℕ → ProbeMeaning → Option ℕ → List Aim
aim_where index probe None = []
aim_where index probe (Some pin) = aimed_at index pin probe ∷ []

-- the probes from an index on that are aimed
abbrev pub aims_from : ℕ → List ProbeMeaning → List Target → List Aim
aims_from index [] targets = []
aims_from index (probe ∷ probes) targets = aim_where index probe (pin_for index targets) ++ aims_from (index + 1) probes targets

-- the probes that are aimed, by their indices
unfoldable pub aims_of : List ProbeMeaning → List Target → List Aim
aims_of probes targets = aims_from 0 probes targets
