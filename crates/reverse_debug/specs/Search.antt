-- What is watched on a stretch of a run (the project's own).
use Rattle.std.specs.Prelude.{ℕ, zero, suc, ◌+◌, Bool, true, false, nat_lt, if◌then◌else◌, Some, None}
use Rattle.outer_lane.specs.Setting.{Setting}
use Rattle.rp_machine.specs.State.{State}
use Rattle.reverse_debug.specs.declared.search.Tally.{Tally}
use Rattle.reverse_debug.specs.Command.{Watched}
use Rattle.reverse_debug.specs.Reply.{happens}

-- one cycle more, in which it happened or not; only the first ones are remembered, at most so many
abbrev pub noted : ℕ → Bool → ℕ → Tally → Tally
noted most true cycle t = record { count = t.count + 1; last = if nat_lt t.count most then Some cycle else t.last }
noted most false cycle t = t

-- in how many of n cycles from a state on it happens, and the last one of the first of these
unfoldable pub tally : Setting → State → Watched → ℕ → ℕ → Tally
tally w s watched most zero = record { count = 0; last = None }
tally w s watched most (suc n) = noted most (happens w s watched n) (s.cycle + n) (tally w s watched most n)
