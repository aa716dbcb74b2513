-- What stands beside the state of a block: whether it is busy, and, where it is not, its counts.
use Rattle.std.specs.Prelude.{◌≡◌, ℕ, ◌+◌, ◌*◌, ◌^◌, Bool, false, List, [], ◌∷◌}
use Rattle.pio_block.specs.State.{State, is_busy}
use Rattle.pio_block.specs.Words.{pacing_of}

-- counts in one number, six bits each, the first one lowest
abbrev pub packed_counts : List ℕ → ℕ
packed_counts [] = 0
packed_counts (count ∷ counts) = count + packed_counts counts * 2 ^ 6

pub record StandBeside (busy : Bool) (counts : ℕ) (s : State) : Type 0 where
  pub of_work : busy ≡ is_busy s
  pub of_counts : busy ≡ false → counts ≡ packed_counts (pacing_of s.machines)
