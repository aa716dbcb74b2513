-- How a try of a word ends.
use Rattle.std.specs.Prelude.{ℕ}

pub data Ending : Type 0 where
  -- it did not complete, and is tried again
  Stalled : Ending
  -- it completed
  Completed : Ending
  -- it completed and sets PC
  Jumped : (address : ℕ) → Ending
  -- it completed and gives a word to be executed
  Executes : (word : ℕ) → Ending
