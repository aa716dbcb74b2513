-- Cycles in which a machine only waits (RP2040 Datasheet, 3.4, words that stall, 3.5.1, delay, and 3.5.5, the clock divider): it tries no
-- word, or in vain the one at PC, so that nothing but its divider and its delay goes on.
use Rattle.std.specs.Prelude.{◌≡◌, ℕ, zero, suc, ◌-◌, ◌<◌, ◌^◌, Bool, false, if◌then◌else◌, List, [], ◌∷◌, Option, Some, None}
use Rattle.pio_words.specs.declared.op.PioOp.{PioOp}
use Rattle.pio_machine.specs.declared.machine.Machine1.{Machine1}
use Rattle.pio_machine.specs.declared.machine.Seen.{Seen}
use Rattle.pio_machine.specs.declared.machine.Done.{Done}
use Rattle.pio_machine.specs.declared.machine.Waiting.{Waiting}
use Rattle.pio_machine.specs.Ending.Ending.{Stalled}
use Rattle.pio_machine.specs.Pins.{overlaid}
use Rattle.pio_machine.specs.Output.{out_stalls}
use Rattle.pio_machine.specs.Operation.{tried, written, with_autopull}
use Rattle.pio_machine.specs.Cycle.{ticks, advanced, after_cycle, written_in_cycle}

-- its divider goes on, and a tick passes one of its delay
abbrev pub waited_once : Machine1 → Machine1
waited_once m = if ticks m then record (advanced m) { delay = m.delay - 1 } else advanced m

unfoldable pub waited : ℕ → Machine1 → Machine1
waited zero m = m
waited (suc n) m = waited_once (waited n m)

-- laid over pins that have these levels and enables it leaves them, and it writes no flag
pub record LeavesPins (level enable : ℕ) (d : Done) : Type 0 where
  pub levels : overlaid d.level_mask d.levels level ≡ level
  pub enables : overlaid d.enable_mask d.enables enable ≡ enable
  pub level_mask : d.level_mask < 2 ^ 32
  pub enable_mask : d.enable_mask < 2 ^ 32
  pub set : d.set ≡ 0
  pub clear : d.clear ≡ 0

-- in so many cycles the machine of this number only waits, as long as it sees this; and what it writes beside others that leave the pins
-- leaves them
pub record IsQuiet (number : ℕ) (seen : Seen) (level enable : ℕ) (m : Machine1) (n : ℕ) : Type 0 where
  pub steps : (k : ℕ) → k < n → after_cycle number seen (waited k m) ≡ waited (suc k) m
  pub leaves : (k : ℕ) → k < n → (d : Done) → LeavesPins level enable d → LeavesPins level enable (written_in_cycle number seen (waited k m) d)

-- ---- why

-- a word that was written to INSTR is tried in each cycle
abbrev pub is_forced : Option Waiting → Bool
is_forced None = false
is_forced (Some w) = w.forced

-- under autopull a tick loads the OSR
abbrev pub loads : List ℕ → Machine1 → Bool
loads [] m = false
loads (word ∷ rest) m = out_stalls m

-- a try of this operation stalls, and leaves the machine as it is and writes nothing, whatever is left of the divider and of a delay
pub record IsStuck (op : PioOp) (number : ℕ) (seen : Seen) (m : Machine1) : Type 0 where
  pub ending : (a d : ℕ) → (tried op number seen (record m { acc = a; delay = d })).ending ≡ Stalled
  pub machine : (a d : ℕ) → (tried op number seen (record m { acc = a; delay = d })).machine ≡ record m { acc = a; delay = d }
  pub osr : (a d : ℕ) → with_autopull op (record m { acc = a; delay = d }) ≡ record m { acc = a; delay = d }
  pub written : (a d : ℕ) (done : Done) → written op number seen (record m { acc = a; delay = d }) done ≡ done
