-- Laws of the clock divider and of the FIFOs over whole runs of a machine (RP2040 Datasheet, 3.5.3 and 3.5.5).
use Rattle.std.specs.Prelude.{◌≡◌, ℕ, ◌+◌, ◌-◌, ◌*◌, ◌/◌, ◌≤◌, true, if◌then◌else◌, List, [], ◌∷◌, length}
use Rattle.pio_machine.specs.declared.machine.Machine1.{Machine1}
use Rattle.pio_machine.specs.declared.machine.Seen.{Seen}
use Rattle.pio_machine.specs.Fields.{divider, tx_depth, rx_depth}
use Rattle.pio_machine.specs.Cycle.{ticks, after_cycle}

-- ---- the divider

-- in how many cycles a machine ticks, one for each of these that it sees
abbrev pub ticks_over : ℕ → List Seen → Machine1 → ℕ
ticks_over number [] m = 0
ticks_over number (seen ∷ seens) m =
    (if ticks m then 1 else 0) + ticks_over number seens (after_cycle number seen m)

-- in n cycles from a divider at rest an enabled machine ticks once for each begun part of the divider's length, in 256ths of a cycle
abbrev pub AMachineTicksByItsDivider : Type 0
AMachineTicksByItsDivider =
    (number : ℕ) (seens : List Seen) (m : Machine1)
    → m.enabled ≡ true
    → m.acc ≡ 0
    → ticks_over number seens m ≡ (256 * length seens + (divider m - 1)) / divider m

-- ---- the FIFOs

-- neither holds more words than it has room for
pub record IsWithin (m : Machine1) : Type 0 where
  pub tx : length m.tx ≤ tx_depth m
  pub rx : length m.rx ≤ rx_depth m

-- no cycle of a machine leaves more
abbrev pub ACycleKeepsTheFifosWithin : Type 0
ACycleKeepsTheFifosWithin = (number : ℕ) (seen : Seen) (m : Machine1) → IsWithin m → IsWithin (after_cycle number seen m)
