-- PUSH, PULL and autopull (RP2040 Datasheet, 3.4.6, 3.4.7 and 3.5.4).
use Rattle.std.specs.Prelude.{ℕ, Bool, true, ◌&&◌, ◌||◌, ◌==◌, nat_le, nat_lt, if◌then◌else◌, List, [], ◌∷◌, ◌++◌}
use Rattle.pio_machine.specs.declared.machine.Machine1.{Machine1}
use Rattle.pio_machine.specs.Ending.{Ending}
use Rattle.pio_machine.specs.Ending.Ending.{Stalled, Completed}
use Rattle.pio_machine.specs.Fields.{autopull, pull_threshold, push_threshold, is_rx_full}

-- what a try of a word leaves of the machine, and whether it stalled or completed
pub record Try : Type 0 where
  pub machine : Machine1
  pub ending : Ending

abbrev pub completed : Machine1 → Try
completed m = record { machine = m; ending = Completed }

abbrev pub stalled : Machine1 → Try
stalled m = record { machine = m; ending = Stalled }

-- ---- the OSR from the TX FIFO

-- the first word goes to the OSR, where there is one
abbrev pub loaded_from : List ℕ → Machine1 → Machine1
loaded_from [] m = m
loaded_from (word ∷ rest) m = record m { osr = word; osr_count = 0; tx = rest }

abbrev pub loaded : Machine1 → Machine1
loaded m = loaded_from m.tx m

-- the OSR is to be loaded again
abbrev pub is_spent : Machine1 → Bool
is_spent m = nat_le (pull_threshold m) m.osr_count

-- autopull: a spent OSR is loaded where a word waits
unfoldable pub refilled : Machine1 → Machine1
refilled m = if autopull m then (if is_spent m then loaded m else m) else m

-- ---- PULL

abbrev pub with_tx_stall : Machine1 → Machine1
with_tx_stall m = record m { tx_stall = true }

abbrev pub with_osr : ℕ → Machine1 → Machine1
with_osr word m = record m { osr = word; osr_count = 0 }

-- with IfEmpty, a PULL whose OSR is not spent does nothing, and nor does one under autopull whose OSR is full
abbrev pub is_pull_void : Bool → Machine1 → Bool
is_pull_void if_empty m = if_empty && nat_lt m.osr_count (pull_threshold m) || autopull m && (m.osr_count == 0)

-- on an empty FIFO it stalls, or without Block copies X
abbrev pub pulled_from : List ℕ → Bool → Machine1 → Try
pulled_from [] block m = if block then stalled (with_tx_stall m) else completed (with_osr m.x m)
pulled_from (word ∷ rest) block m = completed (loaded m)

unfoldable pub try_pull : Bool → Bool → Machine1 → Try
try_pull if_empty block m = if is_pull_void if_empty m then completed m else pulled_from m.tx block m

-- ---- PUSH

abbrev pub with_isr_cleared : Machine1 → Machine1
with_isr_cleared m = record m { isr = 0; isr_count = 0 }

abbrev pub with_rx_stall : Machine1 → Machine1
with_rx_stall m = record m { rx_stall = true }

-- the ISR goes to the RX FIFO, and is cleared
abbrev pub pushed : Machine1 → Machine1
pushed m = with_isr_cleared (record m { rx = m.rx ++ m.isr ∷ [] })

-- on a full FIFO it stalls, or without Block clears the ISR; either is told
abbrev pub try_push_now : Bool → Machine1 → Try
try_push_now block m =
    if is_rx_full m
    then (if block then stalled (with_rx_stall m) else completed (with_isr_cleared (with_rx_stall m)))
    else completed (pushed m)

-- with IfFull, a PUSH whose ISR has not reached its threshold does nothing
abbrev pub is_push_void : Bool → Machine1 → Bool
is_push_void if_full m = if_full && nat_lt m.isr_count (push_threshold m)

unfoldable pub try_push : Bool → Bool → Machine1 → Try
try_push if_full block m = if is_push_void if_full m then completed m else try_push_now block m
