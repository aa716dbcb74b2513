-- CTRL (RP2040 Datasheet, 3.7).
use Rattle.std.specs.Prelude.{ℕ, ◌+◌, if◌then◌else◌, List, Bool}
use Rattle.rp_base.specs.Word.{has_bit}
use Rattle.pio_machine.specs.declared.machine.Machine1.{Machine1}
use Rattle.pio_machine.specs.Start.{restarted}
use Rattle.pio_block.specs.State.{State, each, with_machines}
use Rattle.pio_block.specs.Queues.{bits_of}

-- SM_ENABLE; the restart bits read 0
unfoldable pub ctrl_of : List Machine1 → ℕ
ctrl_of ms = bits_of (λ m. m.enabled) ms

abbrev pub restarted_if : Bool → Machine1 → Machine1
restarted_if asked m = if asked then restarted m else m

abbrev pub with_divider_restarted : Bool → Machine1 → Machine1
with_divider_restarted asked m = if asked then record m { acc = 0 } else m

abbrev pub with_enable : Bool → Machine1 → Machine1
with_enable enabled m = record m { enabled = enabled }

-- CLKDIV_RESTART in bits 11:8, SM_RESTART in bits 7:4, SM_ENABLE in bits 3:0
unfoldable pub controlled : ℕ → ℕ → Machine1 → Machine1
controlled w n m =
    with_divider_restarted (has_bit w (8 + n)) (restarted_if (has_bit w (4 + n)) (with_enable (has_bit w n) m))

unfoldable pub control_written : ℕ → State → State
control_written w s = with_machines (each (controlled w) s.machines) s
