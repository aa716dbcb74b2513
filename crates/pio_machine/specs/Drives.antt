-- Laws of who decides the level and the enable of a pin (RP2040 Datasheet, 3.5.6): who wrote it last.
use Rattle.std.specs.Prelude.{◌≡◌, ℕ, ◌<◌, ◌==◌, if◌then◌else◌}
use Rattle.std.specs.Int.{bit_at}
use Rattle.pio_words.specs.Operation.{operation_of}
use Rattle.pio_machine.specs.declared.machine.Machine1.{Machine1}
use Rattle.pio_machine.specs.declared.machine.Seen.{Seen}
use Rattle.pio_machine.specs.declared.machine.Done.{Done}
use Rattle.pio_machine.specs.Start.{nothing_done}
use Rattle.pio_machine.specs.Operation.{written, with_side}
use Rattle.pio_machine.specs.Cycle.{worked, written_by_try, written_in_cycle}

-- what is written where a mask has the pin, and else what was there before
abbrev pub decided : ℕ → ℕ → ℕ → ℕ
decided mask written before = if mask == 1 then written else before

-- a pin has what a writer wrote to it, and what it had before where it did not write it
pub record Overrides (pin : ℕ) (own before after : Done) : Type 0 where
  pub level : bit_at after.levels pin ≡ decided (bit_at own.level_mask pin) (bit_at own.levels pin) (bit_at before.levels pin)
  pub level_mask : bit_at after.level_mask pin ≡ decided (bit_at own.level_mask pin) 1 (bit_at before.level_mask pin)
  pub enable : bit_at after.enables pin ≡ decided (bit_at own.enable_mask pin) (bit_at own.enables pin) (bit_at before.enables pin)
  pub enable_mask : bit_at after.enable_mask pin ≡ decided (bit_at own.enable_mask pin) 1 (bit_at before.enable_mask pin)

-- a machine overrides those that wrote before it in the cycle
abbrev pub TheLaterMachineDecides : Type 0
TheLaterMachineDecides =
    (number pin : ℕ) (seen : Seen) (m : Machine1) (before : Done)
    → pin < 32
    → Overrides pin (written_in_cycle number seen m nothing_done) before (written_in_cycle number seen m before)

-- within one machine the side-set overrides the operation
abbrev pub TheSideSetDecides : Type 0
TheSideSetDecides =
    (word number pin : ℕ) (seen : Seen) (m : Machine1) (before : Done)
    → pin < 32
    → Overrides pin (with_side word (worked (operation_of word) number seen m) nothing_done)
    (written (operation_of word) number seen m before) (written_by_try word number seen m before)
