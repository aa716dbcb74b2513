-- What the readers of the machine give.
use Rattle.std.specs.Prelude.{ℕ, List, ◌==◌, if◌then◌else◌, Option, Some, None}
use Rattle.m0_beats.specs.Registers.{register_words}
use Rattle.pio_block.specs.State.{machine_of}
use Rattle.pio_block.specs.Words.{register_list}
use Rattle.rp_machine.specs.State.{State}
use Rattle.rp_machine.specs.Answers.{pio_of}

-- the registers of a core; core 1 has none while it is asleep
abbrev pub registers_of : ℕ → State → Option (List ℕ)
registers_of core s =
    if core == 0 then Some (register_words s.core0.regs) else
    if s.core1.asleep then None else Some (register_words s.core1.regs)

-- PC, X, Y, ISR and OSR of a PIO machine
abbrev pub pio_registers : ℕ → ℕ → State → List ℕ
pio_registers block machine s = register_list (machine_of machine (pio_of block s).machines)
