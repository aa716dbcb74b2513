-- What the machine gives a debugger beside its state: which instruction a core begins, and what core 0 would read.
use Rattle.std.specs.Prelude.{ℕ, ◌==◌, if◌then◌else◌, Option}
use Rattle.rp_base.specs.Map.{place_of}
use Rattle.rp_base.specs.declared.Master.TheVariants.{Core0}
use Rattle.rp_base.specs.declared.map.Spot.{Spot}
use Rattle.rp_base.specs.declared.map.Spot.TheVariants as spot
use Rattle.m0_core.specs.Begins.{begins}
use Rattle.m0_nvic.specs.Words.{word_of}
use Rattle.outer_lane.specs.Setting.{Setting}
use Rattle.rp_machine.specs.State.{State}
use Rattle.rp_machine.specs.Cycle.{begun}
use Rattle.rp_machine.specs.Deeds.{word_for}

-- the address of the instruction that a core begins in the cycle that is next
abbrev pub begins_of : ℕ → State → Option ℕ
begins_of core s = if core == 0 then begins s.core0 else begins s.core1

-- The word that a read of core 0 would have in the cycle that is next, of a register block, of SIO, of the private bus or of the
-- device; None where there is no such word, and in SRAM.
abbrev pub peeked_at : Setting → ℕ → Spot → State → Option ℕ
peeked_at w address (spot.Ppb offset) s = word_of offset s.core0.regs.ipsr s.core0.nvic
peeked_at w address other s = word_for w (begun s).outer Core0 address other s

unfoldable pub peeked : Setting → ℕ → State → Option ℕ
peeked w address s = peeked_at w address (place_of address) s
