-- Cycles in which a block is quiet: as long as its inputs stay, each of its machines only waits (RP2040 Datasheet, 3.4, words that stall,
-- 3.5.1, delay, and 3.5.5, the clock divider), so that only dividers and delays go on.
use Rattle.std.specs.Prelude.{◌≡◌, ℕ, suc, ◌+◌, ◌<◌, ◌^◌, List, [], ◌∷◌, map}
use Rattle.lane_look.specs.declared.lane.Ask.{Ask}
use Rattle.lane_look.specs.declared.lane.Ask.TheVariants as ask
use Rattle.lane_look.specs.Asking.{answered}
use Rattle.pio_machine.specs.declared.machine.Machine1.{Machine1}
use Rattle.pio_machine.specs.declared.machine.Seen.{Seen}
use Rattle.pio_machine.specs.Quiet.{waited}
use Rattle.pio_machine.specs.Quiet as machine
use Rattle.pio_block.specs.declared.inputs.Inputs.{Inputs}
use Rattle.pio_block.specs.State.{State}
use Rattle.pio_block.specs.Words.{outs_of, lines_of, pacing_of}
use Rattle.pio_block.specs.Cycle.{seen_by, inputs_of, asks, next}

-- the machines from this number on are quiet for so many cycles, where the pins have these levels and enables
abbrev pub AreMachinesQuiet : ℕ → Seen → ℕ → ℕ → List Machine1 → ℕ → Type 0
AreMachinesQuiet i seen level enable [] n = Unit {0}
AreMachinesQuiet i seen level enable (m ∷ ms) n = machine.IsQuiet i seen level enable m n × AreMachinesQuiet (i + 1) seen level enable ms n

-- the flags are a byte, and the levels and enables of the pins are words
pub record HasWords (s : State) : Type 0 where
  pub flags : s.flags < 2 ^ 8
  pub levels : s.levels < 2 ^ 32
  pub enables : s.enables < 2 ^ 32

-- the block is quiet for so many cycles, beside these inputs
pub record IsQuiet (x : Inputs) (s : State) (n : ℕ) : Type 0 where
  pub words : HasWords s
  pub machines : AreMachinesQuiet 0 (seen_by x.now x.second s) s.levels s.enables s.machines n

-- the block, whose machines have only waited for so many cycles
abbrev pub block_after : ℕ → State → State
block_after n s = record s { machines = map (waited n) s.machines }

-- so it goes, as long as these are its inputs, and shows the same: its pins, its interrupt lines, and the counts that pace DMA channels
pub record GoesOn (x : Inputs) (s : State) (n : ℕ) : Type 0 where
  pub steps : (k : ℕ) → k < n → (answer : Ask → ℕ) → inputs_of (answer ask.Inputs) ≡ x
      → next (answered answer (asks (block_after k s))) (block_after k s) ≡ block_after (suc k) s
  pub outs : (k : ℕ) → outs_of (block_after k s) ≡ outs_of s
  pub lines : (k : ℕ) → lines_of (block_after k s) ≡ lines_of s
  pub pacing : (k : ℕ) → pacing_of (block_after k s).machines ≡ pacing_of s.machines

abbrev pub AQuietBlockShowsTheSame : Type 0
AQuietBlockShowsTheSame = (x : Inputs) (s : State) (n : ℕ) → IsQuiet x s n → GoesOn x s n
