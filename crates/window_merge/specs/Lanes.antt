-- The six lanes of the machine as lanes that run alone, and what is around each: it is answered as the state at the start would,
-- but for the words of SRAM that its own run wrote. The project's own.
use Rattle.std.specs.Prelude.{ℕ, ◌&&◌, Bool, if◌then◌else◌, List, [], ◌∷◌, Option, Some, None}
use Rattle.rp_base.specs.Map.{place_of}
use Rattle.lane_look.specs.declared.lane.Want.{Want}
use Rattle.lane_look.specs.declared.lane.Want.TheVariants as want
use Rattle.lane_look.specs.Alone.{Surroundings, surroundings, alone_length, asked_in, wanted_in}
use Rattle.lane_look.specs.Replay.{Meaning, meaning, Entry}
use Rattle.m0_core.specs.State.{State as Core}
use Rattle.m0_core.specs.declared.doing.Doing.{Doing as CoreDoing}
use Rattle.m0_core.specs.Fetch as core_asks
use Rattle.m0_core.specs.Cycle as core
use Rattle.dma_engine.specs.State.{State as Engine}
use Rattle.dma_engine.specs.declared.begun.BegunTransfer.{BegunTransfer as DmaDoing}
use Rattle.dma_engine.specs.Asks as dma_asks
use Rattle.dma_engine.specs.Cycle as dma
use Rattle.pio_block.specs.State.{State as Pio}
use Rattle.pio_block.specs.declared.inputs.Inputs.{Inputs}
use Rattle.pio_block.specs.Cycle as pio
use Rattle.outer_lane.specs.Setting.{Setting}
use Rattle.outer_lane.specs.declared.world.SeenOutputs.{SeenOutputs}
use Rattle.outer_lane.specs.State.{State as OuterState}
use Rattle.outer_lane.specs.Step as outer
use Rattle.rp_machine.specs.State.{State}
use Rattle.rp_machine.specs.Answers.{answer_of}
use Rattle.rp_machine.specs.Cycle.{stored}
use Rattle.rp_machine.specs.Deeds.{stored_at}

-- ---- the kinds of lanes; the script and the device of a run stand for the peripherals' world

abbrev pub core_lane : Meaning (Unit {0}) Core CoreDoing
core_lane = meaning (λ _ s cycle. core_asks.asks s cycle) core.wanted (λ _ s begun turns. core.next s begun turns) (λ _ s begun turns. None)

abbrev pub dma_lane : Meaning (Unit {0}) Engine DmaDoing
dma_lane = meaning (λ _ s cycle. dma_asks.asks s) dma.wanted (λ _ s begun turns. dma.next s begun turns) (λ _ s begun turns. None)

abbrev pub pio_lane : Meaning (Unit {0}) Pio (Option Inputs)
pio_lane = meaning (λ _ s cycle. pio.asks s) (λ begun. pio.wanted) (λ _ s begun turns. pio.next begun s) (λ _ s begun turns. None)

abbrev pub peripheral_lane : Setting → Meaning (Unit {0}) OuterState SeenOutputs
peripheral_lane w = meaning (λ _ s cycle. outer.asks s cycle) outer.wanted (λ _ s begun turns. outer.next w s begun) (λ _ s begun turns. Some (outer.marked w s begun))

-- ---- what is around a lane

-- an access to SRAM that a run alone does at once
abbrev pub stored_by : Want → State → State
stored_by (want.Ram request) s = record s { sram = stored (stored_at request request.write (place_of request.address)) s.sram }
stored_by _ s = s

abbrev pub around : ℕ → Surroundings State
around lane = surroundings (answer_of lane) (λ s w. stored_by w s)

-- ---- the run alone of one lane

-- of the lane of that number: how long it is, and for each of its cycles the questions with their answers, and the wants
pub record Run : Type 0 where
  pub lane : ℕ
  pub cycles : ℕ
  pub asked : ℕ → List Entry
  pub wants : ℕ → List Want

-- where it has at most so many cycles
abbrev pub run_of : {S B : Type 0} → Meaning (Unit {0}) S B → ℕ → S → State → ℕ → Run
run_of m lane before s bound = record {
  lane = lane;
  cycles = alone_length m (around lane) tt before s.cycle s bound;
  asked = asked_in m (around lane) tt before s.cycle s;
  wants = wanted_in m (around lane) tt before s.cycle s;
}

-- core 1 takes a word of its launcher in its first cycle, where it sleeps and there is one; its run alone ends before that
abbrev pub is_launching : Core → Bool
is_launching c = c.asleep && c.offer

abbrev pub core1_bound : State → ℕ → ℕ
core1_bound s bound = if is_launching s.core1 then 0 else bound

-- the runs alone of the six lanes
abbrev pub runs_of : Setting → State → ℕ → List Run
runs_of w s bound =
    run_of core_lane 0 s.core0 s bound
    ∷ run_of core_lane 1 s.core1 s (core1_bound s bound)
    ∷ run_of dma_lane 2 s.dma.block s bound
    ∷ run_of pio_lane 3 s.pio0.block s bound
    ∷ run_of pio_lane 4 s.pio1.block s bound
    ∷ run_of (peripheral_lane w) 5 s.outer s bound
    ∷ []
