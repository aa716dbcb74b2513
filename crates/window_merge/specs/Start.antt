-- What the state at the start of a window answers each lane, while the machine goes on: what is not in SRAM is kept, and SRAM is
-- as the lane sees it. The project's own.
use Rattle.std.specs.Prelude.{◌≡◌, nat_eq, ℕ, ◌==◌, ◌||◌, ◌&&◌, not, Bool, false, if◌then◌else◌, List, [], ◌∷◌}
use Rattle.rp_base.specs.declared.map.Spot.{Spot}
use Rattle.rp_base.specs.declared.map.Spot.TheVariants as spot
use Rattle.rp_base.specs.Map.{place_of}
use Rattle.lane_look.specs.Asking.{Asking, answered}
use Rattle.lane_look.specs.declared.lane.Ask.{Ask}
use Rattle.lane_look.specs.declared.lane.Ask.TheVariants as ask
use Rattle.lane_look.specs.Replay.{asked}
use Rattle.lane_look.specs.Alone.{differs, ends_want}
use Rattle.m0_core.specs.Fetch as core_asks
use Rattle.dma_engine.specs.Asks as dma_asks
use Rattle.pio_block.specs.Cycle as pio
use Rattle.outer_lane.specs.Step as outer
use Rattle.rp_machine.specs.declared.begun.Begun.{Begun}
use Rattle.rp_machine.specs.declared.wanted.Wanted.{Wanted}
use Rattle.rp_machine.specs.State.{State}
use Rattle.rp_machine.specs.Sram.{half_of}
use Rattle.rp_machine.specs.Answers.{lines_of, pacing_of, inputs_of, outs_of, answer_of}
use Rattle.rp_machine.specs.Cycle.{begun, wanted}
use Rattle.window_merge.specs.declared.notes.Notes.{Notes}
use Rattle.window_merge.specs.declared.start.Start.{Start}
use Rattle.window_merge.specs.declared.start.Matcher.{Matcher}
use Rattle.window_merge.specs.Window.{clash}
use Rattle.window_merge.specs.Merging.{wants_of}
use Rattle.window_merge.specs.Notes.{seen_of}

-- what a state answers but for SRAM
abbrev pub start_of : State → Start
start_of s = record {
  lines0 = lines_of 0 s;
  lines1 = lines_of 1 s;
  pacing = pacing_of s;
  inputs = inputs_of s;
  pio0 = outs_of 0 s;
  pio1 = outs_of 1 s;
}

-- the word of a spot; 0 where it is not in SRAM
abbrev pub word_by : (ℕ → ℕ) → Spot → ℕ
word_by seen (spot.Ram index bank) = seen index
word_by seen _ = 0

-- what is answered a lane of that number, by SRAM as it sees it
abbrev pub guess : ℕ → Start → (ℕ → ℕ) → Ask → ℕ
guess lane start seen ask.Lines = if lane == 0 then start.lines0 else start.lines1
guess lane start seen (ask.Half address) = half_of (word_by seen (place_of address)) address
guess lane start seen (ask.Word address) = word_by seen (place_of address)
guess lane start seen ask.Pacing = start.pacing
guess lane start seen ask.Inputs = start.inputs
guess lane start seen (ask.Outs block) = if block == 0 then start.pio0 else start.pio1

-- what the start of a look answers
abbrev pub guessed : Matcher → Ask → ℕ
guessed k = guess k.lane k.start.now (seen_of k.lane k.notes.now k.machine.now.sram)

-- what a look answers, which keeps whether the start would have answered the same
abbrev pub matched : Matcher → Ask → ℕ → Matcher → Type 0
matched old question answer new =
    (answer ≡ answer_of old.lane old.machine.now question)
    × (new ≡ record old { same = old.same && nat_eq (guessed old question) answer })

-- a lane has begun by what the machine answers, and it is kept whether the start answers the same
pub record IsBegun {B : Type 0} (lane : ℕ) (start : Start) (n : Notes) (s : State) (tree : Asking B) (before : Bool) (did : B)
    (after : Bool) : Type 0 where
  pub begun : did ≡ answered (answer_of lane s) tree
  pub same : after ≡ (before && not (differs (answer_of lane s) (asked (guess lane start (seen_of lane n s.sram)) tree)))

-- ---- the six lanes

-- what they begin where the start answers
abbrev pub begun_from : Start → Notes → State → Begun
begun_from start n s = record {
  core0 = answered (guess 0 start (seen_of 0 n s.sram)) (core_asks.asks s.core0 s.cycle);
  core1 = answered (guess 1 start (seen_of 1 n s.sram)) (core_asks.asks s.core1 s.cycle);
  dma = answered (guess 2 start (seen_of 2 n s.sram)) (dma_asks.asks s.dma.block);
  pio0 = answered (guess 3 start (seen_of 3 n s.sram)) (pio.asks s.pio0.block);
  pio1 = answered (guess 4 start (seen_of 4 n s.sram)) (pio.asks s.pio1.block);
  outer = answered (guess 5 start (seen_of 5 n s.sram)) (outer.asks s.outer s.cycle);
}

-- some answer to core 0, or to the peripherals, is not the one that the machine gives
abbrev pub differs_core0 : Start → Notes → State → Bool
differs_core0 start n s = differs (answer_of 0 s) (asked (guess 0 start (seen_of 0 n s.sram)) (core_asks.asks s.core0 s.cycle))

abbrev pub differs_outer : Start → Notes → State → Bool
differs_outer start n s = differs (answer_of 5 s) (asked (guess 5 start (seen_of 5 n s.sram)) (outer.asks s.outer s.cycle))

-- some answer to a lane is not
abbrev pub differs_from : Start → Notes → State → Bool
differs_from start n s =
    differs_core0 start n s
    || (differs (answer_of 1 s) (asked (guess 1 start (seen_of 1 n s.sram)) (core_asks.asks s.core1 s.cycle))
    || (differs (answer_of 2 s) (asked (guess 2 start (seen_of 2 n s.sram)) (dma_asks.asks s.dma.block))
    || (differs (answer_of 3 s) (asked (guess 3 start (seen_of 3 n s.sram)) (pio.asks s.pio0.block))
    || (differs (answer_of 4 s) (asked (guess 4 start (seen_of 4 n s.sram)) (pio.asks s.pio1.block))
    || (differs_outer start n s || false)))))

-- ---- whether a cycle is one of the window

-- a run alone ends before the cycle
abbrev pub ends_wanted : List Wanted → Bool
ends_wanted [] = false
ends_wanted (x ∷ xs) = ends_want x.want || ends_wanted xs

-- no run ends, and no two accesses name one port, where this is begun
abbrev pub goes_by : Begun → Bool
goes_by b = not (ends_wanted (wanted b) || clash (wants_of b))

-- the first cycle, in which each answer is what the machine answers
abbrev pub goes_first : State → Bool
goes_first s = goes_by (begun s)

-- a later one
abbrev pub goes_on : Start → Notes → State → Bool
goes_on start n s = not (differs_from start n s || not (goes_by (begun_from start n s)))
