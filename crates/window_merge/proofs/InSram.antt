-- What a core and the DMA engine want of SRAM is in SRAM.
use Rattle.window_merge.proofs.Shared.{Act, Ask, Asking, Beat, Bool, Master, Option, Question, Ready, Request, Spot, Want, Why, Work, answered, if◌then◌else◌, place_of, refl, true, ℕ, ◌≡◌, arith}
use Rattle.rp_base.specs.declared.map.Spot.TheVariants as spot
use Rattle.lane_look.specs.declared.lane.Want.TheVariants as want
use Rattle.m0_core.specs.declared.doing.Act.TheVariants as act
use Rattle.m0_core.specs.declared.doing.Work.TheVariants as works
use Rattle.m0_core.specs.State.{State}
use Rattle.m0_core.specs.Fetch.{is_ram_spot, in_beat, beat_of_work, asks_fault, asks_beat, asks_return, asks_decoded, asks_half, asks_second, asks_first, asks_boundary, asks_next, asks_awake, carried, asks}
use Rattle.m0_core.specs.Cycle as core
use Rattle.dma_engine.specs.declared.begun.Access.{Access as DmaAccess}
use Rattle.dma_engine.specs.declared.begun.BegunTransfer.{BegunTransfer as DmaDoing}
use Rattle.dma_engine.specs.State.{State as Engine}
use Rattle.dma_engine.specs.Asks as dma_asks
use Rattle.dma_engine.specs.Cycle as dma

-- a want of SRAM has an address of SRAM
abbrev pub IsPlaced : Want → Type 0
IsPlaced (want.Ram request) = is_ram_spot (place_of request.address) ≡ true
IsPlaced _ = Unit {0}

-- whatever the questions are answered, what is begun meets this
pub record Begins {B : Type 0} (P : B → Type 0) (f : Ask → ℕ) (tree : Asking B) : Type 0 where
  pub met : P (answered f tree)

either : {B : Type 0} (P : B → Type 0) (f : Ask → ℕ) (c : Bool) (t u : Asking B) → Begins P f t → Begins P f u → Begins P f (if c then t else u)
either P f c t u h1 h2 = grind arith

-- ---- a core

record Placed (a : Act) : Type 0 where
  placed : IsPlaced (core.want_of_act a)

ready : (f : Ask → ℕ) (a : Act) → Placed a → Begins Placed f (Ready a)
ready f a h = record { met = h }

stop_placed : (cause : Why) → Placed (act.Stopped cause)
stop_placed cause = record { placed = tt }

in_beat_placed : (f : Ask → ℕ) (work : Work) (s : State) (beat : Beat) → Begins Placed f (in_beat work s beat)
in_beat_placed f work s beat = search (arith, ready, either, stop_placed)

beat_placed : (f : Ask → ℕ) (work : Work) (s : State) → Begins Placed f (asks_beat work s)
unfolding asks_beat
beat_placed f work s = in_beat_placed f work s (beat_of_work work s)

fault_placed : (f : Ask → ℕ) (s : State) → Begins Placed f (asks_fault s)
fault_placed f s = search (arith, either, ready, stop_placed)

return_placed : (f : Ask → ℕ) (value : ℕ) (s : State) → Begins Placed f (asks_return value s)
unfolding asks_return
return_placed f value s = either Placed f _ _ _ (fault_placed f s) (either Placed f _ _ _ (ready f _ (stop_placed _)) (beat_placed f (works.Return value) s))

half_placed : (f : Ask → ℕ) (address : ℕ) (s : State) (next : ℕ → Asking Act) → ((half : ℕ) → Begins Placed f (next half)) → Begins Placed f (asks_half address s next)
half_placed f address s next h = search (arith, either, ready, stop_placed)

second_placed : (f : Ask → ℕ) (first : ℕ) (s : State) → Begins Placed f (asks_second first s)
unfolding asks_second asks_decoded
second_placed f first s = search (arith, either, half_placed, ready, stop_placed, fault_placed, beat_placed)

next_placed : (f : Ask → ℕ) (work : Option Work) (s : State) → Begins Placed f (asks_next work s)
unfolding asks_boundary asks_first
next_placed f work s = search (arith, beat_placed, return_placed, half_placed, second_placed)

carried_same : (f : Ask → ℕ) (lines cycle : ℕ) (tree : Asking Act) → (answered f (carried lines cycle tree)).act ≡ answered f tree
unfolding carried
carried_same f lines cycle (Ready begun) = refl
carried_same f lines cycle (Question ask next) = carried_same f lines cycle (next (f ask))

pub core_placed : (f : Ask → ℕ) (s : State) (cycle : ℕ) → IsPlaced (core.want_of (answered f (asks s cycle)))
unfolding asks asks_awake
core_placed f s cycle = search (arith, carried_same, next_placed)

-- ---- the DMA engine

abbrev pub AccessIsPlaced : DmaAccess → Type 0
AccessIsPlaced a = IsPlaced (dma.want_of a)

pub record ArePlaced (begun : DmaDoing) : Type 0 where
  pub read : AccessIsPlaced begun.read
  pub write : AccessIsPlaced begun.write

outside_placed : (m : Master) (request : Request) → AccessIsPlaced (dma_asks.elsewhere m request spot.Outside)
outside_placed m request = grind arith

write_for_placed : (request : Option Request) → AccessIsPlaced (dma_asks.write_for request)
write_for_placed request = search (arith, outside_placed)

read_at_placed : (f : Ask → ℕ) (counts : ℕ) (write : DmaAccess) (request : Request) (spot : Spot) → place_of request.address ≡ spot → AccessIsPlaced write → Begins ArePlaced f (dma_asks.asks_at counts write request spot)
read_at_placed f counts write request spot h1 h2 = search (arith, outside_placed)

dma_begins : (f : Ask → ℕ) (s : Engine) → Begins ArePlaced f (dma_asks.asks s)
unfolding dma_asks.asks dma_asks.asks_read dma_asks.write_begun
dma_begins f s = search (arith, either, write_for_placed, read_at_placed)

pub dma_placed : (f : Ask → ℕ) (s : Engine) → ArePlaced (answered f (dma_asks.asks s))
dma_placed f s = (dma_begins f s).met
