-- What holds of cycles and runs, in other words than their definition.
use Rattle.std.specs.Prelude.{◌≡◌, ℕ, ◌+◌, ◌<◌, ◌==◌, if◌then◌else◌, Bool, true, false, List, [], ◌∷◌, ◌++◌, length, slice_index}
use Rattle.std.specs.List.{list_any}
use Rattle.rp_base.specs.declared.Master.TheVariants as master
use Rattle.rp_base.specs.declared.resettable.Resettable.{Resettable}
use Rattle.rp_base.specs.Resettable.{with_block}
use Rattle.rp_base.specs.Rows.{IsListed}
use Rattle.bus_fabric.specs.Words.{busctrl_rows}
use Rattle.lane_look.specs.declared.lane.Turn.{Turn}
use Rattle.lane_look.specs.declared.lane.Turn.TheVariants as turn
use Rattle.m0_core.specs.State.{State as Core}
use Rattle.m0_core.specs.Cycle as core
use Rattle.dma_engine.specs.State.{State as Engine}
use Rattle.dma_engine.specs.Cycle as dma
use Rattle.pio_block.specs.Cycle as pio
use Rattle.outer_lane.specs.State.{State as OuterState}
use Rattle.outer_lane.specs.Step as outer
use Rattle.ram_banks.specs.Lanes.{with_lanes}
use Rattle.outer_lane.specs.Setting.{Setting}
use Rattle.rp_machine.specs.declared.deed.Deed.{Deed}
use Rattle.rp_machine.specs.declared.deed.Deed.TheVariants as deed
use Rattle.lane_look.specs.Device.{DeviceMeaning}
use Rattle.uf2_image.specs.declared.parts.Image.{Image}
use Rattle.sio_block.specs.Launcher.{offers_of}
use Rattle.rp_machine.specs.declared.load.PioLoad.{PioLoad}
use Rattle.rp_machine.specs.State.{State}
use Rattle.rp_machine.specs.Registers.{Part, part_of, resets_rows}
use Rattle.rp_machine.specs.Registers.Part.{Resets, Dma, Pio0, Pio1, Outer}
use Rattle.rp_machine.specs.Boot.{start}
use Rattle.rp_machine.specs.Cycle.{begun, wanted, granted, turns, turn_for, deeds, with_event, with_offer, with_pins, pins_of, next}
use Rattle.rp_machine.specs.Run.{states, events_in}

-- ---- registers: each of RESETS and of BUSCTRL is what stands at its offset, and nothing stands at any other

pub record EachRegisterIsAtItsOffset : Type 0 where
  pub resets : IsListed resets_rows
  pub busctrl : IsListed busctrl_rows

-- ---- runs: a run of some cycles and then of others is one of all of them

pub record AreOneRun (w : Setting) (s : State) (m n : ℕ) : Type 0 where
  pub state : states w s (m + n) ≡ states w (states w s m) n
  pub events : events_in w s (m + n) ≡ events_in w s m ++ events_in w (states w s m) n

abbrev pub RunsFollowEachOther : Type 0
RunsFollowEachOther = (w : Setting) (s : State) (m n : ℕ) → AreOneRun w s m n

-- ---- SRAM: a word is what the writes that are done in the cycle make of it, the later one of two after the earlier one

-- what is done and what is told in a cycle
abbrev pub deeds_in : Setting → State → List Deed
deeds_in w s = deeds w (begun s) (wanted (begun s)) s (granted (wanted (begun s)) s)

abbrev pub turns_in : Setting → State → List Turn
turns_in w s = turns w (begun s) (wanted (begun s)) s (granted (wanted (begun s)) s)

-- the word of an index after a deed
abbrev pub word_with : ℕ → Deed → ℕ → ℕ
word_with index (deed.Store at lanes value) word = if at == index then with_lanes lanes value word else word
word_with index _ word = word

abbrev pub word_after : ℕ → List Deed → ℕ → ℕ
word_after index [] word = word
word_after index (d ∷ ds) word = word_after index ds (word_with index d word)

abbrev pub SramChangesByTheWritesAlone : Type 0
SramChangesByTheWritesAlone =
    (w : Setting) (s : State) (index : ℕ) → index < length s.sram
    → slice_index (next w s).sram index ≡ word_after index (deeds_in w s) (slice_index s.sram index)

-- ---- effects: each lane steps by what was begun and told by the state at the start of the cycle. What is done in the cycle
-- comes after its step, and reaches it only where it is meant for it

abbrev pub own_core0 : Setting → State → Core
own_core0 w s = core.next s.core0 (begun s).core0 (turn_for (turns_in w s) master.Core0 ∷ turn.Nothing ∷ [])

abbrev pub own_core1 : Setting → State → Core
own_core1 w s = core.next s.core1 (begun s).core1 (turn_for (turns_in w s) master.Core1 ∷ turn.Nothing ∷ [])

abbrev pub own_dma : Setting → State → Resettable Engine
own_dma w s =
    with_block s.dma (dma.next s.dma.block (begun s).dma (turn_for (turns_in w s) master.DmaRead ∷ turn_for (turns_in w s) master.DmaWrite ∷ []))

abbrev pub own_outer : Setting → State → OuterState
own_outer w s = outer.next w s.outer (begun s).outer

-- a core but for its event register, which SEV sets, and for what it knows of its launcher
abbrev pub core_alone : Core → Core
core_alone c = with_event (with_offer false c)

-- the peripherals but for what SIO puts out
abbrev pub outer_alone : OuterState → OuterState
outer_alone o = with_pins [] o

-- an access to a word of RESETS, or of the part itself
abbrev pub reaches : (Part → Bool) → Part → Bool
reaches own Resets = true
reaches own other = own other

abbrev pub is_for : (Part → Bool) → Deed → Bool
is_for own (deed.Register block offset write) = reaches own (part_of block)
is_for own _ = false

abbrev pub is_dma : Part → Bool
is_dma Dma = true
is_dma _ = false

abbrev pub is_pio0 : Part → Bool
is_pio0 Pio0 = true
is_pio0 _ = false

abbrev pub is_pio1 : Part → Bool
is_pio1 Pio1 = true
is_pio1 _ = false

abbrev pub is_outer : Part → Bool
is_outer (Outer block) = true
is_outer _ = false

-- an access to the peripherals or to the device
abbrev pub is_for_outer : Deed → Bool
is_for_outer (deed.Device address write) = true
is_for_outer d = is_for is_outer d

-- no access that is done is for a part
abbrev pub NoneIs : (Deed → Bool) → Setting → State → Type 0
NoneIs is_meant w s = list_any is_meant (deeds_in w s) ≡ false

pub record IsItsOwnStep (w : Setting) (s : State) : Type 0 where
  pub core0 : with_event (next w s).core0 ≡ with_event (own_core0 w s)
  pub core1 : (own_core1 w s).asleep ≡ false → core_alone (next w s).core1 ≡ core_alone (own_core1 w s)
  pub dma : NoneIs (is_for is_dma) w s → (next w s).dma ≡ own_dma w s
  pub pio0 : NoneIs (is_for is_pio0) w s → (next w s).pio0 ≡ with_block s.pio0 (pio.next (begun s).pio0 s.pio0.block)
  pub pio1 : NoneIs (is_for is_pio1) w s → (next w s).pio1 ≡ with_block s.pio1 (pio.next (begun s).pio1 s.pio1.block)
  pub outer : NoneIs is_for_outer w s → outer_alone (next w s).outer ≡ outer_alone (own_outer w s)

abbrev pub EffectsComeAfterTheSteps : Type 0
EffectsComeAfterTheSteps = (w : Setting) (s : State) → IsItsOwnStep w s

-- ---- copies: in each state that a run comes to, the pads know what SIO puts out, and core 1 whether its launcher has a word

pub record KnowsSio (s : State) : Type 0 where
  pub pins : s.outer.sio ≡ pins_of s.sio
  pub offer : s.core1.offer ≡ offers_of s.sio

pub record SioIsKnown : Type 0 where
  pub at_start : (device : DeviceMeaning) (image : Image) (loads : List PioLoad) → KnowsSio (start device image loads)
  pub after_a_cycle : (w : Setting) (s : State) → KnowsSio (next w s)
