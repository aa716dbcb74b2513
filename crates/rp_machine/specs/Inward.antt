-- Core 0 goes on alone beside lanes that lie behind: core 1, the DMA engine, both PIO blocks and the peripherals. The project's own.
use Rattle.std.specs.Prelude.{◌≡◌, ℕ, zero, suc, ◌+◌, ◌<◌, ◌≤◌, ◌&&◌, Bool, true, false, if◌then◌else◌, [], ◌∷◌, None, is_none, unwrap_or}
use Rattle.lane_look.specs.declared.lane.Want.{Want}
use Rattle.lane_look.specs.declared.lane.Want.TheVariants as want
use Rattle.lane_look.specs.declared.lane.Turn.{Turn}
use Rattle.lane_look.specs.declared.lane.Turn.TheVariants as turn
use Rattle.m0_core.specs.State.{State as Core}
use Rattle.m0_core.specs.declared.doing.Doing.{Doing}
use Rattle.m0_core.specs.Cycle as core
use Rattle.sio_block.specs.Launcher.{offers_of}
use Rattle.outer_lane.specs.Setting.{Setting}
use Rattle.outer_lane.specs.State.{State as OuterState}
use Rattle.outer_lane.specs.Lines.{outer_inputs}
use Rattle.outer_lane.specs.Words.{outer_allowed, own_word}
use Rattle.outer_lane.specs.Step as outer
use Rattle.outer_lane.specs.Quiet.{IsQuiet, outer_after, is_lasting_read}
use Rattle.rp_base.specs.declared.Request.{Request}
use Rattle.rp_base.specs.declared.map.Spot.{Spot}
use Rattle.rp_base.specs.declared.map.Spot.TheVariants as spot
use Rattle.rp_base.specs.Map.{place_of}
use Rattle.rp_machine.specs.declared.deed.Deed.{Deed}
use Rattle.rp_machine.specs.declared.deed.Deed.TheVariants as deed
use Rattle.rp_machine.specs.State.{State}
use Rattle.rp_machine.specs.Deeds.{turn_at, stored_at}
use Rattle.rp_machine.specs.Cycle.{begun, wanted, cause_in, pins_of, ended, next}
use Rattle.rp_machine.specs.Run.{states}
use Rattle.rp_machine.specs.Quiet.{IsQuiet as RunsQuietly}
use Rattle.rp_machine.specs.Answers.{lines_of, pacing_of, outs_of}
use Rattle.rp_machine.specs.Registers.{Part, part_of}
use Rattle.rp_machine.specs.Registers.Part.{Outer}
use Rattle.rp_machine.specs.Alone.{Blocks, AreBlocksQuiet, blocks_after, with_blocks, IsCore1Quiet, core1_after, granted_alone, with_grant, with_store}

-- a state with these blocks, this core 1 and these peripherals
abbrev pub with_beside : Blocks → Core → OuterState → State → State
with_beside p c o s = record (with_blocks p s) { core1 = c; outer = o }

-- a word that the peripherals have
abbrev pub is_theirs : Part → ℕ → Bool
is_theirs (Outer block) offset = outer_allowed block offset
is_theirs _ offset = false

abbrev pub is_peripheral : Spot → Bool
is_peripheral (spot.Reg block offset alias) = is_theirs (part_of block) offset
is_peripheral _ = false

-- a read of a word of theirs that changes nothing, and lasts as long as they are quiet; and what it is told
abbrev pub lasts_at : Part → ℕ → OuterState → Bool
lasts_at (Outer block) offset o = outer_allowed block offset && is_lasting_read block offset o
lasts_at _ offset o = false

abbrev pub is_lasting : Request → Spot → OuterState → Bool
is_lasting request (spot.Reg block offset alias) o = is_none request.write && lasts_at (part_of block) offset o
is_lasting request _ o = false

abbrev pub read_at : Part → ℕ → OuterState → ℕ
read_at (Outer block) offset o = unwrap_or (own_word block offset o) 0
read_at _ offset o = 0

abbrev pub read_there : Spot → OuterState → ℕ
read_there (spot.Reg block offset alias) o = read_at (part_of block) offset o
read_there _ o = 0

-- nothing is wanted, or an access to SRAM, or one to the peripherals that is not granted yet, or is such a read
abbrev pub is_inward : Bool → Want → OuterState → Bool
is_inward granted want.Nothing o = true
is_inward granted (want.Ram request) o = true
is_inward granted (want.Outward request) o = if granted then is_lasting request (place_of request.address) o else is_peripheral (place_of request.address)
is_inward granted _ o = false

abbrev pub core0_want : State → Want
core0_want s = core.want_of (begun s).core0

-- core 0 reaches for nothing but SRAM, or waits for the peripherals, or reads of them what lasts
abbrev pub goes_inward : State → Bool
goes_inward s = is_inward (granted_alone (core0_want s) s) (core0_want s) s.outer

-- what core 0 is told of such an access, and what it comes to
abbrev pub inward_turn : Bool → Want → OuterState → Turn
inward_turn granted (want.Ram request) o = turn_at granted 0
inward_turn granted (want.Outward request) o = turn_at granted (read_there (place_of request.address) o)
inward_turn granted _ o = turn.Nothing

abbrev pub inward_deed : Bool → Want → Deed
inward_deed granted (want.Ram request) =
    if granted then stored_at request request.write (place_of request.address) else deed.Nothing
inward_deed granted _ = deed.Nothing

abbrev pub core0_stepped : Doing → Turn → State → State
core0_stepped b told s = record s { core0 = core.next s.core0 b (told ∷ turn.Nothing ∷ []) }

-- the state after a cycle in which core 0 has begun this and wants that, but for the other lanes, which stay
unfoldable pub inward_next : Doing → Want → State → State
inward_next b x s =
    record (ended (with_store (inward_deed (granted_alone x s) x)
    (core0_stepped b (inward_turn (granted_alone x s) x s.outer) (with_grant x s)))) { cycle = s.cycle + 1 }

-- the same where nothing is wanted, and no access lasts
unfoldable pub inward_wantless : Doing → State → State
inward_wantless b s = record (ended (core0_stepped b turn.Nothing s)) { cycle = s.cycle + 1 }

-- core 0 is answered beside these blocks, this core 1 and these peripherals as in a state
pub record TellsSame (p : Blocks) (c : Core) (o : OuterState) (s : State) : Type 0 where
  pub lines : lines_of 0 (with_beside p c o s) ≡ lines_of 0 s
  pub pacing : pacing_of (with_beside p c o s) ≡ pacing_of s
  pub inputs : outer_inputs o ≡ outer_inputs s.outer
  pub outs : (block : ℕ) → outs_of block (with_beside p c o s) ≡ outs_of block s

-- this core 1 and these peripherals keep of SIO what it has, and its launcher has no word
pub record AgreeWithSio (c : Core) (o : OuterState) (s : State) : Type 0 where
  pub offers : offers_of s.sio ≡ false
  pub told : c.offer ≡ offers_of s.sio
  pub pins : o.sio ≡ pins_of s.sio

abbrev pub GoesAlone : State → Type 0
GoesAlone s = AgreeWithSio s.core1 s.outer s

abbrev pub inward_cycle : State → State
inward_cycle s = inward_next (begun s).core0 (core0_want s) s

-- beside blocks p, which come to q, core 1, which comes from c to d, and peripherals that answer core 0 as those do with which it goes on
-- alone, such a cycle has no stop, and its state is what each leaves by itself
pub record GoesOn (w : Setting) (p q : Blocks) (c d : Core) (o : OuterState) (s : State) : Type 0 where
  pub cause : cause_in w (begun (with_beside p c o s)) (wanted (begun (with_beside p c o s))) (with_beside p c o s) ≡ None
  pub state : next w (with_beside p c o s) ≡ with_beside q d (outer.next w o (begun (with_beside p c o s)).outer) (inward_cycle s)

-- so many such cycles
unfoldable pub inward_after : ℕ → State → State
inward_after zero s = s
inward_after (suc n) s = inward_cycle (inward_after n s)

-- each of which is such a cycle
abbrev pub StaysInward : State → ℕ → Type 0
StaysInward s n = (k : ℕ) → k < n → goes_inward (inward_after k s) ≡ true

-- the state after so many cycles, in which the other lanes are quiet
abbrev pub onward_after : Setting → State → ℕ → State
onward_after w s n = with_beside (blocks_after n s) (core1_after s.cycle n s) (outer_after w (begun s).outer n s.outer) (inward_after n s)

-- then it is the state of the run
pub record GoesOnward (w : Setting) (s : State) (n : ℕ) : Type 0 where
  pub state : states w s n ≡ onward_after w s n
  pub quiet : RunsQuietly w s n

abbrev pub Core0GoesOnAlone : Type 0
Core0GoesOnAlone =
    (w : Setting) (s : State) (n : ℕ) → GoesAlone s → AreBlocksQuiet s n → IsCore1Quiet s n → IsQuiet w (begun s).outer s.outer n
    → StaysInward s n → s.cycle + n ≤ w.limit → GoesOnward w s n
