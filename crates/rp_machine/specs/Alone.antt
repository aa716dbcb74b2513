-- A cycle in which core 0 alone is at work: core 1 sleeps or waits, and the DMA engine and both PIO blocks are quiet: they want nothing,
-- and only the system timer, pacing timers and dividers go on in them.
use Rattle.std.specs.Prelude.{◌≡◌, ℕ, ◌+◌, Bool, true, List, [], ◌∷◌}
use Rattle.std.specs.List.{list_all}
use Rattle.rp_base.specs.declared.Master.TheVariants as master
use Rattle.rp_base.specs.Resettable.{with_block}
use Rattle.lane_look.specs.declared.lane.Want.{Want}
use Rattle.lane_look.specs.declared.lane.Want.TheVariants as want
use Rattle.lane_look.specs.declared.lane.Turn.{Turn}
use Rattle.lane_look.specs.declared.lane.Turn.TheVariants as turn
use Rattle.lane_look.specs.Times.{times}
use Rattle.m0_core.specs.State.{State as Core}
use Rattle.m0_core.specs.declared.doing.Doing.{Doing}
use Rattle.m0_core.specs.Cycle as core
use Rattle.m0_core.specs.Quiet as core_quiet
use Rattle.dma_engine.specs.State.{State as Engine}
use Rattle.dma_engine.specs.Cycle as dma
use Rattle.dma_engine.specs.Quiet as dma_quiet
use Rattle.pio_block.specs.State.{State as Pio}
use Rattle.pio_block.specs.Cycle as pio
use Rattle.pio_block.specs.Quiet as pio_quiet
use Rattle.bus_fabric.specs.Alone.{at_most_core0}
use Rattle.bus_fabric.specs.Grant.{is_done, after_grant}
use Rattle.sio_block.specs.Launcher.{offers_of}
use Rattle.outer_lane.specs.Setting.{Setting}
use Rattle.outer_lane.specs.declared.world.SeenOutputs.{SeenOutputs}
use Rattle.outer_lane.specs.Step as outer
use Rattle.rp_machine.specs.declared.begun.Begun.{Begun}
use Rattle.rp_machine.specs.declared.deed.Deed.{Deed}
use Rattle.rp_machine.specs.declared.wanted.Wanted.{Wanted}
use Rattle.rp_machine.specs.State.{State}
use Rattle.rp_machine.specs.Answers.{lines_of, pacing_of, inputs_of}
use Rattle.rp_machine.specs.Deeds.{asked_of, turn_of, deed_of}
use Rattle.rp_machine.specs.Cycle.{begun, next, wanted_by, with_turns, found_by, after_deed, stored, ended}
use Rattle.rp_machine.specs.Wantless.{wants_nothing, core1_launched}

-- the DMA engine and both PIO blocks
pub record Blocks : Type 0 where
  pub dma : Engine
  pub pio0 : Pio
  pub pio1 : Pio

-- they are quiet for so many cycles, as long as the counts of the UARTs and the levels of the pads stay
pub record AreBlocksQuiet (s : State) (n : ℕ) : Type 0 where
  pub dma : dma_quiet.IsQuiet (pacing_of s) s.dma.block n
  pub pio0 : pio_quiet.IsQuiet (pio.inputs_of (inputs_of s)) s.pio0.block n
  pub pio1 : pio_quiet.IsQuiet (pio.inputs_of (inputs_of s)) s.pio1.block n

-- and what they are after these
abbrev pub blocks_after : ℕ → State → Blocks
blocks_after n s = record {
  dma = dma_quiet.engine_after n s.dma.block;
  pio0 = pio_quiet.block_after n s.pio0.block;
  pio1 = pio_quiet.block_after n s.pio1.block;
}

abbrev pub with_blocks : Blocks → State → State
with_blocks p s = record s { dma = with_block s.dma p.dma; pio0 = with_block s.pio0 p.pio0; pio1 = with_block s.pio1 p.pio1 }

-- core 1 is quiet for so many cycles, as long as its interrupt lines stay
abbrev pub IsCore1Quiet : State → ℕ → Type 0
IsCore1Quiet s n = core_quiet.IsQuiet (lines_of 1 s) s.core1 s.cycle n

-- and what it is after so many from a first one on
abbrev pub core1_after : ℕ → ℕ → State → Core
core1_after first n s = times (core_quiet.rested (lines_of 1 s)) first n s.core1

-- core 1 and the DMA engine want nothing, and core 1, the engine, whatever the bus gives it, and both PIO blocks come to these
pub record IsCore0Alone (s : State) (p : Blocks) (c : Core) : Type 0 where
  pub rests : core.want_of (begun s).core1 ≡ want.Nothing
  pub core1 : core.next s.core1 (begun s).core1 (turn.Nothing ∷ turn.Nothing ∷ []) ≡ c
  pub wants : dma.wanted (begun s).dma ≡ want.Nothing ∷ want.Nothing ∷ []
  pub dma : (turns : List Turn) → dma.next s.dma.block (begun s).dma turns ≡ p.dma
  pub pio0 : pio.next (begun s).pio0 s.pio0.block ≡ p.pio0
  pub pio1 : pio.next (begun s).pio1 s.pio1.block ≡ p.pio1

-- what core 0 wants, beside three masters that want nothing
abbrev pub beside : Want → List Wanted
beside x =
    wanted_by master.Core0 x ∷ wanted_by master.Core1 want.Nothing ∷ wanted_by master.DmaRead want.Nothing
    ∷ wanted_by master.DmaWrite want.Nothing ∷ []

-- whether what that asks of the fabric is granted
abbrev pub granted_alone : Want → State → Bool
granted_alone x s = is_done (at_most_core0 (asked_of x)) s.fabric master.Core0

-- what core 0 is told, and what its want comes to
abbrev pub turn_alone : Setting → SeenOutputs → Want → State → Turn
turn_alone w seen x s = turn_of w seen x (granted_alone x s) master.Core0 x s

abbrev pub deed_alone : Setting → SeenOutputs → Want → State → Deed
deed_alone w seen x s = deed_of w seen (granted_alone x s) x s

-- core 0 and the peripherals step, and the blocks and core 1 come to these
abbrev pub stepped_alone : Setting → Blocks → Core → Doing → SeenOutputs → Turn → State → State
stepped_alone w p c b seen told s = record s {
  core0 = core.next s.core0 b (told ∷ turn.Nothing ∷ []);
  core1 = c;
  dma = with_block s.dma p.dma;
  pio0 = with_block s.pio0 p.pio0;
  pio1 = with_block s.pio1 p.pio1;
  outer = outer.next w s.outer seen;
}

abbrev pub with_grant : Want → State → State
with_grant x s = record s { fabric = after_grant (at_most_core0 (asked_of x)) s.fabric }

abbrev pub with_store : Deed → State → State
with_store d s = record s { sram = stored d s.sram }

-- the state after a cycle in which core 0 has begun this and wants that, and the blocks and core 1 come to these
unfoldable pub alone_next : Setting → Blocks → Core → Doing → SeenOutputs → Want → State → State
alone_next w p c b seen x s =
    record (ended (with_store (deed_alone w seen x s)
    (core1_launched (offers_of s.sio) (after_deed w (found_by master.Core0 (deed_alone w seen x s) s.sio) master.Core0 (deed_alone w seen x s)
    (stepped_alone w p c b seen (turn_alone w seen x s) (with_grant x s)))))) { cycle = s.cycle + 1 }

-- the state after a cycle in which the lanes have begun this, the first master wants that, and the others want nothing
unfoldable pub first_next : Setting → Begun → Wanted → State → State
first_next w b x s =
    record (ended (with_store (deed_alone w b.outer x.want s)
    (core1_launched (offers_of s.sio) (after_deed w (found_by master.Core0 (deed_alone w b.outer x.want s) s.sio) master.Core0 (deed_alone w b.outer x.want s)
    (with_turns w b (turn_of w b.outer x.want (granted_alone x.want s) x.master x.want s ∷ turn.Nothing ∷ turn.Nothing ∷ turn.Nothing ∷ [])
    (with_grant x.want s)))))) { cycle = s.cycle + 1 }

-- the masters behind the first one want nothing
abbrev pub is_first_alone : List Wanted → Bool
is_first_alone [] = true
is_first_alone (x ∷ xs) = list_all wants_nothing xs

-- a cycle of a machine in which core 0 alone is at work
abbrev pub OneCoreGoesAlone : Type 0
OneCoreGoesAlone =
    (w : Setting) (s : State) (p : Blocks) (c : Core) → IsCore0Alone s p c
    → next w s ≡ alone_next w p c (begun s).core0 (begun s).outer (core.want_of (begun s).core0) s
