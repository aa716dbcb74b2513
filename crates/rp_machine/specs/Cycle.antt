-- One cycle of the machine, on numbers without bound. In a cycle each part begins by the state at the start and names its
-- accesses; the fabric decides which of them are done; each part steps; then the deeds of the masters come in their order,
-- and last the writes to SRAM.
use Rattle.std.specs.Prelude.{ℕ, ◌+◌, ◌==◌, Bool, true, false, if◌then◌else◌, List, [], ◌∷◌, map, Option, Some, None, slice_index_or}
use Rattle.rp_base.specs.declared.Master.{Master}
use Rattle.rp_base.specs.declared.Master.TheVariants as master
use Rattle.rp_base.specs.Resettable.{with_block}
use Rattle.rp_base.specs.declared.Why.{Why}
use Rattle.rp_base.specs.declared.Why.TheVariants as why
use Rattle.lane_look.specs.declared.lane.Want.{Want}
use Rattle.lane_look.specs.declared.lane.Want.TheVariants as want
use Rattle.lane_look.specs.declared.lane.Turn.{Turn}
use Rattle.lane_look.specs.declared.lane.Turn.TheVariants as turn
use Rattle.lane_look.specs.declared.marks.Mark.{Mark}
use Rattle.lane_look.specs.Asking.{answered}
use Rattle.m0_core.specs.State.{State as Core}
use Rattle.m0_core.specs.Start.{started}
use Rattle.m0_core.specs.Fetch as core_asks
use Rattle.m0_core.specs.Cycle as core
use Rattle.dma_engine.specs.Asks as dma_asks
use Rattle.dma_engine.specs.Cycle as dma
use Rattle.pio_block.specs.Cycle as pio
use Rattle.outer_lane.specs.Setting.{Setting}
use Rattle.outer_lane.specs.declared.world.SeenOutputs.{SeenOutputs}
use Rattle.outer_lane.specs.Step as outer
use Rattle.outer_lane.specs.State.{State as OuterState}
use Rattle.outer_lane.specs.Device.{device_accessed}
use Rattle.ram_banks.specs.Sram.{written}
use Rattle.bus_fabric.specs.Masters.{masters, number_of}
use Rattle.bus_fabric.specs.Grant as fabric
use Rattle.sio_block.specs.declared.Launch.{Launch}
use Rattle.sio_block.specs.State.{State as SioState}
use Rattle.sio_block.specs.Changes as sio
use Rattle.sio_block.specs.Launcher.{launch_of, after_turn, offers_of}
use Rattle.sio_block.specs.Cycle as sio_end
use Rattle.rp_machine.specs.declared.begun.Begun.{Begun}
use Rattle.rp_machine.specs.declared.wanted.Wanted.{Wanted}
use Rattle.rp_machine.specs.declared.deed.Deed.{Deed}
use Rattle.rp_machine.specs.declared.deed.Deed.TheVariants as deed
use Rattle.rp_machine.specs.State.{State}
use Rattle.rp_machine.specs.Answers.{answer_of}
use Rattle.rp_machine.specs.Registers.{part_of, part_accessed}
use Rattle.rp_machine.specs.Deeds.{cause_of, asked_of, turn_of, deed_of}

-- ---- what the lanes begin, and what the masters want

unfoldable pub begun : State → Begun
begun s = record {
  core0 = answered (answer_of 0 s) (core_asks.asks s.core0 s.cycle);
  core1 = answered (answer_of 1 s) (core_asks.asks s.core1 s.cycle);
  dma = answered (answer_of 2 s) (dma_asks.asks s.dma.block);
  pio0 = answered (answer_of 3 s) (pio.asks s.pio0.block);
  pio1 = answered (answer_of 4 s) (pio.asks s.pio1.block);
  outer = answered (answer_of 5 s) (outer.asks s.outer s.cycle);
}

abbrev pub wanted_by : Master → Want → Wanted
wanted_by m want = record { master = m; want = want }

-- the wants of the four masters, in their order; PIO and the peripherals want nothing
unfoldable pub wanted : Begun → List Wanted
wanted b =
    wanted_by master.Core0 (core.want_of b.core0)
    ∷ wanted_by master.Core1 (core.want_of b.core1)
    ∷ wanted_by master.DmaRead (dma.want_of b.dma.read)
    ∷ wanted_by master.DmaWrite (dma.want_of b.dma.write)
    ∷ []

-- ---- stops

abbrev pub first_cause : List (Option Why) → Option Why
first_cause [] = None
first_cause (Some cause ∷ causes) = Some cause
first_cause (None ∷ causes) = first_cause causes

-- the first cause of a master for which the machine stops before this cycle, in their order
unfoldable pub cause_in : Setting → Begun → List Wanted → State → Option Why
cause_in w b xs s = first_cause (map (cause_of w b.outer s) xs)

-- the limit comes first
unfoldable pub stop : Setting → State → Option Why
stop w s = if s.cycle == w.limit then Some why.Limit else cause_in w (begun s) (wanted (begun s)) s

-- ---- grants and turns

-- what the masters ask of the fabric
abbrev pub asked_by : Wanted → Option (ℕ × Bool)
asked_by x = asked_of x.want

unfoldable pub asked : List Wanted → List (Option (ℕ × Bool))
asked xs = map asked_by xs

-- which of the masters' accesses are granted in this cycle
unfoldable pub granted : List Wanted → State → List Bool
granted xs s = fabric.done_of (asked xs) s.fabric

-- what core 0 wants
abbrev pub first_want : List Wanted → Want
first_want [] = want.Nothing
first_want (x ∷ xs) = x.want

-- what the bus gives each master, by what is granted
abbrev pub turns_by : Setting → SeenOutputs → Want → State → List Wanted → List Bool → List Turn
turns_by w seen rival s (x ∷ xs) (grant ∷ grants) =
    turn_of w seen rival grant x.master x.want s ∷ turns_by w seen rival s xs grants
turns_by w seen rival s _ _ = []

unfoldable pub turns : Setting → Begun → List Wanted → State → List Bool → List Turn
turns w b xs s grants = turns_by w b.outer (first_want xs) s xs grants

-- ---- steps

-- every lane has stepped, by these turns of core 0, of core 1, and of the reads and the writes of the DMA engine
abbrev pub turn_for : List Turn → Master → Turn
turn_for turns m = slice_index_or turns (number_of m) turn.Nothing

-- the DMA engine and the PIO blocks step held or not: in their reset states they rest
abbrev pub turned_inside : Begun → List Turn → State → State
turned_inside b turns s = record s {
  core0 = core.next s.core0 b.core0 (turn_for turns master.Core0 ∷ turn.Nothing ∷ []);
  core1 = core.next s.core1 b.core1 (turn_for turns master.Core1 ∷ turn.Nothing ∷ []);
  dma = with_block s.dma (dma.next s.dma.block b.dma (turn_for turns master.DmaRead ∷ turn_for turns master.DmaWrite ∷ []));
  pio0 = with_block s.pio0 (pio.next b.pio0 s.pio0.block);
  pio1 = with_block s.pio1 (pio.next b.pio1 s.pio1.block);
}

unfoldable pub with_turns : Setting → Begun → List Turn → State → State
with_turns w b turns s = record (turned_inside b turns s) { outer = outer.next w s.outer b.outer }

-- ---- deeds

-- the deed of each master, by what is granted
abbrev pub deeds_by : Setting → SeenOutputs → State → List Wanted → List Bool → List Deed
deeds_by w seen s (x ∷ xs) (grant ∷ grants) = deed_of w seen grant x.want s ∷ deeds_by w seen s xs grants
deeds_by w seen s _ _ = []

unfoldable pub deeds : Setting → Begun → List Wanted → State → List Bool → List Deed
deeds w b xs s grants = deeds_by w b.outer s xs grants

abbrev pub with_event : Core → Core
with_event c = record c { event = true }

-- SEV sets the event registers of both cores
abbrev pub signalled : State → State
signalled s = record s { core0 = with_event s.core0; core1 = with_event s.core1 }

-- SIO has changed, and with it what the pads see of it and what core 1 knows of its launcher
abbrev pub pins_of : SioState → List ℕ
pins_of sio = sio.pins.out ∷ sio.pins.enable ∷ []

abbrev pub with_offer : Bool → Core → Core
with_offer offer c = record c { offer = offer }

abbrev pub with_pins : List ℕ → OuterState → OuterState
with_pins pins o = record o { sio = pins }

unfoldable pub with_sio : SioState → State → State
with_sio sio s = record s {
  core1 = with_offer (offers_of sio) s.core1;
  outer = with_pins (pins_of sio) s.outer;
  sio = sio;
}

-- what an access to SIO finds there, by SIO as it is when the cycle begins
abbrev pub found_by : Master → Deed → SioState → Bool
found_by master.Core0 (deed.SingleCycle offset write) start = sio.finds 0 offset write start
found_by master.Core1 (deed.SingleCycle offset write) start = sio.finds 1 offset write start
found_by _ _ start = false

abbrev pub sio_accessed : Bool → Master → ℕ → Option ℕ → State → State
sio_accessed found master.Core0 offset write s = with_sio (sio.effect_where found 0 offset write s.sio) s
sio_accessed found master.Core1 offset write s = with_sio (sio.effect_where found 1 offset write s.sio) s
sio_accessed found _ offset write s = s

-- the deed of a master that has found this, but for a write to SRAM, which comes last
unfoldable pub after_deed : Setting → Bool → Master → Deed → State → State
after_deed w found m deed.Signal s = signalled s
after_deed w found m (deed.Register block offset write) s = part_accessed (part_of block) offset write s
after_deed w found m (deed.SingleCycle offset write) s = sio_accessed found m offset write s
after_deed w found m (deed.Device address write) s = record s { outer = device_accessed w address write s.outer }
after_deed w found m _ s = s

-- the launcher takes a word while core 1 sleeps, and starts it after the sixth (RP2040 Datasheet, 2.8.2)
abbrev pub started_by : Option Launch → State → State
started_by None s = s
started_by (Some l) s = record s { core1 = started l.vtor l.sp l.entry s.core1 }

unfoldable pub after_launcher : State → State
after_launcher s = started_by (launch_of s.sio) (with_sio (after_turn s.sio) s)

-- it does so where it had a word, and room for the answer, when the cycle began
abbrev pub launched_where : Bool → State → State
launched_where offered s = if offered then after_launcher s else s

-- while core 1 sleeps its launcher stands for it
abbrev pub after_core1 : Setting → Bool → Bool → Deed → State → State
after_core1 w offered found d s =
    if s.core1.asleep then launched_where offered s else after_deed w found master.Core1 d s

-- `start` is SIO as it is when the cycle begins
abbrev pub after_master : Setting → SioState → Master → Deed → State → State
after_master w start master.Core1 d s = after_core1 w (offers_of start) (found_by master.Core1 d start) d s
after_master w start m d s = after_deed w (found_by m d start) m d s

-- the deeds of the masters in their order
abbrev pub after_masters : Setting → SioState → List Master → List Deed → State → State
after_masters w start (m ∷ ms) (d ∷ ds) s = after_masters w start ms ds (after_master w start m d s)
after_masters w start _ _ s = s

abbrev pub stored : Deed → List ℕ → List ℕ
stored (deed.Store index lanes value) sram = written sram index lanes value
stored _ sram = sram

-- the writes to SRAM in the order of the masters
abbrev pub all_stored : List Deed → List ℕ → List ℕ
all_stored [] sram = sram
all_stored (d ∷ ds) sram = all_stored ds (stored d sram)

abbrev pub with_stores : List Deed → State → State
with_stores ds s = record s { sram = all_stored ds s.sram }

-- SIO ends its cycle
unfoldable pub ended : State → State
ended s = with_sio (sio_end.after_cycle s.sio) s

unfoldable pub after_deeds : Setting → List Deed → State → State
after_deeds w ds s = ended (with_stores ds (after_masters w s.sio masters ds s))

-- ---- the cycle

abbrev pub with_grants : List Wanted → State → State
with_grants xs s = record s { fabric = fabric.after_grant (asked xs) s.fabric }

-- every lane has stepped, by what this grants
unfoldable pub stepped : Setting → Begun → List Wanted → State → State
stepped w b xs s = with_turns w b (turns w b xs s (granted xs s)) (with_grants xs s)

-- the state after a cycle in which this was begun and wanted
unfoldable pub next_by : Setting → Begun → List Wanted → State → State
next_by w b xs s =
    record (after_deeds w (deeds w b xs s (granted xs s)) (stepped w b xs s)) { cycle = s.cycle + 1 }

unfoldable pub next : Setting → State → State
next w s = next_by w (begun s) (wanted (begun s)) s

-- what the peripherals leave of the cycle: the bytes that the UARTs sent, and the levels of the pads
unfoldable pub mark : Setting → State → Mark
mark w s = outer.marked w s.outer (begun s).outer
