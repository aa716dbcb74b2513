-- WFE, and returns that fault (ARMv6-M Architecture Reference Manual, A6.7.75, WFE, B1.5.18, the event register, B1.5.8, ExceptionReturn,
-- and B1.5.15, lockup).
use Rattle.std.specs.Prelude.{◌≡◌, ℕ, true, false, ◌||◌, [], Some, None, slice_index}
use Rattle.rp_base.specs.declared.op.Op.TheVariants as op
use Rattle.rp_base.specs.declared.Why.TheVariants as why
use Rattle.lane_look.specs.declared.lane.Want.TheVariants as want
use Rattle.m0_beats.specs.Instructions.{effect_of}
use Rattle.m0_nvic.specs.Priority.{wakes_of}
use Rattle.m0_nvic.specs.Cycle as nvic
use Rattle.m0_core.specs.declared.doing.Work.TheVariants as works
use Rattle.m0_core.specs.Fetch.{is_locked}
use Rattle.core_laws.specs.ExceptionLaws.{OnlyPendsHardFault}
use Rattle.m0_core.specs.Return.{is_bad, is_misfit}
use Rattle.m0_core.specs.State.{State}
use Rattle.core_laws.specs.Laws.{Given, lines_in, wanted_in, after_cycle}

-- ---- WFE

-- the core is in the second beat of WFE
pub record IsInWfe (s : State) : Type 0 where
  pub awake : s.asleep ≡ false
  pub waits : s.work ≡ Some (works.Instruction op.Wfe)
  pub second : s.beats_done ≡ 1

-- it stays there, and the timer and the interrupt lines have their turn
pub record StaysInWfe (cycle : ℕ) (g : Given) (s t : State) : Type 0 where
  pub in_wfe : IsInWfe t
  pub kept : t.regs ≡ s.regs
  pub exceptions : t.nvic ≡ nvic.after_cycle (lines_in g) cycle s.nvic
  pub event : t.event ≡ nvic.is_event (lines_in g) cycle s.nvic

-- WFE is over, and the core at a boundary; the event register is cleared, and is set only by an event of this cycle
pub record LeavesWfe (cycle : ℕ) (g : Given) (s t : State) : Type 0 where
  pub awake : t.asleep ≡ false
  pub moved : t.regs ≡ effect_of op.Wfe s.regs s.read
  pub between : t.work ≡ None
  pub first : t.beats_done ≡ 0
  pub fresh : t.read ≡ []
  pub exceptions : t.nvic ≡ nvic.after_cycle (lines_in g) cycle s.nvic
  pub event : t.event ≡ nvic.is_event (lines_in g) cycle s.nvic

-- WFE moves on exactly in a cycle at whose start the event register is set or an exception wakes
abbrev pub AWfeMovesOnAtAnEvent : Type 0
AWfeMovesOnAtAnEvent =
    (s : State) (cycle : ℕ) (g : Given) → IsInWfe s
    → ((s.event || wakes_of s.nvic) ≡ true → LeavesWfe cycle g s (after_cycle cycle g s))
    × ((s.event || wakes_of s.nvic) ≡ false → StaysInWfe cycle g s (after_cycle cycle g s))

-- ---- a return that faults

-- in its first beat a return with a bad value leaves HardFault pending alone, or locks the core up where the execution priority is
-- -1 or lower; and there its last beat locks the core up where the frame's exception number does not fit the mode
pub record FaultsInReturn (value : ℕ) (s : State) (cycle : ℕ) (g : Given) : Type 0 where
  pub bad : s.beats_done ≡ 0 → is_bad value s ≡ true → is_locked s ≡ false → OnlyPendsHardFault cycle g s (after_cycle cycle g s)
  pub bad_locked : s.beats_done ≡ 0 → is_bad value s ≡ true → is_locked s ≡ true → wanted_in cycle g s ≡ want.Stopped (why.Lockup s.number)
  pub misfit_locked : s.beats_done ≡ 12 → is_misfit value (slice_index s.read 7) ≡ true → is_locked s ≡ true
      → wanted_in cycle g s ≡ want.Stopped (why.Lockup s.number)

abbrev pub AReturnFaults : Type 0
AReturnFaults =
    (value : ℕ) (s : State) (cycle : ℕ) (g : Given) → s.asleep ≡ false → s.work ≡ Some (works.Return value)
    → FaultsInReturn value s cycle g
