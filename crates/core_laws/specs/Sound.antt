-- What holds of a core in every cycle (ARMv6-M Architecture Reference Manual, B1.3.1, modes, B1.4.1, the stack pointers, B1.4.2, IPSR,
-- B1.4.4, CONTROL, and B1.5.8, a return whose frame does not fit).
use Rattle.std.specs.Prelude.{◌≡◌, ℕ, ◌+◌, ◌*◌, ◌/◌, ◌^◌, ◌<◌, ◌≤◌, ◌==◌, Bool, true, false, List, length, Option, Some, None, slice_index}
use Rattle.lane_look.specs.declared.lane.Ask.{Ask}
use Rattle.lane_look.specs.declared.lane.Turn.{Turn}
use Rattle.lane_look.specs.Asking.{answered}
use Rattle.m0_beats.specs.declared.registers.Regs.{Regs}
use Rattle.m0_beats.specs.Registers.{is_thread}
use Rattle.m0_nvic.specs.State.{State as Exceptions}
use Rattle.m0_nvic.specs.Numbers.{is_member}
use Rattle.m0_nvic.specs.Changes.{left}
use Rattle.m0_core.specs.declared.doing.Work.{Work}
use Rattle.m0_core.specs.declared.doing.Work.TheVariants as works
use Rattle.m0_core.specs.ExcReturn.{RETURN_BEATS}
use Rattle.m0_core.specs.Start.{sleeping, started}
use Rattle.m0_core.specs.Return.{is_bad, is_misfit}
use Rattle.m0_core.specs.Fetch.{asks}
use Rattle.m0_core.specs.Cycle.{next}
use Rattle.m0_core.specs.State.{State}

-- ---- what holds

-- there are R0 to R12, both stack pointers are multiples of 4, PC is even, and the exception number has six bits
pub record AreRegisters (r : Regs) : Type 0 where
  pub thirteen : length r.r ≡ 13
  pub main : r.msp / 4 * 4 ≡ r.msp
  pub process : r.psp / 4 * 4 ≡ r.psp
  pub even : r.pc / 2 * 2 ≡ r.pc
  pub number : r.ipsr < 2 ^ 6

-- between two instructions no beat is over; an entry in progress has taken its exception, a number of 1 to 47; a return in progress
-- has a value that fits the active exceptions
abbrev pub IsUnderWay : Option Work → State → Type 0
IsUnderWay None s = s.beats_done ≡ 0
IsUnderWay (Some (works.Instruction op)) s = Unit {0}
IsUnderWay (Some (works.Entry n)) s = (1 ≤ s.beats_done) × (1 ≤ n) × (n < 48) × (is_member n s.nvic.active ≡ true)
IsUnderWay (Some (works.Return value)) s = 1 ≤ s.beats_done → is_bad value s ≡ false

-- this holds in every cycle. Active are some of the 48 exceptions, and no exception has the number 0
pub record IsFormed (s : State) : Type 0 where
  pub registers : AreRegisters s.regs
  pub active : s.nvic.active < 2 ^ 48
  pub numbered : is_member 0 s.nvic.enabled ≡ false
  pub progress : IsUnderWay s.work s

-- the active exceptions, but for one that an entry in progress has taken
abbrev pub active_before : Option Work → Exceptions → ℕ
active_before (Some (works.Entry n)) e = (left n e).active
active_before _ e = e.active

-- SPSEL is clear in Handler mode, and the mode is Thread mode exactly where no exception is active
pub record Agrees (s : State) : Type 0 where
  pub selection : is_thread s.regs ≡ false → s.regs.spsel ≡ false
  pub mode : is_thread s.regs ≡ (active_before s.work s.nvic == 0)

pub record IsSound (s : State) : Type 0 where
  pub formed : IsFormed s
  pub agrees : Agrees s

-- ---- the law

-- where the last cycle of a return comes, the exception number of its frame fits the mode
abbrev pub FrameFits : Option Work → State → Type 0
FrameFits (Some (works.Return value)) s = RETURN_BEATS ≤ s.beats_done + 1 → is_misfit value (slice_index s.read 7) ≡ false
FrameFits _ s = Unit {0}

-- from one cycle to the next, t being the core after it
pub record KeepsSound (s t : State) : Type 0 where
  pub formed : IsFormed t
  -- but for the last cycle of a return whose frame does not fit the mode, which makes HardFault pending
  pub agrees : Agrees s → FrameFits s.work s → Agrees t
  -- when the entry of HardFault, or of any exception, is over, they agree again
  pub again : (n : ℕ) → s.work ≡ Some (works.Entry n) → t.work ≡ None → Agrees t

-- a core is sound while it is asleep and when it was started, and each of its cycles keeps that, whatever its questions are answered
-- and its wants are given; what it is told between two cycles does not touch it
pub record ACoreStaysSound : Type 0 where
  pub asleep : (number : ℕ) → IsSound (sleeping number)
  pub awake : (vtor sp entry : ℕ) (s : State) → IsSound (started vtor sp entry s)
  pub told : (s : State) (event offer : Bool) → IsSound s → IsSound (record s { event = event; offer = offer })
  pub cycle : (s : State) (cycle : ℕ) (answers : Ask → ℕ) (turns : List Turn) → IsFormed s → KeepsSound s (next s (answered answers (asks s cycle)) turns)
