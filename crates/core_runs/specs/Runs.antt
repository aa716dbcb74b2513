-- A core that runs alone over SRAM, each access of which is done at once and while every interrupt line is low: its runs are
-- chained, and they are the cycles of the laws of one instruction. The project's own.
use Rattle.std.specs.List.{list_any}
use Rattle.std.specs.Prelude.{◌≡◌, ℕ, zero, suc, ◌+◌, ◌<◌, Bool, false, List, [], ◌∷◌, ◌++◌, None}
use Rattle.m0_beats.specs.declared.registers.Regs.{Regs}
use Rattle.m0_nvic.specs.State.{State as Exceptions}
use Rattle.m0_nvic.specs.Priority.{best_of}
use Rattle.m0_nvic.specs.Cycle as nvic
use Rattle.lane_look.specs.Replay.{Meaning, meaning}
use Rattle.lane_look.specs.Alone.{Alone, alone, all_stored, ends_at, ends_want}
use Rattle.m0_core.specs.declared.doing.Doing.{Doing}
use Rattle.m0_core.specs.Fetch.{asks}
use Rattle.m0_core.specs.Cycle.{wanted, next}
use Rattle.m0_core.specs.State.{State}
use Rattle.core_laws.specs.Laws.{Given, after_cycle, after_cycles, wanted_in, wants_in}
use Rattle.core_runs.specs.Bytes.{answer, stored, around}

-- a core as a lane
abbrev pub core_lane : Meaning (Unit {0}) State Doing
core_lane = meaning (λ _ s cycle. asks s cycle) wanted (λ _ s begun turns. next s begun turns) (λ _ s begun turns. None)

-- its run alone over SRAM, of so many cycles from a cycle's number on
abbrev pub run : ℕ → ℕ → State → List ℕ → Alone State (List ℕ)
run cycle n s m = alone core_lane around tt s cycle m n

-- it ends before its cycle k: something is wanted there that is no access to SRAM
abbrev pub ends_in : ℕ → ℕ → State → List ℕ → Bool
ends_in cycle k s m = ends_at core_lane around tt s cycle m k

-- ---- n + k cycles are n and then k

-- two runs one after the other
abbrev pub then : Alone State (List ℕ) → Alone State (List ℕ) → Alone State (List ℕ)
then r q = record { state = q.state; around = q.around; talk = r.talk ++ q.talk; marks = r.marks ++ q.marks }

pub record Chains (cycle n k : ℕ) (s : State) (m : List ℕ) (r : Alone State (List ℕ)) : Type 0 where
  pub both : run cycle (n + k) s m ≡ then r (run (cycle + n) k r.state r.around)
  pub ends : ends_in cycle (n + k) s m ≡ ends_in (cycle + n) k r.state r.around

abbrev pub ARunAloneChains : Type 0
ARunAloneChains = (cycle n k : ℕ) (s : State) (m : List ℕ) → Chains cycle n k s m (run cycle n s m)

-- ---- the run alone is the core's own stepping

-- what SRAM brings in a cycle
abbrev pub given_by : List ℕ → Given
given_by m = record { answers = answer m; word = 0 }

-- and in so many cycles
abbrev pub givens : ℕ → ℕ → State → List ℕ → List Given
givens cycle zero s m = []
givens cycle (suc n) s m =
    given_by m ∷ givens (cycle + 1) n (after_cycle cycle (given_by m) s) (stored m (wanted_in cycle (given_by m) s))

-- where nothing is wanted in these cycles but accesses to SRAM: the run goes on, and leaves what the cycles of the core leave and
-- what its accesses leave
pub record IsStepped (cycle n : ℕ) (s : State) (m : List ℕ) : Type 0 where
  pub goes_on : (k : ℕ) → k < n → ends_in cycle k s m ≡ false
  pub core : (run cycle n s m).state ≡ after_cycles cycle (givens cycle n s m) s
  pub memory : (run cycle n s m).around ≡ all_stored around m (wants_in cycle (givens cycle n s m) s)

abbrev pub ARunAloneIsTheCoresOwn : Type 0
ARunAloneIsTheCoresOwn =
    (cycle n : ℕ) (s : State) (m : List ℕ)
    → list_any ends_want (wants_in cycle (givens cycle n s m) s) ≡ false
    → IsStepped cycle n s m

-- ---- silent cycles

-- no exception that is enabled is pending, and the system timer makes none pending
pub record IsSilent (e : Exceptions) : Type 0 where
  pub none : best_of e ≡ None
  pub untimed : e.systick.interrupt ≡ false

-- a cycle in which every line is low keeps what is pending, active and enabled, and the priorities
pub record StaysSilent (e f : Exceptions) : Type 0 where
  pub silent : IsSilent f
  pub pending : f.pending ≡ e.pending
  pub active : f.active ≡ e.active
  pub enabled : f.enabled ≡ e.enabled
  pub priorities : f.priorities ≡ e.priorities

abbrev pub ASilentCycleStaysSilent : Type 0
ASilentCycleStaysSilent = (e : Exceptions) (cycle : ℕ) → IsSilent e → StaysSilent e (nvic.after_cycle 0 cycle e)

-- ---- steps from instruction to instruction

-- the core is awake, in the first cycle of an instruction, and no exception comes
pub record IsReady (s : State) : Type 0 where
  pub awake : s.asleep ≡ false
  pub between : s.work ≡ None
  pub first : s.beats_done ≡ 0
  pub fresh : s.read ≡ []
  pub silent : IsSilent s.nvic

-- so many cycles go on, and leave the core ready, with these registers and over this memory
pub record Leads (cycle n : ℕ) (s : State) (m : List ℕ) (regs : Regs) (m' : List ℕ) : Type 0 where
  pub goes_on : (k : ℕ) → k < n → ends_in cycle k s m ≡ false
  pub ready : IsReady (run cycle n s m).state
  pub registers : (run cycle n s m).state.regs ≡ regs
  pub memory : (run cycle n s m).around ≡ m'

-- so do they from every core that is ready with those registers over that memory, in every cycle
abbrev pub Steps : ℕ → Regs → List ℕ → Regs → List ℕ → Type 0
Steps n regs m regs' m' = (cycle : ℕ) (s : State) → IsReady s → s.regs ≡ regs → Leads cycle n s m regs' m'

abbrev pub StepsChain : Type 0
StepsChain =
    (n k : ℕ) (r r' r'' : Regs) (m m' m'' : List ℕ)
    → Steps n r m r' m'
    → Steps k r' m' r'' m''
    → Steps (n + k) r m r'' m''
