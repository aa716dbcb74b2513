-- An instruction takes its beats also where its accesses wait: each beat with an access on the bus lasts until the access is done
-- (ARM Cortex-M0+ Technical Reference Manual, 3.3, cycle counts without wait states, to which each wait state adds a cycle).
use Rattle.std.specs.Prelude.{◌≡◌, ℕ, ◌+◌, Bool, true, false, ◌||◌, if◌then◌else◌, List, [], ◌∷◌, ◌++◌, Option, Some, None, option_to_list}
use Rattle.rp_base.specs.declared.op.Op.{Op}
use Rattle.m0_beats.specs.declared.timing.Beat.{Beat}
use Rattle.m0_beats.specs.Instructions.{beats_of}
use Rattle.m0_nvic.specs.State.{State as Exceptions}
use Rattle.m0_nvic.specs.Cycle as nvic
use Rattle.lane_look.specs.declared.lane.Want.{Want}
use Rattle.lane_look.specs.declared.lane.Turn.{Turn}
use Rattle.lane_look.specs.declared.lane.Turn.TheVariants as turn
use Rattle.m0_core.specs.Cycle.{next}
use Rattle.m0_core.specs.State.{State}
use Rattle.core_laws.specs.Laws.{Given, turn_of, lines_in, changed_by, begun_in, wanted_in, is_access, is_stop, read_in, want_of_beat, IsAtBoundary, IsFetched, IsPlain, IsGranted, IsInProgress, IsOver}

-- a cycle, and whether the access that the core asks for there is done in it
pub record Served : Type 0 where
  pub given : Given
  pub done : Bool

-- an access waits
abbrev pub wait_of : Want → Turn
wait_of want = if is_access want then turn.Wait else turn.Nothing

abbrev pub turn_served : Want → Served → Turn
turn_served want x = if x.done then turn_of want x.given.word else wait_of want

-- the core after the cycle
abbrev pub after_served : ℕ → Served → State → State
after_served cycle x s =
    next s (begun_in cycle x.given s) (turn_served (wanted_in cycle x.given s) x ∷ turn.Nothing ∷ [])

-- the core after one cycle for each that is given, the first of that number
abbrev pub after_all_served : ℕ → List Served → State → State
after_all_served cycle [] s = s
after_all_served cycle (x ∷ xs) s = after_all_served (cycle + 1) xs (after_served cycle x s)

-- the machine stops in none of these cycles
abbrev pub GoesOnServed : ℕ → List Served → State → Type 0
GoesOnServed cycle [] s = Unit {0}
GoesOnServed cycle (x ∷ xs) s =
    (is_stop (wanted_in cycle x.given s) ≡ false) × GoesOnServed (cycle + 1) xs (after_served cycle x s)

-- a beat is over in a cycle, unless it has an access on the bus that is not done
abbrev pub is_over : Op → Beat → Served → Bool
is_over op beat x = if is_access (want_of_beat op beat) then x.done else true

-- the beats that are left of these after these cycles; None where the cycles go on past the last beat
abbrev pub left_after : Op → List Beat → List Served → Option (List Beat)
left_after op beats [] = Some beats
left_after op [] (x ∷ xs) = None
left_after op (beat ∷ beats) (x ∷ xs) =
    if is_over op beat x then left_after op beats xs else left_after op (beat ∷ beats) xs

-- the values that these beats read, each in the cycle in which the beat is over
abbrev pub reads_served : Op → ℕ → List Beat → List Served → State → List ℕ
reads_served op cycle [] xs s = []
reads_served op cycle (beat ∷ beats) [] s = []
reads_served op cycle (beat ∷ beats) (x ∷ xs) s =
    if is_over op beat x
    then option_to_list (read_in beat x.given s) ++ reads_served op (cycle + 1) beats xs (after_served cycle x s)
    else reads_served op (cycle + 1) (beat ∷ beats) xs (after_served cycle x s)

-- what the core wants in these cycles
abbrev pub wants_served : ℕ → List Served → State → List Want
wants_served cycle [] s = []
wants_served cycle (x ∷ xs) s = wanted_in cycle x.given s ∷ wants_served (cycle + 1) xs (after_served cycle x s)

-- what the beats want: one with an access on the bus wants it in each cycle until it is done
abbrev pub wants_of_beats : Op → List Beat → List Served → List Want
wants_of_beats op [] xs = []
wants_of_beats op (beat ∷ beats) [] = []
wants_of_beats op (beat ∷ beats) (x ∷ xs) =
    want_of_beat op beat ∷ (if is_over op beat x then wants_of_beats op beats xs else wants_of_beats op (beat ∷ beats) xs)

-- the exceptions after these beats: a cycle in which an access waits leaves them to the timer and the interrupt lines
abbrev pub exceptions_served : Op → ℕ → List Beat → List Served → Exceptions → Exceptions
exceptions_served op cycle [] xs e = e
exceptions_served op cycle (beat ∷ beats) [] e = e
exceptions_served op cycle (beat ∷ beats) (x ∷ xs) e =
    if is_over op beat x
    then exceptions_served op (cycle + 1) beats xs (nvic.after_cycle (lines_in x.given) cycle (changed_by op beat beats e))
    else exceptions_served op (cycle + 1) (beat ∷ beats) xs (nvic.after_cycle (lines_in x.given) cycle e)

-- the event register after these beats
abbrev pub event_served : Op → ℕ → List Beat → List Served → Exceptions → Bool → Bool
event_served op cycle [] xs e event = event
event_served op cycle (beat ∷ beats) [] e event = event
event_served op cycle (beat ∷ beats) (x ∷ xs) e event =
    if is_over op beat x
    then event_served op (cycle + 1) beats xs (nvic.after_cycle (lines_in x.given) cycle (changed_by op beat beats e))
    (event || nvic.is_event (lines_in x.given) cycle (changed_by op beat beats e))
    else event_served op (cycle + 1) (beat ∷ beats) xs (nvic.after_cycle (lines_in x.given) cycle e)
    (event || nvic.is_event (lines_in x.given) cycle e)

-- after these cycles, which do not go on past the last beat, nothing stopped: while beats are left the instruction is in progress, and
-- when none is left it is over
pub record TakesItsBeatsServed (op : Op) (cycle : ℕ) (xs : List Served) (s : State) : Type 0 where
  pub goes_on : (beats : List Beat) → left_after op (beats_of op s.regs) xs ≡ Some beats → GoesOnServed cycle xs s
  pub in_progress : (beat : Beat) (beats : List Beat) → left_after op (beats_of op s.regs) xs ≡ Some (beat ∷ beats)
      → IsInProgress op s (after_all_served cycle xs s)
  pub wants : (beats : List Beat) → left_after op (beats_of op s.regs) xs ≡ Some beats
      → wants_served cycle xs s ≡ wants_of_beats op (beats_of op s.regs) xs
  pub exceptions : (beats : List Beat) → left_after op (beats_of op s.regs) xs ≡ Some beats
      → (after_all_served cycle xs s).nvic ≡ exceptions_served op cycle (beats_of op s.regs) xs s.nvic
  pub event : (beats : List Beat) → left_after op (beats_of op s.regs) xs ≡ Some beats
      → (after_all_served cycle xs s).event ≡ event_served op cycle (beats_of op s.regs) xs s.nvic s.event
  pub over : left_after op (beats_of op s.regs) xs ≡ Some []
      → IsOver op (reads_served op cycle (beats_of op s.regs) xs s) s (after_all_served cycle xs s)

-- an instruction that a core begins at a boundary takes its beats, whatever the bus, the interrupt lines and the system timer
-- do
abbrev pub AnInstructionTakesItsBeatsAndWaits : Type 0
AnInstructionTakesItsBeatsAndWaits =
    (op : Op) (s : State) (cycle : ℕ) (x : Served) (xs : List Served)
    → IsAtBoundary s
    → IsFetched x.given.answers s.regs.pc op
    → IsPlain op s
    → IsGranted op s
    → TakesItsBeatsServed op cycle (x ∷ xs) s
