-- A run that goes by windows: what it answers, and where its machine stands. The project's own.
use Rattle.std.specs.Prelude.{◌≡◌, ℕ, ◌+◌, ◌-◌, ◌*◌, ◌<◌, ◌≤◌, Bool, true, false, List, [], Option, Some, None, Result, Ok, Err}
use Rattle.rp_base.specs.declared.Why.{Why}
use Rattle.outer_lane.specs.Setting.{Setting}
use Rattle.trace_text.specs.declared.event.Event.{Event as Shown}
use Rattle.trace_text.specs.declared.writer.SinkFault.{SinkFault}
use Rattle.trace_text.specs.Tape.{FailsAmong, Tells}
use Rattle.rp_machine.specs.State.{State}
use Rattle.rp_machine.specs.Cycle.{stop}
use Rattle.rp_machine.specs.Run.{states, events_in, last_state, unless_stopped}
use Rattle.window_merge.specs.Quiet.{AreQuietWindows, behind_quiet}
use Rattle.window_merge.specs.Window.{Position, next_position, last_position}
use Rattle.window_runner.specs.declared.alone.Ran.{Ran}
use Rattle.window_runner.specs.declared.alone.Counts.{Counts}
use Rattle.window_runner.specs.Told.{all_shown, step_events}

-- a run answers the cause of the stop at its end, how many windows it tried, and how many cycles they had
pub record IsRan (w : Setting) (s : State) (ran : Ran) : Type 0 where
  pub why : stop w (last_state w s) ≡ Some ran.why
  pub windows : ran.windows ≡ (last_position w s).windows
  pub cycles : ran.cycles ≡ (last_position w s).cycles

-- the same of one that counts its windows where they are asked for, and answers 0 elsewhere
pub record IsRanFor (counted : Bool) (w : Setting) (s : State) (ran : Ran) : Type 0 where
  pub why : stop w (last_state w s) ≡ Some ran.why
  pub counts : counted ≡ true → IsRan w s ran
  pub none : counted ≡ false → (ran.windows ≡ 0) × (ran.cycles ≡ 0)

-- a state of the run from another, by its own cycle number
pub record IsOnRun (w : Setting) (s t : State) : Type 0 where
  pub forward : s.cycle ≤ t.cycle
  pub within : t.cycle ≤ (last_state w s).cycle
  pub state : t ≡ states w s (t.cycle - s.cycle)

-- Of a run from a state a tape took the events of some cycles, and failed at one of those that follow them, at most so many; the machine
-- stands right behind these.
pub record FailsWithin {T : Type 0} (took : T → List Shown → T → Type 0) (missed : T → Shown → T → Type 0) (old new : T) (w : Setting) (most : ℕ) (s t : State) : Type 0 where
  pub before : ℕ
  pub last : ℕ
  pub few : last ≤ most
  pub between : T
  pub taken : took old (all_shown (events_in w s before)) between
  pub failed : FailsAmong took missed between new (all_shown (events_in w (states w s before) last))
  pub stands : t ≡ states w (states w s before) last

-- ---- one step of it

-- the position of a machine in that state, where so much was counted
abbrev pub position_at : State → Counts → Position
position_at s counts = record {
  state = s;
  windows = counts.windows;
  cycles = counts.cycles;
  after_empty = counts.after_empty;
}

-- the stop that a step found
abbrev pub stop_in : Result (Option Why) SinkFault → Option Why
stop_in (Ok cause) = cause
stop_in (Err fault) = None

-- a step went from a position to the next and told a tape of the events on the way, or it found a stop and changed nothing
pub record StepsTo {T : Type 0} (took : T → List Shown → T → Type 0) (missed : T → Shown → T → Type 0) (old new : T) (faults faults' : ℕ) (w : Setting) (p q : Position) (before after : ℕ) (result : Result (Option Why) SinkFault) : Type 0 where
  pub cause : stop w p.state ≡ stop_in result
  pub position : q ≡ unless_stopped (stop_in result) p (next_position w p)
  pub told : Tells took missed old new faults faults' (all_shown (unless_stopped (stop_in result) [] (step_events w p))) result
  pub counted : q.cycles + p.state.cycle ≤ p.cycles + q.state.cycle
  pub steps : after + p.state.cycle ≡ before + q.state.cycle

-- it went over windows in which nobody has anything to do, some or none
pub record PassesTo (w : Setting) (p q : Position) (before after : ℕ) : Type 0 where
  pub windows : ℕ
  pub quiet : AreQuietWindows w p.state windows
  pub tried : 0 < windows → p.after_empty ≡ false
  pub position : q ≡ behind_quiet w windows p
  pub steps : after ≡ before + 256 * windows
