-- What a run answers whose memory may run out before it begins. The project's own.
use Rattle.std.specs.Prelude.{◌≡◌, ℕ, ◌+◌, Bool, List, Option, Some, None, Result, Ok, Err, IfOk, OnErr}
use Rattle.outer_lane.specs.Setting.{Setting}
use Rattle.rp_machine.specs.State.{State}
use Rattle.rp_machine.specs.Run.{last_state}
use Rattle.window_runner.specs.declared.alone.Ran.{Ran}
use Rattle.trace_text.specs.declared.event.Event.{Event as Shown}
use Rattle.trace_text.specs.declared.writer.SinkFault.{SinkFault}
use Rattle.window_runner.specs.Alone.{IsRanFor, IsOnRun, FailsWithin}
use Rattle.window_runner.specs.declared.windows.RunFault.{RunFault}
use Rattle.window_runner.specs.declared.windows.RunFault.TheVariants as fault

-- the answer of a run that had its memory
abbrev pub answered : Result Ran RunFault → Option (Result Ran (Unit {0}))
answered (Ok ran) = Some (Ok ran)
answered (Err fault.Sink) = Some (Err tt)
answered (Err fault.Memory) = None

-- there was no memory, and this holds
abbrev pub OnMemory : Result Ran RunFault → Type 0 → Type 0
OnMemory (Err fault.Memory) holds = holds
OnMemory result holds = Unit {0}

-- the tape failed, and this holds
abbrev pub OnSink : Result Ran RunFault → Type 0 → Type 0
OnSink (Err fault.Sink) holds = holds
OnSink result holds = Unit {0}

-- where a run from a state leaves the machine and the count of steps
pub record Leaves {T : Type 0} (took : T → List Shown → T → Type 0) (missed : T → Shown → T → Type 0) (old new : T) (counted : Bool) (w : Setting) (s t : State) (before after : ℕ) (result : Result Ran SinkFault) : Type 0 where
  pub ran : IfOk result (IsRanFor counted w s)
  pub state : IfOk result (λ ran. t ≡ last_state w s)
  pub failed : OnErr result (FailsWithin took missed old new w 256 s t)
  pub on_run : IsOnRun w s t
  pub steps : after + s.cycle ≡ before + t.cycle
