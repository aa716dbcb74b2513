-- Events that were told to a tape. A tape means two relations: between a tape, the events that it took, one after another, and
-- the tape then; and between a tape, the event at which it failed, and the tape then.
use Rattle.std.specs.Prelude.{◌≡◌, ℕ, ◌≤◌, List, ◌∷◌, ◌++◌, Result, OnOk, OnErr}
use Rattle.rp_ports.specs.Fault.{Rose}
use Rattle.trace_text.specs.declared.event.Event.{Event}

-- the tape took the first of some events, and failed at the one that follows them
pub record FailsAmong {T : Type 0} (took : T → List Event → T → Type 0) (missed : T → Event → T → Type 0) (old new : T) (events : List Event) : Type 0 where
  pub first : List Event
  pub event : Event
  pub others : List Event
  pub between : T
  pub in_order : events ≡ first ++ event ∷ others
  pub taken : took old first between
  pub failed : missed between event new

-- At Ok the tape took the events. At Err it took the first of them and failed at the next one, and its count of faults rose.
-- The count never falls.
pub record Tells {T A E : Type 0} (took : T → List Event → T → Type 0) (missed : T → Event → T → Type 0) (old new : T) (before now : ℕ) (events : List Event) (result : Result A E) : Type 0 where
  pub ok : OnOk result (took old events new)
  pub err : OnErr result (FailsAmong took missed old new events)
  pub cause : OnErr result (Rose before now)
  pub count : before ≤ now
