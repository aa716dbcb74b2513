-- What a cycle of a lane leaves of the copies that it has of the rest of the machine.
use Rattle.std.proofs.Common.{◌≡◌, ℕ, Bool, if◌then◌else◌, List, Option, refl, ◌∙◌, arith}
use Rattle.window_merge.proofs.Shared.{Act, Doing, SeenOutputs, Setting, Turn, Work}
use Rattle.m0_core.specs.State.{State}
use Rattle.m0_core.specs.Entry.{taken_first, entry_ended}
use Rattle.m0_core.specs.Return.{return_ended}
use Rattle.m0_core.specs.Cycle as core
use Rattle.outer_lane.specs.State.{State as OuterState}
use Rattle.outer_lane.specs.Step as outer

-- a core sleeps on or is awake as before, and knows of the launcher what it knew
pub record Keeps (s t : State) : Type 0 where
  pub asleep : t.asleep ≡ s.asleep
  pub offer : t.offer ≡ s.offer

same : (s : State) → Keeps s s
same s = record { asleep = refl; offer = refl }

then_keeps : (s t u : State) → Keeps s t → Keeps t u → Keeps s u
then_keeps s t u a b = record { asleep = b.asleep ∙ a.asleep; offer = b.offer ∙ a.offer }

either : (c : Bool) (s t u : State) → Keeps s t → Keeps s u → Keeps s (if c then t else u)
either c s t u h1 h2 = grind arith

work_keeps : (work : Work) (s : State) → Keeps s (core.passed_work work s)
unfolding core.passed_instruction core.passed_return core.ended return_ended core.passed_entry entry_ended taken_first
work_keeps work s = search (arith, then_keeps, either, same)

act_keeps : (a : Act) (word : Option ℕ) (s : State) → Keeps s (core.after a word s)
unfolding core.faulted core.after_inner core.after_private core.passed
act_keeps a word s = search (arith, same, either, then_keeps, work_keeps)

pub core_keeps : (s : State) (begun : Doing) (turns : List Turn) → Keeps s (core.next s begun turns)
unfolding core.next core.closed
core_keeps s begun turns = search (arith, either, same, act_keeps)

-- the peripherals know of SIO what they knew
pub outer_keeps : (w : Setting) (s : OuterState) (seen : SeenOutputs) → (outer.next w s seen).sio ≡ s.sio
unfolding outer.next outer.next_by
outer_keeps w s seen = refl
