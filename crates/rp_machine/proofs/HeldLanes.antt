-- The peripherals keep their bits of RESETS in a cycle, and core 1 what its launcher has.
use Rattle.std.proofs.Common.{◌≡◌, ◌+◌, ◌==◌, nat_lt, ℕ, Bool, true, false, if◌then◌else◌, Option, Some, None, List, refl}
use Rattle.rp_machine.proofs.Shared.{Doing, Op, Request, SameCopies, SeenOutputs, Setting, Turn}
use Rattle.outer_lane.specs.State.{State as OuterState}
use Rattle.outer_lane.specs.Step as outer
use Rattle.m0_core.specs.declared.doing.Act.{Act}
use Rattle.m0_core.specs.declared.doing.Act.TheVariants as act
use Rattle.m0_core.specs.declared.doing.Work.{Work}
use Rattle.m0_core.specs.declared.doing.Work.TheVariants as works
use Rattle.m0_core.specs.State.{State as Core}
use Rattle.m0_nvic.specs.Changes.{entered}
use Rattle.m0_core.specs.Entry.{entry_ended, taken_first}
use Rattle.m0_core.specs.Return.{return_ended}
use Rattle.m0_core.specs.Cycle as core

-- ---- the peripherals

pub outer_next : (w : Setting) (o : OuterState) (seen : SeenOutputs) → SameCopies o (outer.next w o seen)
unfolding outer.next outer.next_by outer.pads_by
outer_next w o seen = record { bank = refl; pads = refl; blocks = refl; sio = refl }

-- ---- a core

pub record Offers (bit : Bool) (c : Core) : Type 0 where
  pub is : c.offer ≡ bit

core_way : (bit c : Bool) (x y : Core) → Offers bit x → Offers bit y → Offers bit (if c then x else y)
core_way bit true x y h k = h
core_way bit false x y h k = k

ended_offers : (op : Op) (bit : Bool) (c : Core) → Offers bit c → Offers bit (core.ended op c)
unfolding core.ended
ended_offers op bit c h = record { is = h.is }

waiting_offers : (work : Work) (bit : Bool) (c : Core) → Offers bit c → Offers bit (core.waiting work c)
waiting_offers work bit c h = record { is = h.is }

of_offers : (work : Work) (count : ℕ) (last : Core) (bit : Bool) (c : Core) → Offers bit last → Offers bit c → Offers bit (core.passed_of work count last c)
of_offers work count last bit c k h = core_way bit (nat_lt (c.beats_done + 1) count) (core.followed work c) last (record { is = h.is }) k

taken_offers : (n : ℕ) (bit : Bool) (c : Core) → Offers bit c → Offers bit (taken_first n c)
unfolding taken_first
taken_offers n bit c h = core_way bit (c.beats_done == 0) (record c { nvic = entered n c.nvic }) c (record { is = h.is }) h

entry_offers : (n : ℕ) (bit : Bool) (c : Core) → Offers bit c → Offers bit (entry_ended n c)
unfolding entry_ended
entry_offers n bit c h = record { is = h.is }

return_offers : (value : ℕ) (bit : Bool) (c : Core) → Offers bit c → Offers bit (return_ended value c)
unfolding return_ended
return_offers value bit c h = record { is = h.is }

work_offers : (work : Work) (bit : Bool) (c : Core) → Offers bit c → Offers bit (core.passed_work work c)
unfolding core.passed_instruction core.passed_entry core.passed_return
work_offers (works.Instruction op) bit c h = of_offers _ _ _ bit c (ended_offers op bit c h) h
work_offers (works.Entry n) bit c h =
    let first = taken_offers n bit c h in of_offers _ _ _ bit (taken_first n c) (entry_offers n bit (taken_first n c) first) first
work_offers (works.Return value) bit c h = of_offers _ _ _ bit c (return_offers value bit c h) h

passed_offers : (work : Work) (value : Option ℕ) (bit : Bool) (c : Core) → Offers bit c → Offers bit (core.passed work value c)
unfolding core.passed
passed_offers work value bit c h = work_offers work bit _ (record { is = h.is })

access_offers : (word : Option ℕ) (work : Work) (value : Option ℕ) (bit : Bool) (c : Core) → Offers bit c → Offers bit (core.after_access word work value c)
access_offers None work value bit c h = waiting_offers work bit c h
access_offers (Some word) work value bit c h = passed_offers work value bit c h

outward_offers : (word : Option ℕ) (work : Work) (request : Request) (bit : Bool) (c : Core) → Offers bit c → Offers bit (core.after_outward word work request c)
outward_offers None work request bit c h = waiting_offers work bit c h
outward_offers (Some word) work request bit c h = passed_offers work _ bit c h

after_offers : (a : Act) (word : Option ℕ) (bit : Bool) (c : Core) → Offers bit c → Offers bit (core.after a word c)
unfolding core.faulted core.after_inner core.after_private
after_offers act.Asleep word bit c h = h
after_offers (act.Stopped cause) word bit c h = h
after_offers act.Fault word bit c h = record { is = h.is }
after_offers (act.Inner work) word bit c h = core_way bit _ _ _ (waiting_offers work bit c h) (passed_offers work None bit c h)
after_offers (act.Read work request told) word bit c h = access_offers word work _ bit c h
after_offers (act.Write work request) word bit c h = access_offers word work None bit c h
after_offers (act.Outward work request) word bit c h = outward_offers word work request bit c h
after_offers (act.Private work request offset) word bit c h = passed_offers work _ bit _ (record { is = h.is })

closed_offers : (lines cycle : ℕ) (bit : Bool) (c : Core) → Offers bit c → Offers bit (core.closed lines cycle c)
unfolding core.closed
closed_offers lines cycle bit c h = record { is = h.is }

pub core_next : (c : Core) (begun : Doing) (turns : List Turn) (bit : Bool) → Offers bit c → Offers bit (core.next c begun turns)
unfolding core.next
core_next c begun turns bit h = core_way bit _ _ _ h (closed_offers _ _ bit _ (after_offers begun.act _ bit c h))
