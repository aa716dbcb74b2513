-- What a core wants in a cycle, and what the cycle leaves (ARMv6-M Architecture Reference Manual, A6.7, SEV, WFE, WFI and
-- SVC, B1.5.4, how an exception becomes pending, and B1.5.18, the event register; ARM Cortex-M0+ Technical Reference Manual,
-- 3.3, cycle counts).
use Rattle.std.specs.Prelude.{ℕ, ◌+◌, ◌==◌, ◌&&◌, ◌||◌, Bool, true, false, not, nat_lt, if◌then◌else◌, List, [], ◌∷◌, ◌++◌, length, Option, Some, None, slice_get}
use Rattle.rp_base.specs.declared.Request.{Request}
use Rattle.rp_base.specs.declared.op.Op.{Op}
use Rattle.m0_beats.specs.Instructions.{beats_of, effect_of, return_of}
use Rattle.m0_nvic.specs.Exceptions.{HARDFAULT, SVCALL}
use Rattle.m0_nvic.specs.State.{State as Exceptions}
use Rattle.m0_nvic.specs.Changes.{pended}
use Rattle.m0_nvic.specs.Priority.{wakes_of}
use Rattle.m0_nvic.specs.Cycle as nvic
use Rattle.lane_look.specs.declared.lane.Want.{Want}
use Rattle.lane_look.specs.declared.lane.Want.TheVariants as want
use Rattle.lane_look.specs.declared.lane.Turn.{Turn}
use Rattle.lane_look.specs.declared.lane.Turn.TheVariants.{Done}
use Rattle.m0_core.specs.declared.doing.Act.{Act}
use Rattle.m0_core.specs.declared.doing.Act.TheVariants as act
use Rattle.m0_core.specs.declared.doing.Work.{Work}
use Rattle.m0_core.specs.declared.doing.Work.TheVariants as works
use Rattle.m0_core.specs.declared.doing.Doing.{Doing}
use Rattle.m0_core.specs.ExcReturn.{ENTRY_BEATS, RETURN_BEATS}
use Rattle.m0_core.specs.Kinds.{is_signal, awaits_event, awaits_interrupt, is_call}
use Rattle.m0_core.specs.Entry.{taken_first, entry_ended}
use Rattle.m0_core.specs.Return.{return_ended}
use Rattle.m0_core.specs.Private.{private_value, accessed}
use Rattle.rp_base.specs.Access.{lanes_of}
use Rattle.m0_core.specs.State.{State}

-- ---- wants

abbrev pub signals : Work → Bool
signals (works.Instruction op) = is_signal op
signals _ = false

-- a core has at most one want
abbrev pub want_of_act : Act → Want
want_of_act act.Asleep = want.Nothing
want_of_act (act.Stopped cause) = want.Stopped cause
want_of_act act.Fault = want.Nothing
want_of_act (act.Inner work) = if signals work then want.Signal else want.Nothing
want_of_act (act.Read work request word) = want.Ram request
want_of_act (act.Write work request) = want.Ram request
want_of_act (act.Outward work request) = want.Outward request
want_of_act (act.Private work request offset) = want.Nothing

abbrev pub want_of : Doing → Want
want_of begun = want_of_act begun.act

abbrev pub wanted : Doing → List Want
wanted begun = want_of begun ∷ want.Nothing ∷ []

-- ---- the end of a beat

-- a core keeps the values of at most 16 reads: a list has no more registers
abbrev pub with_value : List ℕ → Option ℕ → List ℕ
with_value read None = read
with_value read (Some value) = if nat_lt (length read) 16 then read ++ value ∷ [] else read

-- the beat is not over
abbrev pub waiting : Work → State → State
waiting work s = record s { work = Some work }

-- a beat is over, and another one follows
abbrev pub followed : Work → State → State
followed work s = record s { work = Some work; beats_done = s.beats_done + 1 }

abbrev pub with_read : Option ℕ → State → State
with_read value s = record s { read = with_value s.read value }

-- BX and POP may begin an exception return
abbrev pub returning : Option ℕ → Option Work
returning None = None
returning (Some value) = Some (works.Return value)

-- SVC makes its exception pending
abbrev pub called : Op → Exceptions → Exceptions
called op e = if is_call op then pended SVCALL e else e

-- the last beat of an instruction is over: registers and flags change, and WFE clears the event register
unfoldable pub ended : Op → State → State
ended op s = record s {
  regs = effect_of op s.regs s.read;
  nvic = called op s.nvic;
  event = s.event && not (awaits_event op);
  work = returning (return_of op s.regs s.read);
  beats_done = 0;
  read = [];
}

-- so many beats in all
abbrev pub passed_of : Work → ℕ → State → State → State
passed_of work count last s = if nat_lt (s.beats_done + 1) count then followed work s else last

unfoldable pub passed_instruction : Op → State → State
passed_instruction op s = passed_of (works.Instruction op) (length (beats_of op s.regs)) (ended op s) s

unfoldable pub passed_entry : ℕ → State → State
passed_entry n s = passed_of (works.Entry n) ENTRY_BEATS (entry_ended n s) s

unfoldable pub passed_return : ℕ → State → State
passed_return value s = passed_of (works.Return value) RETURN_BEATS (return_ended value s) s

abbrev pub passed_work : Work → State → State
passed_work (works.Instruction op) s = passed_instruction op s
passed_work (works.Entry n) s = passed_entry n (taken_first n s)
passed_work (works.Return value) s = passed_return value s

-- a beat that may have read a value is over
unfoldable pub passed : Work → Option ℕ → State → State
passed work value s = passed_work work (with_read value s)

-- the second beat of WFE lasts until the event register is set, that of WFI lasts on, and both end where an exception
-- wakes
abbrev pub is_paused_op : Op → State → Bool
is_paused_op op s =
    (s.beats_done == 1) && ((awaits_interrupt op || awaits_event op && not s.event) && not (wakes_of s.nvic))

abbrev pub is_paused : Work → State → Bool
is_paused (works.Instruction op) s = is_paused_op op s
is_paused _ s = false

unfoldable pub after_inner : Work → State → State
after_inner work s = if is_paused work s then waiting work s else passed work None s

-- a fault changes nothing but HardFault's pending bit, and what was in progress is over
unfoldable pub faulted : State → State
faulted s = record s { nvic = pended HARDFAULT s.nvic; work = None; beats_done = 0; read = [] }

-- ---- the end of an access

-- the word of an access that is done
abbrev pub word_of : Turn → Option ℕ
word_of (Done word) = Some word
word_of _ = None

abbrev pub done_word : Option Turn → Option ℕ
done_word None = None
done_word (Some turn) = word_of turn

-- an access lasts until it is done; a read has a value then
abbrev pub after_access : Option ℕ → Work → Option ℕ → State → State
after_access None work value s = waiting work s
after_access (Some word) work value s = passed work value s

-- a read has its lanes of the word, and a write has no value
abbrev pub value_of : Request → Option ℕ → ℕ → Option ℕ
value_of request None word = Some (lanes_of request.size request.address word)
value_of request (Some write) word = None

-- an access outside SRAM has its word when it is done
abbrev pub after_outward : Option ℕ → Work → Request → State → State
after_outward None work request s = waiting work s
after_outward (Some word) work request s = passed work (value_of request request.write word) s

-- one of the private bus is done at once
unfoldable pub after_private : Work → Request → ℕ → State → State
after_private work request offset s =
    passed work (private_value request request.write offset s) (accessed request offset s)

-- ---- the cycle

abbrev pub after : Act → Option ℕ → State → State
after act.Asleep word s = s
after (act.Stopped cause) word s = s
after act.Fault word s = faulted s
after (act.Inner work) word s = after_inner work s
after (act.Read work request told) word s =
    after_access word work (Some (lanes_of request.size request.address told)) s
after (act.Write work request) word s = after_access word work None s
after (act.Outward work request) word s = after_outward word work request s
after (act.Private work request offset) word s = after_private work request offset s

-- then the system timer and the interrupt lines have their turn
unfoldable pub closed : ℕ → ℕ → State → State
closed lines cycle s = record s {
  nvic = nvic.after_cycle lines cycle s.nvic;
  event = s.event || nvic.is_event lines cycle s.nvic;
}

-- nothing happens to a core that is asleep, and nothing where the cycle does not happen
abbrev pub is_idle : Act → Bool
is_idle act.Asleep = true
is_idle (act.Stopped cause) = true
is_idle _ = false

unfoldable pub next : State → Doing → List Turn → State
next s begun turns =
    if is_idle begun.act then s else
    closed begun.lines begun.cycle (after begun.act (done_word (slice_get turns 0)) s)
