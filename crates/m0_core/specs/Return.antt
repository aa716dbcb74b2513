-- Exception return in 13 beats (ARMv6-M Architecture Reference Manual, B1.5.8, ExceptionReturn and PopStack): the first is
-- inner, eight words are read, and four beats are inner.
use Rattle.std.specs.Prelude.{ℕ, ◌+◌, ◌-◌, ◌*◌, ◌/◌, ◌^◌, ◌%◌, Bool, true, not, ◌==◌, ◌||◌, nat_lt, if◌then◌else◌, List, [], None, bit_or, slice_index, slice_set}
use Rattle.rp_base.specs.Word.{has_bit}
use Rattle.rp_base.specs.declared.Size.TheVariants as sizes
use Rattle.m0_beats.specs.declared.registers.Regs.{Regs}
use Rattle.m0_beats.specs.declared.timing.Beat.{Beat}
use Rattle.m0_beats.specs.declared.timing.Beat.TheVariants.{Inner}
use Rattle.m0_beats.specs.Beats.{access}
use Rattle.m0_beats.specs.Registers.{with_flags_word}
use Rattle.m0_nvic.specs.Exceptions.{HARDFAULT}
use Rattle.m0_nvic.specs.State.{State as Exceptions}
use Rattle.m0_nvic.specs.Changes.{pended, left}
use Rattle.m0_nvic.specs.Changes as nvic
use Rattle.m0_core.specs.ExcReturn.{TO_HANDLER, TO_MAIN, TO_PROCESS}
use Rattle.m0_core.specs.State.{State}

-- ---- values: to Handler mode, to Thread mode on the main stack, to Thread mode on the process stack

abbrev pub is_to_handler : ℕ → Bool
is_to_handler value = value == TO_HANDLER

abbrev pub is_to_process : ℕ → Bool
is_to_process value = value == TO_PROCESS

abbrev pub is_to_thread : ℕ → Bool
is_to_thread value = value == TO_MAIN || is_to_process value

-- no other exception than the current one is active
unfoldable pub is_alone : State → Bool
is_alone s = nvic.is_alone s.regs.ipsr s.nvic

-- another value, one to Handler mode with no other exception active, one to Thread mode with another one active
unfoldable pub is_bad : ℕ → State → Bool
is_bad value s =
    if is_to_handler value then is_alone s else if is_to_thread value then not (is_alone s) else true

-- ---- beats

abbrev pub return_frame : ℕ → Regs → ℕ
return_frame value r = if is_to_process value then r.psp else r.msp

-- the read of the word of that index
abbrev pub unstacking : ℕ → ℕ → Regs → Beat
unstacking value index r = access ((return_frame value r + 4 * index) % 2 ^ 32) sizes.Word None

-- the beat with so many before it
unfoldable pub return_beat : ℕ → State → Beat
return_beat value s =
    if s.beats_done == 0 then Inner else if nat_lt s.beats_done 9 then unstacking value (s.beats_done - 1) s.regs else Inner

-- ---- the end

abbrev pub stacked_number : ℕ → ℕ
stacked_number xpsr = xpsr % 2 ^ 6

-- the stacked exception number is that of the other mode
abbrev pub is_misfit : ℕ → ℕ → Bool
is_misfit value xpsr = if is_to_handler value then stacked_number xpsr == 0 else not (stacked_number xpsr == 0)

-- the stack is behind the frame, and 4 higher where bit 9 of the stacked xPSR is set
abbrev pub stack_after : ℕ → ℕ → ℕ
stack_after frame xpsr = if has_bit xpsr 9 then bit_or ((frame + 32) % 2 ^ 32) 4 else (frame + 32) % 2 ^ 32

abbrev pub with_stack : ℕ → ℕ → Regs → Regs
with_stack value sp r = if is_to_process value then record r { psp = sp } else record r { msp = sp }

-- R0 to R3 and R12
abbrev pub with_five : List ℕ → List ℕ → List ℕ
with_five words r =
    slice_set (slice_set (slice_set (slice_set (slice_set r 0 (slice_index words 0)) 1 (slice_index words 1)) 2
    (slice_index words 2)) 3 (slice_index words 3)) 12 (slice_index words 4)

-- LR, the return address, and the parts of xPSR
abbrev pub with_frame : ℕ → List ℕ → Regs → Regs
with_frame value words r = record (with_flags_word r (slice_index words 7)) {
  r = with_five words r.r;
  lr = slice_index words 5;
  pc = slice_index words 6 / 2 * 2;
  t = has_bit (slice_index words 7) 24;
  ipsr = stacked_number (slice_index words 7);
  spsel = is_to_process value;
}

unfoldable pub with_return : ℕ → List ℕ → Regs → Regs
with_return value words r =
    with_stack value (stack_after (return_frame value r) (slice_index words 7)) (with_frame value words r)

-- the exception is not active any more; a number that does not fit the mode is a HardFault
unfoldable pub after_return : ℕ → ℕ → ℕ → Exceptions → Exceptions
after_return value xpsr n e = if is_misfit value xpsr then pended HARDFAULT (left n e) else left n e

-- the last beat is over, which sets the event register
unfoldable pub return_ended : ℕ → State → State
return_ended value s = record s {
  regs = with_return value s.read s.regs;
  nvic = after_return value (slice_index s.read 7) s.regs.ipsr s.nvic;
  event = true;
  work = None;
  beats_done = 0;
  read = [];
}
