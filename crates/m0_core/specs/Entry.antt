-- Exception entry in 15 beats (ARMv6-M Architecture Reference Manual, B1.5.6, ExceptionEntry, PushStack and
-- ExceptionTaken): the exception is taken, eight words are stacked, the vector is read, and five beats are inner.
use Rattle.std.specs.Prelude.{ℕ, ◌+◌, ◌-◌, ◌*◌, ◌/◌, ◌^◌, ◌%◌, true, false, ◌==◌, nat_lt, if◌then◌else◌, List, [], ◌∷◌, Some, None, bit_and, bit_or, slice_index}
use Rattle.rp_base.specs.Word.{has_bit}
use Rattle.rp_base.specs.declared.Size.TheVariants as sizes
use Rattle.m0_beats.specs.declared.registers.Regs.{Regs}
use Rattle.m0_beats.specs.declared.timing.Beat.{Beat}
use Rattle.m0_beats.specs.declared.timing.Beat.TheVariants.{Inner}
use Rattle.m0_beats.specs.Beats.{access}
use Rattle.m0_beats.specs.Registers.{is_thread, sp_of, with_sp, xpsr_of}
use Rattle.m0_nvic.specs.State.{State as Exceptions}
use Rattle.m0_nvic.specs.Changes.{entered}
use Rattle.m0_core.specs.ExcReturn.{TO_HANDLER, TO_MAIN, TO_PROCESS}
use Rattle.m0_core.specs.State.{State}

-- the frame is below the active stack and a multiple of 8
abbrev pub entry_frame : Regs → ℕ
entry_frame r = bit_and ((sp_of r + (2 ^ 32 - 32)) % 2 ^ 32) (2 ^ 32 - 1 - 4)

-- bit 9 of the stacked xPSR tells whether the frame is 4 lower for that
abbrev pub stacked_xpsr : Regs → ℕ
stacked_xpsr r = if has_bit (sp_of r) 2 then bit_or (xpsr_of r) (2 ^ 9) else xpsr_of r

-- the words of the frame: R0 to R3, R12, LR, the return address, xPSR
abbrev pub stacked : Regs → List ℕ
stacked r =
    slice_index r.r 0 ∷ slice_index r.r 1 ∷ slice_index r.r 2 ∷ slice_index r.r 3 ∷ slice_index r.r 12 ∷ r.lr ∷ r.pc
    ∷ stacked_xpsr r ∷ []

abbrev pub vector_address : ℕ → Exceptions → ℕ
vector_address n e = (e.vtor + 4 * n) % 2 ^ 32

-- the write of the word of that index
abbrev pub stacking : ℕ → Regs → Beat
stacking index r = access ((entry_frame r + 4 * index) % 2 ^ 32) sizes.Word (Some (slice_index (stacked r) index))

-- the beat with so many before it
unfoldable pub entry_beat : ℕ → State → Beat
entry_beat n s =
    if s.beats_done == 0 then Inner else
    if nat_lt s.beats_done 9 then stacking (s.beats_done - 1) s.regs else
    if s.beats_done == 9 then access (vector_address n s.nvic) sizes.Word None else Inner

-- what LR tells the return: the mode and the stack that were left
abbrev pub link_of : Regs → ℕ
link_of r = if is_thread r then (if r.spsel then TO_PROCESS else TO_MAIN) else TO_HANDLER

-- the handler begins at its vector, in Handler mode on the main stack
abbrev pub with_entry : ℕ → ℕ → Regs → Regs
with_entry n vector r = record (with_sp r (entry_frame r)) {
  lr = link_of r;
  pc = vector / 2 * 2;
  t = has_bit vector 0;
  ipsr = n;
  spsel = false;
}

-- the last beat is over, which sets the event register
unfoldable pub entry_ended : ℕ → State → State
entry_ended n s = record s {
  regs = with_entry n (slice_index s.read 0) s.regs;
  event = true;
  work = None;
  beats_done = 0;
  read = [];
}

-- the first beat takes the exception
unfoldable pub taken_first : ℕ → State → State
taken_first n s = if s.beats_done == 0 then record s { nvic = entered n s.nvic } else s
