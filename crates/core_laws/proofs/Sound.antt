-- A core stays sound.
use Rattle.std.proofs.Common.{◌≡◌, ◌∙◌, ℕ, zero, suc, ◌+◌, ◌-◌, ◌*◌, ◌/◌, ◌%◌, ◌^◌, ◌<◌, ◌≤◌, ◌==◌, ◌&&◌, ◌||◌, ◌⊎◌, not, Bool, true, false, cond, List, length, refl, sym, ap, ap₂, subst, inl, inr, arith, true≢false, lt-ltb, ltb-true, ltb-false, nat_lt}
use Rattle.core_laws.proofs.Shared.{Option, Some, None, bit_and, bit_or, slice_get, slice_index, bit_at, eqb-true, and_le_l, or_mod, or_lt, bit_at_and, bit_at_or, bit_at-lt, bit_at-zero, bit_at-pow_same, pow-lt, Request, Spot, Op, master_of, word_written, place_of, has_bit, begins_long, operation_of, Regs, Beat, Inner, Access, is_thread, access, beats_of, effect_of, return_of, HARDFAULT, Exceptions, is_number, is_member, minus, pended, entered, left, Ask, Lines, Half, Asking, answered, Ready, Question, Act, Work, is_breakpoint, entry_frame, stacked, vector_address, stacking, entry_beat, entry_ended, taken_first, is_to_handler, is_to_process, is_to_thread, is_alone, is_bad, is_misfit, stacked_number, return_frame, unstacking, return_beat, stack_after, with_frame, with_return, after_return, return_ended, private_value, stopped, is_locked, is_ram, is_faulty, in_beat, in_ram, at_spot, asks_beat, asks_fault, locks_last, asks_return, asks_decoded, asks_half, asks_second, asks_first, taken_of, asks_taken, asks_boundary, asks_next, asks_awake, asks, ends_with, carried, with_read, waiting, followed, returning, called, ended, passed, passed_instruction, passed_entry, passed_return, is_paused, after_inner, faulted, done_word, value_of, after_access, after_outward, after_private, closed, next, State, begun_from, AreRegisters, IsUnderWay, IsFormed, active_before, Agrees, FrameFits, KeepsSound, ACoreStaysSound, candidates, and_parts, cond_both, not-false, with_value}
use Rattle.rp_base.specs.declared.Size.{Size}
use Rattle.rp_base.specs.declared.Size.TheVariants as sizes
use Rattle.rp_base.specs.declared.map.Spot.TheVariants as spot
use Rattle.rp_base.specs.declared.Why.TheVariants as why
use Rattle.m0_nvic.specs.Cycle as nvic
use Rattle.m0_nvic.specs.Words as words
use Rattle.lane_look.specs.declared.lane.Turn.{Turn}
use Rattle.m0_core.specs.declared.doing.Act.TheVariants as act
use Rattle.m0_core.specs.declared.doing.Work.TheVariants as works
use Rattle.m0_core.specs.ExcReturn.{TO_HANDLER, TO_PROCESS}
use Rattle.core_laws.proofs.Keeping.{Keeps, keeps_effect, quarters, halves, sp_set}
use Rattle.core_laws.proofs.Sets.{positive_by, not_zero, Leaves, leaves_either, leaves_self, leaves_pended, leaves_called, leaves_cycle, clear_of, leaves_effect}
use Rattle.core_laws.proofs.Taken.{what_is_taken_is_the_least}
use Rattle.core_laws.proofs.GivenBack.{IsFresh, fresh_of, entered_active, left_active, taken_out, five_length}

-- ---- one exception

left_same : (n : ℕ) (e f : Exceptions) → f.active ≡ e.active → (left n f).active ≡ (left n e).active
left_same n e f h = go (is_number n)
  where
    go : (b : Bool) → (cond b (record f { active = minus f.active (2 ^ n) }) f).active ≡ (cond b (record e { active = minus e.active (2 ^ n) }) e).active
    go true = ap (λ (a : ℕ). minus a (2 ^ n)) h
    go false = h

left_fits : (n : ℕ) (e : Exceptions) → e.active < 2 ^ 48 → (left n e).active < 2 ^ 48
left_fits n e h =
    cond_both (is_number n) (record e { active = minus e.active (2 ^ n) }) e (λ f. f.active < 2 ^ 48) (λ _. omega (arith, and_le_l e.active (2 ^ 64 - 1 - 2 ^ n), h)) (λ _. h)

left_enabled : (n : ℕ) (e : Exceptions) → (left n e).enabled ≡ e.enabled
left_enabled n e = cond_both (is_number n) (record e { active = minus e.active (2 ^ n) }) e (λ f. f.enabled ≡ e.enabled) (λ h. refl) (λ h. refl)

entered_enabled : (n : ℕ) (e : Exceptions) → (entered n e).enabled ≡ e.enabled
entered_enabled n e = cond_both (is_number n) (record e { pending = minus e.pending (2 ^ n); active = bit_or e.active (2 ^ n) }) e (λ f. f.enabled ≡ e.enabled) (λ h. refl) (λ h. refl)

member_entered : (n : ℕ) (e : Exceptions) → n < 48 → is_member n (entered n e).active ≡ true
member_entered n e h =
    let one : bit_at (bit_or e.active (2 ^ n)) n ≡ 1 = omega (arith, bit_at_or e.active (2 ^ n) n, bit_at-pow_same n, bit_at-lt e.active n) in
    ap₂ (λ (x : Bool) (a : ℕ). x && has_bit a n) (lt-ltb n 48 h) (entered_active n e h) ∙ ap (λ (x : ℕ). x == 1) one

member_positive : (n a : ℕ) → is_member n a ≡ true → 1 ≤ a
member_positive n zero h = absurd (true≢false (sym (and_parts (is_number n) (has_bit 0 n) h).1 ∙ ap (λ (x : ℕ). x == 1) (bit_at-zero n)))
member_positive n (suc a) h = omega arith

left_entered : (n : ℕ) (s : State) → s.nvic.active < 2 ^ 48 → IsFresh n s → (left n (entered n s.nvic)).active ≡ s.nvic.active
left_entered n s h fresh =
    left_active n (entered n s.nvic) fresh.within
    ∙ ap (λ (a : ℕ). minus a (2 ^ n)) (entered_active n s.nvic fresh.within)
    ∙ taken_out s.nvic.active n h fresh.within fresh.clear

-- one that is taken is enabled, so it is not 0
numbered_from : (n p e : ℕ) → has_bit (bit_and p e) n ≡ true → is_member 0 e ≡ false → 1 ≤ n
numbered_from zero p e h none =
    let one : bit_at (bit_and p e) 0 ≡ 1 = eqb-true (bit_at (bit_and p e) 0) 1 h in
    let clear = clear_of e none in
    absurd (omega (arith, one, bit_at_and p e 0, clear))
numbered_from (suc n) p e h none = omega arith

taken_numbered : (n : ℕ) (s : State) → taken_of s ≡ Some n → is_member 0 s.nvic.enabled ≡ false → 1 ≤ n
taken_numbered n s taken none =
    let h = (what_is_taken_is_the_least s).taken n taken in
    numbered_from n s.nvic.pending s.nvic.enabled (and_parts (is_number n) (has_bit (candidates s) n) h.0.0).1 none

-- ---- what is in progress

abbrev is_entry : Option Work → Bool
is_entry (Some (works.Entry n)) = true
is_entry _ = false

no_entry : {A : Type 0} (w : Option Work) (n : ℕ) → is_entry w ≡ false → w ≡ Some (works.Entry n) → A
no_entry w n h e = absurd (true≢false (sym (ap is_entry e) ∙ h))

before_plain : (w : Option Work) (e : Exceptions) → is_entry w ≡ false → active_before w e ≡ e.active
before_plain (Some (works.Entry n)) e h = absurd (true≢false h)
before_plain _ e h = refl

before_same : (w : Option Work) (e f : Exceptions) → f.active ≡ e.active → active_before w f ≡ active_before w e
before_same (Some (works.Entry n)) e f h = left_same n e f h
before_same _ e f h = h

bad_same : (v : ℕ) (s t : State) → t.regs.ipsr ≡ s.regs.ipsr → t.nvic.active ≡ s.nvic.active → is_bad v t ≡ is_bad v s
unfolding is_bad is_alone
bad_same v s t number active =
    ap (λ b. cond (is_to_handler v) b (cond (is_to_thread v) (not b) true))
    (ap (λ (i : ℕ). (left i t.nvic).active == 0) number ∙ ap (λ (a : ℕ). a == 0) (left_same s.regs.ipsr s.nvic t.nvic active))

-- ---- parts of a state that change

under_way_nvic : (w : Option Work) (s : State) (e : Exceptions) (event offer : Bool) → e.active ≡ s.nvic.active → IsUnderWay w s
    → IsUnderWay w (record s { nvic = e; event = event; offer = offer })
under_way_nvic None s e event offer same h = h
under_way_nvic (Some (works.Instruction op)) s e event offer same h = tt
under_way_nvic (Some (works.Entry n)) s e event offer same h = (h.0, h.1, h.2, ap (is_member n) same ∙ h.3)
under_way_nvic (Some (works.Return v)) s e event offer same h = λ one. bad_same v s (record s { nvic = e; event = event; offer = offer }) refl same ∙ h one

formed_nvic : (s : State) (e : Exceptions) (event offer : Bool) → Leaves s.nvic e → IsFormed s → IsFormed (record s { nvic = e; event = event; offer = offer })
formed_nvic s e event offer l h = record {
  registers = h.registers;
  active = subst (λ (a : ℕ). a < 2 ^ 48) (sym l.active) h.active;
  numbered = l.numbered h.numbered;
  progress = under_way_nvic s.work s e event offer l.active h.progress;
}

agrees_nvic : (s : State) (e : Exceptions) (event offer : Bool) → Leaves s.nvic e → Agrees s → Agrees (record s { nvic = e; event = event; offer = offer })
agrees_nvic s e event offer l h = record {
  selection = h.selection;
  mode = h.mode ∙ ap (λ (a : ℕ). a == 0) (sym (before_same s.work s.nvic e l.active));
}

closed_keeps : (lines cycle : ℕ) (s t : State) → KeepsSound s t → KeepsSound s (closed lines cycle t)
unfolding closed
closed_keeps lines cycle s t k =
    let l = leaves_cycle lines cycle t.nvic in
    let event = t.event || nvic.is_event lines cycle t.nvic in
    let e = nvic.after_cycle lines cycle t.nvic in
    record {
      formed = formed_nvic t e event t.offer l k.formed;
      agrees = λ h fits. agrees_nvic t e event t.offer l (k.agrees h fits);
      again = λ n entry none. agrees_nvic t e event t.offer l (k.again n entry none);
    }

-- the exceptions change before the rest
keeps_from : (s t : State) (e : Exceptions) → Leaves s.nvic e → KeepsSound (record s { nvic = e }) t → KeepsSound s t
keeps_from s t e l k = record {
  formed = k.formed;
  agrees = λ h fits. k.agrees (agrees_nvic s e s.event s.offer l h) (fits_on s.work fits);
  again = k.again;
}
  where
    fits_on : (w : Option Work) → FrameFits w s → FrameFits w (record s { nvic = e })
    fits_on (Some (works.Return v)) h = h
    fits_on _ h = tt

stays : (s : State) → IsFormed s → KeepsSound s s
stays s h = record { formed = h; agrees = λ a fits. a; again = λ n entry none. absurd (cc) }

either_keeps : (b : Bool) (s x y : State) → KeepsSound s x → KeepsSound s y → KeepsSound s (cond b x y)
either_keeps true s x y h k = h
either_keeps false s x y h k = k

-- ---- what may be begun

-- a beat with an access
abbrev IsGoing : Work → State → Type 0
IsGoing (works.Instruction op) s = is_entry s.work ≡ false
IsGoing (works.Entry n) s = (s.work ≡ Some (works.Entry n)) × (s.beats_done < 10)
IsGoing (works.Return v) s = (s.work ≡ Some (works.Return v)) × (1 ≤ s.beats_done) × (s.beats_done < 9)

-- an inner beat
abbrev IsBeginning : Work → State → Type 0
IsBeginning (works.Instruction op) s = is_entry s.work ≡ false
IsBeginning (works.Entry n) s = (s.work ≡ Some (works.Entry n)) ⊎ ((s.work ≡ None) × (taken_of s ≡ Some n))
IsBeginning (works.Return v) s = (s.work ≡ Some (works.Return v)) × (is_bad v s ≡ false)

abbrev Legal : Act → State → Type 0
Legal act.Asleep s = Unit {0}
Legal (act.Stopped cause) s = Unit {0}
Legal act.Fault s = is_entry s.work ≡ false
Legal (act.Inner w) s = IsBeginning w s
Legal (act.Read w request word) s = IsGoing w s
Legal (act.Write w request) s = IsGoing w s
Legal (act.Outward w request) s = IsGoing w s
Legal (act.Private w request offset) s = IsGoing w s

legal_either : (f : Ask → ℕ) (s : State) (b : Bool) (x y : Asking Act) → Legal (answered f x) s → Legal (answered f y) s → Legal (answered f (cond b x y)) s
legal_either f s true x y h k = h
legal_either f s false x y h k = k

legal_ram : (f : Ask → ℕ) (w : Work) (request : Request) (write : Option ℕ) (s : State) → IsGoing w s → Legal (answered f (in_ram w request write)) s
legal_ram f w request None s h = h
legal_ram f w request (Some value) s h = h

legal_spot : (f : Ask → ℕ) (w : Work) (request : Request) (s : State) (p : Spot) → IsGoing w s → Legal (answered f (at_spot w request s p)) s
legal_spot f w request s (spot.Ram index bank) h = legal_ram f w request request.write s h
legal_spot f w request s (spot.Ppb offset) h =
    legal_either f s (words.is_allowed offset (word_written request.size request.write)) (Ready (act.Private w request offset)) (stopped (why.Outside (master_of s.number) request.address)) h tt
legal_spot f w request s _ h = h

legal_beat : (f : Ask → ℕ) (op : Op) (s : State) (b : Beat) → is_entry s.work ≡ false → Legal (answered f (in_beat (works.Instruction op) s b)) s
legal_beat f op s Inner h = h
legal_beat f op s (Access request) h = legal_spot f (works.Instruction op) request s (place_of request.address) h

legal_instruction : (f : Ask → ℕ) (op : Op) (s : State) → is_entry s.work ≡ false → Legal (answered f (asks_beat (works.Instruction op) s)) s
unfolding asks_beat
legal_instruction f op s h = legal_beat f op s _ h

legal_fault : (f : Ask → ℕ) (s : State) → is_entry s.work ≡ false → Legal (answered f (asks_fault s)) s
legal_fault f s h = legal_either f s (is_locked s) (stopped (why.Lockup s.number)) (Ready act.Fault) tt h

legal_going : (f : Ask → ℕ) (w : Work) (s : State) (address : ℕ) (size : Size) (write : Option ℕ) → IsGoing w s → Legal (answered f (in_beat w s (access address size write))) s
legal_going f w s address size write h = legal_spot f w (record { address = address; size = size; write = write }) s (place_of address) h

legal_entry : (f : Ask → ℕ) (n : ℕ) (s : State) → s.work ≡ Some (works.Entry n) → Legal (answered f (asks_beat (works.Entry n) s)) s
unfolding asks_beat entry_beat
legal_entry f n s e = go (s.beats_done == 0) (nat_lt s.beats_done 9) (s.beats_done == 9) refl refl
  where
    go : (a b c : Bool) → nat_lt s.beats_done 9 ≡ b → (s.beats_done == 9) ≡ c
        → Legal (answered f (in_beat (works.Entry n) s (cond a Inner (cond b (stacking (s.beats_done - 1) s.regs) (cond c (access (vector_address n s.nvic) sizes.Word None) Inner))))) s
    go true b c p q = inl e
    go false true c p q = legal_going f (works.Entry n) s ((entry_frame s.regs + 4 * (s.beats_done - 1)) % 2 ^ 32) sizes.Word (Some (slice_index (stacked s.regs) (s.beats_done - 1))) (e, omega (arith, ltb-true s.beats_done 9 p))
    go false false true p q = legal_going f (works.Entry n) s (vector_address n s.nvic) sizes.Word None (e, omega (arith, eqb-true s.beats_done 9 q))
    go false false false p q = inl e

legal_taken_first : (f : Ask → ℕ) (n : ℕ) (s : State) → s.work ≡ None → taken_of s ≡ Some n → s.beats_done ≡ 0 → Legal (answered f (asks_beat (works.Entry n) s)) s
unfolding asks_beat entry_beat
legal_taken_first f n s none taken first =
    subst (λ (b : Bool). Legal (answered f (in_beat (works.Entry n) s
    (cond b Inner (cond (nat_lt s.beats_done 9) (stacking (s.beats_done - 1) s.regs) (cond (s.beats_done == 9) (access (vector_address n s.nvic) sizes.Word None) Inner))))) s)
    (sym (ap (λ (k : ℕ). k == 0) first)) (inr (none, taken))

legal_return : (f : Ask → ℕ) (v : ℕ) (s : State) → IsFormed s → s.work ≡ Some (works.Return v) → Legal (answered f (asks_return v s)) s
unfolding asks_return asks_beat return_beat
legal_return f v s h e = go (s.beats_done == 0) (is_bad v s) (locks_last v s) (nat_lt s.beats_done 9) refl refl refl
  where
    good : 1 ≤ s.beats_done → is_bad v s ≡ false
    good = subst (λ w. IsUnderWay w s) e h.progress

    go : (zero bad locks low : Bool) → (s.beats_done == 0) ≡ zero → is_bad v s ≡ bad → nat_lt s.beats_done 9 ≡ low
        → Legal (answered f (cond (zero && bad) (asks_fault s) (cond locks (stopped (why.Lockup s.number)) (in_beat (works.Return v) s (cond zero Inner (cond low (unstacking v (s.beats_done - 1) s.regs) Inner)))))) s
    go true true locks low z b l = legal_fault f s (ap is_entry e)
    go true false true low z b l = tt
    go true false false low z b l = (e, b)
    go false bad true low z b l = tt
    go false bad false true z b l = legal_going f (works.Return v) s ((return_frame v s.regs + 4 * (s.beats_done - 1)) % 2 ^ 32) sizes.Word None (e, positive_by s.beats_done z, ltb-true s.beats_done 9 l)
    go false bad false false z b l = (e, good (positive_by s.beats_done z))

legal_half : (f : Ask → ℕ) (address : ℕ) (s : State) (then : ℕ → Asking Act) → ((half : ℕ) → Legal (answered f (then half)) s) → Legal (answered f (asks_half address s then)) s
legal_half f address s then h =
    legal_either f s (is_ram address) (Question (Half address) (λ half. then (half % 2 ^ 16))) (stopped (why.Outside (master_of s.number) address)) (h (f (Half address) % 2 ^ 16)) tt

legal_decoded : (f : Ask → ℕ) (op : Op) (s : State) → is_entry s.work ≡ false → Legal (answered f (asks_decoded op s)) s
unfolding asks_decoded
legal_decoded f op s h =
    legal_either f s (is_breakpoint op) (stopped (why.Bkpt s.number)) _ tt
    (legal_either f s (is_faulty op s) (asks_fault s) (asks_beat (works.Instruction op) s) (legal_fault f s h) (legal_instruction f op s h))

legal_second : (f : Ask → ℕ) (first : ℕ) (s : State) → is_entry s.work ≡ false → Legal (answered f (asks_second first s)) s
unfolding asks_second
legal_second f first s h =
    legal_either f s (begins_long first) (asks_half ((s.regs.pc + 2) % 2 ^ 32) s (λ second. asks_decoded (operation_of first second) s)) (asks_decoded (operation_of first 0) s)
    (legal_half f ((s.regs.pc + 2) % 2 ^ 32) s (λ second. asks_decoded (operation_of first second) s) (λ second. legal_decoded f (operation_of first second) s h))
    (legal_decoded f (operation_of first 0) s h)

legal_first : (f : Ask → ℕ) (s : State) → is_entry s.work ≡ false → Legal (answered f (asks_first s)) s
unfolding asks_first
legal_first f s h = legal_half f s.regs.pc s (λ first. asks_second first s) (λ first. legal_second f first s h)

legal_taken : (f : Ask → ℕ) (s : State) (taken : Option ℕ) → IsFormed s → s.work ≡ None → taken_of s ≡ taken → Legal (answered f (asks_taken taken s)) s
legal_taken f s None h none e = legal_first f s (ap is_entry none)
legal_taken f s (Some n) h none e = legal_taken_first f n s none e (subst (λ w. IsUnderWay w s) none h.progress)

legal_boundary : (f : Ask → ℕ) (s : State) → IsFormed s → s.work ≡ None → Legal (answered f (asks_boundary s)) s
unfolding asks_boundary
legal_boundary f s h none = legal_taken f s (taken_of s) h none refl

legal_next : (f : Ask → ℕ) (s : State) (w : Option Work) → IsFormed s → s.work ≡ w → Legal (answered f (asks_next w s)) s
legal_next f s None h e = legal_boundary f s h e
legal_next f s (Some (works.Instruction op)) h e = legal_instruction f op s (ap is_entry e)
legal_next f s (Some (works.Entry n)) h e = legal_entry f n s e
legal_next f s (Some (works.Return v)) h e = legal_return f v s h e

legal_awake : (f : Ask → ℕ) (s : State) → IsFormed s → Legal (answered f (asks_awake s)) s
unfolding asks_awake
legal_awake f s h = legal_next f s s.work h refl

-- ---- an access waits

same_work : (w : Work) (s : State) → s.work ≡ Some w → s ≡ waiting w s
same_work w s e = ap (λ o. record s { work = o }) e

-- what has a beat goes on: registers and exceptions stay
goes_on : (w : Work) (k : ℕ) (read : List ℕ) (s : State) → IsFormed s → IsUnderWay (Some w) (record s { work = Some w; beats_done = k; read = read })
    → active_before s.work s.nvic ≡ active_before (Some w) s.nvic → KeepsSound s (record s { work = Some w; beats_done = k; read = read })
goes_on w k read s h way before = record {
  formed = record { registers = h.registers; active = h.active; numbered = h.numbered; progress = way };
  agrees = λ a fits. record { selection = a.selection; mode = a.mode ∙ ap (λ (x : ℕ). x == 0) before };
  again = λ n entry none. absurd (cc);
}

waits_going : (w : Work) (s : State) → IsFormed s → IsGoing w s → KeepsSound s (waiting w s)
waits_going (works.Instruction op) s h g = goes_on (works.Instruction op) s.beats_done s.read s h tt (before_plain s.work s.nvic g)
waits_going (works.Entry n) s h g = subst (λ t. KeepsSound s t) (same_work (works.Entry n) s g.0) (stays s h)
waits_going (works.Return v) s h g = subst (λ t. KeepsSound s t) (same_work (works.Return v) s g.0) (stays s h)

-- ---- an instruction

registers_kept : (r t : Regs) → Keeps r t → AreRegisters r → AreRegisters t
registers_kept r t k h = record {
  thirteen = k.thirteen ∙ h.thirteen;
  main = k.main h.main;
  process = k.process h.process;
  even = k.even h.even;
  number = subst (λ (i : ℕ). i < 2 ^ 6) (sym k.number) h.number;
}

returning_way : (o : Option ℕ) (t : State) → t.beats_done ≡ 0 → IsUnderWay (returning o) t
returning_way None t first = first
returning_way (Some v) t first = λ one. absurd (omega (arith, one, first))

before_returning : (o : Option ℕ) (e : Exceptions) → active_before (returning o) e ≡ e.active
before_returning None e = refl
before_returning (Some v) e = refl

ends_instruction : (op : Op) (read : Option ℕ) (s : State) → IsFormed s → is_entry s.work ≡ false → KeepsSound s (ended op (with_read read s))
unfolding ended
ends_instruction op read s h plain =
    let t = with_read read s in
    let k = keeps_effect op s.regs t.read in
    let l = leaves_called op s.nvic in
    let o = return_of op s.regs t.read in
    let thread : is_thread (effect_of op s.regs t.read) ≡ is_thread s.regs = ap (λ (i : ℕ). i == 0) k.number in
    record {
      formed = record {
        registers = registers_kept s.regs (effect_of op s.regs t.read) k h.registers;
        active = subst (λ (a : ℕ). a < 2 ^ 48) (sym l.active) h.active;
        numbered = l.numbered h.numbered;
        progress = returning_way o _ refl;
      };
      agrees = λ a fits. record {
        selection = λ handler. let same = sym thread ∙ handler in k.selection same ∙ a.selection same;
        mode = thread ∙ a.mode ∙ ap (λ (x : ℕ). x == 0) (before_plain s.work s.nvic plain ∙ sym l.active ∙ sym (before_returning o (called op s.nvic)));
      };
      again = λ n entry none. no_entry s.work n plain entry;
    }

passes_instruction : (op : Op) (read : Option ℕ) (s : State) → IsFormed s → is_entry s.work ≡ false → KeepsSound s (passed (works.Instruction op) read s)
unfolding passed passed_instruction
passes_instruction op read s h plain =
    either_keeps (nat_lt (s.beats_done + 1) (length (beats_of op s.regs))) s (followed (works.Instruction op) (with_read read s)) (ended op (with_read read s))
    (goes_on (works.Instruction op) (s.beats_done + 1) (with_value s.read read) s h tt (before_plain s.work s.nvic plain)) (ends_instruction op read s h plain)

-- ---- an entry

ends_entry : (n : ℕ) (read : Option ℕ) (s : State) → IsFormed s → s.work ≡ Some (works.Entry n) → KeepsSound s (entry_ended n (with_read read s))
unfolding entry_ended
ends_entry n read s h e =
    let way : IsUnderWay (Some (works.Entry n)) s = subst (λ w. IsUnderWay w s) e h.progress in
    let vector = slice_index (with_read read s).read 0 in
    let k = sp_set s.regs (entry_frame s.regs) in
    let agreed : Agrees (entry_ended n (with_read read s)) = record {
      selection = λ handler. refl;
      mode = not_zero n way.1 ∙ sym (not_zero s.nvic.active (member_positive n s.nvic.active way.3));
    } in
    record {
      formed = record {
        registers = record {
          thirteen = k.thirteen ∙ h.registers.thirteen;
          main = k.main h.registers.main;
          process = k.process h.registers.process;
          even = halves vector;
          number = omega (arith, way.2);
        };
        active = h.active;
        numbered = h.numbered;
        progress = refl;
      };
      agrees = λ a fits. agreed;
      again = λ m entry none. agreed;
    }

first_done : (n : ℕ) (s : State) → 1 ≤ s.beats_done → taken_first n s ≡ s
unfolding taken_first
first_done n s one = ap (λ b. cond b (record s { nvic = entered n s.nvic }) s) (not_zero s.beats_done one)

goes_entry : (n : ℕ) (read : Option ℕ) (s : State) → IsFormed s → s.work ≡ Some (works.Entry n) → KeepsSound s (passed (works.Entry n) read s)
unfolding passed passed_entry
goes_entry n read s h e =
    let way : IsUnderWay (Some (works.Entry n)) s = subst (λ w. IsUnderWay w s) e h.progress in
    let t = with_read read s in
    subst (λ u. KeepsSound s (cond (nat_lt (u.beats_done + 1) 15) (followed (works.Entry n) u) (entry_ended n u))) (sym (first_done n t way.0))
    (either_keeps (nat_lt (s.beats_done + 1) 15) s (followed (works.Entry n) t) (entry_ended n t) (goes_on (works.Entry n) (s.beats_done + 1) (with_value s.read read) s h (omega arith, way.1, way.2, way.3) (ap (λ w. active_before w s.nvic) e)) (ends_entry n read s h e))

takes_entry : (n : ℕ) (s : State) → IsFormed s → s.work ≡ None → taken_of s ≡ Some n
    → KeepsSound s (record s { nvic = entered n s.nvic; work = Some (works.Entry n); beats_done = s.beats_done + 1 })
takes_entry n s h none taken =
    let fresh = fresh_of n s taken in
    let one : 2 ^ n < 2 ^ 48 = pow-lt fresh.within in
    record {
      formed = record {
        registers = h.registers;
        active = subst (λ (a : ℕ). a < 2 ^ 48) (sym (entered_active n s.nvic fresh.within)) (or_lt 48 s.nvic.active (2 ^ n) h.active one);
        numbered = ap (is_member 0) (entered_enabled n s.nvic) ∙ h.numbered;
        progress = (omega arith, taken_numbered n s taken h.numbered, fresh.within, member_entered n s.nvic fresh.within);
      };
      agrees = λ a fits. record {
        selection = a.selection;
        mode = a.mode ∙ ap (λ w. active_before w s.nvic == 0) none ∙ ap (λ (x : ℕ). x == 0) (sym (left_entered n s h.active fresh));
      };
      again = λ m entry gone. absurd (cc);
    }

begins_entry : (n : ℕ) (s : State) → IsFormed s → s.work ≡ None → taken_of s ≡ Some n → KeepsSound s (passed (works.Entry n) None s)
unfolding passed passed_entry taken_first
begins_entry n s h none taken =
    let first : s.beats_done ≡ 0 = subst (λ w. IsUnderWay w s) none h.progress in
    let at : (s.beats_done == 0) ≡ true = ap (λ (k : ℕ). k == 0) first in
    let more : nat_lt (s.beats_done + 1) 15 ≡ true = ap (λ (k : ℕ). nat_lt (k + 1) 15) first in
    subst (λ b. KeepsSound s (let u = cond b (record s { nvic = entered n s.nvic }) s in cond (nat_lt (u.beats_done + 1) 15) (followed (works.Entry n) u) (entry_ended n u))) (sym at)
    (subst (λ b. KeepsSound s (cond b (record s { nvic = entered n s.nvic; work = Some (works.Entry n); beats_done = s.beats_done + 1 }) (entry_ended n (record s { nvic = entered n s.nvic })))) (sym more)
    (takes_entry n s h none taken))

-- ---- a return

follows_return : (v : ℕ) (read : Option ℕ) (s : State) → IsFormed s → s.work ≡ Some (works.Return v) → is_bad v s ≡ false → KeepsSound s (followed (works.Return v) (with_read read s))
follows_return v read s h e good =
    let t = followed (works.Return v) (with_read read s) in
    goes_on (works.Return v) (s.beats_done + 1) (with_value s.read read) s h (λ one. bad_same v s t refl refl ∙ good) (ap (λ w. active_before w s.nvic) e)

goes_return : (v : ℕ) (read : Option ℕ) (s : State) → IsFormed s → s.work ≡ Some (works.Return v) → 1 ≤ s.beats_done → s.beats_done < 9 → KeepsSound s (passed (works.Return v) read s)
unfolding passed passed_return
goes_return v read s h e one low =
    let good : 1 ≤ s.beats_done → is_bad v s ≡ false = subst (λ w. IsUnderWay w s) e h.progress in
    subst (λ b. KeepsSound s (cond b (followed (works.Return v) (with_read read s)) (return_ended v (with_read read s)))) (sym (lt-ltb (s.beats_done + 1) 13 (omega (arith, low))))
    (follows_return v read s h e (good one))

-- the stack behind a frame
by_four : (x : ℕ) → x % 2 ^ 2 ≡ 0 → x / 4 * 4 ≡ x
by_four x h = omega (arith, h)

behind : (frame xpsr : ℕ) → frame / 4 * 4 ≡ frame → stack_after frame xpsr / 4 * 4 ≡ stack_after frame xpsr
behind frame xpsr h = go (has_bit xpsr 9)
  where
    low : (frame + 32) % 2 ^ 32 % 2 ^ 2 ≡ 0
    low = omega (arith, h)

    go : (b : Bool) → cond b (bit_or ((frame + 32) % 2 ^ 32) 4) ((frame + 32) % 2 ^ 32) / 4 * 4 ≡ cond b (bit_or ((frame + 32) % 2 ^ 32) 4) ((frame + 32) % 2 ^ 32)
    go true = by_four (bit_or ((frame + 32) % 2 ^ 32) 4) (or_mod ((frame + 32) % 2 ^ 32) 4 2 ∙ ap (λ (x : ℕ). bit_or x 0) low)
    go false = by_four ((frame + 32) % 2 ^ 32) low

back_registers : (v : ℕ) (words : List ℕ) (r : Regs) → AreRegisters r → AreRegisters (with_return v words r)
unfolding with_return
back_registers v words r h = go (is_to_process v)
  where
    xpsr : ℕ
    xpsr = slice_index words 7

    go : (b : Bool) → AreRegisters (let sp = stack_after (cond b r.psp r.msp) xpsr in cond b (record (with_frame v words r) { psp = sp }) (record (with_frame v words r) { msp = sp }))
    go true = record {
      thirteen = five_length words r.r ∙ h.thirteen;
      main = h.main;
      process = behind r.psp xpsr h.process;
      even = halves (slice_index words 6);
      number = omega arith;
    }
    go false = record {
      thirteen = five_length words r.r ∙ h.thirteen;
      main = behind r.msp xpsr h.main;
      process = h.process;
      even = halves (slice_index words 6);
      number = omega arith;
    }

back_number : (v : ℕ) (words : List ℕ) (r : Regs) → (with_return v words r).ipsr ≡ stacked_number (slice_index words 7)
unfolding with_return
back_number v words r = cond_both (is_to_process v) _ _ (λ (t : Regs). t.ipsr ≡ stacked_number (slice_index words 7)) (λ h. refl) (λ h. refl)

back_selection : (v : ℕ) (words : List ℕ) (r : Regs) → (with_return v words r).spsel ≡ is_to_process v
unfolding with_return
back_selection v words r = cond_both (is_to_process v) _ _ (λ (t : Regs). t.spsel ≡ is_to_process v) (λ h. refl) (λ h. refl)

-- the value and the frame fit, so mode and active exceptions agree
modes_agree : (to_handler to_thread alone nought : Bool) → cond to_handler alone (cond to_thread (not alone) true) ≡ false → cond to_handler nought (not nought) ≡ false → nought ≡ alone
modes_agree true to_thread alone nought good fits = fits ∙ sym good
modes_agree false true alone true good fits = sym (not-false alone good)
modes_agree false true alone false good fits = absurd (true≢false fits)
modes_agree false false alone nought good fits = absurd (true≢false good)

handler_not_process : (v : ℕ) (to_handler nought : Bool) → is_to_handler v ≡ to_handler → cond to_handler nought (not nought) ≡ false → nought ≡ false → is_to_process v ≡ false
handler_not_process v true nought h fits z = ap (λ (x : ℕ). x == TO_PROCESS) (eqb-true v TO_HANDLER h)
handler_not_process v false true h fits z = absurd (true≢false z)
handler_not_process v false false h fits z = absurd (true≢false fits)

ends_return : (v : ℕ) (s : State) → IsFormed s → s.work ≡ Some (works.Return v) → is_bad v s ≡ false → 13 ≤ s.beats_done + 1 → KeepsSound s (return_ended v s)
unfolding return_ended after_return is_bad is_alone
ends_return v s h e good last =
    let xpsr = slice_index s.read 7 in
    let out = left s.regs.ipsr s.nvic in
    let l = leaves_either (is_misfit v xpsr) out (pended HARDFAULT out) out (leaves_pended HARDFAULT out) (leaves_self out) in
    let number = back_number v s.read s.regs in
    record {
      formed = record {
        registers = back_registers v s.read s.regs h.registers;
        active = subst (λ (a : ℕ). a < 2 ^ 48) (sym l.active) (left_fits s.regs.ipsr s.nvic h.active);
        numbered = l.numbered (ap (is_member 0) (left_enabled s.regs.ipsr s.nvic) ∙ h.numbered);
        progress = refl;
      };
      agrees = λ a frame.
          let on : FrameFits (Some (works.Return v)) s = subst (λ w. FrameFits w s) e frame in
          let fits : is_misfit v xpsr ≡ false = on last in
          let nought = stacked_number xpsr == 0 in
          record {
            selection = λ handler. back_selection v s.read s.regs ∙ handler_not_process v (is_to_handler v) nought refl fits (sym (ap (λ (i : ℕ). i == 0) number) ∙ handler);
            mode = ap (λ (i : ℕ). i == 0) number ∙ modes_agree (is_to_handler v) (is_to_thread v) (out.active == 0) nought good fits ∙ ap (λ (x : ℕ). x == 0) (sym l.active);
          };
      again = λ n entry none. no_entry s.work n (ap is_entry e) entry;
    }

begins_return : (v : ℕ) (s : State) → IsFormed s → s.work ≡ Some (works.Return v) → is_bad v s ≡ false → KeepsSound s (passed (works.Return v) None s)
unfolding passed passed_return
begins_return v s h e good = go (nat_lt (s.beats_done + 1) 13) refl
  where
    go : (b : Bool) → nat_lt (s.beats_done + 1) 13 ≡ b → KeepsSound s (cond b (followed (works.Return v) s) (return_ended v s))
    go true q = follows_return v None s h e good
    go false q = ends_return v s h e good (ltb-false (s.beats_done + 1) 13 q)

-- ---- a cycle

passes_going : (w : Work) (read : Option ℕ) (s : State) → IsFormed s → IsGoing w s → KeepsSound s (passed w read s)
passes_going (works.Instruction op) read s h g = passes_instruction op read s h g
passes_going (works.Entry n) read s h g = goes_entry n read s h g.0
passes_going (works.Return v) read s h g = goes_return v read s h g.0 g.1 g.2

after_beginning : (w : Work) (s : State) → IsFormed s → IsBeginning w s → KeepsSound s (after_inner w s)
unfolding after_inner
after_beginning (works.Instruction op) s h g =
    either_keeps (is_paused (works.Instruction op) s) s (waiting (works.Instruction op) s) (passed (works.Instruction op) None s) (goes_on (works.Instruction op) s.beats_done s.read s h tt (before_plain s.work s.nvic g)) (passes_instruction op None s h g)
after_beginning (works.Entry n) s h (inl e) = goes_entry n None s h e
after_beginning (works.Entry n) s h (inr g) = begins_entry n s h g.0 g.1
after_beginning (works.Return v) s h g = begins_return v s h g.0 g.1

accesses : (word : Option ℕ) (w : Work) (read : Option ℕ) (s : State) → IsFormed s → IsGoing w s → KeepsSound s (after_access word w read s)
accesses None w read s h g = waits_going w s h g
accesses (Some word) w read s h g = passes_going w read s h g

goes_outward : (word : Option ℕ) (w : Work) (request : Request) (s : State) → IsFormed s → IsGoing w s → KeepsSound s (after_outward word w request s)
goes_outward None w request s h g = waits_going w s h g
goes_outward (Some word) w request s h g = passes_going w (value_of request request.write word) s h g

going_nvic : (w : Work) (s : State) (e : Exceptions) → IsGoing w s → IsGoing w (record s { nvic = e })
going_nvic (works.Instruction op) s e g = g
going_nvic _ s e g = g

goes_private : (w : Work) (request : Request) (offset : ℕ) (s : State) → IsFormed s → IsGoing w s → KeepsSound s (after_private w request offset s)
unfolding after_private
goes_private w request offset s h g =
    let e = words.effect_of offset (word_written request.size request.write) s.nvic in
    let l = leaves_effect offset (word_written request.size request.write) s.nvic in
    let value = private_value request request.write offset s in
    keeps_from s (passed w value (record s { nvic = e })) e l
    (passes_going w value (record s { nvic = e }) (formed_nvic s e s.event s.offer l h) (going_nvic w s e g))

faults : (s : State) → IsFormed s → is_entry s.work ≡ false → KeepsSound s (faulted s)
unfolding faulted
faults s h plain =
    let l = leaves_pended HARDFAULT s.nvic in
    record {
      formed = record {
        registers = h.registers;
        active = subst (λ (a : ℕ). a < 2 ^ 48) (sym l.active) h.active;
        numbered = l.numbered h.numbered;
        progress = refl;
      };
      agrees = λ a fits. record {
        selection = a.selection;
        mode = a.mode ∙ ap (λ (x : ℕ). x == 0) (before_plain s.work s.nvic plain ∙ sym l.active);
      };
      again = λ n entry none. no_entry s.work n plain entry;
    }

acts : (a : Act) (s : State) (lines cycle : ℕ) (turns : List Turn) → IsFormed s → Legal a s → KeepsSound s (next s (ends_with lines cycle a) turns)
unfolding next
acts act.Asleep s lines cycle turns h g = stays s h
acts (act.Stopped cause) s lines cycle turns h g = stays s h
acts act.Fault s lines cycle turns h g = closed_keeps lines cycle s _ (faults s h g)
acts (act.Inner w) s lines cycle turns h g = closed_keeps lines cycle s _ (after_beginning w s h g)
acts (act.Read w request word) s lines cycle turns h g = closed_keeps lines cycle s _ (accesses (done_word (slice_get turns 0)) w _ s h g)
acts (act.Write w request) s lines cycle turns h g = closed_keeps lines cycle s _ (accesses (done_word (slice_get turns 0)) w None s h g)
acts (act.Outward w request) s lines cycle turns h g = closed_keeps lines cycle s _ (goes_outward (done_word (slice_get turns 0)) w request s h g)
acts (act.Private w request offset) s lines cycle turns h g = closed_keeps lines cycle s _ (goes_private w request offset s h g)

each_cycle : (s : State) (cycle : ℕ) (f : Ask → ℕ) (turns : List Turn) → IsFormed s → KeepsSound s (next s (answered f (asks s cycle)) turns)
unfolding asks
each_cycle s cycle f turns h = go s.asleep refl
  where
    go : (b : Bool) → s.asleep ≡ b → KeepsSound s (next s (answered f (asks s cycle)) turns)
    go true e =
        subst (λ d. KeepsSound s (next s d turns))
        (sym (ap (λ b. answered f (cond b (Ready (ends_with 0 cycle act.Asleep)) (Question Lines (λ lines. carried (lines % 2 ^ 32) cycle (asks_awake s))))) e))
        (acts act.Asleep s 0 cycle turns h tt)
    go false e =
        subst (λ d. KeepsSound s (next s d turns)) (sym (begun_from f cycle s e))
        (acts (answered f (asks_awake s)) s (f Lines % 2 ^ 32) cycle turns h (legal_awake f s h))

-- ---- the law

pub a_core_stays_sound : ACoreStaysSound
a_core_stays_sound = record {
  asleep = λ number. record {
    formed = record {
      registers = record { thirteen = refl; main = refl; process = refl; even = refl; number = omega arith };
      active = omega arith;
      numbered = refl;
      progress = refl;
    };
    agrees = record { selection = λ h. refl; mode = refl };
  };
  awake = λ vtor sp entry s. record {
    formed = record {
      registers = record { thirteen = refl; main = quarters sp; process = refl; even = halves entry; number = omega arith };
      active = omega arith;
      numbered = refl;
      progress = refl;
    };
    agrees = record { selection = λ h. refl; mode = refl };
  };
  told = λ s event offer h. record {
    formed = formed_nvic s s.nvic event offer (leaves_self s.nvic) h.formed;
    agrees = agrees_nvic s s.nvic event offer (leaves_self s.nvic) h.agrees;
  };
  cycle = each_cycle;
}
