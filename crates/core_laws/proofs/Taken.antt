-- What is taken, what a fault leaves, and when WFI moves on.
use Rattle.std.proofs.Common.{◌≡◌, ℕ, ◌+◌, ◌^◌, ◌==◌, ◌&&◌, ◌||◌, not, Bool, true, false, cond, List, [], ◌∷◌, length, refl, sym, ap, ap₂, subst, ◌<◌, ◌∙◌, inl, inr, ◌⊎◌, ℤ, pos, negsuc, arith, true≢false, Option, Some, None}
use Rattle.core_laws.proofs.Shared.{Beat, slice_get, slice_index, int_lt, bit_and, bit_or, nat_lt, max, min, bit_at, int_min, bit_at_or, bit_at_and, bit_at-lt, nat_tests, Op, has_bit, Regs, Inner, beats_of, return_of, Exceptions, is_member, members, pended, with_pending, rank_of, precedes, nearer, least, least_of, IsLeast, best_of, rank_or_none, active_priority, priority_of, comes_before, wakes_of, answered, Ready, Work, stopped, asks_awake, asks_next, asks_boundary, asks_taken, asks_decoded, asks_fault, asks_beat, ends_with, is_faulty, is_locked, taken_of, waiting, followed, ended, passed, passed_instruction, after_inner, faulted, closed, returning, State, Given, lines_in, after_cycle, IsAtBoundary, IsFetched, candidates, comes_in, WhatIsTakenIsTheLeast, Faults, OnlyPendsHardFault, AFaultPendsHardFaultAlone, IsInWfi, StaysInWfi, LeavesWfi, AWfiMovesOnWhereAnExceptionWakes, both_ways, or_parts, eqb-true}
use Rattle.std.specs.Ordering.{int_eq}
use Rattle.std.proofs.lemmas.Int.{ints}
use Rattle.rp_base.specs.declared.op.Op.TheVariants as op
use Rattle.rp_base.specs.declared.Why.TheVariants as why
use Rattle.m0_nvic.specs.Cycle as nvic
use Rattle.m0_nvic.proofs.Least.{least_of-is}
use Rattle.m0_core.specs.declared.doing.Act.TheVariants as act
use Rattle.m0_core.specs.declared.doing.Work.TheVariants as works
use Rattle.core_laws.proofs.Cycles.{begun_awake, begun_beat, after_begun}
use Rattle.core_laws.proofs.TakesBeats.{begins_on, begins_at, begins_first}

-- ---- what is taken

not_below : (a b c : ℤ) → int_lt a b ≡ false → int_lt b c ≡ false → int_lt a c ≡ false
not_below a b c h i = grind (arith, ints, nat_tests)

-- what is taken of a best exception
record Taken (s : State) (o : Option ℕ) (taken : Option ℕ) : Type 0 where
  some : (n : ℕ) → taken ≡ Some n → IsLeast s.nvic (candidates s) (Some n) × (comes_in s n ≡ true)
  none : taken ≡ None → (n : ℕ) → is_member n (candidates s) ≡ true → comes_in s n ≡ false

taken_best : (s : State) (m : ℕ) (b : Bool) → comes_in s m ≡ b → IsLeast s.nvic (candidates s) (Some m) → Taken s (Some m) (cond b (Some m) None)
taken_best s m true e h = record {
  some = λ n q. subst (λ k. IsLeast s.nvic (candidates s) (Some k) × (comes_in s k ≡ true)) (cc) (h, e);
  none = λ q. absurd (cc);
}
taken_best s m false e h = record {
  some = λ n q. absurd (cc);
  none = λ q n member. not_below (rank_of s.nvic n) (rank_of s.nvic m) _ (or_parts (int_lt (rank_of s.nvic n) (rank_of s.nvic m)) _ (h.1 n member)).0 e;
}

taken_least : (s : State) (o : Option ℕ) → IsLeast s.nvic (candidates s) o → Taken s o (cond (comes_before s.nvic (priority_of s.nvic s.regs.primask) o) o None)
taken_least s None h = record {
  some = λ n q. absurd (cc);
  none = λ q n member. absurd (both_ways (is_member n (candidates s)) (h n) member);
}
taken_least s (Some m) h = taken_best s m (comes_in s m) refl h

pub what_is_taken_is_the_least : WhatIsTakenIsTheLeast
unfolding taken_of
what_is_taken_is_the_least s =
    let h = taken_least s (best_of s.nvic) (least_of-is s.nvic (candidates s)) in
    record { taken = h.some; untaken = h.none }

-- ---- bits

below_two : (x : ℕ) → x < 2 → (x ≡ 0) ⊎ (x ≡ 1)
below_two x h = grind arith

one_left : (x : ℕ) → x < 2 → (max 1 x == 1) ≡ true
one_left x h = elim (below_two x h) [ inl e ↦ rw e refl | inr e ↦ rw e refl ]

one_right : (x : ℕ) → x < 2 → (max x 1 == 1) ≡ true
one_right x h = elim (below_two x h) [ inl e ↦ rw e refl | inr e ↦ rw e refl ]

bit_left : (a b k : ℕ) → has_bit a k ≡ true → has_bit (bit_or a b) k ≡ true
bit_left a b k h =
    ap (λ x. x == 1) (bit_at_or a b k ∙ ap (λ x. max x (bit_at b k)) (eqb-true (bit_at a k) 1 h)) ∙ one_left (bit_at b k) (bit_at-lt b k)

bit_right : (a b k : ℕ) → has_bit b k ≡ true → has_bit (bit_or a b) k ≡ true
bit_right a b k h =
    ap (λ x. x == 1) (bit_at_or a b k ∙ ap (λ x. max (bit_at a k) x) (eqb-true (bit_at b k) 1 h)) ∙ one_right (bit_at a k) (bit_at-lt a k)

bit_both : (a b k : ℕ) → has_bit a k ≡ true → has_bit b k ≡ true → has_bit (bit_and a b) k ≡ true
bit_both a b k h i =
    ap (λ x. x == 1) (bit_at_and a b k ∙ ap₂ (λ x y. min x y) (eqb-true (bit_at a k) 1 h) (eqb-true (bit_at b k) 1 i))

-- ---- what the end of a cycle keeps of the exceptions

pub record Keeps (e f : Exceptions) : Type 0 where
  pub active : f.active ≡ e.active
  pub enabled : f.enabled ≡ e.enabled
  pub priorities : f.priorities ≡ e.priorities
  pub vtor : f.vtor ≡ e.vtor
  pub pending : (n : ℕ) → has_bit e.pending n ≡ true → has_bit f.pending n ≡ true

keeps_pended : (n : ℕ) (b : Bool) (e : Exceptions) → Keeps e (cond b (with_pending (2 ^ n) e) e)
keeps_pended n true e = record { active = refl; enabled = refl; priorities = refl; vtor = refl; pending = λ k h. bit_left e.pending (2 ^ n) k h }
keeps_pended n false e = record { active = refl; enabled = refl; priorities = refl; vtor = refl; pending = λ k h. h }

keeps_timer : (cycle : ℕ) (e : Exceptions) → Keeps e (nvic.after_timer cycle e)
keeps_timer cycle e =
    let k = keeps_pended 15 (nvic.timer_pends cycle e.systick) (nvic.with_timer (nvic.timer_after cycle e.systick) e) in
    record { active = k.active; enabled = k.enabled; priorities = k.priorities; vtor = k.vtor; pending = k.pending }

pub keeps_cycle : (lines cycle : ℕ) (e : Exceptions) → Keeps e (nvic.after_cycle lines cycle e)
keeps_cycle lines cycle e =
    let k = keeps_timer cycle e in
    let f = nvic.after_timer cycle e in
    record {
      active = k.active;
      enabled = k.enabled;
      priorities = k.priorities;
      vtor = k.vtor;
      pending = λ n h. bit_left f.pending (nvic.risen lines f) n (k.pending n h);
    }

-- ---- priorities alike

rank_alike : (e f : Exceptions) → f.priorities ≡ e.priorities → (n : ℕ) → rank_of f n ≡ rank_of e n
rank_alike e f p n = ap (λ ps. cond (n == 2) (negsuc 1) (cond (n == 3) (negsuc 0) (pos (slice_index ps n)))) p

precedes_alike : (e f : Exceptions) → f.priorities ≡ e.priorities → (n m : ℕ) → precedes f n m ≡ precedes e n m
precedes_alike e f p n m =
    ap₂ (λ a b. int_lt a b || (int_eq a b && nat_lt n m)) (rank_alike e f p n) (rank_alike e f p m)

nearer_alike : (e f : Exceptions) → f.priorities ≡ e.priorities → (n : ℕ) (o : Option ℕ) → nearer f n o ≡ nearer e n o
nearer_alike e f p n None = refl
nearer_alike e f p n (Some m) = ap (λ b. cond b (Some m) (Some n)) (precedes_alike e f p m n)

least_alike : (e f : Exceptions) → f.priorities ≡ e.priorities → (ns : List ℕ) → least f ns ≡ least e ns
least_alike e f p [] = refl
least_alike e f p (n ∷ ns) = ap (nearer f n) (least_alike e f p ns) ∙ nearer_alike e f p n (least e ns)

rank_or_none_alike : (e f : Exceptions) → f.priorities ≡ e.priorities → (o : Option ℕ) → rank_or_none f o ≡ rank_or_none e o
rank_or_none_alike e f p None = refl
rank_or_none_alike e f p (Some n) = rank_alike e f p n

active_alike : (e f : Exceptions) → f.priorities ≡ e.priorities → f.active ≡ e.active → active_priority f ≡ active_priority e
unfolding least_of
active_alike e f p a =
    ap (λ set. rank_or_none f (least_of f set)) a
    ∙ ap (rank_or_none f) (least_alike e f p (members e.active))
    ∙ rank_or_none_alike e f p (least_of e e.active)

priority_alike : (e f : Exceptions) (primask : Bool) → Keeps e f → priority_of f primask ≡ priority_of e primask
priority_alike e f primask k =
    ap (λ a. cond primask (int_min a (pos 0)) a) (active_alike e f k.priorities k.active)

-- ---- HardFault comes first, but for NMI

equal_or_not : (m k : ℕ) → (m ≡ k) ⊎ ((m == k) ≡ false)
equal_or_not m k = grind (arith, nat_tests)

first_but_two : (f : Exceptions) (m : ℕ) → (m == 2) ≡ false → (m == 3) ≡ false → precedes f 3 m ≡ true
first_but_two f m two three =
    ap₂ (λ a b. int_lt (negsuc 0) (cond a (negsuc 1) (cond b (negsuc 0) (pos (slice_index f.priorities m)))) || (int_eq (negsuc 0) (cond a (negsuc 1) (cond b (negsuc 0) (pos (slice_index f.priorities m)))) && nat_lt 3 m)) two three

two_or_three : (f : Exceptions) (m : ℕ) → precedes f 3 m ≡ false → (m ≡ 3) ⊎ (m ≡ 2)
two_or_three f m h =
    elim (equal_or_not m 2) [
      | inl two ↦ inr two
      | inr other ↦ elim (equal_or_not m 3) [
        | inl three ↦ inl three
        | inr more ↦ absurd (both_ways (precedes f 3 m) h (first_but_two f m other more))
      ]
    ]

above_one : (p : ℤ) → int_lt p (pos 0) ≡ false → int_lt (negsuc 0) p ≡ true
above_one (pos k) h = refl
above_one (negsuc k) h = absurd (true≢false h)

above_two : (p : ℤ) → int_lt p (pos 0) ≡ false → int_lt (negsuc 1) p ≡ true
above_two (pos k) h = refl
above_two (negsuc k) h = absurd (true≢false h)

fault_taken : (f : Exceptions) (p : ℤ) (set : ℕ) (o : Option ℕ) → IsLeast f set o → is_member 3 set ≡ true → int_lt p (pos 0) ≡ false
    → (cond (comes_before f p o) o None ≡ Some 3) ⊎ (cond (comes_before f p o) o None ≡ Some 2)
fault_taken f p set None h member unlocked = absurd (both_ways (is_member 3 set) (h 3) member)
fault_taken f p set (Some m) h member unlocked =
    elim (two_or_three f m (h.1 3 member)) [
      | inl e ↦ inl (ap (λ k. cond (int_lt (rank_of f k) p) (Some k) None) e ∙ ap (λ b. cond b (Some 3) None) (above_one p unlocked))
      | inr e ↦ inr (ap (λ k. cond (int_lt (rank_of f k) p) (Some k) None) e ∙ ap (λ b. cond b (Some 2) None) (above_two p unlocked))
    ]

-- ---- faults

begins_fault : (op : Op) (g : Given) (s : State) → IsAtBoundary s → IsFetched g.answers s.regs.pc op → Faults op s → answered g.answers (asks_awake s) ≡ act.Fault
unfolding asks_awake asks_boundary asks_decoded
begins_fault op g s at fetched f =
    ap (λ w. answered g.answers (asks_next w s)) at.between
    ∙ ap (λ t. answered g.answers (asks_taken t s)) at.untaken
    ∙ begins_first op g s fetched
    ∙ ap (λ b. answered g.answers (cond b (stopped (why.Bkpt s.number)) (cond (is_faulty op s) (asks_fault s) (asks_beat (works.Instruction op) s)))) f.unbroken
    ∙ ap (λ b. answered g.answers (cond b (asks_fault s) (asks_beat (works.Instruction op) s))) f.faulty
    ∙ ap (λ b. answered g.answers (cond b (stopped (why.Lockup s.number)) (Ready act.Fault))) f.unlocked

taken_after : (g : Given) (cycle : ℕ) (s : State) → is_locked s ≡ false → is_member 3 s.nvic.enabled ≡ true
    → (taken_of (closed (lines_in g) cycle (faulted s)) ≡ Some 3) ⊎ (taken_of (closed (lines_in g) cycle (faulted s)) ≡ Some 2)
unfolding is_locked taken_of closed faulted
taken_after g cycle s unlocked enabled =
    let e = pended 3 s.nvic in
    let f = nvic.after_cycle (lines_in g) cycle e in
    let k = keeps_cycle (lines_in g) cycle e in
    let pending : has_bit f.pending 3 ≡ true = k.pending 3 (bit_right s.nvic.pending (2 ^ 3) 3 refl) in
    let on : has_bit f.enabled 3 ≡ true = ap (λ w. has_bit w 3) k.enabled ∙ enabled in
    let same : priority_of f s.regs.primask ≡ priority_of s.nvic s.regs.primask = priority_alike e f s.regs.primask k ∙ priority_alike s.nvic e s.regs.primask (keeps_pended 3 true s.nvic) in
    fault_taken f (priority_of f s.regs.primask) (bit_and f.pending f.enabled) (best_of f) (least_of-is f (bit_and f.pending f.enabled))
    (bit_both f.pending f.enabled 3 pending on) (ap (λ p. int_lt p (pos 0)) same ∙ unlocked)

pub fault_leaves : (g : Given) (cycle : ℕ) (s : State) → s.asleep ≡ false → is_locked s ≡ false → OnlyPendsHardFault cycle g s (closed (lines_in g) cycle (faulted s))
unfolding closed faulted
fault_leaves g cycle s awake unlocked = record {
  awake = awake;
  kept = refl;
  between = refl;
  first = refl;
  fresh = refl;
  exceptions = refl;
  event = refl;
  then_taken = taken_after g cycle s unlocked;
}

pub a_fault_pends_hardfault_alone : AFaultPendsHardFaultAlone
a_fault_pends_hardfault_alone op s cycle g at fetched f =
    let begun = begun_awake g cycle s at.awake ∙ ap (ends_with (lines_in g) cycle) (begins_fault op g s at fetched f) in
    subst (λ t. OnlyPendsHardFault cycle g s t) (sym (after_begun g cycle s act.Fault begun)) (fault_leaves g cycle s at.awake f.unlocked)

-- ---- WFI

abbrev wfi : Work
wfi = works.Instruction op.Wfi

-- an instruction of two inner beats, in the second one
module _ (o : Op) (two : (r : Regs) → beats_of o r ≡ Inner ∷ Inner ∷ []) where
  pub cycle_in_second : (g : Given) (cycle : ℕ) (s : State) → s.asleep ≡ false → s.work ≡ Some (works.Instruction o) → s.beats_done ≡ 1
      → after_cycle cycle g s ≡ closed (lines_in g) cycle (after_inner (works.Instruction o) s)
  cycle_in_second g cycle s awake waits second =
      let at : slice_get (beats_of o s.regs) s.beats_done ≡ Some Inner = ap₂ (λ bs (k : ℕ). slice_get bs k) (two s.regs) second in
      after_begun g cycle s (act.Inner (works.Instruction o)) (begun_beat (works.Instruction o) Inner g cycle s awake (begins_at o g s Inner (begins_on o g s waits) at))

  pub passed_second : (s : State) → s.beats_done ≡ 1 → passed (works.Instruction o) None s ≡ ended o s
  unfolding passed passed_instruction
  passed_second s second =
      ap₂ (λ (k : ℕ) (bs : List Beat). cond (nat_lt (k + 1) (length bs)) (followed (works.Instruction o) s) (ended o s)) second (two s.regs)

wfi_beats : (r : Regs) → beats_of op.Wfi r ≡ Inner ∷ Inner ∷ []
unfolding beats_of
wfi_beats r = refl

no_return : (r : Regs) (read : List ℕ) → return_of op.Wfi r read ≡ None
unfolding return_of
no_return r read = refl

paused_by : (s : State) (woken : Bool) → IsInWfi s → wakes_of s.nvic ≡ woken → after_inner wfi s ≡ cond (not woken) (waiting wfi s) (passed wfi None s)
unfolding after_inner
paused_by s woken in_wfi e =
    ap₂ (λ (k : ℕ) w. cond ((k == 1) && not w) (waiting wfi s) (passed wfi None s)) in_wfi.second e

leaves : (g : Given) (cycle : ℕ) (s : State) → IsInWfi s → LeavesWfi cycle g s (closed (lines_in g) cycle (ended op.Wfi s))
unfolding closed ended
leaves g cycle s in_wfi = record {
  awake = in_wfi.awake;
  moved = refl;
  between = ap returning (no_return s.regs s.read);
  first = refl;
  fresh = refl;
  exceptions = refl;
}

stays : (g : Given) (cycle : ℕ) (s : State) → IsInWfi s → StaysInWfi cycle g s (closed (lines_in g) cycle (waiting wfi s))
unfolding closed
stays g cycle s in_wfi = record {
  in_wfi = record { awake = in_wfi.awake; waits = refl; second = in_wfi.second };
  kept = refl;
  exceptions = refl;
}

pub a_wfi_moves_on_where_an_exception_wakes : AWfiMovesOnWhereAnExceptionWakes
a_wfi_moves_on_where_an_exception_wakes s cycle g in_wfi =
    let path = cycle_in_second op.Wfi wfi_beats g cycle s in_wfi.awake in_wfi.waits in_wfi.second in (
      λ woken. subst (λ t. LeavesWfi cycle g s t)
          (sym (path ∙ ap (closed (lines_in g) cycle) (paused_by s true in_wfi woken ∙ passed_second op.Wfi wfi_beats s in_wfi.second))) (leaves g cycle s in_wfi),
      λ asleep. subst (λ t. StaysInWfi cycle g s t)
          (sym (path ∙ ap (closed (lines_in g) cycle) (paused_by s false in_wfi asleep))) (stays g cycle s in_wfi),
    )
