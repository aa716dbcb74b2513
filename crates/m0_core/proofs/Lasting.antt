-- A core that is asleep, or in WFI or WFE while nothing wakes it, cycle after cycle.
use Rattle.std.proofs.Common.{◌≡◌, ◌∙◌, ℕ, suc, ◌+◌, ◌%◌, ◌^◌, ◌<◌, ◌≤◌, ◌==◌, ◌&&◌, ◌||◌, not, Bool, true, false, cond, List, [], ◌∷◌, refl, sym, ap, ap₂, true≢false, arith, Some, None}
use Rattle.std.specs.Prelude.{slice_get, Option}
use Rattle.std.proofs.Math.Bool.{or-false}
use Rattle.std.proofs.lemmas.Bool.{and_parts, eqb-true}
use Rattle.rp_base.specs.declared.op.Op.{Op}
use Rattle.rp_base.specs.declared.op.Op.TheVariants as op
use Rattle.m0_beats.specs.declared.registers.Regs.{Regs}
use Rattle.m0_beats.specs.declared.timing.Beat.TheVariants.{Inner}
use Rattle.m0_beats.specs.Instructions.{beats_of}
use Rattle.m0_nvic.specs.declared.systick.SysTick.{SysTick}
use Rattle.m0_nvic.specs.State.{State as Exceptions}
use Rattle.m0_nvic.specs.Numbers.{members}
use Rattle.m0_nvic.specs.Priority.{nearer, least, least_of, best_of, rank_or_none, active_priority, comes_before, wakes_of}
use Rattle.m0_nvic.specs.Cycle.{with_timer}
use Rattle.m0_nvic.specs.Quiet.{after_all, timer_down}
use Rattle.m0_nvic.specs.Quiet as nvic
use Rattle.lane_look.specs.declared.lane.Ask.{Ask}
use Rattle.lane_look.specs.declared.lane.Ask.TheVariants.{Lines}
use Rattle.lane_look.specs.declared.lane.Want.TheVariants as want
use Rattle.lane_look.specs.declared.lane.Turn.TheVariants as turn
use Rattle.lane_look.specs.Asking.{answered}
use Rattle.lane_look.specs.Times.{times}
use Rattle.lane_look.proofs.Times.{times_closed, times_rest, times_none}
use Rattle.m0_core.specs.declared.doing.Act.TheVariants as act
use Rattle.m0_core.specs.declared.doing.Work.{Work}
use Rattle.m0_core.specs.declared.doing.Work.TheVariants as works
use Rattle.m0_core.specs.Kinds.{awaits_event, awaits_interrupt, is_signal}
use Rattle.m0_core.specs.Fetch.{asks, ends_with}
use Rattle.m0_core.specs.Cycle.{want_of, waiting, passed, is_paused_op, after_inner, closed, next}
use Rattle.m0_core.specs.Quiet.{rested, IsQuiet, is_lasting}
use Rattle.m0_core.specs.State.{State}
use Rattle.m0_core.proofs.Carrying.{begun_on}

-- ---- the timer moves no priority

nearer_timer : (t : SysTick) (e : Exceptions) (n : ℕ) (o : Option ℕ) → nearer (with_timer t e) n o ≡ nearer e n o
nearer_timer t e n None = refl
nearer_timer t e n (Some m) = refl

least_timer : (t : SysTick) (e : Exceptions) (ns : List ℕ) → least (with_timer t e) ns ≡ least e ns
least_timer t e [] = refl
least_timer t e (n ∷ ns) = nearer_timer t e n (least (with_timer t e) ns) ∙ ap (nearer e n) (least_timer t e ns)

least_of_timer : (t : SysTick) (e : Exceptions) (set : ℕ) → least_of (with_timer t e) set ≡ least_of e set
unfolding least_of
least_of_timer t e set = least_timer t e (members set)

rank_timer : (t : SysTick) (e : Exceptions) (o : Option ℕ) → rank_or_none (with_timer t e) o ≡ rank_or_none e o
rank_timer t e None = refl
rank_timer t e (Some n) = refl

before_timer : (t : SysTick) (e : Exceptions) (p : _) (o : Option ℕ) → comes_before (with_timer t e) p o ≡ comes_before e p o
before_timer t e p None = refl
before_timer t e p (Some n) = refl

wakes_timer : (t : SysTick) (e : Exceptions) → wakes_of (with_timer t e) ≡ wakes_of e
wakes_timer t e =
    let f = with_timer t e in
    before_timer t e (active_priority f) (best_of f)
    ∙ ap₂ (comes_before e) (rank_timer t e (least_of f e.active) ∙ ap (rank_or_none e) (least_of_timer t e e.active))
    (least_of_timer t e _)

-- ---- the second beat

second_inner : (o : Op) (r : Regs) (e : Bool) → (awaits_interrupt o || (awaits_event o && e)) ≡ true → slice_get (beats_of o r) 1 ≡ Some Inner
unfolding beats_of
second_inner op.Wfi r e h = refl
second_inner op.Wfe r e h = refl
second_inner _ r e h = absurd (cc h)

no_signal : (o : Op) (e : Bool) → (awaits_interrupt o || (awaits_event o && e)) ≡ true → is_signal o ≡ false
no_signal op.Wfi e h = refl
no_signal op.Wfe e h = refl
no_signal _ e h = absurd (cc h)

-- WFI or WFE lasts on
record Lasts (o : Op) (s : State) : Type 0 where
  awake : s.asleep ≡ false
  waits : s.work ≡ Some (works.Instruction o)
  paused : is_paused_op o s ≡ true

waits_on : (o : Op) (s : State) → Lasts o s → (awaits_interrupt o || (awaits_event o && not s.event)) ≡ true
waits_on o s h = (and_parts _ _ (and_parts (s.beats_done == 1) _ h.paused).1).0

begun_waiting : (o : Op) (s : State) (cycle : ℕ) (answer : Ask → ℕ) → Lasts o s
    → answered answer (asks s cycle) ≡ ends_with (answer Lines % 2 ^ 32) cycle (act.Inner (works.Instruction o))
begun_waiting o s cycle answer h =
    let second = eqb-true s.beats_done 1 (and_parts (s.beats_done == 1) _ h.paused).0 in
    let at : slice_get (beats_of o s.regs) s.beats_done ≡ Some Inner = ap (slice_get (beats_of o s.regs)) second ∙ second_inner o s.regs (not s.event) (waits_on o s h) in
    begun_on answer cycle s o Inner h.awake h.waits at

wants_none : (o : Op) (s : State) (cycle lines : ℕ) → Lasts o s → want_of (answered (λ ask. lines) (asks s cycle)) ≡ want.Nothing
wants_none o s cycle lines h =
    ap want_of (begun_waiting o s cycle (λ ask. lines) h)
    ∙ ap (λ b. cond b want.Signal want.Nothing) (no_signal o (not s.event) (waits_on o s h))

lasts_inner : (o : Op) (s : State) → Lasts o s → after_inner (works.Instruction o) s ≡ s
unfolding after_inner
lasts_inner o s h =
    ap (λ b. cond b (waiting (works.Instruction o) s) (passed (works.Instruction o) None s)) h.paused
    ∙ ap (λ w. record s { work = w }) (sym h.waits)

rested_lasting : (o : Op) (s : State) (cycle lines : ℕ) → lines < 2 ^ 32 → Lasts o s → rested lines cycle s ≡ closed lines cycle s
unfolding next
rested_lasting o s cycle lines fits h =
    let same : lines % 2 ^ 32 ≡ lines = omega (arith, fits) in
    ap (λ d. next s d (turn.Nothing ∷ turn.Nothing ∷ [])) (begun_waiting o s cycle (λ ask. lines) h)
    ∙ ap₂ (λ l u. closed l cycle u) same (lasts_inner o s h)

-- ---- many cycles

-- the core after so many of them
abbrev after : ℕ → ℕ → State → ℕ → State
after lines first s k = record s { nvic = after_all lines first k s.nvic }

lasts_after : (o : Op) (s : State) (lines first n : ℕ) → Lasts o s → nvic.IsQuiet lines s.nvic first n → (k : ℕ) → k ≤ n → Lasts o (after lines first s k)
lasts_after o s lines first n h q k le = record {
  awake = h.awake;
  waits = h.waits;
  paused = ap (λ w. (s.beats_done == 1) && ((awaits_interrupt o || awaits_event o && not s.event) && not w))
      (ap wakes_of (q.states k le) ∙ wakes_timer (timer_down first k s.nvic.systick) s.nvic) ∙ h.paused;
}

more_after : (o : Op) (s : State) (lines first n : ℕ) → lines < 2 ^ 32 → Lasts o s → nvic.IsQuiet lines s.nvic first n
    → (k : ℕ) → k < n → rested lines (first + k) (after lines first s k) ≡ after lines first s (suc k)
unfolding closed
more_after o s lines first n fits h q k lt =
    rested_lasting o (after lines first s k) (first + k) lines fits (lasts_after o s lines first n h q k (omega (arith, lt)))
    ∙ ap (λ e. record s { nvic = after_all lines first (suc k) s.nvic; event = s.event || e }) (q.silent k lt)
    ∙ ap (λ e. record s { nvic = after_all lines first (suc k) s.nvic; event = e }) (or-false s.event)

states : (o : Op) (s : State) (lines first n : ℕ) → lines < 2 ^ 32 → Lasts o s → nvic.IsQuiet lines s.nvic first n
    → (k : ℕ) → k ≤ n → times (rested lines) first k s ≡ after lines first s k
states o s lines first n fits h q = times_closed (rested lines) first s n (after lines first s) refl (more_after o s lines first n fits h q)

quiet_lasting : (o : Op) (s : State) (lines first n : ℕ) → lines < 2 ^ 32 → Lasts o s → nvic.IsQuiet lines s.nvic first n → IsQuiet lines s first n
quiet_lasting o s lines first n fits h q = record {
  begins = λ k lt answer told.
      let at = states o s lines first n fits h q k (omega (arith, lt)) in
      let u = after lines first s k in
      let there = lasts_after o s lines first n h q k (omega (arith, lt)) in
      ap (λ v. answered answer (asks v (first + k))) at
      ∙ begun_waiting o u (first + k) answer there
      ∙ ap (λ l. ends_with (l % 2 ^ 32) (first + k) (act.Inner (works.Instruction o))) told
      ∙ sym (ap (λ v. answered (λ ask. lines) (asks v (first + k))) at ∙ begun_waiting o u (first + k) (λ ask. lines) there);
  wants = λ k lt.
      ap (λ v. want_of (answered (λ ask. lines) (asks v (first + k)))) (states o s lines first n fits h q k (omega (arith, lt)))
      ∙ wants_none o (after lines first s k) (first + k) lines (lasts_after o s lines first n h q k (omega (arith, lt)));
  offer = λ k le. ap (λ (v : State). v.offer) (states o s lines first n fits h q k le);
}

-- ---- as the code asks

record LastsAs (s : State) : Type 0 where
  o : Op
  lasts : Lasts o s

lasts_by : (w : Option Work) (s : State) → s.asleep ≡ false → s.work ≡ w → is_lasting w s ≡ true → LastsAs s
lasts_by (Some (works.Instruction o)) s awake at h = record { o = o; lasts = record { awake = awake; waits = at; paused = h } }
lasts_by _ s awake at h = absurd (true≢false (sym h))

pub quiet_while : (s : State) (lines first n : ℕ) → lines < 2 ^ 32 → s.asleep ≡ false → is_lasting s.work s ≡ true → nvic.IsQuiet lines s.nvic first n → IsQuiet lines s first n
quiet_while s lines first n fits awake h q =
    let l = lasts_by s.work s awake refl h in quiet_lasting l.o s lines first n fits l.lasts q

pub passes_while : (s : State) (lines first n k : ℕ) → lines < 2 ^ 32 → s.asleep ≡ false → is_lasting s.work s ≡ true → nvic.IsQuiet lines s.nvic first n → k ≤ n
    → record s { nvic = after_all lines first k s.nvic } ≡ times (rested lines) first k s
passes_while s lines first n k fits awake h q le =
    let l = lasts_by s.work s awake refl h in sym (states l.o s lines first n fits l.lasts q k le)

-- ---- asleep

begun_asleep : (s : State) (cycle : ℕ) (answer : Ask → ℕ) → s.asleep ≡ true → answered answer (asks s cycle) ≡ ends_with 0 cycle act.Asleep
unfolding asks
begun_asleep s cycle answer h = rw h refl

rested_asleep : (s : State) (lines cycle : ℕ) → s.asleep ≡ true → rested lines cycle s ≡ s
unfolding next
rested_asleep s lines cycle h = ap (λ d. next s d (turn.Nothing ∷ turn.Nothing ∷ [])) (begun_asleep s cycle (λ ask. lines) h)

pub stays_asleep : (s : State) (lines first n : ℕ) → s.asleep ≡ true → times (rested lines) first n s ≡ s
stays_asleep s lines first n h = times_rest (rested lines) first n s (λ cycle. rested_asleep s lines cycle h)

pub quiet_asleep : (s : State) (lines first n : ℕ) → s.asleep ≡ true → IsQuiet lines s first n
quiet_asleep s lines first n h = record {
  begins = λ k lt answer told.
      let at = stays_asleep s lines first k h in
      ap (λ v. answered answer (asks v (first + k))) at ∙ begun_asleep s (first + k) answer h
      ∙ sym (ap (λ v. answered (λ ask. lines) (asks v (first + k))) at ∙ begun_asleep s (first + k) (λ ask. lines) h);
  wants = λ k lt.
      ap (λ v. want_of (answered (λ ask. lines) (asks v (first + k)))) (stays_asleep s lines first k h) ∙ ap want_of (begun_asleep s (first + k) (λ ask. lines) h);
  offer = λ k le. ap (λ (v : State). v.offer) (stays_asleep s lines first k h);
}

pub quiet_never : (s : State) (lines first : ℕ) → IsQuiet lines s first 0
quiet_never s lines first = record {
  begins = λ k lt answer told. absurd (omega (arith, lt));
  wants = λ k lt. absurd (omega (arith, lt));
  offer = λ k le. let none : k ≡ 0 = omega (arith, le) in ap (λ (v : State). v.offer) (times_none (rested lines) first k s none);
}
