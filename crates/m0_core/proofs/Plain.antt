-- A plain instruction begins with an inner beat in Thumb state, and its end begins no return, calls nothing and waits for nothing.
use Rattle.std.proofs.Common.{◌≡◌, ◌+◌, ℕ, zero, suc, Bool, true, false, not, ◌||◌, ◌&&◌, cond, nat_lt, nat_le, refl, ap, sym, subst, arith, rules, ◌≤◌, ◌∙◌}
use Rattle.std.specs.Prelude.{slice_get, unwrap_or, length, List, [], Option, None, ◌==◌}
use Rattle.std.specs.List.{list_any}
use Rattle.std.proofs.Math.Bool.{and-false, and-true}
use Rattle.std.proofs.lemmas.Bool.{and_parts, cond_both}
use Rattle.std.proofs.lemmas.Bool.Decides.{nat_tests}
use Rattle.rp_base.specs.declared.op.Op.{Op}
use Rattle.rp_base.specs.declared.op.Op.TheVariants as op
use Rattle.rp_base.specs.declared.Why.TheVariants as why
use Rattle.m0_beats.specs.declared.registers.Regs.{Regs}
use Rattle.m0_beats.specs.declared.timing.Beat.{Beat}
use Rattle.m0_beats.specs.declared.timing.Beat.TheVariants.{Inner}
use Rattle.m0_beats.specs.Beats.{inner, inner_to, is_unaligned_beat, single}
use Rattle.m0_beats.specs.Instructions.{beats_of, is_unaligned_of, effect_of, return_of}
use Rattle.m0_beats.specs.Conditions.{condition_holds}
use Rattle.m0_nvic.specs.Exceptions.{SVCALL}
use Rattle.m0_nvic.specs.Changes.{pended}
use Rattle.lane_look.specs.Asking.Asking.{Ready}
use Rattle.m0_core.specs.declared.doing.Act.TheVariants as act
use Rattle.m0_core.specs.declared.doing.Work.TheVariants as works
use Rattle.m0_core.specs.Kinds.{awaits_event, awaits_interrupt, is_breakpoint, is_call, is_undefined}
use Rattle.m0_core.specs.Shortcuts.{is_branch, is_plain, is_single}
use Rattle.m0_beats.specs.Shapes.{is_one_access}
use Rattle.m0_core.specs.Fetch.{asks_beat, asks_decoded, asks_fault, beat_of, in_beat, is_callable, is_faulty, stopped}
use Rattle.m0_core.specs.Cycle.{returning, ended, after_inner, passed, passed_instruction, passed_of, is_paused_op, waiting}
use Rattle.m0_core.specs.State.{State}

inner_at : (n k : ℕ) → unwrap_or (slice_get (inner n) k) Inner ≡ Inner
inner_at zero k = refl
inner_at (suc n) zero = refl
inner_at (suc n) (suc k) = inner_at n k

aligned : (n : ℕ) → list_any is_unaligned_beat (inner n) ≡ false
aligned zero = refl
aligned (suc n) = aligned n

either_inner : (b : Bool) → cond b (inner 2) (inner 1) ≡ inner (cond b 2 1)
either_inner true = refl
either_inner false = refl

no_access : (o : Op) (r : Regs) (n : ℕ) → beats_of o r ≡ inner n → is_unaligned_of o r ≡ false
unfolding beats_of is_unaligned_of
no_access o r n beats = ap (list_any is_unaligned_beat) beats ∙ aligned n

inner_beat : (o : Op) (s : State) (n : ℕ) → beats_of o s.regs ≡ inner n → beat_of o s ≡ Inner
unfolding beat_of
inner_beat o s n beats = ap (λ list. unwrap_or (slice_get list s.beats_done) Inner) beats ∙ inner_at n s.beats_done

begins : (o : Op) (s : State) → beat_of o s ≡ Inner → asks_beat (works.Instruction o) s ≡ Ready (act.Inner (works.Instruction o))
unfolding asks_beat
begins o s beat = ap (in_beat (works.Instruction o) s) beat

no_fault : (u t a c x : Bool) → u ≡ false → t ≡ true → a ≡ false → c ≡ false → (u || (not t || (a || (c && x)))) ≡ false
no_fault u t a c x p q r e = rw (p, q, r, e) refl

neither : {A : Type 0} (b c : Bool) (x y z : A) → b ≡ false → c ≡ false → cond b x (cond c y z) ≡ z
neither b c x y z h k = rw (h, k) refl

-- by inner beats alone
decoded : (o : Op) (s : State) (n : ℕ) → is_breakpoint o ≡ false → is_undefined o ≡ false → is_call o ≡ false →
    beats_of o s.regs ≡ inner n → s.regs.t ≡ true → asks_decoded o s ≡ Ready (act.Inner (works.Instruction o))
unfolding asks_decoded
decoded o s n breakpoint undefined call beats t =
    let fault : is_faulty o s ≡ false =
    no_fault (is_undefined o) s.regs.t (is_unaligned_of o s.regs) (is_call o) (not (is_callable s)) undefined t
    (no_access o s.regs n beats) call in
    neither (is_breakpoint o) (is_faulty o s) (stopped (why.Bkpt s.number)) (asks_fault s) (asks_beat (works.Instruction o) s)
    breakpoint fault
    ∙ begins o s (inner_beat o s n beats)

-- what an instruction is not where a test holds of it; it begins no return
pub record Ordinary (test : Bool) (o : Op) : Type 0 where
  pub breakpoint : cond test (is_breakpoint o) false ≡ false
  pub undefined : cond test (is_undefined o) false ≡ false
  pub call : cond test (is_call o) false ≡ false
  pub event : cond test (awaits_event o) false ≡ false
  pub interrupt : cond test (awaits_interrupt o) false ≡ false
  pub returns : (g : Regs) (read : List ℕ) → cond test (return_of o g read) None ≡ None

-- a move to a register that may be PC
moving : (test : Bool) (d m : ℕ) → Ordinary (test || false) (op.MovHigh d m)
unfolding return_of
moving true d m =
    record { breakpoint = refl; undefined = refl; call = refl; event = refl; interrupt = refl; returns = λ g read. refl }
moving false d m =
    record { breakpoint = refl; undefined = refl; call = refl; event = refl; interrupt = refl; returns = λ g read. refl }

each_ordinary : (o : Op) → Ordinary (is_plain o || is_one_access o) o
unfolding return_of
each_ordinary (op.MovHigh d m) = moving (nat_lt d 15) d m
each_ordinary _ =
    record { breakpoint = refl; undefined = refl; call = refl; event = refl; interrupt = refl; returns = λ g read. refl }

-- a plain instruction, and a load or a store of one register
pub ordinary : (o : Op) → (is_plain o || is_one_access o) ≡ true → Ordinary true o
ordinary o h = subst (λ test. Ordinary test o) h (each_ordinary o)

low : (d : ℕ) → nat_lt d 15 ≡ true → inner_to d ≡ inner 1
low d h = let less : nat_le 15 d ≡ false = grind (arith, nat_tests) in ap (λ b. cond b (inner 2) (inner 1)) less

-- a plain instruction that is no branch has one beat
single_beat : (o : Op) (g : Regs) → cond (is_single o) (beats_of o g) (inner 1) ≡ inner 1
unfolding beats_of
single_beat (op.MovHigh d m) g =
    cond_both (nat_lt d 15 && true) (inner_to d) (inner 1) (λ l. l ≡ inner 1)
    (λ e. low d (and_parts (nat_lt d 15) true e).0) (λ e. refl)
single_beat _ g = refl

singly : (o : Op) (g : Regs) → is_single o ≡ true → beats_of o g ≡ inner 1
singly o g h = sym (ap (λ b. cond b (beats_of o g) (inner 1)) h) ∙ single_beat o g

branches : (o : Op) (g : Regs) → is_branch o ≡ true → (n : ℕ) × (beats_of o g ≡ inner n)
unfolding beats_of
branches (op.BCond c i) g h = (cond (condition_holds c g) 2 1, either_inner (condition_holds c g))
branches (op.B i) g h = (2, refl)
branches (op.Bl q i j) g h = (3, refl)
branches _ g h = absurd (cc h)

plainly : (o : Op) (g : Regs) (branch : Bool) → is_branch o ≡ branch → is_plain o ≡ true → (n : ℕ) × (beats_of o g ≡ inner n)
plainly o g true e h = branches o g e
plainly o g false e h = (1, singly o g (rw (h, e) refl))

pub plain_decoded : (o : Op) (s : State) → is_plain o ≡ true → s.regs.t ≡ true →
    asks_decoded o s ≡ Ready (act.Inner (works.Instruction o))
plain_decoded o s h t =
    let q = ordinary o (ap (λ b. b || is_one_access o) h) in
    let beats = plainly o s.regs (is_branch o) refl h in
    decoded o s beats.0 q.breakpoint q.undefined q.call beats.1 t

-- each beat of a branch by an offset is inside the core
pub branch_begins : (o : Op) (s : State) → is_branch o ≡ true → asks_beat (works.Instruction o) s ≡ Ready (act.Inner (works.Instruction o))
branch_begins o s h = let beats = branches o s.regs h in begins o s (inner_beat o s beats.0 beats.1)

-- so is each beat of WFI and WFE
pub pause_begins : (o : Op) (s : State) → (awaits_interrupt o || awaits_event o) ≡ true
    → asks_beat (works.Instruction o) s ≡ Ready (act.Inner (works.Instruction o))
unfolding beats_of
pause_begins op.Wfi s h = begins op.Wfi s (inner_beat op.Wfi s 2 refl)
pause_begins op.Wfe s h = begins op.Wfe s (inner_beat op.Wfe s 2 refl)
pause_begins _ s h = absurd (cc h)

-- ---- the end

same_end : (o : Op) (s : State) (call wait : Bool) (value : Option ℕ) → call ≡ false → wait ≡ false → value ≡ None →
    record s {
      regs = effect_of o s.regs s.read;
      nvic = cond call (pended SVCALL s.nvic) s.nvic;
      event = s.event && not wait;
      work = returning value;
      beats_done = 0;
      read = [];
    } ≡ record s { regs = effect_of o s.regs s.read; work = None; beats_done = 0; read = [] }
same_end o s call wait value p q r =
    rw (p, q, r)
    (ap (λ e. record s { regs = effect_of o s.regs s.read; event = e; work = None; beats_done = 0; read = [] })
    (and-true s.event))

at_most : (address : ℕ) (beat : Beat) → length (single address beat) ≤ 2
at_most address beat = search rules

few_beats : (o : Op) (g : Regs) (address : ℕ) (beat : Beat)
    → length (cond (is_one_access o) (beats_of o g) (single address beat)) ≤ 2
unfolding beats_of
few_beats (op.LdrLit t i) g address beat = at_most _ _
few_beats _ g address beat = at_most _ _

-- a load or a store of one register has two beats at most
pub accessing : (o : Op) (g : Regs) → is_one_access o ≡ true → length (beats_of o g) ≤ 2
accessing o g h = subst (λ b. length (cond b (beats_of o g) (single 0 Inner)) ≤ 2) h (few_beats o g 0 Inner)

pub plainly_ended : (o : Op) (s : State) → (is_plain o || is_one_access o) ≡ true →
    ended o s ≡ record s { regs = effect_of o s.regs s.read; work = None; beats_done = 0; read = [] }
unfolding ended
plainly_ended o s h =
    let q = ordinary o h in
    same_end o s (is_call o) (awaits_event o) (return_of o s.regs s.read) q.call q.event (q.returns s.regs s.read)

pub single_plain : (o : Op) → is_single o ≡ true → is_plain o ≡ true
single_plain o h = (and_parts (is_plain o) _ h).0

pub branch_plain : (o : Op) → is_branch o ≡ true → is_plain o ≡ true
branch_plain (op.BCond c i) h = refl
branch_plain (op.B i) h = refl
branch_plain (op.Bl q i j) h = refl
branch_plain _ h = absurd (cc h)

goes_on : (o : Op) (s : State) → awaits_event o ≡ false → awaits_interrupt o ≡ false → is_paused_op o s ≡ false
goes_on o s p q = rw (p, q) (and-false (s.beats_done == 1))

passes : (o : Op) (s : State) (n : ℕ) → n ≡ 1 → passed_of (works.Instruction o) n (ended o s) s ≡ ended o s
passes o s n h =
    let last : nat_lt (s.beats_done + 1) 1 ≡ false = grind (arith, nat_tests) in
    rw (h, last) refl

pub single_after : (o : Op) (s : State) → is_single o ≡ true → after_inner (works.Instruction o) s ≡ ended o s
unfolding after_inner passed passed_instruction
single_after o s h =
    let one = ordinary o (ap (λ b. b || is_one_access o) (single_plain o h)) in
    ap (λ paused. cond paused (waiting (works.Instruction o) s) (passed (works.Instruction o) None s)) (goes_on o s one.event one.interrupt)
    ∙ passes o s (length (beats_of o s.regs)) (ap length (singly o s.regs h))

-- neither lasts
pub plainly_after : (o : Op) (s : State) → (is_plain o || is_one_access o) ≡ true → after_inner (works.Instruction o) s ≡ passed_instruction o s
unfolding after_inner passed
plainly_after o s h =
    let none = ordinary o h in
    ap (λ paused. cond paused (waiting (works.Instruction o) s) (passed (works.Instruction o) None s)) (goes_on o s none.event none.interrupt)
