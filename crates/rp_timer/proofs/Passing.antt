-- Cycles before the one in which the time meets an alarm.
use Rattle.std.proofs.Common.{◌≡◌, ◌∙◌, ℕ, zero, suc, ◌+◌, ◌-◌, ◌*◌, ◌/◌, ◌%◌, ◌^◌, ◌<◌, ◌≤◌, Bool, true, false, not, ◌&&◌, cond, refl, ap, arith}
use Rattle.std.specs.Prelude.{bit_or}
use Rattle.std.specs.Int.Bits.{or_zero_r}
use Rattle.std.proofs.lemmas.Nat.{and_mask}
use Rattle.rp_base.specs.Word.{minus}
use Rattle.rp_timer.specs.State.{State}
use Rattle.rp_timer.specs.Step.{is_tick, due_of, alarmed, at_time, risen, after_step, after_cycles}
use Rattle.rp_timer.specs.Quiet.{passed}
use Rattle.rp_timer.proofs.Count.{ticks-more, ticks-same, count}

-- ---- one cycle

minus-none : (n : ℕ) → n < 2 ^ 32 → minus n 0 ≡ n
minus-none n h = and_mask n 32 ∙ (omega arith)

nothing-due : (s : State) → s.armed < 2 ^ 32 → due_of s ≡ 0 → alarmed s ≡ s
nothing-due s h e =
    ap (λ (d : ℕ). record s { raised = bit_or s.raised d; armed = minus s.armed d }) e
    ∙ (ap (λ (r : ℕ). record s { raised = r; armed = minus s.armed 0 }) (or_zero_r s.raised)
    ∙ ap (λ (a : ℕ). record s { armed = a }) (minus-none s.armed h))

next-time : (t k m : ℕ) → m ≡ k + 1 → ((t + k) % 2 ^ 64 + 1) % 2 ^ 64 ≡ (t + m) % 2 ^ 64
next-time t k m e = omega arith

goes : (c : ℕ) (s : State) (b : Bool) → is_tick c ≡ b → s.paused ≡ false → after_step c s ≡ cond b (risen s) s
goes c s true e p = ap (λ (x : Bool). cond (is_tick c && not x) (risen s) s) p ∙ ap (λ (x : Bool). cond (x && true) (risen s) s) e
goes c s false e p = ap (λ (x : Bool). cond (is_tick c && not x) (risen s) s) p ∙ ap (λ (x : Bool). cond (x && true) (risen s) s) e

never : (s : State) (b : Bool) → cond (b && false) (risen s) s ≡ s
never s true = refl
never s false = refl

tick-passed : (s : State) (first n : ℕ) (b : Bool) → is_tick (first + n) ≡ b → s.paused ≡ false → s.armed < 2 ^ 32 →
    ((k : ℕ) → 0 < k → k ≡ (first + suc n) / 125 - first / 125 → due_of (at_time (s.time + k) s) ≡ 0) →
    after_step (first + n) (passed first n s) ≡ passed first (suc n) s
tick-passed s first n true e p h unmet =
    let before = (first + n) / 125 - first / 125 in
    let after = (first + suc n) / 125 - first / 125 in
    let more : after ≡ before + 1 = omega (arith, ticks-more (first + n) e) in
    goes (first + n) (passed first n s) true e p
    ∙ (ap (λ (t : ℕ). alarmed (record s { time = t })) (next-time s.time before after more)
    ∙ nothing-due (at_time (s.time + after) s) h (unmet after (omega arith) refl))
tick-passed s first n false e p h unmet =
    let same : (first + n) / 125 - first / 125 ≡ (first + suc n) / 125 - first / 125 = omega (arith, ticks-same (first + n) e) in
    goes (first + n) (passed first n s) false e p ∙ ap (λ (k : ℕ). at_time (s.time + k) s) same

-- ---- many cycles

few-ticks : (first n left : ℕ) → n ≤ 124 - first % 125 + 125 * left → (first + n) / 125 - first / 125 ≤ left
few-ticks first n left le = omega arith

not-yet : (s : State) (first : ℕ) → s.time < 2 ^ 64 → s ≡ passed first 0 s
not-yet s first h =
    let e : s.time ≡ (s.time + ((first + 0) / 125 - first / 125)) % 2 ^ 64 = omega arith in
    ap (λ (t : ℕ). record s { time = t }) e

pub passes : (s : State) (first left : ℕ) → s.paused ≡ false → s.time < 2 ^ 64 → s.armed < 2 ^ 32 →
    ((k : ℕ) → 0 < k → k ≤ left → due_of (at_time (s.time + k) s) ≡ 0) →
    (n : ℕ) → n ≤ 124 - first % 125 + 125 * left → after_cycles first n s ≡ passed first n s
passes s first left p t h unmet zero le = not-yet s first t
passes s first left p t h unmet (suc n) le =
    ap (after_step (first + n)) (passes s first left p t h unmet n (omega arith))
    ∙ tick-passed s first n (is_tick (first + n)) refl p h
    (λ k pos e. unmet k pos (rw e (few-ticks first (suc n) left le)))

-- no alarm is armed
pub unarmed : (s : State) (first : ℕ) → s.paused ≡ false → s.time < 2 ^ 64 → s.armed ≡ 0 →
    (n : ℕ) → after_cycles first n s ≡ passed first n s
unarmed s first p t e n = passes s first n p t (rw e (omega arith)) (λ k pos le. rw e refl) n (omega arith)

-- the time stands still
pub stands : (s : State) (first n : ℕ) → s.paused ≡ true → after_cycles first n s ≡ s
stands s first zero p = refl
stands s first (suc n) p =
    ap (after_step (first + n)) (stands s first n p)
    ∙ (ap (λ (x : Bool). cond (is_tick (first + n) && not x) (risen s) s) p ∙ never s (is_tick (first + n)))

-- one cycle more
pub cycles-more : (first n m : ℕ) (s : State) → m ≡ n + 1 → after_cycles first m s ≡ after_step (first + n) (after_cycles first n s)
cycles-more first n zero s e = absurd (omega arith)
cycles-more first n (suc m) s e = let same : m ≡ n = omega arith in rw same refl

pub stands-time : (s : State) (first n : ℕ) → s.paused ≡ true → (after_cycles first n s).time ≡ s.time
stands-time s first n p = ap (λ (t : State). t.time) (stands s first n p)

pub ruleset time_passes = (count, stands-time)
