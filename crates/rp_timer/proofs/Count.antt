-- The time counts microseconds.
use Rattle.std.proofs.Common.{◌∙◌, ap, ◌≡◌, ℕ, zero, suc, ◌+◌, ◌-◌, ◌/◌, ◌%◌, ◌^◌, ◌<◌, Bool, true, false, not, ◌&&◌, cond, refl, arith}
use Rattle.std.proofs.lemmas.Grind.{common_steps}
use Rattle.std.proofs.lemmas.Bool.Decides.{nat_tests}
use Rattle.rp_timer.specs.State.{State}
use Rattle.rp_timer.specs.Step.{is_tick, risen, after_step, after_cycles}
use Rattle.rp_timer.specs.Laws.{TimeCountsMicroseconds}

paused-step : (c : ℕ) (s : State) (b : Bool) → (cond b (risen s) s).paused ≡ s.paused
paused-step c s true = refl
paused-step c s false = refl

paused-cycles : (first n : ℕ) (s : State) → (after_cycles first n s).paused ≡ s.paused
paused-cycles first zero s = refl
paused-cycles first (suc n) s =
    paused-step (first + n) (after_cycles first n s) (is_tick (first + n) && not (after_cycles first n s).paused)
    ∙ paused-cycles first n s

-- the ticks up to a cycle
pub ticks-more : (c : ℕ) → is_tick c ≡ true → (c + 1) / 125 ≡ c / 125 + 1
ticks-more c h = grind (arith, nat_tests, common_steps)

pub ticks-same : (c : ℕ) → is_tick c ≡ false → (c + 1) / 125 ≡ c / 125
ticks-same c h = grind (arith, nat_tests, common_steps)

time-tick : (c : ℕ) (s : State) → is_tick c ≡ true → s.paused ≡ false → (after_step c s).time ≡ (s.time + 1) % 2 ^ 64
time-tick c s e h = rw (e, h) refl

time-other : (c : ℕ) (s : State) → is_tick c ≡ false → (after_step c s).time ≡ s.time
time-other c s e = rw e refl

next-tick : (t k m : ℕ) → m ≡ k + 1 → ((t + k) % 2 ^ 64 + 1) % 2 ^ 64 ≡ (t + m) % 2 ^ 64
next-tick t k m e = omega arith

count-tick : (s : State) (first n : ℕ) → s.paused ≡ false → s.time < 2 ^ 64 → (b : Bool) → is_tick (first + n) ≡ b →
    (after_cycles first n s).time ≡ (s.time + ((first + n) / 125 - first / 125)) % 2 ^ 64 →
    (after_cycles first (suc n) s).time ≡ (s.time + ((first + suc n) / 125 - first / 125)) % 2 ^ 64
count-tick s first n h t true e before =
    time-tick (first + n) (after_cycles first n s) e (paused-cycles first n s ∙ h)
    ∙ ap (λ x. (x + 1) % 2 ^ 64) before
    ∙ next-tick s.time ((first + n) / 125 - first / 125) ((first + suc n) / 125 - first / 125) (omega (arith, ticks-more (first + n) e))
count-tick s first n h t false e before =
    time-other (first + n) (after_cycles first n s) e
    ∙ before
    ∙ ap (λ k. (s.time + k) % 2 ^ 64) (omega (arith, ticks-same (first + n) e))

pub count : (s : State) (first n : ℕ) → s.paused ≡ false → s.time < 2 ^ 64 →
    (after_cycles first n s).time ≡ (s.time + ((first + n) / 125 - first / 125)) % 2 ^ 64
count s first zero h t = omega arith
count s first (suc n) h t = count-tick s first n h t (is_tick (first + n)) refl (count s first n h t)

pub time_counts_microseconds : TimeCountsMicroseconds
time_counts_microseconds = λ s first n h t. count s first n h t
