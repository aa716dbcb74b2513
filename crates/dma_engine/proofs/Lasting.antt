-- An engine that is quiet: nothing is begun, no timer gives a credit, and the timers alone step.
use Rattle.std.proofs.Common.{◌≡◌, ℕ, zero, suc, ◌+◌, ◌-◌, ◌*◌, ◌/◌, ◌%◌, ◌^◌, ◌<◌, ◌≤◌, min, Bool, true, false, not, ◌&&◌, ◌==◌, nat_le, cond, if◌then◌else◌, List, [], ◌∷◌, length, map, get_or, Option, Some, None, ◌⊎◌, inl, inr, refl, sym, ap, ◌∙◌, arith}
use Rattle.std.specs.List.{list_any}
use Rattle.std.proofs.lemmas.Bool.{and_right, or_parts}
use Rattle.std.proofs.lemmas.Bool.Decides.{nat_tests}
use Rattle.std.proofs.Math.Nat.{add-mul, one-mul, zero-mul, div-mul-le_self, mul-le-mul_right}
use Rattle.rp_base.specs.declared.Request.{Request}
use Rattle.rp_base.specs.declared.map.Spot.{Spot}
use Rattle.rp_base.specs.declared.map.Spot.TheVariants as spot
use Rattle.rp_base.specs.Map.{place_of}
use Rattle.lane_look.specs.declared.lane.Ask.{Ask}
use Rattle.lane_look.specs.declared.lane.Ask.TheVariants.{Pacing}
use Rattle.lane_look.specs.Asking.{Asking, answered}
use Rattle.lane_look.specs.Asking.Asking.{Question}
use Rattle.lane_look.specs.Times.{times}
use Rattle.dma_engine.specs.declared.awaited.Awaited.{Awaited}
use Rattle.dma_engine.specs.declared.awaited.Awaited.TheVariants as awaited
use Rattle.dma_engine.specs.declared.timer.PacingTimer.{PacingTimer}
use Rattle.dma_engine.specs.declared.begun.Access.{Access}
use Rattle.dma_engine.specs.declared.begun.Access.TheVariants as access
use Rattle.dma_engine.specs.declared.begun.BegunTransfer.{BegunTransfer}
use Rattle.dma_engine.specs.State.{State}
use Rattle.dma_engine.specs.Timer.{runs, step_of, sum_of, gives, accumulated, stepped}
use Rattle.dma_engine.specs.Asks.{asks, asks_read, asks_for, asks_at, waits_for_counts, write_begun, next_request}
use Rattle.dma_engine.specs.Cycle.{wanted, next}
use Rattle.dma_engine.specs.Awaited.{awaits_credits, NoneMoves, Awaits}
use Rattle.dma_engine.specs.Quiet.{timer_after, engine_after, IsQuiet}
use Rattle.dma_engine.proofs.Unmoved.{stands, gives_off, all_stand, none_give, kept, asks_nothing, next-credits, unmoved_cycle}

-- ---- one timer

one_more : (k step : ℕ) → suc k * step ≡ step + k * step
one_more k step = ap (λ n. n * step) (omega arith) ∙ add-mul 1 k step ∙ ap (λ x. x + k * step) (one-mul step)

-- no credit in so many cycles
abbrev pub NoneOf : PacingTimer → ℕ → Type 0
NoneOf t n = (k : ℕ) → k < n → gives (timer_after k t) ≡ false

-- its step was added up so many times
abbrev summed : PacingTimer → ℕ → PacingTimer
summed t k = record t { accumulator = t.accumulator + k * step_of t }

-- one that stands still adds nothing
no_sum : (t : PacingTimer) → runs t ≡ false → sum_of t ≡ t.accumulator
no_sum t h = grind (arith, nat_tests, h)

added_by : (t : PacingTimer) (r : Bool) → runs t ≡ r → (r && nat_le t.y (sum_of t)) ≡ false →
    cond r (record t { accumulator = accumulated t }) t ≡ record t { accumulator = sum_of t }
added_by t true e h = rw h refl
added_by t false e h = sym (ap (λ a. record t { accumulator = a }) (no_sum t e))

none_summed : (t : PacingTimer) → summed t 0 ≡ t
none_summed t = ap (λ a. record t { accumulator = a }) (let none : 0 * step_of t ≡ 0 = zero-mul (step_of t) in omega (arith, none))

-- where it gives no credit it adds its step up
goes : (t : PacingTimer) (n k : ℕ) → ((i : ℕ) → i < n → timer_after i t ≡ summed t i → gives (summed t i) ≡ false) → k ≤ n →
    timer_after k t ≡ summed t k
unfolding times
goes t n zero h le = sym (none_summed t)
goes t n (suc k) h le =
    let before : timer_after k t ≡ summed t k = goes t n k h (omega arith) in
    let more = one_more k (step_of t) in
    ap stepped before ∙ added_by (summed t k) (runs t) refl (h k (omega arith) before)
    ∙ ap (λ a. record t { accumulator = a }) (omega (arith, more))

added : (t : PacingTimer) (n k : ℕ) → NoneOf t n → k ≤ n → timer_after k t ≡ summed t k
added t n k h le = goes t n k (λ i lt e. sym (ap gives e) ∙ h i lt) le

small_by : (r : Bool) (t : PacingTimer) → runs t ≡ r → (r && nat_le t.y (sum_of t)) ≡ false → t.y < 2 ^ 16 → t.accumulator < 2 ^ 16 → sum_of t < 2 ^ 16
small_by true t e h y a = grind (arith, nat_tests)
small_by false t e h y a = let none = no_sum t e in omega (arith, none)

fits : (t : PacingTimer) (n : ℕ) → NoneOf t n → t.accumulator < 2 ^ 16 → t.y < 2 ^ 16 → t.accumulator + n * step_of t < 2 ^ 16
fits t zero h a y = let none : 0 * step_of t ≡ 0 = zero-mul (step_of t) in omega (arith, none)
fits t (suc n) h a y =
    let none : gives (summed t n) ≡ false = sym (ap gives (added t (suc n) n h (omega arith))) ∙ h n (omega arith) in
    let low : t.accumulator + n * step_of t + step_of t < 2 ^ 16 =
    small_by (runs t) (summed t n) refl none y (fits t n (λ k lt. h k (omega arith)) a y) in
    let more = one_more n (step_of t) in omega (arith, low, more)

-- ---- for how long

stands_still : (n : ℕ) (t : PacingTimer) → runs t ≡ false → timer_after n t ≡ t
unfolding times
stands_still zero t h = refl
stands_still (suc n) t h = ap stepped (stands_still n t h) ∙ stands t h

runs_by : (x y : ℕ) → min x y ≡ 0 → (not (x == 0) && not (y == 0)) ≡ false
runs_by zero y h = refl
runs_by (suc x) zero h = and_right (not (suc x == 0)) false refl
runs_by (suc x) (suc y) h = absurd (omega (arith, h))

pub none_still : (t : PacingTimer) (n : ℕ) → step_of t ≡ 0 → NoneOf t n
none_still t n e k lt =
    let off : runs t ≡ false = runs_by t.x t.y e in ap gives (stands_still k t off) ∙ gives_off t off

none_by : (r : Bool) (y sum : ℕ) → sum < y → (r && nat_le y sum) ≡ false
none_by true y sum lt = grind (arith, nat_tests)
none_by false y sum lt = refl

-- below so many steps the sum stays below Y
gives_low : (t : PacingTimer) (n k : ℕ) → t.accumulator + n * step_of t < t.y → k < n → gives (summed t k) ≡ false
gives_low t n k lt l =
    let le : suc k * step_of t ≤ n * step_of t = mul-le-mul_right (step_of t) l in
    let more = one_more k (step_of t) in
    none_by (runs t) t.y (t.accumulator + k * step_of t + step_of t) (omega (arith, le, more, lt))

none_below : (t : PacingTimer) (n : ℕ) → t.accumulator + n * step_of t < t.y → NoneOf t n
none_below t n lt k l = ap gives (goes t n k (λ i m e. gives_low t n i lt m) (omega arith)) ∙ gives_low t n k lt l

-- so many steps as there is room for
pub steps_fit : (t : PacingTimer) (left n : ℕ) → left ≡ t.y - 1 - t.accumulator → n ≡ left / step_of t → NoneOf t n
steps_fit t left n e q k lt =
    let whole : n * step_of t ≤ left = rw q (div-mul-le_self left (step_of t)) in
    let le : suc k * step_of t ≤ n * step_of t = mul-le-mul_right (step_of t) lt in
    let more = one_more k (step_of t) in
    elim (positive (step_of t)) [
      | inl none ↦ none_still t n none k lt
      | inr some ↦ none_below t n (omega (arith, whole, le, more, some, e)) k lt
    ]
  where
    positive : (s : ℕ) → (s ≡ 0) ⊎ (0 < s)
    positive zero = inl refl
    positive (suc s) = inr (omega arith)

-- ---- four timers

pub none_all : (ts : List PacingTimer) (n i : ℕ) (d : PacingTimer) → ((k : ℕ) → k < n → list_any gives (map (timer_after k) ts) ≡ false) → i < length ts → NoneOf (get_or ts i d) n
none_all [] n i d h lt k l = absurd (omega (arith, lt))
none_all (t ∷ ts) n zero d h lt k l = (or_parts (gives (timer_after k t)) _ (h k l)).0
none_all (t ∷ ts) n (suc i) d h lt k l = none_all ts n i d (λ j m. (or_parts (gives (timer_after j t)) _ (h j m)).1) (omega (arith, lt)) k l

step_more : (ts : List PacingTimer) (k : ℕ) → map (timer_after (suc k)) ts ≡ map stepped (map (timer_after k) ts)
unfolding times
step_more [] k = refl
step_more (t ∷ ts) k = ap (λ xs. timer_after (suc k) t ∷ xs) (step_more ts k)

-- ---- the engine, whose timers stand still

engine_still : (s : State) (n : ℕ) → list_any runs s.timers ≡ false → engine_after n s ≡ s
engine_still s n h = ap (λ ts. record s { timers = ts }) (all_stand s.timers (timer_after n) (stands_still n) h)

pub kept_passed : (w : Awaited) (s : State) (n : ℕ) → Awaits w s → Awaits w (engine_after n s)
kept_passed w s n h = kept w s (timer_after n) (stands_still n) h

-- ---- the engine that lacks credits

pub credits_quiet : (counts : ℕ) (s : State) (n : ℕ) → awaits_credits s ≡ true → ((k : ℕ) → k < n → list_any gives (map (timer_after k) s.timers) ≡ false)
    → IsQuiet counts s n
credits_quiet counts s n h none = record {
  credits = record { credits = none };
  wants = λ k lt answer e. rw (asks_nothing (engine_after k s) (kept_passed awaited.Credit s k h)) refl;
  steps = λ k lt answer e turns.
      next-credits (engine_after k s) (answered answer (asks (engine_after k s))) turns (kept_passed awaited.Credit s k h) (none k lt)
      ∙ ap (λ ts. record s { timers = ts }) (sym (step_more s.timers k));
}

-- ---- the engine that waits for a FIFO

same_at : (f g : Ask → ℕ) (counts : ℕ) (write : Access) (request : Request) (at : Spot) → (answered f (asks_at counts write request at)).read ≡ access.Nothing
    → answered g (asks_at counts write request at) ≡ answered f (asks_at counts write request at)
same_at f g counts write request (spot.Ram index bank) h = absurd (cc h)
same_at f g counts write request _ h = refl

same_for : (f g : Ask → ℕ) (counts : ℕ) (write : Access) (r : Option Request) → (answered f (asks_for counts write r)).read ≡ access.Nothing
    → answered g (asks_for counts write r) ≡ answered f (asks_for counts write r)
same_for f g counts write None h = refl
same_for f g counts write (Some request) h = same_at f g counts write request (place_of request.address) h

same_read : (f g : Ask → ℕ) (counts : ℕ) (s : State) → (answered f (asks_read counts s)).read ≡ access.Nothing → answered g (asks_read counts s) ≡ answered f (asks_read counts s)
unfolding asks_read
same_read f g counts s h = same_for f g counts (write_begun s) (next_request s) h

-- what it asks, by whether it waits for the counts
abbrev asks_by : Bool → State → Asking BegunTransfer
asks_by waits s = if waits then Question Pacing (λ counts. asks_read counts s) else asks_read 0 s

same_by : (waits : Bool) (f g : Ask → ℕ) (s : State) → g Pacing ≡ f Pacing → (answered f (asks_by waits s)).read ≡ access.Nothing
    → answered g (asks_by waits s) ≡ answered f (asks_by waits s)
same_by true f g s e h = ap (λ (counts : ℕ). answered g (asks_read counts s)) e ∙ same_read f g (f Pacing) s h
same_by false f g s e h = same_read f g 0 s h

same_begun : (f g : Ask → ℕ) (s : State) → g Pacing ≡ f Pacing → (answered f (asks s)).read ≡ access.Nothing → answered g (asks s) ≡ answered f (asks s)
unfolding asks
same_begun f g s e h = same_by (list_any waits_for_counts s.channels) f g s e h

pub unmoved_quiet : (s : State) (begun : BegunTransfer) (n : ℕ) (f : Ask → ℕ) → begun ≡ answered f (asks s) → NoneMoves begun.counts s 12
    → list_any runs s.timers ≡ false → begun.read ≡ access.Nothing → begun.write ≡ access.Nothing → IsQuiet (f Pacing) s n
unmoved_quiet s begun n f e none off read write =
    let begins : (g : Ask → ℕ) → g Pacing ≡ f Pacing → answered g (asks s) ≡ begun =
    λ g p. same_begun f g s p (sym (ap (λ (b : BegunTransfer). b.read) e) ∙ read) ∙ sym e in
    let same : (k : ℕ) → engine_after k s ≡ s = λ k. engine_still s k off in
    record {
      credits = record { credits = λ k lt. ap (λ (x : State). list_any gives x.timers) (same k) ∙ none_give s.timers off };
      wants = λ k lt g p. ap (λ x. wanted (answered g (asks x))) (same k) ∙ ap wanted (begins g p) ∙ rw (read, write) refl;
      steps = λ k lt g p turns.
          ap (λ x. next x (answered g (asks x)) turns) (same k) ∙ ap (λ (b : BegunTransfer). next s b turns) (begins g p)
          ∙ unmoved_cycle s begun turns none off read write ∙ sym (same (suc k));
    }

-- ---- fewer cycles

pub fewer : (counts : ℕ) (s : State) (n k : ℕ) → IsQuiet counts s n → k ≤ n → IsQuiet counts s k
fewer counts s n k h le = record {
  credits = record { credits = λ i lt. h.credits.credits i (omega arith) };
  wants = λ i lt. h.wants i (omega arith);
  steps = λ i lt. h.steps i (omega arith);
}

-- in no cycle
pub engine_none : (s : State) → engine_after 0 s ≡ s
unfolding times
engine_none s = ap (λ ts. record s { timers = ts }) (none_steps s.timers)
  where
    none_steps : (ts : List PacingTimer) → map (timer_after 0) ts ≡ ts
    none_steps [] = refl
    none_steps (t ∷ ts) = ap (λ xs. t ∷ xs) (none_steps ts)

pub none_quiet : (counts : ℕ) (s : State) → IsQuiet counts s 0
none_quiet counts s = record {
  credits = record { credits = λ k lt. absurd (omega arith) };
  wants = λ k lt. absurd (omega arith);
  steps = λ k lt. absurd (omega arith);
}

-- ---- what the calls of the timers say

pub four_none : (ts : List PacingTimer) (k : ℕ) (d : PacingTimer) → length ts ≡ 4 → gives (timer_after k (get_or ts 0 d)) ≡ false → gives (timer_after k (get_or ts 1 d)) ≡ false
    → gives (timer_after k (get_or ts 2 d)) ≡ false → gives (timer_after k (get_or ts 3 d)) ≡ false → list_any gives (map (timer_after k) ts) ≡ false
four_none (a ∷ b ∷ c ∷ e ∷ []) k d h p q r s = rw (p, q, r, s) refl
four_none _ k d h p q r s = absurd (omega arith)

-- what a call of one timer reckons, whose step and sum so far are these
pub reckons : (t : PacingTimer) (n step sum : ℕ) → NoneOf t n → t.y < 2 ^ 16 → t.accumulator < 2 ^ 16
    → step ≡ step_of t → sum ≡ t.accumulator
    → record t { accumulator = (sum + n * step % 2 ^ 64) % 2 ^ 64 % 2 ^ 16 } ≡ timer_after n t
reckons t n step sum h y a e f =
    let same : sum + n * step ≡ t.accumulator + n * step_of t = rw (e, f) refl in
    let low : t.accumulator + n * step_of t < 2 ^ 16 = fits t n h a y in
    ap (λ a. record t { accumulator = a }) (omega (arith, same, low)) ∙ sym (added t n n h (omega arith))
