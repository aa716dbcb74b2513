-- Channels in turn, from 0 up.
use Rattle.std.proofs.Common.{◌≡◌, ◌≢◌, ℕ, zero, suc, ◌+◌, ◌<◌, ◌≤◌, Bool, true, false, List, length, get_or, refl, ap, arith, add-one, get_or-set_other, get_or-set_same, below_more}
use Rattle.std.proofs.Math.ListN.{set, length-set}
use Rattle.dma_engine.specs.State.{State}
use Rattle.dma_engine.specs.Channel.{in_turn, with_end}
use Rattle.dma_engine.specs.Timer.{with_credit, with_stepped_timers, after_timers}
use Rattle.dma_engine.specs.Cycle.{is_over, after_ends}

pub in_turn-none : (test : ℕ → Bool) (act : ℕ → State → State) (e : State) → in_turn test act 0 e ≡ e
unfolding in_turn
in_turn-none test act e = refl

pub in_turn-passing : (test : ℕ → Bool) (act : ℕ → State → State) (n : ℕ) (e : State) → test n ≡ true →
    in_turn test act (n + 1) e ≡ act n (in_turn test act n e)
unfolding in_turn
in_turn-passing test act n e h = rw (add-one n) (rw h refl)

pub in_turn-failing : (test : ℕ → Bool) (act : ℕ → State → State) (n : ℕ) (e : State) → test n ≡ false →
    in_turn test act (n + 1) e ≡ in_turn test act n e
unfolding in_turn
in_turn-failing test act n e h = rw (add-one n) (rw h refl)

pub in_turn-all : (test : ℕ → Bool) (act : ℕ → State → State) (n : ℕ) (e : State) → 12 ≤ n → n ≤ 12 →
    in_turn test act n e ≡ in_turn test act 12 e
in_turn-all test act n e low high = let is : n ≡ 12 = omega arith in ap (λ k. in_turn test act k e) is

-- none of them has a turn
pub in_turn-all_failing : (test : ℕ → Bool) (act : ℕ → State → State) (n : ℕ) (e : State) →
    ((k : ℕ) → k < n → test k ≡ false) → in_turn test act n e ≡ e
unfolding in_turn
in_turn-all_failing test act zero e h = refl
in_turn-all_failing test act (suc n) e h =
    rw (h n (omega arith)) (in_turn-all_failing test act n e (λ k low. h k (omega arith)))

-- two tests that agree give the same turns
pub in_turn-same : (test other : ℕ → Bool) (act : ℕ → State → State) (n : ℕ) (e : State) →
    ((k : ℕ) → k < n → test k ≡ other k) → in_turn test act n e ≡ in_turn other act n e
unfolding in_turn
in_turn-same test other act zero e h = refl
in_turn-same test other act (suc n) e h =
    rw (h n (omega arith), in_turn-same test other act n e (λ k low. h k (omega arith))) refl

pub after_timers-same : (test other : ℕ → Bool) (e : State) → ((k : ℕ) → k < 12 → test k ≡ other k) → after_timers test e ≡ after_timers other e
unfolding after_timers
after_timers-same test other e h = in_turn-same test other with_credit 12 (with_stepped_timers e) h

pub after_ends-none : (s : State) → ((k : ℕ) → k < 12 → is_over s k ≡ false) → after_ends s ≡ s
unfolding after_ends
after_ends-none s h = in_turn-all_failing (is_over s) with_end 12 s h

-- of the channels below a number it is told which pass the test
pub record TellsBelow (test : ℕ → Bool) (told : List Bool) (number : ℕ) : Type 0 where
  pub size : length told ≡ 12
  pub each : (k : ℕ) → k < number → get_or told k false ≡ test k

pub tells_more : (test : ℕ → Bool) (told : List Bool) (n : ℕ) (b : Bool) → TellsBelow test told n → n < 12 → b ≡ test n →
    TellsBelow test (set told n b) (n + 1)
tells_more test told n b h low e = record {
  size = rw length-set h.size;
  each =
      below_more _ _ (λ k lt. let ne : k ≢ n = omega arith in rw get_or-set_other (h.each k lt))
      (let lt : n < length told = omega (arith, h.size, low) in rw get_or-set_same e);
}

pub ruleset in_turn_laws = (in_turn-none, in_turn-passing, in_turn-failing, in_turn-all)
