-- The two words of the time, read one after the other.
use Rattle.std.proofs.Common.{◌∙◌, ap, ◌≡◌, ℕ, zero, suc, ◌+◌, ◌-◌, ◌%◌, ◌^◌, ◌<◌, Bool, true, false, not, ◌&&◌, cond, Some, refl, arith}
use Rattle.std.specs.Prelude.{◌==◌}
use Rattle.std.proofs.lemmas.Grind.{common_steps}
use Rattle.std.proofs.lemmas.Bool.Decides.{nat_tests}
use Rattle.rp_timer.specs.State.{State, low_of, high_of}
use Rattle.rp_timer.specs.Step.{is_tick, risen, after_cycles}
use Rattle.rp_timer.specs.Laws.{after_low_read, TheTimeReadsAsOne, ACarryTearsTheRead}

-- a cycle leaves what was latched
high-step : (s : State) (b : Bool) → (cond b (risen s) s).high ≡ s.high
high-step s true = refl
high-step s false = refl

high-cycles : (first n : ℕ) (s : State) → (after_cycles first n s).high ≡ s.high
high-cycles first zero s = refl
high-cycles first (suc n) s =
    high-step (after_cycles first n s) (is_tick (first + n) && not (after_cycles first n s).paused) ∙ high-cycles first n s

-- the high word after a time that does not carry, and after one that does
same-high : (t : ℕ) → t < 2 ^ 64 → (low_of t == 2 ^ 32 - 1) ≡ false → high_of ((t + 1) % 2 ^ 64) ≡ high_of t
same-high t h e = grind (arith, nat_tests, common_steps)

next-high : (t : ℕ) → (low_of t == 2 ^ 32 - 1) ≡ true → high_of ((t + 1) % 2 ^ 64) ≡ (high_of t + 1) % 2 ^ 32
next-high t e = grind (arith, nat_tests, common_steps)

last-low : (t : ℕ) → (low_of t == 2 ^ 32 - 1) ≡ true → low_of t ≡ 2 ^ 32 - 1
last-low t e = grind (arith, nat_tests, common_steps)

high-kept : (s : State) (b : Bool) → s.time < 2 ^ 64 → (b && low_of s.time == 2 ^ 32 - 1) ≡ false →
    high_of (cond b (risen s) s).time ≡ high_of s.time
high-kept s true h e = same-high s.time h e
high-kept s false h e = refl

high-risen : (s : State) (b : Bool) → (b && low_of s.time == 2 ^ 32 - 1) ≡ true →
    high_of (cond b (risen s) s).time ≡ (high_of s.time + 1) % 2 ^ 32
high-risen s true e = next-high s.time e
high-risen s false e = cc

low-last : (s : State) (b : Bool) → (b && low_of s.time == 2 ^ 32 - 1) ≡ true → low_of s.time ≡ 2 ^ 32 - 1
low-last s true e = last-low s.time e
low-last s false e = cc

pub the_time_reads_as_one : TheTimeReadsAsOne
the_time_reads_as_one s cycle n h e = record {
  low = refl;
  high =
      ap (λ (x : ℕ). Some x)
      (high-cycles (cycle + 1) n (after_low_read cycle s) ∙ high-kept s (is_tick cycle && not s.paused) h e);
  whole = omega arith;
}

pub a_carry_tears_the_read : ACarryTearsTheRead
a_carry_tears_the_read s cycle n e = record {
  low = ap (λ (x : ℕ). Some x) (low-last s (is_tick cycle && not s.paused) e);
  high =
      ap (λ (x : ℕ). Some x)
      (high-cycles (cycle + 1) n (after_low_read cycle s) ∙ high-risen s (is_tick cycle && not s.paused) e);
}
