-- What is found first in turn has its turn before all others that pass.
use Rattle.std.proofs.Common.{◌≡◌, ℕ, zero, suc, ◌+◌, ◌-◌, ◌%◌, ◌<◌, ◌≤◌, ◌⊎◌, inl, inr, Bool, true, false, cond, refl, ap, sym, subst, ◌∙◌, arith, true≢false, Option, Some, None}
use Rattle.dma_engine.specs.State.{State}
use Rattle.dma_engine.specs.Choice.{is_candidate, first_in_turn, next_candidate, or_else, choice_of}
use Rattle.dma_engine.specs.Laws.{turns_before, IsFirst, IsChoice, TheChoiceComesFirst}

-- the steps from a on, of so many, at which a test passes for the first time
record PassesAt (test : ℕ → Bool) (a left n : ℕ) : Type 0 where
  steps : ℕ
  within : steps < left
  is : n ≡ (a + steps) % 12
  passes : test n ≡ true
  before : (j : ℕ) → j < steps → test ((a + j) % 12) ≡ false

abbrev IsFound : (ℕ → Bool) → ℕ → ℕ → Option ℕ → Type 0
IsFound test a left None = (j : ℕ) → j < left → test ((a + j) % 12) ≡ false
IsFound test a left (Some n) = PassesAt test a left n

here_or_later : (j : ℕ) → (j ≡ 0) ⊎ (0 < j)
here_or_later j = grind arith

shifted : (test : ℕ → Bool) (a j : ℕ) → 0 < j → test ((a + 1 + (j - 1)) % 12) ≡ false → test ((a + j) % 12) ≡ false
shifted test a j h e = let is : a + 1 + (j - 1) ≡ a + j = omega arith in subst (λ k. test (k % 12) ≡ false) is e

at_first : (test : ℕ → Bool) (a : ℕ) → test (a % 12) ≡ false → test ((a + 0) % 12) ≡ false
at_first test a e = let is : a ≡ a + 0 = omega arith in subst (λ k. test (k % 12) ≡ false) is e

none_later : (test : ℕ → Bool) (a left : ℕ) → test (a % 12) ≡ false →
    ((j : ℕ) → j < left → test ((a + 1 + j) % 12) ≡ false) → (j : ℕ) → j < suc left → test ((a + j) % 12) ≡ false
none_later test a left e h j low =
    elim (here_or_later j) [
      | inl zero_is ↦ subst (λ k. test ((a + k) % 12) ≡ false) (sym zero_is) (at_first test a e)
      | inr later ↦ shifted test a j later (h (j - 1) (omega arith))
    ]

found_later : (test : ℕ → Bool) (a left n : ℕ) → test (a % 12) ≡ false → PassesAt test (a + 1) left n →
    PassesAt test a (suc left) n
found_later test a left n e h = record {
  steps = suc h.steps;
  within = omega (arith, h.within);
  is = let same : a + 1 + h.steps ≡ a + suc h.steps = omega arith in h.is ∙ ap (λ k. k % 12) same;
  passes = h.passes;
  before = none_later test a h.steps e h.before;
}

later : (test : ℕ → Bool) (a left : ℕ) (o : Option ℕ) → test (a % 12) ≡ false → IsFound test (a + 1) left o →
    IsFound test a (suc left) o
later test a left None e h = none_later test a left e h
later test a left (Some n) e h = found_later test a left n e h

found_here : (test : ℕ → Bool) (a left : ℕ) → test (a % 12) ≡ true → PassesAt test a (suc left) (a % 12)
found_here test a left e = record {
  steps = 0;
  within = omega arith;
  is = let same : a ≡ a + 0 = omega arith in ap (λ k. k % 12) same;
  passes = e;
  before = λ j low. absurd (omega arith);
}

found_step : (test : ℕ → Bool) (a left : ℕ) (b : Bool) → test (a % 12) ≡ b → IsFound test (a + 1) left (first_in_turn test (a + 1) left) →
    IsFound test a (suc left) (cond b (Some (a % 12)) (first_in_turn test (a + 1) left))
found_step test a left true e h = found_here test a left e
found_step test a left false e h = later test a left (first_in_turn test (a + 1) left) e h

found : (test : ℕ → Bool) (a left : ℕ) → IsFound test a left (first_in_turn test a left)
unfolding first_in_turn
found test a zero = λ j low. absurd (omega arith)
found test a (suc left) = found_step test a left (test (a % 12)) refl (found test (a + 1) left)

-- the channel whose turn comes after so many others
turn_of : (last m : ℕ) → m < 12 → (last + 1 + turns_before last m) % 12 ≡ m
turn_of last m h = omega arith

turns_of : (last k : ℕ) → k < 12 → turns_before last ((last + 1 + k) % 12) ≡ k
turns_of last k h = omega arith

turns_below : (last m : ℕ) → turns_before last m < 12
turns_below last m = omega arith

none_at_all : (test : ℕ → Bool) (last : ℕ) → ((j : ℕ) → j < 12 → test ((last + 1 + j) % 12) ≡ false) → (m : ℕ) → m < 12 → test m ≡ false
none_at_all test last h m low =
    subst (λ k. test k ≡ false) (turn_of last m low) (h (turns_before last m) (turns_below last m))

below_or_not : (a b : ℕ) → (a ≤ b) ⊎ (b < a)
below_or_not a b = grind arith

none_before : (test : ℕ → Bool) (last n m : ℕ) → PassesAt test (last + 1) 12 n → m < 12 → test m ≡ true →
    turns_before last n ≤ turns_before last m
none_before test last n m h low e =
    let turns : turns_before last n ≡ h.steps = ap (λ k. turns_before last k) h.is ∙ turns_of last h.steps h.within in
    elim (below_or_not (turns_before last n) (turns_before last m)) [
      | inl fine ↦ fine
      | inr below ↦
          absurd (true≢false (sym e
          ∙ subst (λ k. test k ≡ false) (turn_of last m low) (h.before (turns_before last m) (omega arith))))
    ]

first_is : (high : Bool) (counts : ℕ) (s : State) (n : ℕ) → PassesAt (is_candidate high counts s) (s.last_chosen + 1) 12 n →
    IsFirst high counts s n
first_is high counts s n h = record {
  number = subst (λ k. k < 12) (sym h.is) (omega arith);
  candidate = h.passes;
  first = λ m low e. none_before (is_candidate high counts s) s.last_chosen n m h low e;
}

choice_by : (counts : ℕ) (s : State) (first other : Option ℕ) →
    IsFound (is_candidate true counts s) (s.last_chosen + 1) 12 first →
    IsFound (is_candidate false counts s) (s.last_chosen + 1) 12 other → IsChoice counts s (or_else first other)
choice_by counts s (Some n) other h i = inl (first_is true counts s n h)
choice_by counts s None (Some n) h i =
    inr (none_at_all (is_candidate true counts s) s.last_chosen h, first_is false counts s n i)
choice_by counts s None None h i = none_at_all (is_candidate false counts s) s.last_chosen i

pub choice_comes_first : TheChoiceComesFirst
unfolding choice_of
choice_comes_first counts s =
    choice_by counts s (next_candidate true counts s) (next_candidate false counts s)
    (found (is_candidate true counts s) (s.last_chosen + 1) 12) (found (is_candidate false counts s) (s.last_chosen + 1) 12)
