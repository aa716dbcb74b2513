-- The choice is found in one pass over the channels in turn, from the first one on.
use Rattle.std.proofs.Common.{◌≡◌, ℕ, zero, suc, ◌+◌, ◌-◌, ◌%◌, ◌<◌, ◌≤◌, Bool, true, false, ◌&&◌, refl, ap, subst, sym, ◌∙◌, arith, Option, Some, None}
use Rattle.dma_engine.specs.State.{State, channel_at}
use Rattle.dma_engine.specs.Control.{is_high}
use Rattle.dma_engine.specs.Choice.{is_ready, is_candidate, first_in_turn, next_candidate, or_else, choice_of}

-- what is found among the channels that are left, where so many after the last one were passed
unfoldable pub found_after : (ℕ → Bool) → ℕ → ℕ → Option ℕ
found_after test last passed = first_in_turn test (last + 1 + passed) (12 - passed)

found_after-none : (test : ℕ → Bool) (last : ℕ) → found_after test last 0 ≡ first_in_turn test (last + 1) 12
unfolding found_after
found_after-none test last = let is : last + 1 + 0 ≡ last + 1 = omega arith in rw is refl

one_more : (test : ℕ → Bool) (n left : ℕ) → test (n % 12) ≡ true → first_in_turn test n (suc left) ≡ Some (n % 12)
unfolding first_in_turn
one_more test n left h = rw h refl

one_less : (test : ℕ → Bool) (n left : ℕ) → test (n % 12) ≡ false →
    first_in_turn test n (suc left) ≡ first_in_turn test (n + 1) left
unfolding first_in_turn
one_less test n left h = rw h refl

found_after-found : (test : ℕ → Bool) (last p : ℕ) → p < 12 → test ((last + 1 + p) % 12) ≡ true →
    found_after test last p ≡ Some ((last + 1 + p) % 12)
unfolding found_after
found_after-found test last p low h =
    let is : 12 - p ≡ suc (11 - p) = omega arith in rw is (one_more test (last + 1 + p) (11 - p) h)

found_after-passed : (test : ℕ → Bool) (last p : ℕ) → p < 12 → test ((last + 1 + p) % 12) ≡ false →
    found_after test last p ≡ found_after test last (p + 1)
unfolding found_after
found_after-passed test last p low h =
    let is : 12 - p ≡ suc (11 - p) = omega arith in
    let left : 12 - (p + 1) ≡ 11 - p = omega arith in
    let next : last + 1 + (p + 1) ≡ last + 1 + p + 1 = omega arith in
    rw (is, left, next) (one_less test (last + 1 + p) (11 - p) h)

found_after-all : (test : ℕ → Bool) (last p : ℕ) → 12 ≤ p → found_after test last p ≡ None
unfolding found_after first_in_turn
found_after-all test last p low = let is : 12 - p ≡ 0 = omega arith in rw is refl

-- ---- candidates of high priority, and all

with_high : (a b h r : Bool) → (a && (b && (true && r))) ≡ true → (a && (b && (h && r))) ≡ h
with_high true true true r e = e
with_high true true false r e = refl
with_high true false h r e = absurd (cc)
with_high false b h r e = absurd (cc)

without_high : (a b h r : Bool) → (a && (b && (true && r))) ≡ false → (a && (b && (h && r))) ≡ false
without_high true true true r e = e
without_high true true false r e = refl
without_high true false h r e = refl
without_high false b h r e = refl

high_of : (counts : ℕ) (s : State) (n : ℕ) → is_candidate false counts s n ≡ true →
    is_candidate true counts s n ≡ is_high (channel_at n s)
high_of counts s n h = with_high (channel_at n s).busy _ (is_high (channel_at n s)) (is_ready counts (channel_at n s) s) h

pub not_of : (counts : ℕ) (s : State) (n : ℕ) → is_candidate false counts s n ≡ false → is_candidate true counts s n ≡ false
not_of counts s n h = without_high (channel_at n s).busy _ (is_high (channel_at n s)) (is_ready counts (channel_at n s) s) h

-- ---- no candidate

none_in_turn : (test : ℕ → Bool) (n left : ℕ) → ((k : ℕ) → k < 12 → test k ≡ false) → first_in_turn test n left ≡ None
unfolding first_in_turn
none_in_turn test n zero h = refl
none_in_turn test n (suc left) h = let low : n % 12 < 12 = omega arith in rw (h (n % 12) low) (none_in_turn test (n + 1) left h)

pub no_choice : (counts : ℕ) (s : State) → ((k : ℕ) → k < 12 → is_candidate false counts s k ≡ false) → choice_of counts s ≡ None
unfolding choice_of
no_choice counts s h =
    let high : next_candidate true counts s ≡ None =
    none_in_turn (is_candidate true counts s) (s.last_chosen + 1) 12 (λ k low. not_of counts s k (h k low)) in
    let others : next_candidate false counts s ≡ None = none_in_turn (is_candidate false counts s) (s.last_chosen + 1) 12 h in
    rw (high, others) refl

-- ---- the pass

-- no channel of high priority was passed, and this is the first of the others that were
pub record IsPassing (counts : ℕ) (s : State) (other : Option ℕ) (passed : ℕ) : Type 0 where
  pub high : found_after (is_candidate true counts s) s.last_chosen passed ≡ next_candidate true counts s
  pub others : or_else other (found_after (is_candidate false counts s) s.last_chosen passed) ≡ next_candidate false counts s

pub passing-none : (counts : ℕ) (s : State) → IsPassing counts s None 0
passing-none counts s = record {
  high = found_after-none (is_candidate true counts s) s.last_chosen;
  others = found_after-none (is_candidate false counts s) s.last_chosen;
}

pub passing-other : (counts : ℕ) (s : State) (other : Option ℕ) (p n : ℕ) → n ≡ (s.last_chosen + 1 + p) % 12 →
    IsPassing counts s other p → p < 12 → is_candidate false counts s n ≡ false → IsPassing counts s other (p + 1)
passing-other counts s other p n is h low e =
    let none : is_candidate false counts s ((s.last_chosen + 1 + p) % 12) ≡ false = subst (λ k. is_candidate false counts s k ≡ false) is e in
    record {
      high = sym (found_after-passed (is_candidate true counts s) s.last_chosen p low (not_of counts s _ none)) ∙ h.high;
      others = ap (λ o. or_else other o) (sym (found_after-passed (is_candidate false counts s) s.last_chosen p low none)) ∙ h.others;
    }

or_else-some : (other : Option ℕ) (n : ℕ) (o : Option ℕ) → or_else (or_else other (Some n)) o ≡ or_else other (Some n)
or_else-some None n o = refl
or_else-some (Some m) n o = refl

pub passing-candidate : (counts : ℕ) (s : State) (other : Option ℕ) (p n : ℕ) → n ≡ (s.last_chosen + 1 + p) % 12 →
    IsPassing counts s other p → p < 12 → is_candidate false counts s n ≡ true → is_high (channel_at n s) ≡ false →
    IsPassing counts s (or_else other (Some n)) (p + 1)
passing-candidate counts s other p n is h low e high =
    let here : is_candidate false counts s ((s.last_chosen + 1 + p) % 12) ≡ true = subst (λ k. is_candidate false counts s k ≡ true) is e in
    record {
      high =
          sym (found_after-passed (is_candidate true counts s) s.last_chosen p low (subst (λ k. is_candidate true counts s k ≡ false) is (high_of counts s n e ∙ high)))
          ∙ h.high;
      others =
          or_else-some other _ _ ∙ ap (λ k. or_else other (Some k)) is
          ∙ ap (λ o. or_else other o) (sym (found_after-found (is_candidate false counts s) s.last_chosen p low here)) ∙ h.others;
    }

pub passing-high : (counts : ℕ) (s : State) (other : Option ℕ) (p n : ℕ) → n ≡ (s.last_chosen + 1 + p) % 12 →
    IsPassing counts s other p → p < 12 → is_candidate false counts s n ≡ true → is_high (channel_at n s) ≡ true → Some n ≡ choice_of counts s
unfolding choice_of
passing-high counts s other p n is h low e high =
    let found : next_candidate true counts s ≡ Some n =
    sym h.high ∙ found_after-found (is_candidate true counts s) s.last_chosen p low (subst (λ k. is_candidate true counts s k ≡ true) is (high_of counts s n e ∙ high))
    ∙ ap Some (sym is) in
    ap (λ o. or_else o (next_candidate false counts s)) (sym found)

or_else-none : (other : Option ℕ) → or_else other None ≡ other
or_else-none None = refl
or_else-none (Some n) = refl

pub passing-all : (counts : ℕ) (s : State) (other : Option ℕ) (p : ℕ) → IsPassing counts s other p → 12 ≤ p → other ≡ choice_of counts s
unfolding choice_of
passing-all counts s other p h low =
    let none : next_candidate true counts s ≡ None =
    sym h.high ∙ found_after-all (is_candidate true counts s) s.last_chosen p low in
    let others : other ≡ next_candidate false counts s =
    sym (or_else-none other) ∙ ap (λ o. or_else other o) (sym (found_after-all (is_candidate false counts s) s.last_chosen p low))
    ∙ h.others in
    others ∙ ap (λ o. or_else o (next_candidate false counts s)) (sym none)

pub ruleset searching = (passing-all)
