-- The greatest kept cycle that is not above another one: of one state, and of two lists by those of each.
use Rattle.std.proofs.Common.{◌≡◌, ◌≤◌, ◌<◌, ℕ, ◌==◌, max, true, false, ◌||◌, List, [], ◌∷◌, ◌++◌, ◌∙◌, sym, refl, arith, subst, inl, inr, Option, Some, None}
use Rattle.std.proofs.lemmas.Bool.{or_cases, or_left, or_right, eqb-true, eq-eqb, cases_lt}
use Rattle.std.proofs.lemmas.List.Folds.{list_any-append}
use Rattle.rp_machine.specs.State.{State}
use Rattle.snap_ring.specs.Ring.{is_kept, greater_of, IsNearest}

pub kept_both : (c : ℕ) (a b : List State) → is_kept c (a ++ b) ≡ (is_kept c a || is_kept c b)
kept_both c a b = list_any-append (λ t. t.cycle == c) a b

pub kept_first : (c : ℕ) (a b : List State) → is_kept c a ≡ true → is_kept c (a ++ b) ≡ true
kept_first c a b h = kept_both c a b ∙ or_left (is_kept c a) (is_kept c b) h

pub kept_second : (c : ℕ) (a b : List State) → is_kept c b ≡ true → is_kept c (a ++ b) ≡ true
kept_second c a b h = kept_both c a b ∙ or_right (is_kept c a) (is_kept c b) h

-- one state alone
pub kept_only : (c : ℕ) (s : State) → is_kept c (s ∷ []) ≡ true → s.cycle ≡ c
kept_only c s h = elim (or_cases (s.cycle == c) false h) as (λ _. s.cycle ≡ c) [
  | inl is ↦ eqb-true s.cycle c is
  | inr bad ↦ absurd (cc bad)
]

pub nearest_low : (c : ℕ) (s : State) → s.cycle ≤ c → IsNearest c (s ∷ []) (Some s.cycle)
nearest_low c s le = record {
  is_one = rw (eq-eqb s.cycle s.cycle refl) refl;
  reached = le;
  greatest = λ n kept low. omega (arith, kept_only n s kept);
}

pub nearest_high : (c : ℕ) (s : State) → c < s.cycle → IsNearest c (s ∷ []) None
nearest_high c s lt n kept = omega (arith, kept_only n s kept)

pub nearest_both : (c : ℕ) (a b : List State) (one other : Option ℕ) → IsNearest c b one → IsNearest c a other → IsNearest c (a ++ b) (greater_of one other)
nearest_both c a b None None h k = λ n kept. elim (or_cases (is_kept n a) (is_kept n b) (sym (kept_both n a b) ∙ kept)) as (λ _. c < n) [
  | inl first ↦ k n first
  | inr second ↦ h n second
]
nearest_both c a b None (Some y) h k = record {
  is_one = kept_first y a b k.is_one;
  reached = k.reached;
  greatest = λ n kept le. elim (or_cases (is_kept n a) (is_kept n b) (sym (kept_both n a b) ∙ kept)) as (λ _. n ≤ y) [
    | inl first ↦ k.greatest n first le
    | inr second ↦ absurd (let lt : c < n = h n second in omega arith)
  ];
}
nearest_both c a b (Some x) None h k = record {
  is_one = kept_second x a b h.is_one;
  reached = h.reached;
  greatest = λ n kept le. elim (or_cases (is_kept n a) (is_kept n b) (sym (kept_both n a b) ∙ kept)) as (λ _. n ≤ x) [
    | inl first ↦ absurd (let lt : c < n = k n first in omega arith)
    | inr second ↦ h.greatest n second le
  ];
}
nearest_both c a b (Some x) (Some y) h k =
    let greater_is : is_kept (max x y) (a ++ b) ≡ true = elim (cases_lt x y) as (λ _. is_kept (max x y) (a ++ b) ≡ true) [
      | inl lt ↦ let e : y ≡ max x y = omega arith in subst (λ n. is_kept n (a ++ b) ≡ true) e (kept_first y a b k.is_one)
      | inr ge ↦ let e : x ≡ max x y = omega arith in subst (λ n. is_kept n (a ++ b) ≡ true) e (kept_second x a b h.is_one)
    ] in
    let one : x ≤ c = h.reached in
    let two : y ≤ c = k.reached in
    record {
      is_one = greater_is;
      reached = omega arith;
      greatest = λ n kept le. elim (or_cases (is_kept n a) (is_kept n b) (sym (kept_both n a b) ∙ kept)) as (λ _. n ≤ max x y) [
        | inl first ↦ let low : n ≤ y = k.greatest n first le in omega arith
        | inr second ↦ let low : n ≤ x = h.greatest n second le in omega arith
      ];
    }

pub joined : (cycle : ℕ) (l m : List State) (a b : Option ℕ) → l ≡ m → a ≡ b → IsNearest cycle m b → IsNearest cycle l a
joined cycle l m a b list found h = subst (λ x. IsNearest cycle x a) (sym list) (subst (IsNearest cycle m) (sym found) h)
