-- Acts that take many slots, and that give them back.
use Rattle.std.proofs.Common.{◌≡◌, ℕ, suc, ◌+◌, ◌<◌, ◌≤◌, List, [], ◌∷◌, length, set, refl, ◌∙◌, arith, length-set}
use mathlib.Core.Option.{Option, none, some}
use lib.ListN.{get_elem?}
use Rattle.atomic_table.specs.Table.{Act, keeps, takes, gives, chain, Valid, homes_after}
use Rattle.atomic_table.proofs.Lists.{set_here, set_else}

module _ {S : Type 0} where
  -- take the slots from i on, with these values, the last one first
  abbrev pub grab : ℕ → List S → Act S
  grab i [] = keeps
  grab i (x ∷ xs) = chain (grab (suc i) xs) (takes i x)

  -- give back as many as these
  abbrev pub release : List S → Act S
  release [] = keeps
  release (x ∷ xs) = chain gives (release xs)

  -- the slots from i on have these values at home
  abbrev pub AllHome : List (Option S) → ℕ → List S → Type 0
  AllHome hs i [] = Unit {0}
  AllHome hs i (x ∷ xs) = (get_elem? hs i ≡ some (some x)) × AllHome hs (suc i) xs

  abbrev pub put_all : List (Option S) → ℕ → List S → List (Option S)
  put_all hs i [] = hs
  put_all hs i (x ∷ xs) = put_all (set hs i (some x)) (suc i) xs

  grab_else : (hs : List (Option S)) (c : List (ℕ × S)) (i j : ℕ) (xs : List S) → i < j → get_elem? (homes_after hs c (grab j xs)) i ≡ get_elem? hs i
  grab_else hs c i j [] lt = refl
  grab_else hs c i j (x ∷ xs) lt = set_else (homes_after hs c (grab (suc j) xs)) j i none (λ e. omega arith) ∙ grab_else hs c i (suc j) xs (omega arith)

  pub grab_valid : (hs : List (Option S)) (c : List (ℕ × S)) (i : ℕ) (xs : List S) → AllHome hs i xs → Valid hs c (grab i xs)
  grab_valid hs c i [] at = tt
  grab_valid hs c i (x ∷ xs) at = (grab_valid hs c (suc i) xs at.1, grab_else hs c i (suc i) xs (omega arith) ∙ at.0)

  put_else : (hs : List (Option S)) (i j : ℕ) (xs : List S) → i < j → get_elem? (put_all hs j xs) i ≡ get_elem? hs i
  put_else hs i j [] lt = refl
  put_else hs i j (x ∷ xs) lt = put_else (set hs j (some x)) i (suc j) xs (omega arith) ∙ set_else hs j i (some x) (λ e. omega arith)

  pub put_home : (hs : List (Option S)) (i : ℕ) (xs : List S) → i + length xs ≤ length hs → AllHome (put_all hs i xs) i xs
  put_home hs i [] room = tt
  put_home hs i (x ∷ xs) room = (put_else (set hs i (some x)) i (suc i) xs (omega arith) ∙ set_here hs i (some x) (omega arith), put_home (set hs i (some x)) (suc i) xs (omega (arith, length-set hs i (some x))))
