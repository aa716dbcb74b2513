-- The execution priority is the least of the active exceptions' and of that of PRIMASK.
use Rattle.std.proofs.Common.{◌≡◌, ℕ, Bool, true, false, ◌||◌, refl, cond, inl, inr, ◌⊎◌, ℤ, pos, arith, Option, Some, None}
use Rattle.std.specs.Prelude.{int_lt}
use Rattle.std.specs.Int.{int_min}
use Rattle.std.proofs.lemmas.Grind.{common_steps}
use Rattle.std.proofs.lemmas.Int.{ints}
use Rattle.std.proofs.lemmas.Bool.Decides.{nat_tests}
use Rattle.m0_nvic.specs.State.{State}
use Rattle.m0_nvic.specs.Numbers.{is_member}
use Rattle.m0_nvic.specs.Priority.{rank_of, least_of, IsLeast, rank_or_none}
use Rattle.m0_nvic.specs.Laws.{IsLeastInForce, ThePriorityIsTheLeast}
use Rattle.m0_nvic.proofs.Least.{least_of-is}

neither : (a b : Bool) → (a || b) ≡ false → a ≡ false
neither true b h = h
neither false b h = refl

contrary : {A : Type 0} (b : Bool) → b ≡ true → b ≡ false → A
contrary b h i = absurd (grind (arith, common_steps))

min_is : (a : ℤ) → (int_min a (pos 0) ≡ a) ⊎ (int_min a (pos 0) ≡ pos 0)
min_is a = go (int_lt (pos 0) a)
  where
    go : (b : Bool) → (cond b (pos 0) a ≡ a) ⊎ (cond b (pos 0) a ≡ pos 0)
    go true = inr refl
    go false = inl refl

not_below_min : (r a : ℤ) → int_lt r a ≡ false → int_lt r (int_min a (pos 0)) ≡ false
not_below_min r a h = grind (arith, ints, nat_tests)

min_not_above : (a : ℤ) → int_lt (pos 0) (int_min a (pos 0)) ≡ false
min_not_above a = grind (arith, ints, nat_tests)

in_force : (s : State) (primask : Bool) (o : Option ℕ) → IsLeast s s.active o
    → IsLeastInForce s primask (cond primask (int_min (rank_or_none s o) (pos 0)) (rank_or_none s o))
in_force s false None h = record {
  of_some = inr (inr (h, refl, refl));
  of_active = λ n member. contrary (is_member n s.active) member (h n);
  of_mask = λ e. contrary false e refl;
}
in_force s false (Some m) h = record {
  of_some = inl (m, h.0, refl);
  of_active = λ n member. neither (int_lt (rank_of s n) (rank_of s m)) _ (h.1 n member);
  of_mask = λ e. contrary false e refl;
}
in_force s true None h = record {
  of_some = inr (inl (refl, refl));
  of_active = λ n member. contrary (is_member n s.active) member (h n);
  of_mask = λ e. refl;
}
in_force s true (Some m) h = record {
  of_some = elim (min_is (rank_of s m)) [ inl same ↦ inl (m, h.0, same) | inr zero ↦ inr (inl (refl, zero)) ];
  of_active = λ n member. not_below_min (rank_of s n) (rank_of s m) (neither (int_lt (rank_of s n) (rank_of s m)) _ (h.1 n member));
  of_mask = λ e. min_not_above (rank_of s m);
}

pub the_priority_is_the_least : ThePriorityIsTheLeast
the_priority_is_the_least s primask = in_force s primask (least_of s s.active) (least_of-is s s.active)
