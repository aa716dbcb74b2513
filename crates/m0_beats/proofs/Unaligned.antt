-- When words at ascending addresses are unaligned.
use Rattle.std.proofs.Common.{◌≡◌, ◌≢◌, ℕ, ◌+◌, ◌%◌, ◌^◌, ◌<◌, true, false, not, nat_eq, List, [], ◌∷◌, length, refl, sym, ap, ◌∙◌, arith, inl, inr}
use Rattle.std.specs.Prelude.{Option, ◌||◌, map}
use Rattle.std.specs.List.{list_any}
use Rattle.std.proofs.lemmas.Nat.{zero_from_ones}
use Rattle.std.proofs.lemmas.List.{length-map}
use Rattle.std.proofs.lemmas.Bool.Decides.{nat_tests, eqb_tells}
use Rattle.m0_beats.specs.Beats.{accesses, is_unaligned_beat, registers_of}
use Rattle.m0_beats.proofs.Lists.{registers_count}

-- words from an address that is a multiple of 4
aligned_words : (address : ℕ) (writes : List (Option ℕ)) → address % 4 ≡ 0 → list_any is_unaligned_beat (accesses address writes) ≡ false
aligned_words address [] here = refl
aligned_words address (write ∷ writes) here =
    let next : (address + 4) % 2 ^ 32 % 4 ≡ 0 = omega arith in
    let test : nat_eq (address % 4) 0 ≡ true = grind (arith, nat_tests) in
    ap (λ t. not t || list_any is_unaligned_beat (accesses ((address + 4) % 2 ^ 32) writes)) test
    ∙ aligned_words ((address + 4) % 2 ^ 32) writes next

-- words from another address, of which there are some
unaligned_words : (address : ℕ) (writes : List (Option ℕ)) → address % 4 ≢ 0 → 0 < length writes → list_any is_unaligned_beat (accesses address writes) ≡ true
unaligned_words address [] here some = absurd (omega arith)
unaligned_words address (write ∷ writes) here some =
    let test : nat_eq (address % 4) 0 ≡ false = grind (arith, nat_tests) in
    ap (λ t. not t || list_any is_unaligned_beat (accesses ((address + 4) % 2 ^ 32) writes)) test

-- a list that is not 0 has registers
some_registers : (list : ℕ) → list < 2 ^ 16 → list ≢ 0 → 0 < length (registers_of list)
some_registers list fits some =
    let none : length (registers_of list) ≡ 0 → ⊥ = λ e. some (zero_from_ones list (sym (registers_count list fits) ∙ e)) in
    omega arith

no_registers : (list : ℕ) → list ≡ 0 → registers_of list ≡ []
unfolding registers_of
no_registers list e = ap registers_of e

pub empty_list : (list address : ℕ) (write : ℕ → Option ℕ) → list ≡ 0 → false ≡ list_any is_unaligned_beat (accesses address (map write (registers_of list)))
empty_list list address write e =
    sym (ap (λ ks. list_any is_unaligned_beat (accesses address (map write ks))) (no_registers list e))

pub some_list : (list address : ℕ) (write : ℕ → Option ℕ) → list < 2 ^ 16 → list ≢ 0 → not (nat_eq (address % 4) 0) ≡ list_any is_unaligned_beat (accesses address (map write (registers_of list)))
some_list list address write fits some =
    elim (eqb_tells (address % 4) 0) [
      | inl e ↦ ap not e.0 ∙ sym (aligned_words address (map write (registers_of list)) e.1)
      | inr e ↦
          let count : 0 < length (map write (registers_of list)) = simp length-map (some_registers list fits some) in
          ap not e.0 ∙ sym (unaligned_words address (map write (registers_of list)) e.1 count)
    ]
