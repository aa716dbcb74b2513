-- How long a master waits on APB, and for the wins of others.
use Rattle.std.proofs.Common.{◌≡◌, ◌≢◌, ℕ, zero, suc, ◌-◌, ◌<◌, ◌≤◌, ◌==◌, nat_lt, nat_le, Bool, true, false, ◌&&◌, ◌||◌, ◌⊎◌, inl, inr, cond, List, Option, Some, None, refl, sym, ap, ◌∙◌, arith}
use Rattle.std.specs.Prelude.{is_some, is_none}
use Rattle.std.specs.List.{find}
use Rattle.std.proofs.lemmas.Bool.Decides.{nat_tests}
use Rattle.std.proofs.lemmas.Bool.{eqb-true}
use Rattle.rp_base.specs.declared.Master.{Master}
use Rattle.rp_base.specs.declared.Master.TheVariants.{Core0, Core1, DmaRead, DmaWrite}
use Rattle.bus_fabric.specs.declared.Hold.{Hold}
use Rattle.bus_fabric.specs.Masters.{masters, number_of, distance, Access, access_of, is_on, asks_on}
use Rattle.bus_fabric.specs.State.{State, last_on}
use Rattle.bus_fabric.specs.Grant.{is_high, wins, winner_on, is_served, cycles_left, hold_of, shortened, hold_after, is_access_done, is_done, after_grant}
use Rattle.bus_fabric.specs.WaitLaws.{fabric_at, is_done_in, ApbLaw, WaitLaw}
use Rattle.bus_fabric.proofs.Arbitration.{and_left, and_right, round, arbitrated, or_cases, of_equals}
use Rattle.bus_fabric.proofs.Fairness.{find_one}

-- ---- an access on APB

none_of : (hold : Option Hold) → is_some hold ≡ false → hold ≡ None
none_of None h = refl
none_of (Some hold) h = cc

done_on_apb : (asked : List (Option Access)) (s : State) (m : Master) (writes : Bool) → access_of asked m ≡ Some (6, writes) →
    is_done asked s m ≡ is_served s.hold m
done_on_apb asked s m writes asks = ap (is_access_done asked s m) asks

asks_apb : (asked : List (Option Access)) (m : Master) (writes : Bool) → access_of asked m ≡ Some (6, writes) → asks_on asked 6 m ≡ true
asks_apb asked m writes asks = ap (is_on 6) asks

wins_apb : (asked : List (Option Access)) (s : State) (m : Master) → s.hold ≡ None → asks_on asked 6 m ≡ true →
    ((other : Master) → other ≢ m → asks_on asked 6 other ≡ false) → winner_on asked s 6 ≡ Some m
wins_apb asked s m free asks alone =
    let law = arbitrated (is_high s.priority) (last_on 6 s) (asks_on asked 6) in
    let won = law.alone m asks alone in
    ap (λ h. cond (is_none h) (find (wins (is_high s.priority) (last_on 6 s) (asks_on asked 6)) masters) None) free
    ∙ find_one (wins (is_high s.priority) (last_on 6 s) (asks_on asked 6)) m won (λ n h. law.one n m h won)

abbrev held : Master → ℕ → Option Hold
held m left = Some (record { holder = Some m; left = left })

hold_begins : (asked : List (Option Access)) (s : State) (m : Master) (writes : Bool) → s.hold ≡ None →
    access_of asked m ≡ Some (6, writes) → ((other : Master) → other ≢ m → asks_on asked 6 other ≡ false) →
    (after_grant asked s).hold ≡ held m (cond writes 3 2)
hold_begins asked s m writes free asks alone =
    ap (hold_after asked s) free
    ∙ ap (hold_of asked) (wins_apb asked s m free (asks_apb asked m writes asks) alone)
    ∙ ap (λ a. held m (cycles_left a)) asks

hold_goes_on : (asked : List (Option Access)) (s : State) (m : Master) (writes : Bool) (left : ℕ) → s.hold ≡ held m left →
    nat_le left 1 ≡ false → access_of asked m ≡ Some (6, writes) → (after_grant asked s).hold ≡ held m (left - 1)
hold_goes_on asked s m writes left h later asks =
    ap (hold_after asked s) h
    ∙ ap (λ b. cond b None (Some (shortened (asks_on asked 6) (record { holder = Some m; left = left })))) later
    ∙ ap (λ b. Some (record { holder = cond b (Some m) None; left = left - 1 })) (asks_apb asked m writes asks)

is_itself : (m : Master) → (number_of m == number_of m) ≡ true
is_itself Core0 = refl
is_itself _ = refl

below_2 : (test : ℕ → Bool) → test 0 ≡ false → test 1 ≡ false → (n : ℕ) → n < 2 → test n ≡ false
below_2 test a b zero low = a
below_2 test a b (suc zero) low = b
below_2 test a b (suc (suc n)) low = absurd (omega arith)

below_3 : (test : ℕ → Bool) → test 0 ≡ false → test 1 ≡ false → test 2 ≡ false → (n : ℕ) → n < 3 → test n ≡ false
below_3 test a b c zero low = a
below_3 test a b c (suc zero) low = b
below_3 test a b c (suc (suc zero)) low = c
below_3 test a b c (suc (suc (suc n))) low = absurd (omega arith)

-- what is told of an access whose hold is known
told : (asked : List (Option Access)) (s : State) (m : Master) (writes : Bool) (hold : Option Hold) → access_of asked m ≡ Some (6, writes) →
    s.hold ≡ hold → is_done asked s m ≡ is_served hold m
told asked s m writes hold asks is = done_on_apb asked s m writes asks ∙ ap (λ h. is_served h m) is

pub apb_law : ApbLaw
apb_law asked s m false free asks alone =
    let h0 = none_of s.hold free in
    let h1 = hold_begins (asked 0) s m false h0 (asks 0) alone in
    let h2 = hold_goes_on (asked 1) (fabric_at asked s 1) m false 2 h1 refl (asks 1) in
    record {
      before = below_2 (is_done_in asked s m) (told (asked 0) s m false None (asks 0) h0)
          (told (asked 1) (fabric_at asked s 1) m false (held m 2) (asks 1) h1);
      done = told (asked 2) (fabric_at asked s 2) m false (held m 1) (asks 2) h2 ∙ is_itself m;
    }
apb_law asked s m true free asks alone =
    let h0 = none_of s.hold free in
    let h1 = hold_begins (asked 0) s m true h0 (asks 0) alone in
    let h2 = hold_goes_on (asked 1) (fabric_at asked s 1) m true 3 h1 refl (asks 1) in
    let h3 = hold_goes_on (asked 2) (fabric_at asked s 2) m true 2 h2 refl (asks 2) in
    record {
      before = below_3 (is_done_in asked s m) (told (asked 0) s m true None (asks 0) h0)
          (told (asked 1) (fabric_at asked s 1) m true (held m 3) (asks 1) h1)
          (told (asked 2) (fabric_at asked s 2) m true (held m 2) (asks 2) h2);
      done = told (asked 3) (fabric_at asked s 3) m true (held m 1) (asks 3) h3 ∙ is_itself m;
    }

-- ---- the wins of others

abbrev for_each : (Master → Bool) → Bool
for_each test = test Core0 && (test Core1 && (test DmaRead && (test DmaWrite && true)))

for_each-at : (test : Master → Bool) (m : Master) → for_each test ≡ true → test m ≡ true
for_each-at test Core0 h = and_left _ _ h
for_each-at test Core1 h = and_left _ _ (and_right (test Core0) _ h)
for_each-at test DmaRead h = and_left _ _ (and_right (test Core1) _ (and_right (test Core0) _ h))
for_each-at test DmaWrite h = and_left _ _ (and_right (test DmaRead) _ (and_right (test Core1) _ (and_right (test Core0) _ h)))

-- of two masters one is nearer, and the nearer one's win brings the other nearer
abbrev comes_nearer : Master → Master → Master → Bool
comes_nearer last w m =
    number_of w == number_of m || (nat_lt (distance last m) (distance last w) || nat_lt (distance w m) (distance last m))

all_nearer : for_each (λ last. for_each (λ w. for_each (λ m. comes_nearer last w m))) ≡ true
all_nearer = refl

one_nearer : (last w m : Master) → comes_nearer last w m ≡ true
one_nearer last w m =
    for_each-at (comes_nearer last w) m
    (for_each-at (λ v. for_each (comes_nearer last v)) w (for_each-at (λ l. for_each (λ v. for_each (comes_nearer l v))) last all_nearer))

by_number : ℕ → Master
by_number zero = Core0
by_number (suc zero) = Core1
by_number (suc (suc zero)) = DmaRead
by_number (suc (suc (suc n))) = DmaWrite

numbered : (m : Master) → by_number (number_of m) ≡ m
unfolding by_number
numbered Core0 = refl
numbered _ = refl

same_number : (m n : Master) → (number_of m == number_of n) ≡ true → m ≡ n
same_number m n h = sym (numbered m) ∙ ap by_number (eqb-true (number_of m) (number_of n) h) ∙ numbered n

below_of : (a b : ℕ) → nat_lt a b ≡ true → a < b
below_of a b h = grind (arith, nat_tests)

never_below : (d0 d1 d2 d3 d4 : ℕ) → d0 ≤ 4 → d1 < d0 → d2 < d1 → d3 < d2 → d4 < d3 → 1 ≤ d4 → ⊥
never_below d0 d1 d2 d3 d4 a b c d e f = omega arith

in_four : (k : ℕ) → nat_lt k 4 ≡ true → k < 4
in_four k h = below_of k 4 h

nearer_by : (high : Master → Bool) (last : Master) (asks : Master → Bool) (w m : Master) → wins high last asks w ≡ true → asks m ≡ true →
    high w ≡ high m → (w ≡ m) ⊎ (distance w m < distance last m)
nearer_by high last asks w m won is same =
    elim (or_cases _ _ (one_nearer last w m)) [
      | inl e ↦ inl (same_number w m e)
      | inr r ↦ elim (or_cases _ _ r) [
        | inl first ↦ let lost = (arbitrated high last asks).unbeaten w m won is in
            let beaten = of_equals (high m) (high w) (distance last m) (distance last w) (sym same) first in absurd cc
        | inr near ↦ inr (below_of (distance w m) (distance last m) near)
      ]
    ]

pub wait_law : WaitLaw
wait_law high asks last m winners is equals =
    let near : (k : ℕ) → (last (suc k) ≡ m) ⊎ (distance (last (suc k)) m < distance (last k) m) =
    λ k. nearer_by high (last k) (asks k) (last (suc k)) m (winners k) (is k)
    (equals k (last (suc k)) ((arbitrated high (last k) (asks k)).asks_itself (last (suc k)) (winners k))) in
    let most = (round (last 0) m).high in
    let least = (round (last 4) m).low in
    elim (near 0) [
      | inl e ↦ (0, (in_four 0 refl, e))
      | inr h0 ↦ elim (near 1) [
        | inl e ↦ (1, (in_four 1 refl, e))
        | inr h1 ↦ elim (near 2) [
          | inl e ↦ (2, (in_four 2 refl, e))
          | inr h2 ↦ elim (near 3) [
            | inl e ↦ (3, (in_four 3 refl, e))
            | inr h3 ↦ absurd (never_below _ _ _ _ _ most h0 h1 h2 h3 least)
          ]
        ]
      ]
    ]
