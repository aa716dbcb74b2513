-- The winner of a port: there is one where a master asks, and no other.
use Rattle.std.proofs.Common.{◌≡◌, ◌≢◌, ℕ, ◌==◌, nat_lt, Bool, true, false, not, ◌&&◌, ◌||◌, ◌⊎◌, cond, refl, inl, inr, sym, ◌∙◌, ap, arith}
use Rattle.std.proofs.lemmas.Bool.Decides.{nat_tests}
use Rattle.rp_base.specs.declared.Master.{Master}
use Rattle.rp_base.specs.declared.Master.TheVariants.{Core0, Core1, DmaRead, DmaWrite}
use Rattle.bus_fabric.specs.Masters.{distance}
use Rattle.bus_fabric.specs.Grant.{beats, wins}
use Rattle.bus_fabric.specs.Laws.{steps_from, IsDistance, ArbitrationLaw}

-- ---- truth values

pub and_left : (a b : Bool) → (a && b) ≡ true → a ≡ true
and_left true b h = refl
and_left false b h = h

pub and_right : (a b : Bool) → (a && b) ≡ true → b ≡ true
and_right true b h = h
and_right false b h = cc

and_in : (a b : Bool) → a ≡ true → b ≡ true → (a && b) ≡ true
and_in true b h i = i
and_in false b h i = h

not_both : (a b : Bool) → not (a && b) ≡ true → a ≡ true → b ≡ false
not_both true true h i = sym h
not_both true false h i = refl
not_both false b h i = cc

without_first : (a b : Bool) → a ≡ false → not (a && b) ≡ true
without_first true b h = cc
without_first false b h = refl

without_second : (a b : Bool) → b ≡ false → not (a && b) ≡ true
without_second true true h = cc
without_second true false h = refl
without_second false b h = refl

-- a test of both truth values
for_both : (Bool → Bool) → Bool
for_both test = test true && test false

for_both-at : (test : Bool → Bool) (b : Bool) → for_both test ≡ true → test b ≡ true
unfolding for_both
for_both-at test true h = and_left _ _ h
for_both-at test false h = and_right _ _ h

-- ---- ranks

-- of two masters one beats the other
one_way : (h k : Bool) (i j : ℕ) → (nat_lt (cond h 0 1) (cond k 0 1) || (cond h 0 1 == cond k 0 1 && nat_lt i j)) ≡ false → (nat_lt (cond k 0 1) (cond h 0 1) || (cond k 0 1 == cond h 0 1 && nat_lt j i)) ≡ false → i ≡ j
one_way true true i j a b = grind (arith, nat_tests)
one_way true false i j a b = cc
one_way false true i j a b = cc
one_way false false i j a b = grind (arith, nat_tests)

no_self : (h : Bool) (i : ℕ) → (nat_lt (cond h 0 1) (cond h 0 1) || (cond h 0 1 == cond h 0 1 && nat_lt i i)) ≡ false
no_self true i = grind (arith, nat_tests)
no_self false i = grind (arith, nat_tests)

-- ---- the round

arrived : {last m : Master} → steps_from (distance last m) last ≡ m → IsDistance last m
arrived is = record { low = omega arith; high = omega arith; arrives = is }

pub round : (last m : Master) → IsDistance last m
round Core0 Core0 = arrived refl
round Core0 Core1 = arrived refl
round Core0 DmaRead = arrived refl
round Core0 DmaWrite = arrived refl
round Core1 Core0 = arrived refl
round Core1 Core1 = arrived refl
round Core1 DmaRead = arrived refl
round Core1 DmaWrite = arrived refl
round DmaRead Core0 = arrived refl
round DmaRead Core1 = arrived refl
round DmaRead DmaRead = arrived refl
round DmaRead DmaWrite = arrived refl
round DmaWrite Core0 = arrived refl
round DmaWrite Core1 = arrived refl
round DmaWrite DmaRead = arrived refl
round DmaWrite DmaWrite = arrived refl

same_distance : (last m n : Master) → distance last m ≡ distance last n → m ≡ n
same_distance last m n is =
    let first = (round last m).arrives in
    let second = (round last n).arrives in
    sym first ∙ ap (λ k. steps_from k last) is ∙ second

-- ---- the winner

wins_asks : (high : Master → Bool) (last : Master) (asks : Master → Bool) (m : Master) → wins high last asks m ≡ true → asks m ≡ true
wins_asks high last asks m won = and_left (asks m) _ won

-- no request of n beats that of m
abbrev is_free : (Master → Bool) → Master → (Master → Bool) → Master → Master → Bool
is_free high last asks m n = not (asks n && beats high last n m)

all_free : (high : Master → Bool) (last : Master) (asks : Master → Bool) (m : Master) → wins high last asks m ≡ true → (n : Master) → is_free high last asks m n ≡ true
all_free high last asks m won n =
    let c0 = is_free high last asks m Core0 in
    let c1 = is_free high last asks m Core1 in
    let c2 = is_free high last asks m DmaRead in
    let c3 = is_free high last asks m DmaWrite in
    let from0 = and_right (asks m) (c0 && (c1 && (c2 && (c3 && true)))) won in
    let from1 = and_right c0 (c1 && (c2 && (c3 && true))) from0 in
    let from2 = and_right c1 (c2 && (c3 && true)) from1 in
    let from3 = and_right c2 (c3 && true) from2 in
    elim n as (λ n. is_free high last asks m n ≡ true) [
      | Core0 ↦ and_left c0 (c1 && (c2 && (c3 && true))) from0
      | Core1 ↦ and_left c1 (c2 && (c3 && true)) from1
      | DmaRead ↦ and_left c2 (c3 && true) from2
      | DmaWrite ↦ and_left c3 true from3
    ]

unbeaten : (high : Master → Bool) (last : Master) (asks : Master → Bool) (m n : Master) → wins high last asks m ≡ true → asks n ≡ true → beats high last n m ≡ false
unbeaten high last asks m n won is = not_both (asks n) (beats high last n m) (all_free high last asks m won n) is

one : (high : Master → Bool) (last : Master) (asks : Master → Bool) (m n : Master) → wins high last asks m ≡ true → wins high last asks n ≡ true → m ≡ n
one high last asks m n first second =
    same_distance last m n (one_way (high m) (high n) (distance last m) (distance last n)
    (unbeaten high last asks n m second (wins_asks high last asks m first))
    (unbeaten high last asks m n first (wins_asks high last asks n second)))

alone : (high : Master → Bool) (last : Master) (asks : Master → Bool) (m : Master) → asks m ≡ true → ((n : Master) → n ≢ m → asks n ≡ false) → wins high last asks m ≡ true
alone high last asks Core0 is none =
    and_in _ _ is (and_in _ _ (without_second _ _ (no_self (high Core0) (distance last Core0))) (and_in _ _ (without_first _ _ (none Core1 (λ e. cc)))
    (and_in _ _ (without_first _ _ (none DmaRead (λ e. cc))) (and_in _ _ (without_first _ _ (none DmaWrite (λ e. cc))) refl))))
alone high last asks Core1 is none =
    and_in _ _ is (and_in _ _ (without_first _ _ (none Core0 (λ e. cc))) (and_in _ _ (without_second _ _ (no_self (high Core1) (distance last Core1)))
    (and_in _ _ (without_first _ _ (none DmaRead (λ e. cc))) (and_in _ _ (without_first _ _ (none DmaWrite (λ e. cc))) refl))))
alone high last asks DmaRead is none =
    and_in _ _ is (and_in _ _ (without_first _ _ (none Core0 (λ e. cc))) (and_in _ _ (without_first _ _ (none Core1 (λ e. cc)))
    (and_in _ _ (without_second _ _ (no_self (high DmaRead) (distance last DmaRead))) (and_in _ _ (without_first _ _ (none DmaWrite (λ e. cc))) refl))))
alone high last asks DmaWrite is none =
    and_in _ _ is (and_in _ _ (without_first _ _ (none Core0 (λ e. cc))) (and_in _ _ (without_first _ _ (none Core1 (λ e. cc)))
    (and_in _ _ (without_first _ _ (none DmaRead (λ e. cc))) (and_in _ _ (without_second _ _ (no_self (high DmaWrite) (distance last DmaWrite))) refl))))

-- ---- that there is one: a table of all requests and priorities

abbrev by_master : Bool → Bool → Bool → Bool → Master → Bool
by_master a b c d Core0 = a
by_master a b c d Core1 = b
by_master a b c d DmaRead = c
by_master a b c d DmaWrite = d

abbrev any_master : (Master → Bool) → Bool
any_master test = test Core0 || (test Core1 || (test DmaRead || test DmaWrite))

abbrev has_winner : Master → Bool → Bool → Bool → Bool → Bool → Bool → Bool → Bool → Bool
has_winner last a b c d h i j k =
    not (any_master (by_master a b c d)) || any_master (wins (by_master h i j k) last (by_master a b c d))

every_table : (last : Master) → for_both (λ a. for_both (λ b. for_both (λ c. for_both (λ d. for_both (λ h. for_both (λ i. for_both (λ j. for_both (has_winner last a b c d h i j)))))))) ≡ true
unfolding for_both
every_table Core0 = refl
every_table _ = refl

winner_in_table : (last : Master) (a b c d h i j k : Bool) → has_winner last a b c d h i j k ≡ true
winner_in_table last a b c d h i j k =
    for_both-at (has_winner last a b c d h i j) k
    (for_both-at _ j (for_both-at _ i (for_both-at _ h (for_both-at _ d (for_both-at _ c (for_both-at _ b (for_both-at _ a (every_table last))))))))

follows : (a b : Bool) → (not a || b) ≡ true → a ≡ true → b ≡ true
follows true b h i = h
follows false b h i = cc

or_left : (a b : Bool) → a ≡ true → (a || b) ≡ true
or_left true b h = refl
or_left false b h = cc

or_right : (a b : Bool) → b ≡ true → (a || b) ≡ true
or_right true b h = refl
or_right false b h = h

pub or_cases : (a b : Bool) → (a || b) ≡ true → (a ≡ true) ⊎ (b ≡ true)
or_cases true b h = inl refl
or_cases false b h = inr h

any_in : (test : Master → Bool) (m : Master) → test m ≡ true → any_master test ≡ true
any_in test Core0 h = or_left (test Core0) (test Core1 || (test DmaRead || test DmaWrite)) h
any_in test Core1 h =
    or_right (test Core0) (test Core1 || (test DmaRead || test DmaWrite)) (or_left (test Core1) (test DmaRead || test DmaWrite) h)
any_in test DmaRead h =
    or_right (test Core0) (test Core1 || (test DmaRead || test DmaWrite))
    (or_right (test Core1) (test DmaRead || test DmaWrite) (or_left (test DmaRead) (test DmaWrite) h))
any_in test DmaWrite h =
    or_right (test Core0) (test Core1 || (test DmaRead || test DmaWrite))
    (or_right (test Core1) (test DmaRead || test DmaWrite) (or_right (test DmaRead) (test DmaWrite) h))

any_out : (test : Master → Bool) → any_master test ≡ true → (n : Master) × (test n ≡ true)
any_out test h =
    elim (or_cases _ _ h) [
      | inl e ↦ (Core0, e)
      | inr r ↦ elim (or_cases _ _ r) [
        | inl e ↦ (Core1, e)
        | inr s ↦ elim (or_cases _ _ s) [ inl e ↦ (DmaRead, e) | inr e ↦ (DmaWrite, e) ]
      ]
    ]

some : (high : Master → Bool) (last : Master) (asks : Master → Bool) (m : Master) → asks m ≡ true → (n : Master) × (wins high last asks n ≡ true)
some high last asks m is =
    any_out (wins high last asks) (follows (any_master asks) (any_master (wins high last asks))
    (winner_in_table last (asks Core0) (asks Core1) (asks DmaRead) (asks DmaWrite) (high Core0) (high Core1) (high DmaRead) (high DmaWrite))
    (any_in asks m is))

-- every other master is nearer than the one that won last
nearer : (last n : Master) → n ≢ last → nat_lt (distance last n) (distance last last) ≡ true
nearer Core0 Core0 ne = absurd (ne refl)
nearer Core0 Core1 ne = refl
nearer Core0 DmaRead ne = refl
nearer Core0 DmaWrite ne = refl
nearer Core1 Core0 ne = refl
nearer Core1 Core1 ne = absurd (ne refl)
nearer Core1 DmaRead ne = refl
nearer Core1 DmaWrite ne = refl
nearer DmaRead Core0 ne = refl
nearer DmaRead Core1 ne = refl
nearer DmaRead DmaRead ne = absurd (ne refl)
nearer DmaRead DmaWrite ne = refl
nearer DmaWrite Core0 ne = refl
nearer DmaWrite Core1 ne = refl
nearer DmaWrite DmaRead ne = refl
nearer DmaWrite DmaWrite ne = absurd (ne refl)

pub of_equals : (h k : Bool) (i j : ℕ) → h ≡ k → nat_lt i j ≡ true →
    (nat_lt (cond h 0 1) (cond k 0 1) || (cond h 0 1 == cond k 0 1 && nat_lt i j)) ≡ true
of_equals true true i j same lt = lt
of_equals false false i j same lt = lt
of_equals true false i j same lt = refl
of_equals false true i j same lt = cc

never : (b : Bool) → (b ≡ true → false ≡ true) → b ≡ false
never true h = sym (h refl)
never false h = refl

in_turn : (high : Master → Bool) (last : Master) (asks : Master → Bool) (n : Master) → n ≢ last → asks n ≡ true → high n ≡ high last →
    wins high last asks last ≡ false
in_turn high last asks n ne is same =
    never (wins high last asks last)
    (λ won. sym (unbeaten high last asks last n won is)
    ∙ of_equals (high n) (high last) (distance last n) (distance last last) same (nearer last n ne))

pub arbitrated : ArbitrationLaw
arbitrated high last asks = record {
  one = one high last asks;
  asks_itself = wins_asks high last asks;
  unbeaten = unbeaten high last asks;
  some = some high last asks;
  alone = alone high last asks;
  in_turn = in_turn high last asks;
}
