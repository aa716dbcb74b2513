-- The entries that are due in a cycle are the first ones.
use Rattle.std.proofs.Common.{◌≡◌, ◌≤◌, ◌<◌, ℕ, zero, suc, ◌-◌, nat_le, true, false, List, [], ◌∷◌, length, get_or, take, refl, sym, ap, ◌∙◌, arith}
use Rattle.std.proofs.lemmas.Bool.Decides.{nat_tests}
use Rattle.std.proofs.lemmas.List.{length-take-le}
use Rattle.std.specs.List.{filter}
use Rattle.pin_script.specs.declared.entry.Entry.{Entry}
use Rattle.pin_script.specs.Levels.{due_count, is_due}
use Rattle.pin_script.specs.Reading.{cycle_at, IsDueBefore}
use Rattle.pin_script.specs.Script.{IsScript, IsScriptFrom}

pub cycle_at-get_or : (xs : List Entry) (i : ℕ) (d : Entry) → i < length xs → cycle_at xs i ≡ (get_or xs i d).cycle
unfolding cycle_at
cycle_at-get_or [] i d lt = absurd (omega arith)
cycle_at-get_or (x ∷ xs) zero d lt = refl
cycle_at-get_or (x ∷ xs) (suc i) d lt = cycle_at-get_or xs i d (omega arith)

le_true : (m n : ℕ) → m ≤ n → nat_le m n ≡ true
le_true m n h = grind (arith, nat_tests)

le_false : (m n : ℕ) → n < m → nat_le m n ≡ false
le_false m n h = grind (arith, nat_tests)

-- cycles do not fall
from_low : (low : ℕ) (xs : List Entry) (i : ℕ) → IsScriptFrom low xs → i < length xs → low ≤ cycle_at xs i
unfolding cycle_at
from_low low [] i s lt = absurd (omega arith)
from_low low (x ∷ xs) zero s lt = s.0
from_low low (x ∷ xs) (suc i) s lt =
    let first : low ≤ x.cycle = s.0 in
    let rest : x.cycle ≤ cycle_at xs i = from_low x.cycle xs i s.2 (omega arith) in
    omega arith

ascending : (low : ℕ) (xs : List Entry) (i j : ℕ) → IsScriptFrom low xs → i ≤ j → j < length xs → cycle_at xs i ≤ cycle_at xs j
unfolding cycle_at
ascending low [] i j s le lt = absurd (omega arith)
ascending low (x ∷ xs) zero zero s le lt = omega arith
ascending low (x ∷ xs) zero (suc j) s le lt = from_low x.cycle xs j s.2 (omega arith)
ascending low (x ∷ xs) (suc i) zero s le lt = absurd (omega arith)
ascending low (x ∷ xs) (suc i) (suc j) s le lt = ascending x.cycle xs i j s.2 (omega arith) (omega arith)

none_due : (low : ℕ) (xs : List Entry) (cycle : ℕ) → IsScriptFrom low xs → cycle < low → filter (is_due cycle) xs ≡ []
none_due low [] cycle s lt = refl
none_due low (x ∷ xs) cycle s lt =
    let from : low ≤ x.cycle = s.0 in
    let not_due : nat_le x.cycle cycle ≡ false = le_false x.cycle cycle (omega arith) in
    rw not_due (none_due x.cycle xs cycle s.2 (omega arith))

due_first : (low : ℕ) (xs : List Entry) (cycle due : ℕ) → IsScriptFrom low xs → due ≤ length xs → ((j : ℕ) → j < due → cycle_at xs j ≤ cycle) → (due < length xs → cycle < cycle_at xs due) → filter (is_due cycle) xs ≡ take due xs
unfolding cycle_at
due_first low [] cycle zero s within before after = refl
due_first low [] cycle (suc due) s within before after = absurd (omega arith)
due_first low (x ∷ xs) cycle zero s within before after =
    let late : cycle < x.cycle = after (omega arith) in
    let not_due : nat_le x.cycle cycle ≡ false = le_false x.cycle cycle late in
    rw not_due (none_due x.cycle xs cycle s.2 late)
due_first low (x ∷ xs) cycle (suc due) s within before after =
    let early : x.cycle ≤ cycle = before 0 (omega arith) in
    let is_due : nat_le x.cycle cycle ≡ true = le_true x.cycle cycle early in
    rw is_due (ap (λ ys. x ∷ ys) (due_first x.cycle xs cycle due s.2 (omega arith) (λ j lt. before (suc j) (omega arith)) (λ lt. after (omega arith))))

pub due_are_first : (xs : List Entry) (cycle due : ℕ) → IsScript xs → due ≤ length xs → IsDueBefore xs cycle due → (due < length xs → cycle < cycle_at xs due) → filter (is_due cycle) xs ≡ take due xs
due_are_first xs cycle due s within before after = due_first 0 xs cycle due s within (λ j lt. earlier j lt) after
  where
    earlier : (j : ℕ) → j < due → cycle_at xs j ≤ cycle
    earlier j lt =
        let last : cycle_at xs (due - 1) ≤ cycle = before (omega arith) in
        let up : cycle_at xs j ≤ cycle_at xs (due - 1) = ascending 0 xs j (due - 1) s (omega arith) (omega arith) in
        omega arith

pub count_is : (xs : List Entry) (cycle due : ℕ) → due ≤ length xs → filter (is_due cycle) xs ≡ take due xs → due ≡ due_count xs cycle
count_is xs cycle due within h = sym (ap length h ∙ length-take-le due xs within)
