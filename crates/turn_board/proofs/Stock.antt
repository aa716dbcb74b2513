-- What a step does to the slots that are at home.
use Rattle.std.proofs.Common.{◌≡◌, ℕ, zero, suc, ◌+◌, ◌*◌, ◌%◌, ◌<◌, List, [], ◌∷◌, length, true, false, sym, ap, ◌∙◌, subst, inl, inr, ⊎_elim, arith}
use mathlib.Core.Logic.{dite}
use native.Mathlib.Decide.{ℕ_discrete, dec_le}
use mathlib.Core.Option.{Option, none, some, some-injective}
use lib.ListN.{get_elem?}
use Rattle.atomic_table.proofs.Lists.{set_here, set_else, one_turn}
use Rattle.turn_board.specs.Tickets.{times, SeatState, BoardState, IsUnfinished, Good}
use Rattle.turn_board.specs.Slots.{HoldsLane, IsOut, IsLast, finishes, Stocked}
use Rattle.turn_board.specs.declared.slot.Slot.{Slot}
use Rattle.turn_board.proofs.Sums.{total-set, some_term}
use Rattle.turn_board.proofs.Follows.{done_opened, all_finished, unfinished_nowhere, held_last, not_twice}
use Rattle.turn_board.proofs.Keeps.{reseat}

pub six : (P : ℕ → Type 0) → P 0 → P 1 → P 2 → P 3 → P 4 → P 5 → (k : ℕ) → k < 6 → P k
six P a b c d e f zero h = a
six P a b c d e f (suc zero) h = b
six P a b c d e f (suc (suc zero)) h = c
six P a b c d e f (suc (suc (suc zero))) h = d
six P a b c d e f (suc (suc (suc (suc zero)))) h = e
six P a b c d e f (suc (suc (suc (suc (suc zero))))) h = f
six P a b c d e f (suc (suc (suc (suc (suc (suc k)))))) h = absurd (omega arith)

module _ {J R : Type 0} (job_fits : J → Type 0) (found_fits : R → Type 0) where
  -- the lane is still stocked where nothing that its number tells has changed
  pub still_stocked : (b c : BoardState) (homes homes' : List (Option (Slot J R))) (lane : ℕ) → c.opened ≡ b.opened
      → ((n : ℕ) → n % 6 ≡ lane → finishes c n ≡ finishes b n)
      → get_elem? homes' (2 * lane) ≡ get_elem? homes (2 * lane) → get_elem? homes' (2 * lane + 1) ≡ get_elem? homes (2 * lane + 1)
      → Stocked job_fits found_fits b homes lane → Stocked job_fits found_fits c homes' lane
  still_stocked b c homes homes' lane opened finished first second k = record {
    first = k.first;
    second = k.second;
    first_home = first ∙ k.first_home;
    second_home = second ∙ k.second_home;
    first_fits = k.first_fits;
    second_fits = k.second_fits;
    waiting = λ n last here none. let l₀ = last.0 in let l₁ = last.1 in k.waiting n (omega arith, omega arith) here (sym (finished n here) ∙ none);
    finished = λ n last here some_one. let l₀ = last.0 in let l₁ = last.1 in k.finished n (omega arith, omega arith) here (omega (arith, finished n here));
  }

-- a lane that is out stays out where a seat that has it keeps it
pub still_out : (b : BoardState) (ticket done j lane : ℕ) (s t : SeatState) → get_elem? b.seats j ≡ some s → j < length b.seats → (HoldsLane s lane → HoldsLane t lane)
    → IsOut b lane → IsOut (reseat b ticket done j t) lane
still_out b ticket done j lane s t at room keep out = ⊎_elim (λ m. inl m)
    (λ x. dite (ℕ_discrete x.0 j)
    (λ e. let same : s ≡ x.1 = some-injective s x.1 (sym at ∙ (ap (λ i. get_elem? b.seats i) (sym e) ∙ x.2)) in inr (j, t, set_here b.seats j t room, keep (subst (λ u. HoldsLane u lane) (sym same) x.3)))
    (λ ne. inr (x.0, x.1, set_else b.seats j x.0 t ne ∙ x.2, x.3)))
    out

pub index_below : {A : Type 0} (l : List A) (j : ℕ) (a : A) → get_elem? l j ≡ some a → j < length l
index_below [] j a e = absurd (mathlib.Core.Option.some-ne-none a (sym e))
index_below (x ∷ xs) zero a e = omega arith
index_below (x ∷ xs) (suc j) a e = omega (arith, index_below xs j a e)

-- how often a number is finished once one seat has changed
pub finishes-reseat : (b : BoardState) (ticket done j : ℕ) (s t : SeatState) → get_elem? b.seats j ≡ some s → (n : ℕ) → finishes (reseat b ticket done j t) n + times n s.finished ≡ finishes b n + times n t.finished
finishes-reseat b ticket done j s t at n = total-set (λ (u : SeatState). times n u.finished) b.seats j s t at

pub finished_opened : (b : BoardState) → Good b → (n : ℕ) → 0 < finishes b n → n < b.opened
finished_opened b g n h = let t = some_term (λ (s : SeatState). times n s.finished) b.seats h in let k = g.each_seat t.0 t.1 t.2 in let top = k.seen_opened in let low = k.finished_seen n t.3 in omega arith

-- of the last six numbers one is of the lane
pub one_last : (b : BoardState) (m n : ℕ) → IsLast b m → IsLast b n → m % 6 ≡ n % 6 → m ≡ n
one_last b m n p q same = let p₀ = p.0 in let p₁ = p.1 in let q₀ = q.0 in let q₁ = q.1 in
    dite (dec_le m n) (λ le. one_turn m n 6 le (omega arith) same) (λ more. sym (one_turn n m 6 (omega arith) (omega arith) (sym same)))

-- where all open numbers are finished no seat is holding
pub none_holding_done : (b : BoardState) → Good b → b.done ≡ b.opened → (i : ℕ) (s : SeatState) → get_elem? b.seats i ≡ some s → ¬ (s.holding ≡ true)
none_holding_done b g full i s at holds = let k = g.each_seat i s at in let in_hand = k.holding_due holds in let p = held_last b g i s at holds in_hand.0 in_hand.1 in
    let p₀ = p.0 in omega (arith, all_finished b g full in_hand.0 p₀, unfinished_nowhere b g i s at in_hand.0 in_hand.1)

-- an open number that is not finished is among the last six
pub unfinished_last : (b : BoardState) → Good b → (n : ℕ) → n < b.opened → finishes b n ≡ 0 → IsLast b n
unfinished_last b g n low nowhere = (low, dite (dec_le b.opened (n + 6)) (λ h. h) (λ h. absurd (omega (arith, g.earlier_finished n (omega arith)))))

-- the lane of an open number that a seat which does not hold it has not finished is at home
pub lane_home : (b : BoardState) → Good b → (j : ℕ) (s : SeatState) → get_elem? b.seats j ≡ some s → s.holding ≡ false → (n : ℕ) → IsUnfinished s n → n < b.opened → ¬ IsOut b (n % 6)
lane_home b g j s at idle n due low out = let none = unfinished_nowhere b g j s at n due in let last = unfinished_last b g n low none in
    ⊎_elim (λ m. let known : b.known ≡ b.opened = m.1 in let full : b.done ≡ b.opened = omega (arith, g.known_done, done_opened b g) in omega (arith, all_finished b g full n low))
    (λ x. dite (ℕ_discrete x.0 j)
    (λ e. let same : s ≡ x.1 = some-injective s x.1 (sym at ∙ (ap (λ i. get_elem? b.seats i) (sym e) ∙ x.2)) in mathlib.Core.Bool.false≢true (sym idle ∙ (ap (λ (u : SeatState). u.holding) same ∙ x.3.0)))
    (λ ne. let y = x.3.1 in let m = y.0 in let e : m ≡ n = one_last b m n (held_last b g x.0 x.1 x.2 x.3.0 m y.1) last y.2 in let d = due.0 in let d' = y.1.0 in
    omega (arith, not_twice b g j x.0 s x.1 ne at x.2 n, ap (λ z. times z x.1.drawn) e)))
    out
