-- What holds in a good state.
use Rattle.std.proofs.Common.{◌≡◌, ℕ, ◌+◌, ◌<◌, ◌≤◌, ◌≢◌, length, true, sym, ap, ◌∙◌, arith}
use mathlib.Core.Logic.{dite}
use native.Mathlib.Decide.{ℕ_discrete, dec_le}
use mathlib.Core.Option.{some}
use lib.ListN.{get_elem?}
use Rattle.atomic_table.proofs.Lists.{one_turn}
use Rattle.turn_board.specs.Tickets.{total, times, SeatState, BoardState, IsUnfinished, Good}
use Rattle.turn_board.specs.Laws.{AllDone, TicketsBounded, LanesDiffer, NoneHolding}
use Rattle.turn_board.proofs.Sums.{term_le, terms_le, some_term, total_le, total_same, total_le_more, one_below, below_no, below_one, sum_below, sum_below-le, sum_below-ones, sum_below-below, sum_below-one_more, sum_times, sum_total, all_ones}

abbrev pub draws : BoardState → ℕ → ℕ
draws b n = total (λ s. times n s.drawn) b.seats

abbrev pub finishes : BoardState → ℕ → ℕ
finishes b n = total (λ s. times n s.finished) b.seats

pub draws_once : (b : BoardState) → Good b → (n : ℕ) → draws b n ≤ 1
draws_once b g n = omega (arith, g.drawn_once n, below_one b.ticket n)

pub finishes_drawn : (b : BoardState) → Good b → (n : ℕ) → finishes b n ≤ draws b n
finishes_drawn b g n = total_le (λ s. times n s.finished) (λ s. times n s.drawn) b.seats (λ j v e. (g.each_seat j v e).finished_drawn n)

pub drawn_below : (b : BoardState) → Good b → (i : ℕ) (s : SeatState) → get_elem? b.seats i ≡ some s → (n : ℕ) → 0 < times n s.drawn → n < b.ticket
drawn_below b g i s at n has = dite (dec_le b.ticket n)
    (λ h. absurd (omega (arith, g.drawn_once n, below_no b.ticket n h, term_le (λ (u : SeatState). times n u.drawn) b.seats i s at)))
    (λ h. omega arith)

-- no number is drawn by two seats
pub not_twice : (b : BoardState) → Good b → (i j : ℕ) (s t : SeatState) → j ≢ i → get_elem? b.seats i ≡ some s → get_elem? b.seats j ≡ some t → (n : ℕ) → times n s.drawn + times n t.drawn ≤ 1
not_twice b g i j s t apart at there n = omega (arith, terms_le (λ (u : SeatState). times n u.drawn) b.seats i j s t apart at there, draws_once b g n)

-- how often each number below the open ones is finished, added up
sum_finished : (b : BoardState) → Good b → sum_below (finishes b) b.opened ≡ b.done
sum_finished b g =
    let swap = sum_total (λ x (s : SeatState). times x s.finished) b.seats b.opened in
    let each = total_same (λ (s : SeatState). sum_below (λ x. times x s.finished) b.opened) (λ (s : SeatState). length s.finished) b.seats
    (λ j v e. let k = g.each_seat j v e in let top = k.seen_opened in sum_times v.finished b.opened (λ x h. let y = k.finished_seen x h in omega arith)) in
    swap ∙ (each ∙ sym g.done_finished)

finishes_once : (b : BoardState) → Good b → (n : ℕ) → finishes b n ≤ 1
finishes_once b g n = omega (arith, finishes_drawn b g n, draws_once b g n)

pub done_opened : (b : BoardState) → Good b → b.done ≤ b.opened
done_opened b g = omega (arith, sum_finished b g, sum_below-le (finishes b) (λ _. 1) b.opened (λ x _. finishes_once b g x), sum_below-ones b.opened)

pub all_finished : (b : BoardState) → Good b → b.done ≡ b.opened → (n : ℕ) → n < b.opened → finishes b n ≡ 1
all_finished b g full n h = all_ones (finishes b) b.opened (finishes_once b g) (sum_finished b g ∙ full) n h

one_more : (b : BoardState) → Good b → (i : ℕ) (s : SeatState) → get_elem? b.seats i ≡ some s → length s.drawn ≤ length s.finished + 1
one_more b g i s at = let k = g.each_seat i s at in let low = drawn_below b g i s at in
    let once : (x : ℕ) → times x s.drawn ≤ 1 = λ x. omega (arith, term_le (λ (u : SeatState). times x u.drawn) b.seats i s at, draws_once b g x) in
    omega (
      arith,
      sum_times s.drawn b.ticket low,
      sum_times s.finished b.ticket (λ x h. low x (omega (arith, k.finished_drawn x))),
      sum_below-one_more (λ x. times x s.drawn) (λ x. times x s.finished) b.ticket (λ x. omega (arith, once x))
          (λ x y p q. k.one_unfinished x y (omega arith, omega (arith, once x)) (omega arith, omega (arith, once y))),
    )

pub tickets_bounded : TicketsBounded
tickets_bounded b g =
    let swap = sum_total (λ x (s : SeatState). times x s.drawn) b.seats b.ticket in
    let each = total_same (λ (s : SeatState). sum_below (λ x. times x s.drawn) b.ticket) (λ (s : SeatState). length s.drawn) b.seats
    (λ j v e. sum_times v.drawn b.ticket (drawn_below b g j v e)) in
    let all : b.ticket ≤ sum_below (draws b) b.ticket = omega (arith, sum_below-below b.ticket b.ticket (omega arith), sum_below-le (one_below b.ticket) (draws b) b.ticket (λ x _. omega (arith, g.drawn_once x))) in
    let more = total_le_more (λ (s : SeatState). length s.drawn) (λ (s : SeatState). length s.finished) b.seats (one_more b g) in
    (done_opened b g, omega (arith, all, swap, each, more, g.done_finished, done_opened b g))

pub all_done : AllDone
all_done b g full n h = let t = some_term (λ (s : SeatState). times n s.finished) b.seats (omega (arith, all_finished b g full n h)) in
    let k = g.each_seat t.0 t.1 t.2 in let some_here = t.3 in
    let drawn : times n t.1.drawn ≡ 1 = omega (arith, k.finished_drawn n, term_le (λ (s : SeatState). times n s.drawn) b.seats t.0 t.1 t.2, draws_once b g n) in
    (t.0, t.1, t.2, omega (arith, k.finished_once n), drawn, λ j u e apart. omega (arith, not_twice b g t.0 j t.1 u apart t.2 e n))

-- an unfinished number of one seat is finished by none
pub unfinished_nowhere : (b : BoardState) → Good b → (i : ℕ) (s : SeatState) → get_elem? b.seats i ≡ some s → (n : ℕ) → IsUnfinished s n → finishes b n ≡ 0
unfinished_nowhere b g i s at n due = dite (dec_le (finishes b n) 0) (λ none. omega arith)
    (λ some_one. let t = some_term (λ (u : SeatState). times n u.finished) b.seats (omega arith) in let here = t.3 in let k = g.each_seat t.0 t.1 t.2 in
    let d₀ = due.0 in let d₁ = due.1 in
    absurd (dite (ℕ_discrete t.0 i)
    (λ e. let same : s ≡ t.1 = mathlib.Core.Option.some-injective s t.1 (sym at ∙ (ap (λ j. get_elem? b.seats j) (sym e) ∙ t.2)) in omega (arith, ap (λ (u : SeatState). times n u.finished) same))
    (λ apart. omega (arith, not_twice b g i t.0 s t.1 apart at t.2 n, k.finished_drawn n))))

-- a number that a holding seat has is among the last six
pub held_last : (b : BoardState) → Good b → (i : ℕ) (s : SeatState) → get_elem? b.seats i ≡ some s → s.holding ≡ true → (n : ℕ) → IsUnfinished s n → (n < b.opened) × (b.opened ≤ n + 6)
held_last b g i s at holds n due = let k = g.each_seat i s at in let in_hand = k.holding_due holds in let e : in_hand.0 ≡ n = k.one_unfinished in_hand.0 n in_hand.1 due in
    let low = in_hand.2 in let top = k.seen_opened in
    (omega arith, dite (dec_le b.opened (n + 6)) (λ h. h) (λ h. absurd (omega (arith, g.earlier_finished n (omega arith), unfinished_nowhere b g i s at n due))))

pub lanes_differ : LanesDiffer
lanes_differ b g i j s t apart at there holds holds' m n due due' same =
    let p = held_last b g i s at holds m due in let q = held_last b g j t there holds' n due' in
    let p₀ = p.0 in let p₁ = p.1 in let q₀ = q.0 in let q₁ = q.1 in let d = due.0 in let d' = due'.0 in
    let e : m ≡ n = dite (dec_le m n) (λ le. one_turn m n 6 le (omega arith) same) (λ more. sym (one_turn n m 6 (omega arith) (omega arith) (sym same))) in
    omega (arith, not_twice b g i j s t (λ h. apart (sym h)) at there m, ap (λ x. times x t.drawn) e)

pub none_holding : NoneHolding
none_holding b g known i s at holds = let k = g.each_seat i s at in let in_hand = k.holding_due holds in let p = held_last b g i s at holds in_hand.0 in_hand.1 in
    let p₀ = p.0 in let full : b.done ≡ b.opened = omega (arith, g.known_done, done_opened b g) in
    omega (arith, all_finished b g full in_hand.0 p₀, unfinished_nowhere b g i s at in_hand.0 in_hand.1)
