-- A seat has one number that is not finished from a draw to the call that finishes it.
use Rattle.std.proofs.Common.{◌≡◌, ℕ, sym, refl, subst, arith}
use mathlib.Core.Logic.{dite}
use native.Mathlib.Decide.{ℕ_discrete, dec_le}
use Rattle.turn_board.specs.Tickets.{times, SeatState, IsUnfinished, drew, did}
use Rattle.turn_board.specs.Plays.{IsDraw, IsFinish}
use Rattle.turn_board.proofs.Sums.{times-snoc, at_same}
use Rattle.turn_board.proofs.Follows.{drawn_below}

-- a number that was drawn just now is not finished
pub draw_own : (s t u : SeatState) (n : ℕ) → IsDraw s n t → u ≡ drew n s → IsUnfinished u n
draw_own s t u n p e = let b = p.0 in let i = p.1 in let g = p.2 in let at = p.4 in let new = p.6 in
    let none : times n s.drawn ≡ 0 = dite (dec_le (times n s.drawn) 0) (λ h. omega arith) (λ h. absurd (omega (arith, drawn_below b g i s at n (omega arith)))) in
    let k = g.each_seat i s at in
    subst (λ x. IsUnfinished x n) (sym e) (omega (arith, times-snoc n s.drawn n, at_same n n refl), omega (arith, k.finished_drawn n))

-- a seat that has finished its number has none
pub done_free : (s t u : SeatState) (n : ℕ) → IsFinish s n t → IsUnfinished s n → u ≡ did n s → (m : ℕ) → ¬ IsUnfinished u m
done_free s t u n p own e m due = let b = p.0 in let i = p.1 in let g = p.2 in let at = p.4 in let k = g.each_seat i s at in
    let d = subst (λ x. IsUnfinished x m) e due in let d₁ = d.1 in
    dite (ℕ_discrete n m) (λ same. omega (arith, times-snoc m s.finished n, at_same n m same))
    (λ ne. ne (k.one_unfinished n m own (d.0, omega (arith, times-snoc m s.finished n))))
