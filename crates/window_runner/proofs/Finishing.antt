-- Where a window may be committed, each of its numbers was finished once, and brought what came with it.
use Rattle.window_runner.proofs.Shared.{Close, Commit, Draw, Finish, Good, List, OneReport, Open, Option, Pass, SeatState, SeeDone, SeeOpen, Setting, State, [], ap, arith, change, did, drew, fresh, refl, replicate, saw, subst, suc, sym, times, total, zero, ℕ, ◌*◌, ◌++◌, ◌+◌, ◌∙◌, ◌∷◌, ◌≡◌}
use mathlib.Core.Option.{some}
use lib.ListN.{get_elem?}
use Rattle.turn_board.specs.Tickets.Event.{Draw as DrawOn, SeeOpen as SeeOpenOn, Finish as FinishOn, Open as OpenOn, Close as CloseOn, SeeDone as SeeDoneOn}
use Rattle.turn_board.proofs.Sums.{change-set, total-set, times-snoc, one_at}
use Rattle.turn_board.proofs.Follows.{finishes, done_opened, all_finished}
use Rattle.turn_board.proofs.Keeps.{no_seats, events_keep_good, sit_keeps}
use Rattle.window_runner.specs.Orders.{RunState, new_board, beginning, Event, IsLegal, Happens, Goes, numbers_in, EachCameOnce}

-- ---- a new board

seat_more : (n : ℕ) → replicate n fresh ++ fresh ∷ [] ≡ replicate (suc n) fresh
seat_more zero = refl
seat_more (suc n) = ap (λ (l : List SeatState). fresh ∷ l) (seat_more n)

good_first : (seats : ℕ) → Good (new_board seats)
good_first zero = no_seats
good_first (suc n) =
    subst (λ (l : List SeatState). Good (record (new_board n) { seats = l })) (seat_more n) (sit_keeps (new_board n) (good_first n))

none_finished : (seats n : ℕ) → 0 ≡ finishes (new_board seats) n
none_finished zero n = refl
none_finished (suc seats) n = omega (arith, none_finished seats n)

-- ---- what came, and what the seats finished

total_kept : (g : SeatState → ℕ) (f : SeatState → SeatState) → ((s : SeatState) → g (f s) ≡ g s) → (i : ℕ) (l : List SeatState)
    → total g (change f i l) ≡ total g l
total_kept g f same i [] = refl
total_kept g f same zero (x ∷ xs) = ap (λ n. n + total g xs) (same x)
total_kept g f same (suc i) (x ∷ xs) = ap (λ n. g x + n) (total_kept g f same i xs)

numbers_more : (came : List (ℕ × Option OneReport)) (x : ℕ × Option OneReport) → numbers_in (came ++ x ∷ []) ≡ numbers_in came ++ x.0 ∷ []
numbers_more [] x = refl
numbers_more (y ∷ came) x = ap (λ (l : List ℕ). y.0 ∷ l) (numbers_more came x)

finish_more : (seats : List SeatState) (i k n : ℕ) (s : SeatState) → get_elem? seats i ≡ some s
    → total (λ (u : SeatState). times n u.finished) (change (did k) i seats) ≡ total (λ (u : SeatState). times n u.finished) seats + one_at k n
finish_more seats i k n s at =
    let one = total-set (λ (u : SeatState). times n u.finished) seats i s (did k s) at in
    let more = times-snoc n s.finished k in
    let same = ap (total (λ (u : SeatState). times n u.finished)) (change-set (did k) seats i s at) in
    omega arith

record Counted (r : RunState) : Type 0 where
  good : Good r.board
  same : (n : ℕ) → times n (numbers_in r.came) ≡ finishes r.board n

-- ---- each event

step_counted : (w : Setting) (r : RunState) (event : Event) (next : RunState) → Counted r → IsLegal w r event → Happens w r event next → Counted next
step_counted w r (Draw seat) next h legal e = subst Counted (sym e) (record {
  good = events_keep_good r.board (DrawOn seat) h.good legal;
  same = λ n. h.same n ∙ sym (total_kept (λ (u : SeatState). times n u.finished) (drew r.board.ticket) (λ u. refl) seat r.board.seats);
})
step_counted w r (SeeOpen seat) next h legal e = subst Counted (sym e) (record {
  good = events_keep_good r.board (SeeOpenOn seat) h.good legal;
  same = λ n. h.same n ∙ sym (total_kept (λ (u : SeatState). times n u.finished) (saw r.board.opened r.board.closed) (λ u. refl) seat r.board.seats);
})
step_counted w r (Finish seat number found) next h legal e = subst Counted (sym e) (record {
  good = events_keep_good r.board (FinishOn seat number) h.good legal.0;
  same = λ n. ap (times n) (numbers_more r.came (number, found)) ∙ times-snoc n (numbers_in r.came) number
      ∙ ap (λ k. k + one_at number n) (h.same n) ∙ sym (finish_more r.board.seats seat number n legal.0.0 legal.0.1);
})
step_counted w r Open next h legal e = subst Counted (sym e) (record { good = events_keep_good r.board OpenOn h.good legal.0; same = h.same })
step_counted w r Close next h legal e = subst Counted (sym e) (record { good = events_keep_good r.board CloseOn h.good legal; same = h.same })
step_counted w r SeeDone next h legal e = subst Counted (sym e) (record { good = events_keep_good r.board SeeDoneOn h.good legal; same = h.same })
step_counted w r Commit next h legal e = subst Counted (sym e.1.1) (record { good = h.good; same = h.same })
step_counted w r (Pass windows) next h legal e = subst Counted (sym e.2) (record { good = h.good; same = h.same })

goes_counted : (w : Setting) (events : List Event) (r last : RunState) → Counted r → Goes w r events last → Counted last
goes_counted w [] r last h e = subst Counted (sym e) h
goes_counted w (event ∷ events) r last h e =
    goes_counted w events e.0 last (step_counted w r event e.0 h e.1 e.2) e.3

first_counted : (s : State) (seats : ℕ) → Counted (beginning s seats)
first_counted s seats = record { good = good_first seats; same = none_finished seats }

pub each_came_once : EachCameOnce
each_came_once w s seats events r goes legal lane lt =
    let h = goes_counted w events (beginning s seats) r (first_counted s seats) goes in
    let known = h.good.known_done in
    let most = done_opened r.board h.good in
    let all = legal.0 in
    let opened = legal.1 in
    let number = 6 * r.commits + lane in
    h.same number ∙ all_finished r.board h.good (omega arith) number (omega arith)
