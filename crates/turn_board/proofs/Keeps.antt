-- Each legal event keeps a good state good.
use Rattle.std.proofs.Common.{◌≡◌, ℕ, ◌+◌, ◌<◌, ◌≤◌, ◌⊎◌, List, [], ◌∷◌, ◌++◌, length, set, Bool, true, false, ◌&&◌, ◌||◌, sym, refl, ap, ◌∙◌, subst, inl, inr, ⊎_elim, arith, eqb, ltb, eq-eqb, ne_eqb, lt-ltb, le-ltb}
use mathlib.Core.Bool.{false≢true}
use mathlib.Core.Logic.{dite}
use native.Mathlib.Decide.{ℕ_discrete, dec_le}
use mathlib.Core.Option.{some, some-ne-none}
use lib.ListN.{get_elem?}
use Rattle.atomic_table.proofs.Lists.{at_set, at_snoc}
use Rattle.turn_board.specs.Tickets.{times, SeatState, BoardState, IsUnfinished, GoodSeat, Good, is_due, drew, saw, did, change}
use Rattle.turn_board.specs.Tickets.Event.{Draw, SeeOpen, Finish, Open, Close, SeeDone}
use Rattle.turn_board.specs.Laws.{EventsKeepGood}
use Rattle.turn_board.specs.Rule.{fresh}
use Rattle.turn_board.proofs.Sums.{change-set, total-set, total-snoc, one_below, at_same, at_other, below_no, below_next, times-snoc, length-snoc}
use Rattle.turn_board.proofs.Follows.{done_opened, all_finished}

-- the board, with another state of the seat i
abbrev pub reseat : BoardState → ℕ → ℕ → ℕ → SeatState → BoardState
reseat b ticket done i t = record b { ticket = ticket; done = done; seats = set b.seats i t }

reseated : (b : BoardState) → Good b → (ticket done i : ℕ) (s t : SeatState) → get_elem? b.seats i ≡ some s
    → ((n : ℕ) → times n t.drawn + one_below b.ticket n ≡ times n s.drawn + one_below ticket n)
    → ((n : ℕ) → times n s.finished ≤ times n t.finished)
    → done + length s.finished ≡ b.done + length t.finished → b.done ≤ done
    → GoodSeat b.opened t → Good (reseat b ticket done i t)
reseated b g ticket done i s t at draws grows counts rises good = record {
  drawn_once = λ n. omega (arith, total-set (λ u. times n u.drawn) b.seats i s t at, g.drawn_once n, draws n);
  each_seat = λ j u e. ⊎_elim (λ p. subst (GoodSeat b.opened) p.1 good) (λ p. g.each_seat j u p.1) (at_set b.seats i j t u e);
  done_finished = omega (arith, total-set (λ u. length u.finished) b.seats i s t at, g.done_finished);
  known_done = omega (arith, g.known_done);
  by_sixes = g.by_sixes;
  opened_fits = g.opened_fits;
  earlier_finished = λ n h. omega (arith, total-set (λ u. times n u.finished) b.seats i s t at, g.earlier_finished n h, grows n);
}

or_true : (x y : Bool) → (x || y) ≡ true → (x ≡ true) ⊎ (y ≡ true)
or_true true y h = inl refl
or_true false y h = inr h

pub or_right : (x y : Bool) → y ≡ true → (x || y) ≡ true
or_right true y h = refl
or_right false y h = h

-- the seat has an unfinished number below the limit
pub due_below : (drawn finished : List ℕ) (limit : ℕ) → is_due drawn finished limit ≡ true → (n : ℕ) × (0 < times n drawn) × (times n finished ≡ 0) × (n < limit)
due_below [] finished limit h = absurd (false≢true h)
due_below (x ∷ xs) finished limit h = ⊎_elim
    (λ here. dite (dec_le limit x) (λ over. absurd (false≢true (sym (ap (λ b. b && eqb (times x finished) 0) (le-ltb x limit over)) ∙ here)))
    (λ under. dite (ℕ_discrete (times x finished) 0) (λ none. (x, omega (arith, at_same x x refl), none, omega arith))
    (λ some_one. absurd (false≢true (sym (ap (λ b. b && false) (lt-ltb x limit (omega arith))) ∙ (ap (λ b. ltb x limit && b) (sym (ne_eqb (times x finished) 0 some_one)) ∙ here))))))
    (λ later. let t = due_below xs finished limit later in (t.0, omega (arith, t.1), t.2, t.3))
    (or_true _ _ h)

pub due_yes : (drawn finished : List ℕ) (limit n : ℕ) → 0 < times n drawn → times n finished ≡ 0 → n < limit → is_due drawn finished limit ≡ true
due_yes [] finished limit n has none under = absurd (omega arith)
due_yes (x ∷ xs) finished limit n has none under = dite (ℕ_discrete x n)
    (λ e. let one : ltb x limit ≡ true = lt-ltb x limit (omega arith) in let two : eqb (times x finished) 0 ≡ true = eq-eqb (times x finished) 0 (ap (λ y. times y finished) e ∙ none) in
    ap (λ b. (b && eqb (times x finished) 0) || is_due xs finished limit) one ∙ ap (λ b. b || is_due xs finished limit) two)
    (λ ne. let rest = due_yes xs finished limit n (omega (arith, at_other x n ne)) none under in or_right _ _ rest)

good_drew : (opened n : ℕ) (s : SeatState) → GoodSeat opened s → ((m : ℕ) → ¬ IsUnfinished s m) → GoodSeat opened (drew n s)
good_drew opened n s k none = let only : (m : ℕ) → IsUnfinished (drew n s) m → m ≡ n = λ m due. dite (ℕ_discrete n m) (λ e. sym e)
    (λ ne. let d = due.0 in absurd (none m (omega (arith, times-snoc m s.drawn n, at_other n m ne), due.1))) in record {
      finished_drawn = λ m. omega (arith, times-snoc m s.drawn n, k.finished_drawn m);
      finished_once = k.finished_once;
      one_unfinished = λ m m' due due'. only m due ∙ sym (only m' due');
      finished_seen = k.finished_seen;
      seen_opened = k.seen_opened;
      holding_due = λ holds. let t = k.holding_due holds in absurd (none t.0 t.1);
    }

good_saw : (opened : ℕ) (closed : Bool) (s : SeatState) → GoodSeat opened s → GoodSeat opened (saw opened closed s)
good_saw opened closed s k = record {
  finished_drawn = k.finished_drawn;
  finished_once = k.finished_once;
  one_unfinished = k.one_unfinished;
  finished_seen = λ n h. omega (arith, k.finished_seen n h, k.seen_opened);
  seen_opened = omega arith;
  holding_due = λ holds. ⊎_elim (λ before. let t = k.holding_due before in let low = t.2 in let top = k.seen_opened in (t.0, t.1, omega arith))
      (λ now. let t = due_below s.drawn s.finished opened now in (t.0, (t.1, t.2), t.3)) (or_true s.holding _ holds);
}

good_did : (opened n : ℕ) (s : SeatState) → GoodSeat opened s → IsUnfinished s n → s.holding ≡ true → GoodSeat opened (did n s)
good_did opened n s k due holds = let in_hand = k.holding_due holds in let e : in_hand.0 ≡ n = k.one_unfinished in_hand.0 n in_hand.1 due in let low = in_hand.2 in
    let d₀ = due.0 in let d₁ = due.1 in
    let before : (m : ℕ) → IsUnfinished (did n s) m → IsUnfinished s m = λ m x. let x₁ = x.1 in (x.0, omega (arith, times-snoc m s.finished n)) in record {
      finished_drawn = λ m. dite (ℕ_discrete n m) (λ same. omega (arith, times-snoc m s.finished n, at_same n m same, ap (λ y. times y s.finished) same, ap (λ y. times y s.drawn) same))
          (λ ne. omega (arith, times-snoc m s.finished n, at_other n m ne, k.finished_drawn m));
      finished_once = λ m. dite (ℕ_discrete n m) (λ same. omega (arith, times-snoc m s.finished n, at_same n m same, ap (λ y. times y s.finished) same))
          (λ ne. omega (arith, times-snoc m s.finished n, at_other n m ne, k.finished_once m));
      one_unfinished = λ m m' x x'. k.one_unfinished m m' (before m x) (before m' x');
      finished_seen = λ m h. dite (ℕ_discrete n m) (λ same. omega arith) (λ ne. k.finished_seen m (omega (arith, times-snoc m s.finished n, at_other n m ne)));
      seen_opened = k.seen_opened;
      holding_due = λ now. absurd (false≢true now);
    }

abbrev pub with_seats : BoardState → ℕ → ℕ → List SeatState → BoardState
with_seats b ticket done seats = record b { ticket = ticket; done = done; seats = seats }

wider : (opened more : ℕ) (s : SeatState) → opened ≤ more → GoodSeat opened s → GoodSeat more s
wider opened more s le k = record {
  finished_drawn = k.finished_drawn;
  finished_once = k.finished_once;
  one_unfinished = k.one_unfinished;
  finished_seen = k.finished_seen;
  seen_opened = omega (arith, k.seen_opened);
  holding_due = k.holding_due;
}

pub draw_keeps : (b : BoardState) → Good b → (i : ℕ) (s : SeatState) → get_elem? b.seats i ≡ some s → ((n : ℕ) → ¬ IsUnfinished s n) → Good (reseat b (b.ticket + 1) b.done i (drew b.ticket s))
draw_keeps b g i s at none = reseated b g (b.ticket + 1) b.done i s (drew b.ticket s) at
    (λ n. omega (arith, times-snoc n s.drawn b.ticket, below_next b.ticket n)) (λ n. omega arith) (omega arith) (omega arith) (good_drew b.opened b.ticket s (g.each_seat i s at) none)

pub see_keeps : (b : BoardState) → Good b → (i : ℕ) (s : SeatState) → get_elem? b.seats i ≡ some s → Good (reseat b b.ticket b.done i (saw b.opened b.closed s))
see_keeps b g i s at = reseated b g b.ticket b.done i s (saw b.opened b.closed s) at
    (λ n. omega arith) (λ n. omega arith) (omega arith) (omega arith) (good_saw b.opened b.closed s (g.each_seat i s at))

pub finish_keeps : (b : BoardState) → Good b → (i n : ℕ) (s : SeatState) → get_elem? b.seats i ≡ some s → IsUnfinished s n → s.holding ≡ true → Good (reseat b b.ticket (b.done + 1) i (did n s))
finish_keeps b g i n s at due holds = reseated b g b.ticket (b.done + 1) i s (did n s) at
    (λ m. omega arith) (λ m. omega (arith, times-snoc m s.finished n)) (omega (arith, length-snoc s.finished n)) (omega arith) (good_did b.opened n s (g.each_seat i s at) due holds)

pub open_keeps : (b : BoardState) → Good b → b.known ≡ b.opened → b.opened + 6 ≤ 4611686018427387904 → Good (record b { opened = b.opened + 6 })
open_keeps b g known fits = let full : b.done ≡ b.opened = omega (arith, g.known_done, done_opened b g) in record {
  drawn_once = g.drawn_once;
  each_seat = λ i s at. wider b.opened (b.opened + 6) s (omega arith) (g.each_seat i s at);
  done_finished = g.done_finished;
  known_done = g.known_done;
  by_sixes = omega (arith, g.by_sixes);
  opened_fits = fits;
  earlier_finished = λ n h. omega (arith, all_finished b g full n (omega arith));
}

pub close_keeps : (b : BoardState) → Good b → Good (record b { closed = true })
close_keeps b g = record { drawn_once = g.drawn_once; each_seat = g.each_seat; done_finished = g.done_finished; known_done = g.known_done; by_sixes = g.by_sixes; opened_fits = g.opened_fits; earlier_finished = g.earlier_finished }

pub gather_keeps : (b : BoardState) → Good b → Good (record b { known = b.done; polls = b.polls + 1 })
gather_keeps b g = record { drawn_once = g.drawn_once; each_seat = g.each_seat; done_finished = g.done_finished; known_done = omega arith; by_sixes = g.by_sixes; opened_fits = g.opened_fits; earlier_finished = g.earlier_finished }

good_fresh : {opened : ℕ} → GoodSeat opened fresh
good_fresh = record {
  finished_drawn = λ n. omega arith;
  finished_once = λ n. omega arith;
  one_unfinished = λ m n x y. absurd (let x₀ = x.0 in omega arith);
  finished_seen = λ n h. absurd (omega arith);
  seen_opened = omega arith;
  holding_due = λ holds. absurd (false≢true holds);
}

-- a new board
pub no_seats : Good (record { ticket = 0; opened = 0; done = 0; closed = false; known = 0; polls = 0; seats = [] })
no_seats = record {
  drawn_once = λ n. sym (below_no 0 n (omega arith));
  each_seat = λ i s at. absurd (some-ne-none s (sym at));
  done_finished = refl;
  known_done = omega arith;
  by_sixes = refl;
  opened_fits = omega arith;
  earlier_finished = λ n h. absurd (omega arith);
}

-- a new seat, which has done nothing
pub sit_keeps : (b : BoardState) → Good b → Good (record b { seats = b.seats ++ fresh ∷ [] })
sit_keeps b g = record {
  drawn_once = λ n. omega (arith, total-snoc (λ (u : SeatState). times n u.drawn) b.seats fresh, g.drawn_once n);
  each_seat = λ i s at. ⊎_elim (λ before. g.each_seat i s before) (λ e. subst (GoodSeat b.opened) e good_fresh) (at_snoc b.seats fresh s i at);
  done_finished = omega (arith, total-snoc (λ (u : SeatState). length u.finished) b.seats fresh, g.done_finished);
  known_done = g.known_done;
  by_sixes = g.by_sixes;
  opened_fits = g.opened_fits;
  earlier_finished = λ n h. omega (arith, total-snoc (λ (u : SeatState). times n u.finished) b.seats fresh, g.earlier_finished n h);
}

changed : (b : BoardState) (ticket done i : ℕ) (f : SeatState → SeatState) (s : SeatState) → get_elem? b.seats i ≡ some s → Good (reseat b ticket done i (f s)) → Good (with_seats b ticket done (change f i b.seats))
changed b ticket done i f s at = subst (λ seats. Good (with_seats b ticket done seats)) (sym (change-set f b.seats i s at))

pub events_keep_good : EventsKeepGood
events_keep_good b (Draw i) g legal = changed b (b.ticket + 1) b.done i (drew b.ticket) legal.0 legal.1 (draw_keeps b g i legal.0 legal.1 legal.2)
events_keep_good b (SeeOpen i) g legal = changed b b.ticket b.done i (saw b.opened b.closed) legal.0 legal.1 (see_keeps b g i legal.0 legal.1)
events_keep_good b (Finish i n) g legal = changed b b.ticket (b.done + 1) i (did n) legal.0 legal.1 (finish_keeps b g i n legal.0 legal.1 legal.2 legal.3)
events_keep_good b Open g legal = open_keeps b g legal.0 legal.2
events_keep_good b Close g legal = close_keeps b g
events_keep_good b SeeDone g legal = gather_keeps b g
