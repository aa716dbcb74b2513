-- What a seat has and is told after it looked.
use Rattle.std.proofs.Common.{◌≡◌, ℕ, ◌%◌, ◌^◌, ◌<◌, ◌≤◌, ◌⊎◌, List, ◌∷◌, Bool, true, false, not, ◌&&◌, ◌||◌, sym, refl, ap, ◌∙◌, subst, ⊎_elim, arith}
use mathlib.Core.Bool.{false≢true}
use mathlib.Core.Option.{none}
use Rattle.atomic_table.specs.Table.{step}
use Rattle.atomic_table.specs.Seated.{TableId}
use Rattle.turn_board.specs.Tickets.{SeatState, IsUnfinished, is_due, saw}
use Rattle.turn_board.specs.Slots.{job_slot, found_slot}
use Rattle.turn_board.specs.Rule.{open_word, seat_view}
use Rattle.turn_board.specs.Plays.{Sat, Gains, looked, IsLook}
use Rattle.turn_board.specs.Shown.{SeatView, seat_shown, job_in, found_in, IsSeat}
use Rattle.turn_board.specs.Answers.{SlotsStay, Takes, Answers}
use Rattle.turn_board.specs.declared.answers.See.{See}
use Rattle.turn_board.specs.declared.answers.See.TheVariants.{Open, NotYet, Closed}
use Rattle.turn_board.specs.declared.slot.Slot.{Slot}
use Rattle.turn_board.specs.declared.slot.Slot.TheVariants.{Empty, Job}
use Rattle.turn_board.specs.declared.view.View.{View}
use Rattle.turn_board.proofs.Keeps.{due_below, due_yes}

three : (holding due : Bool) (P : Type 0) → (holding ≡ true → P) → (holding ≡ false → due ≡ true → P) → (holding ≡ false → due ≡ false → P) → P
three true due P a b c = a refl
three false true P a b c = b refl refl
three false false P a b c = c refl refl

two : (x : Bool) (P : Type 0) → (x ≡ true → P) → (x ≡ false → P) → P
two true P a b = a refl
two false P a b = b refl

-- at most one number of a seat is not finished
abbrev One : SeatState → Type 0
One s = (x y : ℕ) → IsUnfinished s x → IsUnfinished s y → x ≡ y

one_of : (s t : SeatState) (word : ℕ) → IsLook s word t → One s
one_of s t word p = (p.2.each_seat p.1 s p.4).one_unfinished

word_open : (word opened : ℕ) (closed : Bool) → word ≡ open_word opened closed → opened ≤ 2 ^ 62 → word % 2 ^ 63 ≡ opened
word_open word opened true e low = omega arith
word_open word opened false e low = omega arith

word_closed : (word opened : ℕ) (closed : Bool) → word ≡ open_word opened closed → opened ≤ 2 ^ 62 → 2 ^ 63 ≤ word → closed ≡ true
word_closed word opened true e low h = refl
word_closed word opened false e low h = absurd (omega arith)

word_unclosed : (word opened : ℕ) (closed : Bool) → word ≡ open_word opened closed → word < 2 ^ 63 → closed ≡ false
word_unclosed word opened true e h = absurd (omega arith)
word_unclosed word opened false e h = refl

-- what the step of a look told
abbrev Looked : {J R W : Type 0} → (W → ℕ → J → Type 0) → Sat J R W → ℕ → Sat J R W → Type 0
Looked job_fits m r n = looked job_fits (step 0 0 0 0 none) m r n

-- how the answer is chosen by the word
abbrev pub Chosen : ℕ → ℕ → See → Type 0
Chosen r number result = ((number < r % 2 ^ 63) × (result ≡ Open)) ⊎ ((r % 2 ^ 63 ≤ number) × (2 ^ 63 ≤ r) × (result ≡ Closed)) ⊎ ((r % 2 ^ 63 ≤ number) × (r < 2 ^ 63) × (result ≡ NotYet (r % 2 ^ 63)))

module _ {J R W : Type 0} (job_fits : W → ℕ → J → Type 0) (found_fits : W → ℕ → R → Type 0) where
  saw_seat : (m : Sat J R W) → IsSeat job_fits found_fits m → (opened : ℕ) (closed : Bool) (in_hand : List (ℕ × Slot J R)) → One m.0.worker
      → Gains (job_fits m.0.made_for) m.0.worker (not m.0.worker.holding && (m.0.worker.holding || is_due m.0.worker.drawn m.0.worker.finished opened)) m.1 in_hand
      → IsSeat job_fits found_fits (seat_view m.0.made_for (saw opened closed m.0.worker), in_hand)
  saw_seat m k opened closed in_hand one gains = let s : SeatState = m.0.worker in let d : Bool = is_due s.drawn s.finished opened in
      let G : Bool → Type 0 = λ z. Gains (job_fits m.0.made_for) s z m.1 in_hand in
      three s.holding d (IsSeat job_fits found_fits (seat_view m.0.made_for (saw opened closed s), in_hand))
      (λ h. let same : in_hand ≡ m.1 = subst G (λ q. not (h q) && (h q || d)) gains in let t = k.carries h in record {
        follows = refl;
        due = λ _. k.due h;
        bare = λ no. absurd (false≢true (sym no ∙ (λ q. h q || d)));
        carries = λ _. (t.0, t.1, λ x u. let v = t.2 x u in (same ∙ v.0, v.1, v.2));
      })
      (λ h e. let took : G true = subst G (λ q. not (h q) && (h q || e q)) gains in let x = due_below s.drawn s.finished opened e in let mine : IsUnfinished s x.0 = (x.1, x.2) in let t = took x.0 mine in record {
        follows = refl;
        due = λ _. (x.0, mine);
        bare = λ no. absurd (false≢true (sym no ∙ (λ q. h q || e q)));
        carries = λ _. (
          Job t.0,
          Empty,
          λ y u. (
            t.1 ∙ (λ q. (job_slot (one x.0 y mine u q), Job t.0) ∷ (found_slot (one x.0 y mine u q), Empty) ∷ k.bare h q),
            subst (λ (z : ℕ). job_fits m.0.made_for (z % 6) t.0) (one x.0 y mine u) t.2,
            tt,
          ),
        );
      })
      (λ h e. let same : in_hand ≡ m.1 = subst G (λ q. not (h q) && (h q || e q)) gains in let idle : (s.holding || d) ≡ false = (λ q. h q || e q) in record {
        follows = refl;
        due = λ yes. absurd (false≢true (sym idle ∙ yes));
        bare = λ _. same ∙ k.bare h;
        carries = λ yes. absurd (false≢true (sym idle ∙ yes));
      })

  pub seat_saw : (m n : Sat J R W) (r : ℕ) → IsSeat job_fits found_fits m → Looked job_fits m r n → IsSeat job_fits found_fits n
  seat_saw m n r k p = let v = p.4 in
      subst (λ (x : View W). IsSeat job_fits found_fits (x, n.1)) (sym v)
      (saw_seat m k p.0 p.1 n.1 (one_of m.0.worker (saw p.0 p.1 m.0.worker) r p.5)
      (subst (λ (x : View W). Gains (job_fits m.0.made_for) m.0.worker (not m.0.worker.holding && x.worker.holding) m.1 n.1) v p.6))

  -- the answers, for the view w after the look
  abbrev After : Sat J R W → ℕ → Bool → List (ℕ × Slot J R) → Sat J R W
  After m opened closed in_hand = (seat_view m.0.made_for (saw opened closed m.0.worker), in_hand)

  saw_open : (z : TableId) (m : Sat J R W) → IsSeat job_fits found_fits m → (opened number : ℕ) (closed : Bool) (in_hand : List (ℕ × Slot J R)) → IsUnfinished m.0.worker number → number < opened
      → Gains (job_fits m.0.made_for) m.0.worker (not m.0.worker.holding && (m.0.worker.holding || is_due m.0.worker.drawn m.0.worker.finished opened)) m.1 in_hand
      → Answers job_fits number (seat_shown z m) (seat_shown z (After m opened closed in_hand)) Open
  saw_open z m k opened number closed in_hand mine low gains = let s : SeatState = m.0.worker in let e = due_yes s.drawn s.finished opened number mine.0 mine.1 low in
      let G : Bool → Type 0 = λ x. Gains (job_fits m.0.made_for) s x m.1 in_hand in
      two s.holding (Answers job_fits number (seat_shown z m) (seat_shown z (After m opened closed in_hand)) Open)
      (λ h. let same : in_hand ≡ m.1 = subst G (λ q. not (h q) && (h q || is_due s.drawn s.finished opened)) gains in (
        low,
        (λ q. h q || is_due s.drawn s.finished opened),
        subst (λ x. Takes (job_fits m.0.made_for (number % 6)) x (seat_shown z m) (seat_shown z (After m opened closed in_hand))) (sym h) (ap job_in same, ap found_in same),
      ))
      (λ h. let t = (let took : G true = subst G (λ q. not (h q) && (h q || e q)) gains in took number mine) in (
        low,
        (λ q. h q || e q),
        subst (λ x. Takes (job_fits m.0.made_for (number % 6)) x (seat_shown z m) (seat_shown z (After m opened closed in_hand))) (sym h) (t.0, ap job_in t.1, ap found_in t.1, t.2),
      ))

  -- nothing changes but what the seat has seen
  saw_nothing : (z : TableId) (m : Sat J R W) (opened number : ℕ) (closed : Bool) (in_hand : List (ℕ × Slot J R)) → One m.0.worker → IsUnfinished m.0.worker number → opened ≤ number
      → Gains (job_fits m.0.made_for) m.0.worker (not m.0.worker.holding && (m.0.worker.holding || is_due m.0.worker.drawn m.0.worker.finished opened)) m.1 in_hand
      → ((m.0.worker.holding || is_due m.0.worker.drawn m.0.worker.finished opened) ≡ m.0.worker.holding) × SlotsStay (seat_shown z m) (seat_shown z (After m opened closed in_hand))
  saw_nothing z m opened number closed in_hand one mine high gains = let s : SeatState = m.0.worker in let d : Bool = is_due s.drawn s.finished opened in
      let G : Bool → Type 0 = λ x. Gains (job_fits m.0.made_for) s x m.1 in_hand in
      three s.holding d (((s.holding || d) ≡ s.holding) × SlotsStay (seat_shown z m) (seat_shown z (After m opened closed in_hand)))
      (λ h. let same : in_hand ≡ m.1 = subst G (λ q. not (h q) && (h q || d)) gains in ((λ q. h q || d) ∙ sym h, (ap job_in same, ap found_in same)))
      (λ h e. let x = due_below s.drawn s.finished opened e in let same : x.0 ≡ number = one x.0 number (x.1, x.2) mine in let low = x.3 in absurd (omega arith))
      (λ h e. let same : in_hand ≡ m.1 = subst G (λ q. not (h q) && (h q || e q)) gains in ((λ q. h q || e q) ∙ sym h, (ap job_in same, ap found_in same)))

  answers_open : (z : TableId) (m n : Sat J R W) (r number : ℕ) → IsSeat job_fits found_fits m → Looked job_fits m r n → IsUnfinished m.0.worker number → number < r % 2 ^ 63
      → Answers job_fits number (seat_shown z m) (seat_shown z n) Open
  answers_open z m n r number k p mine low = let v = p.4 in let e = word_open r p.0 p.1 p.2 p.3 in
      subst (λ (x : View W). Answers job_fits number (seat_shown z m) (seat_shown z (x, n.1)) Open) (sym v)
      (saw_open z m k p.0 number p.1 n.1 mine (omega arith) (subst (λ (x : View W). Gains (job_fits m.0.made_for) m.0.worker (not m.0.worker.holding && x.worker.holding) m.1 n.1) v p.6))

  answers_closed : (z : TableId) (m n : Sat J R W) (r number : ℕ) → Looked job_fits m r n → IsUnfinished m.0.worker number → r % 2 ^ 63 ≤ number → 2 ^ 63 ≤ r
      → Answers job_fits number (seat_shown z m) (seat_shown z n) Closed
  answers_closed z m n r number p mine high shut = let v = p.4 in let e = word_open r p.0 p.1 p.2 p.3 in
      let t = saw_nothing z m p.0 number p.1 n.1 (one_of m.0.worker (saw p.0 p.1 m.0.worker) r p.5) mine (omega arith) (subst (λ (x : View W). Gains (job_fits m.0.made_for) m.0.worker (not m.0.worker.holding && x.worker.holding) m.1 n.1) v p.6) in
      subst (λ (x : View W). Answers job_fits number (seat_shown z m) (seat_shown z (x, n.1)) Closed) (sym v)
      (word_closed r p.0 p.1 p.2 p.3 shut, omega arith, t.0, t.1)

  answers_not_yet : (z : TableId) (m n : Sat J R W) (r number : ℕ) → Looked job_fits m r n → IsUnfinished m.0.worker number → r % 2 ^ 63 ≤ number → r < 2 ^ 63
      → Answers job_fits number (seat_shown z m) (seat_shown z n) (NotYet (r % 2 ^ 63))
  answers_not_yet z m n r number p mine high unshut = let v = p.4 in let e = word_open r p.0 p.1 p.2 p.3 in
      let t = saw_nothing z m p.0 number p.1 n.1 (one_of m.0.worker (saw p.0 p.1 m.0.worker) r p.5) mine (omega arith) (subst (λ (x : View W). Gains (job_fits m.0.made_for) m.0.worker (not m.0.worker.holding && x.worker.holding) m.1 n.1) v p.6) in
      subst (λ (x : View W). Answers job_fits number (seat_shown z m) (seat_shown z (x, n.1)) (NotYet (r % 2 ^ 63))) (sym v)
      (e, high, word_unclosed r p.0 p.1 p.2 unshut, t.0, t.1)

  pub answered : (z z' : TableId) (m n : Sat J R W) (s : SeatView J R W) (r number : ℕ) (result : See) → z' ≡ z → seat_shown z m ≡ s → IsSeat job_fits found_fits m → Looked job_fits m r n → IsUnfinished s.state number → Chosen r number result
      → Answers job_fits number s (seat_shown z' n) result
  answered z z' m n s r number result e is k p own chosen =
      let mine : IsUnfinished m.0.worker number = subst (λ (x : SeatView J R W). IsUnfinished x.state number) (sym is) own in
      subst (λ (x : TableId). Answers job_fits number s (seat_shown x n) result) (sym e)
      (subst (λ (x : SeatView J R W). Answers job_fits number x (seat_shown z n) result) is
      (⊎_elim (λ t. subst (Answers job_fits number (seat_shown z m) (seat_shown z n)) (sym t.1) (answers_open z m n r number k p mine t.0))
      (λ u. ⊎_elim (λ t. subst (Answers job_fits number (seat_shown z m) (seat_shown z n)) (sym t.2) (answers_closed z m n r number p mine t.0 t.1))
      (λ t. subst (Answers job_fits number (seat_shown z m) (seat_shown z n)) (sym t.2) (answers_not_yet z m n r number p mine t.0 t.1)) u)
      chosen))
