-- Each step on a word keeps the rule, and is the event of its name.
use Rattle.std.proofs.Common.{◌≡◌, slice_index, ℕ, zero, suc, ◌+◌, ◌-◌, ◌*◌, ◌%◌, ◌^◌, ◌<◌, ◌≤◌, ◌≢◌, List, [], ◌∷◌, ◌++◌, map, length, get_or, set, Bool, true, false, not, ◌&&◌, ◌||◌, sym, refl, ap, ◌∙◌, subst, inl, inr, ⊎_elim, arith, length-set, bit_or}
use mathlib.Core.Bool.{false≢true}
use mathlib.Core.Logic.{dite}
use native.Mathlib.Decide.{ℕ_discrete}
use mathlib.Core.Option.{Option, none, some, some-injective, some-ne-none}
use lib.ListN.{get_elem?}
use Rattle.atomic_table.specs.Table.{State, Act, keeps, takes, gives, chain, Valid, carried_after, homes_after, stepped, step, Allows, Splits, opening}
use Rattle.atomic_table.proofs.Lists.{set_here, set_else, at_longer}
use Rattle.turn_board.specs.Tickets.{times, SeatState, BoardState, master_of, IsUnfinished, IsFree, Good, is_due, drew, saw, did, change, Event, IsLegal, after}
use Rattle.turn_board.specs.Tickets.Event.{Draw, SeeOpen, Finish, Open, Close, SeeDone}
use Rattle.turn_board.specs.Slots.{MasterHolds, HoldsLane, IsOut, IsLast, IsJob, IsFound, numbered, FitsFirst, Stocked}
use Rattle.turn_board.specs.Slots as slots
use Rattle.turn_board.specs.Rule.{fresh, open_word, seat_view, master_view, first_view, Ruled}
use Rattle.turn_board.specs.Plays.{Sat, laden, Gains, Brings, BringsJobs, drawn, looked, finished, opened, closed, polled, one_more}
use Rattle.turn_board.specs.Kinds.{OfSeat, OfMaster}
use Rattle.turn_board.specs.declared.slot.Slot.{Slot}
use Rattle.turn_board.specs.declared.slot.Slot.TheVariants.{Empty, Job, Found}
use Rattle.turn_board.specs.declared.view.View.{View}
use Rattle.turn_board.proofs.Sums.{change-set, length-snoc, total-snoc, times-snoc, at_same, at_other}
use Rattle.turn_board.proofs.Bits.{close_sets}
use Rattle.turn_board.proofs.Taking.{grab, release, AllHome, put_all, grab_valid, put_home}
use Rattle.turn_board.proofs.Stock.{six, still_stocked, still_out, index_below, finishes-reseat, finished_opened, one_last, none_holding_done, unfinished_last, lane_home}
use Rattle.turn_board.proofs.Follows.{tickets_bounded, done_opened, all_finished, unfinished_nowhere, held_last}
use Rattle.turn_board.proofs.Keeps.{no_seats, due_below, or_right, reseat, with_seats, draw_keeps, see_keeps, finish_keeps, open_keeps, close_keeps, gather_keeps, sit_keeps}

module _ {A : Type 0} where
  change_here : (f : A → A) (l : List A) (i : ℕ) (a : A) → get_elem? l i ≡ some a → get_elem? (change f i l) i ≡ some (f a)
  change_here f [] i a e = absurd (some-ne-none a (sym e))
  change_here f (x ∷ xs) zero a e = ap (λ (y : A). some (f y)) (some-injective x a e)
  change_here f (x ∷ xs) (suc i) a e = change_here f xs i a e

  set_map : {B : Type 0} (f : A → B) (l : List A) (i : ℕ) (a : A) → set (map f l) i (f a) ≡ map f (set l i a)
  set_map f [] i a = refl
  set_map f (x ∷ xs) zero a = refl
  set_map f (x ∷ xs) (suc i) a = λ k. f x ∷ set_map f xs i a k

  from_map : {B : Type 0} (f : A → B) (l : List A) (i : ℕ) (b : B) → get_elem? (map f l) i ≡ some b → (a : A) × (get_elem? l i ≡ some a) × (b ≡ f a)
  from_map f [] i b e = absurd (some-ne-none b (sym e))
  from_map f (x ∷ xs) zero b e = (x, refl, sym (some-injective (f x) b e))
  from_map f (x ∷ xs) (suc i) b e = from_map f xs i b e

snoc_map : {A B : Type 0} (f : A → B) (l : List A) (a : A) → map f l ++ f a ∷ [] ≡ map f (l ++ a ∷ [])
snoc_map f [] a = refl
snoc_map f (x ∷ xs) a = λ k. f x ∷ snoc_map f xs a k

or_left : (x y : Bool) → x ≡ true → (x || y) ≡ true
or_left true y h = refl
or_left false y h = absurd (false≢true h)

-- a seat that looks begins to hold its lane, or does not
which : (holding due : Bool) (P : Type 0) → (holding ≡ false → due ≡ true → P) → ((not holding && (holding || due)) ≡ false → P) → P
which true due P gain stay = stay refl
which false true P gain stay = gain refl refl
which false false P gain stay = stay refl

is_job : {J R : Type 0} (x : Slot J R) → IsJob x → (job : J) × (x ≡ Job job)
is_job Empty h = absurd h
is_job (Job job) h = (job, refl)
is_job (Found r) h = absurd h

abbrev finish_count : BoardState → ℕ → ℕ
finish_count b n = slots.finishes b n

abbrev twelve_empty : {J R : Type 0} → List (Slot J R)
twelve_empty = Empty ∷ Empty ∷ Empty ∷ Empty ∷ Empty ∷ Empty ∷ Empty ∷ Empty ∷ Empty ∷ Empty ∷ Empty ∷ Empty ∷ []

-- the number of the lane among the last six
abbrev last_of : ℕ → ℕ → ℕ
last_of opened lane = opened - 6 + lane

last_of_is : (b : BoardState) → Good b → 0 < b.opened → (lane : ℕ) → lane < 6 → IsLast b (last_of b.opened lane) × (last_of b.opened lane % 6 ≡ lane)
last_of_is b g some_open lane in_range = let sixes = g.by_sixes in ((omega arith, omega arith), omega arith)

module _ {J R W : Type 0} (job_fits : W → ℕ → J → Type 0) (found_fits : W → ℕ → R → Type 0) (key : W) where
  abbrev Homes : Type 0
  Homes = List (Option (Slot J R))

  abbrev Rest : Type 0
  Rest = List (ℕ × Slot J R)

  abbrev Table : Type 0
  Table = State (Slot J R) (View W)

  abbrev lead : BoardState → View W
  lead b = master_view key (master_of b) (length b.seats)

  -- the table of a board
  abbrev shown : BoardState → Homes → Table
  shown b homes = record { words = b.ticket ∷ open_word b.opened b.closed ∷ b.done ∷ []; homes = homes; views = lead b ∷ map (seat_view key) b.seats }

  abbrev Lanes : BoardState → Homes → Type 0
  Lanes b homes = (lane : ℕ) → lane < 6 → ¬ IsOut b lane → Stocked (job_fits key lane) (found_fits key lane) b homes lane

  abbrev Rule : Table → Type 0
  Rule = Ruled job_fits found_fits key

  -- the seat can make the step on the word i, and of the board of the table it is an event of this kind
  abbrev Goes : BoardState → (Sat J R W → ℕ → Event → Type 0) → ℕ → (ℕ → ℕ) → (Sat J R W → ℕ → Sat J R W → Type 0) → Table → ℕ → Sat J R W → Type 0
  Goes b is i f play s id m = (event : Event) × is m id event × IsLegal b event × (w : View W) × (a : Act (Slot J R)) × Valid s.homes m.1 a
      × (next : Rule (stepped s i (f (get_or s.words i 0)) id m.1 w a)) × (next.board ≡ after b event) × play m (get_or s.words i 0) (w, carried_after m.1 a)

  -- a step that is an event keeps the rule
  allowed : (n id : ℕ) (m : Sat J R W) (is : Sat J R W → ℕ → Event → Type 0) (i : ℕ) (f : ℕ → ℕ) (play : Sat J R W → ℕ → Sat J R W → Type 0)
      → ((s : Table) (r : Rule s) → length s.homes ≡ n → get_elem? s.views id ≡ some m.0 → slice_index s.words i < 18446744073709551616 → Goes r.board is i f play s id m)
      → Allows Rule n id m i f (play m)
  allowed n id m is i f play goes s r wide at low = let g = goes s r wide at low in (g.3, g.4, g.5, g.6, g.8)

  -- the board with another state of one seat is the board after the event that changes it so
  seat_after : (b : BoardState) (ticket done j : ℕ) (f : SeatState → SeatState) (u : SeatState) → get_elem? b.seats j ≡ some u
      → reseat b ticket done j (f u) ≡ with_seats b ticket done (change f j b.seats)
  seat_after b ticket done j f u there = ap (λ (seats : List SeatState). with_seats b ticket done seats) (sym (change-set f b.seats j u there))

  is_shown : (s : Table) (r : Rule s) → s ≡ shown r.board s.homes
  is_shown s r = λ k. record { words = r.words k; homes = s.homes; views = r.views k }

  seat_at : (b : BoardState) (id : ℕ) (v : View W) → get_elem? (lead b ∷ map (seat_view key) b.seats) id ≡ some v → v.leads ≡ false
      → (j : ℕ) × (s : SeatState) × (id ≡ suc j) × (get_elem? b.seats j ≡ some s) × (v ≡ seat_view key s)
  seat_at b zero v at follows = absurd (false≢true (sym follows ∙ ap (λ (x : View W). x.leads) (sym (some-injective (lead b) v at))))
  seat_at b (suc j) v at follows = let t = from_map (seat_view key) b.seats j v at in (j, t.0, refl, t.1, t.2)

  master_at : (b : BoardState) (id : ℕ) (v : View W) → get_elem? (lead b ∷ map (seat_view key) b.seats) id ≡ some v → v.leads ≡ true → (id ≡ 0) × (v ≡ lead b)
  master_at b zero v at leads = (refl, sym (some-injective (lead b) v at))
  master_at b (suc j) v at leads = let t = from_map (seat_view key) b.seats j v at in absurd (false≢true (sym (ap (λ (x : View W). x.leads) t.2) ∙ leads))

  -- a step of a seat, from what holds at the table of a board
  seat_goes : (is : Sat J R W → ℕ → Event → Type 0) (i : ℕ) (f : ℕ → ℕ) (play : Sat J R W → ℕ → Sat J R W → Type 0) (P : Sat J R W → Type 0)
      → ((b : BoardState) → Good b → length b.seats ≤ 9 → (homes : Homes) → length homes ≡ 12 → Lanes b homes → (j : ℕ) (s : SeatState) → get_elem? b.seats j ≡ some s → (in_hand : Rest) → P (seat_view key s, in_hand)
      → Goes b is i f play (shown b homes) (suc j) (seat_view key s, in_hand))
      → (s : Table) (r : Rule s) → length s.homes ≡ 12 → (id : ℕ) (m : Sat J R W) → get_elem? s.views id ≡ some m.0 → m.0.leads ≡ false → P m → Goes r.board is i f play s id m
  seat_goes is i f play P here s r wide id m at follows p =
      let t = seat_at r.board id m.0 (ap (λ (vs : List (View W)). get_elem? vs id) (sym r.views) ∙ at) follows in
      subst (λ (x : Table). Goes r.board is i f play x id m) (sym (is_shown s r))
      (subst (λ (x : ℕ). Goes r.board is i f play (shown r.board s.homes) x m) (sym t.2)
      (subst (λ (v : View W). Goes r.board is i f play (shown r.board s.homes) (suc t.0) (v, m.1)) (sym t.4)
      (here r.board r.good r.few s.homes wide r.lanes t.0 t.1 t.3 m.1 (subst (λ (v : View W). P (v, m.1)) t.4 p))))

  master_goes : (is : Sat J R W → ℕ → Event → Type 0) (i : ℕ) (f : ℕ → ℕ) (play : Sat J R W → ℕ → Sat J R W → Type 0) (P : Sat J R W → Type 0)
      → ((b : BoardState) → Good b → length b.seats ≤ 9 → (homes : Homes) → length homes ≡ 12 → Lanes b homes → (in_hand : Rest) → P (lead b, in_hand) → Goes b is i f play (shown b homes) 0 (lead b, in_hand))
      → (s : Table) (r : Rule s) → length s.homes ≡ 12 → (id : ℕ) (m : Sat J R W) → get_elem? s.views id ≡ some m.0 → m.0.leads ≡ true → P m → Goes r.board is i f play s id m
  master_goes is i f play P here s r wide id m at leads p =
      let t = master_at r.board id m.0 (ap (λ (vs : List (View W)). get_elem? vs id) (sym r.views) ∙ at) leads in
      subst (λ (x : Table). Goes r.board is i f play x id m) (sym (is_shown s r))
      (subst (λ (x : ℕ). Goes r.board is i f play (shown r.board s.homes) x m) (sym t.0)
      (subst (λ (v : View W). Goes r.board is i f play (shown r.board s.homes) 0 (v, m.1)) (sym t.1)
      (here r.board r.good r.few s.homes wide r.lanes m.1 (subst (λ (v : View W). P (v, m.1)) t.1 p))))

  -- the table of a board with another state of one seat
  reseats : (b : BoardState) → length b.seats ≤ 9 → (ticket done j : ℕ) (t : SeatState) (ws : List ℕ) (homes : Homes)
      → Good (reseat b ticket done j t) → ws ≡ ticket ∷ open_word b.opened b.closed ∷ done ∷ [] → Lanes (reseat b ticket done j t) homes
      → Rule (record { words = ws; homes = homes; views = lead b ∷ set (map (seat_view key) b.seats) j (seat_view key t) })
  reseats b few ticket done j t ws homes good same lanes = record {
    board = reseat b ticket done j t;
    good = good;
    few = omega (arith, length-set b.seats j t);
    words = same;
    views = λ k. master_view key (master_of b) (sym (length-set b.seats j t) k) ∷ set_map (seat_view key) b.seats j t k;
    lanes = lanes;
  }

  -- the slots stay where they are, and so does the finished list of the seat
  same_lanes : (b : BoardState) (homes : Homes) → Lanes b homes → (ticket done j : ℕ) (s t : SeatState) → get_elem? b.seats j ≡ some s → ((n : ℕ) → times n t.finished ≡ times n s.finished)
      → ((lane : ℕ) → HoldsLane s lane → HoldsLane t lane) → Lanes (reseat b ticket done j t) homes
  same_lanes b homes lanes ticket done j s t there same keep lane low home =
      still_stocked (job_fits key lane) (found_fits key lane) b (reseat b ticket done j t) homes homes lane refl (λ n _. omega (arith, finishes-reseat b ticket done j s t there n, same n)) refl refl
      (lanes lane low (λ out. home (still_out b ticket done j lane s t there (index_below b.seats j s there) (keep lane) out)))

  -- what a step on a table is, for each seat and each table
  abbrev Steps : ℕ → ℕ → Sat J R W → (Sat J R W → ℕ → Event → Type 0) → ℕ → (ℕ → ℕ) → (Sat J R W → ℕ → Sat J R W → Type 0) → Type 0
  Steps n id m is i f play = (s : Table) (r : Rule s) → length s.homes ≡ n → get_elem? s.views id ≡ some m.0 → slice_index s.words i < 18446744073709551616 → Goes r.board is i f play s id m

  pub draw_event : (n id : ℕ) (m : Sat J R W) → n ≡ 12 → m.0.leads ≡ false → IsFree m.0.worker → Steps n id m (λ _. OfSeat Draw) 0 (λ y. (y + 1) % 2 ^ 64) (drawn (step n 0 1 0 none))
  unfolding reseats
  draw_event n id m twelve follows free s r wide at _ = seat_goes (λ _. OfSeat Draw) 0 (λ y. (y + 1) % 2 ^ 64) (drawn (step n 0 1 0 none)) (λ x. (y : ℕ) → ¬ IsUnfinished x.0.worker y)
      (λ b g few homes _ lanes j u there in_hand none. let more = (tickets_bounded b g).1 in let top = g.opened_fits in let next : (b.ticket + 1) % 2 ^ 64 ≡ b.ticket + 1 = omega arith in (
        Draw j,
        (j, refl, refl),
        (u, there, none),
        seat_view key (drew b.ticket u),
        keeps,
        tt,
        reseats b few (b.ticket + 1) b.done j (drew b.ticket u) _ homes (draw_keeps b g j u there none) (λ k. next k ∷ open_word b.opened b.closed ∷ b.done ∷ [])
            (same_lanes b homes lanes (b.ticket + 1) b.done j u (drew b.ticket u) there (λ y. refl) (λ lane x. absurd (none x.1.0 x.1.1))),
        seat_after b (b.ticket + 1) b.done j (drew b.ticket) u there,
        (refl, (b, j, g, (u, there, none), there, change_here (drew b.ticket) b.seats j u there, refl)),
      )) s r (wide ∙ twelve) id m at follows free

  pub draws : (n id : ℕ) (m : Sat J R W) → n ≡ 12 → m.0.leads ≡ false → IsFree m.0.worker → Allows Rule n id m 0 (λ y. (y + 1) % 2 ^ 64) (drawn (step n 0 1 0 none) m)
  draws n id m twelve follows free = allowed n id m (λ _. OfSeat Draw) 0 (λ y. (y + 1) % 2 ^ 64) (drawn (step n 0 1 0 none)) (draw_event n id m twelve follows free)

  -- the seat j begins to hold the lane of its number, and takes the slots
  gains : (n : ℕ) (b : BoardState) → Good b → length b.seats ≤ 9 → (homes : Homes) → Lanes b homes → (j : ℕ) (u : SeatState) → get_elem? b.seats j ≡ some u → (in_hand : Rest)
      → u.holding ≡ false → is_due u.drawn u.finished b.opened ≡ true → Goes b (λ _. OfSeat SeeOpen) 1 (λ y. y) (looked job_fits (step n 1 0 0 none)) (shown b homes) (suc j) (seat_view key u, in_hand)
  unfolding reseats
  gains n b g few homes lanes j u there in_hand unheld due =
      let d = due_below u.drawn u.finished b.opened due in let x = d.0 in let mine : IsUnfinished u x = (d.1, d.2) in let low = d.3 in
      let t : SeatState = saw b.opened b.closed u in let c = reseat b b.ticket b.done j t in
      let k = lanes (x % 6) (omega arith) (lane_home b g j u there unheld x mine low) in
      let nowhere = unfinished_nowhere b g j u there x mine in let w = k.waiting x (unfinished_last b g x low nowhere) refl nowhere in
      let holds : t.holding ≡ true = or_right u.holding _ due in
      let job = is_job k.first w.0 in
      let home : get_elem? homes (2 * (x % 6)) ≡ some (some (Job job.0)) = k.first_home ∙ ap (λ (y : Slot J R). some (some y)) job.1 in
      let empty : get_elem? homes (2 * (x % 6) + 1) ≡ some (some Empty) = k.second_home ∙ ap (λ (y : Slot J R). some (some y)) w.1 in
      let fits : job_fits key (x % 6) job.0 = subst (λ (y : Slot J R). FitsFirst (job_fits key (x % 6)) (found_fits key (x % 6)) y) job.1 k.first_fits in
      let homes' : Homes = set (set homes (2 * (x % 6) + 1) none) (2 * (x % 6)) none in (
        SeeOpen j,
        (j, refl, refl),
        (u, there),
        seat_view key t,
        chain (takes (2 * (x % 6) + 1) Empty) (takes (2 * (x % 6)) (Job job.0)),
        (empty, set_else homes (2 * (x % 6) + 1) (2 * (x % 6)) none (λ e. omega arith) ∙ home),
        reseats b few b.ticket b.done j t _ homes' (see_keeps b g j u there) refl (λ lane in_range home'. dite (ℕ_discrete (x % 6) lane)
            (λ e. absurd (home' (inr (j, t, set_here b.seats j t (index_below b.seats j u there), (holds, (x, mine, e))))))
            (λ ne. still_stocked (job_fits key lane) (found_fits key lane) b c homes homes' lane refl (λ y _. omega (arith, finishes-reseat b b.ticket b.done j u t there y))
            (set_else _ (2 * (x % 6)) (2 * lane) none (λ e. ne (omega arith)) ∙ set_else homes (2 * (x % 6) + 1) (2 * lane) none (λ e. omega arith))
            (set_else _ (2 * (x % 6)) (2 * lane + 1) none (λ e. omega arith) ∙ set_else homes (2 * (x % 6) + 1) (2 * lane + 1) none (λ e. ne (omega arith)))
            (lanes lane in_range (λ out. home' (still_out b b.ticket b.done j lane u t there (index_below b.seats j u there) (λ h. absurd (false≢true (sym unheld ∙ h.0))) out))))),
        seat_after b b.ticket b.done j (saw b.opened b.closed) u there,
        (
          b.opened,
          b.closed,
          refl,
          g.opened_fits,
          refl,
          (b, j, g, (u, there), there, change_here (saw b.opened b.closed) b.seats j u there, refl),
          subst (λ z. Gains (job_fits key) u z in_hand ((2 * (x % 6), Job job.0) ∷ (2 * (x % 6) + 1, Empty) ∷ in_hand)) (sym (λ q. not (unheld q) && holds q))
              (λ y unfinished. let e : x ≡ y = (g.each_seat j u there).one_unfinished x y mine unfinished in (job.0, ap (λ (z : ℕ). (2 * (z % 6), Job job.0) ∷ (2 * (z % 6) + 1, Empty) ∷ in_hand) e, subst (λ (z : ℕ). job_fits key (z % 6) job.0) e fits)),
          (g.each_seat j u there).seen_opened,
        ),
      )

  -- the slots stay where they are
  looks : (n : ℕ) (b : BoardState) → Good b → length b.seats ≤ 9 → (homes : Homes) → Lanes b homes → (j : ℕ) (u : SeatState) → get_elem? b.seats j ≡ some u → (in_hand : Rest)
      → (not u.holding && (u.holding || is_due u.drawn u.finished b.opened)) ≡ false → Goes b (λ _. OfSeat SeeOpen) 1 (λ y. y) (looked job_fits (step n 1 0 0 none)) (shown b homes) (suc j) (seat_view key u, in_hand)
  unfolding reseats
  looks n b g few homes lanes j u there in_hand stays = let t : SeatState = saw b.opened b.closed u in (
    SeeOpen j,
    (j, refl, refl),
    (u, there),
    seat_view key t,
    keeps,
    tt,
    reseats b few b.ticket b.done j t _ homes (see_keeps b g j u there) refl
        (same_lanes b homes lanes b.ticket b.done j u t there (λ y. refl) (λ lane x. (or_left u.holding _ x.0, x.1))),
    seat_after b b.ticket b.done j (saw b.opened b.closed) u there,
    (
      b.opened,
      b.closed,
      refl,
      g.opened_fits,
      refl,
      (b, j, g, (u, there), there, change_here (saw b.opened b.closed) b.seats j u there, refl),
      subst (λ z. Gains (job_fits key) u z in_hand in_hand) (sym stays) refl,
      (g.each_seat j u there).seen_opened,
    ),
  )

  pub see_event : (n id : ℕ) (m : Sat J R W) → n ≡ 12 → m.0.leads ≡ false → Steps n id m (λ _. OfSeat SeeOpen) 1 (λ y. y) (looked job_fits (step n 1 0 0 none))
  see_event n id m twelve follows s r wide at _ = seat_goes (λ _. OfSeat SeeOpen) 1 (λ y. y) (looked job_fits (step n 1 0 0 none)) (λ v. Unit {0})
      (λ b g few homes _ lanes j u there in_hand _. which u.holding (is_due u.drawn u.finished b.opened) (Goes b (λ _. OfSeat SeeOpen) 1 (λ y. y) (looked job_fits (step n 1 0 0 none)) (shown b homes) (suc j) (seat_view key u, in_hand))
      (gains n b g few homes lanes j u there in_hand) (looks n b g few homes lanes j u there in_hand)) s r (wide ∙ twelve) id m at follows tt

  pub sees : (n id : ℕ) (m : Sat J R W) → n ≡ 12 → m.0.leads ≡ false → Allows Rule n id m 1 (λ y. y) (looked job_fits (step n 1 0 0 none) m)
  sees n id m twelve follows = allowed n id m (λ _. OfSeat SeeOpen) 1 (λ y. y) (looked job_fits (step n 1 0 0 none)) (see_event n id m twelve follows)

  abbrev Finishes : Sat J R W → ℕ → Event → Type 0
  Finishes m id event = (number : ℕ) × IsUnfinished m.0.worker number × OfSeat (λ j. Finish j number) id event

  pub finish_event : (n id : ℕ) (m : Sat J R W) → n ≡ 12 → m.0.leads ≡ false → Brings job_fits found_fits m → Steps n id m Finishes 2 (λ y. (y + 1) % 2 ^ 64) (finished (step n 2 1 0 none))
  unfolding reseats
  finish_event n id m twelve follows brings s r wide at _ = seat_goes Finishes 2 (λ y. (y + 1) % 2 ^ 64) (finished (step n 2 1 0 none)) (Brings job_fits found_fits)
      (λ b g few homes deep lanes j u there in_hand p. let k = g.each_seat j u there in let due = k.holding_due p.0 in let x = due.0 in let lane = x % 6 in
      let first = p.1 in let result = p.2 in let t : SeatState = did x u in let c = reseat b b.ticket (b.done + 1) j t in
      let last = held_last b g j u there p.0 x due.1 in
      let less = done_opened b g in let top = g.opened_fits in let next : (b.done + 1) % 2 ^ 64 ≡ b.done + 1 = omega arith in
      let homes' : Homes = set (set homes (2 * (x % 6)) (some first)) (2 * (x % 6) + 1) (some (Found result)) in
      let held_two = p.3 x due.1 in
      let here : Stocked (job_fits key (x % 6)) (found_fits key (x % 6)) c homes' (x % 6) = record {
        first = first;
        second = Found result;
        first_home = set_else _ (2 * (x % 6) + 1) (2 * (x % 6)) (some (Found result)) (λ e. omega arith) ∙ set_here homes (2 * (x % 6)) (some first) (omega arith);
        second_home = set_here _ (2 * (x % 6) + 1) (some (Found result)) (omega (arith, length-set homes (2 * (x % 6)) (some first)));
        first_fits = held_two.1;
        second_fits = held_two.2;
        waiting = λ y is_last same none. let e : y ≡ x = one_last b y x is_last last same in
            absurd (omega (arith, finishes-reseat b b.ticket (b.done + 1) j u t there x, times-snoc x u.finished x, at_same x x refl, ap (finish_count c) e));
        finished = λ y is_last same some_one. tt;
      } in
      let lanes' : Lanes c homes' = λ other in_range home. dite (ℕ_discrete (x % 6) other) (λ e. subst (λ (l : ℕ). Stocked (job_fits key l) (found_fits key l) c homes' l) e here)
      (λ ne. still_stocked (job_fits key other) (found_fits key other) b c homes homes' other refl
      (λ y same. omega (arith, finishes-reseat b b.ticket (b.done + 1) j u t there y, times-snoc y u.finished x, at_other x y (λ e. ne (ap (λ z. z % 6) e ∙ same))))
      (set_else _ (2 * (x % 6) + 1) (2 * other) (some (Found result)) (λ e. omega arith) ∙ set_else homes (2 * (x % 6)) (2 * other) (some first) (λ e. ne (omega arith)))
      (set_else _ (2 * (x % 6) + 1) (2 * other + 1) (some (Found result)) (λ e. ne (omega arith)) ∙ set_else homes (2 * (x % 6)) (2 * other + 1) (some first) (λ e. omega arith))
      (lanes other in_range (λ out. home (still_out b b.ticket (b.done + 1) j other u t there (index_below b.seats j u there)
      (λ h. absurd (ne (ap (λ z. z % 6) (k.one_unfinished x h.1.0 due.1 h.1.1) ∙ h.1.2))) out)))) in
      subst (λ (h : Rest). Goes b Finishes 2 (λ y. (y + 1) % 2 ^ 64) (finished (step n 2 1 0 none)) (shown b homes) (suc j) (seat_view key u, h)) (sym held_two.0) (
        Finish j x,
        (x, due.1, (j, refl, refl)),
        (u, there, due.1, p.0),
        seat_view key t,
        chain gives gives,
        (tt, tt),
        reseats b few b.ticket (b.done + 1) j t _ homes' (finish_keeps b g j x u there due.1 p.0) (λ q. b.ticket ∷ open_word b.opened b.closed ∷ next q ∷ []) lanes',
        seat_after b b.ticket (b.done + 1) j (did x) u there,
        λ y unfinished. let e : x ≡ y = k.one_unfinished x y due.1 unfinished in (
          ap (λ z. (seat_view key (did z u), [])) e,
          (b, j, g, (u, there, unfinished, p.0), there, change_here (did y) b.seats j u there, tt),
        ),
      )) s r (wide ∙ twelve) id m at follows brings

  pub finishes_as : (n id : ℕ) (m : Sat J R W) → n ≡ 12 → m.0.leads ≡ false → Brings job_fits found_fits m → Allows Rule n id m 2 (λ y. (y + 1) % 2 ^ 64) (finished (step n 2 1 0 none) m)
  finishes_as n id m twelve follows brings = allowed n id m Finishes 2 (λ y. (y + 1) % 2 ^ 64) (finished (step n 2 1 0 none)) (finish_event n id m twelve follows brings)

  pub open_event : (n id : ℕ) (m : Sat J R W) → n ≡ 12 → m.0.leads ≡ true → m.0.master.known ≡ m.0.master.opened → m.0.master.closed ≡ false → m.0.master.opened + 6 ≤ 2 ^ 62 → BringsJobs job_fits m
      → Steps n id m (λ _. OfMaster Open) 1 (λ y. (y + 6) % 2 ^ 64) (opened (step n 1 6 0 none))
  open_event n id m twelve leads known unclosed fits brings s r wide at _ = master_goes (λ _. OfMaster Open) 1 (λ y. (y + 6) % 2 ^ 64) (opened (step n 1 6 0 none))
      (λ x. (x.0.master.known ≡ x.0.master.opened) × (x.0.master.closed ≡ false) × (x.0.master.opened + 6 ≤ 2 ^ 62) × BringsJobs job_fits x)
      (λ b g few homes deep lanes in_hand p. let top = p.2 in let q = p.3 in let c : BoardState = record b { opened = b.opened + 6 } in
      let slots : List (Slot J R) = laden q.0 q.1 q.2 q.3 q.4 q.5 in
      let home : AllHome (put_all homes 0 slots) 0 slots = put_home homes 0 slots (omega arith) in
      let homes' : Homes = put_all homes 0 slots in
      let lane_of : (lane : ℕ) (job : J) → get_elem? homes' (2 * lane) ≡ some (some (Job job)) → get_elem? homes' (2 * lane + 1) ≡ some (some Empty) → job_fits key lane job → Stocked (job_fits key lane) (found_fits key lane) c homes' lane
      = λ lane job first second made. record {
        first = Job job;
        second = Empty;
        first_home = first;
        second_home = second;
        first_fits = made;
        second_fits = tt;
        waiting = λ y last same none. (tt, refl);
        finished = λ y last same some_one. absurd (let l = last.1 in omega (arith, finished_opened b g y some_one));
      } in
      let word : (z : Bool) → z ≡ false → (open_word b.opened z + 6) % 2 ^ 64 ≡ open_word (b.opened + 6) z = λ z e. subst (λ y. (open_word b.opened y + 6) % 2 ^ 64 ≡ open_word (b.opened + 6) y) (sym e) (omega arith) in
      subst (λ (h : Rest). Goes b (λ _. OfMaster Open) 1 (λ y. (y + 6) % 2 ^ 64) (opened (step n 1 6 0 none)) (shown b homes) 0 (lead b, h)) (sym q.6) (
        Open,
        (refl, refl),
        (p.0, p.1, p.2),
        master_view key (record (master_of b) { opened = b.opened + 6 }) (length b.seats),
        release slots,
        (tt, (tt, (tt, (tt, (tt, (tt, (tt, (tt, (tt, (tt, (tt, (tt, tt)))))))))))),
        record {
          board = c;
          good = open_keeps b g p.0 p.2;
          few = few;
          words = λ k. b.ticket ∷ word b.closed p.1 k ∷ b.done ∷ [];
          views = refl;
          lanes = λ lane in_range _. six (λ (l : ℕ). Stocked (job_fits key l) (found_fits key l) c homes' l)
              (lane_of 0 q.0 home.0 home.1.0 q.7) (lane_of 1 q.1 home.1.1.0 home.1.1.1.0 q.8) (lane_of 2 q.2 home.1.1.1.1.0 home.1.1.1.1.1.0 q.9)
              (lane_of 3 q.3 home.1.1.1.1.1.1.0 home.1.1.1.1.1.1.1.0 q.10) (lane_of 4 q.4 home.1.1.1.1.1.1.1.1.0 home.1.1.1.1.1.1.1.1.1.0 q.11) (lane_of 5 q.5 home.1.1.1.1.1.1.1.1.1.1.0 home.1.1.1.1.1.1.1.1.1.1.1.0 q.12)
              lane in_range;
        },
        refl,
        (refl, (b, g, (p.0, p.1, p.2), refl, refl, tt)),
      )) s r (wide ∙ twelve) id m at leads (known, unclosed, fits, brings)

  pub opens : (n id : ℕ) (m : Sat J R W) → n ≡ 12 → m.0.leads ≡ true → m.0.master.known ≡ m.0.master.opened → m.0.master.closed ≡ false → m.0.master.opened + 6 ≤ 2 ^ 62 → BringsJobs job_fits m
      → Allows Rule n id m 1 (λ y. (y + 6) % 2 ^ 64) (opened (step n 1 6 0 none) m)
  opens n id m twelve leads known unclosed fits brings = allowed n id m (λ _. OfMaster Open) 1 (λ y. (y + 6) % 2 ^ 64) (opened (step n 1 6 0 none)) (open_event n id m twelve leads known unclosed fits brings)

  pub close_event : (n id : ℕ) (m : Sat J R W) → n ≡ 12 → m.0.leads ≡ true → Steps n id m (λ _. OfMaster Close) 1 (λ y. bit_or y (2 ^ 63)) (closed (step n 1 (2 ^ 63) 0 none))
  close_event n id m twelve leads s r wide at _ = master_goes (λ _. OfMaster Close) 1 (λ y. bit_or y (2 ^ 63)) (closed (step n 1 (2 ^ 63) 0 none)) (λ v. Unit {0})
      (λ b g few homes _ lanes in_hand p. let top = g.opened_fits in (
        Close,
        (refl, refl),
        tt,
        master_view key (record (master_of b) { closed = true }) (length b.seats),
        keeps,
        tt,
        record {
          board = record b { closed = true };
          good = close_keeps b g;
          few = few;
          words = λ k. b.ticket ∷ close_sets b.opened b.closed (omega arith) k ∷ b.done ∷ [];
          views = refl;
          lanes = λ lane in_range home. still_stocked (job_fits key lane) (found_fits key lane) b (record b { closed = true }) homes homes lane refl (λ y _. refl) refl refl (lanes lane in_range home);
        },
        refl,
        (refl, (b, g, tt, refl, refl, tt)),
      )) s r (wide ∙ twelve) id m at leads tt

  pub closes : (n id : ℕ) (m : Sat J R W) → n ≡ 12 → m.0.leads ≡ true → Allows Rule n id m 1 (λ y. bit_or y (2 ^ 63)) (closed (step n 1 (2 ^ 63) 0 none) m)
  closes n id m twelve leads = allowed n id m (λ _. OfMaster Close) 1 (λ y. bit_or y (2 ^ 63)) (closed (step n 1 (2 ^ 63) 0 none)) (close_event n id m twelve leads)

  -- no slot is at home while the master holds them
  all_out : (b : BoardState) (homes : Homes) → MasterHolds (master_of b) → Lanes b homes
  all_out b homes m lane in_range home = absurd (home (inl m))

  -- the master finds all open numbers finished, and takes all slots
  gathers : (n : ℕ) (b : BoardState) → Good b → length b.seats ≤ 9 → (homes : Homes) → Lanes b homes → ¬ MasterHolds (master_of b) → b.done ≡ b.opened
      → Goes b (λ _. OfMaster SeeDone) 2 (λ y. y) (polled job_fits found_fits (step n 2 0 0 none)) (shown b homes) 0 (lead b, [])
  gathers n b g few homes lanes free full =
      let home : (lane : ℕ) → ¬ IsOut b lane = λ lane out. ⊎_elim free (λ x. none_holding_done b g full x.0 x.1 x.2 x.3.0) out in
      let k₀ = lanes 0 (omega arith) (home 0) in let k₁ = lanes 1 (omega arith) (home 1) in let k₂ = lanes 2 (omega arith) (home 2) in
      let k₃ = lanes 3 (omega arith) (home 3) in let k₄ = lanes 4 (omega arith) (home 4) in let k₅ = lanes 5 (omega arith) (home 5) in
      let slots : List (Slot J R) = k₀.first ∷ k₀.second ∷ k₁.first ∷ k₁.second ∷ k₂.first ∷ k₂.second ∷ k₃.first ∷ k₃.second ∷ k₄.first ∷ k₄.second ∷ k₅.first ∷ k₅.second ∷ [] in
      let at : AllHome homes 0 slots = (k₀.first_home, (k₀.second_home, (k₁.first_home, (k₁.second_home, (k₂.first_home, (k₂.second_home, (k₃.first_home, (k₃.second_home, (k₄.first_home, (k₄.second_home, (k₅.first_home, (k₅.second_home, tt)))))))))))) in
      let each : 0 < b.done → (lane : ℕ) → lane < 6 → (k : Stocked (job_fits key lane) (found_fits key lane) b homes lane) → IsFound k.second = λ some_open lane in_range k.
      let x = last_of b.opened lane in let p = last_of_is b g (omega arith) lane in_range in let p₀ = p.0.0 in k.finished x p.0 p.1 (omega (arith, all_finished b g full x p₀)) in
      let c : BoardState = record b { known = b.done; polls = b.polls + 1 } in (
        SeeDone,
        (refl, refl),
        tt,
        master_view key (master_of c) (length b.seats),
        grab 0 slots,
        grab_valid homes [] 0 slots at,
        record {
          board = c;
          good = gather_keeps b g;
          few = few;
          words = refl {a = b.ticket ∷ open_word b.opened b.closed ∷ b.done ∷ []};
          views = refl {a = lead c ∷ map (seat_view key) b.seats};
          lanes = all_out c (homes_after homes [] (grab 0 slots)) (omega arith, full);
        },
        refl,
        (
          done_opened b g,
          refl,
          (b, g, tt, refl, refl, refl),
          (λ ne. absurd (ne full)),
          (λ _. record {
            first0 = k₀.first;
            second0 = k₀.second;
            first1 = k₁.first;
            second1 = k₁.second;
            first2 = k₂.first;
            second2 = k₂.second;
            first3 = k₃.first;
            second3 = k₃.second;
            first4 = k₄.first;
            second4 = k₄.second;
            first5 = k₅.first;
            second5 = k₅.second;
            are = refl {a = numbered 0 slots};
            fit = (k₀.second_fits, k₁.second_fits, k₂.second_fits, k₃.second_fits, k₄.second_fits, k₅.second_fits);
            found = λ some_open. let f = each some_open in (f 0 (omega arith) k₀, f 1 (omega arith) k₁, f 2 (omega arith) k₂, f 3 (omega arith) k₃, f 4 (omega arith) k₄, f 5 (omega arith) k₅);
          }),
          g.known_done,
        ),
      )

  waits : (n : ℕ) (b : BoardState) → Good b → length b.seats ≤ 9 → (homes : Homes) → Lanes b homes → b.done ≢ b.opened
      → Goes b (λ _. OfMaster SeeDone) 2 (λ y. y) (polled job_fits found_fits (step n 2 0 0 none)) (shown b homes) 0 (lead b, [])
  waits n b g few homes lanes part = let c : BoardState = record b { known = b.done; polls = b.polls + 1 } in (
    SeeDone,
    (refl, refl),
    tt,
    master_view key (master_of c) (length b.seats),
    keeps,
    tt,
    record {
      board = c;
      good = gather_keeps b g;
      few = few;
      words = refl;
      views = refl;
      lanes = λ lane in_range home. still_stocked (job_fits key lane) (found_fits key lane) b c homes homes lane refl (λ y _. refl) refl refl
          (lanes lane in_range (λ out. home (⊎_elim (λ m. let known : b.known ≡ b.opened = m.1 in absurd (part (omega (arith, g.known_done, done_opened b g)))) (λ x. inr x) out)));
    },
    refl,
    (done_opened b g, refl, (b, g, tt, refl, refl, refl), (λ _. refl), (λ full. absurd (part full)), g.known_done),
  )

  pub poll_event : (n id : ℕ) (m : Sat J R W) → n ≡ 12 → m.0.leads ≡ true → ¬ MasterHolds m.0.master → m.1 ≡ [] → Steps n id m (λ _. OfMaster SeeDone) 2 (λ y. y) (polled job_fits found_fits (step n 2 0 0 none))
  poll_event n id m twelve leads free bare s r wide at _ = master_goes (λ _. OfMaster SeeDone) 2 (λ y. y) (polled job_fits found_fits (step n 2 0 0 none)) (λ x. (¬ MasterHolds x.0.master) × (x.1 ≡ []))
      (λ b g few homes _ lanes in_hand p. subst (λ (h : Rest). Goes b (λ _. OfMaster SeeDone) 2 (λ y. y) (polled job_fits found_fits (step n 2 0 0 none)) (shown b homes) 0 (lead b, h)) (sym p.1)
      (dite (ℕ_discrete b.done b.opened) (gathers n b g few homes lanes p.0) (waits n b g few homes lanes)))
      s r (wide ∙ twelve) id m at leads (free, bare)

  pub polls : (n id : ℕ) (m : Sat J R W) → n ≡ 12 → m.0.leads ≡ true → ¬ MasterHolds m.0.master → m.1 ≡ [] → Allows Rule n id m 2 (λ y. y) (polled job_fits found_fits (step n 2 0 0 none) m)
  polls n id m twelve leads free bare = allowed n id m (λ _. OfMaster SeeDone) 2 (λ y. y) (polled job_fits found_fits (step n 2 0 0 none)) (poll_event n id m twelve leads free bare)

  pub sits : (id : ℕ) (v : View W) → v.leads ≡ true → v.seats < 9 → Splits Rule id v (one_more v) (seat_view v.made_for fresh)
  sits id v leads few s r at = let b = r.board in let t = master_at b id v (ap (λ (vs : List (View W)). get_elem? vs id) (sym r.views) ∙ at) leads in
      let room : length b.seats < 9 = omega (arith, ap (λ (x : View W). x.seats) t.1) in let long = length-snoc b.seats fresh in
      let c : BoardState = record b { seats = b.seats ++ fresh ∷ [] } in
      let new : List (View W) → ℕ → View W → List (View W) = λ vs i x. set vs i (one_more x) ++ seat_view x.made_for fresh ∷ [] in record {
        board = c;
        good = sit_keeps b r.good;
        few = omega (arith, long);
        words = r.words;
        views = (λ k. new (r.views k) (t.0 k) (t.1 k)) ∙ (λ k. master_view key (master_of b) (sym long k) ∷ snoc_map (seat_view key) b.seats fresh k);
        lanes = λ lane in_range home. still_stocked (job_fits key lane) (found_fits key lane) b c s.homes s.homes lane refl (λ y _. omega (arith, total-snoc (λ (u : SeatState). times y u.finished) b.seats fresh)) refl refl
            (r.lanes lane in_range (λ out. home (⊎_elim (λ m. inl m) (λ x. inr (x.0, x.1, at_longer b.seats (fresh ∷ []) x.0 x.1 x.2, x.3)) out)));
      }

  -- the table at the start
  pub starts : (words : List ℕ) (slots : List (Slot J R)) → words ≡ 0 ∷ 0 ∷ 0 ∷ [] → slots ≡ Empty ∷ Empty ∷ Empty ∷ Empty ∷ Empty ∷ Empty ∷ Empty ∷ Empty ∷ Empty ∷ Empty ∷ Empty ∷ Empty ∷ []
      → Rule (opening words slots (first_view key))
  starts words slots zeros empties = let b : BoardState = record { ticket = 0; opened = 0; done = 0; closed = false; known = 0; polls = 0; seats = [] } in
      let lane_of : (lane : ℕ) → get_elem? (map some twelve_empty) (2 * lane) ≡ some (some Empty) → get_elem? (map some twelve_empty) (2 * lane + 1) ≡ some (some Empty) → Stocked (job_fits key lane) (found_fits key lane) b (map some twelve_empty) lane
      = λ lane first second. record {
        first = Empty;
        second = Empty;
        first_home = first;
        second_home = second;
        first_fits = tt;
        second_fits = tt;
        waiting = λ y last same none. absurd (let l = last.0 in omega arith);
        finished = λ y last same some_one. absurd (let l = last.0 in omega arith);
      } in
      subst (λ (xs : List (Slot J R)). Rule (opening words xs (first_view key))) (sym empties) record {
        board = b;
        good = no_seats;
        few = omega arith;
        words = zeros;
        views = refl;
        lanes = λ lane in_range _. six (λ (l : ℕ). Stocked (job_fits key l) (found_fits key l) b (map some twelve_empty) l) (lane_of 0 refl refl) (lane_of 1 refl refl) (lane_of 2 refl refl) (lane_of 3 refl refl) (lane_of 4 refl refl) (lane_of 5 refl refl) lane in_range;
      }
