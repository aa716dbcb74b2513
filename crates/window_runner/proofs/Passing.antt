-- One seat passes a window: no report comes, or all six do. A commit has an outcome.
use Rattle.window_runner.proofs.Shared.{AllCame, AreRunsAlone, AreTaken, Bool, CameAccepted, Draw, Entry, Finish, IsFree, IsRunAlone, IsTaken, IsTrue, IsTrueOrNone, List, Meaning, None, OfCore0, OfCore1, OfDma, OfOuter, OfPio0, OfPio1, OneReport, Open, Option, Report, SeatState, SeeDone, SeeOpen, Setting, SixReports, Some, State, [], alone, alone_length, ap, arith, around, bound_under, core0_in, core1_bound, core1_in, core_lane, dma_in, dma_lane, ends_at, false, fresh, if◌then◌else◌, inl, inr, is_launching, least_meets, leb_tells, length, longest, outer_in, peripheral_lane, pio0_in, pio1_in, pio_lane, refl, replayed, stop, times, true, ℕ, ◌*◌, ◌++◌, ◌+◌, ◌-◌, ◌<◌, ◌^◌, ◌∙◌, ◌∷◌, ◌≡◌, ◌≤◌}
use mathlib.Core.Option.{some}
use lib.ListN.{get_elem?}
use Rattle.outer_lane.specs.State.{State as OuterState}
use Rattle.turn_board.specs.Tickets as board
use Rattle.turn_board.specs.Tickets.Event.{Draw as DrawOn, SeeOpen as SeeOpenOn, Finish as FinishOn, Open as OpenOn, SeeDone as SeeDoneOn}
use Rattle.window_runner.specs.Orders.{RunState, beginning, Event, found_of, next_tried, by_merge, on_board, Goes, ACommitHasAnOutcome, AWindowPasses, SixReportsAreTaken}
use Rattle.window_runner.proofs.Accepted.{along, alone_accepted}

-- ---- a report that is a run alone, and is true

log_of : {S B : Type 0} → Meaning (Unit {0}) S B → ℕ → S → State → ℕ → List Entry
log_of m lane before s bound =
    (alone m (around lane) tt before s.cycle s (alone_length m (around lane) tt before s.cycle s bound)).talk

report_of : {S B : Type 0} → Meaning (Unit {0}) S B → ℕ → S → State → ℕ → Report S
report_of m lane before s bound =
    let cycles = alone_length m (around lane) tt before s.cycle s bound in
    let end = replayed m tt before s.cycle (log_of m lane before s bound) cycles in
    record {
      start = s.cycle;
      length = cycles;
      before = before;
      after = end.state;
      log = log_of m lane before s bound;
      marks = end.marks;
    }

is_alone : {S B : Type 0} (m : Meaning (Unit {0}) S B) (lane : ℕ) (before : S) (s : State) (bound : ℕ) → IsRunAlone m lane before s bound (report_of m lane before s bound)
unfolding report_of log_of
is_alone m lane before s bound = record { same_start = refl; same_lane = refl; same_length = refl; same_log = refl }

few_alone : {S B : Type 0} (m : Meaning (Unit {0}) S B) (lane : ℕ) (before : S) (s : State) (bound : ℕ) → (report_of m lane before s bound).length ≤ bound
unfolding report_of alone_length
few_alone m lane before s bound = (least_meets (ends_at m (around lane) tt before s.cycle s) bound).within

true_by : {S B : Type 0} (m : Meaning (Unit {0}) S B) (lane : ℕ) (before : S) (s : State) (bound : ℕ)
    → (report_of m lane before s bound).length ≤ 256 → s.cycle + (report_of m lane before s bound).length < 2 ^ 64
    → IsTrue m tt (report_of m lane before s bound)
unfolding report_of log_of
true_by m lane before s bound short number =
    let report = report_of m lane before s bound in
    record {
      short = short;
      number = number;
      whole = (along m lane s report report.length refl (omega arith)).level.same_talk;
      lane_after = refl;
      marks_left = refl;
    }

is_true : {S B : Type 0} (m : Meaning (Unit {0}) S B) (lane : ℕ) (before : S) (s : State) (bound : ℕ) → bound ≤ 256 → s.cycle + bound < 2 ^ 64
    → IsTrue m tt (report_of m lane before s bound)
is_true m lane before s bound short number =
    let few = few_alone m lane before s bound in
    true_by m lane before s bound (omega (arith, few, short)) (omega (arith, few, number))

-- ---- it is taken: where none came, and where it came itself

none_came : {S B : Type 0} (m : Meaning (Unit {0}) S B) (lane : ℕ) (before : S) (s : State) (bound : ℕ → ℕ) (other : Report S) → ¬ CameAccepted m lane before s bound None other
none_came m lane before s bound other h = let e = h.1 in absurd (cc e)

taken_of : {S B : Type 0} (m : Meaning (Unit {0}) S B) (lane : ℕ) (before : S) (s : State) (bound : ℕ → ℕ) (limit : ℕ)
    → IsTaken m lane before s bound limit None (report_of m lane before s (bound limit))
taken_of m lane before s bound limit = inr (none_came m lane before s bound, is_alone m lane before s (bound limit))

came_of : {S B : Type 0} (m : Meaning (Unit {0}) S B) (lane : ℕ) (before : S) (s : State) (bound : ℕ → ℕ) (limit : ℕ)
    → CameAccepted m lane before s bound (Some (limit, report_of m lane before s (bound limit))) (report_of m lane before s (bound limit))
came_of m lane before s bound limit =
    (limit, refl, alone_accepted m lane before s (bound limit) (report_of m lane before s (bound limit)) (is_alone m lane before s (bound limit)))

-- it cannot be that no report is taken
some_taken : {S B : Type 0} (m : Meaning (Unit {0}) S B) (lane : ℕ) (before : S) (s : State) (bound : ℕ → ℕ) (limit : ℕ) (came : Option (ℕ × Report S))
    → ¬ ((report : Report S) → ¬ IsTaken m lane before s bound limit came report)
some_taken m lane before s bound limit came none =
    none (report_of m lane before s (bound limit)) (inr (λ other h. none other (inl h), is_alone m lane before s (bound limit)))

abbrev core1_under : Setting → State → ℕ → ℕ
core1_under w s limit = core1_bound s (bound_under w s limit)

pub a_commit_has_an_outcome : ACommitHasAnOutcome
a_commit_has_an_outcome w r legal none =
    let s = r.position.state in
    let came = (λ (lane : ℕ). found_of r.came (6 * r.commits + lane)) in
    some_taken core_lane 0 s.core0 s (bound_under w s) w.limit (core0_in (came 0)) (λ core0 h0.
    some_taken core_lane 1 s.core1 s (core1_under w s) w.limit (core1_in (came 1)) (λ core1 h1.
    some_taken dma_lane 2 s.dma.block s (bound_under w s) w.limit (dma_in (came 2)) (λ dma h2.
    some_taken pio_lane 3 s.pio0.block s (bound_under w s) w.limit (pio0_in (came 3)) (λ pio0 h3.
    some_taken pio_lane 4 s.pio1.block s (bound_under w s) w.limit (pio1_in (came 4)) (λ pio1 h4.
    some_taken (peripheral_lane w) 5 s.outer s (bound_under w s) w.limit (outer_in (came 5)) (λ outer h5.
    let six : SixReports = record { core0 = core0; core1 = core1; dma = dma; pio0 = pio0; pio1 = pio1; outer = outer } in
    none (record r { position = next_tried w (by_merge w six r.position); commits = r.commits + 1 })
    (six, (record { core0 = h0; core1 = h1; dma = h2; pio0 = h3; pio1 = h4; outer = h5 }, refl))))))))

-- ---- the six runs alone

abbrev six_of : Setting → State → SixReports
six_of w s = record {
  core0 = report_of core_lane 0 s.core0 s (bound_under w s w.limit);
  core1 = report_of core_lane 1 s.core1 s (core1_under w s w.limit);
  dma = report_of dma_lane 2 s.dma.block s (bound_under w s w.limit);
  pio0 = report_of pio_lane 3 s.pio0.block s (bound_under w s w.limit);
  pio1 = report_of pio_lane 4 s.pio1.block s (bound_under w s w.limit);
  outer = report_of (peripheral_lane w) 5 s.outer s (bound_under w s w.limit);
}

six_alone : (w : Setting) (s : State) → AreRunsAlone w s (six_of w s)
six_alone w s = record {
  core0 = is_alone core_lane 0 s.core0 s (longest w s);
  core1 = is_alone core_lane 1 s.core1 s (core1_bound s (longest w s));
  dma = is_alone dma_lane 2 s.dma.block s (longest w s);
  pio0 = is_alone pio_lane 3 s.pio0.block s (longest w s);
  pio1 = is_alone pio_lane 4 s.pio1.block s (longest w s);
  outer = is_alone (peripheral_lane w) 5 s.outer s (longest w s);
}

-- ---- one number after another

abbrev first_seat : List SeatState → SeatState
first_seat [] = fresh
first_seat (x ∷ xs) = x

abbrev drawn_by : RunState → RunState
drawn_by r = on_board (DrawOn 0) r

abbrev seen_by : RunState → RunState
seen_by r = on_board (SeeOpenOn 0) (drawn_by r)

-- the seat draws the number, finds it open and finishes it
abbrev round : ℕ → Option OneReport → RunState → RunState
round number found r = record (seen_by r) {
  board = board.after (seen_by r).board (FinishOn 0 number);
  came = (seen_by r).came ++ (number, found) ∷ [];
}

abbrev passes : ℕ → Option OneReport → List Event → List Event
passes number found events = Draw 0 ∷ SeeOpen 0 ∷ Finish 0 number found ∷ events

free_of : (s : SeatState) → s.drawn ≡ s.finished → IsFree s
free_of s e n h =
    let some_drawn = h.0 in
    let none_finished = h.1 in
    let same = ap (times n) e in
    omega arith

round_goes : (w : Setting) (number : ℕ) (found : Option OneReport) (r last : RunState) (events : List Event)
    → get_elem? r.board.seats 0 ≡ some (first_seat r.board.seats)
    → (first_seat r.board.seats).drawn ≡ (first_seat r.board.seats).finished
    → get_elem? (drawn_by r).board.seats 0 ≡ some (first_seat (drawn_by r).board.seats)
    → get_elem? (seen_by r).board.seats 0 ≡ some (first_seat (seen_by r).board.seats)
    → times number (first_seat (seen_by r).board.seats).drawn ≡ 1
    → times number (first_seat (seen_by r).board.seats).finished ≡ 0
    → (first_seat (seen_by r).board.seats).holding ≡ true
    → IsTrueOrNone w found → Goes w (round number found r) events last → Goes w r (passes number found events) last
round_goes w number found r last events free done there holder once not_yet holds truth rest =
    let drawn : 0 < times number (first_seat (seen_by r).board.seats).drawn = omega arith in (
      drawn_by r,
      (first_seat r.board.seats, free, free_of (first_seat r.board.seats) done),
      refl,
      (
        seen_by r,
        (first_seat (drawn_by r).board.seats, there),
        refl,
        (round number found r, ((first_seat (seen_by r).board.seats, holder, (drawn, not_yet), holds), truth), refl, rest),
      ),
    )

-- ---- a window

-- what is brought for the six lanes
record Brought : Type 0 where
  core0 : Option OneReport
  core1 : Option OneReport
  dma : Option OneReport
  pio0 : Option OneReport
  pio1 : Option OneReport
  outer : Option OneReport

record AreTrue (w : Setting) (b : Brought) : Type 0 where
  core0 : IsTrueOrNone w b.core0
  core1 : IsTrueOrNone w b.core1
  dma : IsTrueOrNone w b.dma
  pio0 : IsTrueOrNone w b.pio0
  pio1 : IsTrueOrNone w b.pio1
  outer : IsTrueOrNone w b.outer

abbrev opened_by : RunState → RunState
opened_by r = on_board OpenOn r

abbrev all_rounds : Brought → RunState → RunState
all_rounds b r = round 5 b.outer (round 4 b.pio1 (round 3 b.pio0 (round 2 b.dma (round 1 b.core1 (round 0 b.core0 (opened_by r))))))

abbrev known_by : Brought → RunState → RunState
known_by b r = on_board SeeDoneOn (all_rounds b r)

abbrev events_by : Brought → List Event
events_by b =
    Open ∷ passes 0 b.core0 (passes 1 b.core1 (passes 2 b.dma (passes 3 b.pio0 (passes 4 b.pio1 (passes 5 b.outer (SeeDone ∷ []))))))

ends : (w : Setting) (s : State) (b : Brought) → Goes w (all_rounds b (beginning s 1)) (SeeDone ∷ []) (known_by b (beginning s 1))
ends w s b = (known_by b (beginning s 1), tt, refl, refl)

-- the seat opens a window and brings all of it
goes_by : (w : Setting) (s : State) (b : Brought) → stop w s ≡ None → AreTrue w b → Goes w (beginning s 1) (events_by b) (known_by b (beginning s 1))
goes_by w s b runs truth =
    let r0 = opened_by (beginning s 1) in
    let r1 = round 0 b.core0 r0 in
    let r2 = round 1 b.core1 r1 in
    let r3 = round 2 b.dma r2 in
    let r4 = round 3 b.pio0 r3 in
    let r5 = round 4 b.pio1 r4 in
    let last = known_by b (beginning s 1) in
    let e6 : List Event = SeeDone ∷ [] in
    let e5 = passes 5 b.outer e6 in
    let e4 = passes 4 b.pio1 e5 in
    let e3 = passes 3 b.pio0 e4 in
    let e2 = passes 2 b.dma e3 in
    let e1 = passes 1 b.core1 e2 in
    let g5 = round_goes w 5 b.outer r5 last e6 refl refl refl refl refl refl refl truth.outer (ends w s b) in
    let g4 = round_goes w 4 b.pio1 r4 last e5 refl refl refl refl refl refl refl truth.pio1 g5 in
    let g3 = round_goes w 3 b.pio0 r3 last e4 refl refl refl refl refl refl refl truth.pio0 g4 in
    let g2 = round_goes w 2 b.dma r2 last e3 refl refl refl refl refl refl refl truth.dma g3 in
    let g1 = round_goes w 1 b.core1 r1 last e2 refl refl refl refl refl refl refl truth.core1 g2 in
    let g0 = round_goes w 0 b.core0 r0 last e1 refl refl refl refl refl refl refl truth.core0 g1 in
    (r0, ((refl, refl, omega arith), runs, refl), refl, g0)

abbrev committed : Setting → State → RunState → RunState
committed w s r = record r { position = next_tried w (by_merge w (six_of w s) r.position); commits = r.commits + 1 }

-- ---- where no report comes

abbrev nothing : Brought
nothing = record { core0 = None; core1 = None; dma = None; pio0 = None; pio1 = None; outer = None }

none_taken : (w : Setting) (s : State)
    → AreTaken w s (λ lane. found_of (known_by nothing (beginning s 1)).came (6 * (known_by nothing (beginning s 1)).commits + lane)) (six_of w s)
none_taken w s = record {
  core0 = taken_of core_lane 0 s.core0 s (bound_under w s) w.limit;
  core1 = taken_of core_lane 1 s.core1 s (core1_under w s) w.limit;
  dma = taken_of dma_lane 2 s.dma.block s (bound_under w s) w.limit;
  pio0 = taken_of pio_lane 3 s.pio0.block s (bound_under w s) w.limit;
  pio1 = taken_of pio_lane 4 s.pio1.block s (bound_under w s) w.limit;
  outer = taken_of (peripheral_lane w) 5 s.outer s (bound_under w s) w.limit;
}

pub a_window_passes : AWindowPasses
a_window_passes w s h runs =
    let r = known_by nothing (beginning s 1) in (
      events_by nothing,
      r,
      committed w s r,
      six_of w s,
      goes_by w s nothing runs (record { core0 = tt; core1 = tt; dma = tt; pio0 = tt; pio1 = tt; outer = tt }),
      (refl, refl),
      (none_taken w s, refl),
      six_alone w s,
    )

-- ---- where all six come

abbrev all_six : Setting → State → Brought
all_six w s =
    let six = six_of w s in
    record {
      core0 = Some (OfCore0 w.limit six.core0);
      core1 = Some (OfCore1 w.limit six.core1);
      dma = Some (OfDma w.limit six.dma);
      pio0 = Some (OfPio0 w.limit six.pio0);
      pio1 = Some (OfPio1 w.limit six.pio1);
      outer = Some (OfOuter w.limit six.outer);
    }

longest_fits : (w : Setting) (s : State) → s.cycle ≤ w.limit → (longest w s ≤ 256) × (s.cycle + longest w s ≤ w.limit)
longest_fits w s le = elim (leb_tells (w.limit - s.cycle) 256) [
  | inl h ↦ let few = h.1 in rw h.0 (few, omega (arith, le))
  | inr h ↦ let many = h.1 in rw h.0 (omega arith, omega (arith, le, many))
]

no_longer : (c : Bool) (n : ℕ) → (if c then 0 else n) ≤ n
no_longer true n = omega arith
no_longer false n = omega arith

before_as : {S B : Type 0} (m : Meaning (Unit {0}) S B) (lane : ℕ) (before : S) (s : State) (bound : ℕ) → (report_of m lane before s bound).before ≡ before
unfolding report_of
before_as m lane before s bound = refl

six_true : (w : Setting) (s : State) → s.cycle ≤ w.limit → w.limit < 2 ^ 64 → length s.outer.device ≡ w.device.count → AreTrue w (all_six w s)
six_true w s le lt words =
    let fits = longest_fits w s le in
    let few = fits.0 in
    let within = fits.1 in
    let less = no_longer (is_launching s.core1) (longest w s) in
    let number : s.cycle + longest w s < 2 ^ 64 = omega (arith, lt, within) in
    record {
      core0 = (refl, is_true core_lane 0 s.core0 s (longest w s) few number);
      core1 = (refl, is_true core_lane 1 s.core1 s (core1_bound s (longest w s)) (omega (arith, less, few)) (omega (arith, less, number)));
      dma = (refl, is_true dma_lane 2 s.dma.block s (longest w s) few number);
      pio0 = (refl, is_true pio_lane 3 s.pio0.block s (longest w s) few number);
      pio1 = (refl, is_true pio_lane 4 s.pio1.block s (longest w s) few number);
      outer = (
        refl,
        ap (λ (o : OuterState). length o.device) (before_as (peripheral_lane w) 5 s.outer s (longest w s)) ∙ words,
        is_true (peripheral_lane w) 5 s.outer s (longest w s) few number,
      );
    }

six_came : (w : Setting) (s : State)
    → AllCame w s (λ lane. found_of (known_by (all_six w s) (beginning s 1)).came (6 * (known_by (all_six w s) (beginning s 1)).commits + lane)) (six_of w s)
six_came w s = record {
  core0 = came_of core_lane 0 s.core0 s (bound_under w s) w.limit;
  core1 = came_of core_lane 1 s.core1 s (core1_under w s) w.limit;
  dma = came_of dma_lane 2 s.dma.block s (bound_under w s) w.limit;
  pio0 = came_of pio_lane 3 s.pio0.block s (bound_under w s) w.limit;
  pio1 = came_of pio_lane 4 s.pio1.block s (bound_under w s) w.limit;
  outer = came_of (peripheral_lane w) 5 s.outer s (bound_under w s) w.limit;
}

taken_by : (w : Setting) (s : State) (came : ℕ → Option OneReport) (six : SixReports) → AllCame w s came six → AreTaken w s came six
taken_by w s came six h = record {
  core0 = inl h.core0;
  core1 = inl h.core1;
  dma = inl h.dma;
  pio0 = inl h.pio0;
  pio1 = inl h.pio1;
  outer = inl h.outer;
}

pub six_reports_are_taken : SixReportsAreTaken
six_reports_are_taken w s h runs lt words =
    let b = all_six w s in
    let r = known_by b (beginning s 1) in (
      events_by b,
      r,
      committed w s r,
      six_of w s,
      goes_by w s b runs (six_true w s h.within lt words),
      (refl, refl),
      six_came w s,
      (taken_by w s (λ lane. found_of r.came (6 * r.commits + lane)) (six_of w s) (six_came w s), refl),
    )
