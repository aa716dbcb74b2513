-- Each event of a legal list keeps the machine where it should stand.
use Rattle.window_runner.proofs.Shared.{AreTaken, Bool, Close, Commit, Draw, Finish, IsTrueOrNone, List, None, OneReport, Open, Option, Pass, Position, SeeDone, SeeOpen, Setting, SixReports, Some, State, Why, [], ap, arith, by_window, false, first_position, has_hold, if◌then◌else◌, inl, inr, is_tried, next_position, not, refl, stop, subst, suc, sym, true, window_length, zero, ℕ, ◌&&◌, ◌*◌, ◌++◌, ◌+◌, ◌-◌, ◌==◌, ◌∙◌, ◌∷◌, ◌≡◌, ◌⊎◌}
use Rattle.turn_board.specs.Tickets as board
use Rattle.turn_board.specs.Tickets.Event.{Draw as DrawOn, SeeOpen as SeeOpenOn, Finish as FinishOn, Close as CloseOn, SeeDone as SeeDoneOn}
use Rattle.window_runner.specs.Orders.{RunState, Begins, beginning, Event, found_of, IsLegal, GoesOver, next_tried, by_merge, on_board, Happens, Goes, window_start, commits_in, passed_in, AnyOrder}
use Rattle.window_runner.proofs.Taking.{all_alone}
use Rattle.window_runner.proofs.Merges.{merges}
use Rattle.window_runner.proofs.Standing.{Ready, IsReady, standing_first, standing_window, window_on, onward_ready, begins_here}

-- ---- what came is true

abbrev AllTrue : Setting → List (ℕ × Option OneReport) → Type 0
AllTrue w [] = Unit {0}
AllTrue w (x ∷ came) = IsTrueOrNone w x.1 × AllTrue w came

one_true : (w : Setting) (x y : Option OneReport) (b : Bool) → IsTrueOrNone w x → IsTrueOrNone w y → IsTrueOrNone w (if b then x else y)
one_true w x y true a b = a
one_true w x y false a b = b

found_true : (w : Setting) (came : List (ℕ × Option OneReport)) (number : ℕ) → AllTrue w came → IsTrueOrNone w (found_of came number)
found_true w [] number h = tt
found_true w (x ∷ came) number h = one_true w x.1 (found_of came number) (x.0 == number) h.0 (found_true w came number h.1)

more_true : (w : Setting) (came : List (ℕ × Option OneReport)) (x : ℕ × Option OneReport) → AllTrue w came → IsTrueOrNone w x.1 → AllTrue w (came ++ x ∷ [])
more_true w [] x h t = (t, tt)
more_true w (y ∷ came) x h t = (h.0, more_true w came x h.1 t)

-- ---- where a legal list stands

-- every window that was opened is committed, or all but one, and then the machine runs
abbrev IsDue : Setting → RunState → Type 0
IsDue w r = (r.board.opened ≡ 6 * r.commits) ⊎ ((r.board.opened ≡ 6 * r.commits + 6) × (stop w r.position.state ≡ None))

-- after so many windows
record Sound (w : Setting) (s : State) (m : ℕ) (r : RunState) : Type 0 where
  ready : Ready w s m r.position
  due : IsDue w r
  truth : AllTrue w r.came

still : (w : Setting) (s : State) (m : ℕ) (r next : RunState) → Sound w s m r → next.position ≡ r.position → next.commits ≡ r.commits
    → next.board.opened ≡ r.board.opened → AllTrue w next.came → Sound w s m next
still w s m r next h position commits opened truth = record {
  ready = rw position h.ready;
  due = rw (position, commits, opened) h.due;
  truth = truth;
}

-- ---- a commit

runs_by : (w : Setting) (r : RunState) → IsDue w r → r.board.opened ≡ 6 * r.commits + 6 → stop w r.position.state ≡ None
runs_by w r (inl e) open_one = absurd (omega arith)
runs_by w r (inr e) open_one = e.1

tried_by : (w : Setting) (p : Position) → IsReady w p → stop w p.state ≡ None → is_tried p.after_empty p.state ≡ true
tried_by w p (inl e) runs = absurd (let other = e.1 in cc (other, runs))
tried_by w p (inr e) runs = e.1

free_by : (a b : Bool) → (not a && not b) ≡ true → b ≡ false
free_by true b e = absurd (cc e)
free_by false true e = absurd (cc e)
free_by false false e = refl

-- over the window that is tried at a position
over_one : (w : Setting) (s : State) (m : ℕ) (p : Position) → Ready w s m p → stop w p.state ≡ None → Ready w s (m + 1) (next_tried w (next_position w p))
over_one w s m p h runs =
    let standing = standing_window w s m h.step p h.standing runs (tried_by w p h.ready runs) in
    onward_ready w s (m + 1) (h.step + 1) (next_position w p) (w.limit - (next_position w p).state.cycle) standing (omega arith)

commit_ready : (w : Setting) (s : State) (m : ℕ) (r : RunState) (six : SixReports) → Sound w s m r → stop w r.position.state ≡ None
    → AreTaken w r.position.state (λ lane. found_of r.came (6 * r.commits + lane)) six
    → Ready w s (m + 1) (next_tried w (by_merge w six r.position))
commit_ready w s m r six h runs taken =
    let p = r.position in
    let tried = tried_by w p h.ready.ready runs in
    let alone = all_alone w p.state (λ lane. found_of r.came (6 * r.commits + lane)) six
    (λ lane. found_true w r.came (6 * r.commits + lane) h.truth) taken in
    let window = merges w p.state six (record {
      free = free_by p.after_empty (has_hold p.state.fabric) tried;
      knows = h.ready.standing.knows;
      alone = alone;
    }) in
    let same : by_merge w six p ≡ by_window w (window_length w p.state) p = rw (window.state, window.length) refl in
    subst (λ (q : Position). Ready w s (m + 1) (next_tried w q)) (sym (same ∙ sym (window_on w p tried))) (over_one w s m p h.ready runs)

-- ---- windows that are passed over

over_ready : (w : Setting) (s : State) (m n : ℕ) (p q : Position) → Ready w s m p → GoesOver w p n q → Ready w s (m + n) q
over_ready w s m zero p q h e = let none : m + zero ≡ m = omega arith in rw (e, none) h
over_ready w s m (suc n) p q h e =
    let sum : m + suc n ≡ (m + 1) + n = omega arith in
    rw sum (over_ready w s (m + 1) n (next_tried w (next_position w p)) q (over_one w s m p h e.0) e.1)

-- ---- each event

-- how many windows it commits or passes over
windows_of : Event → ℕ
windows_of Commit = 1
windows_of (Pass windows) = windows
windows_of _ = 0

none_more : (w : Setting) (s : State) (m : ℕ) (r : RunState) → Sound w s m r → Sound w s (m + 0) r
none_more w s m r h = let same : m + 0 ≡ m = omega arith in rw same h

step_sound : (w : Setting) (s : State) (m : ℕ) (r : RunState) (event : Event) (next : RunState) → Sound w s m r → IsLegal w r event → Happens w r event next
    → Sound w s (m + windows_of event) next
unfolding windows_of
step_sound w s m r (Draw seat) next h legal e =
    none_more w s m next (subst (Sound w s m) (sym e) (still w s m r (on_board (DrawOn seat) r) h refl refl refl h.truth))
step_sound w s m r (SeeOpen seat) next h legal e =
    none_more w s m next (subst (Sound w s m) (sym e) (still w s m r (on_board (SeeOpenOn seat) r) h refl refl refl h.truth))
step_sound w s m r (Finish seat number found) next h legal e =
    none_more w s m next (subst (Sound w s m) (sym e)
    (still w s m r (record r { board = board.after r.board (FinishOn seat number); came = r.came ++ (number, found) ∷ [] }) h refl refl refl
    (more_true w r.came (number, found) h.truth legal.1)))
step_sound w s m r Open next h legal e =
    let opened = legal.2 in
    none_more w s m next (subst (Sound w s m) (sym e) (record { ready = h.ready; due = inr (ap (λ n. n + 6) opened, legal.1); truth = h.truth }))
step_sound w s m r Close next h legal e =
    none_more w s m next (subst (Sound w s m) (sym e) (still w s m r (on_board CloseOn r) h refl refl refl h.truth))
step_sound w s m r SeeDone next h legal e =
    none_more w s m next (subst (Sound w s m) (sym e) (still w s m r (on_board SeeDoneOn r) h refl refl refl h.truth))
step_sound w s m r Commit next h legal e =
    let opened = legal.1 in
    let runs = runs_by w r h.due opened in
    subst (Sound w s (m + 1)) (sym e.1.1) (record {
      ready = commit_ready w s m r e.0 h runs e.1.0;
      due = inl (omega arith);
      truth = h.truth;
    })
step_sound w s m r (Pass windows) next h legal e =
    subst (Sound w s (m + windows)) (sym e.2) (record {
      ready = over_ready w s m windows r.position e.0 h.ready e.1;
      due = inl legal.1;
      truth = h.truth;
    })

in_order : (event : Event) (events : List Event) (m : ℕ) → m + (commits_in (event ∷ events) + passed_in (event ∷ events)) ≡ (m + windows_of event) + (commits_in events + passed_in events)
unfolding windows_of
in_order (Draw seat) events m = omega arith
in_order _ events m = omega arith

goes_sound : (w : Setting) (s : State) (m : ℕ) (events : List Event) (r last : RunState) → Sound w s m r → Goes w r events last
    → Sound w s (m + (commits_in events + passed_in events)) last
goes_sound w s m [] r last h e = none_more w s m last (subst (Sound w s m) (sym e) h)
goes_sound w s m (event ∷ events) r last h e =
    let rest = goes_sound w s (m + windows_of event) events e.0 last (step_sound w s m r event e.0 h e.1 e.2) e.3 in
    let sum = in_order event events m in
    rw sum rest

-- ---- the beginning

tried_free : (a : Bool) → a ≡ false → (not false && not a) ≡ true
tried_free a e = rw e refl

ready_first : (w : Setting) (s : State) (cause : Option Why) → stop w s ≡ cause
    → ((why : Why) × (stop w s ≡ Some why)) ⊎ (has_hold s.fabric ≡ false) → IsReady w (first_position s)
ready_first w s (Some why) e h = inl (why, e)
ready_first w s None e (inl h) = inl h
ready_first w s None e (inr h) = inr (e, tried_free (has_hold s.fabric) h)

first_sound : (w : Setting) (s : State) (seats : ℕ) → Begins w s → Sound w s 0 (beginning s seats)
first_sound w s seats h = record {
  ready = record {
    step = 0;
    standing = standing_first w s h.within h.knows;
    ready = ready_first w s (stop w s) refl h.free;
  };
  due = inl refl;
  truth = tt;
}

pub any_order : AnyOrder
any_order w s seats h events r goes =
    let sound = goes_sound w s 0 events (beginning s seats) r (first_sound w s seats h) goes in
    let count : 0 + (commits_in events + passed_in events) ≡ commits_in events + passed_in events = omega arith in
    sym (begins_here w s (0 + (commits_in events + passed_in events)) r.position sound.ready h.within) ∙ ap (window_start w s) count
