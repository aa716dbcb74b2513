-- What takes a run on, from cycles of which nothing is told to those whose marks are left; and how a run by it goes on its way.
use Rattle.window_runner.proofs.Shared.{Err, FailsWithin, IfNone, IsOnRun, IsQuiet, List, Mark, None, Ok, OnItsWay, Option, Setting, Some, State, Tells, Why, [], all_shown, along_states, ap, arith, events_by, events_in, if◌then◌else◌, is_some, length, mark, marks_in, next, next_cycle, no_window, one_more, refl, run_shown, states, stop, subst, sym, ℕ, ◌+◌, ◌<◌, ◌∙◌, ◌∷◌, ◌≡◌, ◌≤◌}
use Rattle.trace_text.specs.declared.event.Event.{Event as Shown}
use Rattle.window_runner.specs.Course.{Goes, HasLeft, IsOver}
use Rattle.window_runner.proofs.Along.{no_cycles}
use Rattle.window_runner.proofs.Cycling.{way_on, way_fails}
use Rattle.window_runner.proofs.Marks.{marks_count, marks_tell}
use Rattle.window_runner.proofs.Over.{number_over, way_over}
use Rattle.window_runner.proofs.Telling.{TakesInTurn, tells_same}

-- ---- from the cycles whose marks are left

pub record Shows (w : Setting) (most : ℕ) (s t : State) (marks : List Mark) (before after : ℕ) (result : Option Why) : Type 0 where
  pub told : ℕ
  pub few : told ≤ most
  pub state : t ≡ states w s told
  pub number : t.cycle ≡ s.cycle + told
  pub steps : after ≡ before + told
  pub left : HasLeft w s t told marks result

pub shows_none : (w : Setting) {most : ℕ} (s t : State) (marks : List Mark) (before after : ℕ) (why : Why) → stop w s ≡ Some why → t ≡ s → after ≡ before → Shows w most s t marks before after (Some why)
shows_none w s t marks before after why e same still =
    let at = ap (λ (x : State). x.cycle) same in
    record { told = 0; few = omega arith; state = same ∙ sym (no_cycles w s); number = omega (arith, at); steps = omega (arith, still); left = (refl, ap (stop w) same ∙ e) }

marks_one : (w : Setting) (s : State) → marks_in w s 1 ≡ mark w s ∷ []
unfolding marks_in states
marks_one w s = refl

pub shows_one : (w : Setting) (most : ℕ) (s t : State) (marks : List Mark) (before after : ℕ) → 1 ≤ most → stop w s ≡ None → t ≡ next w s → marks ≡ mark w s ∷ [] → after ≡ before + 1
    → Shows w most s t marks before after None
shows_one w most s t marks before after le runs same left count = record {
  told = 1;
  few = le;
  state = same ∙ sym (one_more w s runs);
  number = ap (λ (x : State). x.cycle) same ∙ next_cycle w s;
  steps = count;
  left = left ∙ sym (marks_one w s);
}

pub goes_over : (w : Setting) (most : ℕ) (s t u : State) (over : ℕ) (marks : List Mark) (a b c : ℕ) (result : Option Why) → IsQuiet w s over → t ≡ states w s over → b ≡ a + over
    → Shows w most t u marks b c result → Goes w most s u marks a c result
goes_over w most s t u over marks a b c result quiet here count h =
    let at = number_over w s t over here quiet in
    let number = h.number in
    let steps = h.steps in
    record {
      over = over;
      told = h.told;
      few = h.few;
      quiet = quiet;
      state = h.state ∙ ap (λ (x : State). states w x h.told) here;
      number = omega (arith, at, number);
      steps = omega (arith, count, steps);
      left = subst (λ (x : State). HasLeft w x u h.told marks result) here h.left;
    }

-- by one cycle, or there is a stop
shows_cycle : (w : Setting) (s t : State) (before after : List Mark) (b c : ℕ) (r : Option Why) → r ≡ stop w s → t ≡ (if is_some r then s else next w s)
    → after ≡ (if is_some r then before else mark w s ∷ []) → c ≡ (if is_some r then b else b + 1) → Shows w 1 s t after b c r
shows_cycle w s t before after b c (Some why) cause state left count = shows_none w s t after b c why (sym cause) state count
shows_cycle w s t before after b c None cause state left count = shows_one w 1 s t after b c (omega arith) (sym cause) state left count

pub record ByCycle (w : Setting) (s t : State) (marks : List Mark) (before after : ℕ) (result : Option Why) : Type 0 where
  pub goes : Goes w 1 s t marks before after result
  pub on : IfNone result (s.cycle < t.cycle)
  pub within : t.cycle ≤ w.limit

pub by_cycle : (w : Setting) (s t u : State) (over : ℕ) (left marks : List Mark) (a b c : ℕ) (r : Option Why) → s.cycle ≤ w.limit → IsQuiet w s over → t ≡ states w s over → b ≡ a + over
    → r ≡ stop w t → u ≡ (if is_some r then t else next w t) → marks ≡ (if is_some r then left else mark w t ∷ []) → c ≡ (if is_some r then b else b + 1) → ByCycle w s u marks a c r
by_cycle w s t u over left marks a b c r le quiet here count cause state shown steps =
    let h = shows_cycle w t u left marks b c r cause state shown steps in
    let before : t.cycle ≤ w.limit = subst (λ (x : State). x.cycle ≤ w.limit) (sym here) (along_states w s over le).within in
    let at = number_over w s t over here quiet in
    record {
      goes = goes_over w 1 s t u over marks a b c r quiet here count h;
      on = on_by r state;
      within = subst (λ (x : State). x.cycle ≤ w.limit) (sym h.state) (along_states w t h.told before).within;
    }
  where
    on_by : (x : Option Why) → u ≡ (if is_some x then t else next w t) → IfNone x (s.cycle < u.cycle)
    on_by (Some why) same = tt
    on_by None same = let one = ap (λ (y : State). y.cycle) same ∙ next_cycle w t in let at = number_over w s t over here quiet in omega (arith, one, at)

pub goes_few : (w : Setting) (few most : ℕ) (s t : State) (marks : List Mark) (a b : ℕ) (r : Option Why) → few ≤ most → Goes w few s t marks a b r → Goes w most s t marks a b r
goes_few w few most s t marks a b r le h =
    let low = h.few in
    record { over = h.over; told = h.told; few = omega (arith, low, le); quiet = h.quiet; state = h.state; number = h.number; steps = h.steps; left = h.left }

-- by a window
pub goes_by_window : (w : Setting) (n : ℕ) (s t : State) (marks : List Mark) (a b : ℕ) → IsOver w n s t marks a b → Goes w 256 s t marks a b None
goes_by_window w n s t marks a b h =
    goes_over w 256 s s t 0 marks a a b None (no_window w s).quiet (sym (no_cycles w s)) (omega arith)
    (record { told = n; few = h.few; state = h.state; number = h.number; steps = h.steps; left = h.left })

-- ---- a run on its way by it

module _ {w : Setting} {most : ℕ} {s t : State} {before after : ℕ} {marks : List Mark} (k : Goes w most s t marks before after None) where
  pub count_marks : length marks ≡ k.told
  count_marks = ap length k.left ∙ marks_count w (states w s k.over) k.told

  pub few_marks : length marks ≤ t.cycle
  few_marks = let count = count_marks in let number = k.number in omega (arith, count, number)

  pub few_cycles : (cycle bound : ℕ) → w.limit < bound → s.cycle ≤ w.limit → cycle + length marks ≡ t.cycle → cycle + length marks < bound
  few_cycles cycle bound lt le at =
      let behind = (along_states w s k.over le).within in
      let within : t.cycle ≤ w.limit = subst (λ (x : State). x.cycle ≤ w.limit) (sym k.state) (along_states w (states w s k.over) k.told behind).within in
      omega (arith, within, at, lt)

  there : t.cycle ≡ (states w s k.over).cycle + k.told
  there = let number = k.number in let at = k.quiet.cycle k.over (omega arith) in omega (arith, number, at)

  -- what the marks tell
  tells_them : (cycle levels : ℕ) → cycle + length marks ≡ t.cycle → levels ≡ s.outer.pads.current → events_by cycle levels marks ≡ events_in w (states w s k.over) k.told
  tells_them cycle levels at pads =
      let u = states w s k.over in
      let count = count_marks in
      let number = there in
      let first : cycle ≡ u.cycle = omega (arith, count, at, number) in
      let seen : levels ≡ u.outer.pads.current = pads ∙ ap (λ p. p.current) (sym (k.quiet.pads k.over (omega arith))) in
      let whole : (states w u k.told).cycle ≡ u.cycle + k.told = ap (λ (x : State). x.cycle) (sym k.state) ∙ number in
      let here : events_by cycle levels marks ≡ events_by u.cycle u.outer.pads.current (marks_in w u k.told) = rw (first, seen, k.left) refl in
      here ∙ marks_tell w u k.told whole

behind : {T : Type 0} {took : T → List Shown → T → Type 0} {a b : T} {f g : ℕ} {w : Setting} {most : ℕ} {first s t : State} {before now after : ℕ} {marks : List Mark} {result : Option Why}
    → OnItsWay took a b f g w first s before now → (k : Goes w most s t marks now after result) → OnItsWay took a b f g w first (states w s k.over) before (now + k.over)
behind {T} {took} {a} {b} {f} {g} {w} {most} {first} {s} {t} {before} {now} r k = way_over (states w s k.over) (now + k.over) k.over r refl k.quiet refl

pub goes_on_way : {T A E : Type 0} {took : T → List Shown → T → Type 0} {missed : T → Shown → T → Type 0} {a b c : T} {f g h : ℕ} {w : Setting} {most : ℕ} {first s t : State} {before now after : ℕ} {marks : List Mark} {x : A} (cycle levels : ℕ)
    → TakesInTurn took → OnItsWay took a b f g w first s before now → Goes w most s t marks now after None → cycle + length marks ≡ t.cycle → levels ≡ s.outer.pads.current
    → Tells {E = E} took missed b c g h (all_shown (events_by cycle levels marks)) (Ok x) → OnItsWay took a c f h w first t before after
goes_on_way {T} {A} {E} {took} {missed} {a} {b} {c} {f} {g} {h} {w} {most} {first} {s} {t} {before} {now} {after} {marks} {x} cycle levels turn r k at pads told =
    way_on k.told (behind r k) k.state (there k) k.steps turn
    (tells_same took missed b c g h (all_shown (events_by cycle levels marks)) (all_shown (events_in w (states w s k.over) k.told)) (Ok x) (ap all_shown (tells_them k cycle levels at pads)) told)

pub goes_fails : {T A B E : Type 0} {took : T → List Shown → T → Type 0} {missed : T → Shown → T → Type 0} {a b c : T} {f g h : ℕ} {w : Setting} {most : ℕ} {first s t : State} {before now after : ℕ} {marks : List Mark} {e : E} (cycle levels : ℕ)
    → TakesInTurn took → OnItsWay took a b f g w first s before now → Goes w most s t marks now after None → cycle + length marks ≡ t.cycle → levels ≡ s.outer.pads.current
    → Tells {A = A} took missed b c g h (all_shown (events_by cycle levels marks)) (Err e)
    → Tells {A = B} took missed a c f h (run_shown w first) (Err e) × FailsWithin took missed a c w most first t × IsOnRun w first t × (after + first.cycle ≡ before + t.cycle)
goes_fails {T} {A} {B} {E} {took} {missed} {a} {b} {c} {f} {g} {h} {w} {most} {first} {s} {t} {before} {now} {after} {marks} {e} cycle levels turn r k at pads told =
    way_fails k.told (behind r k) k.state (there k) k.steps most k.few turn
    (tells_same took missed b c g h (all_shown (events_by cycle levels marks)) (all_shown (events_in w (states w s k.over) k.told)) (Err e) (ap all_shown (tells_them k cycle levels at pads)) told)

-- there is a stop
pub goes_to_stop : {T : Type 0} {took : T → List Shown → T → Type 0} {a b : T} {f g : ℕ} {w : Setting} {most : ℕ} {first s t : State} {before now after : ℕ} {marks : List Mark} {why : Why}
    → OnItsWay took a b f g w first s before now → Goes w most s t marks now after (Some why) → OnItsWay took a b f g w first t before after × (stop w t ≡ Some why)
goes_to_stop {T} {took} {a} {b} {f} {g} {w} {most} {first} {s} {t} {before} {now} {after} r k =
    let none = k.left.0 in
    let steps = k.steps in
    (way_over t after k.over r (k.state ∙ ap (states w (states w s k.over)) none ∙ no_cycles w (states w s k.over)) k.quiet (omega (arith, steps, none)), k.left.1)
