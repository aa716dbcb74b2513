-- A run on its way, up to its stop: what its tape took and what was counted of cycles.
use Rattle.window_runner.proofs.Shared.{Err, FailsWithin, GoesOn, IsOnRun, List, Ok, OnItsWay, Setting, SinkFault, Some, State, TakenBefore, Tells, Why, all_events, all_shown, along_states, ap, arith, events_in, last_here, last_state, refl, run_shown, states, stop, subst, sym, ℕ, ◌++◌, ◌+◌, ◌∙◌, ◌≡◌, ◌≤◌}
use Rattle.trace_text.specs.declared.event.Event.{Event as Shown}
use Rattle.window_runner.proofs.Along.{events_split}
use Rattle.window_runner.proofs.CycleEvents.{shown_none, shown_both}
use Rattle.window_runner.proofs.Failing.{fails_within}
use Rattle.window_runner.proofs.Reaching.{then_on, on_run_by, shown_here}
use Rattle.window_runner.proofs.Telling.{TakesNone, TakesInTurn, taken_nothing, taken_same, taken_more, taken_part, taken_all}

pub way_first : {T : Type 0} (took : T → List Shown → T → Type 0) (a : T) (f : ℕ) (w : Setting) (s : State) (steps : ℕ) → TakesNone took → s.cycle ≤ w.limit
    → OnItsWay took a a f f w s s steps steps
unfolding states
way_first took a f w s steps none le = record {
  within = le;
  forward = omega arith;
  way = record { count = 0; state = refl };
  last = refl;
  steps = refl;
  taken = taken_nothing took a f (run_shown w s) none;
}

-- ---- some cycles more, whose marks were left

-- the events of some cycles, and those of the run from there
shown_behind : (w : Setting) (s t : State) (n : ℕ) → s.cycle ≤ w.limit → t ≡ states w s n → run_shown w s ≡ all_shown (events_in w s n) ++ run_shown w t
shown_behind w s t n le state =
    ap all_shown (sym (events_split w s n le)) ∙ shown_both (events_in w s n) (all_events w (states w s n))
    ∙ ap (λ (u : State). all_shown (events_in w s n) ++ run_shown w u) (sym state)

module _ {T : Type 0} {took : T → List Shown → T → Type 0} {a b : T} {f g : ℕ} {w : Setting} {first s t : State} {before now after : ℕ}
    (n : ℕ) (r : OnItsWay took a b f g w first s before now) (state : t ≡ states w s n) (number : t.cycle ≡ s.cycle + n) (count : after ≡ now + n) where
  still_taken : TakenBefore took a b f g (run_shown w first) (all_shown (events_in w s n) ++ run_shown w t)
  still_taken = taken_same took a b f g (run_shown w first) (run_shown w s) (all_shown (events_in w s n) ++ run_shown w t) r.taken (shown_behind w s t n r.within state)

  on_way : GoesOn w first t
  on_way = then_on w first s t r.way (record { count = n; state = state })

  last_behind : last_state w t ≡ last_state w first
  last_behind = ap (last_state w) state ∙ (along_states w s n r.within).last ∙ r.last

  counted_behind : after + first.cycle ≡ before + t.cycle
  counted_behind = let so_far = r.steps in omega (arith, so_far, number, count)

  -- their events were taken
  pub way_on : {A E : Type 0} {missed : T → Shown → T → Type 0} {c : T} {h : ℕ} {x : A} → TakesInTurn took → Tells {E = E} took missed b c g h (all_shown (events_in w s n)) (Ok x)
      → OnItsWay took a c f h w first t before after
  way_on {A} {E} {missed} {c} {h} {x} turn told =
      let forward = r.forward in
      record {
        within = subst (λ (u : State). u.cycle ≤ w.limit) (sym state) (along_states w s n r.within).within;
        forward = omega (arith, forward, number);
        way = on_way;
        last = last_behind;
        steps = counted_behind;
        taken = taken_more took a b c f g h (run_shown w first) (all_shown (events_in w s n)) (run_shown w t) turn still_taken told.ok told.count;
      }

  -- or the tape failed at one of them
  pub way_fails : {A B E : Type 0} {missed : T → Shown → T → Type 0} {c : T} {h : ℕ} {e : E} (most : ℕ) → n ≤ most → TakesInTurn took → Tells {A = A} took missed b c g h (all_shown (events_in w s n)) (Err e)
      → Tells {A = B} took missed a c f h (run_shown w first) (Err e) × FailsWithin took missed a c w most first t × IsOnRun w first t × (after + first.cycle ≡ before + t.cycle)
  way_fails {A} {B} {E} {missed} {c} {h} {e} most few turn told =
      let forward = r.forward in
      let within = r.within in (
        taken_part {A = A} took missed a b c f g h (run_shown w first) (all_shown (events_in w s n)) (run_shown w t) e turn still_taken told,
        fails_within took missed a b c f g w most n first s t (omega (arith, forward, within)) r.way r.taken few state told.err,
        on_run_by w first t (omega (arith, forward, number)) on_way last_behind,
        counted_behind,
      )

-- ---- the stop

pub way_stops : {T : Type 0} {took : T → List Shown → T → Type 0} (missed : T → Shown → T → Type 0) {a b : T} {f g : ℕ} {w : Setting} {first s : State} {before now : ℕ} {A : Type 0} (x : A) (why : Why)
    → OnItsWay took a b f g w first s before now → stop w s ≡ Some why
    → Tells {E = SinkFault} took missed a b f g (run_shown w first) (Ok x) × (stop w (last_state w first) ≡ Some why) × (s ≡ last_state w first) × IsOnRun w first s
way_stops {T} {took} missed {a} {b} {f} {g} {w} {first} {s} {before} {now} {A} x why r e =
    let last : s ≡ last_state w first = sym (last_here w s why e) ∙ r.last in (
      taken_all took missed a b f g (run_shown w first) (run_shown w s) x r.taken (shown_here w s why e ∙ shown_none),
      ap (stop w) (sym last) ∙ e,
      last,
      on_run_by w first s r.forward r.way r.last,
    )
