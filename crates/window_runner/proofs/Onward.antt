-- A run that went on its way, and then to its end: the two are one run.
use Rattle.window_runner.proofs.Shared.{Err, FailsAmong, FailsWithin, IsOnRun, List, None, Ok, OnErr, OnItsWay, Option, Result, Setting, SinkFault, Some, State, Tells, Why, all_shown, ap, arith, events_in, false, join, last_state, run_shown, states, stop, subst, sym, ℕ, ◌++◌, ◌+◌, ◌-◌, ◌<◌, ◌∙◌, ◌≡◌, ◌≤◌}
use Rattle.std.specs.Prelude.{IfOk}
use Rattle.trace_text.specs.declared.event.Event.{Event as Shown}
use Rattle.window_runner.specs.Alone.{IsRanFor}
use Rattle.window_runner.specs.Course.{IsCauseAt}
use Rattle.window_runner.specs.Windows.{Leaves}
use Rattle.window_runner.specs.declared.alone.Ran.{Ran}
use Rattle.window_runner.proofs.CycleEvents.{shown_both}
use Rattle.window_runner.proofs.Cycling.{way_stops}
use Rattle.window_runner.proofs.Failing.{taken_are}
use Rattle.window_runner.proofs.Reaching.{on_run_by, own_number, then_on}
use Rattle.window_runner.proofs.Telling.{TakesInTurn, taken_last}

pub way_on_run : {T : Type 0} {took : T → List Shown → T → Type 0} {a b : T} {f g : ℕ} {w : Setting} {first s : State} {before now : ℕ} → OnItsWay took a b f g w first s before now → IsOnRun w first s
way_on_run {w = w} {first = first} {s = s} r = on_run_by w first s r.forward r.way r.last

-- what stood at the end of its way
pub cause_is : (w : Setting) (until : ℕ) (s : State) {found : Option Why} {why : Why} → found ≡ Some why → IsCauseAt w until s (Ok found) → stop w s ≡ Some why
cause_is w until s e h = subst (λ x. IsCauseAt w until s (Ok x)) e h

pub behind : (w : Setting) (until : ℕ) (s : State) {found : Option Why} → found ≡ None → IsCauseAt w until s (Ok found) → until < s.cycle
behind w until s e h = subst (λ x. IsCauseAt w until s (Ok x)) e h

-- where nothing has changed it is still there
pub way_same : {T : Type 0} {took : T → List Shown → T → Type 0} (faults : T → ℕ) {a b c : T} {f : ℕ} {w : Setting} {first s t : State} {before now later : ℕ}
    → OnItsWay took a b f (faults b) w first s before now → (t ≡ s) × (c ≡ b) × (later ≡ now) → OnItsWay took a c f (faults c) w first t before later
way_same {took = took} faults {a = a} {b = b} {c = c} {f = f} {w = w} {first = first} {s = s} {t = t} {before = before} {now = now} {later = later} r same =
    subst (λ x. OnItsWay took a c f (faults c) w first x before later) (sym same.0)
    (subst (λ x. OnItsWay took a x f (faults x) w first s before later) (sym same.1) (subst (λ n. OnItsWay took a b f (faults b) w first s before n) (sym same.2) r))

-- what a run by cycles leaves
pub cycles_leave : {T : Type 0} {took : T → List Shown → T → Type 0} {missed : T → Shown → T → Type 0} {a b : T} {w : Setting} {s t : State} {before after : ℕ} (result : Result Ran SinkFault)
    → IfOk result (IsRanFor false w s) → IfOk result (λ ran. t ≡ last_state w s) → OnErr result (FailsWithin took missed a b w 1 s t) → IsOnRun w s t → after + s.cycle ≡ before + t.cycle
    → Leaves took missed a b false w s t before after result
cycles_leave (Ok x) ran state failed on_run steps = record { ran = ran; state = state; failed = tt; on_run = on_run; steps = steps }
cycles_leave (Err fault) ran state k on_run steps =
    let few = k.few in
    record {
      ran = tt;
      state = tt;
      failed = record { before = k.before; last = k.last; few = omega (arith, few); between = k.between; taken = k.taken; failed = k.failed; stands = k.stands };
      on_run = on_run;
      steps = steps;
    }

-- a run without counts that stands at its stop
pub leaves_at_stop : {T : Type 0} {took : T → List Shown → T → Type 0} {missed : T → Shown → T → Type 0} {a b : T} {f g : ℕ} {w : Setting} {first s : State} {before now : ℕ} {ran : Ran}
    → OnItsWay took a b f g w first s before now → stop w s ≡ Some ran.why → ran.windows ≡ 0 → ran.cycles ≡ 0
    → Tells {E = SinkFault} took missed a b f g (run_shown w first) (Ok ran) × Leaves took missed a b false w first s before now (Ok ran)
leaves_at_stop {missed = missed} {ran = ran} r e windows cycles =
    let h = way_stops missed ran ran.why r e in
    (h.0, record { ran = record { why = h.1; counts = λ asked. absurd (cc asked); none = λ same. (windows, cycles) }; state = h.2; failed = tt; on_run = h.3; steps = r.steps })

module _ {T : Type 0} {took : T → List Shown → T → Type 0} {a b : T} {f g : ℕ} {w : Setting} {first s : State} {before now : ℕ} (turn : TakesInTurn took) (r : OnItsWay took a b f g w first s before now) where
  pub then_tells : {A E : Type 0} {missed : T → Shown → T → Type 0} {c : T} {h : ℕ} {result : Result A E} → Tells took missed b c g h (run_shown w s) result → Tells took missed a c f h (run_shown w first) result
  then_tells {missed = missed} {c = c} {h = h} {result = result} told = taken_last took missed a b c f g h (run_shown w first) (run_shown w s) result turn r.taken told

  then_fails : {missed : T → Shown → T → Type 0} {c : T} {most : ℕ} {t : State} → FailsWithin took missed b c w most s t → FailsWithin took missed a c w most first t
  then_fails {missed = missed} {c = c} k =
      let way = r.way in
      let one = join w first way.count k.before in
      let there : states w s k.before ≡ states w first (way.count + k.before) = ap (λ (x : State). states w x k.before) way.state ∙ sym one.state in
      let all : all_shown (events_in w first (way.count + k.before)) ≡ all_shown (events_in w first way.count) ++ all_shown (events_in w s k.before) =
      ap all_shown one.events ∙ shown_both (events_in w first way.count) (events_in w (states w first way.count) k.before)
      ∙ ap (λ (x : State). all_shown (events_in w first way.count) ++ all_shown (events_in w x k.before)) (sym way.state) in
      let behind = turn a b k.between _ _ (taken_are took a b f g w first s way.count first_within way.state r.taken) k.taken in
      record {
        before = way.count + k.before;
        last = k.last;
        few = k.few;
        between = k.between;
        taken = subst (λ es. took a es k.between) (sym all) behind;
        failed = subst (λ (x : State). FailsAmong took missed k.between c (all_shown (events_in w x k.last))) there k.failed;
        stands = k.stands ∙ ap (λ (x : State). states w x k.last) there;
      }
    where
      first_within : first.cycle ≤ w.limit
      first_within = let forward = r.forward in let within = r.within in omega (arith, forward, within)

  then_on_run : {t : State} → IsOnRun w s t → IsOnRun w first t
  then_on_run {t = t} k =
      let forward = r.forward in
      let more = k.forward in
      record {
        forward = omega (arith, forward, more);
        within = subst (λ (x : State). t.cycle ≤ x.cycle) r.last k.within;
        state = own_number w first t (then_on w first s t r.way (record { count = t.cycle - s.cycle; state = k.state }));
      }

  pub then_leaves : {missed : T → Shown → T → Type 0} {c : T} {t : State} {after : ℕ} {result : Result Ran SinkFault} → Leaves took missed b c false w s t now after result → Leaves took missed a c false w first t before after result
  then_leaves {result = Ok ran} k =
      let so_far = r.steps in
      let steps = k.steps in
      record {
        ran = record { why = ap (stop w) (sym r.last) ∙ k.ran.why; counts = λ asked. absurd (cc asked); none = k.ran.none };
        state = k.state ∙ r.last;
        failed = tt;
        on_run = then_on_run k.on_run;
        steps = omega (arith, so_far, steps);
      }
  then_leaves {result = Err fault} k =
      let so_far = r.steps in
      let steps = k.steps in
      record { ran = tt; state = tt; failed = then_fails k.failed; on_run = then_on_run k.on_run; steps = omega (arith, so_far, steps) }
