-- A run by windows on its way, with what its tape took and what was counted: from one step to the next, and at its end.
use Rattle.window_runner.proofs.Shared.{Err, List, None, Ok, Option, Position, Setting, SinkFault, Some, State, StepsTo, TakenBefore, Tells, Why, all_shown, ap, arith, first_position, last_here, last_position, last_state, left_of, next_position, refl, run_shown, step_events, stop, subst, sym, true, ℕ, ◌++◌, ◌+◌, ◌<◌, ◌∙◌, ◌≡◌, ◌≤◌}
use Rattle.trace_text.specs.declared.event.Event.{Event as Shown}
use Rattle.window_runner.specs.declared.alone.Ran.{Ran}
use Rattle.window_runner.specs.Windows.{Leaves}
use Rattle.window_runner.proofs.Failing.{fails_in_step}
use Rattle.window_runner.proofs.Reaching.{Reached, reached_first, reached_on, reached_nearer, reached_last, is_on_run, shown_on, taken_to_stop}
use Rattle.window_runner.proofs.Telling.{TakesNone, TakesInTurn, taken_nothing, taken_same, taken_more, taken_part}

-- a run from a first state, and its tape, have come to this position
pub record Underway {T : Type 0} (took : T → List Shown → T → Type 0) (a b : T) (f g : ℕ) (w : Setting) (first : State) (p : Position) (before now : ℕ) : Type 0 where
  pub reached : Reached w first p
  pub cycles : p.cycles + first.cycle ≤ p.state.cycle
  pub steps : now + first.cycle ≡ before + p.state.cycle
  pub taken : TakenBefore took a b f g (run_shown w first) (run_shown w p.state)

pub underway_first : {T : Type 0} (took : T → List Shown → T → Type 0) (a : T) (f : ℕ) (w : Setting) (s : State) (steps : ℕ) → TakesNone took → s.cycle ≤ w.limit
    → Underway took a a f f w s (first_position s) steps steps
underway_first took a f w s steps none le =
    record { reached = reached_first w s le; cycles = omega arith; steps = refl; taken = taken_nothing took a f (run_shown w s) none }

module _ {T : Type 0} {took : T → List Shown → T → Type 0} {missed : T → Shown → T → Type 0} {a b c : T} {f g h : ℕ} {w : Setting} {first : State} {p q : Position} {before now after : ℕ}
    (turn : TakesInTurn took) (u : Underway took a b f g w first p before now) where
  pub underway_on : StepsTo took missed b c g h w p q now after (Ok None) → Underway took a c f h w first q before after
  underway_on k =
      let so_far = u.cycles in
      let counted = u.steps in
      let more = k.counted in
      let steps = k.steps in
      record {
        reached = reached_on w first p q u.reached k.cause k.position;
        cycles = omega (arith, so_far, more);
        steps = omega (arith, counted, steps);
        taken = taken_more took a b c f g h (run_shown w first) (all_shown (step_events w p)) (run_shown w q.state) turn
            (taken_same took a b f g (run_shown w first) (run_shown w p.state) (all_shown (step_events w p) ++ run_shown w q.state) u.taken
            (shown_on w p k.cause u.reached.within ∙ ap (λ (y : Position). all_shown (step_events w p) ++ run_shown w y.state) (sym k.position)))
            k.told.ok k.told.count;
      }

  pub underway_nearer : StepsTo took missed b c g h w p q now after (Ok None) → left_of w q < left_of w p
  underway_nearer k = reached_nearer w first p q u.reached k.cause k.position

  -- what was told and what is left at a stop
  pub underway_stops : (why : Why) → StepsTo took missed b c g h w p q now after (Ok (Some why))
      → (let ran : Ran = record { why = why; windows = q.windows; cycles = q.cycles } in
      Tells {E = SinkFault} took missed a c f h (run_shown w first) (Ok ran) × Leaves took missed a c true w first q.state before after (Ok ran))
  underway_stops why k =
      let at : last_state w first ≡ p.state = sym u.reached.last ∙ last_here w p.state why k.cause in
      let last : q ≡ last_position w first = k.position ∙ sym (reached_last w first p why u.reached k.cause) in
      let counted = u.steps in
      let steps = k.steps in
      let ran : Ran = record { why = why; windows = q.windows; cycles = q.cycles } in (
        taken_to_stop took missed a b c f g h w first p.state why (Some why) ran turn u.taken k.cause k.told,
        record {
          ran = let why = ap (stop w) at ∙ k.cause in record { why = why; counts = λ asked. record { why = why; windows = ap (λ (x : Position). x.windows) last; cycles = ap (λ (x : Position). x.cycles) last }; none = λ e. absurd (cc e) };
          state = ap (λ (x : Position). x.state) k.position ∙ sym at;
          failed = tt;
          on_run = is_on_run w first q (subst (Reached w first) (sym k.position) u.reached);
          steps = omega (arith, counted, steps);
        },
      )

  -- and where the tape failed
  pub underway_fails : (e : SinkFault) → StepsTo took missed b c g h w p q now after (Err e)
      → Tells {A = Ran} took missed a c f h (run_shown w first) (Err e) × Leaves took missed a c true w first q.state before after (Err e)
  underway_fails e k =
      let within = u.reached.within in
      let forward = u.reached.forward in
      let counted = u.steps in
      let steps = k.steps in (
        taken_part {A = Option Why} took missed a b c f g h (run_shown w first) (all_shown (step_events w p)) (run_shown w (next_position w p).state) e turn
            (taken_same took a b f g (run_shown w first) (run_shown w p.state) (all_shown (step_events w p) ++ run_shown w (next_position w p).state) u.taken
            (shown_on w p k.cause u.reached.within)) k.told,
        record {
          ran = tt;
          state = tt;
          failed = fails_in_step took missed a b c f g w first p q (omega arith) u.reached u.taken k.cause k.position k.told.err;
          on_run = is_on_run w first q (reached_on w first p q u.reached k.cause k.position);
          steps = omega (arith, counted, steps);
        },
      )
