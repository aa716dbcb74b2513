-- Windows in which nobody has anything to do, on the way of a run: each is a step of which nothing is told.
use Rattle.window_runner.proofs.Shared.{Bool, Counts, List, None, Ok, PassesTo, Position, Setting, State, StepsTo, all_shown, ap, arith, by_window, events, events_in, false, is_tried, left_of, no_window, position_at, refl, runs_follow, states, step_events, stop, subst, suc, sym, true, zero, ℕ, ◌*◌, ◌+◌, ◌<◌, ◌∙◌, ◌≡◌, ◌≤◌}
use Rattle.trace_text.specs.declared.event.Event.{Event as Shown}
use Rattle.window_merge.specs.Quiet.{AreQuietWindows, behind_quiet}
use Rattle.window_runner.proofs.Along.{no_cycles}
use Rattle.window_runner.proofs.CycleEvents.{shown_none}
use Rattle.window_runner.proofs.Over.{no_events_in}
use Rattle.window_runner.proofs.Standing.{window_on}
use Rattle.window_runner.proofs.Stepping.{events_of_window}
use Rattle.window_runner.proofs.Telling.{TakesNone, TakesInTurn, tells_none}
use Rattle.window_runner.proofs.Underway.{Underway, underway_on}

position_is : (p : Position) (s t : State) (a b c d : ℕ) (empty : Bool) → s ≡ t → a ≡ b → c ≡ d → p.after_empty ≡ empty
    → record { state = s; windows = a; cycles = c; after_empty = empty } ≡ record p { state = t; windows = b; cycles = d }
position_is p s t a b c d empty state windows cycles after = rw (state, windows, cycles, ← after) refl

behind_none : (w : Setting) (p : Position) → p ≡ behind_quiet w 0 p
behind_none w p = position_is p p.state (states w p.state 0) p.windows (p.windows + 0) p.cycles (p.cycles + 0) p.after_empty (sym (no_cycles w p.state)) (omega arith) (omega arith) refl

-- one more of them
quiet_step : {T : Type 0} (took : T → List Shown → T → Type 0) (missed : T → Shown → T → Type 0) (b : T) (g : ℕ) (w : Setting) (p : Position) (n m now : ℕ) → TakesNone took
    → p.after_empty ≡ false → AreQuietWindows w p.state m → n < m → StepsTo took missed b b g g w (behind_quiet w n p) (behind_quiet w (suc n) p) (now + 256 * n) (now + 256 * suc n) (Ok None)
quiet_step took missed b g w p n m now none here q lt =
    let x = behind_quiet w n p in
    let t = x.state in
    let tried : is_tried x.after_empty t ≡ true = rw (here, q.free n lt) refl in
    let number : t.cycle ≡ p.state.cycle + 256 * n = q.quiet.cycle (256 * n) (omega (arith, lt)) in
    let later : (states w p.state (256 * suc n)).cycle ≡ p.state.cycle + 256 * suc n = q.quiet.cycle (256 * suc n) (omega (arith, lt)) in
    let more : 256 * n + 256 ≡ 256 * suc n = omega arith in
    let follows = λ (k : ℕ). (runs_follow w p.state (256 * n) k).state in
    record {
      cause = q.quiet.goes (256 * n) (omega (arith, lt));
      position =
          sym (window_on w x tried ∙ ap (λ k. by_window w k x) (q.whole n lt)
          ∙ position_is p (states w t 256) (states w p.state (256 * suc n)) (x.windows + 1) (p.windows + suc n) (x.cycles + 256) (p.cycles + 256 * suc n) false
          (sym (follows 256) ∙ ap (states w p.state) more) (omega arith) (omega arith) here);
      told = tells_none took missed b g (all_shown (step_events w x)) None none
          (ap all_shown (events_of_window w x tried ∙ ap (events_in w t) (q.whole n lt)
          ∙ no_events_in w t 256 (λ k few. ap (stop w) (sym (follows k)) ∙ q.quiet.goes (256 * n + k) (omega (arith, lt, few)))
          (λ k few. ap (events w) (sym (follows k)) ∙ q.quiet.silent (256 * n + k) (omega (arith, lt, few)))) ∙ shown_none);
      counted = omega (arith, number, later);
      steps = omega (arith, number, later);
    }

module _ {T : Type 0} {took : T → List Shown → T → Type 0} (missed : T → Shown → T → Type 0) {a b : T} {f g : ℕ} {w : Setting} {first : State} {p : Position} {before now : ℕ}
    (none : TakesNone took) (turn : TakesInTurn took) (u : Underway took a b f g w first p before now) where
  over_some : (n m : ℕ) → (0 < m → p.after_empty ≡ false) → AreQuietWindows w p.state m → n ≤ m → Underway took a b f g w first (behind_quiet w n p) before (now + 256 * n)
  over_some zero m here quiet le =
      let same : now ≡ now + 256 * 0 = omega arith in
      subst (λ (k : ℕ). Underway took a b f g w first (behind_quiet w 0 p) before k) same
      (subst (λ (x : Position). Underway took a b f g w first x before now) (behind_none w p) u)
  over_some (suc n) m here quiet le =
      underway_on turn (over_some n m here quiet (omega (arith, le))) (quiet_step took missed b g w p n m now none (here (omega (arith, le))) quiet (omega (arith, le)))

  pub underway_over : {q : Position} {after : ℕ} → PassesTo w p q now after → Underway took a b f g w first q before after
  underway_over {q} {after} h =
      subst (λ (k : ℕ). Underway took a b f g w first q before k) (sym h.steps)
      (subst (λ (x : Position). Underway took a b f g w first x before (now + 256 * h.windows)) (sym h.position) (over_some h.windows h.windows h.tried h.quiet (omega arith)))

-- no more steps are left
pub not_farther : (w : Setting) (p q : Position) (now after : ℕ) → PassesTo w p q now after → left_of w q ≤ left_of w p
not_farther w p q now after h =
    let number : (states w p.state (256 * h.windows)).cycle ≡ p.state.cycle + 256 * h.windows = h.quiet.quiet.cycle (256 * h.windows) (omega arith) in
    subst (λ (x : Position). left_of w x ≤ left_of w p) (sym h.position) (omega (arith, number))

-- ---- the call

pub passes_none : (w : Setting) (p : Position) (steps : ℕ) → PassesTo w p p steps steps
passes_none w p steps = record {
  windows = 0;
  quiet = no_window w p.state;
  tried = λ some. absurd (omega (arith, some));
  position = behind_none w p;
  steps = omega arith;
}

pub passes_some : (w : Setting) (s t : State) (old new : Counts) (n steps steps' : ℕ) → old.after_empty ≡ false → AreQuietWindows w s n → t ≡ states w s (256 * n)
    → new.windows ≡ old.windows + n → new.cycles ≡ old.cycles + n * 256 → new.after_empty ≡ old.after_empty → steps' ≡ steps + 256 * n → PassesTo w (position_at s old) (position_at t new) steps steps'
passes_some w s t old new n steps steps' here quiet state windows cycles after counted = record {
  windows = n;
  quiet = quiet;
  tried = λ some. here;
  position = rw after (position_is (position_at s old) t (states w s (256 * n)) new.windows (old.windows + n) new.cycles (old.cycles + 256 * n) old.after_empty state windows (omega (arith, cycles)) refl);
  steps = counted;
}
