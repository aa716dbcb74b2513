-- A window, cycle by cycle: where the machine, the six lanes and their logs stand.
use Rattle.std.proofs.Common.{◌≡◌, ◌≢◌, ℕ, ◌+◌, ◌-◌, ◌<◌, ◌≤◌, Bool, true, false, not, ◌||◌, ◌&&◌, List, [], ◌∷◌, ◌++◌, length, length-append, None, refl, ap, sym, ◌∙◌, subst, add-one, below_more, arith}
use Rattle.window_merge.proofs.Shared.{AreRunsAlone, IsWindow, KnowsSio, Mark, Master, SeenOutputs, Setting, Want, answer_of, answered, asked_of, begun_by, cause_by, cause_of, clash, clash_in, closes, differs, differs_by, differs_in, end_at, ends_in, ends_want, ends_wants, eqb-false, fits, has_hold, is_least, leb_tells, left_by, logs_of, longest, marks_in, ne_eqb, not-true, or-true, or_parts, runs_follow, runs_of, states, wants_of, window_length}
use Rattle.lane_look.specs.declared.lane.Want.TheVariants as want
use Rattle.lane_look.specs.Replay.{told, left, talk, after_begun}
use Rattle.m0_core.specs.Cycle as core
use Rattle.dma_engine.specs.Cycle as dma
use Rattle.outer_lane.specs.Step as outer
use Rattle.rp_machine.specs.State.{State}
use Rattle.rp_machine.specs.Cycle.{begun, wanted, cause_in, stop, next_by, next, mark}
use Rattle.window_merge.specs.declared.runs.Runs.{Runs}
use Rattle.window_merge.specs.declared.runs.Rests.{Rests}
use Rattle.window_merge.proofs.Agree.{six_false, itself}
use Rattle.window_merge.proofs.Separate.{AllGoOn, IsSeparate, IsStepped, separate_next}
use Rattle.window_merge.proofs.Comparing.{clash_four}
use Rattle.window_merge.proofs.InSram.{core_placed, dma_placed}
use Rattle.window_merge.proofs.Lanes.{run, cycles_of, tree, LaneStands, lane_first, log_alone, LaneTold, lane_told, lane_next}
use Rattle.window_merge.proofs.Lanes.{lane_goes_on, lane_agrees, no_cycles, Each, every, on_each}
use Rattle.window_merge.proofs.Ports.{Apart}

-- no run ends at k
abbrev pub AreOn : Setting → State → ℕ → Type 0
AreOn w s k = Each w (λ S B l. k ≢ cycles_of l w s)

-- where the loop stands after k cycles
pub record Stands (w : Setting) (s : State) (k : ℕ) (now : State) (rests : Rests) (marks : List Mark) : Type 0 where
  pub is_states : now ≡ states w s k
  pub at : now.cycle ≡ s.cycle + k
  pub free : has_hold now.fabric ≡ false
  pub knows : KnowsSio now
  pub asleep : now.core1.asleep ≡ s.core1.asleep
  pub offer : now.core1.offer ≡ s.core1.offer
  pub lanes : Each w (λ S B l. LaneStands l w s k now rests)
  pub goes : (j : ℕ) → j < k → closes w s j ≡ false
  pub is_marks : marks ≡ marks_in w s k
  pub few : length marks ≡ k

-- what the logs tell the lanes in the next cycle
abbrev pub AreTold : Setting → State → ℕ → State → Rests → Type 0
AreTold w s k now rests = Each w (λ S B l. LaneTold l w s k now rests)

-- the loop tries the cycle k, in which no run ends
pub record Tries (w : Setting) (s : State) (k : ℕ) (now : State) (rests : Rests) (marks : List Mark) : Type 0 where
  pub stands : Stands w s k now rests marks
  pub on : AreOn w s k
  pub below : k < longest w s

pub all_told : (w : Setting) (s : State) (k : ℕ) (now : State) (rests : Rests) (marks : List Mark) → Tries w s k now rests marks
    → AreTold w s k now rests
all_told w s k now rests marks t = search (arith, on_each, every, lane_told)

-- ---- whether the window goes on

-- whether the cycle fits is whether nothing differs and nothing clashes in it
fits_here : (w : Setting) (s : State) (k : ℕ) (now : State) (rests : Rests) → now ≡ states w s k → AreTold w s k now rests
    → fits rests now ≡ not (differs_in (runs_of w s (longest w s)) (states w s k) k || clash_in (runs_of w s (longest w s)) k)
fits_here w s k now rests e t = cc

pub on_of : (w : Setting) (s : State) (k : ℕ) → ends_in (runs_of w s (longest w s)) k ≡ false → AreOn w s k
on_of w s k e = grind (arith, six_false, cycles_of, on_each, every, eqb-false)

twice_not : (a b : Bool) → a ≡ not b → b ≡ not a
twice_not a b h1 = grind arith

closes_tried : (w : Setting) (s : State) (k : ℕ) (now : State) (rests : Rests) (marks : List Mark) → Tries w s k now rests marks
    → closes w s k ≡ not (fits rests now)
unfolding closes
closes_tried w s k now rests marks t = search (arith, twice_not, fits_here, all_told, ne_eqb)

-- ---- a cycle that fits

-- four wants of the machine's twelve
apart_by : (c0 c1 r v : Want)
    → clash (c0 ∷ want.Nothing ∷ c1 ∷ want.Nothing ∷ r ∷ v ∷ want.Nothing ∷ want.Nothing ∷ want.Nothing ∷ want.Nothing ∷ want.Nothing ∷ want.Nothing ∷ []) ≡ false
    → Apart (asked_of c0) (asked_of c1) (asked_of r) (asked_of v)
apart_by c0 c1 r v e = grind (arith, or_parts, clash_four)

-- no answer of a lane differs
abbrev Same : Setting → Rests → State → Type 0
Same w rests now = Each w (λ S B l. differs (answer_of l.number now) (talk (l.log rests) (tree l now)) ≡ false)

all_same : (w : Setting) (rests : Rests) (now : State) → differs_by rests now ≡ false → Same w rests now
all_same w rests now e = grind (arith, six_false)

-- the lanes begin what the machine begins
begins_same : (w : Setting) (s : State) (k : ℕ) (now : State) (rests : Rests) → AreTold w s k now rests → Same w rests now
    → begun_by rests now ≡ begun now
unfolding begun
begins_same w s k now rests t same =
    let e : Each w (λ S B l. told (l.log rests) (tree l now) ≡ answered (answer_of l.number now) (tree l now)) =
    on_each same (on_each t (every (λ S B l t same. lane_agrees l w s k now rests (answer_of l.number now) t same))) in
    rw (e.core0, e.core1, e.dma, e.pio0, e.pio1, e.outer) refl

pub first_ends : (v u : Want) → ends_wants (v ∷ u ∷ []) ≡ false → (ends_want v ≡ false) × (ends_want u ≡ false)
first_ends v u e = grind (arith, or_parts)

all_go_on : (w : Setting) (s : State) (k : ℕ) (now : State) (rests : Rests) (marks : List Mark) → Tries w s k now rests marks
    → AllGoOn (begun_by rests now)
all_go_on w s k now rests marks t =
    let goes : Each w (λ S B l. ends_wants (l.m.wanted (told (l.log rests) (tree l now))) ≡ false) =
    on_each (all_told w s k now rests marks t) (on_each t.on (on_each t.stands.lanes (every (λ S B l h on t.
    lane_goes_on l w s k now rests h on t)))) in
    let d = first_ends (dma.want_of (begun_by rests now).dma.read) (dma.want_of (begun_by rests now).dma.write) goes.dma in
    record {
      goes0 = (first_ends (core.want_of (begun_by rests now).core0) want.Nothing goes.core0).0;
      goes1 = (first_ends (core.want_of (begun_by rests now).core1) want.Nothing goes.core1).0;
      goes_read = d.0;
      goes_write = d.1;
    }

not_launching : (w : Setting) (s : State) (k : ℕ) (now : State) (rests : Rests) (marks : List Mark) → Tries w s k now rests marks
    → (now.core1.asleep && now.core1.offer) ≡ false
not_launching w s k now rests marks t = search (arith, no_cycles)

-- such a cycle is separate
separate_here : (w : Setting) (s : State) (k : ℕ) (now : State) (rests : Rests) (marks : List Mark) → Tries w s k now rests marks
    → begun_by rests now ≡ begun now → clash (wants_of (begun_by rests now)) ≡ false → IsSeparate (begun now) now
unfolding begun
separate_here w s k now rests marks t same none =
    let apart = ap (λ b. clash (wants_of b)) (sym same) ∙ none in
    record {
      goes = subst AllGoOn same (all_go_on w s k now rests marks t);
      placed0 = core_placed (answer_of 0 now) now.core0 now.cycle;
      placed1 = core_placed (answer_of 1 now) now.core1 now.cycle;
      placed_read = (dma_placed (answer_of 2 now) now.dma.block).read;
      placed_write = (dma_placed (answer_of 2 now) now.dma.block).write;
      apart = apart_by _ _ _ _ apart;
      free = t.stands.free;
      launcher = not_launching w s k now rests marks t;
      knows = t.stands.knows;
    }

-- ---- such a cycle does not stop

no_cause : (w : Setting) (seen : SeenOutputs) (m : Master) (v : Want) (s : State) → ends_want v ≡ false → cause_by w seen m v s ≡ None
no_cause w seen m v s h1 = grind arith

pub runs_on : (w : Setting) (s : State) → s.cycle ≢ w.limit → AllGoOn (begun s) → stop w s ≡ None
unfolding stop cause_in cause_of wanted
runs_on w s ne h = search (arith, ne_eqb, no_cause)

pub short : (w : Setting) (s : State) → longest w s ≤ w.limit - s.cycle
short w s = grind (arith, leb_tells)

pub at_most : (w : Setting) (s : State) → longest w s ≤ 256
at_most w s = grind (arith, leb_tells)

-- ---- the next cycle

pub one_more : (w : Setting) (s : State) → stop w s ≡ None → states w s 1 ≡ next w s
unfolding states
one_more w s e = rw e refl

states_next : (w : Setting) (s : State) (k : ℕ) → stop w (states w s k) ≡ None → states w s (k + 1) ≡ next w (states w s k)
states_next w s k e = (runs_follow w s k 1).state ∙ one_more w (states w s k) e

marks_next : (w : Setting) (s : State) (k : ℕ) → marks_in w s (k + 1) ≡ marks_in w s k ++ mark w (states w s k) ∷ []
unfolding marks_in
marks_next w s k = rw add-one refl

-- ---- the loop

-- by these logs, each of which is the lane's
pub stands_first : (w : Setting) (s : State) (rests : Rests) (marks : List Mark) → has_hold s.fabric ≡ false → KnowsSio s
    → Each w (λ S B l. l.log rests ≡ (run l s (cycles_of l w s)).talk) → marks ≡ [] → Stands w s 0 s rests marks
unfolding states marks_in
stands_first w s rests marks free knows logs e = record {
  is_states = refl;
  at = omega arith;
  free = free;
  knows = knows;
  asleep = refl;
  offer = refl;
  lanes = on_each logs (every (λ S B l e. lane_first l w s rests e));
  goes = λ j lt. absurd (omega arith);
  is_marks = e;
  few = rw e refl;
}

-- what is known of a cycle that fits
pub record Fitted (w : Setting) (now : State) (rests : Rests) : Type 0 where
  pub same : begun_by rests now ≡ begun now
  pub separate : IsSeparate (begun now) now
  pub runs : stop w now ≡ None

pub fitted : (w : Setting) (s : State) (k : ℕ) (now : State) (rests : Rests) (marks : List Mark) → Tries w s k now rests marks
    → fits rests now ≡ true → Fitted w now rests
fitted w s k now rests marks t e =
    let parts = or_parts (differs_by rests now) (clash (wants_of (begun_by rests now))) (not-true _ e) in
    let same = begins_same w s k now rests (all_told w s k now rests marks t) (all_same w rests now parts.0) in
    let separate = separate_here w s k now rests marks t same parts.1 in
    let below = t.below in
    let least_limit = short w s in
    let at = t.stands.at in
    let ne : now.cycle ≢ w.limit = λ here. omega (arith, here) in
    record {
      same = same;
      separate = separate;
      runs = runs_on w now ne separate.goes;
    }

pub stands_next : (w : Setting) (s : State) (k : ℕ) (now : State) (rests : Rests) (marks : List Mark) (now' : State) (rests' : Rests)
    (marks' : List Mark) → Tries w s k now rests marks → fits rests now ≡ true
    → now' ≡ next_by w (begun_by rests now) (wanted (begun_by rests now)) now → rests' ≡ left_by rests now
    → marks' ≡ marks ++ outer.marked w now.outer (begun_by rests now).outer ∷ [] → Stands w s (k + 1) now' rests' marks'
unfolding next mark
stands_next w s k now rests marks now' rests' marks' t fitting e_now e_rests e_marks =
    let b = begun_by rests now in
    let f = fitted w s k now rests marks t fitting in
    let stepped = subst (IsStepped w b now) (sym e_now) (separate_next w b now (subst (λ b. IsSeparate b now) (sym f.same) f.separate)) in
    let steps : Each w (λ S B l. l.of now' ≡ after_begun l.m tt (l.of now) (told (l.log rests) (tree l now))) = record {
      core0 = stepped.core0;
      core1 = stepped.core1;
      dma = stepped.dma;
      pio0 = stepped.pio0;
      pio1 = stepped.pio1;
      outer = stepped.outer;
    } in
    let logs : Each w (λ S B l. l.log rests' ≡ left (l.log rests) (tree l now)) =
    rw e_rests (record { core0 = refl; core1 = refl; dma = refl; pio0 = refl; pio1 = refl; outer = refl }) in
    let at = t.stands.at in
    let count = t.stands.few in
    let cycle = stepped.cycle in
    let runs_here : stop w (states w s k) ≡ None = ap (stop w) (sym t.stands.is_states) ∙ f.runs in
    let goes_on : closes w s k ≡ false = closes_tried w s k now rests marks t ∙ ap not fitting in
    record {
      is_states = e_now ∙ ap (λ b. next_by w b (wanted b) now) f.same ∙ ap (next w) t.stands.is_states
          ∙ sym (states_next w s k runs_here);
      at = omega arith;
      free = stepped.free;
      knows = stepped.knows;
      asleep = stepped.asleep ∙ t.stands.asleep;
      offer = stepped.offer ∙ t.stands.offer;
      lanes = on_each logs (on_each steps (on_each (all_told w s k now rests marks t) (on_each t.on (on_each t.stands.lanes
          (every (λ S B l h on t step rest. lane_next l w s k now rests now' rests' h on t step rest))))));
      goes = below_more (λ j. closes w s j ≡ false) k t.stands.goes goes_on;
      is_marks = e_marks ∙ ap (λ b. marks ++ outer.marked w now.outer b.outer ∷ []) f.same
          ∙ ap (λ ms. ms ++ mark w now ∷ []) t.stands.is_marks
          ∙ ap (λ x. marks_in w s k ++ mark w x ∷ []) t.stands.is_states ∙ sym (marks_next w s k);
      few = rw (e_marks, length-append) (omega arith);
    }

-- ---- the ways out of the loop

pub ends_tried : (w : Setting) (s : State) (k : ℕ) (now : State) (rests : Rests) (marks : List Mark) → Tries w s k now rests marks
    → fits rests now ≡ false → k ≡ window_length w s
unfolding window_length
ends_tried w s k now rests marks t fitting =
    let below = t.below in
    let ends : closes w s k ≡ true = closes_tried w s k now rests marks t ∙ ap not fitting in
    sym (is_least (closes w s) (longest w s) k (omega (arith, below)) t.stands.goes (λ lt. ends))

pub ends_run : (w : Setting) (s : State) (k : ℕ) (now : State) (rests : Rests) (marks : List Mark) → Stands w s k now rests marks
    → k < longest w s → ends_in (runs_of w s (longest w s)) k ≡ true → k ≡ window_length w s
unfolding window_length closes
ends_run w s k now rests marks t below here =
    sym (is_least (closes w s) (longest w s) k (omega (arith, below)) t.goes (λ lt. rw here refl))

pub ends_full : (w : Setting) (s : State) (k : ℕ) (now : State) (rests : Rests) (marks : List Mark) → Stands w s k now rests marks
    → k ≡ longest w s → k ≡ window_length w s
unfolding window_length
ends_full w s k now rests marks t e = grind (arith, is_least)

-- where it ends it is the window
pub is_window : {w : Setting} {s : State} {k : ℕ} {now : State} {rests : Rests} {marks : List Mark} → Stands w s k now rests marks
    → k ≡ window_length w s → IsWindow w s k now marks
is_window h e = record { length = e; state = h.is_states; number = h.at; marked = h.is_marks }

-- ---- six reports

-- the loop begins with all of their logs
pub stands_at_first : (w : Setting) (s : State) (runs : Runs) (marks : List Mark) → has_hold s.fabric ≡ false → KnowsSio s
    → AreRunsAlone w s runs → marks ≡ [] → Stands w s 0 s (logs_of runs) marks
stands_at_first w s runs marks free knows h e = search (arith, stands_first, log_alone)

-- some report has this length exactly where some run alone ends
ends_as : (w : Setting) (s : State) (runs : Runs) (k : ℕ) → AreRunsAlone w s runs → ends_in (runs_of w s (longest w s)) k ≡ end_at runs k
ends_as w s runs k h = grind arith

pub ends_at_run : (w : Setting) (s : State) (runs : Runs) (k : ℕ) (now : State) (rests : Rests) (marks : List Mark)
    → AreRunsAlone w s runs → Stands w s k now rests marks → k < longest w s → end_at runs k ≡ true → k ≡ window_length w s
ends_at_run w s runs k now rests marks h t below e = ends_run w s k now rests marks t below (ends_as w s runs k h ∙ e)

pub tries_at : (w : Setting) (s : State) (runs : Runs) (k : ℕ) (now : State) (rests : Rests) (marks : List Mark)
    → AreRunsAlone w s runs → Stands w s k now rests marks → k < longest w s → end_at runs k ≡ false → Tries w s k now rests marks
tries_at w s runs k now rests marks h t below e = grind (arith, on_of, ends_as)

-- ---- at the length of each run alone a run ends

pub they_end : (w : Setting) (s : State) → Each w (λ S B l. ends_in (runs_of w s (longest w s)) (cycles_of l w s) ≡ true)
they_end w s = grind (arith, itself, or-true)
