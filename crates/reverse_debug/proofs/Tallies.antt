-- The times of what is watched, on a stretch of a run.
use Rattle.reverse_debug.proofs.Shared.{Advances, Bool, None, Option, Path, Setting, Some, State, Tally, Why, ap, arith, false, happens, happens_by, last_cycle, next, refl, seen, states, states_here, states_on, stop, subst, suc, sym, true, zero, ℕ, ◌+◌, ◌-◌, ◌<◌, ◌∙◌, ◌≡◌, ◌≤◌}
use Rattle.reverse_debug.specs.Command.{Watched}
use Rattle.reverse_debug.specs.Search.{noted, tally}
use Rattle.reverse_debug.proofs.Paths.{path_join, path_last, none_first, way_here, way_join}

-- the run from one state has come to another, at most to a cycle; this was counted on the way
pub record Counting (w : Setting) (f t : State) (watched : Watched) (most to : ℕ) (so_far : Tally) (before now : ℕ) : Type 0 where
  pub way : Advances w f to t None before now
  pub is : so_far ≡ tally w f watched most (t.cycle - f.cycle)

pub tally_none : (w : Setting) (m : State) (watched : Watched) (most : ℕ) → tally w m watched most 0 ≡ record { count = 0; last = None }
unfolding tally
tally_none w m watched most = refl

pub tally_one : (w : Setting) (m : State) (watched : Watched) (most n : ℕ) (was : Bool) → happens w m watched n ≡ was → tally w m watched most (suc n) ≡ noted most was (m.cycle + n) (tally w m watched most n)
unfolding tally
tally_one w m watched most n was is = rw is refl

pub counting_here : (w : Setting) (f : State) (watched : Watched) (most to steps : ℕ) → f.cycle ≤ w.limit → f.cycle ≤ to → Counting w f f watched most to (record { count = 0; last = None }) steps steps
counting_here w f watched most to steps low within =
    let e : f.cycle - f.cycle ≡ 0 = omega arith in
    record { way = way_here w f to steps low within; is = sym (ap (tally w f watched most) e ∙ tally_none w f watched most) }

pub by_cause : (w : Setting) (t u : State) (cause : Option Why) → stop w t ≡ cause → u ≡ states w t 1 → u.cycle ≡ t.cycle + 1 → u ≡ next w t
by_cause w t u (Some why) h is one =
    let same : u.cycle ≡ t.cycle = ap (λ (x : State). x.cycle) (is ∙ states_here w t why 1 h) in
    absurd (omega arith)
by_cause w t u None h is one = is ∙ states_on w t zero h ∙ none_first w (next w t)

one_next : (w : Setting) (t u : State) (now after : ℕ) → Advances w t (t.cycle + 1) u None now after → u.cycle ≡ t.cycle + 1 → u ≡ next w t
one_next w t u now after a one =
    let far : u.cycle - t.cycle ≡ 1 = omega arith in
    by_cause w t u (stop w t) refl (a.path.is ∙ ap (states w t) far) one

happens_next : (w : Setting) (f a b : State) (watched : Watched) (n : ℕ) → a ≡ states w f n → b ≡ next w a → happens w f watched n ≡ happens_by watched (seen watched a) (seen watched b)
unfolding happens
happens_next w f a b watched n here nexts =
    ap (λ (s : State). happens_by watched (seen watched s) (seen watched (next w s))) (sym here)
    ∙ ap (λ (s : State). happens_by watched (seen watched a) (seen watched s)) (sym nexts)

counting_to : (w : Setting) (f t u : State) (watched : Watched) (most to : ℕ) (so_far more : Tally) (before now after : ℕ) → Counting w f t watched most to so_far before now → Advances w t (t.cycle + 1) u None now after →
    u.cycle ≡ t.cycle + 1 → t.cycle < to → more ≡ noted most (happens_by watched (seen watched t) (seen watched u)) t.cycle so_far → Counting w f u watched most to more before after
counting_to w f t u watched most to so_far more before now after k a one lt one_more =
    let on : f.cycle ≤ t.cycle = k.way.path.forward in
    let here : t ≡ states w f (t.cycle - f.cycle) = k.way.path.is in
    let nexts : u ≡ next w t = one_next w t u now after a one in
    let same = happens_next w f t u watched (t.cycle - f.cycle) here nexts in
    let at : t.cycle ≡ f.cycle + (t.cycle - f.cycle) = omega arith in
    let far : u.cycle - f.cycle ≡ suc (t.cycle - f.cycle) = omega arith in
    record {
      way = way_join w f t u to (t.cycle + 1) None before now after k.way a (omega arith);
      is =
          one_more ∙ ap (noted most (happens_by watched (seen watched t) (seen watched u)) t.cycle) k.is
          ∙ ap (λ m. noted most (happens_by watched (seen watched t) (seen watched u)) m (tally w f watched most (t.cycle - f.cycle))) at
          ∙ sym (tally_one w f watched most (t.cycle - f.cycle) (happens_by watched (seen watched t) (seen watched u)) same)
          ∙ ap (tally w f watched most) (sym far);
    }

pub counting_on : (w : Setting) (f t u : State) (watched : Watched) (most to : ℕ) (so_far more : Tally) (before now after n x y : ℕ) (was : Bool) → Counting w f t watched most to so_far before now → n ≡ t.cycle → Advances w t (n + 1) u None now after →
    u.cycle ≡ n + 1 → t.cycle < to → x ≡ seen watched u → y ≡ seen watched t → was ≡ happens_by watched y x → more ≡ noted most was n so_far → Counting w f u watched most to more before after
counting_on w f t u watched most to so_far more before now after n x y was k en a one lt ex ey is one_more =
    let same : was ≡ happens_by watched (seen watched t) (seen watched u) =
    is ∙ ap (λ m. happens_by watched m x) ey ∙ ap (happens_by watched (seen watched t)) ex
    in
    counting_to w f t u watched most to so_far more before now after k (subst (λ m. Advances w t (m + 1) u None now after) en a) (subst (λ m. u.cycle ≡ m + 1) en one) lt
    (one_more ∙ ap (λ b. noted most b n so_far) same
    ∙ ap (λ m. noted most (happens_by watched (seen watched t) (seen watched u)) m so_far) en)

-- no more are counted than there are cycles
few_noted : (most : ℕ) (was : Bool) (cycle : ℕ) (t : Tally) → (noted most was cycle t).count ≤ t.count + 1
few_noted most true cycle t = omega arith
few_noted most false cycle t = omega arith

pub few_of : (w : Setting) (f : State) (watched : Watched) (most n : ℕ) → (tally w f watched most n).count ≤ n
unfolding tally
few_of w f watched most zero = omega arith
few_of w f watched most (suc n) =
    let so_far = few_of w f watched most n in
    let one = few_noted most (happens w f watched n) (f.cycle + n) (tally w f watched most n) in
    omega (arith, so_far, one)

pub few_counted : (w : Setting) (f t : State) (watched : Watched) (most to : ℕ) (so_far : Tally) (before now : ℕ) → Counting w f t watched most to so_far before now → t.cycle < to → so_far.count < to
few_counted w f t watched most to so_far before now k lt =
    let few = few_of w f watched most (t.cycle - f.cycle) in
    let same : so_far.count ≡ (tally w f watched most (t.cycle - f.cycle)).count = ap (λ (x : Tally). x.count) k.is in
    omega (arith, few)

-- the run does not end before the cycle
pub never_stopped : (w : Setting) (f t u : State) (watched : Watched) (most to : ℕ) (so_far : Tally) (before now after n : ℕ) (why : Why) → Counting w f t watched most to so_far before now → n ≡ t.cycle → Advances w t (n + 1) u (Some why) now after → t.cycle < to → to ≤ last_cycle w f → ⊥
never_stopped w f t u watched most to so_far before now after n why k en a lt le =
    let path : Path w f u = path_join w f t u k.way.path a.path in
    let end : last_cycle w f ≡ u.cycle = ap (λ (x : State). x.cycle) (path_last w f u why path a.stopped.0 a.low) in
    let below : u.cycle < n + 1 = a.stopped.1 in
    omega arith
