-- Sessions as they move.
use Rattle.reverse_debug.proofs.Shared.{Advances, Goes, GoesOn, IsAlong, IsGreatest, IsIn, IsNearest, Lands, List, None, OpensAt, Option, Path, Setting, Snapshots, Standing, Stands, StandsFor, State, StaysFor, Why, and_from, and_parts, ap, arith, false, first_of, inl, inr, is_kept, is_within, keeping_is_faithful, kept_with, last_cycle, lt-ltb, ltb-true, max, mod-le, mod-lt, nat_lt, nat_tests, near_spacing, next_place, or_cases, or_parts, refl, restarted, restored, spacing_of, state_at, states, subst, sym, true, true≢false, zero-mod, ℕ, ◌%◌, ◌&&◌, ◌*◌, ◌+◌, ◌-◌, ◌<◌, ◌^◌, ◌||◌, ◌∙◌, ◌≡◌, ◌≤◌, ◌⊎◌}
use Rattle.reverse_debug.proofs.Paths.{path_join, path_in_last, last_within, none_first, below_to}
use Rattle.reverse_debug.proofs.Rings.{multiple_below, place_below, place_within, within_of, begun_within, closer_low, closer_fills, restored_cycle, restored_any, spacing_stays, origin_stays, found_still, empty, due_first, keeps_after, keeps_to, keeps_first}

-- ---- what holds of a session that stands for a run

pub now_low : (w : Setting) (first : State) (s : Standing) → IsAlong w first s → s.now.cycle ≤ w.limit
now_low w first s k =
    let begins : first.cycle ≡ 0 = k.begins in
    let last : last_cycle w first ≤ w.limit = last_within w first (omega arith) in
    let here : s.now.cycle ≤ s.reached = k.here in
    let reached : s.reached ≤ last_cycle w first = k.reached in
    omega arith

pub now_in_last : (w : Setting) (first : State) (s : Standing) → IsAlong w first s → s.now.cycle ≤ last_cycle w first
now_in_last w first s k =
    let here : s.now.cycle ≤ s.reached = k.here in
    let reached : s.reached ≤ last_cycle w first = k.reached in
    omega arith

now_in_spacings : (w : Setting) (first : State) (s : Standing) → IsAlong w first s → s.now.cycle ≤ 64 * s.ring.spacing
now_in_spacings w first s k =
    let low : s.now.cycle ≤ w.limit = now_low w first s k in
    let all : s.limit ≤ 64 * s.ring.spacing = subst (λ d. s.limit ≤ 64 * d) (sym k.spacing) (omega arith) in
    let same : s.limit ≡ w.limit = k.limit in
    omega arith

-- the ring begins at the first cycle
from_zero : (w : Setting) (first : State) (s : Standing) (c : ℕ) → IsAlong w first s → c - s.ring.origin ≡ c
from_zero w first s c k = let zero : s.ring.origin ≡ 0 = k.zero in omega arith

multiple_kept : (w : Setting) (first : State) (s : Standing) (c : ℕ) → IsAlong w first s → c % s.ring.spacing ≡ 0 → c ≤ s.reached → c < 64 * s.ring.spacing → is_kept c s.ring.kept ≡ true
multiple_kept w first s c k multiple le low =
    let zero : s.ring.origin ≡ 0 = k.zero in
    k.ring.multiples c (within_of s.ring c (omega arith) (omega arith)) (ap (λ n. n % s.ring.spacing) (from_zero w first s c k) ∙ multiple) le

-- the first state is kept
pub first_kept : (w : Setting) (first : State) (s : Standing) → IsAlong w first s → is_kept 0 s.ring.kept ≡ true
first_kept w first s k =
    let some : 0 < s.ring.spacing = k.ring.some in
    multiple_kept w first s 0 k (zero-mod s.ring.spacing) (omega arith) (omega arith)

-- each stretch below the present cycle begins with one that is kept
pub every_now : (w : Setting) (first : State) (s : Standing) → IsAlong w first s → (c : ℕ) → c < s.now.cycle → is_kept (c - c % s.ring.spacing) s.ring.kept ≡ true
every_now w first s k c lt =
    let here : s.now.cycle ≤ s.reached = k.here in
    let all : s.now.cycle ≤ 64 * s.ring.spacing = now_in_spacings w first s k in
    multiple_kept w first s (c - c % s.ring.spacing) k (multiple_below c s.ring.spacing) (omega arith) (omega arith)

-- of the near stretch too
pub close_now : (w : Setting) (first : State) (s : Standing) → IsAlong w first s → (c : ℕ) → c < s.now.cycle → IsIn s.near c → is_kept (c - (c - s.near.origin) % s.near.spacing) s.near.kept ≡ true
close_now w first s k c lt within =
    k.near.multiples (c - (c - s.near.origin) % s.near.spacing) (place_within s.near c within) (place_below s.near c (begun_within s.near c within)) (omega arith)

pub path_of : (w : Setting) (first : State) (s : Standing) → IsAlong w first s → Path w first s.now
path_of w first s k =
    let begins : first.cycle ≡ 0 = k.begins in
    let e : s.now.cycle ≡ s.now.cycle - first.cycle = omega arith in
    record { is = k.now ∙ ap (states w first) e; forward = omega arith }

-- ---- forward

-- the session after its machine went on to a state
abbrev pub behind : State → Standing → Standing
behind s old = record { now = s; ring = kept_with s old.ring; near = kept_with s old.near; limit = old.limit; reached = max old.reached s.cycle }

along_after : (w : Setting) (first : State) (old : Standing) (s : State) → IsAlong w first old → Path w old.now s → s.cycle ≤ w.limit →
    s.cycle ≤ next_place old.ring old.now.cycle → s.cycle ≤ next_place old.near old.now.cycle → IsAlong w first (behind s old)
along_after w first old s k p low far close =
    let whole : Path w first s = path_join w first old.now s (path_of w first old k) p in
    let begins : first.cycle ≡ 0 = k.begins in
    let away : s.cycle - first.cycle ≡ s.cycle = omega arith in
    let is : s ≡ states w first s.cycle = whole.is ∙ ap (states w first) away in
    let last : s.cycle ≤ last_cycle w first = path_in_last w first s whole low in
    let reached : old.reached ≤ last_cycle w first = k.reached in
    let here : old.now.cycle ≤ old.reached = k.here in
    let forward : old.now.cycle ≤ s.cycle = p.forward in
    let zero : old.ring.origin ≡ 0 = k.zero in
    let behind : old.near.origin ≤ old.now.cycle = k.behind in
    record {
      limit = k.limit;
      small = k.small;
      spacing = spacing_stays s old.ring ∙ k.spacing;
      closer = spacing_stays s old.near ∙ k.closer ∙ ap near_spacing (sym (spacing_stays s old.ring));
      begins = k.begins;
      now = is;
      here = omega arith;
      reached = omega arith;
      zero = origin_stays s old.ring ∙ k.zero;
      ring = keeps_after w first s old.ring old.now.cycle old.reached old.reached (max old.reached s.cycle) (max old.reached s.cycle) k.ring is (omega arith) here far
          (omega arith) (omega arith) (omega arith);
      behind = subst (λ o. o ≤ s.cycle) (sym (origin_stays s old.near)) (omega arith);
      stretch = ap (λ d. (kept_with s old.near).origin % d) (spacing_stays s old.ring) ∙ ap (λ o. o % old.ring.spacing) (origin_stays s old.near) ∙ k.stretch;
      near = keeps_after w first s old.near old.now.cycle old.now.cycle old.reached s.cycle (max old.reached s.cycle) k.near is behind (omega arith) close
          (omega arith) (omega arith) (omega arith);
    }

first_after : (w : Setting) (first : State) (old : Standing) (s : State) → IsAlong w first old → first_of (behind s old) ≡ first_of old
first_after w first old s k = found_still s old.ring 0 s old.now (first_kept w first old k)

stays_after : (w : Setting) (old : Standing) (s : State) → StandsFor w old → Path w old.now s → s.cycle ≤ w.limit →
    s.cycle ≤ next_place old.ring old.now.cycle → s.cycle ≤ next_place old.near old.now.cycle → StaysFor w old (behind s old)
stays_after w old s k p low far close =
    let same = first_after w (first_of old) old s k in
    record {
      stands = subst (λ (f : State). IsAlong w f (behind s old)) (sym same) (along_after w (first_of old) old s k p low far close);
      first = same;
      spacing = spacing_stays s old.ring;
      closer = spacing_stays s old.near;
      reached = refl;
    }

-- one stretch of the way, up to the next state that is kept
stretched : (w : Setting) (old : Standing) (s : State) (to until : ℕ) (why : Option Why) (before after : ℕ) → StandsFor w old → Advances w old.now until s why before after → until ≤ to →
    until ≤ next_place old.ring old.now.cycle → until ≤ next_place old.near old.now.cycle → GoesOn w old to (behind s old) why before after
stretched w old s to until why before after k a le far close =
    let within : s.cycle ≤ until = a.within in
    record {
      goes = record { stays = stays_after w old s k a.path a.low (omega arith) (omega arith); forward = a.path.forward; stretch = origin_stays s old.near; count = a.count };
      within = omega arith;
      stopped = below_to w s to until why a.stopped le;
    }

-- ---- stretch by stretch

pub stays_here : (w : Setting) (s : Standing) → StandsFor w s → StaysFor w s s
stays_here w s k = let here : s.now.cycle ≤ s.reached = k.here in record { stands = k; first = refl; spacing = refl; closer = refl; reached = omega arith }

pub stays_on : (w : Setting) (a b c : Standing) → b.now.cycle ≤ c.now.cycle → StaysFor w a b → StaysFor w b c → StaysFor w a c
stays_on w a b c le h k =
    let one : b.reached ≡ max a.reached b.now.cycle = h.reached in
    let two : c.reached ≡ max b.reached c.now.cycle = k.reached in
    record { stands = k.stands; first = k.first ∙ h.first; spacing = k.spacing ∙ h.spacing; closer = k.closer ∙ h.closer; reached = omega arith }

pub goes_here : (w : Setting) (s : Standing) (steps : ℕ) → StandsFor w s → Goes w s s steps steps
goes_here w s steps k = record { stays = stays_here w s k; forward = omega arith; stretch = refl; count = refl }

pub going_here : (w : Setting) (s : Standing) (to steps : ℕ) → StandsFor w s → s.now.cycle ≤ to → GoesOn w s to s None steps steps
going_here w s to steps k le = record { goes = goes_here w s steps k; within = le; stopped = tt }

pub goes_on : (w : Setting) (a b c : Standing) (before now after : ℕ) → Goes w a b before now → Goes w b c now after → Goes w a c before after
goes_on w a b c before now after h k = record {
  stays = stays_on w a b c k.forward h.stays k.stays;
  forward = omega (arith, h.forward, k.forward);
  stretch = k.stretch ∙ h.stretch;
  count = omega (arith, h.count, k.count);
}

pub going_on : (w : Setting) (a b c : Standing) (to : ℕ) (why : Option Why) (before now after : ℕ) → GoesOn w a to b None before now → GoesOn w b to c why now after → GoesOn w a to c why before after
going_on w a b c to why before now after h k = record { goes = goes_on w a b c before now after h.goes k.goes; within = k.within; stopped = k.stopped }

-- ---- back, or ahead, to a state that is kept

pub restored_at : (c : ℕ) (kept : List State) (own s : State) → is_kept c kept ≡ true → s ≡ restored (state_at c kept) own → s.cycle ≡ c
restored_at c kept own s found e = ap (λ (x : State). x.cycle) e ∙ restored_cycle c kept own found

-- the session with the machine set to a state of the near stretch
abbrev pub set_near : State → Standing → Standing
set_near s old = record { now = s; ring = old.ring; near = old.near; limit = old.limit; reached = old.reached }

stays_near : (w : Setting) (old : Standing) (c : ℕ) (s : State) → StandsFor w old → is_kept c old.near.kept ≡ true → s ≡ restored (state_at c old.near.kept) old.now → old.near.origin ≤ c → c ≤ old.now.cycle →
    StaysFor w old (set_near s old)
stays_near w old c s k kept e begun le =
    let cycle : s.cycle ≡ c = restored_at c old.near.kept old.now s kept e in
    let same : first_of (set_near s old) ≡ first_of old = restored_any 0 old.ring.kept s old.now (first_kept w (first_of old) old k) in
    let here : old.now.cycle ≤ old.reached = k.here in
    let along : IsAlong w (first_of old) (set_near s old) = record {
      limit = k.limit;
      small = k.small;
      spacing = k.spacing;
      closer = k.closer;
      begins = k.begins;
      reached = k.reached;
      zero = k.zero;
      ring = k.ring;
      stretch = k.stretch;
      now = e ∙ k.near.kept c old.now kept ∙ ap (states w (first_of old)) (sym cycle);
      here = omega arith;
      behind = omega arith;
      near = keeps_to w (first_of old) old.near old.now.cycle s.cycle old.reached (omega arith) k.near;
    } in
    record { stands = subst (λ (x : State). IsAlong w x (set_near s old)) (sym same) along; first = same; spacing = refl; closer = refl; reached = omega arith }

landed_near : (w : Setting) (old : Standing) (target found : ℕ) (s : State) → StandsFor w old → target < old.now.cycle → IsIn old.near target → IsGreatest target old.near.kept found →
    s ≡ restored (state_at found old.near.kept) old.now → Lands w old target (set_near s old)
landed_near w old target found s k lt within g e =
    let cycle : s.cycle ≡ found = restored_at found old.near.kept old.now s g.is_one e in
    let reached : found ≤ target = g.reached in
    let begun : old.near.origin ≤ target = begun_within old.near target within in
    let rest : (target - old.near.origin) % old.near.spacing < old.near.spacing = mod-lt (target - old.near.origin) k.near.some in
    let le : (target - old.near.origin) % old.near.spacing ≤ target - old.near.origin = mod-le (target - old.near.origin) old.near.spacing in
    let most : target - (target - old.near.origin) % old.near.spacing ≤ found =
    g.greatest (target - (target - old.near.origin) % old.near.spacing) (close_now w (first_of old) old k target lt within) (omega arith)
    in
    let low : old.near.spacing ≤ old.ring.spacing = subst (λ n. n ≤ old.ring.spacing) (sym k.closer) (closer_low old.ring.spacing k.ring.some) in
    record {
      stays = stays_near w old found s k g.is_one e (omega arith) (omega arith);
      below = omega arith;
      back = λ _. omega arith;
      near = λ _ _. omega arith;
      ahead = λ far. absurd (omega arith);
      stretch = λ _. within;
      same = λ _. refl;
    }

-- the session with the machine set to a kept state of the run, where the near stretch begins anew
abbrev pub set_far : State → ℕ → Standing → Standing
set_far s c old = record { now = s; ring = old.ring; near = kept_with s (restarted c old.near); limit = old.limit; reached = old.reached }

stays_far : (w : Setting) (old : Standing) (c : ℕ) (s : State) → StandsFor w old → is_kept c old.ring.kept ≡ true → s ≡ restored (state_at c old.ring.kept) old.now → StaysFor w old (set_far s c old)
stays_far w old c s k kept e =
    let cycle : s.cycle ≡ c = restored_at c old.ring.kept old.now s kept e in
    let same : first_of (set_far s c old) ≡ first_of old = restored_any 0 old.ring.kept s old.now (first_kept w (first_of old) old k) in
    let low : c ≤ old.reached = k.ring.below c kept in
    let is : s ≡ states w (first_of old) s.cycle = e ∙ k.ring.kept c old.now kept ∙ ap (states w (first_of old)) (sym cycle) in
    let origin : (kept_with s (restarted c old.near)).origin ≡ c = origin_stays s (restarted c old.near) in
    let along : IsAlong w (first_of old) (set_far s c old) = record {
      limit = k.limit;
      small = k.small;
      spacing = k.spacing;
      begins = k.begins;
      reached = k.reached;
      zero = k.zero;
      ring = k.ring;
      closer = spacing_stays s (restarted c old.near) ∙ k.closer;
      now = is;
      here = omega arith;
      behind = omega arith;
      stretch = ap (λ n. n % old.ring.spacing) (origin ∙ sym (from_zero w (first_of old) old c k)) ∙ k.ring.apart c kept;
      near = keeps_first w (first_of old) s old.near.spacing c s.cycle old.reached k.near.some cycle is (omega arith) (omega arith);
    } in
    record { stands = subst (λ (x : State). IsAlong w x (set_far s c old)) (sym same) along; first = same; spacing = refl; closer = spacing_stays s (restarted c old.near); reached = omega arith }

-- the nearest kept state below a cycle that was passed is nearer than the spacing
near_enough : (w : Setting) (old : Standing) (target found : ℕ) → StandsFor w old → IsGreatest target old.ring.kept found → target < old.now.cycle → target < found + old.ring.spacing
near_enough w old target found k g lt =
    let some : 0 < old.ring.spacing = k.ring.some in
    let rest : target % old.ring.spacing < old.ring.spacing = mod-lt target some in
    let most : target - target % old.ring.spacing ≤ found = g.greatest (target - target % old.ring.spacing) (every_now w (first_of old) old k target lt) (omega arith) in
    omega arith

landed_far : (w : Setting) (old : Standing) (target found : ℕ) (s : State) → StandsFor w old → (target < old.now.cycle → IsIn old.near target → ⊥) → IsGreatest target old.ring.kept found →
    s ≡ restored (state_at found old.ring.kept) old.now → ((target < old.now.cycle) ⊎ (old.now.cycle < found)) → Lands w old target (set_far s found old)
landed_far w old target found s k out g e far =
    let cycle : s.cycle ≡ found = restored_at found old.ring.kept old.now s g.is_one e in
    let reached : found ≤ target = g.reached in
    let origin : (kept_with s (restarted found old.near)).origin ≡ found = origin_stays s (restarted found old.near) in
    let spacing : (kept_with s (restarted found old.near)).spacing ≡ old.near.spacing = spacing_stays s (restarted found old.near) in
    let fills : old.ring.spacing ≤ 64 * old.near.spacing = subst (λ n. old.ring.spacing ≤ 64 * n) (sym k.closer) (closer_fills old.ring.spacing) in
    record {
      stays = stays_far w old found s k g.is_one e;
      below = omega arith;
      back = λ lt. let near = near_enough w old target found k g lt in omega arith;
      near = λ lt within. absurd (out lt within);
      ahead = λ le. elim far [
        | inl lt ↦ absurd (omega arith)
        | inr lt ↦ omega arith
      ];
      stretch = λ lt. (
          let near : target < found + old.ring.spacing = near_enough w old target found k g lt in
          within_of (kept_with s (restarted found old.near)) target (omega arith) (omega arith)
          );
      same = λ is. elim far [
        | inl lt ↦ absurd (omega arith)
        | inr lt ↦ absurd (omega arith)
      ];
    }

pub stayed : (w : Setting) (old : Standing) (target : ℕ) → StandsFor w old → old.now.cycle ≤ target → Lands w old target old
stayed w old target k le = record {
  stays = stays_here w old k;
  below = le;
  back = λ lt. absurd (omega arith);
  near = λ lt within. absurd (omega arith);
  ahead = λ _. omega arith;
  stretch = λ lt. absurd (omega arith);
  same = λ _. refl;
}

-- ---- the session as its parts: v is what the parts stand for

pub part_low : (w : Setting) (v old : Standing) → v ≡ old → StandsFor w old → v.now.cycle ≤ w.limit
part_low w v old e k = subst (λ (x : Standing). x.now.cycle ≤ w.limit) (sym e) (now_low w (first_of old) old k)

-- the numbers by which the next stop is found
pub record HasStops (session : Standing) : Type 0 where
  pub some : 0 < session.ring.spacing
  pub closer : 0 < session.near.spacing
  pub zero : session.ring.origin ≤ session.now.cycle
  pub behind : session.near.origin ≤ session.now.cycle
  pub small : session.now.cycle + session.ring.spacing < 2 ^ 64
  pub low : session.near.spacing ≤ session.ring.spacing

has_stops : (w : Setting) (old : Standing) → StandsFor w old → HasStops old
has_stops w old k =
    let spacing : old.ring.spacing ≤ 15625000 = subst (λ d. d ≤ 15625000) (sym k.spacing) (omega (arith, k.small)) in
    let low : old.now.cycle ≤ w.limit = now_low w (first_of old) old k in
    let same : old.limit ≡ w.limit = k.limit in
    let small : old.limit ≤ 1000000000 = k.small in
    let zero : old.ring.origin ≡ 0 = k.zero in
    record {
      some = k.ring.some;
      closer = k.near.some;
      zero = omega arith;
      behind = k.behind;
      small = omega arith;
      low = subst (λ n. n ≤ old.ring.spacing) (sym k.closer) (closer_low old.ring.spacing k.ring.some);
    }

pub part_stops : (v old : Standing) → v ≡ old → Stands old → HasStops v
part_stops v old e h = subst (λ (x : Standing). HasStops x) (sym e) (has_stops h.0 old h.1)

-- a session stands below the greatest number
pub low_number : (w : Setting) (old : Standing) → StandsFor w old → old.now.cycle < 18446744073709551615
low_number w old k = let small : old.now.cycle + old.ring.spacing < 2 ^ 64 = (has_stops w old k).small in let some : 0 < old.ring.spacing = k.ring.some in omega arith

pub part_stretched : (w : Setting) (v old : Standing) (s : State) (ring near : Snapshots) (reached to until : ℕ) (why : Option Why) (before after : ℕ) → v ≡ old → StandsFor w old →
    Advances w v.now until s why before after → until ≤ to → until ≤ next_place old.ring old.now.cycle → until ≤ next_place old.near old.now.cycle → ring ≡ kept_with s v.ring → near ≡ kept_with s v.near →
    reached ≡ max v.reached s.cycle → GoesOn w old to (record { now = s; ring = ring; near = near; limit = v.limit; reached = reached }) why before after
part_stretched w v old s ring near reached to until why before after e k a le far close er en f =
    rw (er, en, f) (subst (λ (x : Standing). GoesOn w old to (behind s x) why before after) (sym e)
    (stretched w old s to until why before after k (subst (λ (x : Standing). Advances w x.now until s why before after) e a) le far close))

-- v is what the parts stand for
pub part_landed : (w : Setting) (v old : Standing) (target found now : ℕ) (s : State) (near mid : Snapshots) → v ≡ old → StandsFor w old → (nat_lt target old.now.cycle && is_within old.near.spacing old.near.origin target) ≡ false
    → now ≡ v.now.cycle → IsGreatest target v.ring.kept found → s ≡ restored (state_at found v.ring.kept) v.now → (nat_lt target now || nat_lt now found) ≡ true
    → mid ≡ restarted found v.near → near ≡ kept_with s mid → Lands w old target (record { now = s; ring = v.ring; near = near; limit = v.limit; reached = v.reached })
part_landed w v old target found now s near mid e k out en g r far em ek =
    let isfar : (nat_lt target old.now.cycle || nat_lt old.now.cycle found) ≡ true = subst (λ n. (nat_lt target n || nat_lt n found) ≡ true) (en ∙ ap (λ (x : Standing). x.now.cycle) e) far in
    let ways : (target < old.now.cycle) ⊎ (old.now.cycle < found) = elim (or_cases (nat_lt target old.now.cycle) (nat_lt old.now.cycle found) isfar) [
      | inl is ↦ inl (ltb-true _ _ is)
      | inr is ↦ inr (ltb-true _ _ is)
    ] in
    let outside : target < old.now.cycle → IsIn old.near target → ⊥ = λ lt within. true≢false (sym (and_from _ _ (lt-ltb _ _ lt) within) ∙ out) in
    rw (ek, em) (subst (λ (x : Standing). Lands w old target (set_far s found x)) (sym e)
    (landed_far w old target found s k outside (subst (λ (x : Standing). IsGreatest target x.ring.kept found) e g)
    (subst (λ (x : Standing). s ≡ restored (state_at found x.ring.kept) x.now) e r) ways))

pub part_close : (w : Setting) (v old : Standing) (target found : ℕ) (s : State) → v ≡ old → StandsFor w old → (nat_lt target old.now.cycle && is_within old.near.spacing old.near.origin target) ≡ true →
    IsGreatest target v.near.kept found → s ≡ restored (state_at found v.near.kept) v.now → Lands w old target (record { now = s; ring = v.ring; near = v.near; limit = v.limit; reached = v.reached })
part_close w v old target found s e k close g r =
    let parts = and_parts (nat_lt target old.now.cycle) (is_within old.near.spacing old.near.origin target) close in
    subst (λ (x : Standing). Lands w old target (set_near s x)) (sym e)
    (landed_near w old target found s k (ltb-true _ _ parts.0) parts.1 (subst (λ (x : Standing). IsGreatest target x.near.kept found) e g)
    (subst (λ (x : Standing). s ≡ restored (state_at found x.near.kept) x.now) e r))

pub part_stayed : (w : Setting) (v old : Standing) (target found now : ℕ) → v ≡ old → StandsFor w old → now ≡ v.now.cycle → (nat_lt target now || nat_lt now found) ≡ false → Lands w old target old
part_stayed w v old target found now e k en far =
    let first : nat_lt target now ≡ false = (or_parts (nat_lt target now) (nat_lt now found) far).0 in
    let at : now ≡ old.now.cycle = en ∙ ap (λ (x : Standing). x.now.cycle) e in
    let le : old.now.cycle ≤ target = grind (arith, nat_tests) in
    stayed w old target k le

-- some state is kept at or below each cycle
pub part_near : (w : Setting) (v old : Standing) (target : ℕ) → v ≡ old → StandsFor w old → IsNearest target v.ring.kept None → ⊥
part_near w v old target e k none =
    let none_at : target < 0 = none 0 (subst (λ (x : Standing). is_kept 0 x.ring.kept ≡ true) (sym e) (first_kept w (first_of old) old k)) in omega arith

-- of the near stretch as well
pub part_none : (w : Setting) (v old : Standing) (target : ℕ) → v ≡ old → StandsFor w old → (nat_lt target old.now.cycle && is_within old.near.spacing old.near.origin target) ≡ true → IsNearest target v.near.kept None → ⊥
part_none w v old target e k close none =
    let parts = and_parts (nat_lt target old.now.cycle) (is_within old.near.spacing old.near.origin target) close in
    let kept = close_now w (first_of old) old k target (ltb-true _ _ parts.0) parts.1 in
    let above : target < target - (target - old.near.origin) % old.near.spacing =
    (subst (λ (x : Standing). IsNearest target x.near.kept None) e none) (target - (target - old.near.origin) % old.near.spacing) kept
    in
    omega arith

-- ---- the opening

-- the session after its first state was kept
abbrev pub at_first : State → ℕ → Standing
at_first machine limit = record {
  now = machine;
  ring = kept_with machine (empty (spacing_of limit) 0);
  near = kept_with machine (empty (near_spacing (spacing_of limit)) 0);
  limit = limit;
  reached = 0;
}

opened_first : (machine own : State) (limit : ℕ) → machine.cycle ≡ 0 → restored (state_at 0 (kept_with machine (empty (spacing_of limit) 0)).kept) own ≡ machine
opened_first machine own limit begins =
    ap (λ n. restored (state_at n (kept_with machine (empty (spacing_of limit) 0)).kept) own) (sym begins)
    ∙ ap (λ o. restored o own) ((keeping_is_faithful (empty (spacing_of limit) 0) machine).mine (due_first (spacing_of limit) 0 machine.cycle (omega arith) begins))

opened_along : (w : Setting) (machine : State) (limit : ℕ) → machine.cycle ≡ 0 → limit ≤ 1000000000 → w.limit ≡ limit → IsAlong w machine (at_first machine limit)
opened_along w machine limit begins small same =
    let is : machine ≡ states w machine machine.cycle = sym (ap (states w machine) begins ∙ none_first w machine) in
    let some : 0 < spacing_of limit = omega arith in
    let closer : 0 < near_spacing (spacing_of limit) = omega arith in
    let origin : (kept_with machine (empty (near_spacing (spacing_of limit)) 0)).origin ≡ 0 = origin_stays machine (empty (near_spacing (spacing_of limit)) 0) in
    record {
      limit = sym same;
      small = small;
      spacing = spacing_stays machine (empty (spacing_of limit) 0);
      closer = spacing_stays machine (empty (near_spacing (spacing_of limit)) 0) ∙ ap near_spacing (sym (spacing_stays machine (empty (spacing_of limit) 0)));
      begins = begins;
      now = is;
      here = omega arith;
      reached = omega arith;
      zero = origin_stays machine (empty (spacing_of limit) 0);
      ring = keeps_first w machine machine (spacing_of limit) 0 0 0 some begins is (omega arith) (omega arith);
      behind = omega arith;
      stretch = ap (λ n. n % (kept_with machine (empty (spacing_of limit) 0)).spacing) origin ∙ zero-mod (kept_with machine (empty (spacing_of limit) 0)).spacing;
      near = keeps_first w machine machine (near_spacing (spacing_of limit)) 0 machine.cycle 0 closer begins is (omega arith) (omega arith);
    }

opens : (machine : State) (limit : ℕ) → machine.cycle ≡ 0 → limit ≤ 1000000000 → OpensAt machine limit (at_first machine limit)
opens machine limit begins small = record {
  first = opened_first machine machine limit begins;
  now = refl;
  spacing = spacing_stays machine (empty (spacing_of limit) 0);
  closer = spacing_stays machine (empty (near_spacing (spacing_of limit)) 0);
  stretch = origin_stays machine (empty (near_spacing (spacing_of limit)) 0);
  reached = refl;
  stands = λ w same.
      subst (λ (f : State). IsAlong w f (at_first machine limit))
      (sym (opened_first machine machine limit begins)) (opened_along w machine limit begins small same);
}

pub low_at_first : (limit spacing : ℕ) (r : Snapshots) → limit ≤ 1000000000 → r ≡ empty (spacing_of limit) 0 → spacing ≡ r.spacing → spacing ≤ 15625000
low_at_first limit spacing r le e is = subst (λ n. n ≤ 15625000) (sym (is ∙ ap (λ (x : Snapshots). x.spacing) e)) (omega arith)

pub opened : (machine s : State) (limit spacing : ℕ) (r n ring near : Snapshots) → machine.cycle ≡ 0 → limit ≤ 1000000000 → r ≡ empty (spacing_of limit) 0 → spacing ≡ r.spacing → n ≡ empty (near_spacing spacing) 0
    → ring ≡ kept_with machine r → near ≡ kept_with machine n → s ≡ machine → OpensAt machine limit (record { now = s; ring = ring; near = near; limit = limit; reached = 0 })
opened machine s limit spacing r n ring near begins small er esp en ek ekn es =
    let d : spacing ≡ spacing_of limit = esp ∙ ap (λ (x : Snapshots). x.spacing) er in
    let one : ring ≡ kept_with machine (empty (spacing_of limit) 0) = ek ∙ ap (kept_with machine) er in
    let two : near ≡ kept_with machine (empty (near_spacing (spacing_of limit)) 0) = ekn ∙ ap (kept_with machine) (en ∙ ap (λ m. empty (near_spacing m) 0) d) in
    rw (es, one, two) (opens machine limit begins small)
