-- The n-th cycle below the present one, by a session that stands where it stood; and moves back to it.
use Rattle.reverse_debug.proofs.Shared.{AreOf, Does, FindsNear, IsIn, Lands, List, Moves, None, Option, Said, Setting, Some, Spends, Standing, StandsFor, State, [], ap, arith, at_or_start, before_nth, codes, first_in, first_of, kept_first, kept_second, last_cycle, move_cost, moved_to, or_zero, search_cost, subst, sym, ℕ, ◌%◌, ◌++◌, ◌+◌, ◌-◌, ◌∙◌, ◌≡◌, ◌≤◌}
use Rattle.reverse_debug.specs.Command.{Watched}
use Rattle.reverse_debug.proofs.Moves.{moved_within, started, text_written}
use Rattle.reverse_debug.proofs.Stretches.{before_within}
use Rattle.reverse_debug.proofs.Rings.{restored_any, both_of_run}
use Rattle.reverse_debug.proofs.Sessions.{first_kept, every_now, close_now, now_in_last}

-- v is what the parts of the session stand for, and s any machine's state
same_first : (w : Setting) (v old : Standing) (s : State) → v ≡ old → StandsFor w old → first_in v.ring s ≡ first_of old
same_first w v old s e k = ap (λ (x : Standing). first_in x.ring s) e ∙ restored_any 0 old.ring.kept s old.now (first_kept w (first_of old) old k)

pub kept_of : (w : Setting) (v old : Standing) (s : State) (now : ℕ) → v ≡ old → StandsFor w old → now ≡ old.now.cycle → AreOf w (first_in v.ring s) v.ring v.near now
kept_of w v old s now e k en =
    subst (λ (x : Standing). AreOf w (first_in v.ring s) x.ring x.near now) (sym e)
    (subst (λ (n : ℕ). AreOf w (first_in v.ring s) old.ring old.near n) (sym en) (subst (λ (x : State). AreOf w x old.ring old.near old.now.cycle) (sym (same_first w v old s e k))
    (record {
      begins = k.begins;
      zero = kept_second 0 old.near.kept old.ring.kept (first_kept w (first_of old) old k);
      some = k.ring.some;
      closer = k.near.some;
      every = λ c lt. kept_second (c - c % old.ring.spacing) old.near.kept old.ring.kept (every_now w (first_of old) old k c lt);
      close = λ c lt within. kept_first (c - (c - old.near.origin) % old.near.spacing) old.near.kept old.ring.kept (close_now w (first_of old) old k c lt within);
      kept = both_of_run w (first_of old) old.near.kept old.ring.kept k.near.kept k.ring.kept;
    })))

pub reaches : (w : Setting) (v old : Standing) (s : State) (now : ℕ) → v ≡ old → StandsFor w old → now ≡ old.now.cycle → now ≤ last_cycle w (first_in v.ring s)
reaches w v old s now e k en =
    subst (λ n. n ≤ last_cycle w (first_in v.ring s)) (sym en)
    (subst (λ (x : State). old.now.cycle ≤ last_cycle w x) (sym (same_first w v old s e k)) (now_in_last w (first_of old) old k))

pub same_before : (w : Setting) (v old : Standing) (s : State) (watched : Watched) (count now : ℕ) (found : Option ℕ) → v ≡ old → StandsFor w old → now ≡ old.now.cycle → found ≡ before_nth w (first_in v.ring s) watched count now →
    found ≡ before_nth w (first_of old) watched count old.now.cycle
same_before w v old s watched count now found e k en h =
    h ∙ ap (λ (x : State). before_nth w x watched count now) (same_first w v old s e k) ∙ ap (before_nth w (first_of old) watched count) en

-- v is what the parts of the session stand for
pub spent_same : (v old : Standing) (count now before after : ℕ) (found : Option ℕ) → v ≡ old → now ≡ old.now.cycle → Spends v.ring v.near count now before after found → Spends old.ring old.near count old.now.cycle before after found
spent_same v old count now before after found e en h =
    subst (λ n. Spends old.ring old.near count n before after found) en (subst (λ (x : Standing). Spends x.ring x.near count now before after found) e h)

-- ---- moves back

more_steps : (before mid after p q : ℕ) → mid ≤ before + p → after ≤ mid + q → after ≤ before + (p + q)
more_steps before mid after p q h k = omega arith

-- what a move back by a search does
abbrev pub Searches : Setting → Standing → ℕ → Option ℕ → Standing → List ℕ → ℕ → ℕ → Type 0
Searches w old count found new reply before after =
    Does w old (at_or_start found) (FindsNear old.near count old.now.cycle (or_zero found))
    (λ d. search_cost d count old.now.cycle found + move_cost d old.now.cycle (at_or_start found).cycle) new reply before after

went : (w : Setting) (old new : Standing) (count before mid after : ℕ) (found : Option ℕ) (reply : List ℕ) → before ≤ mid → mid ≤ before + search_cost old.ring.spacing count old.now.cycle found →
    (FindsNear old.near count old.now.cycle (or_zero found) → mid ≤ before + search_cost old.near.spacing count old.now.cycle found) →
    (FindsNear old.near count old.now.cycle (or_zero found) → IsIn old.near (at_or_start found).cycle) → Moves w old (at_or_start found) new reply mid after →
    Searches w old count found new reply before after
went w old new count before mid after found reply forward most close within k =
    let on : mid ≤ after = k.forward in
    record {
      stays = k.stays;
      cycle = k.cycle;
      said = k.said;
      forward = omega arith;
      steps =
          more_steps before mid after (search_cost old.ring.spacing count old.now.cycle found)
          (move_cost old.ring.spacing old.now.cycle (at_or_start found).cycle) most k.steps;
      near = λ h.
          more_steps before mid after (search_cost old.near.spacing count old.now.cycle found)
          (move_cost old.near.spacing old.now.cycle (at_or_start found).cycle) (close h) (k.near (within h));
      back = k.back;
      same = k.same;
    }

pub went_back : (w : Setting) (old same new : Standing) (watched : Watched) (count before mid after cycle : ℕ) (reply : List ℕ) → StandsFor w old → same ≡ old → Some cycle ≡ before_nth w (first_of old) watched count old.now.cycle → before ≤ mid →
    mid ≤ before + search_cost old.ring.spacing count old.now.cycle (Some cycle) →
    (FindsNear old.near count old.now.cycle cycle → mid ≤ before + search_cost old.near.spacing count old.now.cycle (Some cycle)) →
    Moves w same (moved_to w (first_of same) cycle) new reply mid after →
    Searches w old count (before_nth w (first_of old) watched count old.now.cycle) new reply before after
went_back w old same new watched count before mid after cycle reply k e is forward far close does =
    let low : cycle ≤ old.now.cycle = before_within w (first_of old) watched count old.now.cycle cycle is in
    let last : old.now.cycle ≤ last_cycle w (first_of old) = now_in_last w (first_of old) old k in
    let what = moved_within w (first_of old) cycle (omega arith) in
    let there =
    subst (λ (x : Said). Moves w old x new reply mid after) what
    (subst (λ (x : Standing). Moves w x (moved_to w (first_of x) cycle) new reply mid after) e does)
    in
    subst (λ (l : Option ℕ). Searches w old count l new reply before after) is
    (went w old new count before mid after (Some cycle) reply forward far close (λ h. h.ends) there)

pub stands_same : (w : Setting) (same old : Standing) → same ≡ old → StandsFor w old → StandsFor w same
stands_same w same old e k = subst (λ (x : Standing). StandsFor w x) (sym e) k

pub went_to_start : (w : Setting) (old same new : Standing) (watched : Watched) (count before mid : ℕ) (empty reply : List ℕ) → StandsFor w old → same ≡ old → None ≡ before_nth w (first_of old) watched count old.now.cycle → before ≤ mid →
    mid ≤ before + search_cost old.ring.spacing count old.now.cycle None →
    (FindsNear old.near count old.now.cycle 0 → mid ≤ before + search_cost old.near.spacing count old.now.cycle None) → Lands w same 0 new → empty ≡ [] → reply ≡ empty ++ codes "at start\n" →
    Searches w old count (before_nth w (first_of old) watched count old.now.cycle) new reply before mid
went_to_start w old same new watched count before mid empty reply k e is forward far close lands none written =
    let land : Lands w old 0 new = subst (λ (x : Standing). Lands w x 0 new) e lands in
    let there = started w old new reply mid land (text_written empty reply (codes "at start\n") none written) in
    subst (λ (l : Option ℕ). Searches w old count l new reply before mid) is
    (went w old new count before mid mid None reply forward far close (λ h. h.ends) there)
