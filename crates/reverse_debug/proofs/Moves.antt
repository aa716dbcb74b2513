-- Moves, and what is answered.
use Rattle.reverse_debug.proofs.Shared.{Back, Before, Bool, Command, Does, Fits, Goes, GoesOn, Goto, IsNearBy, Lands, List, Moves, None, Option, Said, Setting, Snapshots, Some, Standing, StandsFor, State, StaysFor, Step, Until, Why, [], answer, ap, arith, at_last, at_or_last, at_or_start, at_reply, before_nth, behind_next, cases_lt, codes, command_cost, command_of, cond, cost, false, first_of, heard, inl, inr, is_quit, last_cycle, last_state, meant, move_cost, moved_back, moved_to, nat_lt, nat_tests, not, refl, said, stop, stop_text, subst, sym, true, ℕ, ◌++◌, ◌+◌, ◌-◌, ◌<◌, ◌^◌, ◌∙◌, ◌≡◌, ◌≤◌}
use Rattle.reverse_debug.specs.declared.command.Command.{Command as Asked}
use Rattle.reverse_debug.specs.declared.command.Command.TheVariants as code
use Rattle.reverse_debug.proofs.Paths.{path_last, last_within}
use Rattle.reverse_debug.proofs.Rings.{in_same}
use Rattle.reverse_debug.proofs.Sessions.{now_in_last, now_low, path_of, stays_on, goes_here}

-- ---- what a move is

pub moved_within : (w : Setting) (f : State) (target : ℕ) → target ≤ last_cycle w f → moved_to w f target ≡ said target (at_reply target)
unfolding moved_to
moved_within w f target le = let isnt : nat_lt (last_cycle w f) target ≡ false = grind (arith, nat_tests) in rw isnt refl

pub moved_beyond : (w : Setting) (f t : State) (why : Why) (target : ℕ) → last_state w f ≡ t → stop w t ≡ Some why → t.cycle < target → moved_to w f target ≡ said t.cycle (stop_text why t.cycle)
unfolding moved_to
moved_beyond w f t why target last stops lt =
    let e : last_cycle w f ≡ t.cycle = ap (λ (x : State). x.cycle) last in
    let yes : nat_lt (last_cycle w f) target ≡ true = grind (arith, nat_tests) in
    let s : stop w (last_state w f) ≡ Some why = ap (stop w) last ∙ stops in
    rw yes (rw s (ap (λ n. said n (stop_text why n)) e))

-- where it has come to a stop, the run ends
pub last_at : (w : Setting) (old new : Standing) (why : Why) → StaysFor w old new → stop w new.now ≡ Some why → last_state w (first_of old) ≡ new.now
last_at w old new why stays stops =
    ap (last_state w) (sym stays.first) ∙ path_last w (first_of new) new.now why (path_of w (first_of new) new stays.stands) stops (now_low w (first_of new) new stays.stands)

-- ---- what a move costs

pub move_within : (d c m t before after : ℕ) → after + m ≡ before + t → m ≤ t → (t < c → t < m + d) → (c ≤ t → c ≤ m) → after ≤ before + move_cost d c t
move_within d c m t before after count le back ahead = elim (cases_lt t c) [
  | inl lt ↦
      let yes : nat_lt t c ≡ true = grind (arith, nat_tests) in
      let near : t < m + d = back lt in
      rw yes (omega arith)
  | inr ge ↦
      let isnt : nat_lt t c ≡ false = grind (arith, nat_tests) in
      let far : c ≤ m = ahead ge in
      rw isnt (omega arith)
]

-- ---- a move: first to a kept state, and then forward

pub arrived : (w : Setting) (old mid new : Standing) (target : ℕ) (reply : List ℕ) (before after : ℕ) → Lands w old target mid → Goes w mid new before after → new.now.cycle ≤ target → (new.now.cycle < old.now.cycle → new.now.cycle ≡ target) →
    Moves w old (said new.now.cycle reply) new reply before after
arrived w old mid new target reply before after land go within far =
    let on : mid.now.cycle ≤ new.now.cycle = go.forward in
    let count : after + mid.now.cycle ≡ before + new.now.cycle = go.count in
    record {
      stays = stays_on w old mid new go.forward land.stays go.stays;
      cycle = refl;
      said = refl;
      forward = omega arith;
      steps = move_within old.ring.spacing old.now.cycle mid.now.cycle new.now.cycle before after count on (λ lt. let there = far lt in let near = land.back (omega arith) in omega arith) (λ le. land.ahead (omega arith));
      near = λ inside. move_within old.near.spacing old.now.cycle mid.now.cycle new.now.cycle before after count on
          (λ lt. let there = far lt in let near = land.near (omega arith) (in_same old.near old.near new.now.cycle target refl refl (sym there) inside) in omega arith) (λ le. land.ahead (omega arith));
      back = λ lt. let there = far lt in in_same mid.near new.near target new.now.cycle go.stays.closer go.stretch there (land.stretch (omega arith));
      same = λ is inside. (
          let from : old.now.cycle ≤ mid.now.cycle = land.ahead (omega arith) in
          in_same old.near new.near old.now.cycle new.now.cycle (go.stays.closer ∙ land.stays.closer) (go.stretch ∙ land.same (omega arith)) is inside
          );
    }

pub moved_there : (w : Setting) (old mid new : Standing) (target : ℕ) (reply : List ℕ) (before after : ℕ) → StandsFor w old → Lands w old target mid → GoesOn w mid target new None before after →
    new.now.cycle ≡ target → reply ≡ at_reply target → Moves w old (moved_to w (first_of old) target) new reply before after
moved_there w old mid new target reply before after k land go there is =
    let stays : StaysFor w old new = stays_on w old mid new go.goes.forward land.stays go.goes.stays in
    let last : new.now.cycle ≤ last_cycle w (first_of new) = now_in_last w (first_of new) new stays.stands in
    let same : last_cycle w (first_of new) ≡ last_cycle w (first_of old) = ap (last_cycle w) stays.first in
    let what = ap (λ n. said n reply) there ∙ ap (said target) is ∙ sym (moved_within w (first_of old) target (omega arith)) in
    subst (λ (x : Said). Moves w old x new reply before after) what (arrived w old mid new target reply before after land go.goes go.within (λ _. there))

pub moved_stopped : (w : Setting) (old mid new : Standing) (target : ℕ) (why : Why) (reply : List ℕ) (before after : ℕ) → StandsFor w old → Lands w old target mid → GoesOn w mid target new (Some why) before after →
    reply ≡ stop_text why new.now.cycle → Moves w old (moved_to w (first_of old) target) new reply before after
moved_stopped w old mid new target why reply before after k land go is =
    let stays : StaysFor w old new = stays_on w old mid new go.goes.forward land.stays go.goes.stays in
    let last = last_at w old new why stays go.stopped.0 in
    let here : old.now.cycle ≤ last_cycle w (first_of old) = now_in_last w (first_of old) old k in
    let end : last_cycle w (first_of old) ≡ new.now.cycle = ap (λ (x : State). x.cycle) last in
    let what = ap (said new.now.cycle) is ∙ sym (moved_beyond w (first_of old) new.now why target last go.stopped.0 go.stopped.1) in
    subst (λ (x : Said). Moves w old x new reply before after) what (arrived w old mid new target reply before after land go.goes go.within (λ bad. absurd (omega arith)))

-- ---- a move back

-- the start is kept, so it is reached without a step
pub started : (w : Setting) (old new : Standing) (reply : List ℕ) (steps : ℕ) → Lands w old 0 new → reply ≡ codes "at start\n" → Moves w old (said 0 (codes "at start\n")) new reply steps steps
started w old new reply steps land is =
    let low : new.now.cycle ≤ 0 = land.below in
    subst (λ (x : Said). Moves w old x new reply steps steps) (ap (λ n. said n reply) (omega arith) ∙ ap (said 0) is)
    (arrived w old new new 0 reply steps steps land (goes_here w new steps land.stays.stands) low (λ _. omega arith))

pub moved_to_start : (w : Setting) (old new : Standing) (back : ℕ) (reply : List ℕ) (steps : ℕ) → Lands w old 0 new → old.now.cycle < back → reply ≡ codes "at start\n" → Moves w old (moved_back w (first_of old) old.now.cycle back) new reply steps steps
unfolding moved_back
moved_to_start w old new back reply steps land lt is = let yes : nat_lt old.now.cycle back ≡ true = grind (arith, nat_tests) in rw yes (started w old new reply steps land is)

pub moved_back_to : (w : Setting) (old new : Standing) (back now : ℕ) (reply : List ℕ) (before after : ℕ) → StandsFor w old → now ≡ old.now.cycle → back ≤ now →
    Moves w old (moved_to w (first_of old) (now - back)) new reply before after → Moves w old (moved_back w (first_of old) old.now.cycle back) new reply before after
unfolding moved_back
moved_back_to w old new back now reply before after k at le does =
    let isnt : nat_lt old.now.cycle back ≡ false = grind (arith, nat_tests) in
    let last : old.now.cycle ≤ last_cycle w (first_of old) = now_in_last w (first_of old) old k in
    let what : moved_to w (first_of old) (now - back) ≡ said (old.now.cycle - back) (at_reply (old.now.cycle - back)) = ap (λ n. moved_to w (first_of old) (n - back)) at ∙ moved_within w (first_of old) (old.now.cycle - back) (omega arith) in
    rw isnt (subst (λ (x : Said). Moves w old x new reply before after) what does)

-- ---- a move to the end

pub moved_to_end : (w : Setting) (f : State) (target : ℕ) → last_cycle w f < target → moved_to w f target ≡ at_last w f
unfolding moved_to
moved_to_end w f target lt = let yes : nat_lt (last_cycle w f) target ≡ true = grind (arith, nat_tests) in rw yes refl

-- ---- as it is written

pub stop_written : (before after : List ℕ) (why : Why) (n cycle : ℕ) → before ≡ [] → n ≡ cycle → after ≡ before ++ stop_text why n → after ≡ stop_text why cycle
stop_written before after why n cycle empty e h = h ∙ ap (λ t. t ++ stop_text why n) empty ∙ ap (stop_text why) e

pub text_written : (before after text : List ℕ) → before ≡ [] → after ≡ before ++ text → after ≡ text
text_written before after text empty h = h ∙ ap (λ t. t ++ text) empty

-- ---- what each command does

abbrev pub Obeys : Setting → Standing → Command → Standing → List ℕ → ℕ → ℕ → Type 0
Obeys w old q new reply before after =
    Does w old (answer w (first_of old) old.now.cycle q) (IsNearBy w (first_of old) old.near old.now.cycle q) (λ d. command_cost w (first_of old) d old.now.cycle q) new reply before after

-- a number of a command is added to a cycle
pub sum_fits : (w : Setting) (old : Standing) (q : Asked) (now n : ℕ) → StandsFor w old → Fits q → q ≡ code.Step n → now ≡ old.now.cycle → now + n < 2 ^ 64
sum_fits w old q now n k fits is e =
    let few : n < 10 ^ 10 = subst Fits is fits in
    let low : old.now.cycle ≤ w.limit = now_low w (first_of old) old k in
    let same : old.limit ≡ w.limit = k.limit in
    let small : old.limit ≤ 1000000000 = k.small in
    omega arith

pub end_obeyed : (w : Setting) (v old new : Standing) (q : Asked) (reply : List ℕ) (before after : ℕ) → q ≡ code.End → v ≡ old → StandsFor w old →
    Moves w old (moved_to w (first_of old) (v.limit + 1)) new reply before after → Obeys w old (meant q) new reply before after
end_obeyed w v old new q reply before after is e k does =
    let begins : (first_of old).cycle ≡ 0 = k.begins in
    let last : last_cycle w (first_of old) ≤ w.limit = last_within w (first_of old) (omega arith) in
    let same : old.limit ≡ w.limit = k.limit in
    let lim : v.limit ≡ old.limit = ap (λ (x : Standing). x.limit) e in
    let what = moved_to_end w (first_of old) (v.limit + 1) (omega arith) in
    subst (λ (x : Asked). Obeys w old (meant x) new reply before after) (sym is) (subst (λ (x : Said). Moves w old x new reply before after) what does)

quits_moved : (b : Bool) (x y : Said) → x.quits ≡ false → y.quits ≡ false → (cond b x y).quits ≡ false
quits_moved true x y h k = h
quits_moved false x y h k = k

quits_next : (w : Setting) (f : State) (found : Option ℕ) → (at_or_last w f found).quits ≡ false
quits_next w f None = refl
quits_next w f (Some cycle) = refl

quits_prev : (found : Option ℕ) → (at_or_start found).quits ≡ false
quits_prev None = refl
quits_prev (Some cycle) = refl

pub quits_exactly : (w : Setting) (f : State) (cycle : ℕ) (q : Command) → (answer w f cycle q).quits ≡ is_quit q
unfolding moved_to moved_back
quits_exactly w f cycle (Step n) = quits_moved (nat_lt (last_cycle w f) (cycle + n)) _ _ refl refl
quits_exactly w f cycle (Back n) = quits_moved (nat_lt cycle n) _ _ refl refl
quits_exactly w f cycle (Goto target) = quits_moved (nat_lt (last_cycle w f) target) _ _ refl refl
quits_exactly w f cycle (Until watched count) = quits_next w f (behind_next w f watched count cycle)
quits_exactly w f cycle (Before watched count) = quits_prev (before_nth w f watched count cycle)
quits_exactly w f cycle _ = refl

-- within the near stretch, as a line is heard
pub near_as_heard : (w : Setting) (f : State) (near : Snapshots) (d cycle : ℕ) (line : List ℕ) (q : Command) (before after : ℕ) → q ≡ command_of line →
    (IsNearBy w f near cycle q → after ≤ before + command_cost w f d cycle q) → IsNearBy w f near cycle (command_of line) → after ≤ before + cost w f d cycle line
unfolding cost
near_as_heard w f near d cycle line q before after e h k =
    subst (λ (x : Command). after ≤ before + command_cost w f d cycle x) e (h (subst (λ (x : Command). IsNearBy w f near cycle x) (sym e) k))

pub quits_as_heard : (w : Setting) (f : State) (cycle : ℕ) (line : List ℕ) (q : Command) (result : Bool) → q ≡ command_of line → result ≡ not (is_quit q) → result ≡ not (heard w f cycle line).quits
unfolding heard
quits_as_heard w f cycle line q result e is =
    is ∙ ap not (sym (quits_exactly w f cycle q)) ∙ ap (λ (x : Command). not (answer w f cycle x).quits) e
