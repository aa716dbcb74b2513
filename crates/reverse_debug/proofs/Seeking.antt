-- Moves forward to the n-th time of what is watched.
use Rattle.reverse_debug.proofs.Shared.{Bool, GoesOn, List, Misses, Moves, None, NoneEnds, Path, Said, Seeks, Setting, Some, Standing, StandsFor, State, StaysFor, Why, ap, arith, at_or_last, at_reply, behind_next, behind_nth, cond, ends, ends_by, false, fewer, first_of, last_cycle, refl, said, seen, states, stop_text, subst, suc, sym, true, zero, ℕ, ◌+◌, ◌-◌, ◌<◌, ◌∙◌, ◌≡◌, ◌≤◌}
use Rattle.reverse_debug.specs.Command.{Watched}
use Rattle.reverse_debug.proofs.Paths.{joined}
use Rattle.reverse_debug.proofs.Ends.{ends_on, ends_later, sees_over}
use Rattle.reverse_debug.proofs.Moves.{arrived, last_at, moved_beyond, moved_to_end}
use Rattle.reverse_debug.proofs.Sessions.{now_in_last, now_low, stayed, goes_on}

fewer_of : (ended : Bool) (n : ℕ) → cond ended n (suc n) ≡ fewer ended (suc n)
fewer_of true n = omega arith
fewer_of false n = refl

behind_on : (w : Setting) (f : State) (watched : Watched) (left c : ℕ) (ended : Bool) → 0 < left → ends w f watched c ≡ ended → c < last_cycle w f →
    behind_next w f watched left c ≡ behind_next w f watched (fewer ended left) (c + 1)
unfolding behind_nth
behind_on w f watched zero c ended some is lt = absurd (omega arith)
behind_on w f watched (suc n) c ended some is lt =
    let e : last_cycle w f - c ≡ suc (last_cycle w f - (c + 1)) = omega arith in
    ap (behind_nth w f watched (suc n) c) e ∙ ap (λ b. behind_nth w f watched (cond b n (suc n)) (c + 1) (last_cycle w f - (c + 1))) is
    ∙ ap (λ m. behind_nth w f watched m (c + 1) (last_cycle w f - (c + 1))) (fewer_of ended n)

behind_over : (w : Setting) (f : State) (watched : Watched) (left c m : ℕ) → 0 < left → ((k : ℕ) → k < m → ends w f watched (c + k) ≡ false) → c + m ≤ last_cycle w f →
    behind_next w f watched left c ≡ behind_next w f watched left (c + m)
behind_over w f watched left c zero some none le = ap (behind_next w f watched left) (omega arith)
behind_over w f watched left c (suc m) some none le =
    behind_over w f watched left c m some (λ k lt. none k (omega arith)) (omega arith)
    ∙ behind_on w f watched left (c + m) false some (none m (omega arith)) (omega arith)
    ∙ ap (behind_next w f watched left) (omega arith)

behind_last : (w : Setting) (f : State) (watched : Watched) (left c : ℕ) → 0 < left → last_cycle w f ≡ c → behind_next w f watched left c ≡ None
unfolding behind_nth
behind_last w f watched zero c some e = absurd (omega arith)
behind_last w f watched (suc n) c some e =
    let none : last_cycle w f - c ≡ 0 = omega arith in
    ap (behind_nth w f watched (suc n) c) none

behind_none : (w : Setting) (f : State) (watched : Watched) (c more : ℕ) → behind_nth w f watched 0 c more ≡ Some c
unfolding behind_nth
behind_none w f watched c more = refl

-- ---- cycle by cycle

path_between : (w : Setting) (a b : Standing) → StandsFor w a → StaysFor w a b → a.now.cycle ≤ b.now.cycle → Path w a.now b.now
path_between w a b k stays le =
    let there : b.now ≡ states w (first_of b) b.now.cycle = stays.stands.now in
    let far : a.now.cycle + (b.now.cycle - a.now.cycle) ≡ b.now.cycle = omega arith in
    record {
      is =
          there ∙ ap (λ (x : State). states w x b.now.cycle) stays.first ∙ joined w (first_of a) a.now.cycle (b.now.cycle - a.now.cycle) b.now.cycle far
          ∙ ap (λ (x : State). states w x (b.now.cycle - a.now.cycle)) (sym k.now);
      forward = le;
    }

-- the last cycle of a stretch ends or not as what was seen before it and behind it says
ends_last : (w : Setting) (s t : State) (watched : Watched) (m : ℕ) (ended : Bool) → Path w s t → t.cycle ≡ s.cycle + (m + 1) → NoneEnds w watched s m
    → ends_by watched (seen watched s) (seen watched t) ≡ ended → ends w s watched m ≡ ended
ends_last w s t watched m ended p far none is =
    let there : states w s (m + 1) ≡ t = sym (p.is ∙ ap (states w s) (omega arith)) in
    ends_on w s t watched m p (omega arith) ∙ sym (sees_over w s t watched m p (omega arith) none (seen watched (states w s (m + 1))))
    ∙ ap (λ (x : State). ends_by watched (seen watched s) (seen watched x)) there ∙ is

-- a state on the way is one of the run, and lies below its end
on_run : (w : Setting) (old a : Standing) → StaysFor w old a → a.now ≡ states w (first_of old) a.now.cycle
on_run w old a stays = stays.stands.now ∙ ap (λ (f : State). states w f a.now.cycle) stays.first

low_run : (w : Setting) (old b : Standing) → StaysFor w old b → b.now.cycle ≤ last_cycle w (first_of old)
low_run w old b stays = subst (λ (f : State). b.now.cycle ≤ last_cycle w f) stays.first (now_in_last w (first_of b) b stays.stands)

seeking_far : (w : Setting) (old a b : Standing) (watched : Watched) (count left to : ℕ) (ended : Bool) (before now after : ℕ) → Seeks w watched count old a left before now → 0 < left →
    GoesOn w a to b None now after → a.now.cycle < b.now.cycle → NoneEnds w watched a.now (b.now.cycle - a.now.cycle - 1)
    → ends_by watched (seen watched a.now) (seen watched b.now) ≡ ended → Seeks w watched count old b (fewer ended left) before after
seeking_far w old a b watched n left to ended before now after k some go ahead none is =
    let goes = goes_on w old a b before now after k.goes go.goes in
    let m = b.now.cycle - a.now.cycle - 1 in
    let far : b.now.cycle ≡ a.now.cycle + (b.now.cycle - a.now.cycle - 1 + 1) = omega arith in
    let here = on_run w old a k.goes.stays in
    let last : b.now.cycle ≤ last_cycle w (first_of old) = low_run w old b goes.stays in
    let path = path_between w a b k.goes.stays.stands go.goes.stays (omega arith) in
    let end : ends w (first_of old) watched (a.now.cycle + m) ≡ ended =
    ends_later w (first_of old) a.now watched a.now.cycle m here ∙ ends_last w a.now b.now watched m ended path far none is in
    record {
      goes = goes;
      next =
          k.next ∙ behind_over w (first_of old) watched left a.now.cycle m some
          (λ i lt. ends_later w (first_of old) a.now watched a.now.cycle i here ∙ none i lt) (omega arith)
          ∙ behind_on w (first_of old) watched left (a.now.cycle + m) ended some end (omega arith)
          ∙ ap (behind_next w (first_of old) watched (fewer ended left)) (omega arith);
    }

-- v and u are what the parts of the session stand for, before and after the stretch
pub seeking_on : (w : Setting) (old a b v u : Standing) (watched : Watched) (count left to x y : ℕ) (ended : Bool) (before now after left' : ℕ) → Seeks w watched count old a left before now → 0 < left → v ≡ a →
    GoesOn w a to b None now after → a.now.cycle < b.now.cycle → NoneEnds w watched a.now (b.now.cycle - a.now.cycle - 1) → u ≡ b
    → x ≡ seen watched u.now → y ≡ seen watched v.now → ended ≡ ends_by watched y x → left' ≡ fewer ended left → Seeks w watched count old b left' before after
seeking_on w old a b v u watched n left to x y ended before now after left' k some va go ahead none ub ex ey is less =
    let ys : y ≡ seen watched a.now = ey ∙ ap (λ (s : Standing). seen watched s.now) va in
    let xs : x ≡ seen watched b.now = ex ∙ ap (λ (s : Standing). seen watched s.now) ub in
    subst (λ m. Seeks w watched n old b m before after) (sym less)
    (seeking_far w old a b watched n left to ended before now after k some go ahead none
    (ap (λ m. ends_by watched m (seen watched b.now)) (sym ys) ∙ ap (λ m. ends_by watched y m) (sym xs) ∙ sym is))

pub seeking_nearer : (w : Setting) (a b : Standing) (to before after : ℕ) → GoesOn w a to b None before after → a.now.cycle < b.now.cycle → w.limit - b.now.cycle < w.limit - a.now.cycle
seeking_nearer w a b to before after go ahead =
    let low : b.now.cycle ≤ w.limit = now_low w (first_of b) b go.goes.stays.stands in
    omega arith

pub seeking_stopped : (w : Setting) (old a b : Standing) (watched : Watched) (count left to : ℕ) (why : Why) (before now after : ℕ) → Seeks w watched count old a left before now → 0 < left →
    GoesOn w a to b (Some why) now after → NoneEnds w watched a.now (b.now.cycle - a.now.cycle) → Misses w watched count old b why before after
seeking_stopped w old a b watched n left to why before now after k some go none =
    let goes = goes_on w old a b before now after k.goes go.goes in
    let on : a.now.cycle ≤ b.now.cycle = go.goes.forward in
    let here = on_run w old a k.goes.stays in
    let last : b.now.cycle ≤ last_cycle w (first_of old) = low_run w old b goes.stays in
    record {
      left = left;
      some = some;
      seeks = record {
        goes = goes;
        next =
            k.next ∙ behind_over w (first_of old) watched left a.now.cycle (b.now.cycle - a.now.cycle) some
            (λ i lt. ends_later w (first_of old) a.now watched a.now.cycle i here ∙ none i lt) (omega arith)
            ∙ ap (behind_next w (first_of old) watched left) (omega arith);
      };
      stopped = go.stopped.0;
    }

-- ---- the reply

stands_there : (w : Setting) (old new : Standing) (watched : Watched) (count left : ℕ) (what : Said) (reply : List ℕ) (before after : ℕ) → StandsFor w old → Seeks w watched count old new left before after →
    what ≡ said new.now.cycle reply → Moves w old what new reply before after
stands_there w old new watched n left what reply before after stands k is =
    let from : old.now.cycle ≤ new.now.cycle = k.goes.forward in
    subst (λ (x : Said). Moves w old x new reply before after) (sym is) (arrived w old old new new.now.cycle reply before after (stayed w old new.now.cycle stands from) k.goes (omega arith) (λ _. refl))

pub moved_behind : (w : Setting) (old new : Standing) (watched : Watched) (count n : ℕ) (reply : List ℕ) (before after : ℕ) → StandsFor w old → Seeks w watched count old new 0 before after → n ≡ new.now.cycle → reply ≡ at_reply n →
    Moves w old (at_or_last w (first_of old) (behind_next w (first_of old) watched count old.now.cycle)) new reply before after
moved_behind w old new watched count n reply before after stands k en is =
    stands_there w old new watched count 0 _ reply before after stands k
    (ap (at_or_last w (first_of old)) (k.next ∙ behind_none w (first_of old) watched new.now.cycle (last_cycle w (first_of old) - new.now.cycle))
    ∙ ap (said new.now.cycle) (sym (is ∙ ap at_reply en)))

pub none_behind : (w : Setting) (old new : Standing) (watched : Watched) (count : ℕ) (why : Why) (reply : List ℕ) (before after : ℕ) → StandsFor w old → Misses w watched count old new why before after → reply ≡ stop_text why new.now.cycle →
    Moves w old (at_or_last w (first_of old) (behind_next w (first_of old) watched count old.now.cycle)) new reply before after
none_behind w old new watched count why reply before after stands k is =
    let last = last_at w old new why k.seeks.goes.stays k.stopped in
    let end : last_cycle w (first_of old) ≡ new.now.cycle = ap (λ (x : State). x.cycle) last in
    let none : behind_next w (first_of old) watched count old.now.cycle ≡ None = k.seeks.next ∙ behind_last w (first_of old) watched k.left new.now.cycle k.some end in
    stands_there w old new watched count k.left _ reply before after stands k.seeks
    (ap (at_or_last w (first_of old)) none ∙ sym (moved_to_end w (first_of old) (new.now.cycle + 1) (omega arith))
    ∙ moved_beyond w (first_of old) new.now why (new.now.cycle + 1) last k.stopped (omega arith) ∙ ap (said new.now.cycle) (sym is))
