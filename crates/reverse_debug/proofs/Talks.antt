-- Talks: lines one after another, and what was sent of their replies.
use Rattle.reverse_debug.proofs.Shared.{AnswersLines, Bool, Err, List, None, Ok, OnOk, Option, Replies, RepliesTo, Result, Sends, SinkFault, Some, Talk, [], ap, append_assoc, arith, cost_from, cycle_after, false, if◌then◌else◌, refl, sends_part, sends_then, subst, sym, text_from, true, until, ℕ, ◌++◌, ◌+◌, ◌∙◌, ◌∷◌, ◌≡◌}
use Rattle.std.proofs.lemmas.List.{append-nil}
use Rattle.reverse_debug.proofs.LineLists.{until_front}

-- ---- lines behind lines

text_both : (t : Talk) (cycle : ℕ) (xs ys : List (List ℕ)) → text_from t cycle (xs ++ ys) ≡ text_from t cycle xs ++ text_from t (cycle_after t cycle xs) ys
text_both t cycle [] ys = refl
text_both t cycle (x ∷ xs) ys = ap (λ r. t.reply cycle x ++ r) (text_both t (t.next cycle x) xs ys) ∙ sym (append_assoc (t.reply cycle x) (text_from t (t.next cycle x) xs) (text_from t (cycle_after t (t.next cycle x) xs) ys))

cycle_both : (t : Talk) (cycle : ℕ) (xs ys : List (List ℕ)) → cycle_after t cycle (xs ++ ys) ≡ cycle_after t (cycle_after t cycle xs) ys
cycle_both t cycle [] ys = refl
cycle_both t cycle (x ∷ xs) ys = cycle_both t (t.next cycle x) xs ys

cost_both : (t : Talk) (cycle : ℕ) (xs ys : List (List ℕ)) → cost_from t cycle (xs ++ ys) ≡ cost_from t cycle xs + cost_from t (cycle_after t cycle xs) ys
cost_both t cycle [] ys = omega arith
cost_both t cycle (x ∷ xs) ys = let e = cost_both t (t.next cycle x) xs ys in omega (arith, e)

-- ---- replies behind replies

pub nothing_sent : {T E : Type 0} {x : T} (a : Option (List ℕ)) (f : ℕ) → Sends {E = E} a a f f [] (Ok x)
nothing_sent None f = record { ok = refl; err = tt; cause = tt; steady = refl; count = omega arith }
nothing_sent (Some w) f = record { ok = ap Some (sym (append-nil w)); err = tt; cause = tt; steady = refl; count = omega arith }

pub tells_none : {T : Type 0} {x : T} (t : Talk) (cycle : ℕ) (a : Option (List ℕ)) (f p : ℕ) → AnswersLines t cycle [] a a f f p p cycle (Ok x)
tells_none t cycle a f p = record { sends = nothing_sent a f; stands = refl; forward = omega arith; most = omega arith }

pub tells_both : {T U : Type 0} {x : T} (t : Talk) (cycle : ℕ) (xs ys : List (List ℕ)) {a b c : Option (List ℕ)} {f g h p q r at at' : ℕ} (result : Result U SinkFault) → AnswersLines t cycle xs a b f g p q at (Ok x) → AnswersLines t at ys b c g h q r at' result → AnswersLines t cycle (xs ++ ys) a c f h p r at' result
tells_both {T} {U} {x} t cycle xs ys {a} {b} {c} {f} {g} {h} {p} {q} {r} {at} {at'} result first k =
    let here : at ≡ cycle_after t cycle xs = first.stands in
    record {
      sends = subst (λ text. Sends a c f h text result) (ap (λ n. text_from t cycle xs ++ text_from t n ys) here ∙ sym (text_both t cycle xs ys)) (sends_then result first.sends k.sends);
      stands = subst (λ n. OnOk result (at' ≡ n)) (ap (λ n. cycle_after t n ys) here ∙ sym (cycle_both t cycle xs ys)) k.stands;
      forward = omega (arith, first.forward, k.forward);
      most = omega (arith, first.most, k.most, cost_both t cycle xs ys, ap (λ n. cost_from t n ys) here);
    }

on_ok : {T E P : Type 0} (result : Result T E) → P → OnOk result P
on_ok (Ok x) h = h
on_ok (Err e) h = tt

pub tells_line : (t : Talk) (at : ℕ) (line : List ℕ) {a b : Option (List ℕ)} {f g p q at' : ℕ} (result : Result Bool SinkFault) → RepliesTo t at line a b f g p q at' result → AnswersLines t at (until t.last (line ∷ [])) a b f g p q at' result
tells_line t at line {a} {b} {f} {g} {p} {q} {at'} result h =
    elim (t.last line) as (λ last. Replies last (t.reply at line) at (t.next at line) (t.cost at line) a b f g p q at' result → AnswersLines t at (if last then [] else line ∷ []) a b f g p q at' result) [
      | true ↦ λ k. record { sends = k.sends; stands = on_ok result k.stands; forward = k.forward; most = k.most }
      | false ↦ λ k. record { sends = rw append-nil k.sends; stands = on_ok result k.stands; forward = k.forward; most = omega (arith, k.most) }
    ] h

pub tells_so : {T U : Type 0} {x : T} {y : U} (t : Talk) (cycle : ℕ) (xs : List (List ℕ)) {a b : Option (List ℕ)} {f g p q at : ℕ} → AnswersLines t cycle xs a b f g p q at (Ok x) → AnswersLines t cycle xs a b f g p q at (Ok y)
tells_so t cycle xs h = record { sends = record { ok = h.sends.ok; err = tt; cause = tt; steady = h.sends.steady; count = h.sends.count }; stands = h.stands; forward = h.forward; most = h.most }

-- where the sink failed there may have been more lines
pub cut_more : {T U : Type 0} (t : Talk) (cycle : ℕ) (xs ys : List (List ℕ)) {a b : Option (List ℕ)} {f g p q at : ℕ} {e : SinkFault} → AnswersLines {T = T} t cycle (until t.last xs) a b f g p q at (Err e) → AnswersLines {T = U} t cycle (until t.last (xs ++ ys)) a b f g p q at (Err e)
cut_more {T} {U} t cycle xs ys {a} {b} {f} {g} {p} {q} {at} {e} h =
    let front = until t.last xs in
    let more = until_front t.last xs ys in
    subst (λ l. AnswersLines {T = U} t cycle l a b f g p q at (Err e)) (sym more.1) (record {
      sends = rw (text_both t cycle front more.0) (sends_part (text_from t (cycle_after t cycle front) more.0) h.sends);
      stands = tt;
      forward = h.forward;
      most = omega (arith, h.most, cost_both t cycle front more.0);
    })
