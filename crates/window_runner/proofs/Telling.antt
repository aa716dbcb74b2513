-- Events that are told to a tape one after another.
use Rattle.window_runner.proofs.Shared.{Err, FailsAmong, List, Ok, OnErr, OnOk, Result, TakenBefore, Tells, [], ap, append-nil, append_assoc, arith, refl, subst, sym, ℕ, ◌++◌, ◌∙◌, ◌∷◌, ◌≡◌, ◌≤◌}
use Rattle.rp_ports.specs.Fault.{Rose}
use Rattle.trace_text.specs.declared.event.Event.{Event}
use Rattle.trace_text.proofs.Sending.{rose_later}

-- what each tape keeps: see the laws of the trait
abbrev pub TakesNone : {T : Type 0} → (T → List Event → T → Type 0) → Type 0
TakesNone {T} took = (tape : T) → took tape [] tape

abbrev pub TakesInTurn : {T : Type 0} → (T → List Event → T → Type 0) → Type 0
TakesInTurn {T} took = (a b c : T) (first second : List Event) → took a first b → took b second c → took a (first ++ second) c

-- nothing was taken yet
pub taken_nothing : {T : Type 0} (took : T → List Event → T → Type 0) (a : T) (f : ℕ) (events : List Event) → TakesNone took → TakenBefore took a a f f events events
taken_nothing took a f events none = record { part = []; taken = none a; count = omega arith; whole = refl }

-- some more were taken
pub taken_more : {T : Type 0} (took : T → List Event → T → Type 0) (a b c : T) (f g h : ℕ) (events piece rest : List Event) → TakesInTurn took
    → TakenBefore took a b f g events (piece ++ rest) → took b piece c → g ≤ h → TakenBefore took a c f h events rest
taken_more took a b c f g h events piece rest turn t more le = record {
  part = t.part ++ piece;
  taken = turn a b c t.part piece t.taken more;
  count = omega (arith, t.count, le);
  whole = t.whole ∙ sym (append_assoc t.part piece rest);
}

-- what is left are the same events, said in another way
pub taken_same : {T : Type 0} (took : T → List Event → T → Type 0) (a b : T) (f g : ℕ) (events rest other : List Event) → TakenBefore took a b f g events rest → rest ≡ other → TakenBefore took a b f g events other
taken_same took a b f g events rest other t e = record { part = t.part; taken = t.taken; count = t.count; whole = t.whole ∙ ap (λ r. t.part ++ r) e }

-- ---- a failure among more events

fails_behind : {T : Type 0} (took : T → List Event → T → Type 0) (missed : T → Event → T → Type 0) (a b c : T) (xs ys : List Event) → TakesInTurn took
    → took a xs b → FailsAmong took missed b c ys → FailsAmong took missed a c (xs ++ ys)
fails_behind took missed a b c xs ys turn t k = record {
  first = xs ++ k.first;
  event = k.event;
  others = k.others;
  between = k.between;
  in_order = ap (λ es. xs ++ es) k.in_order ∙ sym (append_assoc xs k.first (k.event ∷ k.others));
  taken = turn a b k.between xs k.first t k.taken;
  failed = k.failed;
}

fails_before : {T : Type 0} (took : T → List Event → T → Type 0) (missed : T → Event → T → Type 0) (a b : T) (xs ys : List Event)
    → FailsAmong took missed a b xs → FailsAmong took missed a b (xs ++ ys)
fails_before took missed a b xs ys k = record {
  first = k.first;
  event = k.event;
  others = k.others ++ ys;
  between = k.between;
  in_order = ap (λ es. es ++ ys) k.in_order ∙ append_assoc k.first (k.event ∷ k.others) ys;
  taken = k.taken;
  failed = k.failed;
}

-- ---- the answers

-- events that were told are the same events, said in another way
pub tells_same : {T A E : Type 0} (took : T → List Event → T → Type 0) (missed : T → Event → T → Type 0) (a b : T) (f g : ℕ) (events other : List Event) (r : Result A E) → events ≡ other
    → Tells took missed a b f g events r → Tells took missed a b f g other r
tells_same took missed a b f g events other r e t = subst (λ es. Tells took missed a b f g es r) e t

-- there was nothing to tell
pub tells_none : {T A E : Type 0} (took : T → List Event → T → Type 0) (missed : T → Event → T → Type 0) (a : T) (f : ℕ) (events : List Event) (x : A) → TakesNone took → events ≡ []
    → Tells {E = E} took missed a a f f events (Ok x)
tells_none took missed a f events x none e = record { ok = rw e (none a); err = tt; cause = tt; count = omega arith }

-- one event was told
one_missed : {T A E : Type 0} (took : T → List Event → T → Type 0) (missed : T → Event → T → Type 0) (a b : T) (event : Event) (r : Result A E) → TakesNone took
    → OnErr r (missed a event b) → OnErr r (FailsAmong took missed a b (event ∷ []))
one_missed took missed a b event (Ok x) none h = tt
one_missed took missed a b event (Err e) none h = record { first = []; event = event; others = []; between = a; in_order = refl; taken = none a; failed = h }

pub tells_one : {T A E : Type 0} (took : T → List Event → T → Type 0) (missed : T → Event → T → Type 0) (a b : T) (f g : ℕ) (event : Event) (events : List Event) (r : Result A E) → TakesNone took
    → event ∷ [] ≡ events → OnOk r (took a (event ∷ []) b) → OnErr r (missed a event b) → OnErr r (Rose f g) → f ≤ g
    → Tells took missed a b f g events r
tells_one took missed a b f g event events r none e ok err cause le = tells_same took missed a b f g (event ∷ []) events r e (record {
  ok = ok;
  err = one_missed took missed a b event r none err;
  cause = cause;
  count = le;
})

-- the last of them were told, or the tape failed there
pub taken_last : {T A E : Type 0} (took : T → List Event → T → Type 0) (missed : T → Event → T → Type 0) (a b c : T) (f g h : ℕ) (events rest : List Event) (r : Result A E) → TakesInTurn took
    → TakenBefore took a b f g events rest → Tells took missed b c g h rest r → Tells took missed a c f h events r
taken_last took missed a b c f g h events rest (Ok x) turn t last = record {
  ok = subst (λ es. took a es c) (sym t.whole) (turn a b c t.part rest t.taken last.ok);
  err = tt;
  cause = tt;
  count = omega (arith, t.count, last.count);
}
taken_last took missed a b c f g h events rest (Err e) turn t last = record {
  ok = tt;
  err = subst (FailsAmong took missed a c) (sym t.whole) (fails_behind took missed a b c t.part rest turn t.taken last.err);
  cause = rose_later f g h t.count last.cause;
  count = omega (arith, t.count, last.count);
}

-- the tape failed at the next of them
pub taken_part : {T A U E : Type 0} (took : T → List Event → T → Type 0) (missed : T → Event → T → Type 0) (a b c : T) (f g h : ℕ) (events piece rest : List Event) (e : E) → TakesInTurn took
    → TakenBefore took a b f g events (piece ++ rest) → Tells {A = A} took missed b c g h piece (Err e) → Tells {A = U} took missed a c f h events (Err e)
taken_part {T} {A} {U} {E} took missed a b c f g h events piece rest e turn t cut =
    let here : Tells {A = U} took missed b c g h (piece ++ rest) (Err e) =
    record { ok = tt; err = fails_before took missed b c piece rest cut.err; cause = cut.cause; count = cut.count } in
    taken_last took missed a b c f g h events (piece ++ rest) (Err e) turn t here

-- all were taken
pub taken_all : {T A E : Type 0} (took : T → List Event → T → Type 0) (missed : T → Event → T → Type 0) (a b : T) (f g : ℕ) (events rest : List Event) (x : A) → TakenBefore took a b f g events rest → rest ≡ []
    → Tells {E = E} took missed a b f g events (Ok x)
taken_all took missed a b f g events rest x t none = record {
  ok = subst (λ es. took a es b) (sym (t.whole ∙ ap (λ r. t.part ++ r) none ∙ append-nil t.part)) t.taken;
  err = tt;
  cause = tt;
  count = t.count;
}

-- the first events were told, and then the second
pub tells_then : {T U A E : Type 0} (took : T → List Event → T → Type 0) (missed : T → Event → T → Type 0) (a b c : T) (f g h : ℕ) (xs ys events : List Event) (first : U) (r : Result A E) → TakesInTurn took
    → xs ++ ys ≡ events → Tells {E = E} took missed a b f g xs (Ok first) → Tells took missed b c g h ys r → Tells took missed a c f h events r
tells_then took missed a b c f g h xs ys events first r turn e s t =
    taken_last took missed a b c f g h events ys r turn (record { part = xs; taken = s.ok; count = s.count; whole = sym e }) t

-- the tape failed among the first
pub tells_cut : {T U A E : Type 0} (took : T → List Event → T → Type 0) (missed : T → Event → T → Type 0) (a b : T) (f g : ℕ) (xs ys events : List Event) (e : E)
    → xs ++ ys ≡ events → Tells {A = U} took missed a b f g xs (Err e) → Tells {A = A} took missed a b f g events (Err e)
tells_cut took missed a b f g xs ys events e same t = record {
  ok = tt;
  err = subst (FailsAmong took missed a b) same (fails_before took missed a b xs ys t.err);
  cause = t.cause;
  count = t.count;
}
