-- Texts sent one after another.
use Rattle.std.proofs.Common.{◌≡◌, ℕ, ◌+◌, ◌-◌, ◌<◌, ◌≤◌, List, ◌++◌, length, take, drop, Option, Result, Ok, Err, IsErrAnd, arith, length-append, ap, sym, subst, ◌∙◌}
use Rattle.std.proofs.Math.Seq.{take-append-add, take-add}
use Rattle.std.proofs.lemmas.List.{take-append-le, take-append-drop}
use Rattle.rp_ports.specs.Fault.{Rose}
use Rattle.rp_ports.specs.Sink.{Appends}
use Rattle.rp_ports.proofs.Pieces.{appends_both, appends_on}
use Rattle.trace_text.specs.Sent.{AppendsPart, Sends}

-- a part of a text is a part of a longer one
pub part_of_longer : (a b : Option (List ℕ)) (xs ys : List ℕ) → AppendsPart a b xs → AppendsPart a b (xs ++ ys)
part_of_longer a b xs ys h =
    let le : h.0 ≤ length xs = h.1 in
    (h.0, omega (arith, length-append xs ys, h.1), rw take-append-le h.2)

-- a part of the second text, behind the first
pub part_behind : (a b c : Option (List ℕ)) (xs ys : List ℕ) → Appends a b xs → AppendsPart b c ys → AppendsPart a c (xs ++ ys)
part_behind a b c xs ys h k =
    (length xs + k.0, omega (arith, length-append xs ys, k.1), rw (take-append-add xs ys k.0) (appends_both a b c xs (take k.0 ys) h k.2))

pub rose_later : (a b c : ℕ) → a ≤ b → Rose b c → Rose a c
rose_later a b c h k = omega (arith, h, k)

-- the first text was sent, and then the second as it was
pub sends_then : {T E U : Type 0} {a b c : Option (List ℕ)} {f g h : ℕ} {xs ys : List ℕ} {x : U} (r : Result T E) → Sends {E = E} a b f g xs (Ok x) → Sends b c g h ys r → Sends a c f h (xs ++ ys) r
sends_then (Ok y) first s = record { ok = appends_both _ _ _ _ _ first.ok s.ok; err = tt; cause = tt; steady = s.steady ∙ first.steady; count = omega (arith, first.count, s.count) }
sends_then {T} {E} {U} {a} {b} {c} {f} {g} {h} (Err e) first s = record {
  ok = tt;
  err = part_behind _ _ _ _ _ first.ok s.err;
  cause = subst (λ n. Rose n h) first.steady s.cause;
  steady = tt;
  count = omega (arith, first.count, s.count);
}

-- the first text was sent in part
pub sends_part : {T U E : Type 0} {a b : Option (List ℕ)} {f g : ℕ} {xs : List ℕ} (ys : List ℕ) {e : E} → Sends {T = T} a b f g xs (Err e) → Sends {T = U} a b f g (xs ++ ys) (Err e)
sends_part ys s = record { ok = tt; err = part_of_longer _ _ _ ys s.err; cause = s.cause; steady = tt; count = s.count }

-- the fault is handed on
pub sends_cut : {T U E : Type 0} {a b : Option (List ℕ)} {f g : ℕ} {xs : List ℕ} {e : E} (r : Result U E) → IsErrAnd r (λ x. x ≡ e) → Sends {T = T} a b f g xs (Err e) → Sends a b f g xs r
sends_cut (Ok y) is s = absurd is
sends_cut (Err x) is s = record { ok = tt; err = s.err; cause = s.cause; steady = tt; count = s.count }

-- the first bytes of a text were sent, and no put failed
pub record SentTo (old new : Option (List ℕ)) (before now : ℕ) (text : List ℕ) (done : ℕ) : Type 0 where
  pub within : done ≤ length text
  pub appended : Appends old new (take done text)
  pub steady : now ≡ before

-- one more piece, up to an index e
pub sent_on : (a b c : Option (List ℕ)) (f g h : ℕ) (text : List ℕ) (d e : ℕ) → SentTo a b f g text d → d < e → e ≤ length text → Appends b c (take (e - d) (drop d text)) → h ≡ g → SentTo a c f h text e
sent_on a b c f g h text d e so_far lt le piece same =
    let there : d + (e - d) ≡ e = omega arith in
    let sent : Appends a c (take (d + (e - d)) text) = appends_on a b c text d (e - d) so_far.appended piece in
    record { within = le; appended = subst (λ n. Appends a c (take n text)) there sent; steady = same ∙ so_far.steady }

-- one more piece was sent in part
pub sent_part : {T E : Type 0} (a b c : Option (List ℕ)) (f g h : ℕ) (text : List ℕ) (d e : ℕ) (x : E) → SentTo a b f g text d → d < e → e ≤ length text → Sends {T = T} b c g h (take (e - d) (drop d text)) (Err x) → Sends {T = T} a c f h text (Err x)
sent_part a b c f g h text d e x so_far lt le piece =
    let there : d + (e - d) ≡ e = omega arith in
    let whole : take d text ++ take (e - d) (drop d text) ≡ take e text = sym (take-add d (e - d) text) ∙ ap (λ n. take n text) there in
    let part : AppendsPart a c (take e text) = subst (λ t. AppendsPart a c t) whole (part_behind a b c (take d text) (take (e - d) (drop d text)) so_far.appended piece.err) in
    record {
      ok = tt;
      err = subst (λ t. AppendsPart a c t) (take-append-drop e text) (part_of_longer a c (take e text) (drop e text) part);
      cause = subst (λ n. Rose n h) so_far.steady piece.cause;
      steady = tt;
      count = omega (arith, so_far.steady, piece.count);
    }
