-- Pieces written or taken one after another.
use Rattle.std.proofs.Common.{◌≡◌, ℕ, ◌+◌, List, ◌++◌, take, drop, Option, Some, None, sym, ap, append_assoc, ◌∙◌}
use Rattle.std.proofs.Math.Seq.{take-add}
use Rattle.std.proofs.lemmas.List.{drop-drop, take-append-drop}
use Rattle.rp_ports.specs.Sink.{Appends}
use Rattle.rp_ports.specs.Source.{Consumes}

-- two pieces written in a row are one piece
pub appends_both : (a b c : Option (List ℕ)) (xs ys : List ℕ) → Appends a b xs → Appends b c ys → Appends a c (xs ++ ys)
appends_both None b c xs ys h k = rw h at k
appends_both (Some w) b c xs ys h k = (rw h at k) ∙ ap Some (append_assoc w xs ys)

-- a piece that goes on where the one before it ended
pub appends_on : (a b c : Option (List ℕ)) (bytes : List ℕ) (n m : ℕ) → Appends a b (take n bytes) → Appends b c (take m (drop n bytes)) → Appends a c (take (n + m) bytes)
appends_on a b c bytes n m h k = rw (take-add n m bytes) (appends_both a b c (take n bytes) (take m (drop n bytes)) h k)

-- the next n bytes are no longer left
pub gives_next : (all piece : List ℕ) (at n : ℕ) → take n piece ≡ take n (drop at all) → Consumes (Some (drop at all)) (Some (drop (at + n) all)) (take n piece)
gives_next all piece at n is = ap Some (sym (take-append-drop n (drop at all)) ∙ ap (λ x. x ++ drop n (drop at all)) (sym is) ∙ ap (λ x. take n piece ++ x) (drop-drop n at all))
