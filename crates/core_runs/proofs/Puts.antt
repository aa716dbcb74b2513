-- Bytes that are put one before another.
use Rattle.std.proofs.Common.{◌≡◌, ℕ, zero, suc, ◌+◌, ◌≤◌, List, [], ◌∷◌, ◌++◌, length, take, drop, replicate, refl, sym, ap, ap₂, ◌∙◌, arith, append_assoc, length-append, length-take-le, take-append-drop, take-take}
use lib.Seq.{take-append-le}
use Rattle.core_runs.specs.Bytes.{put}
use Rattle.core_runs.proofs.Bytes.{put_from}

pub put_none : (m : List ℕ) (at : ℕ) → put m at [] ≡ m
put_none m at =
    let none : at + 0 ≡ at = omega arith in
    ap (λ k. take at m ++ drop k m) none ∙ take-append-drop at m

pub put_both : (m : List ℕ) (at : ℕ) (bytes more : List ℕ) → at + length bytes ≤ length m → put (put m (at + length bytes) more) at bytes ≡ put m at (bytes ++ more)
put_both m at bytes more le =
    let k = at + length bytes in
    let back = more ++ drop (k + length more) m in
    let front : take at (put m k more) ≡ take at m =
    take-append-le at (take k m) back (omega (arith, length-take-le k m le)) ∙ take-take at k m (omega arith) in
    let count : k + length more ≡ at + length (bytes ++ more) = omega (arith, length-append bytes more) in
    ap₂ (λ x y. x ++ (bytes ++ y)) front (put_from m k more le)
    ∙ ap (λ y. take at m ++ y) (sym (append_assoc bytes more (drop (k + length more) m)))
    ∙ ap (λ n. take at m ++ ((bytes ++ more) ++ drop n m)) count

pub replicate_more : (n v : ℕ) → replicate n v ++ v ∷ [] ≡ replicate (suc n) v
replicate_more zero v = refl
replicate_more (suc n) v = ap (λ xs. v ∷ xs) (replicate_more n v)

pub replicate_length : (n v : ℕ) → length (replicate n v) ≡ n
replicate_length zero v = refl
replicate_length (suc n) v = ap suc (replicate_length n v)
