-- Lists: what stands at an index, and before it.
use Rattle.std.proofs.Common.{◌≡◌, ℕ, zero, suc, ◌<◌, List, [], ◌∷◌, ◌++◌, length, take, Some, refl, ap, arith}
use Rattle.std.specs.List.{slice_get}

-- the entries before the next index
pub take_more : {A : Type 0} (xs : List A) (k : ℕ) (x : A) → slice_get xs k ≡ Some x → take (suc k) xs ≡ take k xs ++ x ∷ []
take_more [] k x e = absurd (cc e)
take_more (y ∷ xs) zero x e = cc e
take_more {A} (y ∷ xs) (suc k) x e = ap (λ (l : List A). y ∷ l) (take_more xs k x e)

pub get-append : {A : Type 0} (xs ys : List A) (k : ℕ) → k < length xs → slice_get (xs ++ ys) k ≡ slice_get xs k
get-append [] ys k lt = absurd (omega (arith, lt))
get-append (x ∷ xs) ys zero lt = refl
get-append (x ∷ xs) ys (suc k) lt = get-append xs ys k (omega (arith, lt))

pub get-seam : {A : Type 0} (xs : List A) (y : A) (ys : List A) → slice_get (xs ++ y ∷ ys) (length xs) ≡ Some y
get-seam [] y ys = refl
get-seam (x ∷ xs) y ys = get-seam xs y ys

pub get-take : {A : Type 0} (xs : List A) (k n : ℕ) → k < n → slice_get (take n xs) k ≡ slice_get xs k
get-take xs k zero lt = absurd (omega (arith, lt))
get-take [] k (suc n) lt = refl
get-take (x ∷ xs) zero (suc n) lt = refl
get-take (x ∷ xs) (suc k) (suc n) lt = get-take xs k n (omega (arith, lt))
