-- What the answers of tests and of readings say.
use Rattle.std.proofs.Common.{◌≡◌, ◌==◌, ◌&&◌, ◌||◌, not, ℕ, Bool, true, false, Result, Ok, Err, inl, inr, refl, sym, ap, subst}
use Rattle.std.proofs.lemmas.Bool.Decides.{eqb_tells}

pub both : (a b : Bool) → (a && b) ≡ true → (a ≡ true) × (b ≡ true)
both true b h = (refl, h)
both false b h = cc

pub neither : (a b : Bool) → (a || b) ≡ false → (a ≡ false) × (b ≡ false)
neither true b h = cc
neither false b h = (refl, h)

pub first_of : (a b : Bool) → b ≡ false → (a || b) ≡ true → a ≡ true
first_of true b h k = refl
first_of false b h k = cc

pub not_true : (b : Bool) → not b ≡ true → b ≡ false
not_true true h = cc
not_true false h = refl

-- a character is this one, or another
pub is_or : (P : ℕ → Type 0) (c k : ℕ) → P k → ((c == k) ≡ false → P c) → P c
is_or P c k here other = elim (eqb_tells c k) [
  | inl e ↦ subst P (sym e.1) here
  | inr e ↦ other e.0
]

-- characters that a test tells apart
pub apart : (test : ℕ → Bool) (c k : ℕ) → test c ≡ true → test k ≡ false → (c == k) ≡ false
apart test c k h unlike = elim (eqb_tells c k) [
  | inl e ↦ let same = ap test e.1 in absurd cc
  | inr e ↦ e.0
]

-- results that are one hold one value, one fault, or neither
pub ok_is : {X E : Type 0} {x y : X} → Path (Result X E) (Ok x) (Ok y) → x ≡ y
ok_is q = cc

pub err_is : {X E : Type 0} {e f : E} → Path (Result X E) (Err e) (Err f) → e ≡ f
err_is q = cc

pub refused : {X E : Type 0} {e : E} {x : X} → Path (Result X E) (Err e) (Ok x) → ⊥
refused q = cc

pub same_value : {X T E : Type 0} {x y : X} {rest left : T} → Path (Result (X × T) E) (Ok (x, rest)) (Ok (y, left)) → x ≡ y
same_value {X = X} {T = T} q = ap (λ (p : X × T). p.0) (ok_is q)

pub same_left : {X T E : Type 0} {x y : X} {rest left : T} → Path (Result (X × T) E) (Ok (x, rest)) (Ok (y, left)) → rest ≡ left
same_left {X = X} {T = T} q = ap (λ (p : X × T). p.1) (ok_is q)
