-- A number that is cut at each digit is the number cut at its end.
use Rattle.std.proofs.Common.{Bool, if◌then◌else◌, ◌≡◌, inl, inr, ◌≤◌, ◌<◌, ℕ, ◌+◌, ◌*◌, ◌^◌, min, true, drop, get_or, IfSome, List, [], ◌∷◌, length, Option, Some, None, refl, ap, ◌∙◌, arith, lit<}
use Rattle.std.proofs.Math.Nat.{le-mul_of_pos_right, mul-le-mul_right, pow-le-pow_left, pow-le-pow_right, pow-succ', pow-zero}
use Rattle.std.proofs.lemmas.Bool.{and_parts, cases_Bool, cases_lt, lt-ltb}
use Rattle.std.proofs.lemmas.Bool.Decides.{nat_tests}
use Rattle.std.proofs.lemmas.List.{drop_all, drop_more}
use Rattle.std.specs.Char.{digit_value, is_digit}
use Rattle.std.specs.List.{list_all}
use Rattle.std.specs.Option.{option_map}
use Rattle.source_text.specs.Numbers.{digits_value, value_in}

abbrev are_digits : ℕ → List ℕ → Bool
are_digits base cs = list_all (λ c. is_digit c base) cs

-- the number of digits behind those of another number, cut at the most
abbrev pub cut_after : ℕ → ℕ → ℕ → List ℕ → Option ℕ
cut_after base most v cs = if are_digits base cs then Some (min most (v * base ^ length cs + value_in base cs)) else None

pub from_front : (base most : ℕ) (cs : List ℕ) → option_map (min most) (digits_value base cs) ≡ cut_after base most 0 cs
from_front base most cs = elim (cases_Bool (are_digits base cs)) [
  | inl is ↦ rw is (ap (λ n. Some (min most n)) (grind arith))
  | inr not_so ↦ rw not_so refl
]

-- a number that is cut before more digits come
cut_before : (most v p w : ℕ) → 1 ≤ p → min most (v * p + w) ≡ min most (min v most * p + w)
cut_before most v p w positive = elim (cases_lt v most) [
  | inl h ↦ let same : min v most ≡ v = omega (arith, h) in rw same refl
  | inr h ↦
      let same : min v most ≡ most = omega (arith, h) in
      let more : v ≤ v * p = le-mul_of_pos_right v positive in
      let most_more : most ≤ most * p = le-mul_of_pos_right most positive in
      rw same (omega (arith, h, more, most_more))
]

one_more : (base v d p w : ℕ) → v * (base * p) + (d * p + w) ≡ (v * base + d) * p + w
one_more base v d p w = grind arith

positive_power : (base n : ℕ) → 1 ≤ base → 1 ≤ base ^ n
positive_power base n h = let power : base ^ 0 ≤ base ^ n = pow-le-pow_right {n = base} h (omega arith) in omega (arith, power, pow-zero base)

read_digit : (base most v d : ℕ) (cs : List ℕ) → 1 ≤ base → is_digit d base ≡ true
    → cut_after base most v (d ∷ cs) ≡ cut_after base most (min (v * base + digit_value d) most) cs
read_digit base most v d cs positive is =
    rw is (ap (λ n. if are_digits base cs then Some n else None) (
    ap (λ p. min most (v * p + (digit_value d * base ^ length cs + value_in base cs))) (pow-succ' base (length cs))
    ∙ ap (min most) (one_more base v (digit_value d) (base ^ length cs) (value_in base cs))
    ∙ cut_before most (v * base + digit_value d) (base ^ length cs) (value_in base cs) (positive_power base (length cs) positive)))

known_digit : (base c d : ℕ) → Some d ≡ (if is_digit c 16 then Some (digit_value c) else None) → d < base → (is_digit c base ≡ true) × (d ≡ digit_value c)
known_digit base c d h small = elim (cases_Bool (is_digit c 16)) [
  | inl is ↦ let same : Some d ≡ Some (digit_value c) = rw is at h in let value : d ≡ digit_value c = cc in (rw (← value) (lt-ltb d base small), value)
  | inr not_so ↦ absurd (let none : Some d ≡ None = rw not_so at h in cc)
]

-- one digit more is read
pub next_digit : (base most v d index : ℕ) (digits : List ℕ) → 1 ≤ base → index < length digits
    → Some d ≡ (if is_digit (get_or digits index 0) 16 then Some (digit_value (get_or digits index 0)) else None) → d < base
    → cut_after base most v (drop index digits) ≡ cut_after base most (min (v * base + d) most) (drop (index + 1) digits)
next_digit base most v d index digits positive h is small =
    let known = known_digit base (get_or digits index 0) d is small in
    ap (cut_after base most v) (drop_more digits index 0 h)
    ∙ rw known.1 (read_digit base most v (get_or digits index 0) (drop (index + 1) digits) positive known.0)

pub at_end : (base most v index : ℕ) (digits : List ℕ) → length digits ≤ index → v ≤ most → cut_after base most v (drop index digits) ≡ Some v
at_end base most v index digits h small = rw (drop_all index digits h) (ap Some (rw (pow-zero base) (omega (arith, small))))

-- so many digits stand for less than that power of the base
below : (base : ℕ) (cs : List ℕ) → are_digits base cs ≡ true → value_in base cs < base ^ length cs
below base [] is = rw (pow-zero base) (lit< tt)
below base (c ∷ cs) is =
    let parts = and_parts (is_digit c base) (are_digits base cs) is in
    let digit : digit_value c < base = grind (arith, nat_tests, parts.0) in
    let rest = below base cs parts.1 in
    let product : (digit_value c + 1) * base ^ length cs ≤ base * base ^ length cs = mul-le-mul_right (base ^ length cs) (omega (arith, digit)) in
    rw (pow-succ' base (length cs)) (grind (arith, rest, product))

pub digits_below : (base most : ℕ) (digits : List ℕ) → 1 ≤ base → length digits ≤ most → IfSome (digits_value base digits) (λ n. n < base ^ most)
digits_below base most digits positive few = elim (cases_Bool (are_digits base digits)) [
  | inl is ↦ let power : base ^ length digits ≤ base ^ most = pow-le-pow_right {n = base} positive few in rw is (omega (arith, below base digits is, power))
  | inr not_so ↦ rw not_so tt
]

-- a small number is not cut
uncut : (n most : ℕ) (value : Option ℕ) → n ≤ most → IfSome value (λ v. v < n) → option_map (min most) value ≡ value
uncut n most None large small = refl
uncut n most (Some v) large small = ap Some (omega (arith, large, small))

pub few_digits : (base : ℕ) (digits : List ℕ) → 1 ≤ base → base ≤ 16 → length digits ≤ 10
    → option_map (min 1099511627776) (digits_value base digits) ≡ digits_value base digits
few_digits base digits positive h few =
    uncut (base ^ 10) 1099511627776 (digits_value base digits) (pow-le-pow_left {n = base} {m = 16} h 10) (digits_below base 10 digits positive few)
