-- The law of encodings, for the segments of any pattern: the halfword in which operands stand is fitted by the pattern, and
-- has the operands in its runs.
use Rattle.std.proofs.Common.{◌≡◌, ℕ, ◌+◌, ◌*◌, ◌/◌, ◌%◌, ◌^◌, ◌<◌, Bool, true, false, not, List, [], ◌∷◌, refl, sym, ap, ap₂, subst, ◌∙◌, arith, mul_assoc, pow-add, mod-eq_of_lt, ltb-true}
use Rattle.std.specs.Prelude.{bit_and, nat_lt}
use Rattle.std.proofs.lemmas.Nat.{and_block, and_le_r, field_of, mul-add-lt, pow_pos, shr_high}
use native.Mathlib.Nat.{mul-add-mod_self_right}
use Rattle.rp_base.specs.Word.{bit_number}
use Rattle.m0_beats.specs.Patterns.{Halfword, Segment, Fixed, Operand, mask_of, operands_in, runs_of, value_of, width_of}
use Rattle.thumb_rows.specs.Rows.{is_left_out, test_of}
use Rattle.thumb_rows.proofs.Laws.{Fits}
use Rattle.thumb_rows.proofs.Apart.{and_both, and_left, and_right, eqb_of}
use Rattle.thumb_words.specs.Codes.{all_fit, can_hold, filled, placed}

-- what holds of a word in which operands stand by a pattern
pub record Holds (ps : List Segment) (xs : List ℕ) (w : ℕ) : Type 0 where
  pub small : w < 2 ^ width_of ps
  pub pattern : bit_and w (mask_of ps) ≡ value_of ps
  pub operands : operands_in (runs_of ps) w ≡ xs

lifted : (a k n : ℕ) → a * 2 ^ (k + n) ≡ a * 2 ^ k * 2 ^ n
lifted a k n = ap (λ t. a * t) (pow-add 2 k n) ∙ sym (mul_assoc a (2 ^ k) (2 ^ n))

above : (a count behind w : ℕ) → (a * 2 ^ (count + behind) + w) / 2 ^ behind % 2 ^ count ≡ w / 2 ^ behind % 2 ^ count
above a count behind w =
    sym (field_of (a * 2 ^ (count + behind) + w) count behind)
    ∙ ap (λ x. x / 2 ^ behind) (mul-add-mod_self_right a (2 ^ (count + behind)) w) ∙ field_of w count behind

-- what stands above a pattern is in none of its runs
below : (ps : List Segment) (a w : ℕ) → operands_in (runs_of ps) (a * 2 ^ width_of ps + w) ≡ operands_in (runs_of ps) w
below [] a w = refl
below (Fixed bit ∷ ps) a w = ap (λ t. operands_in (runs_of ps) (t + w)) (lifted a 1 (width_of ps)) ∙ below ps (a * 2) w
below (Operand count ∷ ps) a w =
    ap₂ (λ y ys. y ∷ ys) (above a count (width_of ps) w)
    (ap (λ t. operands_in (runs_of ps) (t + w)) (lifted a count (width_of ps)) ∙ below ps (a * 2 ^ count) w)

mask_small : (ps : List Segment) → mask_of ps < 2 ^ width_of ps
mask_small [] = omega arith
mask_small (Fixed bit ∷ ps) = omega (arith, mask_small ps, pow-add 2 1 (width_of ps))
mask_small (Operand count ∷ ps) =
    let less = mul-add-lt 0 (2 ^ width_of ps) (mask_of ps) (2 ^ count) (pow_pos count) (mask_small ps) in
    omega (arith, less, pow-add 2 count (width_of ps))

bit_small : (bit : Bool) → bit_number bit < 2
bit_small true = omega arith
bit_small false = omega arith

bit_same : (bit : Bool) → bit_and (bit_number bit) 1 ≡ bit_number bit
bit_same true = refl
bit_same false = refl

no_bit : (x : ℕ) → bit_and x 0 ≡ 0
no_bit x = let le = and_le_r x 0 in omega arith

-- so many bits in front of a word, with their mask and their value
in_front : (k n x w m mask b value : ℕ) → x < 2 ^ k → w < 2 ^ n → mask < 2 ^ n → bit_and x m ≡ b → bit_and w mask ≡ value
    → (x * 2 ^ n + w < 2 ^ (k + n)) × (bit_and (x * 2 ^ n + w) (m * 2 ^ n + mask) ≡ b * 2 ^ n + value)
in_front k n x w m mask b value x_small small below_n bits fits = (
  omega (arith, mul-add-lt x (2 ^ n) w (2 ^ k) x_small small, pow-add 2 k n),
  and_block n x m w mask small below_n ∙ ap₂ (λ s t. s * 2 ^ n + t) bits fits,
)

pub law : (ps : List Segment) (xs : List ℕ) (test : Bool) → all_fit (runs_of ps) xs test ≡ true
    → Holds ps xs (value_of ps + placed (runs_of ps) xs)
law [] [] test fit = record { small = omega arith; pattern = refl; operands = refl }
law [] (x ∷ xs) test fit = absurd cc
law (Fixed bit ∷ ps) xs test fit =
    let h = law ps xs test fit in
    let n : ℕ = width_of ps in
    let b : ℕ = bit_number bit in
    let rest : ℕ = value_of ps + placed (runs_of ps) xs in
    let whole : b * 2 ^ n + rest ≡ b * 2 ^ n + value_of ps + placed (runs_of ps) xs = omega arith in
    let front = in_front 1 n b rest 1 (mask_of ps) b (value_of ps) (bit_small bit) h.small (mask_small ps) (bit_same bit) h.pattern in
    subst (λ w. Holds (Fixed bit ∷ ps) xs w) whole
    (record { small = front.0; pattern = front.1; operands = below ps b rest ∙ h.operands })
law (Operand count ∷ ps) [] test fit = absurd cc
law (Operand count ∷ ps) (x ∷ xs) test fit =
    let h = law ps xs test (and_right (nat_lt x (2 ^ count)) _ fit) in
    let x_small : x < 2 ^ count = ltb-true x (2 ^ count) (and_left (nat_lt x (2 ^ count)) _ fit) in
    let n : ℕ = width_of ps in
    let rest : ℕ = value_of ps + placed (runs_of ps) xs in
    let whole : x * 2 ^ n + rest ≡ value_of ps + (x * 2 ^ n + placed (runs_of ps) xs) = omega arith in
    let front = in_front count n x rest 0 (mask_of ps) 0 (value_of ps) x_small h.small (mask_small ps) (no_bit x) h.pattern in
    let mask_is : mask_of ps ≡ 0 * 2 ^ n + mask_of ps = omega arith in
    let x_stands : (x * 2 ^ n + rest) / 2 ^ n % 2 ^ count ≡ x =
    ap (λ t. t % 2 ^ count) (shr_high x n rest h.small) ∙ mod-eq_of_lt x_small in
    subst (λ w. Holds (Operand count ∷ ps) (x ∷ xs) w) whole
    (record {
      small = front.0;
      pattern = ap (bit_and (x * 2 ^ n + rest)) mask_is ∙ front.1 ∙ omega arith;
      operands = ap₂ (λ y ys. y ∷ ys) x_stands (below ps x rest ∙ h.operands);
    })

passes : (runs : List (ℕ × ℕ)) (xs : List ℕ) (test : Bool) → all_fit runs xs test ≡ true → test ≡ true
passes [] [] test fit = fit
passes [] (x ∷ xs) test fit = absurd cc
passes (run ∷ runs) [] test fit = absurd cc
passes (run ∷ runs) (x ∷ xs) test fit = passes runs xs test (and_right (nat_lt x (2 ^ run.0)) _ fit)

-- what holds of a halfword whose operands fit
pub record Fitted (h : Halfword) : Type 0 where
  pub small : filled h < 2 ^ width_of h.pattern
  pub fits : Fits (test_of h) (filled h)
  pub operands : operands_in (runs_of h.pattern) (filled h) ≡ h.operands

pub fitted : (h : Halfword) → can_hold h ≡ true → Fitted h
fitted h can =
    let test : Bool = not (is_left_out (test_of h) (filled h)) in
    let holds = law h.pattern h.operands test can in
    record {
      small = holds.small;
      fits = record { fits = and_both _ _ (eqb_of _ _ holds.pattern) (passes (runs_of h.pattern) h.operands test can) };
      operands = holds.operands;
    }
