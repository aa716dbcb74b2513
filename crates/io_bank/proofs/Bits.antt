-- Numbers by their bits, and what holds of `bits_below`.
use Rattle.std.proofs.Common.{◌≡◌, ℕ, zero, suc, ◌+◌, ◌-◌, ◌*◌, ◌%◌, ◌^◌, ◌<◌, min, max, Bool, true, false, not, ◌&&◌, ◌||◌, eqb, refl, ap, sym, subst, ◌∙◌, cond, ◌⊎◌, inl, inr, arith, add-one, add_comm}
use Rattle.std.specs.Prelude.{bit_and, bit_or, bit_xor}
use Rattle.std.specs.Int.{bit_at}
use Rattle.std.proofs.lemmas.Bool.Decides.{nat_tests}
use Rattle.std.proofs.lemmas.Nat.{or_comm, or_shifted, one_shl}
use Rattle.std.proofs.Math.Nat.{pow-suc}
use Rattle.std.proofs.lemmas.Nat.Bits.{bit_at-lt, same_from_bits_below, bit_at_cat_low, bit_at_cat_high, bit_at_and, bit_at_or, bit_at_xor, bit_at_ones}
use Rattle.rp_base.specs.Word.{has_bit, bit_number}
use Rattle.io_bank.specs.Pins.{bits_below}

-- ---- the recursion

pub bits_below-none : (f : ℕ → Bool) → bits_below f 0 ≡ 0
unfolding bits_below
bits_below-none f = refl

bits_below-suc : (f : ℕ → Bool) (n : ℕ) → bits_below f (suc n) ≡ bits_below f n + bit_number (f n) * 2 ^ n
unfolding bits_below
bits_below-suc f n = refl

pub bits_below-more : (f : ℕ → Bool) (n : ℕ) → bits_below f (n + 1) ≡ bits_below f n + bit_number (f n) * 2 ^ n
bits_below-more f n = rw (add-one n) (bits_below-suc f n)

step-small : (a p : ℕ) (b : Bool) → a < p → a + bit_number b * p < 2 * p
step-small a p true h = omega arith
step-small a p false h = omega arith

bits_below-lt_suc : (f : ℕ → Bool) (n : ℕ) → bits_below f n < 2 ^ n → bits_below f (suc n) < 2 ^ suc n
bits_below-lt_suc f n h =
    let e : 2 ^ suc n ≡ 2 * 2 ^ n = omega (arith, pow-suc 2 n) in
    subst (λ q. bits_below f (suc n) < q) (sym e) (rw (bits_below-suc f n) (step-small (bits_below f n) (2 ^ n) (f n) h))

pub bits_below-lt : (f : ℕ → Bool) (n : ℕ) → bits_below f n < 2 ^ n
bits_below-lt f zero = rw (bits_below-none f) (omega arith)
bits_below-lt f (suc n) = bits_below-lt_suc f n (bits_below-lt f n)

-- a number with one more bit at its top
top_bit : (set bit : ℕ) → set < 2 ^ bit → bit_or set (2 ^ bit) ≡ set + 2 ^ bit
top_bit set bit h =
    or_comm set (2 ^ bit)
    ∙ subst (λ q. bit_or q set ≡ q + set) (omega arith) (or_shifted 1 bit set h)
    ∙ add_comm (2 ^ bit) set

pub with_top_bit : (set bit : ℕ) → set < 2 ^ bit → bit < 32 →
    bit_or set (1 * 2 ^ bit % 2 ^ 32) ≡ set + 1 * 2 ^ bit
with_top_bit set bit h lt =
    rw (one_shl bit 32 lt) (top_bit set bit h ∙ omega arith)

pub ruleset bits = (bits_below-none, bits_below-more, bits_below-lt)

-- ---- bits of what the operations give

pub same_bit : (a b : ℕ) → a < 2 → b < 2 → eqb a 1 ≡ eqb b 1 → a ≡ b
same_bit a b h i e = grind (arith, nat_tests)

and_bit : (a b : ℕ) → a < 2 → b < 2 → eqb (min a b) 1 ≡ (eqb a 1 && eqb b 1)
and_bit a b h i = grind (arith, nat_tests)

or_bit : (a b : ℕ) → a < 2 → b < 2 → eqb (max a b) 1 ≡ (eqb a 1 || eqb b 1)
or_bit a b h i = grind (arith, nat_tests)

-- one of two
abbrev pub differ : Bool → Bool → Bool
differ a b = cond a (not b) b

xor_bit : (a b : ℕ) → a < 2 → b < 2 → eqb ((a + b) % 2) 1 ≡ differ (eqb a 1) (eqb b 1)
xor_bit a b h i = grind (arith, nat_tests)

pub has_and : (a b i : ℕ) → has_bit (bit_and a b) i ≡ (has_bit a i && has_bit b i)
has_and a b i =
    ap (λ n. eqb n 1) (bit_at_and a b i) ∙ and_bit (bit_at a i) (bit_at b i) (bit_at-lt a i) (bit_at-lt b i)

pub has_or : (a b i : ℕ) → has_bit (bit_or a b) i ≡ (has_bit a i || has_bit b i)
has_or a b i =
    ap (λ n. eqb n 1) (bit_at_or a b i) ∙ or_bit (bit_at a i) (bit_at b i) (bit_at-lt a i) (bit_at-lt b i)

pub has_xor : (a b i : ℕ) → has_bit (bit_xor a b) i ≡ differ (has_bit a i) (has_bit b i)
has_xor a b i =
    ap (λ n. eqb n 1) (bit_at_xor a b i) ∙ xor_bit (bit_at a i) (bit_at b i) (bit_at-lt a i) (bit_at-lt b i)

pub has_ones : (k i : ℕ) → i < k → has_bit (2 ^ k - 1) i ≡ true
has_ones k i h = ap (λ n. eqb n 1) (bit_at_ones k i h)

-- ---- the bits of bits_below

bit_of_number : (b : Bool) → has_bit (bit_number b) 0 ≡ b
bit_of_number true = refl
bit_of_number false = refl

below_or_last : (i n : ℕ) → i < suc n → (i < n) ⊎ (i ≡ n)
below_or_last i n h = grind arith

cat_low : (a b n i : ℕ) → i < n → has_bit (a + b * 2 ^ n) i ≡ has_bit a i
cat_low a b n i h =
    ap (λ x. has_bit x i) (add_comm a (b * 2 ^ n)) ∙ ap (λ x. eqb x 1) (bit_at_cat_low b n a i h)

cat_high : (a n : ℕ) (b : Bool) → a < 2 ^ n → has_bit (a + bit_number b * 2 ^ n) n ≡ b
cat_high a n b h =
    let e : n - n ≡ 0 = omega arith in
    ap (λ x. has_bit x n) (add_comm a (bit_number b * 2 ^ n))
    ∙ ap (λ x. eqb x 1) (bit_at_cat_high (bit_number b) n a n h (omega arith))
    ∙ ap (λ k. has_bit (bit_number b) k) e ∙ bit_of_number b

pub bits_below-at : (f : ℕ → Bool) (n i : ℕ) → i < n → has_bit (bits_below f n) i ≡ f i
bits_below-at f zero i h = absurd (omega arith)
bits_below-at f (suc n) i h =
    rw (bits_below-suc f n)
    (elim (below_or_last i n h) [
      | inl low ↦ cat_low (bits_below f n) (bit_number (f n)) n i low ∙ bits_below-at f n i low
      | inr last ↦
          subst (λ k. has_bit (bits_below f n + bit_number (f n) * 2 ^ n) k ≡ f k) (sym last)
          (cat_high (bits_below f n) n (f n) (bits_below-lt f n))
    ])

-- a number that has these bits
pub bits_below-is : (f : ℕ → Bool) (n x : ℕ) → x < 2 ^ n → ((i : ℕ) → i < n → has_bit x i ≡ f i) → x ≡ bits_below f n
bits_below-is f n x h bit =
    same_from_bits_below n x (bits_below f n) h (bits_below-lt f n)
    (λ i lt. same_bit (bit_at x i) (bit_at (bits_below f n) i) (bit_at-lt x i) (bit_at-lt (bits_below f n) i)
    (bit i lt ∙ sym (bits_below-at f n i lt)))

pub bits_below-same : (f g : ℕ → Bool) (n : ℕ) → ((i : ℕ) → i < n → f i ≡ g i) → bits_below f n ≡ bits_below g n
bits_below-same f g n h =
    bits_below-is g n (bits_below f n) (bits_below-lt f n) (λ i lt. bits_below-at f n i lt ∙ h i lt)
