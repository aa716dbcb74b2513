-- Divisions: their results, and how long they take.
use Rattle.std.proofs.Common.{◌∙◌, ap, ◌≡◌, ℕ, zero, suc, ◌-◌, ◌/◌, ◌<◌, ◌≤◌, ◌⊎◌, inl, inr, Bool, true, false, ℤ, refl, arith}
use Rattle.std.specs.Prelude.{◌==◌, pos, negsuc, neg_ℤ, unsigned_abs, ◌*ℤ◌}
use Rattle.std.specs.Int.RustNames.{int_div, int_rem}
use Rattle.std.proofs.lemmas.Grind.{common_steps}
use Rattle.std.proofs.lemmas.Int.{quot-rem, rem_below, unsigned_abs-mul}
use Rattle.std.proofs.lemmas.Bool.Decides.{nat_tests}
use Rattle.std.proofs.Math.Nat.{div-mul-le_self}
use Rattle.sio_block.specs.declared.divider.Divider.{Divider}
use Rattle.sio_block.specs.Divider.{number_of, quotient_of, remainder_of, divider_ended}
use Rattle.sio_block.specs.Laws.{IsTruncated, ResultsAreTruncated, after_cycles, Reads, TakesEight, ADivisionTakesEightCycles}

-- ---- results

abs-neg : (n : ℕ) → unsigned_abs (neg_ℤ (pos n)) ≡ n
abs-neg zero = refl
abs-neg (suc n) = refl

abs-div : (a b : ℤ) → unsigned_abs (int_div a b) ≡ unsigned_abs a / unsigned_abs b
abs-div (pos a) (pos b) = refl
abs-div (pos a) (negsuc b) = abs-neg _
abs-div (negsuc a) (pos b) = abs-neg _
abs-div (negsuc a) (negsuc b) = refl

within : (a b : ℤ) → unsigned_abs (int_div a b *ℤ b) ≤ unsigned_abs a
within a b = rw (unsigned_abs-mul (int_div a b) b, abs-div a b) (div-mul-le_self (unsigned_abs a) (unsigned_abs b))

truncated : (a b : ℤ) → 0 < unsigned_abs b → IsTruncated a b (int_div a b) (int_rem a b)
truncated a b h = record { exact = quot-rem a b; below = rem_below a b h; within = within a b }

above_zero : (signed : Bool) (w : ℕ) → 0 < w → 0 < unsigned_abs (number_of signed w)
above_zero false w h = h
above_zero true w h = grind (arith, nat_tests, common_steps)

not_zero : (n : ℕ) → 0 < n → (n == 0) ≡ false
not_zero n h = grind (arith, nat_tests, common_steps)

pub results_are_truncated : ResultsAreTruncated
results_are_truncated = λ d h. (
  int_div (number_of d.signed d.dividend) (number_of d.signed d.divisor),
  int_rem (number_of d.signed d.dividend) (number_of d.signed d.divisor),
  rw (not_zero d.divisor h) refl,
  rw (not_zero d.divisor h) refl,
  truncated _ _ (above_zero d.signed d.divisor h),
)

-- ---- cycles

abbrev with_left : ℕ → Divider → Divider
with_left n d = record d { left = n }

abbrev with_results : Divider → Divider
with_results d = record d { quotient = quotient_of d; remainder = remainder_of d; left = 0 }

ended-idle : (d : Divider) → d.left ≡ 0 → divider_ended d ≡ d
ended-idle d e = rw e refl

ended-last : (d : Divider) → d.left ≡ 1 → divider_ended d ≡ with_results d
ended-last d e = rw e refl

ended-other : (d : Divider) → 1 < d.left → divider_ended d ≡ with_left (d.left - 1) d
ended-other d h =
    let e : (d.left == 0) ≡ false = grind (arith, nat_tests, common_steps) in
    let f : (d.left == 1) ≡ false = grind (arith, nat_tests, common_steps) in
    rw (e, f) refl

idle : (n : ℕ) (d : Divider) → d.left ≡ 0 → after_cycles n d ≡ d
idle zero d e = refl
idle (suc n) d e = ap (after_cycles n) (ended-idle d e) ∙ idle n d e

running : (n : ℕ) (d : Divider) → n < d.left → after_cycles n d ≡ with_left (d.left - n) d
running zero d h = ap (λ k. with_left k d) (omega arith)
running (suc n) d h =
    ap (after_cycles n) (ended-other d (omega arith)) ∙ running n (with_left (d.left - 1) d) (omega arith)
    ∙ ap (λ k. with_left k d) (omega arith)

one_or_more : (k : ℕ) → 0 < k → (k ≡ 1) ⊎ (1 < k)
one_or_more k h = grind arith

done : (n : ℕ) (d : Divider) → 0 < d.left → d.left ≤ n → after_cycles n d ≡ with_results d
done zero d h i = absurd (omega arith)
done (suc n) d h i =
    elim (one_or_more d.left h) [
      | inl e ↦ ap (after_cycles n) (ended-last d e) ∙ idle n (with_results d) refl
      | inr f ↦ ap (after_cycles n) (ended-other d f) ∙ done n (with_left (d.left - 1) d) (omega arith) (omega arith)
    ]

-- a division of eight cycles
takes_eight : (q r n : ℕ) (begun : Divider) → begun.left ≡ 8 → begun.dirty ≡ true → begun.quotient ≡ q → begun.remainder ≡ r →
    (n < 8 → Reads (after_cycles n begun) q r 2) × (8 ≤ n → Reads (after_cycles n begun) (quotient_of begun) (remainder_of begun) 3)
takes_eight q r n begun left dirty e f = (
  λ h.
      let busy : (begun.left - n == 0) ≡ false = grind (arith, nat_tests, common_steps) in
      rw (running n begun (omega arith)) (record { quotient = e; remainder = f; csr = rw (busy, dirty) refl }),
  λ h.
      rw (done n begun (omega arith) (omega arith)) (record { quotient = refl; remainder = refl; csr = rw dirty refl }),
)

eight : (d begun : Divider) (n : ℕ) → begun.left ≡ 8 → begun.dirty ≡ true → begun.quotient ≡ d.quotient →
    begun.remainder ≡ d.remainder → TakesEight d begun n
eight d begun n left dirty e f =
    let both = takes_eight d.quotient d.remainder n begun left dirty e f in record { before = both.0; after = both.1 }

test_cases : (n k : ℕ) → ((n == k) ≡ true) ⊎ ((n == k) ≡ false)
test_cases n k = elim (n == k) as (λ b. (b ≡ true) ⊎ (b ≡ false)) [ true ↦ inl refl | false ↦ inr refl ]

pub a_division_takes_eight_cycles : ADivisionTakesEightCycles
a_division_takes_eight_cycles = λ d offset w n h.
    elim (test_cases offset 0x060) [
      | inl e ↦ rw e (eight d _ n refl refl refl refl)
      | inr e ↦
          elim (test_cases offset 0x064) [
            | inl f ↦ rw (e, f) (eight d _ n refl refl refl refl)
            | inr f ↦
                elim (test_cases offset 0x068) [
                  | inl g ↦ rw (e, f, g) (eight d _ n refl refl refl refl)
                  | inr g ↦
                      let last : (offset == 0x06C) ≡ true = rw (e, f, g) at h in
                      rw (e, f, g, last) (eight d _ n refl refl refl refl)
                ]
          ]
    ]
