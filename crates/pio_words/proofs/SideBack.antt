use Rattle.std.proofs.Common.{◌≡◌, ℕ, ◌+◌, ◌-◌, ◌*◌, ◌/◌, ◌%◌, ◌^◌, ◌<◌, ◌≤◌, Option, None, Some, Bool, true, false, arith, refl, cond, ap}
use Rattle.std.specs.Prelude.{MatchBool, nat_le, nat_lt, ◌==◌}
use Rattle.std.proofs.lemmas.Bool.Decides.{nat_tests}
use Rattle.std.proofs.lemmas.Nat.{div-mul-add, mod-mul-add}
use Rattle.std.proofs.Math.Pow.{pow_mono}
use Rattle.std.proofs.lemmas.Bool.{le-leb, lt-ltb}
use Rattle.pio_words.specs.declared.side.SideConfig.{SideConfig}
use Rattle.pio_words.specs.Side.{IsSideField, IsOptionalSide, IsPlainSide, optional_side_at, plain_side_at, side_at, scaled_side}
use Rattle.pio_words.specs.Word.{SideDecodesBack}

small_unit : (n : ℕ) → 2 ^ (4 - n) ≤ 16
small_unit n = let le : 4 - n ≤ 4 = omega arith in let h : 2 ^ (4 - n) ≤ 2 ^ 4 = pow_mono le in h

scaled-back : (n w v d f : ℕ) → d < 2 ^ (w - n) → f ≡ v * 2 ^ (w - n) + d → scaled_side f n w ≡ record { value = Some v; delay = d }
scaled-back n w v d f less e =
    let high : f / 2 ^ (w - n) ≡ v = rw e (div-mul-add v (2 ^ (w - n)) d less) in
    let low : f % 2 ^ (w - n) ≡ d = rw e (mod-mul-add v (2 ^ (w - n)) d less) in
    rw (high, low) refl

optional-none : (n d f : ℕ) → n ≤ 4 → d < 2 ^ (4 - n) → f ≡ d → optional_side_at n f ≡ Some (record { value = None; delay = d })
optional-none n d f le less e =
    let small : f < 16 = omega (arith, small_unit n) in
    let unit : f < 2 ^ (4 - n) = rw e less in
    let count : nat_le n 4 ≡ true = le-leb n 4 le in
    let enable : nat_le 16 f ≡ false = grind (arith, nat_tests) in
    let fits : nat_lt f (2 ^ (4 - n)) ≡ true = lt-ltb f (2 ^ (4 - n)) unit in
    rw (count, enable, fits) (ap (λ x. Some (record { value = None; delay = x })) e)

optional-some : (n v d f : ℕ) → n ≤ 4 → d < 2 ^ (4 - n) → f ≡ 16 + v * 2 ^ (4 - n) + d → optional_side_at n f ≡ Some (record { value = Some v; delay = d })
optional-some n v d f le less e =
    let count : nat_le n 4 ≡ true = le-leb n 4 le in
    let large : 16 ≤ f = omega arith in
    let enable : nat_le 16 f ≡ true = le-leb 16 f large in
    let rest : f - 16 ≡ v * 2 ^ (4 - n) + d = omega arith in
    rw (count, enable) (ap (λ s. Some s) (scaled-back n 4 v d (f - 16) less rest))

plain-none : (n d f : ℕ) → n ≡ 0 → f ≡ d → plain_side_at n f ≡ Some (record { value = None; delay = d })
plain-none n d f z e = rw z (ap (λ x. Some (record { value = None; delay = x })) e)

plain-some : (n v d f : ℕ) → 0 < n → n ≤ 5 → d < 2 ^ (5 - n) → f ≡ v * 2 ^ (5 - n) + d → plain_side_at n f ≡ Some (record { value = Some v; delay = d })
plain-some n v d f pos le less e =
    let count : nat_le n 5 ≡ true = le-leb n 5 le in
    let some : (n == 0) ≡ false = grind (arith, nat_tests) in
    rw (count, some) (ap (λ s. Some s) (scaled-back n 5 v d f less e))

side-back_at : (opt : Bool) (n : ℕ) (v : Option ℕ) (d f : ℕ) → MatchBool opt (IsOptionalSide n v d f) (IsPlainSide n v d f) → cond opt (optional_side_at n f) (plain_side_at n f) ≡ Some (record { value = v; delay = d })
side-back_at true n None d f h = optional-none n d f h.0 h.1 h.2
side-back_at true n (Some v) d f h = optional-some n v d f h.0 h.1 h.3
side-back_at false n None d f h = plain-none n d f h.0 h.2
side-back_at false n (Some v) d f h = plain-some n v d f h.0 h.1 h.2 h.4

pub side-back : (side : SideConfig) (v : Option ℕ) (d f : ℕ) → IsSideField side v d f → side_at side f ≡ Some (record { value = v; delay = d })
side-back side v d f h = side-back_at side.opt side.count v d f h

pub word-side-back : SideDecodesBack
word-side-back op side value delay word h = side-back side value delay (word / 256 % 32) h.has_side
