use Rattle.std.proofs.Common.{◌≡◌, ℕ, ◌+◌, ◌-◌, ◌*◌, ◌/◌, ◌%◌, ◌^◌, ◌<◌, ◌≤◌, suc, zero, arith, sym, ap, ◌∙◌}
use Rattle.std.proofs.lemmas.Nat.{pow-add, pow_pos}
use Rattle.std.proofs.Math.Nat.{mul-le-mul_left, div-lt_iff_lt-mul, div-add-mod, mod-lt}

-- c bits above w - c bits are w bits
powers : (w c : ℕ) → c ≤ w → 2 ^ c * 2 ^ (w - c) ≡ 2 ^ w
powers w c le = sym (pow-add 2 c (w - c)) ∙ ap (λ n. 2 ^ n) (let e : c + (w - c) ≡ w = omega arith in e)

product-lt : (a u v d n : ℕ) → a * u ≡ n → v < a → d < u → v * u + d < n
product-lt a u v d n e lt less = let le : v + 1 ≤ a = omega arith in omega (arith, mul-le-mul_left u le)

pub scaled-lt : (w c v d : ℕ) → c ≤ w → v < 2 ^ c → d < 2 ^ (w - c) → v * 2 ^ (w - c) + d < 2 ^ w
scaled-lt w c v d le lt less = product-lt (2 ^ c) (2 ^ (w - c)) v d (2 ^ w) (powers w c le) lt less

pub high-lt : (w c f : ℕ) → c ≤ w → f < 2 ^ w → f / 2 ^ (w - c) < 2 ^ c
high-lt w c f le lt = (div-lt_iff_lt-mul {x = f} {y = 2 ^ c} (pow_pos (w - c))).1 (let e = powers w c le in rw e lt)

pub low-lt : (w c f : ℕ) → f % 2 ^ (w - c) < 2 ^ (w - c)
low-lt w c f = mod-lt f (pow_pos (w - c))

pub joined : (w c f : ℕ) → f ≡ f / 2 ^ (w - c) * 2 ^ (w - c) + f % 2 ^ (w - c)
joined w c f = omega (arith, div-add-mod f (2 ^ (w - c)))

pub ruleset scaled_laws = (scaled-lt, high-lt, low-lt, joined)

pub power_le : (w : ℕ) → w ≤ 5 → 2 ^ w ≤ 32
power_le zero le = omega arith
power_le (suc zero) le = omega arith
power_le (suc (suc zero)) le = omega arith
power_le (suc (suc (suc zero))) le = omega arith
power_le (suc (suc (suc (suc zero)))) le = omega arith
power_le (suc (suc (suc (suc (suc zero))))) le = omega arith
power_le (suc (suc (suc (suc (suc (suc n)))))) le = absurd (omega arith)

-- five bits hold a scaled value
pub scaled_bounds : (w c v d u : ℕ) → w ≤ 5 → c ≤ w → v < 2 ^ c → d < u → u ≡ 2 ^ (w - c) → (v * u + d < 32) × (v * u + d < 2 ^ w)
scaled_bounds w c v d u five le lt less e =
    let smaller : d < 2 ^ (w - c) = omega (arith, e) in
    let bound : v * u + d < 2 ^ w = rw e (scaled-lt w c v d le lt smaller) in
    (omega (arith, power_le w five), bound)
