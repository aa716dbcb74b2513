-- An address in a ring fits.
use Rattle.std.proofs.Common.{◌≡◌, ℕ, ◌+◌, ◌-◌, ◌*◌, ◌/◌, ◌%◌, ◌^◌, ◌<◌, arith, subst, sym, ◌∙◌, ap}
use Rattle.std.proofs.lemmas.Nat.{mul-add-lt, shr_below, pow-add, mod_below, pow_pos}

pub ring_fits : (address n x : ℕ) → address < 2 ^ 32 → n < 16 → address / 2 ^ n * 2 ^ n + x % 2 ^ n < 2 ^ 32
ring_fits address n x fits low =
    let e : 32 - n + n ≡ 32 = omega arith in
    let high : address / 2 ^ n < 2 ^ (32 - n) = shr_below address (32 - n) n (subst (λ k. address < 2 ^ k) (sym e) fits) in
    let rest : x % 2 ^ n < 2 ^ n = mod_below x (2 ^ n) (pow_pos n) in
    let same : n + (32 - n) ≡ 32 = omega arith in
    let all : 2 ^ n * 2 ^ (32 - n) ≡ 2 ^ 32 = sym (pow-add 2 n (32 - n)) ∙ ap (λ k. 2 ^ k) same in
    subst (λ k. address / 2 ^ n * 2 ^ n + x % 2 ^ n < k) all
    (mul-add-lt (address / 2 ^ n) (2 ^ n) (x % 2 ^ n) (2 ^ (32 - n)) high rest)

pub ruleset ring_laws = (ring_fits)
