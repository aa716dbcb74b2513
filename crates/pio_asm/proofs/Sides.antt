use Rattle.std.proofs.Common.{◌≡◌, ◌==◌, ◌&&◌, ◌||◌, not, ℕ, ◌+◌, ◌-◌, ◌^◌, ◌<◌, ◌≤◌, Bool, true, false, None, Some, MatchBool, cond, subst, arith, inl, inr}
use Rattle.pio_asm.proofs.Shared.{eqb_tells, SideConfig, bit, FitsOptionalSide, FitsPlainSide, FitsSide, IsConfig, delay_bits, greatest, side_value_of}
use Rattle.std.proofs.lemmas.Nat.{pow_pos}

below : (b n : ℕ) → n ≤ greatest b → n < 2 ^ b
below b n le = omega (arith, pow_pos b)

optional_bits : (n d : ℕ) → d < 2 ^ (5 - (n + 1)) → d < 2 ^ (4 - n)
optional_bits n d h = let e : 5 - (n + 1) ≡ 4 - n = omega arith in rw (← e) h

plain_bits : (n d : ℕ) → d < 2 ^ (5 - (n + 0)) → d < 2 ^ (5 - n)
plain_bits n d h = let e : 5 - (n + 0) ≡ 5 - n = omega arith in rw (← e) h

no_bits : (n d : ℕ) → n ≡ 0 → d < 2 ^ (5 - (n + 0)) → d < 32
no_bits n d z h = let e : 5 - (n + 0) ≡ 5 = omega arith in let P : ℕ → Type 0 = λ k. d < 2 ^ k in subst P e h

fits_at : (opt given : Bool) (n v d : ℕ) → n + bit opt ≤ 5 → v < 2 ^ n → d < 2 ^ (5 - (n + bit opt)) → (given || opt || n == 0) ≡ true → MatchBool opt (FitsOptionalSide n (cond (given && (opt || not (n == 0))) (Some v) None) d) (FitsPlainSide n (cond (given && (opt || not (n == 0))) (Some v) None) d)
fits_at true true n v d le vs ds h = (omega arith, optional_bits n d ds, vs)
fits_at true false n v d le vs ds h = (omega arith, optional_bits n d ds)
fits_at false true n v d le vs ds h = elim (eqb_tells n 0) [
  | inl e ↦ rw e.0 (e.1, no_bits n d e.1 ds)
  | inr e ↦ let ne = e.1 in let pos : 0 < n = omega (arith, ne) in rw e.0 (pos, omega arith, plain_bits n d ds, vs)
]
fits_at false false n v d le vs ds h = elim (eqb_tells n 0) [
  | inl e ↦ (e.1, no_bits n d e.1 ds)
  | inr e ↦ absurd (let f : (n == 0) ≡ false = e.0 in let g : (n == 0) ≡ true = h in cc)
]

-- a side-set value and a delay that fit their bits fit the word
pub side_fits : (config : SideConfig) (given : Bool) (value delay : ℕ) → IsConfig config → value ≤ greatest config.count → delay ≤ greatest (delay_bits config) → (given || config.opt || config.count == 0) ≡ true → FitsSide config (side_value_of config given value) delay
side_fits config given value delay le vs ds h = fits_at config.opt given config.count value delay le (below config.count value vs) (below (delay_bits config) delay ds) h
