-- What was packed at an index is taken from there.
use Rattle.std.proofs.Common.{◌≡◌, ℕ, zero, suc, ◌+◌, ◌*◌, ◌/◌, ◌%◌, ◌^◌, ◌≤◌, [], ◌∷◌, ap, sym, ◌∙◌, arith}
use Rattle.std.proofs.lemmas.Nat.{shr-shr}
use Rattle.dma_engine.specs.Pace.{packed_counts, CountsAreTakenAsPacked}

first : (count rest : ℕ) → count ≤ 63 → (count + rest * 2 ^ 6) % 2 ^ 6 ≡ count
first count rest h = omega arith

rest_of : (count rest : ℕ) → count ≤ 63 → (count + rest * 2 ^ 6) / 2 ^ 6 ≡ rest
rest_of count rest h = omega arith

later : (count rest k : ℕ) → count ≤ 63 → (count + rest * 2 ^ 6) / 2 ^ (6 * suc k) ≡ rest / 2 ^ (6 * k)
later count rest k h =
    let e : 6 * suc k ≡ 6 + 6 * k = omega arith in
    rw e (sym (shr-shr (count + rest * 2 ^ 6) 6 (6 * k)) ∙ ap (λ n. n / 2 ^ (6 * k)) (rest_of count rest h))

one_index : (n : ℕ) → n / 2 ^ (6 * 0) % 2 ^ 6 ≡ n % 2 ^ 6
one_index n = omega arith

pub taken_as_packed : CountsAreTakenAsPacked
taken_as_packed [] index fits h = absurd (omega arith)
taken_as_packed (count ∷ counts) zero fits h =
    one_index (count + packed_counts counts * 2 ^ 6) ∙ first count (packed_counts counts) (fits 0 h)
taken_as_packed (count ∷ counts) (suc k) fits h =
    let small : count ≤ 63 = fits 0 (omega arith) in
    ap (λ n. n % 2 ^ 6) (later count (packed_counts counts) k small)
    ∙ taken_as_packed counts k (λ index below. fits (suc index) (omega arith)) (omega arith)
