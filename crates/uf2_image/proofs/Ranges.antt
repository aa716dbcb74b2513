-- Tests of the addresses of a block, which is a row of bytes from its target on.
use Rattle.std.proofs.Common.{◌≡◌, ◌<◌, ℕ, suc, ◌+◌, Bool, false, not, ◌&&◌, ◌||◌, List, [], ◌∷◌, length, ap, ◌∙◌, arith, ltb, leb}
use Rattle.std.proofs.lemmas.Bool.Decides.{nat_tests}
use Rattle.std.proofs.lemmas.List.{length-take, length-drop}
use Rattle.std.specs.List.{enumerate_from, list_any}
use Rattle.uf2_image.specs.Uf2.{any_address, is_flash, is_sram, payload_of, size_of, target_of}
use Rattle.uf2_image.specs.Reading.{HasPayload}

between : ℕ → ℕ → ℕ → Bool
between low high a = leb low a && ltb a high

meets_one : (low high t : ℕ) → low < high → ((leb low t && ltb t high) || false) ≡ (ltb t high && ltb low (t + 1))
meets_one low high t h = grind (arith, nat_tests)

meets_step : (low high t n : ℕ) → low < high → 0 < n → ((leb low t && ltb t high) || (ltb (t + 1) high && ltb low (t + 1 + n))) ≡ (ltb t high && ltb low (t + suc n))
meets_step low high t n h p = grind (arith, nat_tests)

-- a row of addresses meets a range
pub meets : (low high t : ℕ) (x : ℕ) (xs : List ℕ) → low < high → list_any (λ pair. leb low pair.0 && ltb pair.0 high) (enumerate_from t (x ∷ xs)) ≡ (ltb t high && ltb low (t + length (x ∷ xs)))
meets low high t x [] h = meets_one low high t h
meets low high t x (y ∷ ys) h = ap (λ b. (leb low t && ltb t high) || b) (meets low high (t + 1) y ys h) ∙ meets_step low high t (length (y ∷ ys)) h (omega arith)

leaves_one : (low high t : ℕ) → (not (leb low t && ltb t high) || false) ≡ (ltb t low || ltb high (t + 1))
leaves_one low high t = grind (arith, nat_tests)

leaves_step : (low high t n : ℕ) → 0 < n → (not (leb low t && ltb t high) || (ltb (t + 1) low || ltb high (t + 1 + n))) ≡ (ltb t low || ltb high (t + suc n))
leaves_step low high t n p = grind (arith, nat_tests)

-- a row of addresses leaves a range
pub leaves : (low high t : ℕ) (x : ℕ) (xs : List ℕ) → low < high → list_any (λ pair. not (leb low pair.0 && ltb pair.0 high)) (enumerate_from t (x ∷ xs)) ≡ (ltb t low || ltb high (t + length (x ∷ xs)))
leaves low high t x [] h = leaves_one low high t
leaves low high t x (y ∷ ys) h = ap (λ b. not (leb low t && ltb t high) || b) (leaves low high (t + 1) y ys h) ∙ leaves_step low high t (length (y ∷ ys)) (omega arith)

-- a payload has the size that its block gives
pub length_payload : (block : List ℕ) → HasPayload block → length (payload_of block) ≡ size_of block
length_payload block h = let n = size_of block in simp (length-take, length-drop) (omega arith)

any_in_flash_of : (t n : ℕ) (xs : List ℕ) → length xs ≡ n → 0 < n → list_any (λ pair. is_flash pair.0) (enumerate_from t xs) ≡ (ltb t 0x14000000 && ltb 0x10000000 (t + n))
any_in_flash_of t n [] e h = absurd (omega arith)
any_in_flash_of t n (x ∷ xs) e h = meets 0x10000000 0x14000000 t x xs (omega arith) ∙ ap (λ m. ltb t 0x14000000 && ltb 0x10000000 (t + m)) e

pub any_in_flash : (block : List ℕ) → HasPayload block → any_address is_flash block ≡ (ltb (target_of block) 0x14000000 && ltb 0x10000000 (target_of block + size_of block))
unfolding any_address
any_in_flash block h = any_in_flash_of (target_of block) (size_of block) (payload_of block) (length_payload block h) h.some

any_outside_sram_of : (t n : ℕ) (xs : List ℕ) → length xs ≡ n → 0 < n → list_any (λ pair. not (is_sram pair.0)) (enumerate_from t xs) ≡ (ltb t 0x20000000 || ltb 0x20042000 (t + n))
any_outside_sram_of t n [] e h = absurd (omega arith)
any_outside_sram_of t n (x ∷ xs) e h = leaves 0x20000000 0x20042000 t x xs (omega arith) ∙ ap (λ m. ltb t 0x20000000 || ltb 0x20042000 (t + m)) e

pub any_outside_sram : (block : List ℕ) → HasPayload block → any_address (λ a. not (is_sram a)) block ≡ (ltb (target_of block) 0x20000000 || ltb 0x20042000 (target_of block + size_of block))
unfolding any_address
any_outside_sram block h = any_outside_sram_of (target_of block) (size_of block) (payload_of block) (length_payload block h) h.some
