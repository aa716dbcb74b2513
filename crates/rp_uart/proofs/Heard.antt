-- The samples of a frame are the data bits of its byte, and the parity bit that goes with them.
use Rattle.std.proofs.Common.{◌≡◌, ℕ, zero, suc, ◌+◌, ◌-◌, ◌*◌, ◌/◌, ◌%◌, ◌^◌, ◌<◌, ◌≤◌, Bool, true, false, cond, eqb, List, refl, sym, ap, ◌∙◌, arith}
use Rattle.std.specs.Bool.{beq}
use Rattle.std.specs.Prelude.{not, ◌&&◌, map, bit_or}
use Rattle.std.specs.List.{range_with_len}
use Rattle.std.specs.Int.{bit_at}
use Rattle.std.specs.Int.Bits.{or_shifted_r}
use Rattle.std.proofs.Math.Nat.{pow-suc, add-mul-div_right, mul-div_cancel, mod-lt, div-eq_of_lt}
use Rattle.std.proofs.lemmas.Nat.{mod-pow-add, mod_low, shr_split, pow_pos}
use Rattle.std.proofs.lemmas.Nat.Bits.{bit_at-lt, bit_at_cat_low}
use Rattle.std.proofs.lemmas.Bool.Decides.{nat_tests}
use Rattle.rp_base.specs.Word.{has_bit, bit_number}
use Rattle.rp_uart.specs.declared.frame.LineControl.{LineControl}
use Rattle.rp_uart.specs.declared.receiver.Errors.{Errors}
use Rattle.rp_uart.specs.Frame.{width_of, ones_of, is_odd, parity_bit, level_at, parity_at, stop_at}
use Rattle.rp_uart.specs.Laws.{samples_of, IsHeard, WhatIsSentIsHeard}
use Rattle.rp_uart.specs.Receiver.{with_sample, byte_heard, has_parity_error}
use Rattle.rp_uart.specs.State.{no_errors}
use Rattle.rp_uart.proofs.Frames.{level_at-start, level_at-data, level_at-parity, level_at-after, level_at-plain}

-- ---- numbers

carry : (n b p q l m : ℕ) → n ≡ b → q ≡ p * 2 → m ≡ b * p + l → l * 2 + n * q ≡ m * 2
carry n b p q l m e f g = rw (e, f, g) (omega arith)

gather : (p q r l : ℕ) → r ≡ q * 2 → l * 2 + p * r ≡ (p * q + l) * 2
gather p q r l e = rw e (omega arith)

bit_from : (n : ℕ) → n < 2 → bit_number (eqb n 1) ≡ n
bit_from n h = grind (arith, nat_tests)

is_bit : (b : Bool) → eqb (bit_number b) 1 ≡ b
is_bit b = grind (arith, nat_tests)

bit-small : (b : Bool) → bit_number b < 2
bit-small b = grind (arith, nat_tests)

low-more : (byte k : ℕ) → byte % 2 ^ suc k ≡ bit_at byte k * 2 ^ k + byte % 2 ^ k
low-more byte k =
    let e : suc k ≡ 1 + k = omega arith in
    ap (λ (n : ℕ). byte % 2 ^ n) e ∙ mod-pow-add byte 1 k

low-double : (byte k : ℕ) → byte % 2 ^ k * 2 < 2 ^ suc k
low-double byte k = omega (arith, mod-lt byte (pow_pos k), pow-suc 2 k)

-- the bit above the others
top_bit : (p k low : ℕ) → p < 2 → low < 2 ^ k → bit_at (low + p * 2 ^ k) k ≡ p
top_bit p k low h small =
    let e : (low + p * 2 ^ k) / 2 ^ k ≡ low / 2 ^ k + p = add-mul-div_right low p (pow_pos k) in
    let z : low / 2 ^ k ≡ 0 = div-eq_of_lt small in
    rw (e, z) (omega arith)

-- ---- samples

sample_above : (level : Bool) (bit samples : ℕ) → samples < 2 ^ bit →
    with_sample level bit samples ≡ samples + bit_number level * 2 ^ bit
sample_above true bit samples h =
    let e : 2 ^ bit ≡ 1 * 2 ^ bit = omega arith in
    ap (bit_or samples) e ∙ (or_shifted_r 1 bit samples h ∙ omega arith)
sample_above false bit samples h = omega arith

samples_data : (line : LineControl) (byte j : ℕ) → j ≤ width_of line.width →
    samples_of line byte (suc j) ≡ byte % 2 ^ j * 2
samples_data line byte zero h =
    ap (λ (b : Bool). with_sample b 0 0) (level_at-start line byte 0 refl) ∙ omega arith
samples_data line byte (suc j) h =
    let before : samples_of line byte (suc j) ≡ byte % 2 ^ j * 2 = samples_data line byte j (omega arith) in
    let bit : suc j - 1 ≡ j = omega arith in
    let level : level_at line byte (suc j) ≡ has_bit byte j =
    level_at-data line byte (suc j) (omega arith) h ∙ ap (has_bit byte) bit in
    ap (λ (b : Bool). with_sample b (suc j) (samples_of line byte (suc j))) level
    ∙ (ap (with_sample (has_bit byte j) (suc j)) before
    ∙ (sample_above (has_bit byte j) (suc j) (byte % 2 ^ j * 2) (low-double byte j)
    ∙ carry (bit_number (has_bit byte j)) (bit_at byte j) (2 ^ j) (2 ^ suc j) (byte % 2 ^ j) (byte % 2 ^ suc j)
    (bit_from (bit_at byte j) (bit_at-lt byte j)) (pow-suc 2 j) (low-more byte j)))

samples-plain : (line : LineControl) (byte : ℕ) → line.parity ≡ false →
    samples_of line byte (stop_at line) ≡ byte % 2 ^ width_of line.width * 2
samples-plain line byte h =
    let none : bit_number line.parity ≡ 0 = rw h refl in
    let stop : stop_at line ≡ suc (width_of line.width) = omega arith in
    ap (samples_of line byte) stop ∙ samples_data line byte (width_of line.width) (omega arith)

samples-parity : (line : LineControl) (byte : ℕ) → line.parity ≡ true →
    samples_of line byte (stop_at line)
    ≡ byte % 2 ^ width_of line.width * 2 + bit_number (parity_bit line byte) * 2 ^ suc (width_of line.width)
samples-parity line byte h =
    let one : bit_number line.parity ≡ 1 = rw h refl in
    let w = width_of line.width in
    let stop : stop_at line ≡ suc (suc w) = omega arith in
    let before : samples_of line byte (suc w) ≡ byte % 2 ^ w * 2 = samples_data line byte w (omega arith) in
    let level : level_at line byte (suc w) ≡ parity_bit line byte = level_at-parity line byte (suc w) (omega arith) h in
    ap (samples_of line byte) stop
    ∙ (ap (λ (b : Bool). with_sample b (suc w) (samples_of line byte (suc w))) level
    ∙ (ap (with_sample (parity_bit line byte) (suc w)) before
    ∙ sample_above (parity_bit line byte) (suc w) (byte % 2 ^ w * 2) (low-double byte w)))

-- ---- the byte

data_heard : (byte w p : ℕ) → (byte % 2 ^ w * 2 + p * 2 ^ suc w) / 2 % 2 ^ w ≡ byte % 2 ^ w
data_heard byte w p =
    let two : 0 < 2 = omega arith in
    ap (λ (n : ℕ). n / 2 % 2 ^ w) (gather p (2 ^ w) (2 ^ suc w) (byte % 2 ^ w) (pow-suc 2 w))
    ∙ (ap (λ (n : ℕ). n % 2 ^ w) (mul-div_cancel (p * 2 ^ w + byte % 2 ^ w) two)
    ∙ mod_low p w (byte % 2 ^ w) (mod-lt byte (pow_pos w)))

-- ---- parity

map-same : (f g : ℕ → Bool) (a n : ℕ) → ((k : ℕ) → k < a + n → f k ≡ g k) →
    map f (range_with_len a n) ≡ map g (range_with_len a n)
map-same f g a zero h = refl
map-same f g a (suc n) h =
    let first : f a ≡ g a = h a (omega arith) in
    let rest : map f (range_with_len (a + 1) n) ≡ map g (range_with_len (a + 1) n) =
    map-same f g (a + 1) n (λ k lt. h k (omega arith)) in
    cc

low-bit : (byte w k : ℕ) → k < w → has_bit (byte % 2 ^ w) k ≡ has_bit byte k
low-bit byte w k h =
    let e : bit_at (byte / 2 ^ w * 2 ^ w + byte % 2 ^ w) k ≡ bit_at (byte % 2 ^ w) k =
    bit_at_cat_low (byte / 2 ^ w) w (byte % 2 ^ w) k h in
    ap (λ (n : ℕ). eqb n 1) (sym e ∙ ap (λ (n : ℕ). bit_at n k) (shr_split byte w))

parity_bit-low : (line : LineControl) (byte : ℕ) → parity_bit line (byte % 2 ^ width_of line.width) ≡ parity_bit line byte
unfolding parity_bit
parity_bit-low line byte =
    let w = width_of line.width in
    ap (λ (bits : List Bool). cond line.even (is_odd (ones_of bits)) (not (is_odd (ones_of bits))))
    (map-same (has_bit (byte % 2 ^ w)) (has_bit byte) 0 w (λ k lt. low-bit byte w k (omega arith)))

beq-same : (b : Bool) → beq b b ≡ true
beq-same b = grind (arith, nat_tests)

parity_fits : (parity heard expected : Bool) → heard ≡ expected → (parity && not (beq heard expected)) ≡ false
parity_fits true heard expected e = rw (e, beq-same expected) refl
parity_fits false heard expected e = refl

-- ---- the stop bits

high-from : (line : LineControl) (byte bit : ℕ) (parity : Bool) → line.parity ≡ parity → stop_at line ≤ bit →
    level_at line byte bit ≡ true
high-from line byte bit true e h =
    let one : bit_number line.parity ≡ 1 = rw e refl in
    level_at-after line byte bit (omega arith)
high-from line byte bit false e h = level_at-plain line byte bit (omega arith) e

pub level_at-stop : (line : LineControl) (byte bit : ℕ) → stop_at line ≤ bit → level_at line byte bit ≡ true
level_at-stop line byte bit h = high-from line byte bit line.parity refl h

-- ---- all together

no_errors-of : (stop parity waited : Bool) → stop ≡ true → parity ≡ false →
    (let e : Errors = record { framing = not stop; parity = parity; break_line = not stop && waited; overrun = false } in
    e ≡ no_errors)
no_errors-of true true waited s p = cc
no_errors-of true false waited s p = refl
no_errors-of false parity waited s p = cc

heard_by : (line : LineControl) (byte : ℕ) (parity : Bool) → line.parity ≡ parity →
    IsHeard line byte (samples_of line byte (stop_at line))
heard_by line byte true h =
    let w = width_of line.width in
    let samples = samples_of line byte (stop_at line) in
    let p = bit_number (parity_bit line byte) in
    let is : samples ≡ byte % 2 ^ w * 2 + p * 2 ^ suc w = samples-parity line byte h in
    let heard : byte_heard line samples ≡ byte % 2 ^ w = ap (λ (n : ℕ). n / 2 % 2 ^ w) is ∙ data_heard byte w p in
    let bit : parity_at line ≡ suc w = omega arith in
    let top : bit_at samples (parity_at line) ≡ p =
    ap (λ (n : ℕ). bit_at n (parity_at line)) is
    ∙ (ap (λ (n : ℕ). bit_at (byte % 2 ^ w * 2 + p * 2 ^ suc w) n) bit
    ∙ top_bit p (suc w) (byte % 2 ^ w * 2) (bit-small (parity_bit line byte)) (low-double byte w)) in
    let sampled : has_bit samples (parity_at line) ≡ parity_bit line byte =
    ap (λ (n : ℕ). eqb n 1) top ∙ is_bit (parity_bit line byte) in
    let expected : parity_bit line (byte_heard line samples) ≡ parity_bit line byte =
    ap (parity_bit line) heard ∙ parity_bit-low line byte in
    let one : bit_number line.parity ≡ 1 = rw h refl in
    let high : level_at line byte (stop_at line) ≡ true = level_at-after line byte (stop_at line) (omega arith) in
    record {
      heard = heard;
      errors =
          no_errors-of (level_at line byte (stop_at line)) (has_parity_error line samples) (eqb samples 0) high
          (parity_fits line.parity (has_bit samples (parity_at line)) (parity_bit line (byte_heard line samples))
          (sampled ∙ sym expected));
    }
heard_by line byte false h =
    let w = width_of line.width in
    let samples = samples_of line byte (stop_at line) in
    let is : samples ≡ byte % 2 ^ w * 2 + 0 * 2 ^ suc w = samples-plain line byte h ∙ omega arith in
    let none : bit_number line.parity ≡ 0 = rw h refl in
    let high : level_at line byte (stop_at line) ≡ true =
    level_at-plain line byte (stop_at line) (omega arith) h in
    let fits : has_parity_error line samples ≡ false = rw h refl in
    record {
      heard = ap (λ (n : ℕ). n / 2 % 2 ^ w) is ∙ data_heard byte w 0;
      errors = no_errors-of (level_at line byte (stop_at line)) (has_parity_error line samples) (eqb samples 0) high fits;
    }

pub heard_law : WhatIsSentIsHeard
heard_law line byte = heard_by line byte line.parity refl
