-- The frame's length, and its levels bit by bit.
use Rattle.std.proofs.Common.{◌≡◌, ℕ, zero, suc, ◌+◌, ◌-◌, ◌<◌, ◌≤◌, Bool, true, false, cond, List, [], ◌∷◌, ◌++◌, length, get_or, refl, ◌∙◌, arith, length-append}
use Rattle.std.proofs.lemmas.List.{get_or_append_left, get_or-append_right}
use Rattle.std.proofs.lemmas.List.FromFn.{length-map-range_with_len, get_or-map-range_with_len, sum_by-map-range_with_len_more}
use Rattle.rp_base.specs.Word.{has_bit, bit_number}
use Rattle.rp_uart.specs.declared.frame.LineControl.{LineControl}
use Rattle.rp_uart.specs.Frame.{width_of, low_bits, ones_of, data_bits, parity_bit, parity_bits, stop_bits, frame_of, level_at, frame_length, stop_at}

-- ---- ones

pub ones_of-more : (byte n : ℕ) → ones_of (low_bits byte (n + 1)) ≡ ones_of (low_bits byte n) + bit_number (has_bit byte n)
ones_of-more byte n = sum_by-map-range_with_len_more bit_number (has_bit byte) 0 n n (omega arith)

-- ---- the length

length-data : (line : LineControl) (byte : ℕ) → length (data_bits line byte) ≡ width_of line.width
length-data line byte = length-map-range_with_len (has_bit byte) 0 (width_of line.width)

length-optional : (b : Bool) (x : Bool) → length (cond b (x ∷ []) []) ≡ bit_number b
length-optional true x = refl
length-optional false x = refl

length-one_or_two : (b : Bool) → length (cond b (true ∷ true ∷ []) (true ∷ [])) ≡ 1 + bit_number b
length-one_or_two true = refl
length-one_or_two false = refl

pub frame_length-sum : (line : LineControl) (byte : ℕ) →
    frame_length line byte ≡ stop_at line + bit_number line.two_stops + 1
unfolding frame_length frame_of
frame_length-sum line byte =
    omega (
      arith,
      length-append (data_bits line byte) (parity_bits line byte ++ stop_bits line),
      length-append (parity_bits line byte) (stop_bits line),
      length-data line byte,
      length-optional line.parity (parity_bit line byte),
      length-one_or_two line.two_stops,
    )

pub ruleset lengths = (frame_length-sum)

-- ---- levels

high_after : (two : Bool) (n : ℕ) → get_or (cond two (true ∷ true ∷ []) (true ∷ [])) n true ≡ true
high_after true zero = refl
high_after true (suc zero) = refl
high_after true (suc (suc n)) = refl
high_after false zero = refl
high_after false (suc n) = refl

optional-first : (b x : Bool) (ys : List Bool) (n : ℕ) → b ≡ true → n ≡ 0 → get_or (cond b (x ∷ []) [] ++ ys) n true ≡ x
optional-first true x ys zero e z = refl
optional-first true x ys (suc n) e z = absurd (omega arith)
optional-first false x ys n e z = cc

optional-rest : (b x two : Bool) (n : ℕ) → 0 < n →
    get_or (cond b (x ∷ []) [] ++ cond two (true ∷ true ∷ []) (true ∷ [])) n true ≡ true
optional-rest true x two zero h = absurd (omega arith)
optional-rest true x two (suc n) h = high_after two n
optional-rest false x two n h = high_after two n

optional-none : (b x two : Bool) (n : ℕ) → b ≡ false →
    get_or (cond b (x ∷ []) [] ++ cond two (true ∷ true ∷ []) (true ∷ [])) n true ≡ true
optional-none true x two n e = cc
optional-none false x two n e = high_after two n

-- the level after the data bits
past_data : (line : LineControl) (byte k : ℕ) → width_of line.width ≤ k →
    level_at line byte (suc k) ≡ get_or (parity_bits line byte ++ stop_bits line) (k - width_of line.width) true
unfolding level_at frame_of
past_data line byte k h =
    get_or-append_right (data_bits line byte) (parity_bits line byte ++ stop_bits line) (width_of line.width) k true
    (length-data line byte) h

pub level_at-start : (line : LineControl) (byte bit : ℕ) → bit ≡ 0 → level_at line byte bit ≡ false
unfolding level_at frame_of
level_at-start line byte zero e = refl
level_at-start line byte (suc k) e = absurd (omega arith)

pub level_at-data : (line : LineControl) (byte bit : ℕ) → 0 < bit → bit ≤ width_of line.width →
    level_at line byte bit ≡ has_bit byte (bit - 1)
unfolding level_at frame_of
level_at-data line byte zero p h = absurd (omega arith)
level_at-data line byte (suc k) p h =
    get_or_append_left (data_bits line byte) (parity_bits line byte ++ stop_bits line) true k
    (omega (arith, length-data line byte))
    ∙ get_or-map-range_with_len (has_bit byte) 0 (width_of line.width) k (suc k - 1) true (omega arith) (omega arith)

pub level_at-parity : (line : LineControl) (byte bit : ℕ) → bit ≡ width_of line.width + 1 → line.parity ≡ true →
    level_at line byte bit ≡ parity_bit line byte
level_at-parity line byte zero e b = absurd (omega arith)
level_at-parity line byte (suc k) e b =
    past_data line byte k (omega arith)
    ∙ optional-first line.parity (parity_bit line byte) (stop_bits line) (k - width_of line.width) b (omega arith)

pub level_at-after : (line : LineControl) (byte bit : ℕ) → width_of line.width + 1 < bit → level_at line byte bit ≡ true
level_at-after line byte zero h = absurd (omega arith)
level_at-after line byte (suc k) h =
    past_data line byte k (omega arith)
    ∙ optional-rest line.parity (parity_bit line byte) line.two_stops (k - width_of line.width) (omega arith)

pub level_at-plain : (line : LineControl) (byte bit : ℕ) → width_of line.width < bit → line.parity ≡ false →
    level_at line byte bit ≡ true
level_at-plain line byte zero h b = absurd (omega arith)
level_at-plain line byte (suc k) h b =
    past_data line byte k (omega arith)
    ∙ optional-none line.parity (parity_bit line byte) line.two_stops (k - width_of line.width) b

pub ruleset levels = (level_at-start, level_at-data, level_at-parity, level_at-after, level_at-plain)

pub ruleset ones_laws = (ones_of-more)
