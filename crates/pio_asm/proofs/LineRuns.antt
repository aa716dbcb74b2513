-- The words of a line are tokens wherever they stand.
use Rattle.std.proofs.Common.{◌≡◌, ◌==◌, ◌&&◌, ℕ, suc, zero, ◌+◌, ◌*◌, ◌/◌, ◌%◌, ◌<◌, min, Bool, true, false, cond, List, [], ◌∷◌, Option, None, Some, arith, refl, ap, inl, inr, ◌∙◌}
use Rattle.pio_asm.proofs.Shared.{eqb_tells, Keyword, Public, KeywordToken, NumberToken as Number, keyword_name, number_of, word_kind, IsRun, both, decimal, digits, option_map, hex_half}
use Rattle.pio_parse.specs.declared.token.Span.{Span}
use Rattle.source_text.specs.Characters.{is_digit, is_word_char}
use Rattle.source_text.specs.Numbers.{digits_value}
use Rattle.pio_parse.specs.Lexical.{is_word}
use Rattle.std.specs.Char.{digit_char, digit_value, is_digit as is_digit_to}
use Rattle.std.proofs.lemmas.Bool.{eqb-true, lt-ltb}

pub key_run : (keyword : Keyword) → IsRun (keyword_name keyword) (KeywordToken keyword)
key_run Public = record { run = refl; plain = refl; inside = refl; names = λ span. refl }
key_run keyword = record { run = refl; plain = refl; inside = refl; names = λ span. refl }

-- what is tested of each number below n
abbrev all_below : (ℕ → Bool) → ℕ → Bool
all_below p zero = true
all_below p (suc n) = p n && all_below p n

all_below-at : (p : ℕ → Bool) (n m : ℕ) → all_below p n ≡ true → m < n → p m ≡ true
all_below-at p zero m h lt = absurd (omega arith)
all_below-at p (suc n) m h lt = elim (eqb_tells m n) [
  | inl e ↦ let same = e.1 in rw same (both (p n) (all_below p n) h).0
  | inr e ↦ let other = e.1 in all_below-at p n m (both (p n) (all_below p n) h).1 (omega (arith, other))
]

abbrev is_that : Option ℕ → ℕ → Bool
is_that None n = false
is_that (Some m) n = m == n

that_is : (o : Option ℕ) (n : ℕ) → is_that o n ≡ true → o ≡ Some n
that_is None n h = cc
that_is (Some m) n h = elim (eqb_tells m n) [
  | inl e ↦ ap (λ k. Some k) e.1
  | inr e ↦ absurd (let f : (m == n) ≡ false = e.0 in let g : (m == n) ≡ true = h in cc)
]

abbrev not_point : ℕ → Bool
not_point c = cond (c == 46) false true

abbrev begins_digit : List ℕ → Bool
begins_digit [] = false
begins_digit (c ∷ cs) = is_digit c && not_point c

no_point : (c : ℕ) → not_point c ≡ true → (c == 46) ≡ false
no_point c h = elim (eqb_tells c 46) [
  | inl e ↦ let f = e.0 in absurd (let g : false ≡ true = rw f at h in cc)
  | inr e ↦ e.0
]

digits_kind : (w : List ℕ) (n : ℕ) (span : Span) → begins_digit w ≡ true → number_of w ≡ Some n → word_kind w span ≡ Number n
digits_kind [] n span h e = cc
digits_kind (c ∷ cs) n span h e = let parts = both (is_digit c) (not_point c) h in rw (no_point c parts.1, parts.0, e) refl

abbrev is_number : List ℕ → ℕ → Bool
is_number w n = is_word w && (begins_digit w && is_that (number_of w) n)

number_run : (w : List ℕ) (n : ℕ) → is_number w n ≡ true → IsRun w (Number n)
number_run w n h =
    let a = both (is_word w) (begins_digit w && is_that (number_of w) n) h in
    let b = both (begins_digit w) (is_that (number_of w) n) a.1 in
    record { run = a.0; plain = refl; inside = refl; names = λ span. digits_kind w n span b.0 (that_is (number_of w) n b.1) }

decimals : all_below (λ n. is_number (decimal n) n) 100 ≡ true
unfolding digits
decimals = refl

pub decimal_run : (n : ℕ) → n < 100 → IsRun (decimal n) (Number n)
decimal_run n lt = number_run (decimal n) n (all_below-at (λ n. is_number (decimal n) n) 100 n decimals lt)

-- hexadecimal digits
hex_digits : all_below (λ d. is_word_char (digit_char d) && (digit_value (digit_char d) == d)) 16 ≡ true
hex_digits = refl

record IsHex (d : ℕ) : Type 0 where
  char : is_word_char (digit_char d) ≡ true
  value : digit_value (digit_char d) ≡ d
  digit : is_digit_to (digit_char d) 16 ≡ true

hex_is : (d : ℕ) → d < 16 → IsHex d
hex_is d lt =
    let h = both (is_word_char (digit_char d)) (digit_value (digit_char d) == d) (all_below-at (λ d. is_word_char (digit_char d) && (digit_value (digit_char d) == d)) 16 d hex_digits lt) in
    let value = eqb-true (digit_value (digit_char d)) d h.1 in
    record { char = h.0; value = value; digit = rw value (lt-ltb d 16 lt) }

four_digits : (a b c d : ℕ) → IsHex a → IsHex b → IsHex c → IsHex d
    → digits_value 16 (digit_char a ∷ digit_char b ∷ digit_char c ∷ digit_char d ∷ []) ≡ Some (a * 4096 + (b * 256 + (c * 16 + (d * 1 + 0))))
four_digits a b c d ha hb hc hd = rw (ha.digit, hb.digit, hc.digit, hd.digit, ha.value, hb.value, hc.value, hd.value) refl

digit_lt : (n : ℕ) → n % 16 < 16
digit_lt n = omega arith

half_value : (n : ℕ) → n < 65536 → min 4294967296 (n / 4096 % 16 * 4096 + (n / 256 % 16 * 256 + (n / 16 % 16 * 16 + (n % 16 * 1 + 0)))) ≡ n
half_value n lt = omega arith

half_run : (a b c d : ℕ) → is_word_char a ≡ true → is_word_char b ≡ true → is_word_char c ≡ true → is_word_char d ≡ true → is_word (48 ∷ 120 ∷ a ∷ b ∷ c ∷ d ∷ []) ≡ true
half_run a b c d ha hb hc hd = rw (ha, hb, hc, hd) refl

pub hex_run : (n : ℕ) → n < 65536 → IsRun (48 ∷ 120 ∷ hex_half n) (Number n)
hex_run n lt =
    let a = hex_is (n / 4096 % 16) (digit_lt (n / 4096)) in
    let b = hex_is (n / 256 % 16) (digit_lt (n / 256)) in
    let c = hex_is (n / 16 % 16) (digit_lt (n / 16)) in
    let d = hex_is (n % 16) (digit_lt n) in
    let value : number_of (48 ∷ 120 ∷ hex_half n) ≡ Some n = ap (option_map (min 4294967296)) (four_digits (n / 4096 % 16) (n / 256 % 16) (n / 16 % 16) (n % 16) a b c d) ∙ ap (λ k. Some k) (half_value n lt) in
    record {
      run = half_run (digit_char (n / 4096 % 16)) (digit_char (n / 256 % 16)) (digit_char (n / 16 % 16)) (digit_char (n % 16)) a.char b.char c.char d.char;
      plain = refl;
      inside = refl;
      names = λ span. digits_kind (48 ∷ 120 ∷ hex_half n) n span refl value;
    }
