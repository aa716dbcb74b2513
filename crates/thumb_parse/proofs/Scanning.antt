-- The tokens of a line, one byte after the other.
use Rattle.std.proofs.Common.{◌≡◌, ◌≤◌, ◌<◌, ℕ, ◌+◌, true, false, List, ◌∷◌, ◌++◌, length, drop, get_or, refl, sym, ap, ◌∙◌, append_assoc}
use Rattle.std.proofs.lemmas.List.{drop_more, drop_all}
use Rattle.thumb_parse.specs.declared.token.Token.{Token}
use Rattle.source_text.specs.Characters.{is_word_char}
use Rattle.thumb_parse.specs.Tokens.{begins_word}
use Rattle.thumb_parse.specs.descent.Tokens.{sign_tokens, tokens_from, tokens_of, word_tokens}

pub tokens_start : (line : List ℕ) → tokens_of line ≡ tokens_from line 0 0 line
unfolding tokens_of
tokens_start line = refl

pub tokens_end : (line : List ℕ) (start at : ℕ) → length line ≤ at → tokens_from line start at (drop at line) ≡ word_tokens line start at
unfolding tokens_from
tokens_end line start at h = rw (drop_all at line h) refl

of_word : (line : List ℕ) (start at c : ℕ) (cs : List ℕ) → is_word_char c ≡ true → tokens_from line start at (c ∷ cs) ≡ tokens_from line start (at + 1) cs
unfolding tokens_from
of_word line start at c cs h = rw h refl

of_begin : (line : List ℕ) (start at c : ℕ) (cs : List ℕ) → is_word_char c ≡ false → begins_word c cs ≡ true →
    tokens_from line start at (c ∷ cs) ≡ word_tokens line start at ++ tokens_from line at (at + 1) cs
unfolding tokens_from
of_begin line start at c cs h i = rw (h, i) refl

of_sign : (line : List ℕ) (start at c : ℕ) (cs : List ℕ) → is_word_char c ≡ false → begins_word c cs ≡ false →
    tokens_from line start at (c ∷ cs) ≡ word_tokens line start at ++ (sign_tokens c ++ tokens_from line (at + 1) (at + 1) cs)
unfolding tokens_from
of_sign line start at c cs h i = rw (h, i) refl

-- ---- what is read with one byte more, where these tokens were read before

pub read_word : (tokens : List Token) (line : List ℕ) (start at : ℕ) → at < length line → is_word_char (get_or line at 0) ≡ true →
    tokens ++ tokens_from line start at (drop at line) ≡ tokens ++ tokens_from line start (at + 1) (drop (at + 1) line)
read_word tokens line start at h i =
    ap (λ rest. tokens ++ tokens_from line start at rest) (drop_more line at 0 h)
    ∙ ap (λ more. tokens ++ more) (of_word line start at (get_or line at 0) (drop (at + 1) line) i)

pub read_begin : (tokens tokens' : List Token) (line : List ℕ) (start at : ℕ) → at < length line → is_word_char (get_or line at 0) ≡ false →
    begins_word (get_or line at 0) (drop (at + 1) line) ≡ true → tokens' ≡ tokens ++ word_tokens line start at →
    tokens ++ tokens_from line start at (drop at line) ≡ tokens' ++ tokens_from line at (at + 1) (drop (at + 1) line)
read_begin tokens tokens' line start at h i j k =
    ap (λ rest. tokens ++ tokens_from line start at rest) (drop_more line at 0 h)
    ∙ ap (λ more. tokens ++ more) (of_begin line start at (get_or line at 0) (drop (at + 1) line) i j)
    ∙ sym (append_assoc tokens (word_tokens line start at) (tokens_from line at (at + 1) (drop (at + 1) line)))
    ∙ ap (λ tokens. tokens ++ tokens_from line at (at + 1) (drop (at + 1) line)) (sym k)

pub read_sign : (tokens tokens' tokens'' : List Token) (line : List ℕ) (start at : ℕ) → at < length line → is_word_char (get_or line at 0) ≡ false →
    begins_word (get_or line at 0) (drop (at + 1) line) ≡ false → tokens' ≡ tokens ++ word_tokens line start at →
    tokens'' ≡ tokens' ++ sign_tokens (get_or line at 0) →
    tokens ++ tokens_from line start at (drop at line) ≡ tokens'' ++ tokens_from line (at + 1) (at + 1) (drop (at + 1) line)
read_sign tokens tokens' tokens'' line start at h i j k l =
    let rest = tokens_from line (at + 1) (at + 1) (drop (at + 1) line) in
    let signs = sign_tokens (get_or line at 0) in
    ap (λ rest. tokens ++ tokens_from line start at rest) (drop_more line at 0 h)
    ∙ ap (λ more. tokens ++ more) (of_sign line start at (get_or line at 0) (drop (at + 1) line) i j)
    ∙ sym (append_assoc tokens (word_tokens line start at) (signs ++ rest))
    ∙ ap (λ tokens. tokens ++ (signs ++ rest)) (sym k)
    ∙ sym (append_assoc tokens' signs rest)
    ∙ ap (λ tokens. tokens ++ rest) (sym l)
