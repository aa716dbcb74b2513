-- How the tokens of a line are read, byte by byte.
use Rattle.std.specs.Prelude.{ℕ, ◌+◌, nat_lt, if◌then◌else◌, List, [], ◌∷◌, ◌++◌, slice_range}
use Rattle.std.specs.Option.{option_map_or}
use Rattle.thumb_parse.specs.declared.token.Token.{Token}
use Rattle.source_text.specs.Characters.{is_word_char}
use Rattle.thumb_parse.specs.Words.{word_token}
use Rattle.thumb_parse.specs.Tokens.{begins_word, sign_of}

-- the word of a line between two places, if there is one
abbrev pub word_tokens : List ℕ → ℕ → ℕ → List Token
word_tokens line start end = if nat_lt start end then word_token start (slice_range line start end) ∷ [] else []

abbrev pub sign_tokens : ℕ → List Token
sign_tokens c = option_map_or (λ sign. sign ∷ []) (sign_of c) []

-- the tokens of a line from this place on, where a word may have begun at `start`
unfoldable pub tokens_from : List ℕ → ℕ → ℕ → List ℕ → List Token
tokens_from line start at [] = word_tokens line start at
tokens_from line start at (c ∷ cs) =
    if is_word_char c then tokens_from line start (at + 1) cs
    else if begins_word c cs then word_tokens line start at ++ tokens_from line at (at + 1) cs
    else word_tokens line start at ++ (sign_tokens c ++ tokens_from line (at + 1) (at + 1) cs)

unfoldable pub tokens_of : List ℕ → List Token
tokens_of line = tokens_from line 0 0 line
