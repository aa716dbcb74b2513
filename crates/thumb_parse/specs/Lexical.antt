-- The tokens of a line without its comment, as a grammar of its characters (the project's own), which knows nothing of how a program reads
-- them. Spaces, tabs and CRs stand between tokens; a word is as long as it can be.
--
--   line  ::= {blank | word | sign}
--   word  ::= (letter | digit | `_` | `.` | `-` before a digit) {letter | digit | `_`}
--   sign  ::= `,` | `:` | `#` | `[` | `]` | `{` | `}` | `!` | `+` | `-`
use Rattle.std.specs.Prelude.{◌≡◌, ℕ, ◌+◌, Bool, true, false, not, ◌==◌, ◌||◌, List, [], ◌∷◌, ◌++◌, length, Some}
use Rattle.std.specs.List.{list_all}
use Rattle.thumb_parse.specs.declared.token.Token.{Token}
use Rattle.source_text.specs.Characters.{is_word_char}
use Rattle.thumb_parse.specs.Tokens.{begins_word, sign_of}
use Rattle.thumb_parse.specs.Words.{word_token}

abbrev pub is_blank : ℕ → Bool
is_blank c = c == 32 || c == 9 || c == 13

-- no word goes on with these characters
abbrev pub ends_word : List ℕ → Bool
ends_word [] = true
ends_word (c ∷ cs) = not (is_word_char c)

-- `AreTokens at chars tokens`: the characters of a line from this place on are those of these tokens. Each constructor is an alternative
-- of the grammar
pub data AreTokens : ℕ → List ℕ → List Token → Type 0 where
  end : {at : ℕ} → AreTokens at [] []
  blank : {at c : ℕ} {rest : List ℕ} {tokens : List Token} → is_blank c ≡ true → AreTokens (at + 1) rest tokens → AreTokens at (c ∷ rest) tokens
  word : {at c : ℕ} (chars : List ℕ) {rest : List ℕ} {tokens : List Token}
      → (is_word_char c || begins_word c (chars ++ rest)) ≡ true → list_all is_word_char chars ≡ true → ends_word rest ≡ true
      → AreTokens (at + length (c ∷ chars)) rest tokens → AreTokens at (c ∷ chars ++ rest) (word_token at (c ∷ chars) ∷ tokens)
  sign : {at c : ℕ} {rest : List ℕ} {token : Token} {tokens : List Token}
      → begins_word c rest ≡ false → sign_of c ≡ Some token → AreTokens (at + 1) rest tokens → AreTokens at (c ∷ rest) (token ∷ tokens)
