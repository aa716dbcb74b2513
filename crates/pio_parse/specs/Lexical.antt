-- The lexical grammar of a source, which knows nothing of how a program reads it (RP2040 Datasheet, 3.3, Comments; code blocks: Raspberry Pi
-- Pico C/C++ SDK, pioasm, Output pass through). A source is lexemes one after the other, each the longest: blanks, signs, words, comments,
-- code blocks and ends of line. Signs, words and ends of line are tokens.
use Rattle.std.specs.Prelude.{◌≡◌, ◌==◌, ◌&&◌, ◌||◌, not, ℕ, ◌+◌, Bool, true, false, List, [], ◌∷◌, ◌++◌, length, Option, None, Some}
use Rattle.source_text.specs.declared.position.SourcePosition.{SourcePosition}
use Rattle.pio_parse.specs.declared.token.Token.{Token}
use Rattle.pio_parse.specs.declared.token.Directive.TheVariants.{LangOpt}
use Rattle.pio_parse.specs.declared.token.TokenKind.{TokenKind}
use Rattle.pio_parse.specs.declared.token.TokenKind.TheVariants.{Directive as DirectiveToken, Comma, Colon, DoubleColon, OpenBracket, CloseBracket, OpenParenthesis, CloseParenthesis, Plus, Minus, Star, Bang, NotEqual, Tilde, LineEnd, FileEnd}
use Rattle.source_text.specs.Characters.{is_word_char}
use Rattle.source_text.specs.Position.{first_position, moved, past}
use Rattle.pio_parse.specs.Words.{word_kind}

-- this character stands nowhere in these
abbrev pub lacks : ℕ → List ℕ → Bool
lacks c [] = true
lacks c (d ∷ ds) = not (d == c) && lacks c ds

abbrev pub begins_by : ℕ → List ℕ → Bool
begins_by c [] = false
begins_by c (d ∷ ds) = d == c

-- the first of these characters stands nowhere before the second
abbrev pub lacks_pair : ℕ → ℕ → List ℕ → Bool
lacks_pair a b [] = true
lacks_pair a b (d ∷ ds) = not ((d == a) && begins_by b ds) && lacks_pair a b ds

-- these are not only spaces
abbrev pub has_name : List ℕ → Bool
has_name [] = false
has_name (d ∷ ds) = not (d == 32) || has_name ds

abbrev pub are_word_chars : List ℕ → Bool
are_word_chars [] = true
are_word_chars (c ∷ cs) = is_word_char c && are_word_chars cs

-- letters, digits and underscores, perhaps after a point
abbrev pub is_word : List ℕ → Bool
is_word [] = false
is_word (c ∷ cs) = (is_word_char c || c == 46) && are_word_chars cs

-- a word goes no further than here
abbrev pub ends_word : List ℕ → Bool
ends_word [] = true
ends_word (c ∷ cs) = not (is_word_char c)

-- a line goes no further than here
abbrev pub ends_line : List ℕ → Bool
ends_line [] = true
ends_line (c ∷ cs) = c == 10

abbrev pub is_option : TokenKind → Bool
is_option (DirectiveToken LangOpt) = true
is_option kind = false

abbrev pub word_at : ℕ → List ℕ → TokenKind
word_at index word = word_kind word (record { start = index; end = index + length word })

-- `IsLexeme index chars rest token`: from `index` on a file has these characters as one lexeme and goes on with the rest, and the lexeme is
-- this token or none. Each constructor is an alternative of the grammar
pub data IsLexeme (index : ℕ) : List ℕ → List ℕ → Option TokenKind → Type 0 where
  space : {rest : List ℕ} → IsLexeme index (32 ∷ []) rest None
  tab : {rest : List ℕ} → IsLexeme index (9 ∷ []) rest None
  carriage_return : {rest : List ℕ} → IsLexeme index (13 ∷ []) rest None
  line_end : {rest : List ℕ} → IsLexeme index (10 ∷ []) rest (Some LineEnd)
  -- , [ ] ( ) + - * ~
  comma : {rest : List ℕ} → IsLexeme index (44 ∷ []) rest (Some Comma)
  open_bracket : {rest : List ℕ} → IsLexeme index (91 ∷ []) rest (Some OpenBracket)
  close_bracket : {rest : List ℕ} → IsLexeme index (93 ∷ []) rest (Some CloseBracket)
  open_parenthesis : {rest : List ℕ} → IsLexeme index (40 ∷ []) rest (Some OpenParenthesis)
  close_parenthesis : {rest : List ℕ} → IsLexeme index (41 ∷ []) rest (Some CloseParenthesis)
  plus : {rest : List ℕ} → IsLexeme index (43 ∷ []) rest (Some Plus)
  minus : {rest : List ℕ} → IsLexeme index (45 ∷ []) rest (Some Minus)
  star : {rest : List ℕ} → IsLexeme index (42 ∷ []) rest (Some Star)
  tilde : {rest : List ℕ} → IsLexeme index (126 ∷ []) rest (Some Tilde)
  -- : and ::, ! and !=
  colon : {rest : List ℕ} → begins_by 58 rest ≡ false → IsLexeme index (58 ∷ []) rest (Some Colon)
  double_colon : {rest : List ℕ} → IsLexeme index (58 ∷ 58 ∷ []) rest (Some DoubleColon)
  bang : {rest : List ℕ} → begins_by 61 rest ≡ false → IsLexeme index (33 ∷ []) rest (Some Bang)
  not_equal : {rest : List ℕ} → IsLexeme index (33 ∷ 61 ∷ []) rest (Some NotEqual)
  -- a word, the longest one
  word : {chars rest : List ℕ} → is_word chars ≡ true → ends_word rest ≡ true → is_option (word_at index chars) ≡ false
      → IsLexeme index chars rest (Some (word_at index chars))
  -- .lang_opt with the rest of its line, which is not read
  option : (chars line : List ℕ) {rest : List ℕ} → is_word chars ≡ true → ends_word (line ++ rest) ≡ true → is_option (word_at index chars) ≡ true
      → lacks 10 line ≡ true → ends_line rest ≡ true → IsLexeme index (chars ++ line) rest (Some (word_at index chars))
  -- ; and // with the rest of the line
  semicolon : {line rest : List ℕ} → lacks 10 line ≡ true → ends_line rest ≡ true → IsLexeme index (59 ∷ line) rest None
  slashes : {line rest : List ℕ} → lacks 10 line ≡ true → ends_line rest ≡ true → IsLexeme index (47 ∷ 47 ∷ line) rest None
  -- /* up to the first */ after it
  comment : (body : List ℕ) {rest : List ℕ} → lacks_pair 42 47 (body ++ 42 ∷ []) ≡ true → IsLexeme index (47 ∷ 42 ∷ (body ++ 42 ∷ 47 ∷ [])) rest None
  -- % name { up to the first %} after it
  code_block : (name body : List ℕ) {rest : List ℕ} → lacks 37 name ≡ true → lacks 10 name ≡ true → lacks 123 name ≡ true → has_name name ≡ true
      → lacks_pair 37 125 (body ++ 37 ∷ []) ≡ true → IsLexeme index (37 ∷ (name ++ 123 ∷ (body ++ 37 ∷ 125 ∷ []))) rest None

abbrev pub tokens_at : Option TokenKind → SourcePosition → List Token
tokens_at None position = []
tokens_at (Some kind) position = record { kind = kind; position = position } ∷ []

-- characters from a position on are lexemes with these tokens
pub data AreLexemes : ℕ → SourcePosition → List ℕ → List Token → Type 0 where
  nothing : {index : ℕ} {position : SourcePosition} → AreLexemes index position [] []
  lexeme : {index : ℕ} {position : SourcePosition} {chars rest : List ℕ} {token : Option TokenKind} {tokens : List Token}
      → IsLexeme index chars rest token → AreLexemes (index + length chars) (moved chars position) rest tokens
      → AreLexemes index position (chars ++ rest) (tokens_at token position ++ tokens)

-- the characters that something begins with, beside those of words
abbrev pub first_chars : List ℕ
first_chars = 32 ∷ 9 ∷ 13 ∷ 10 ∷ 58 ∷ 33 ∷ 47 ∷ 59 ∷ 37 ∷ 46 ∷ 44 ∷ 91 ∷ 93 ∷ 40 ∷ 41 ∷ 43 ∷ 45 ∷ 42 ∷ 126 ∷ []

abbrev pub is_among : ℕ → List ℕ → Bool
is_among c [] = false
is_among c (d ∷ ds) = c == d || is_among c ds

-- the name of a code block does not go on to its `{` here, or there is none
abbrev pub ends_badly : Bool → List ℕ → Bool
ends_badly named [] = true
ends_badly named (c ∷ cs) = c == 37 || c == 10 || (c == 123 && not named)

-- no lexeme stands at the front of these characters
pub data IsMisplaced : List ℕ → Type 0 where
  -- a character that nothing begins with
  other : {c : ℕ} {rest : List ℕ} → is_word_char c ≡ false → is_among c first_chars ≡ false → IsMisplaced (c ∷ rest)
  -- a slash that begins no comment
  slash : {rest : List ℕ} → begins_by 47 rest ≡ false → begins_by 42 rest ≡ false → IsMisplaced (47 ∷ rest)
  -- a comment that does not end
  open_comment : {rest : List ℕ} → lacks_pair 42 47 rest ≡ true → IsMisplaced (47 ∷ 42 ∷ rest)
  -- a percent sign that begins no code block
  percent : (name rest : List ℕ) → lacks 37 name ≡ true → lacks 10 name ≡ true → lacks 123 name ≡ true → ends_badly (has_name name) rest ≡ true
      → IsMisplaced (37 ∷ (name ++ rest))
  -- a code block that does not end
  open_block : (name rest : List ℕ) → lacks 37 name ≡ true → lacks 10 name ≡ true → lacks 123 name ≡ true → has_name name ≡ true
      → lacks_pair 37 125 rest ≡ true → IsMisplaced (37 ∷ (name ++ 123 ∷ rest))

-- characters from a position on are lexemes up to this position, where none stands
pub data StopsAt : ℕ → SourcePosition → List ℕ → SourcePosition → Type 0 where
  none_here : {index : ℕ} {position : SourcePosition} {chars : List ℕ} → IsMisplaced chars → StopsAt index position chars position
  after_lexeme : {index : ℕ} {position fault : SourcePosition} {chars rest : List ℕ} {token : Option TokenKind}
      → IsLexeme index chars rest token → StopsAt (index + length chars) (moved chars position) rest fault → StopsAt index position (chars ++ rest) fault

-- a file with these tokens, the last of which is its end
abbrev pub IsLexed : List ℕ → List Token → Type 0
IsLexed text tokens = (all : List Token) × AreLexemes 0 first_position text all
    × (tokens ≡ all ++ record { kind = FileEnd; position = past first_position first_position text } ∷ [])

-- a file whose characters are lexemes up to this position, where none stands
abbrev pub IsCharFaultAt : List ℕ → SourcePosition → Type 0
IsCharFaultAt text position = StopsAt 0 first_position text position
