-- The tokens of a line (the project's own). `;` begins a comment; spaces, tabs and CRs stand between tokens.
use Rattle.std.specs.Prelude.{ℕ, Bool, false, ◌==◌, ◌&&◌, ◌||◌, if◌then◌else◌, List, [], ◌∷◌, take, Option, None, Some, is_some, position}
use Rattle.std.specs.Option.{option_map_or}
use Rattle.thumb_parse.specs.declared.token.Token.{Token}
use Rattle.thumb_parse.specs.declared.token.Token.TheVariants.{Comma, Colon, Hash, OpenBracket, CloseBracket, OpenBrace, CloseBrace, Bang, Plus, Minus}
use Rattle.source_text.specs.Characters.{is_digit, is_word_char}

-- the part of a line before its comment
unfoldable pub code_part : List ℕ → List ℕ
code_part line = option_map_or (λ end. take end line) (position (λ c. c == 59) line) line

-- the signs `,` `:` `#` `[` `]` `{` `}` `!` `+` `-`
abbrev pub sign_of : ℕ → Option Token
sign_of c =
    if c == 44 then Some Comma
    else if c == 58 then Some Colon
    else if c == 35 then Some Hash
    else if c == 91 then Some OpenBracket
    else if c == 93 then Some CloseBracket
    else if c == 123 then Some OpenBrace
    else if c == 125 then Some CloseBrace
    else if c == 33 then Some Bang
    else if c == 43 then Some Plus
    else if c == 45 then Some Minus
    else None

-- what may stand before a comment: also space, tab, CR and `.`
abbrev pub is_allowed : ℕ → Bool
is_allowed c = is_word_char c || is_some (sign_of c) || c == 32 || c == 9 || c == 13 || c == 46

abbrev pub begins_with_digit : List ℕ → Bool
begins_with_digit [] = false
begins_with_digit (c ∷ cs) = is_digit c

-- `.` begins a word, and `-` does where a digit follows it
abbrev pub begins_word : ℕ → List ℕ → Bool
begins_word c after = c == 46 || (c == 45 && begins_with_digit after)
