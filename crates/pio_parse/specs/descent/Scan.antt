-- The characters and tokens of a source (RP2040 Datasheet, 3.3, Comments; code blocks: Raspberry Pi Pico C/C++ SDK, pioasm, Output
-- pass through). Which characters are faults, and where, is the project's own.
use Rattle.std.specs.Prelude.{◌==◌, ◌≡◌, ◌||◌, ◌&&◌, not, ℕ, ◌+◌, ◌≤◌, false, if◌then◌else◌, List, [], ◌∷◌, ◌++◌, Option, None, Some, Result, Ok, Err, length, slice_range, drop, option_to_list, ⊤}
use Rattle.std.specs.Option.{option_map_or}
use Rattle.source_text.specs.Position.{first_position, position_behind}
use Rattle.source_text.specs.Outcome.{and_then, map_ok}
use Rattle.pio_parse.specs.declared.scan.Mode.{Mode}
use Rattle.pio_parse.specs.declared.scan.Mode.TheVariants.{Between, Word, Colon, Bang, Slash, LineComment, BlockComment, Header, Code}
use Rattle.pio_parse.specs.declared.scan.Step.{Step}
use Rattle.pio_parse.specs.declared.fault.PioFault.{PioFault}
use Rattle.pio_parse.specs.declared.fault.PioFault.TheVariants.{Char, Memory}
use Rattle.source_text.specs.declared.position.SourcePosition.{SourcePosition}
use Rattle.pio_parse.specs.declared.token.Token.{Token}
use Rattle.pio_parse.specs.declared.token.Directive.TheVariants.{LangOpt}
use Rattle.pio_parse.specs.declared.token.TokenKind.{TokenKind}
use Rattle.pio_parse.specs.declared.token.TokenKind.TheVariants.{Directive, Comma, Colon as ColonToken, DoubleColon, OpenBracket, CloseBracket, OpenParenthesis, CloseParenthesis, Plus, Minus, Star, Bang as BangToken, NotEqual, Tilde, LineEnd, FileEnd}
use Rattle.source_text.specs.Characters.{is_word_char}
use Rattle.pio_parse.specs.Words.{word_kind}

-- a character goes on with a mode, and ends no token
abbrev pub without_token : Mode → Step
without_token mode = record { mode = mode; first = None; second = None }

-- a character is or ends a token, after which nothing has begun
abbrev pub single_token : TokenKind → SourcePosition → Step
single_token kind position = record { mode = Between; first = None; second = Some (record { kind = kind; position = position }) }

-- the characters that are tokens by themselves: , [ ] ( ) + - * ~
abbrev pub sign_of : ℕ → Option TokenKind
sign_of c =
    if c == 44 then Some Comma else if c == 91 then Some OpenBracket else if c == 93 then Some CloseBracket
    else if c == 40 then Some OpenParenthesis else if c == 41 then Some CloseParenthesis else if c == 43 then Some Plus
    else if c == 45 then Some Minus else if c == 42 then Some Star else if c == 126 then Some Tilde else None

abbrev pub begins_other : ℕ → ℕ → SourcePosition → Result Step SourcePosition
begins_other index c position = option_map_or (λ kind. Ok (single_token kind position)) (sign_of c) (if is_word_char c then Ok (without_token (Word index position)) else Err position)

-- a character between tokens: space, tab and CR are nothing, LF ends a line, `:`, `!`, `/`, `;`, `%`, `.` and a letter or digit
-- begin something, and what has no meaning is a fault at its position
abbrev pub begins : ℕ → ℕ → SourcePosition → Result Step SourcePosition
begins index c position =
    if (c == 32) || (c == 9) || (c == 13) then Ok (without_token Between)
    else if c == 10 then Ok (single_token LineEnd position)
    else if c == 58 then Ok (without_token (Colon position))
    else if c == 33 then Ok (without_token (Bang position))
    else if c == 47 then Ok (without_token (Slash position))
    else if c == 59 then Ok (without_token LineComment)
    else if c == 37 then Ok (without_token (Header position false))
    else if c == 46 then Ok (without_token (Word index position))
    else begins_other index c position

-- a token ends before a character that then stands between tokens
abbrev pub ends : Token → ℕ → ℕ → SourcePosition → Result Step SourcePosition
ends token index c position = map_ok (λ step. record { mode = step.mode; first = Some token; second = step.second }) (begins index c position)

-- so does a word; after `.lang_opt` the rest of the line is not read
abbrev pub word_token_ends : TokenKind → SourcePosition → ℕ → ℕ → SourcePosition → Result Step SourcePosition
word_token_ends (Directive LangOpt) begun c index position =
    if c == 10 then ends (record { kind = Directive LangOpt; position = begun }) index c position
    else Ok (record { mode = LineComment; first = Some (record { kind = Directive LangOpt; position = begun }); second = None })
word_token_ends kind begun c index position = ends (record { kind = kind; position = begun }) index c position

abbrev pub word_ends : List ℕ → ℕ → SourcePosition → ℕ → ℕ → SourcePosition → Result Step SourcePosition
word_ends word start begun c index position = word_token_ends (word_kind word (record { start = start; end = index })) begun c index position

-- a character after `/`, in a comment or in a code block. A comment is over at LF or at `*/`. A code block is `%`, a word, `{`,
-- anything and `%}`, where the word is on one line. The fault of each is at its first character
abbrev pub skips : Mode → ℕ → SourcePosition → Result Step SourcePosition
skips (Slash begun) c position = if c == 47 then Ok (without_token LineComment) else if c == 42 then Ok (without_token (BlockComment begun false)) else Err begun
skips (BlockComment begun star) c position = if star && (c == 47) then Ok (without_token Between) else Ok (without_token (BlockComment begun (c == 42)))
skips (Header begun named) c position =
    if c == 123 then if named then Ok (without_token (Code begun false)) else Err begun
    else if (c == 37) || (c == 10) then Err begun
    else Ok (without_token (Header begun (named || not (c == 32))))
skips (Code begun percent) c position = if percent && (c == 125) then Ok (without_token Between) else Ok (without_token (Code begun (c == 37)))
skips mode c position = if c == 10 then Ok (single_token LineEnd position) else Ok (without_token LineComment)

-- what the character at `index` of a file does in a mode
abbrev pub steps : List ℕ → ℕ → Mode → ℕ → SourcePosition → Result Step SourcePosition
steps text index Between c position = begins index c position
steps text index (Word start begun) c position =
    if is_word_char c then Ok (without_token (Word start begun)) else word_ends (slice_range text start index) start begun c index position
steps text index (Colon begun) c position = if c == 58 then Ok (single_token DoubleColon begun) else ends (record { kind = ColonToken; position = begun }) index c position
steps text index (Bang begun) c position = if c == 61 then Ok (single_token NotEqual begun) else ends (record { kind = BangToken; position = begun }) index c position
steps text index mode c position = skips mode c position

-- what the end of a file does: the token that ends there, if any
abbrev pub finishes : List ℕ → Mode → Result (Option Token) SourcePosition
finishes text Between = Ok None
finishes text LineComment = Ok None
finishes text (Word start begun) = Ok (Some (record { kind = word_kind (drop start text) (record { start = start; end = length text }); position = begun }))
finishes text (Colon begun) = Ok (Some (record { kind = ColonToken; position = begun }))
finishes text (Bang begun) = Ok (Some (record { kind = BangToken; position = begun }))
finishes text (Slash begun) = Err begun
finishes text (BlockComment begun star) = Err begun
finishes text (Header begun named) = Err begun
finishes text (Code begun percent) = Err begun

abbrev pub end_tokens : List Token → SourcePosition → Option Token → List Token
end_tokens tokens after last = tokens ++ option_to_list last ++ record { kind = FileEnd; position = after } ∷ []

-- the tokens of a file, after `tokens` from its first characters: `rest` are the others, from `index` on, the first of which is at
-- `here`, and `after` is the position one column past the last character that was read
abbrev pub scanned_from : List ℕ → List ℕ → ℕ → Mode → SourcePosition → SourcePosition → List Token → Result (List Token) SourcePosition
scanned_from text [] index mode here after tokens = map_ok (end_tokens tokens after) (finishes text mode)
scanned_from text (c ∷ rest) index mode here after tokens = and_then
    (λ step. scanned_from text rest (index + 1) step.mode (position_behind c here) (record { line = here.line; column = here.column + 1 }) (tokens ++ option_to_list step.first ++ option_to_list step.second))
    (steps text index mode c here)

-- the tokens of a file, or the position of the first character that has no meaning there
abbrev pub scanned : List ℕ → Result (List Token) SourcePosition
scanned text = scanned_from text text 0 Between first_position first_position []

-- the fault of a file whose scan ends so; memory may run out at any time
abbrev pub IsCharFault : Result (List Token) SourcePosition → PioFault → Type 0
IsCharFault result (Char line column) = result ≡ Err (record { line = line; column = column })
IsCharFault result Memory = ⊤
IsCharFault result fault = ⊥

-- a word that has begun did so before this character
abbrev pub IsStarted : Mode → ℕ → Type 0
IsStarted (Word start begun) index = start ≤ index
IsStarted mode index = ⊤
