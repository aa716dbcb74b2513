-- How a line is read: from the front of its tokens, up to the first token that fits nothing. The grammar is that of the RP2040
-- Datasheet, 3.3; the position of a fault is the project's own.
use Rattle.std.specs.Prelude.{Bool, if◌then◌else◌, List, [], ◌∷◌, Result, Ok, Err}
use Rattle.source_text.specs.declared.position.SourcePosition.{SourcePosition}
use Rattle.pio_parse.specs.declared.token.Token.{Token}
use Rattle.pio_parse.specs.Tokens.{head_position}

-- what is read from the front of a line's tokens and the tokens after it, or the position of the first token that fits nothing
abbrev pub Outcome : Type 0 → Type 0
Outcome X = Result (X × List Token) SourcePosition

abbrev pub after_head : List Token → List Token
after_head [] = []
after_head (token ∷ tokens) = tokens

-- the next token fits nothing
abbrev pub misfit : {X : Type 0} → List Token → Outcome X
misfit tokens = Err (head_position tokens)

-- one token that has to fit
abbrev pub expected : Bool → List Token → Outcome (Unit {0})
expected fits tokens = if fits then Ok (tt, after_head tokens) else misfit tokens
