-- Expressions and operands (RP2040 Datasheet, 3.3, Values and Expressions). How tightly an operator binds is the project's own where
-- the manual is silent.
use Rattle.std.specs.Prelude.{◌==◌, ℕ, ◌+◌, ◌-◌, nat_le, Bool, true, false, if◌then◌else◌, List, [], ◌∷◌, ◌++◌, Option, None, Some, Result, Ok, Err}
use Rattle.std.specs.Option.{option_map_or}
use Rattle.pio_parse.specs.declared.token.Token.{Token}
use Rattle.pio_parse.specs.declared.token.TokenKind.{TokenKind}
use Rattle.pio_parse.specs.declared.token.TokenKind.TheVariants.{Name, Number, DoubleColon, OpenParenthesis, CloseParenthesis, Plus, Minus, Star}
use Rattle.pio_parse.specs.declared.expression.Operator.{Operator}
use Rattle.pio_parse.specs.declared.expression.Operator.TheVariants.{Add, Subtract, Multiply, Negate, Reverse}
use Rattle.pio_parse.specs.declared.expression.Pending.{Pending}
use Rattle.pio_parse.specs.declared.expression.Pending.TheVariants.{Parenthesis, Operator as OperatorPending}
use Rattle.pio_parse.specs.declared.expression.Reading.{Reading}
use Rattle.pio_parse.specs.declared.expression.Term.{Term}
use Rattle.pio_parse.specs.declared.expression.Term.TheVariants.{Number as NumberTerm, Name as NameTerm, Operator as OperatorTerm}
use Rattle.source_text.specs.declared.position.SourcePosition.{SourcePosition}
use Rattle.source_text.specs.Outcome.{and_then, map_ok}
use Rattle.pio_parse.specs.descent.Cursor.{Outcome, after_head, expected, misfit}
use Rattle.pio_parse.specs.Tokens.{head_kind, name_at}

-- how tightly an operator binds: `*` before `+` and `-`. A minus before its operand takes the product to its right, and `::` the sum
abbrev pub level_of : Operator → ℕ
level_of Multiply = 2
level_of Add = 1
level_of Subtract = 1
level_of Negate = 1
level_of Reverse = 0

-- the operators that wait since the last open parenthesis, and bind at least so tightly, have their last operand: they follow it
abbrev pub reduced : ℕ → List Pending → List Term → List Pending × List Term
reduced least [] output = ([], output)
reduced least (Parenthesis ∷ stack) output = (Parenthesis ∷ stack, output)
reduced least (OperatorPending operator ∷ stack) output =
    if nat_le least (level_of operator) then reduced least stack (output ++ OperatorTerm operator ∷ []) else (OperatorPending operator ∷ stack, output)

-- a token where an operand comes next
abbrev pub operand_step : List ℕ → TokenKind → SourcePosition → Reading → Result Reading SourcePosition
operand_step text (Number number) position reading = Ok (record reading { output = reading.output ++ NumberTerm number ∷ []; awaited = false })
operand_step text (Name span) position reading = Ok (record reading { output = reading.output ++ NameTerm (name_at text span) ∷ []; awaited = false })
operand_step text Minus position reading = Ok (record reading { stack = OperatorPending Negate ∷ reading.stack })
operand_step text DoubleColon position reading = Ok (record reading { stack = OperatorPending Reverse ∷ reading.stack })
operand_step text OpenParenthesis position reading = Ok (record reading { stack = Parenthesis ∷ reading.stack; depth = reading.depth + 1 })
operand_step text kind position reading = Err position

-- an operator between two operands
abbrev pub with_binary : Operator → Reading → Reading
with_binary operator reading =
    let parts = reduced (level_of operator) reading.stack reading.output in
    record reading { stack = OperatorPending operator ∷ parts.0; output = parts.1; awaited = true }

abbrev pub after_newest : List Pending → List Pending
after_newest [] = []
after_newest (pending ∷ stack) = stack

-- the end of an open parenthesis
abbrev pub with_closed : Reading → Reading
with_closed reading = let parts = reduced 0 reading.stack reading.output in record reading { stack = after_newest parts.0; output = parts.1; depth = reading.depth - 1 }

-- a token after an operand: the expression goes on, or it is over before the token. It is not over within parentheses
abbrev pub operator_step : TokenKind → SourcePosition → Reading → Result (Option Reading) SourcePosition
operator_step Star position reading = Ok (Some (with_binary Multiply reading))
operator_step Plus position reading = Ok (Some (with_binary Add reading))
operator_step Minus position reading = Ok (Some (with_binary Subtract reading))
operator_step CloseParenthesis position reading = if reading.depth == 0 then Ok None else Ok (Some (with_closed reading))
operator_step kind position reading = if reading.depth == 0 then Ok None else Err position

-- a token of an expression
abbrev pub token_step : List ℕ → TokenKind → SourcePosition → Reading → Result (Option Reading) SourcePosition
token_step text kind position reading = if reading.awaited then map_ok (λ next. Some next) (operand_step text kind position reading) else operator_step kind position reading

-- the expression that goes on with these tokens, in postfix order
abbrev pub expression_from : List ℕ → Reading → List Token → Outcome (List Term)
expression_from text reading [] = misfit []
expression_from text reading (token ∷ tokens) = and_then
    (λ next. option_map_or (λ reading. expression_from text reading tokens) next (Ok ((reduced 0 reading.stack reading.output).1, token ∷ tokens)))
    (token_step text token.kind token.position reading)

abbrev pub nothing_read : Reading
nothing_read = record { stack = []; output = []; awaited = true; depth = 0 }

-- the longest expression at the front of these tokens
abbrev pub expression_at : List ℕ → List Token → Outcome (List Term)
expression_at text tokens = expression_from text nothing_read tokens

abbrev pub is_close_parenthesis : TokenKind → Bool
is_close_parenthesis CloseParenthesis = true
is_close_parenthesis kind = false

abbrev pub operand_of_kind : List ℕ → TokenKind → List Token → Outcome (List Term)
operand_of_kind text (Number number) tokens = Ok (NumberTerm number ∷ [], after_head tokens)
operand_of_kind text (Name span) tokens = Ok (NameTerm (name_at text span) ∷ [], after_head tokens)
operand_of_kind text OpenParenthesis tokens = and_then
    (λ inner. map_ok (λ close. (inner.0, close.1)) (expected (is_close_parenthesis (head_kind inner.1)) inner.1)) (expression_at text (after_head tokens))
operand_of_kind text kind tokens = misfit tokens

-- an operand outside brackets and directives: a number, a name or an expression in parentheses
abbrev pub operand_at : List ℕ → List Token → Outcome (List Term)
operand_at text tokens = operand_of_kind text (head_kind tokens) tokens
