-- The grammar of expressions (RP2040 Datasheet, 3.3, Expressions), which knows nothing of how a program reads them:
--
--   expression ::= sum
--   sum        ::= product | sum `+` product | sum `-` product
--   product    ::= operand | product `*` operand
--   operand    ::= number | name | `(` expression `)` | `-` product | `::` sum
--
-- `+`, `-` and `*` take their operands from left to right. A minus before its operand takes the longest product to its right, and `::` the
-- longest sum: `-a * b` is `-(a * b)`, `::a + b` is `::(a + b)`, and `2 * -a * b` is `2 * (-(a * b))`.
use Rattle.std.specs.Prelude.{◌≡◌, ◌≢◌, ℕ, List, [], ◌∷◌, ◌++◌}
use Rattle.pio_parse.specs.declared.token.Span.{Span}
use Rattle.pio_parse.specs.declared.token.Token.{Token}
use Rattle.pio_parse.specs.declared.token.TokenKind.TheVariants.{Name as NameToken, Number as NumberToken, DoubleColon, OpenParenthesis, CloseParenthesis, Plus, Minus, Star}
use Rattle.pio_parse.specs.declared.expression.Operator.TheVariants.{Add, Subtract, Multiply, Negate as NegateOperator, Reverse as ReverseOperator}
use Rattle.pio_parse.specs.declared.expression.Term.{Term}
use Rattle.pio_parse.specs.declared.expression.Term.TheVariants.{Number as NumberTerm, Name as NameTerm, Operator as OperatorTerm}
use Rattle.pio_parse.specs.Tokens.{head_kind, name_at}

-- an expression as a tree; a name is its text
pub data Expr : Type 0 where
  Number : ℕ → Expr
  Name : List ℕ → Expr
  Negate : Expr → Expr
  Reverse : Expr → Expr
  Sum : Expr → Expr → Expr
  Difference : Expr → Expr → Expr
  Product : Expr → Expr → Expr

-- a tree in postfix order: each operator after its operands
abbrev pub postfix : Expr → List Term
postfix (Number n) = NumberTerm n ∷ []
postfix (Name name) = NameTerm name ∷ []
postfix (Negate tree) = postfix tree ++ OperatorTerm NegateOperator ∷ []
postfix (Reverse tree) = postfix tree ++ OperatorTerm ReverseOperator ∷ []
postfix (Sum left right) = postfix left ++ postfix right ++ OperatorTerm Add ∷ []
postfix (Difference left right) = postfix left ++ postfix right ++ OperatorTerm Subtract ∷ []
postfix (Product left right) = postfix left ++ postfix right ++ OperatorTerm Multiply ∷ []

-- a product goes no further than here: no `*` follows
abbrev pub EndsProduct : List Token → Type 0
EndsProduct rest = head_kind rest ≢ Star

-- a sum goes no further than here: none of `*`, `+` and `-` follows
abbrev pub EndsSum : List Token → Type 0
EndsSum rest = (head_kind rest ≢ Star) × (head_kind rest ≢ Plus) × (head_kind rest ≢ Minus)

-- `IsSum text tokens tree rest`: the tokens of a file's text, up to the rest of them, are a sum with this tree; and so for a product and an
-- operand. Each constructor is an alternative of the grammar
mutual
  pub data IsSum (text : List ℕ) : List Token → Expr → List Token → Type 0 where
    -- product
    product : {tokens rest : List Token} {tree : Expr} → IsProduct text tokens tree rest → IsSum text tokens tree rest
    -- sum `+` product
    plus : {tokens middle rest : List Token} {left right : Expr} {sign : Token}
        → IsSum text tokens left (sign ∷ middle) → sign.kind ≡ Plus → IsProduct text middle right rest → IsSum text tokens (Sum left right) rest
    -- sum `-` product
    minus : {tokens middle rest : List Token} {left right : Expr} {sign : Token}
        → IsSum text tokens left (sign ∷ middle) → sign.kind ≡ Minus → IsProduct text middle right rest → IsSum text tokens (Difference left right) rest

  pub data IsProduct (text : List ℕ) : List Token → Expr → List Token → Type 0 where
    -- operand
    operand : {tokens rest : List Token} {tree : Expr} → IsOperand text tokens tree rest → IsProduct text tokens tree rest
    -- product `*` operand
    times : {tokens middle rest : List Token} {left right : Expr} {sign : Token}
        → IsProduct text tokens left (sign ∷ middle) → sign.kind ≡ Star → IsOperand text middle right rest → IsProduct text tokens (Product left right) rest

  pub data IsOperand (text : List ℕ) : List Token → Expr → List Token → Type 0 where
    -- number
    number : {rest : List Token} {token : Token} {n : ℕ} → token.kind ≡ NumberToken n → IsOperand text (token ∷ rest) (Number n) rest
    -- name
    name : {rest : List Token} {token : Token} {span : Span} → token.kind ≡ NameToken span → IsOperand text (token ∷ rest) (Name (name_at text span)) rest
    -- `(` expression `)`
    parentheses : {inner rest : List Token} {tree : Expr} {open_token close_token : Token}
        → open_token.kind ≡ OpenParenthesis → IsSum text inner tree (close_token ∷ rest) → close_token.kind ≡ CloseParenthesis
        → IsOperand text (open_token ∷ inner) tree rest
    -- `-` product: the longest one, with no `*` after it
    negate : {inner rest : List Token} {tree : Expr} {sign : Token}
        → sign.kind ≡ Minus → IsProduct text inner tree rest → EndsProduct rest → IsOperand text (sign ∷ inner) (Negate tree) rest
    -- `::` sum: the longest one, with none of `*`, `+` and `-` after it
    reverse : {inner rest : List Token} {tree : Expr} {sign : Token}
        → sign.kind ≡ DoubleColon → IsSum text inner tree rest → EndsSum rest → IsOperand text (sign ∷ inner) (Reverse tree) rest

-- the longest expression at the front of a line's tokens, and its tree. The token after it shows that it is over: each line has one, its end at the latest
abbrev pub IsExpression : List ℕ → List Token → Expr → List Token → Type 0
IsExpression text tokens tree rest = IsSum text tokens tree rest × EndsSum rest × (rest ≢ [])

-- with some further tokens, these begin with an expression
abbrev pub BeginsExpression : List ℕ → List Token → Type 0
BeginsExpression text tokens = (further : List Token) × (tree : Expr) × (rest : List Token) × IsExpression text (tokens ++ further) tree rest
