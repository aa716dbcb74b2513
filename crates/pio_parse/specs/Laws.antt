-- What holds of the expressions that are read (RP2040 Datasheet, 3.3, Expressions): they are those of the grammar.
use Rattle.std.specs.Prelude.{◌≡◌, ◌≢◌, ◌↔◌, ◌≤◌, ℕ, Bool, true, false, List, [], ◌∷◌, ◌++◌, length, Ok, Err}
use Rattle.source_text.specs.declared.position.SourcePosition.{SourcePosition}
use Rattle.pio_parse.specs.declared.token.Token.{Token}
use Rattle.pio_parse.specs.declared.token.TokenKind.{TokenKind}
use Rattle.pio_parse.specs.declared.token.TokenKind.TheVariants.{CloseParenthesis, DoubleColon, LineEnd, Minus, Number as NumberToken, OpenParenthesis, Plus, Star}
use Rattle.pio_parse.specs.declared.expression.Term.{Term}
use Rattle.pio_parse.specs.Tokens.{head_kind, is_end}
use Rattle.pio_parse.specs.descent.Expression.{expression_at, operand_at}
use Rattle.pio_parse.specs.descent.Scan.{scanned}
use Rattle.pio_parse.specs.Lexical.{IsCharFaultAt, IsLexed}
use Rattle.pio_parse.specs.Grammar.{BeginsExpression, Expr, IsExpression, IsOperand, IsSum, postfix}
use Rattle.pio_parse.specs.Grammar.Expr.{Number, Negate, Reverse, Sum, Difference, Product}

-- the tokens that are read are those of the lexemes of the file's characters
abbrev pub LexesExactly : Type 0
LexesExactly = (text : List ℕ) (tokens : List Token) → (scanned text ≡ Ok tokens) ↔ IsLexed text tokens

-- a file is refused for a character where its characters are lexemes up to this one, and none stands here
abbrev pub CharFaultsAtFirst : Type 0
CharFaultsAtFirst = (text : List ℕ) (position : SourcePosition) → (scanned text ≡ Err position) ↔ IsCharFaultAt text position

-- what is read at the front of the tokens is an expression of the grammar in postfix order, and each expression of the grammar is read
abbrev pub ReadsGrammar : Type 0
ReadsGrammar = (text : List ℕ) (tokens : List Token) (terms : List Term) (rest : List Token)
    → (expression_at text tokens ≡ Ok (terms, rest)) ↔ ((tree : Expr) × IsExpression text tokens tree rest × (postfix tree ≡ terms))

-- the grammar gives tokens one expression at most: one tree and one end
abbrev pub OneExpression : Type 0
OneExpression = (text : List ℕ) (tokens : List Token) (tree other : Expr) (rest rest' : List Token)
    → IsExpression text tokens tree rest → IsExpression text tokens other rest' → (tree ≡ other) × (rest ≡ rest')

-- no sum at the front of the tokens goes further than their expression
abbrev pub NoneLonger : Type 0
NoneLonger = (text : List ℕ) (tokens : List Token) (tree other : Expr) (rest rest' : List Token)
    → IsExpression text tokens tree rest → IsSum text tokens other rest' → length rest ≤ length rest'

-- what is read outside brackets and directives is an operand of the grammar without an operator before it, and each such operand is read
abbrev pub ReadsOperands : Type 0
ReadsOperands = (text : List ℕ) (tokens : List Token) (terms : List Term) (rest : List Token)
    → (operand_at text tokens ≡ Ok (terms, rest))
    ↔ ((tree : Expr) × IsOperand text tokens tree rest × (head_kind tokens ≢ Minus) × (head_kind tokens ≢ DoubleColon) × (postfix tree ≡ terms))

-- the last of the tokens ends a line, as that of each line and of each part of one up to its end does
abbrev pub ends_line : List Token → Bool
ends_line [] = false
ends_line (token ∷ []) = is_end token.kind
ends_line (token ∷ next ∷ tokens) = ends_line (next ∷ tokens)

-- where an expression has to stand, a line is refused at the first token with which none begins as the tokens up to it do
abbrev pub FaultsAtFirst : Type 0
FaultsAtFirst = (text : List ℕ) (tokens : List Token) (position : SourcePosition) → ends_line tokens ≡ true
    → (expression_at text tokens ≡ Err position)
    ↔ ((before : List Token) × (token : Token) × (after : List Token)
    × (tokens ≡ before ++ token ∷ after) × (token.position ≡ position)
    × BeginsExpression text before × ¬ BeginsExpression text (before ++ token ∷ []))

-- tokens of these kinds
abbrev pub tokens_of : List TokenKind → List Token
tokens_of [] = []
tokens_of (kind ∷ kinds) = record { kind = kind; position = record { line = 1; column = 1 } } ∷ tokens_of kinds

-- tokens of these kinds, and nothing more of their line, are an expression with this tree
abbrev pub IsTreeOf : Expr → List TokenKind → Type 0
IsTreeOf tree kinds = (text : List ℕ) → IsExpression text (tokens_of (kinds ++ LineEnd ∷ [])) tree (tokens_of (LineEnd ∷ []))

-- what the operators take
abbrev pub Examples : Type 0
Examples =
    -- 1 - 2 - 3 and 1 + 2 * 3
    IsTreeOf (Difference (Difference (Number 1) (Number 2)) (Number 3)) (NumberToken 1 ∷ Minus ∷ NumberToken 2 ∷ Minus ∷ NumberToken 3 ∷ [])
    × IsTreeOf (Sum (Number 1) (Product (Number 2) (Number 3))) (NumberToken 1 ∷ Plus ∷ NumberToken 2 ∷ Star ∷ NumberToken 3 ∷ [])
    -- -1 * 2 + 3 and 1 * -2 * 3 + 4
    × IsTreeOf (Sum (Negate (Product (Number 1) (Number 2))) (Number 3)) (Minus ∷ NumberToken 1 ∷ Star ∷ NumberToken 2 ∷ Plus ∷ NumberToken 3 ∷ [])
    × IsTreeOf (Sum (Product (Number 1) (Negate (Product (Number 2) (Number 3)))) (Number 4))
    (NumberToken 1 ∷ Star ∷ Minus ∷ NumberToken 2 ∷ Star ∷ NumberToken 3 ∷ Plus ∷ NumberToken 4 ∷ [])
    -- ::1 + 2, 1 * ::2 + 3 and (::1) + 2
    × IsTreeOf (Reverse (Sum (Number 1) (Number 2))) (DoubleColon ∷ NumberToken 1 ∷ Plus ∷ NumberToken 2 ∷ [])
    × IsTreeOf (Product (Number 1) (Reverse (Sum (Number 2) (Number 3)))) (NumberToken 1 ∷ Star ∷ DoubleColon ∷ NumberToken 2 ∷ Plus ∷ NumberToken 3 ∷ [])
    × IsTreeOf (Sum (Reverse (Number 1)) (Number 2)) (OpenParenthesis ∷ DoubleColon ∷ NumberToken 1 ∷ CloseParenthesis ∷ Plus ∷ NumberToken 2 ∷ [])
