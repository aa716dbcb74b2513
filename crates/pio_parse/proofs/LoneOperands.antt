-- What is read outside brackets and directives is an operand of the grammar without an operator before it.
use Rattle.std.proofs.Common.{◌≡◌, ◌≢◌, ℕ, Bool, true, false, List, [], ◌∷◌, Ok, Err, refl, sym, ap, ◌∙◌, subst}
use Rattle.pio_parse.proofs.Shared.{false≢true, Token, TokenKind, Name as NameToken, Number as NumberToken, DoubleColon, OpenParenthesis, Minus, Term, expression_at, is_close_parenthesis, operand_at, operand_of_kind, map_ok, Outcome, expected, head_kind, IsValue, name_value, number_value, parentheses_value, Expr, IsOperand, postfix, number, name, parentheses, negate, reverse, ReadsOperands}
use Rattle.pio_parse.proofs.Completes.{value_is}
use Rattle.pio_parse.proofs.Expressions.{close_of}
use Rattle.pio_parse.proofs.Finds.{finds_tree}
use Rattle.pio_parse.proofs.Tests.{ok_is, refused}

abbrev is_sign : TokenKind → Bool
is_sign Minus = true
is_sign DoubleColon = true
is_sign kind = false

unsigned : (kind : TokenKind) → is_sign kind ≡ false → (kind ≢ Minus) × (kind ≢ DoubleColon)
unsigned kind h = (λ q. false≢true (sym h ∙ ap is_sign q), λ q. false≢true (sym h ∙ ap is_sign q))

module _ {text : List ℕ} where
  -- a value is an operand of the grammar without an operator before it
  operand_of : {tokens rest : List Token} {terms : List Term} → IsValue text tokens terms rest
      → (tree : Expr) × IsOperand text tokens tree rest × (head_kind tokens ≢ Minus) × (head_kind tokens ≢ DoubleColon) × (postfix tree ≡ terms)
  operand_of (number_value {token = token} is) = let away = unsigned token.kind (ap is_sign is) in (_, number is, away.0, away.1, refl)
  operand_of (name_value {token = token} is) = let away = unsigned token.kind (ap is_sign is) in (_, name is, away.0, away.1, refl)
  operand_of (parentheses_value {open_token = token} is sum closes) = let away = unsigned token.kind (ap is_sign is) in (_, parentheses is sum closes, away.0, away.1, refl)

  value_of : {tokens rest : List Token} {tree : Expr} → IsOperand text tokens tree rest → head_kind tokens ≢ Minus → head_kind tokens ≢ DoubleColon → IsValue text tokens (postfix tree) rest
  value_of (number is) no_minus no_colons = number_value is
  value_of (name is) no_minus no_colons = name_value is
  value_of (parentheses is sum closes) no_minus no_colons = parentheses_value is sum closes
  value_of (negate is more ends) no_minus no_colons = absurd (no_minus is)
  value_of (reverse is more ends) no_minus no_colons = absurd (no_colons is)

module _ (text : List ℕ) (terms : List Term) (rest : List Token) where
  closed : (token : Token) (tokens after : List Token) (inside : List Term) → token.kind ≡ OpenParenthesis → expression_at text tokens ≡ Ok (inside, after)
      → (test : Bool) → is_close_parenthesis (head_kind after) ≡ test → map_ok {Y = List Term × List Token} (λ (close : Unit {0} × List Token). (inside, close.1)) (expected test after) ≡ Ok (terms, rest)
      → IsValue text (token ∷ tokens) terms rest
  closed token tokens after inside is e false at q = absurd (refused q)
  closed token tokens [] inside is e true at q = absurd (false≢true at)
  closed token tokens (close ∷ after) inside is e true at q =
      let found = finds_tree text tokens inside (close ∷ after) e in
      let value : IsValue text (token ∷ tokens) (postfix found.0) after = parentheses_value is found.1.0 (close_of close.kind at) in
      subst (λ (x : List Term × List Token). IsValue text (token ∷ tokens) x.0 x.1) (ok_is q) (subst (λ (x : List Term). IsValue text (token ∷ tokens) x after) found.2 value)

  opened : (token : Token) (tokens : List Token) → token.kind ≡ OpenParenthesis → (inner : Outcome (List Term)) → expression_at text tokens ≡ inner
      → operand_of_kind text OpenParenthesis (token ∷ tokens) ≡ Ok (terms, rest) → IsValue text (token ∷ tokens) terms rest
  opened token tokens is (Err position) e q = absurd (refused (rw e at q))
  opened token tokens is (Ok (inside, after)) e q = closed token tokens after inside is e (is_close_parenthesis (head_kind after)) refl (rw e at q)

  value_by : (kind : TokenKind) (token : Token) (tokens : List Token) → token.kind ≡ kind → operand_of_kind text kind (token ∷ tokens) ≡ Ok (terms, rest) → IsValue text (token ∷ tokens) terms rest
  value_by (NumberToken n) token tokens is q = subst (λ (x : List Term × List Token). IsValue text (token ∷ tokens) x.0 x.1) (ok_is q) (number_value is)
  value_by (NameToken span) token tokens is q = subst (λ (x : List Term × List Token). IsValue text (token ∷ tokens) x.0 x.1) (ok_is q) (name_value is)
  value_by OpenParenthesis token tokens is q = opened token tokens is (expression_at text tokens) refl q
  value_by kind token tokens is q = absurd (refused q)

  value_there : (tokens : List Token) → operand_at text tokens ≡ Ok (terms, rest) → IsValue text tokens terms rest
  value_there [] q = absurd (refused q)
  value_there (token ∷ tokens) q = value_by token.kind token tokens refl q

pub reads_operands : ReadsOperands
reads_operands text tokens terms rest = (
  λ q. operand_of (value_there text terms rest tokens q),
  λ found. value_is (value_of found.1 found.2 found.3) ∙ ap (λ terms. Ok (terms, rest)) found.4,
)
