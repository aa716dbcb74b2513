-- Where the stack of waiting operators accepts tokens, the grammar has a tree for them.
use Rattle.std.proofs.Common.{◌≡◌, ◌≢◌, ◌==◌, ◌⊎◌, inl, inr, ℕ, zero, suc, pred, ◌+◌, ◌<◌, ◌≤◌, Bool, true, false, List, [], ◌∷◌, ◌++◌, length, length-append, None, Ok, Err, arith, refl, sym, ap, ◌∙◌, subst}
use Rattle.pio_parse.proofs.Shared.{false≢true, SourcePosition, Span, Token, TokenKind, Name as NameToken, Number as NumberToken, DoubleColon, OpenParenthesis, CloseParenthesis, Plus, Minus, Star, Add, Subtract, Multiply, NegateOperator, ReverseOperator, Term, OperatorTerm, Pending, Reading, expression_at, operand_step, operator_step, Parenthesis, OperatorPending, head_kind, name_at, EndsProduct, EndsSum, Expr, IsExpression, IsOperand, IsProduct, IsSum, postfix, NumberTree as Number, NameTree as Name, Negate, Reverse, Sum, Difference, Product, product, plus, minus_sum as minus, operand, times, number, name, parentheses, negate, reverse}
use Rattle.pio_parse.specs.Laws.{NoneLonger}
use Rattle.pio_parse.proofs.Extents.{extent_of}
use Rattle.pio_parse.proofs.Tests.{refused, same_left, same_value}
use Rattle.pio_parse.proofs.Follows.{after_operand, before_operand, binds_less, binds_less-two, follows_operand, follows_product, follows_sum, goes_in, goes_in_negate, goes_in_reverse, goes_on_minus, goes_on_plus, goes_on_times, is_star, level_for_operand, level_for_product, settled, suc-not_zero}

abbrev pub is_none_left : List Token → Bool
is_none_left [] = true
is_none_left (token ∷ tokens) = false

abbrev pub is_plus : TokenKind → Bool
is_plus Plus = true
is_plus kind = false

abbrev pub is_minus : TokenKind → Bool
is_minus Minus = true
is_minus kind = false

-- how an expression goes on after an operand
data Next (kind : TokenKind) : Type 0 where
  next_times : kind ≡ Star → Next kind
  next_plus : kind ≡ Plus → Next kind
  next_minus : kind ≡ Minus → Next kind
  next_other : kind ≢ Star → kind ≢ Plus → kind ≢ Minus → Next kind

next_of : (kind : TokenKind) → Next kind
next_of Star = next_times refl
next_of Plus = next_plus refl
next_of Minus = next_minus refl
next_of kind = next_other (λ e. false≢true (ap is_star e)) (λ e. false≢true (ap is_plus e)) (λ e. false≢true (ap is_minus e))

-- how an operand begins
pub data First (kind : TokenKind) : Type 0 where
  first_number : (n : ℕ) → kind ≡ NumberToken n → First kind
  first_name : (span : Span) → kind ≡ NameToken span → First kind
  first_open : kind ≡ OpenParenthesis → First kind
  first_minus : kind ≡ Minus → First kind
  first_colons : kind ≡ DoubleColon → First kind
  first_other : ((text : List ℕ) (position : SourcePosition) (reading : Reading) → operand_step text kind position reading ≡ Err position) → First kind

pub first_of_kind : (kind : TokenKind) → First kind
first_of_kind (NumberToken n) = first_number n refl
first_of_kind (NameToken span) = first_name span refl
first_of_kind OpenParenthesis = first_open refl
first_of_kind Minus = first_minus refl
first_of_kind DoubleColon = first_colons refl
first_of_kind kind = first_other (λ text position reading. refl)

-- what a token after a whole expression comes to
over_or : (kind : TokenKind) → kind ≢ Star → kind ≢ Plus → kind ≢ Minus → (position : SourcePosition) (reading : Reading) → (reading.depth == 0) ≡ true → operator_step kind position reading ≡ Ok None
over_or Star h i j position reading e = absurd (h refl)
over_or Plus h i j position reading e = absurd (i refl)
over_or Minus h i j position reading e = absurd (j refl)
over_or kind h i j position reading e = rw e refl

-- within parentheses an expression goes on or is closed
close_or : (kind : TokenKind) → kind ≢ Star → kind ≢ Plus → kind ≢ Minus
    → (kind ≡ CloseParenthesis) ⊎ ((position : SourcePosition) (reading : Reading) → (reading.depth == 0) ≡ false → operator_step kind position reading ≡ Err position)
close_or Star h i j = absurd (h refl)
close_or Plus h i j = absurd (i refl)
close_or Minus h i j = absurd (j refl)
close_or CloseParenthesis h i j = inl refl
close_or kind h i j = inr (λ position reading e. rw e refl)

-- what stands at the front of tokens has tokens
mutual
  sum_shorter : {text : List ℕ} {tokens rest : List Token} {tree : Expr} → IsSum text tokens tree rest → length rest < length tokens
  sum_shorter (product is) = product_shorter is
  sum_shorter (plus is sign_is more) = omega (arith, sum_shorter is, product_shorter more)
  sum_shorter (minus is sign_is more) = omega (arith, sum_shorter is, product_shorter more)

  product_shorter : {text : List ℕ} {tokens rest : List Token} {tree : Expr} → IsProduct text tokens tree rest → length rest < length tokens
  product_shorter (operand is) = operand_shorter is
  product_shorter (times is star more) = omega (arith, product_shorter is, operand_shorter more)

  operand_shorter : {text : List ℕ} {tokens rest : List Token} {tree : Expr} → IsOperand text tokens tree rest → length rest < length tokens
  operand_shorter (number is) = omega arith
  operand_shorter (name is) = omega arith
  operand_shorter (parentheses opens is closes) = omega (arith, sum_shorter is)
  operand_shorter (negate sign_is is over) = omega (arith, product_shorter is)
  operand_shorter (reverse sign_is is over) = omega (arith, sum_shorter is)

module _ (text : List ℕ) (answer : List Term × List Token) where
  -- what is found at the front of tokens that are accepted: an operand, and a product and a sum that go no further
  abbrev OperandFound : List Token → Type 0
  OperandFound tokens = (tree : Expr) × (rest : List Token) × IsOperand text tokens tree rest

  abbrev ProductFound : List Token → Type 0
  ProductFound tokens = (tree : Expr) × (rest : List Token) × EndsProduct rest × IsProduct text tokens tree rest

  abbrev SumFound : List Token → Type 0
  SumFound tokens = (tree : Expr) × (rest : List Token) × EndsSum rest × IsSum text tokens tree rest

  abbrev FindsOperand : ℕ → Type 0
  FindsOperand bound = (tokens : List Token) (stack : List Pending) (output : List Term) (depth : ℕ) → length tokens ≤ bound → before_operand text stack output depth tokens ≡ Ok answer → OperandFound tokens

  -- where a product, or a sum, stands at the front of the tokens already
  abbrev ProductOn : ℕ → Type 0
  ProductOn bound = (tokens middle : List Token) (tree : Expr) (stack : List Pending) (output : List Term) (depth : ℕ) → length middle ≤ bound → binds_less 2 stack ≡ true
      → IsProduct text tokens tree middle → after_operand text stack output depth middle ≡ Ok answer → ProductFound tokens

  abbrev SumOn : ℕ → Type 0
  SumOn bound = (tokens middle : List Token) (tree : Expr) (stack : List Pending) (output : List Term) (depth : ℕ) → length middle ≤ bound → binds_less 1 stack ≡ true → head_kind middle ≢ Star
      → IsSum text tokens tree middle → after_operand text stack output depth middle ≡ Ok answer → SumFound tokens

  -- it is found where no more tokens than this are left
  record Finds (bound : ℕ) : Type 0 where
    operands : FindsOperand bound
    products : ProductOn bound
    sums : SumOn bound

  found_close : (stack : List Pending) (output : List Term) (depth : ℕ) (tokens : List Token) → EndsSum tokens
      → after_operand text stack output (depth + 1) tokens ≡ Ok answer
      → (token : Token) × (rest : List Token) × (tokens ≡ token ∷ rest) × (token.kind ≡ CloseParenthesis)
  found_close stack output depth [] over e = absurd (refused e)
  found_close stack output depth (token ∷ rest) over e = (token, rest, refl, close (close_or token.kind over.0 over.1 over.2))
    where
      close : (token.kind ≡ CloseParenthesis) ⊎ ((position : SourcePosition) (reading : Reading) → (reading.depth == 0) ≡ false → operator_step token.kind position reading ≡ Err position) → token.kind ≡ CloseParenthesis
      close (inl is) = is
      close (inr other) = absurd (refused (rw (other token.position (record { stack = stack; output = output; awaited = false; depth = depth + 1 }) (suc-not_zero depth)) at e))

  module _ (bound : ℕ) (f : Finds bound) where
    product_there : (tokens : List Token) (stack : List Pending) (output : List Term) (depth : ℕ) → length tokens ≤ bound → binds_less 2 stack ≡ true → before_operand text stack output depth tokens ≡ Ok answer → ProductFound tokens
    product_there tokens stack output depth le h e =
        let found = f.operands tokens stack output depth le e in
        f.products tokens found.1 found.0 stack (output ++ postfix found.0) depth (omega (arith, le, operand_shorter found.2)) h (operand found.2) (sym (follows_operand found.2 stack output depth) ∙ e)

    sum_there : (tokens : List Token) (stack : List Pending) (output : List Term) (depth : ℕ) → length tokens ≤ bound → binds_less 1 stack ≡ true → before_operand text stack output depth tokens ≡ Ok answer → SumFound tokens
    sum_there tokens stack output depth le h e =
        let found = product_there tokens stack output depth le (binds_less-two stack h) e in
        f.sums tokens found.1 found.0 stack (output ++ postfix found.0) depth (omega (arith, le, product_shorter found.3)) h found.2 (product found.3)
        (sym (follows_product found.3 stack output depth (binds_less-two stack h)) ∙ e)

    -- an operand by its first token
    operand_by : (token : Token) (tokens : List Token) (stack : List Pending) (output : List Term) (depth : ℕ) → length tokens ≤ bound
        → before_operand text stack output depth (token ∷ tokens) ≡ Ok answer → First token.kind → OperandFound (token ∷ tokens)
    operand_by token tokens stack output depth le e (first_number n is) = (Number n, tokens, number is)
    operand_by token tokens stack output depth le e (first_name span is) = (Name (name_at text span), tokens, name is)
    operand_by token tokens stack output depth le e (first_open is) =
        let inside = sym (goes_in text stack output depth token tokens is) ∙ e in
        let found = sum_there tokens (Parenthesis ∷ stack) output (depth + 1) le refl inside in
        let close = found_close (Parenthesis ∷ stack) (output ++ postfix found.0) depth found.1 found.2 (sym (follows_sum found.3 (Parenthesis ∷ stack) output (depth + 1) refl found.2.0) ∙ inside) in
        (found.0, close.1, parentheses is (subst (IsSum text tokens found.0) close.2 found.3) close.3)
    operand_by token tokens stack output depth le e (first_minus is) =
        let found = product_there tokens (OperatorPending NegateOperator ∷ stack) output depth le refl (sym (goes_in_negate text stack output depth token tokens is) ∙ e) in
        (Negate found.0, found.1, negate is found.3 found.2)
    operand_by token tokens stack output depth le e (first_colons is) =
        let found = sum_there tokens (OperatorPending ReverseOperator ∷ stack) output depth le refl (sym (goes_in_reverse text stack output depth token tokens is) ∙ e) in
        (Reverse found.0, found.1, reverse is found.3 found.2)
    operand_by token tokens stack output depth le e (first_other is) =
        absurd (refused (rw (is text token.position (record { stack = stack; output = output; awaited = true; depth = depth })) at e))

    -- a product by the token after it: one more `*` and its operand, or its end
    product_by : (tokens middle : List Token) (sign : Token) (tree : Expr) (stack : List Pending) (output : List Term) (depth : ℕ) → length middle ≤ bound → binds_less 2 stack ≡ true
        → IsProduct text tokens tree (sign ∷ middle) → after_operand text stack output depth (sign ∷ middle) ≡ Ok answer → Next sign.kind → ProductFound tokens
    product_by tokens middle sign tree stack output depth le h is e (next_times star) =
        let after = sym (goes_on_times text stack output depth sign middle star h) ∙ e in
        let found = f.operands middle (OperatorPending Multiply ∷ stack) output depth le after in
        f.products tokens found.1 (Product tree found.0) stack ((output ++ postfix found.0) ++ OperatorTerm Multiply ∷ []) depth (omega (arith, le, operand_shorter found.2)) h (times is star found.2)
        (sym (settled text Multiply stack (output ++ postfix found.0) depth found.1 (level_for_operand (head_kind found.1))) ∙ sym (follows_operand found.2 (OperatorPending Multiply ∷ stack) output depth) ∙ after)
    product_by tokens middle sign tree stack output depth le h is e (next_plus is_next) = (tree, sign ∷ middle, (λ q. false≢true (ap is_star (sym is_next ∙ q))), is)
    product_by tokens middle sign tree stack output depth le h is e (next_minus is_next) = (tree, sign ∷ middle, (λ q. false≢true (ap is_star (sym is_next ∙ q))), is)
    product_by tokens middle sign tree stack output depth le h is e (next_other no_star no_plus no_minus) = (tree, sign ∷ middle, no_star, is)

    -- a sum by the token after it: one more `+` or `-` and its product, or its end
    sum_by : (tokens middle : List Token) (sign : Token) (tree : Expr) (stack : List Pending) (output : List Term) (depth : ℕ) → length middle ≤ bound → binds_less 1 stack ≡ true → sign.kind ≢ Star
        → IsSum text tokens tree (sign ∷ middle) → after_operand text stack output depth (sign ∷ middle) ≡ Ok answer → Next sign.kind → SumFound tokens
    sum_by tokens middle sign tree stack output depth le h no_star is e (next_times star) = absurd (no_star star)
    sum_by tokens middle sign tree stack output depth le h no_star is e (next_plus sign_is) =
        let after = sym (goes_on_plus text stack output depth sign middle sign_is h) ∙ e in
        let found = product_there middle (OperatorPending Add ∷ stack) output depth le refl after in
        f.sums tokens found.1 (Sum tree found.0) stack ((output ++ postfix found.0) ++ OperatorTerm Add ∷ []) depth (omega (arith, le, product_shorter found.3)) h found.2 (plus is sign_is found.3)
        (sym (settled text Add stack (output ++ postfix found.0) depth found.1 (level_for_product (head_kind found.1) found.2)) ∙ sym (follows_product found.3 (OperatorPending Add ∷ stack) output depth refl) ∙ after)
    sum_by tokens middle sign tree stack output depth le h no_star is e (next_minus sign_is) =
        let after = sym (goes_on_minus text stack output depth sign middle sign_is h) ∙ e in
        let found = product_there middle (OperatorPending Subtract ∷ stack) output depth le refl after in
        f.sums tokens found.1 (Difference tree found.0) stack ((output ++ postfix found.0) ++ OperatorTerm Subtract ∷ []) depth (omega (arith, le, product_shorter found.3)) h found.2 (minus is sign_is found.3)
        (sym (settled text Subtract stack (output ++ postfix found.0) depth found.1 (level_for_product (head_kind found.1) found.2)) ∙ sym (follows_product found.3 (OperatorPending Subtract ∷ stack) output depth refl) ∙ after)
    sum_by tokens middle sign tree stack output depth le h no_star is e (next_other no_times no_plus no_minus) = (tree, sign ∷ middle, (no_times, no_plus, no_minus), is)

  within : (n bound : ℕ) → suc n ≤ bound → n ≤ pred bound
  within n zero le = absurd (omega (arith, le))
  within n (suc bound) le = omega (arith, le)

  module _ (bound : ℕ) (earlier : 0 < bound → Finds (pred bound)) where
    operand_more : FindsOperand bound
    operand_more [] stack output depth le e = absurd (refused e)
    operand_more (token ∷ tokens) stack output depth le e = operand_by (pred bound) (earlier (omega (arith, le))) token tokens stack output depth (within (length tokens) bound le) e (first_of_kind token.kind)

    product_more : ProductOn bound
    product_more tokens [] tree stack output depth le h is e = absurd (refused e)
    product_more tokens (sign ∷ middle) tree stack output depth le h is e = product_by (pred bound) (earlier (omega (arith, le))) tokens middle sign tree stack output depth (within (length middle) bound le) h is e (next_of sign.kind)

    sum_more : SumOn bound
    sum_more tokens [] tree stack output depth le h no_star is e = absurd (refused e)
    sum_more tokens (sign ∷ middle) tree stack output depth le h no_star is e = sum_by (pred bound) (earlier (omega (arith, le))) tokens middle sign tree stack output depth (within (length middle) bound le) h no_star is e (next_of sign.kind)

    finds_more : Finds bound
    finds_more = record { operands = operand_more; products = product_more; sums = sum_more }

  finds_all : (bound : ℕ) → Finds bound
  finds_all zero = finds_more zero (λ some. absurd (omega (arith, some)))
  finds_all (suc bound) = finds_more (suc bound) (λ some. finds_all bound)

  pub finds : (tokens : List Token) → before_operand text [] [] 0 tokens ≡ Ok answer → SumFound tokens
  finds tokens e = sum_there (length tokens) (finds_all (length tokens)) tokens [] [] 0 (omega arith) refl e

-- an expression is over at a token with which it does not go on
over : (text : List ℕ) (output : List Term) (token : Token) (rest : List Token) → EndsSum (token ∷ rest) → after_operand text [] output 0 (token ∷ rest) ≡ Ok (output, token ∷ rest)
over text output token rest ends =
    rw (over_or token.kind ends.0 ends.1 ends.2 token.position (record { stack = []; output = output; awaited = false; depth = 0 }) refl) refl

-- each expression of the grammar is read
pub reads : (text : List ℕ) (tokens : List Token) (tree : Expr) (rest : List Token) → IsExpression text tokens tree rest → expression_at text tokens ≡ Ok (postfix tree, rest)
reads text tokens tree [] is = absurd (is.2 refl)
reads text tokens tree (token ∷ rest) is = follows_sum is.0 [] [] 0 refl is.1.0 ∙ over text (postfix tree) token rest is.1

module _ (text : List ℕ) (tokens : List Token) (terms : List Term) (rest : List Token) (e : expression_at text tokens ≡ Ok (terms, rest)) where
  found_whole : (tree : Expr) (end : List Token) → IsSum text tokens tree end → EndsSum end → (tree : Expr) × IsExpression text tokens tree rest × (postfix tree ≡ terms)
  found_whole tree [] is ends = absurd (refused (sym (follows_sum is [] [] 0 refl ends.0) ∙ e))
  found_whole tree (token ∷ end) is ends =
      let same = sym (follows_sum is [] [] 0 refl ends.0 ∙ over text (postfix tree) token end ends) ∙ e in
      (tree, subst (IsExpression text tokens tree) (same_left same) (is, ends, not_none), same_value same)
    where
      not_none : token ∷ end ≢ []
      not_none q = false≢true (ap is_none_left q)

  pub finds_tree : (tree : Expr) × IsExpression text tokens tree rest × (postfix tree ≡ terms)
  finds_tree = let found = finds text (terms, rest) tokens e in found_whole found.0 found.1 found.3 found.2

-- tokens with a sum at their front are read from its end on
from_end : (text : List ℕ) (answer : List Term × List Token) {tokens rest : List Token} {tree : Expr} → IsSum text tokens tree rest → before_operand text [] [] 0 tokens ≡ Ok answer
    → (stack : List Pending) × (output : List Term) × (after_operand text stack output 0 rest ≡ Ok answer)
from_end text answer (product {tree = tree} is) e = ([], postfix tree, sym (follows_product is [] [] 0 refl) ∙ e)
from_end text answer (plus {middle = middle} {left = left} {right = right} {sign = sign} is sign_is more) e = (
  OperatorPending Add ∷ [],
  postfix left ++ postfix right,
  sym (follows_product more (OperatorPending Add ∷ []) (postfix left) 0 refl) ∙ sym (goes_on_plus text [] (postfix left) 0 sign middle sign_is refl)
      ∙ sym (follows_sum is [] [] 0 refl (λ q. false≢true (ap is_star (sym sign_is ∙ q)))) ∙ e,
)
from_end text answer (minus {middle = middle} {left = left} {right = right} {sign = sign} is sign_is more) e = (
  OperatorPending Subtract ∷ [],
  postfix left ++ postfix right,
  sym (follows_product more (OperatorPending Subtract ∷ []) (postfix left) 0 refl) ∙ sym (goes_on_minus text [] (postfix left) 0 sign middle sign_is refl)
      ∙ sym (follows_sum is [] [] 0 refl (λ q. false≢true (ap is_star (sym sign_is ∙ q)))) ∙ e,
)

pub none_longer : NoneLonger
none_longer text tokens tree other rest rest' is sum =
    let at = from_end text (postfix tree, rest) sum (reads text tokens tree rest is) in
    let e = extent_of text rest' (record { stack = at.0; output = at.1; awaited = false; depth = 0 }) (postfix tree) rest at.2 in
    let whole : rest' ≡ e.consumed ++ rest = e.whole in
    omega (arith, ap length whole, length-append e.consumed rest)
