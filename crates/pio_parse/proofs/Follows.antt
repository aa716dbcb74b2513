-- The stack of waiting operators follows the grammar: where tokens are a sum, a product or an operand, it comes to the terms of its tree.
use Rattle.std.proofs.Common.{◌≡◌, ◌≢◌, ◌==◌, ℕ, ◌+◌, ◌-◌, nat_le, Bool, true, false, not, if◌then◌else◌, List, [], ◌∷◌, ◌++◌, Option, Some, None, Result, Ok, Err, arith, refl, sym, ap, ◌∙◌, append_assoc}
use Rattle.pio_parse.proofs.Shared.{false≢true, option_map_or, SourcePosition, Token, TokenKind, DoubleColon, OpenParenthesis, CloseParenthesis, Plus, Minus, Star, Operator, Add, Subtract, Multiply, NegateOperator, ReverseOperator, Term, OperatorTerm, Pending, Reading, expression_from, level_of, operator_step, reduced, with_closed, Parenthesis, OperatorPending, and_then, Outcome, head_kind, Expr, IsOperand, IsProduct, IsSum, postfix, product, plus, minus_sum as minus, operand, times, number, name, parentheses, negate, reverse}

-- what is read where an operand comes next, and after an operand
abbrev pub before_operand : List ℕ → List Pending → List Term → ℕ → List Token → Outcome (List Term)
before_operand text stack output depth tokens = expression_from text (record { stack = stack; output = output; awaited = true; depth = depth }) tokens

abbrev pub after_operand : List ℕ → List Pending → List Term → ℕ → List Token → Outcome (List Term)
after_operand text stack output depth tokens = expression_from text (record { stack = stack; output = output; awaited = false; depth = depth }) tokens

-- how tightly the operators bind that a token after an operand ends
abbrev pub ended_level : TokenKind → ℕ
ended_level Star = 2
ended_level Plus = 1
ended_level Minus = 1
ended_level kind = 0

reduced_more : (least : ℕ) (operator : Operator) (stack : List Pending) (output : List Term) → nat_le least (level_of operator) ≡ true
    → reduced least (OperatorPending operator ∷ stack) output ≡ reduced least stack (output ++ OperatorTerm operator ∷ [])
reduced_more least operator stack output h = rw h refl

-- what goes on after a token
abbrev onwards : List ℕ → List Token → Token → Reading → Result (Option Reading) SourcePosition → Outcome (List Term)
onwards text tokens token reading step = and_then
    (λ next. option_map_or (λ reading. expression_from text reading tokens) next (Ok ((reduced 0 reading.stack reading.output).1, token ∷ tokens))) step

ended_all : (operator : Operator) → nat_le 0 (level_of operator) ≡ true
ended_all Add = refl
ended_all operator = refl

-- a test in a step that ends or refuses: with either answer what goes on is the same
ended : (text : List ℕ) (operator : Operator) (stack : List Pending) (output : List Term) (depth : ℕ) (token : Token) (rest : List Token) (test : Bool)
    → onwards text rest token (record { stack = OperatorPending operator ∷ stack; output = output; awaited = false; depth = depth }) (if test then Ok None else Err token.position)
    ≡ onwards text rest token (record { stack = stack; output = output ++ OperatorTerm operator ∷ []; awaited = false; depth = depth }) (if test then Ok None else Err token.position)
ended text operator stack output depth token rest true = rw (reduced_more 0 operator stack output (ended_all operator)) refl
ended text operator stack output depth token rest false = refl

closed : (text : List ℕ) (operator : Operator) (stack : List Pending) (output : List Term) (depth : ℕ) (token : Token) (rest : List Token) (test : Bool)
    → onwards text rest token (record { stack = OperatorPending operator ∷ stack; output = output; awaited = false; depth = depth })
    (if test then Ok None else Ok (Some (with_closed (record { stack = OperatorPending operator ∷ stack; output = output; awaited = false; depth = depth }))))
    ≡ onwards text rest token (record { stack = stack; output = output ++ OperatorTerm operator ∷ []; awaited = false; depth = depth })
    (if test then Ok None else Ok (Some (with_closed (record { stack = stack; output = output ++ OperatorTerm operator ∷ []; awaited = false; depth = depth }))))
closed text operator stack output depth token rest true = rw (reduced_more 0 operator stack output (ended_all operator)) refl
closed text operator stack output depth token rest false = rw (reduced_more 0 operator stack output (ended_all operator)) refl

-- an operator that the next token ends may have its place in the output already
settled_by : (text : List ℕ) (operator : Operator) (stack : List Pending) (output : List Term) (depth : ℕ) (kind : TokenKind) (token : Token) (rest : List Token)
    → nat_le (ended_level kind) (level_of operator) ≡ true
    → onwards text rest token (record { stack = OperatorPending operator ∷ stack; output = output; awaited = false; depth = depth })
    (operator_step kind token.position (record { stack = OperatorPending operator ∷ stack; output = output; awaited = false; depth = depth }))
    ≡ onwards text rest token (record { stack = stack; output = output ++ OperatorTerm operator ∷ []; awaited = false; depth = depth })
    (operator_step kind token.position (record { stack = stack; output = output ++ OperatorTerm operator ∷ []; awaited = false; depth = depth }))
settled_by text operator stack output depth Star token rest h = rw (reduced_more 2 operator stack output h) refl
settled_by text operator stack output depth Plus token rest h = rw (reduced_more 1 operator stack output h) refl
settled_by text operator stack output depth Minus token rest h = rw (reduced_more 1 operator stack output h) refl
settled_by text operator stack output depth CloseParenthesis token rest h = closed text operator stack output depth token rest (depth == 0)
settled_by text operator stack output depth kind token rest h = ended text operator stack output depth token rest (depth == 0)

pub settled : (text : List ℕ) (operator : Operator) (stack : List Pending) (output : List Term) (depth : ℕ) (rest : List Token)
    → nat_le (ended_level (head_kind rest)) (level_of operator) ≡ true
    → after_operand text (OperatorPending operator ∷ stack) output depth rest ≡ after_operand text stack (output ++ OperatorTerm operator ∷ []) depth rest
settled text operator stack output depth [] h = refl
settled text operator stack output depth (token ∷ rest) h = settled_by text operator stack output depth token.kind token rest h

-- the newest of what waits binds less tightly than this
abbrev pub binds_less : ℕ → List Pending → Bool
binds_less level [] = true
binds_less level (Parenthesis ∷ stack) = true
binds_less level (OperatorPending operator ∷ stack) = not (nat_le level (level_of operator))

not-true : (b : Bool) → not b ≡ true → b ≡ false
not-true true e = absurd (false≢true e)
not-true false e = refl

pub kept : (level : ℕ) (stack : List Pending) (output : List Term) → binds_less level stack ≡ true → reduced level stack output ≡ (stack, output)
kept level [] output h = refl
kept level (Parenthesis ∷ stack) output h = refl
kept level (OperatorPending operator ∷ stack) output h = rw (not-true (nat_le level (level_of operator)) h) refl

binds_less_by : (operator : Operator) → not (nat_le 1 (level_of operator)) ≡ true → not (nat_le 2 (level_of operator)) ≡ true
binds_less_by Multiply h = absurd (false≢true h)
binds_less_by operator h = refl

pub binds_less-two : (stack : List Pending) → binds_less 1 stack ≡ true → binds_less 2 stack ≡ true
binds_less-two [] h = refl
binds_less-two (Parenthesis ∷ stack) h = refl
binds_less-two (OperatorPending operator ∷ stack) h = binds_less_by operator h

-- what an operator ends
pub level_for_product : (kind : TokenKind) → kind ≢ Star → nat_le (ended_level kind) 1 ≡ true
level_for_product Star h = absurd (h refl)
level_for_product kind h = refl

level_for_sum : (kind : TokenKind) → kind ≢ Star → kind ≢ Plus → kind ≢ Minus → nat_le (ended_level kind) 0 ≡ true
level_for_sum Star h i j = absurd (h refl)
level_for_sum Plus h i j = absurd (i refl)
level_for_sum Minus h i j = absurd (j refl)
level_for_sum kind h i j = refl

pub level_for_operand : (kind : TokenKind) → nat_le (ended_level kind) 2 ≡ true
level_for_operand Star = refl
level_for_operand kind = refl

-- a token after an operand that goes on with an operator
pub goes_on_times : (text : List ℕ) (stack : List Pending) (output : List Term) (depth : ℕ) (sign : Token) (rest : List Token)
    → sign.kind ≡ Star → binds_less 2 stack ≡ true
    → after_operand text stack output depth (sign ∷ rest) ≡ before_operand text (OperatorPending Multiply ∷ stack) output depth rest
goes_on_times text stack output depth sign rest e h = rw (e, kept 2 stack output h) refl

pub goes_on_plus : (text : List ℕ) (stack : List Pending) (output : List Term) (depth : ℕ) (sign : Token) (rest : List Token)
    → sign.kind ≡ Plus → binds_less 1 stack ≡ true
    → after_operand text stack output depth (sign ∷ rest) ≡ before_operand text (OperatorPending Add ∷ stack) output depth rest
goes_on_plus text stack output depth sign rest e h = rw (e, kept 1 stack output h) refl

pub goes_on_minus : (text : List ℕ) (stack : List Pending) (output : List Term) (depth : ℕ) (sign : Token) (rest : List Token)
    → sign.kind ≡ Minus → binds_less 1 stack ≡ true
    → after_operand text stack output depth (sign ∷ rest) ≡ before_operand text (OperatorPending Subtract ∷ stack) output depth rest
goes_on_minus text stack output depth sign rest e h = rw (e, kept 1 stack output h) refl

abbrev pub is_star : TokenKind → Bool
is_star Star = true
is_star kind = false

plus_no_star : Plus ≢ Star
plus_no_star e = false≢true (ap is_star e)

minus_no_star : Minus ≢ Star
minus_no_star e = false≢true (ap is_star e)

close_no_star : CloseParenthesis ≢ Star
close_no_star e = false≢true (ap is_star e)

-- a token before its operand
pub goes_in : (text : List ℕ) (stack : List Pending) (output : List Term) (depth : ℕ) (token : Token) (rest : List Token)
    → token.kind ≡ OpenParenthesis
    → before_operand text stack output depth (token ∷ rest) ≡ before_operand text (Parenthesis ∷ stack) output (depth + 1) rest
goes_in text stack output depth token rest e = rw e refl

pub goes_in_negate : (text : List ℕ) (stack : List Pending) (output : List Term) (depth : ℕ) (token : Token) (rest : List Token)
    → token.kind ≡ Minus
    → before_operand text stack output depth (token ∷ rest) ≡ before_operand text (OperatorPending NegateOperator ∷ stack) output depth rest
goes_in_negate text stack output depth token rest e = rw e refl

pub goes_in_reverse : (text : List ℕ) (stack : List Pending) (output : List Term) (depth : ℕ) (token : Token) (rest : List Token)
    → token.kind ≡ DoubleColon
    → before_operand text stack output depth (token ∷ rest) ≡ before_operand text (OperatorPending ReverseOperator ∷ stack) output depth rest
goes_in_reverse text stack output depth token rest e = rw e refl

pub suc-not_zero : (depth : ℕ) → (depth + 1 == 0) ≡ false
suc-not_zero depth = grind arith

depth_back : (depth : ℕ) → depth + 1 - 1 ≡ depth
depth_back depth = omega arith

-- the end of parentheses
pub goes_out : (text : List ℕ) (stack : List Pending) (output : List Term) (depth : ℕ) (token : Token) (rest : List Token)
    → token.kind ≡ CloseParenthesis
    → after_operand text (Parenthesis ∷ stack) output (depth + 1) (token ∷ rest) ≡ after_operand text stack output depth rest
goes_out text stack output depth token rest e = rw (e, suc-not_zero depth, depth_back depth) refl

-- a stack of operators follows a sum, a product and an operand: it comes to the terms of the tree, if nothing that waits binds as tightly
joined : (text : List ℕ) (stack : List Pending) (output left right : List Term) (term : Term) (depth : ℕ) (rest : List Token)
    → after_operand text stack (((output ++ left) ++ right) ++ term ∷ []) depth rest ≡ after_operand text stack (output ++ ((left ++ right) ++ term ∷ [])) depth rest
joined text stack output left right term depth rest =
    ap (λ terms. after_operand text stack terms depth rest) (ap (λ terms. terms ++ term ∷ []) (append_assoc output left right) ∙ append_assoc output (left ++ right) (term ∷ []))

mutual
  pub follows_sum : {text : List ℕ} {tokens rest : List Token} {tree : Expr} → IsSum text tokens tree rest
      → (stack : List Pending) (output : List Term) (depth : ℕ) → binds_less 1 stack ≡ true → head_kind rest ≢ Star
      → before_operand text stack output depth tokens ≡ after_operand text stack (output ++ postfix tree) depth rest
  follows_sum (product is) stack output depth h over = follows_product is stack output depth (binds_less-two stack h)
  follows_sum {text = text} (plus {rest = rest} {left = left} {right = right} {sign = sign} is sign_is more) stack output depth h over =
      follows_sum is stack output depth h (λ star. plus_no_star (sym sign_is ∙ star))
      ∙ goes_on_plus _ _ _ _ _ _ sign_is h
      ∙ follows_product more (OperatorPending Add ∷ stack) (output ++ postfix left) depth refl
      ∙ settled _ Add _ _ _ rest (level_for_product (head_kind rest) over)
      ∙ joined text stack output (postfix left) (postfix right) (OperatorTerm Add) depth rest
  follows_sum {text = text} (minus {rest = rest} {left = left} {right = right} {sign = sign} is sign_is more) stack output depth h over =
      follows_sum is stack output depth h (λ star. minus_no_star (sym sign_is ∙ star))
      ∙ goes_on_minus _ _ _ _ _ _ sign_is h
      ∙ follows_product more (OperatorPending Subtract ∷ stack) (output ++ postfix left) depth refl
      ∙ settled _ Subtract _ _ _ rest (level_for_product (head_kind rest) over)
      ∙ joined text stack output (postfix left) (postfix right) (OperatorTerm Subtract) depth rest

  pub follows_product : {text : List ℕ} {tokens rest : List Token} {tree : Expr} → IsProduct text tokens tree rest
      → (stack : List Pending) (output : List Term) (depth : ℕ) → binds_less 2 stack ≡ true
      → before_operand text stack output depth tokens ≡ after_operand text stack (output ++ postfix tree) depth rest
  follows_product (operand is) stack output depth h = follows_operand is stack output depth
  follows_product {text = text} (times {rest = rest} {left = left} {right = right} is sign_is more) stack output depth h =
      follows_product is stack output depth h
      ∙ goes_on_times _ _ _ _ _ _ sign_is h
      ∙ follows_operand more (OperatorPending Multiply ∷ stack) (output ++ postfix left) depth
      ∙ settled _ Multiply _ _ _ rest (level_for_operand (head_kind rest))
      ∙ joined text stack output (postfix left) (postfix right) (OperatorTerm Multiply) depth rest

  pub follows_operand : {text : List ℕ} {tokens rest : List Token} {tree : Expr} → IsOperand text tokens tree rest
      → (stack : List Pending) (output : List Term) (depth : ℕ)
      → before_operand text stack output depth tokens ≡ after_operand text stack (output ++ postfix tree) depth rest
  follows_operand (number is) stack output depth = rw is refl
  follows_operand (name is) stack output depth = rw is refl
  follows_operand {text = text} (parentheses {inner = inner} {rest = rest} {tree = tree} {open_token = open_token} open_is is close_is) stack output depth =
      goes_in text stack output depth open_token inner open_is
      ∙ follows_sum is (Parenthesis ∷ stack) output (depth + 1) refl (λ star. close_no_star (sym close_is ∙ star))
      ∙ goes_out _ _ _ _ _ _ close_is
  follows_operand {text = text} (negate {inner = inner} {rest = rest} {tree = tree} {sign = sign} sign_is is over) stack output depth =
      goes_in_negate text stack output depth sign inner sign_is
      ∙ follows_product is (OperatorPending NegateOperator ∷ stack) output depth refl
      ∙ settled _ NegateOperator _ _ _ rest (level_for_product (head_kind rest) over)
      ∙ ap (λ terms. after_operand text stack terms depth rest) (append_assoc output (postfix tree) (OperatorTerm NegateOperator ∷ []))
  follows_operand {text = text} (reverse {inner = inner} {rest = rest} {tree = tree} {sign = sign} sign_is is over) stack output depth =
      goes_in_reverse text stack output depth sign inner sign_is
      ∙ follows_sum is (OperatorPending ReverseOperator ∷ stack) output depth refl over.0
      ∙ settled _ ReverseOperator _ _ _ rest (level_for_sum (head_kind rest) over.0 over.1 over.2)
      ∙ ap (λ terms. after_operand text stack terms depth rest) (append_assoc output (postfix tree) (OperatorTerm ReverseOperator ∷ []))
