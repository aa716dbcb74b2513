-- How far an expression goes: before whatever ends it, it is the same, and where it is refused it could have come to an end.
use Rattle.std.proofs.Common.{◌≡◌, ◌==◌, ◌&&◌, not, Bool, true, false, if◌then◌else◌, ℕ, zero, suc, ◌-◌, List, [], ◌∷◌, ◌++◌, Option, Some, None, Result, Ok, Err, arith, refl, sym, ap, ◌∙◌, subst}
use Rattle.pio_parse.proofs.Shared.{false≢true, ⊤, SourcePosition, Token, TokenKind, Name, Number, DoubleColon, OpenParenthesis, CloseParenthesis, Plus, Minus, Star, LineEnd, FileEnd, Pending, Reading, after_newest, expression_at, expression_from, nothing_read, operand_step, operator_step, reduced, token_step, Term, NumberTerm, map_ok, Outcome, is_end, ends_line}
use Rattle.pio_parse.proofs.Follows.{after_operand}
use Rattle.pio_parse.proofs.Tests.{err_is, refused, same_left, same_value}

-- a fault of a token is at its position
abbrev FaultIs : {X : Type 0} → SourcePosition → Result X SourcePosition → Type 0
FaultIs position (Ok x) = ⊤
FaultIs position (Err p) = p ≡ position

operand_fault : (text : List ℕ) (kind : TokenKind) (position : SourcePosition) (reading : Reading) → FaultIs position (operand_step text kind position reading)
operand_fault text (Number n) position reading = tt
operand_fault text (Name span) position reading = tt
operand_fault text Minus position reading = tt
operand_fault text DoubleColon position reading = tt
operand_fault text OpenParenthesis position reading = tt
operand_fault text kind position reading = refl

tested_fault : {X : Type 0} (position : SourcePosition) (test : Bool) (x : X) → FaultIs position (if test then Ok x else Err position)
tested_fault position true x = tt
tested_fault position false x = refl

tested_close : {X : Type 0} (position : SourcePosition) (test : Bool) (x y : X) → FaultIs position (if test then Ok x else Ok y)
tested_close position true x y = tt
tested_close position false x y = tt

operator_fault : (kind : TokenKind) (position : SourcePosition) (reading : Reading) → FaultIs position (operator_step kind position reading)
operator_fault Star position reading = tt
operator_fault Plus position reading = tt
operator_fault Minus position reading = tt
operator_fault CloseParenthesis position reading = tested_close position (reading.depth == 0) _ _
operator_fault kind position reading = tested_fault position (reading.depth == 0) _

mapped_fault : {X Y : Type 0} (f : X → Y) (position : SourcePosition) (result : Result X SourcePosition) → FaultIs position result → FaultIs position (map_ok f result)
mapped_fault f position (Ok x) h = tt
mapped_fault f position (Err p) h = h

token_fault : (text : List ℕ) (kind : TokenKind) (position : SourcePosition) (stack : List Pending) (output : List Term) (awaited : Bool) (depth : ℕ)
    → FaultIs position (token_step text kind position (record { stack = stack; output = output; awaited = awaited; depth = depth }))
token_fault text kind position stack output true depth = mapped_fault _ position (operand_step text kind position _) (operand_fault text kind position _)
token_fault text kind position stack output false depth = operator_fault kind position _

-- an expression does not go on at the end of a line
abbrev StopsHere : Result (Option Reading) SourcePosition → Type 0
StopsHere (Ok (Some next)) = ⊥
StopsHere (Ok None) = ⊤
StopsHere (Err position) = ⊤

tested_stop : (position : SourcePosition) (test : Bool) → StopsHere (if test then Ok None else Err position)
tested_stop position true = tt
tested_stop position false = tt

end_stops : (text : List ℕ) (kind : TokenKind) (position : SourcePosition) (stack : List Pending) (output : List Term) (awaited : Bool) (depth : ℕ) → is_end kind ≡ true
    → StopsHere (token_step text kind position (record { stack = stack; output = output; awaited = awaited; depth = depth }))
end_stops text LineEnd position stack output true depth h = tt
end_stops text LineEnd position stack output false depth h = tested_stop position (depth == 0)
end_stops text FileEnd position stack output true depth h = tt
end_stops text FileEnd position stack output false depth h = tested_stop position (depth == 0)
end_stops text kind position stack output awaited depth h = absurd (false≢true h)

abbrev token_of : TokenKind → Token
token_of kind = record { kind = kind; position = record { line = 0; column = 0 } }

suc-tested : (depth : ℕ) → (suc depth == 0) ≡ false
suc-tested depth = grind arith

suc-back : (depth : ℕ) → suc depth - 1 ≡ depth
suc-back depth = omega arith

-- a token after which an expression goes on is followed by another, up to the end of the line
goes_on : (token : Token) (tokens : List Token) (text : List ℕ) (reading next : Reading) → token_step text token.kind token.position reading ≡ Ok (Some next)
    → ends_line (token ∷ tokens) ≡ true → ends_line tokens ≡ true
goes_on token [] text reading next is h = absurd (subst StopsHere is (end_stops text token.kind token.position reading.stack reading.output reading.awaited reading.depth h))
goes_on token (other ∷ tokens) text reading next is h = h

-- no expression goes on with this
abbrev pub ends_sum : TokenKind → Bool
ends_sum Star = false
ends_sum Plus = false
ends_sum Minus = false
ends_sum kind = true

-- none of these ends a line
abbrev pub none_ends : List Token → Bool
none_ends [] = true
none_ends (token ∷ tokens) = not (is_end token.kind) && none_ends tokens

-- an operator waits for nothing before what ends a sum
over_at : (kind : TokenKind) (position : SourcePosition) (stack : List Pending) (output : List Term) → ends_sum kind ≡ true
    → operator_step kind position (record { stack = stack; output = output; awaited = false; depth = 0 }) ≡ Ok None
over_at Star position stack output h = absurd (false≢true h)
over_at Plus position stack output h = absurd (false≢true h)
over_at Minus position stack output h = absurd (false≢true h)
over_at kind position stack output h = refl

-- where an expression is over, it is over before whatever ends a sum
over_tested : (test : Bool) (position : SourcePosition) → Path (Result (Option Reading) SourcePosition) (if test then Ok None else Err position) (Ok None) → test ≡ true
over_tested true position q = refl
over_tested false position q = absurd (refused q)

abbrev is_over : Result (Option Reading) SourcePosition → Bool
is_over (Ok None) = true
is_over (Ok (Some next)) = false
is_over (Err position) = false

closed_tested : (test : Bool) (next : Reading) → Path (Result (Option Reading) SourcePosition) (if test then Ok None else Ok (Some next)) (Ok None) → test ≡ true
closed_tested true next q = refl
closed_tested false next q = absurd (false≢true (ap is_over q))

over_depth : (kind : TokenKind) (position : SourcePosition) (reading : Reading) → operator_step kind position reading ≡ Ok None → (reading.depth == 0) ≡ true
over_depth Star position reading q = absurd (false≢true (ap is_over q))
over_depth Plus position reading q = absurd (false≢true (ap is_over q))
over_depth Minus position reading q = absurd (false≢true (ap is_over q))
over_depth CloseParenthesis position reading q = closed_tested (reading.depth == 0) _ q
over_depth kind position reading q = over_tested (reading.depth == 0) position q

over_by : (kind : TokenKind) (position : SourcePosition) (reading : Reading) → ends_sum kind ≡ true → (reading.depth == 0) ≡ true → operator_step kind position reading ≡ Ok None
over_by Star position reading h e = absurd (false≢true h)
over_by Plus position reading h e = absurd (false≢true h)
over_by Minus position reading h e = absurd (false≢true h)
over_by kind position reading h e = rw e refl

mapped_over : (step : Result Reading SourcePosition) → Path (Result (Option Reading) SourcePosition) (map_ok (λ next. Some next) step) (Ok None) → ⊥
mapped_over (Ok x) q = false≢true (ap is_over q)
mapped_over (Err p) q = refused q

over_any : (text : List ℕ) (kind other : TokenKind) (position elsewhere : SourcePosition) (stack : List Pending) (output : List Term) (awaited : Bool) (depth : ℕ) → ends_sum other ≡ true
    → token_step text kind position (record { stack = stack; output = output; awaited = awaited; depth = depth }) ≡ Ok None
    → token_step text other elsewhere (record { stack = stack; output = output; awaited = awaited; depth = depth }) ≡ Ok None
over_any text kind other position elsewhere stack output true depth h q = absurd (mapped_over (operand_step text kind position _) q)
over_any text kind other position elsewhere stack output false depth h q = over_by other elsewhere _ h (over_depth kind position _ q)

-- the parentheses that are open are closed
abbrev closing : ℕ → List Token
closing zero = []
closing (suc depth) = token_of CloseParenthesis ∷ closing depth

abbrev closed_terms : ℕ → List Pending → List Term → List Term
closed_terms zero stack output = (reduced 0 stack output).1
closed_terms (suc depth) stack output = closed_terms depth (after_newest (reduced 0 stack output).0) (reduced 0 stack output).1

closed : (text : List ℕ) (depth : ℕ) (stack : List Pending) (output : List Term) (first : Token) (further : List Token) → ends_sum first.kind ≡ true
    → after_operand text stack output depth (closing depth ++ first ∷ further) ≡ Ok (closed_terms depth stack output, first ∷ further)
closed text zero stack output first further h = rw (over_at first.kind first.position stack output h) refl
closed text (suc depth) stack output first further h =
    rw (suc-tested depth, suc-back depth) (closed text depth (after_newest (reduced 0 stack output).0) (reduced 0 stack output).1 first further h)

-- what is read takes these tokens, and takes them before whatever ends a sum
pub record Extent (f : List Token → Outcome (List Term)) (tokens : List Token) (terms : List Term) (rest : List Token) : Type 0 where
  pub consumed : List Token
  pub whole : tokens ≡ consumed ++ rest
  pub inside : none_ends consumed ≡ true
  pub again : (first : Token) (further : List Token) → ends_sum first.kind ≡ true → f (consumed ++ first ∷ further) ≡ Ok (terms, first ∷ further)

-- tokens are refused at one, before which they could have come to an end
pub record Refusal (f : List Token → Outcome (List Term)) (tokens : List Token) (position : SourcePosition) : Type 0 where
  pub before : List Token
  pub token : Token
  pub after : List Token
  pub whole : tokens ≡ before ++ token ∷ after
  pub at : token.position ≡ position
  pub ends : List Token
  pub inside : none_ends ends ≡ true
  pub terms : List Term
  pub goes : (first : Token) (further : List Token) → ends_sum first.kind ≡ true → f (before ++ (ends ++ first ∷ further)) ≡ Ok (terms, first ∷ further)
  pub stays : (further : List Token) → f (before ++ token ∷ further) ≡ Err position

module _ (text : List ℕ) where
  -- a token after which an expression goes on ends no line
  no_end : (token : Token) (reading next : Reading) → token_step text token.kind token.position reading ≡ Ok (Some next) → (b : Bool) → is_end token.kind ≡ b → b ≡ false
  no_end token reading next is true h = absurd (subst StopsHere is (end_stops text token.kind token.position reading.stack reading.output reading.awaited reading.depth h))
  no_end token reading next is false h = refl

  abbrev pub ExtentOf : List Token → Type 0
  ExtentOf tokens = (reading : Reading) (terms : List Term) (rest : List Token) → expression_from text reading tokens ≡ Ok (terms, rest) → Extent (expression_from text reading) tokens terms rest

  extent_by : (token : Token) (tokens : List Token) → ExtentOf tokens → (reading : Reading) (terms : List Term) (rest : List Token) → expression_from text reading (token ∷ tokens) ≡ Ok (terms, rest)
      → (step : Result (Option Reading) SourcePosition) → token_step text token.kind token.position reading ≡ step → Extent (expression_from text reading) (token ∷ tokens) terms rest
  extent_by token tokens later reading terms rest q (Err p) is = absurd (refused (rw is at q))
  extent_by token tokens later reading terms rest q (Ok None) is =
      let read = rw is at q in
      record {
        consumed = [];
        whole = same_left read;
        inside = refl;
        again = λ first further h. rw (over_any text token.kind first.kind token.position first.position reading.stack reading.output reading.awaited reading.depth h is) (ap (λ terms. Ok (terms, first ∷ further)) (same_value read));
      }
  extent_by token tokens later reading terms rest q (Ok (Some next)) is =
      let inner = later next terms rest (rw is at q) in
      record {
        consumed = token ∷ inner.consumed;
        whole = ap (λ xs. token ∷ xs) {y = inner.consumed ++ rest} inner.whole;
        inside = rw (no_end token reading next is (is_end token.kind) refl) inner.inside;
        again = λ first further h. rw is (inner.again first further h);
      }

  pub extent_of : (tokens : List Token) → ExtentOf tokens
  extent_of [] reading terms rest q = absurd (refused q)
  extent_of (token ∷ tokens) reading terms rest q = extent_by token tokens (extent_of tokens) reading terms rest q (token_step text token.kind token.position reading) refl

  -- how what was read may come to an end
  abbrev ending : (stack : List Pending) (output : List Term) (awaited : Bool) (depth : ℕ) → List Token
  ending stack output true depth = token_of (Number 0) ∷ closing depth
  ending stack output false depth = closing depth

  abbrev ending_terms : (stack : List Pending) (output : List Term) (awaited : Bool) (depth : ℕ) → List Term
  ending_terms stack output true depth = closed_terms depth stack (output ++ NumberTerm 0 ∷ [])
  ending_terms stack output false depth = closed_terms depth stack output

  closing_inside : (depth : ℕ) → none_ends (closing depth) ≡ true
  closing_inside zero = refl
  closing_inside (suc depth) = closing_inside depth

  ending_inside : (stack : List Pending) (output : List Term) (awaited : Bool) (depth : ℕ) → none_ends (ending stack output awaited depth) ≡ true
  ending_inside stack output true depth = closing_inside depth
  ending_inside stack output false depth = closing_inside depth

  ends_so : (stack : List Pending) (output : List Term) (awaited : Bool) (depth : ℕ) (first : Token) (further : List Token) → ends_sum first.kind ≡ true
      → expression_from text (record { stack = stack; output = output; awaited = awaited; depth = depth }) (ending stack output awaited depth ++ first ∷ further) ≡ Ok (ending_terms stack output awaited depth, first ∷ further)
  ends_so stack output true depth first further h = closed text depth stack (output ++ NumberTerm 0 ∷ []) first further h
  ends_so stack output false depth first further h = closed text depth stack output first further h

  abbrev RefusalOf : List Token → Type 0
  RefusalOf tokens = (reading : Reading) (position : SourcePosition) → ends_line tokens ≡ true → expression_from text reading tokens ≡ Err position → Refusal (expression_from text reading) tokens position

  refusal_by : (token : Token) (tokens : List Token) → RefusalOf tokens → (reading : Reading) (position : SourcePosition) → ends_line (token ∷ tokens) ≡ true → expression_from text reading (token ∷ tokens) ≡ Err position
      → (step : Result (Option Reading) SourcePosition) → token_step text token.kind token.position reading ≡ step → Refusal (expression_from text reading) (token ∷ tokens) position
  refusal_by token tokens later reading position line q (Err p) is =
      let same : p ≡ position = err_is (rw is at q) in
      let fault : p ≡ token.position = subst (FaultIs token.position) is (token_fault text token.kind token.position reading.stack reading.output reading.awaited reading.depth) in
      record {
        before = [];
        token = token;
        after = tokens;
        whole = refl;
        at = sym fault ∙ same;
        ends = ending reading.stack reading.output reading.awaited reading.depth;
        inside = ending_inside reading.stack reading.output reading.awaited reading.depth;
        terms = ending_terms reading.stack reading.output reading.awaited reading.depth;
        goes = ends_so reading.stack reading.output reading.awaited reading.depth;
        stays = λ further. rw is (ap Err same);
      }
  refusal_by token tokens later reading position line q (Ok None) is = absurd (refused (sym (rw is at q)))
  refusal_by token tokens later reading position line q (Ok (Some next)) is =
      let inner = later next position (goes_on token tokens text reading next is line) (rw is at q) in
      record {
        before = token ∷ inner.before;
        token = inner.token;
        after = inner.after;
        whole = ap (λ xs. token ∷ xs) {y = inner.before ++ inner.token ∷ inner.after} inner.whole;
        at = inner.at;
        ends = inner.ends;
        inside = inner.inside;
        terms = inner.terms;
        goes = λ first further h. rw is (inner.goes first further h);
        stays = λ further. rw is (inner.stays further);
      }

  refusal_of : (tokens : List Token) → RefusalOf tokens
  refusal_of [] reading position line q = absurd (false≢true line)
  refusal_of (token ∷ tokens) reading position line q = refusal_by token tokens (refusal_of tokens) reading position line q (token_step text token.kind token.position reading) refl

  pub extent : (tokens : List Token) (terms : List Term) (rest : List Token) → expression_at text tokens ≡ Ok (terms, rest) → Extent (expression_at text) tokens terms rest
  extent tokens terms rest q = extent_of tokens nothing_read terms rest q

  pub refusal : (tokens : List Token) (position : SourcePosition) → ends_line tokens ≡ true → expression_at text tokens ≡ Err position → Refusal (expression_at text) tokens position
  refusal tokens position line q = refusal_of tokens nothing_read position line q
