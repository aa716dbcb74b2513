-- How an expression and an operand are read where a line goes on after them.
use Rattle.std.proofs.Common.{◌≡◌, ◌≢◌, not, true, ℕ, List, [], ◌∷◌, ◌++◌, Ok, Err, inl, inr, refl, sym, ap, ◌∙◌, subst}
use Rattle.pio_parse.proofs.Shared.{false≢true, SourcePosition, Token, TokenKind, Name, Number, OpenParenthesis, CloseParenthesis, Plus, Minus, Star, Term, NumberTerm, NameTerm, and_then, map_ok, Outcome, expected, head_kind, name_at, is_end, expression_at, is_close_parenthesis, operand_at, operand_of_kind, EndsSum, Expr, IsSum, postfix, product, operand, number as number_operand, ends_line, is_line, IsValue, number_value as number, name_value as name, parentheses_value as parentheses}
use Rattle.pio_parse.proofs.Tests.{both, err_is, not_true, refused}
use Rattle.pio_parse.proofs.Finds.{finds_tree, is_none_left, reads}
use Rattle.pio_parse.proofs.Extents.{Refusal, extent, ends_sum, none_ends, refusal}
use Rattle.pio_parse.proofs.Reading.{Answer, Can, Good, IsOne, Reads, Refused, Rest, Step, Then, bind, can_after, choose, line_inside, one_reads, reads_map, reads_then, reads_to, refused_same, token_of}
use Rattle.pio_parse.proofs.Reading.IsOne.{one}
use Rattle.pio_parse.proofs.Reading.Step.{misfit_here, shift, take}

-- a sum with these terms
pub data IsTerms (text : List ℕ) : List Token → List Term → List Token → Type 0 where
  sum_terms : {tokens rest : List Token} {tree : Expr} → IsSum text tokens tree rest → IsTerms text tokens (postfix tree) rest

pub no_operator : (kind : TokenKind) → ends_sum kind ≡ true → (kind ≢ Star) × (kind ≢ Plus) × (kind ≢ Minus)
no_operator kind h = (λ q. false≢true (sym (ap ends_sum q) ∙ h), λ q. false≢true (sym (ap ends_sum q) ∙ h), λ q. false≢true (sym (ap ends_sum q) ∙ h))

same_end : (kind : TokenKind) → (kind ≢ Star) × (kind ≢ Plus) × (kind ≢ Minus) → ends_sum kind ≡ true
same_end Star h = absurd (h.0 refl)
same_end Plus h = absurd (h.1 refl)
same_end Minus h = absurd (h.2 refl)
same_end kind h = refl

ends_of_line : (tokens : List Token) → is_line tokens ≡ true → ends_line tokens ≡ true
ends_of_line [] line = line
ends_of_line (token ∷ []) line = line
ends_of_line (token ∷ next ∷ tokens) line = ends_of_line (next ∷ tokens) (both (not (is_end token.kind)) (is_line (next ∷ tokens)) line).1

left_line : (consumed rest : List Token) → none_ends consumed ≡ true → is_line (consumed ++ rest) ≡ true → is_line rest ≡ true
left_line [] rest none line = line
left_line (token ∷ consumed) rest none line =
    let parts = both (not (is_end token.kind)) (none_ends consumed) none in
    left_line consumed rest parts.1 (line_inside token (consumed ++ rest) line (not_true (is_end token.kind) parts.0))

line_before : (ends : List Token) (first : Token) (further : List Token) → none_ends ends ≡ true → is_line (first ∷ further) ≡ true → is_line (ends ++ first ∷ further) ≡ true
line_before [] first further none line = line
line_before (token ∷ []) first further none line = let parts = both (not (is_end token.kind)) true none in rw (not_true (is_end token.kind) parts.0) line
line_before (token ∷ next ∷ ends) first further none line =
    let parts = both (not (is_end token.kind)) (none_ends (next ∷ ends)) none in
    rw (not_true (is_end token.kind) parts.0) (line_before (next ∷ ends) first further parts.1 line)

-- what is refused after some tokens is refused
refused_after : (g : Rest) (position : SourcePosition) (consumed rest : List Token) → Refused (λ xs. g (consumed ++ xs)) position rest → Refused g position (consumed ++ rest)
refused_after g position [] rest r = r
refused_after g position (token ∷ consumed) rest r = inr (refused_after (λ xs. g (token ∷ xs)) position consumed rest r)

module _ (text : List ℕ) (k : List Term → Rest) (S : List Term → List Token → Answer → List Token → Type 0) (goods : (x : List Term) → Good true (k x) (S x)) where
  abbrev all : Rest
  all tokens = bind k (expression_at text tokens)

  -- a rest that comes to an end after these tokens
  can_on : (g : Rest) (ends : List Token) (terms : List Term) → none_ends ends ≡ true
      → ((first : Token) (further : List Token) → ends_sum first.kind ≡ true → g (ends ++ first ∷ further) ≡ k terms (first ∷ further)) → Can g
  can_on g [] terms inside goes =
      let can = (goods terms).can in
      record { first = can.first; further = can.further; answer = can.answer; end = can.end; line = can.line; goes = goes can.first can.further ((goods terms).ends refl) ∙ can.goes }
  can_on g (token ∷ ends) terms inside goes =
      let can = (goods terms).can in
      record {
        first = token;
        further = ends ++ can.first ∷ can.further;
        answer = can.answer;
        end = can.end;
        line = line_before (token ∷ ends) can.first can.further inside can.line;
        goes = goes can.first can.further ((goods terms).ends refl) ∙ can.goes;
      }

  -- a fault after the expression
  after_refused : (consumed rest : List Token) (terms : List Term) (position : SourcePosition) → EndsSum rest
      → ((first : Token) (further : List Token) → ends_sum first.kind ≡ true → expression_at text (consumed ++ first ∷ further) ≡ Ok (terms, first ∷ further))
      → Refused (k terms) position rest → Refused (λ xs. all (consumed ++ xs)) position rest
  after_refused consumed [] terms position over again r = r
  after_refused consumed (token ∷ tokens) terms position over again (inl (at, can, stays)) =
      inl (
        at,
        can_on (λ xs. all (consumed ++ xs)) [] terms refl (λ first further h. ap (bind k) (again first further h)),
        λ further. ap (bind k) (again token further (same_end token.kind over)) ∙ stays further,
      )
  after_refused consumed (token ∷ tokens) terms position over again (inr r) =
      inr (refused_same (λ xs. k terms (token ∷ xs)) (λ xs. all (consumed ++ token ∷ xs)) (λ xs. sym (ap (bind k) (again token xs (same_end token.kind over)))) position tokens r)

  -- a fault within it
  inside_refused : (tokens : List Token) (position : SourcePosition) → Refusal (expression_at text) tokens position → Refused all position tokens
  inside_refused tokens position r = subst (λ tokens. Refused all position tokens) (sym r.whole) (refused_after all position r.before (r.token ∷ r.after)
      (inl (r.at, can_on (λ xs. all (r.before ++ xs)) r.ends r.terms r.inside (λ first further h. ap (bind k) (r.goes first further h)), λ further. ap (bind k) (r.stays further))))

  refuses_by : (tokens : List Token) (position : SourcePosition) → is_line tokens ≡ true → (outcome : Outcome (List Term)) → expression_at text tokens ≡ outcome → bind k outcome ≡ Err position → Refused all position tokens
  refuses_by tokens position line (Err p) is q = inside_refused tokens position (refusal text tokens position (ends_of_line tokens line) (is ∙ ap Err (err_is q)))
  refuses_by tokens position line (Ok (found, rest)) is q =
      let e = extent text tokens found rest is in
      let over = (finds_tree text tokens found rest is).1.1 in
      let left = left_line e.consumed rest e.inside (subst (λ tokens. is_line tokens ≡ true) e.whole line) in
      subst (λ tokens. Refused all position tokens) (sym e.whole) (refused_after all position e.consumed rest
      (after_refused e.consumed rest found position over e.again ((goods found).refuses rest position left q)))

  reads_by : (tokens rest : List Token) (answer : Answer) → is_line tokens ≡ true → (outcome : Outcome (List Term)) → expression_at text tokens ≡ outcome → bind k outcome ≡ Ok (answer, rest)
      → Then (IsTerms text) S tokens answer rest × (is_line rest ≡ true)
  reads_by tokens rest answer line (Err p) is q = absurd (refused q)
  reads_by tokens rest answer line (Ok (found, middle)) is q =
      let tree = finds_tree text tokens found middle is in
      let e = extent text tokens found middle is in
      let left = left_line e.consumed middle e.inside (subst (λ tokens. is_line tokens ≡ true) e.whole line) in
      let more = (goods found).reads middle rest answer left q in
      ((found, middle, subst (λ found. IsTerms text tokens found middle) tree.2 (sum_terms tree.1.0), more.0), more.1)

  number_ends : (first : Token) (further : List Token) → ends_sum first.kind ≡ true → all (token_of (Number 0) ∷ first ∷ further) ≡ k (NumberTerm 0 ∷ []) (first ∷ further)
  number_ends first further h = ap (bind k) (reads text (token_of (Number 0) ∷ first ∷ further) _ (first ∷ further) (product (operand (number_operand refl)), no_operator first.kind h, λ q. false≢true (ap is_none_left q)))

  abbrev good_expression : Good true (λ tokens. bind k (expression_at text tokens)) (Then (IsTerms text) S)
  good_expression = record {
    reads = λ tokens rest answer line q. reads_by tokens rest answer line (expression_at text tokens) refl q;
    refuses = λ tokens position line q. refuses_by tokens position line (expression_at text tokens) refl q;
    can = can_after all (λ tokens. all (token_of (Number 0) ∷ tokens)) (token_of (Number 0)) (λ tokens. refl) refl (can_on (λ tokens. all (token_of (Number 0) ∷ tokens)) [] (NumberTerm 0 ∷ []) refl number_ends);
    ends = λ yes. refl;
  }

-- expression
pub expression_reads : (text : List ℕ) → Reads true (expression_at text) (IsTerms text)
expression_reads text = record { good = λ k S goods. good_expression text k S goods }

pub close_of : (kind : TokenKind) → is_close_parenthesis kind ≡ true → kind ≡ CloseParenthesis
close_of CloseParenthesis h = refl
close_of kind h = absurd (false≢true h)

module _ (text : List ℕ) where
  -- what follows an open parenthesis
  abbrev inner : List Token → Outcome (List Term)
  inner tokens = and_then (λ inner. map_ok (λ close. (inner.0, close.1)) (expected (is_close_parenthesis (head_kind inner.1)) inner.1)) (expression_at text tokens)

  abbrev IsInner : List Token → List Term → List Token → Type 0
  IsInner tokens value rest = (token : Token) → token.kind ≡ OpenParenthesis → IsValue text (token ∷ tokens) value rest

  inner_is : (tokens : List Token) (value : List Term) (rest : List Token)
      → (x : List Term) × (middle : List Token) × IsTerms text tokens x middle × ((u : Unit {0}) × IsOne is_close_parenthesis middle u rest × (x ≡ value)) → IsInner tokens value rest
  inner_is tokens value rest (x, middle, sum_terms sum, (u, one {token = close} is, same)) token opens =
      subst (λ value. IsValue text (token ∷ tokens) value rest) same (parentheses opens sum (close_of close.kind is))

  inner_reads : Reads true inner IsInner
  inner_reads = reads_to IsInner (reads_then (λ x tokens. map_ok (λ close. (x, close.1)) (expected (is_close_parenthesis (head_kind tokens)) tokens)) (expression_reads text)
      (λ x. reads_map (λ u. x) (one_reads is_close_parenthesis refl refl CloseParenthesis refl (λ yes. refl)))) inner_is

  abbrev value_step : (kind : TokenKind) (position : SourcePosition) → Step kind position (operand_of_kind text kind) (IsValue text)
  value_step (Number n) position = take (NumberTerm n ∷ []) (λ token rest is. number is) refl (λ tokens. refl)
  value_step (Name span) position = take (NameTerm (name_at text span) ∷ []) (λ token rest is. name is) refl (λ tokens. refl)
  value_step OpenParenthesis position = shift (reads_to _ inner_reads (λ tokens value rest is token k at. is token k)) refl (λ tokens. refl)
  value_step kind position = misfit_here (λ tokens. refl)

  -- value
  pub value_reads : Reads true (operand_at text) (IsValue text)
  value_reads = choose (λ kind position. operand_of_kind text kind) _ value_step (token_of (Number 0)) refl (λ yes. refl)
