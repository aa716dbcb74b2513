-- A line, and an expression, is refused at the first token with which none of the grammar begins as the tokens up to it do.
use Rattle.std.proofs.Common.{◌≡◌, not, Bool, true, false, ℕ, List, [], ◌∷◌, ◌++◌, Result, Ok, Err, inl, inr, append_assoc, append-nil, refl, sym, ap, ◌∙◌, subst}
use Rattle.pio_parse.proofs.Shared.{SourcePosition, Token, LineEnd, map_ok, Outcome, is_end, line_at, expression_at, BeginsExpression, IsExpression, FaultsAtFirst, ends_line, LineFaultsAtFirst, is_line, BeginsLine, IsLine}
use Rattle.pio_parse.proofs.Tests.{both, err_is, not_true, refused}
use Rattle.pio_parse.proofs.Finds.{finds_tree, reads}
use Rattle.pio_parse.proofs.Extents.{refusal}
use Rattle.pio_parse.proofs.Reading.{Answer, Can, Refused, Rest, token_of}
use Rattle.pio_parse.proofs.ReadLines.{complete, finished, first_good, later_good, line_is, line_rest, sound}

abbrev head_of : Token → List Token → Token
head_of token [] = token
head_of token (first ∷ tokens) = first

abbrev tail_of : List Token → List Token
tail_of [] = []
tail_of (first ∷ tokens) = tokens

-- tokens have one first token with which something no longer holds of those up to it
one_first : (P : List Token → Type 0) → ((xs ys : List Token) → P (xs ++ ys) → P xs)
    → (before : List Token) (token : Token) (after before' : List Token) (token' : Token) (after' : List Token) → before ++ token ∷ after ≡ before' ++ token' ∷ after'
    → P before → ¬ P (before ++ token ∷ []) → P before' → ¬ P (before' ++ token' ∷ []) → token ≡ token'
one_first P front [] token after [] token' after' e p none p' none' = ap (head_of token) e
one_first P front [] token after (one ∷ before') token' after' e p none p' none' =
    let same : token ≡ one = ap (head_of token) e in absurd (none (subst (λ (t : Token). P (t ∷ [])) (sym same) (front (one ∷ []) before' p')))
one_first P front (one ∷ before) token after [] token' after' e p none p' none' =
    let same : one ≡ token' = ap (head_of one) e in absurd (none' (subst (λ (t : Token). P (t ∷ [])) same (front (one ∷ []) before p)))
one_first P front (one ∷ before) token after (other ∷ before') token' after' e p none p' none' =
    let same : one ≡ other = ap (head_of one) e in
    one_first (λ xs. P (one ∷ xs)) (λ xs ys q. front (one ∷ xs) ys q) before token after before' token' after' (ap tail_of e) p none
    (subst (λ (t : Token). P (t ∷ before')) (sym same) p') (λ q. none' (subst (λ (t : Token). P (t ∷ (before' ++ token' ∷ []))) same q))

-- tokens have their first one that fits nothing, at this position
abbrev First : (List Token → Type 0) → List Token → SourcePosition → Type 0
First P tokens position = (before : List Token) × (token : Token) × (after : List Token) × (tokens ≡ before ++ token ∷ after) × (token.position ≡ position) × P before × ¬ P (before ++ token ∷ [])

-- what is read, or refused at a first token, is refused at the one that there is
there_by : {A : Type 0} (P : List Token → Type 0) → ((xs ys : List Token) → P (xs ++ ys) → P xs) → (tokens : List Token) (outcome : Result A SourcePosition)
    → ((x : A) → outcome ≡ Ok x → P tokens) → ((p : SourcePosition) → outcome ≡ Err p → First P tokens p) → (position : SourcePosition) → First P tokens position → outcome ≡ Err position
there_by P front tokens (Ok x) accepts faults position (before, token, after, whole, at, begins, none) =
    absurd (none (front (before ++ token ∷ []) after (subst P (whole ∙ sym (append_assoc before (token ∷ []) after)) (accepts x refl))))
there_by P front tokens (Err p) accepts faults position (before, token, after, whole, at, begins, none) =
    let first = faults p refl in
    let same = one_first P front before token after first.0 first.1 first.2 (sym whole ∙ first.3) begins none first.5 first.6 in
    ap Err (sym first.4 ∙ sym (ap (λ (t : Token). t.position) same) ∙ at)

-- expressions
expression_fault : (text : List ℕ) (tokens : List Token) (position : SourcePosition) → ends_line tokens ≡ true → expression_at text tokens ≡ Err position → First (BeginsExpression text) tokens position
expression_fault text tokens position line e =
    let r = refusal text tokens position line e in
    let found = finds_tree text (r.before ++ (r.ends ++ token_of LineEnd ∷ [])) r.terms (token_of LineEnd ∷ []) (r.goes (token_of LineEnd) [] refl) in (
      r.before,
      r.token,
      r.after,
      r.whole,
      r.at,
      (r.ends ++ token_of LineEnd ∷ [], found.0, token_of LineEnd ∷ [], found.1),
      λ (further, tree, rest, is). refused (sym (r.stays further) ∙ ap (expression_at text) (sym (append_assoc r.before (r.token ∷ []) further)) ∙ reads text ((r.before ++ r.token ∷ []) ++ further) tree rest is),
    )

pub faults_at_first : FaultsAtFirst
faults_at_first text tokens position line = (
  expression_fault text tokens position line,
  there_by (BeginsExpression text) (λ xs ys (further, tree, rest, is). (ys ++ further, tree, rest, subst (λ tokens. IsExpression text tokens tree rest) (append_assoc xs ys further) is)) tokens (expression_at text tokens)
      (λ x e. let found = finds_tree text tokens x.0 x.1 e in ([], found.0, x.1, subst (λ tokens. IsExpression text tokens found.0 x.1) (sym (append-nil tokens)) found.1))
      (λ p e. expression_fault text tokens p line e) position,
)

-- where tokens are refused, and how they could have gone on
record FoundAt (g : Rest) (position : SourcePosition) (tokens : List Token) : Type 0 where
  before : List Token
  token : Token
  after : List Token
  whole : tokens ≡ before ++ token ∷ after
  at : token.position ≡ position
  can : Can (λ xs. g (before ++ xs))
  stays : (further : List Token) → g (before ++ token ∷ further) ≡ Err position

found_at : (g : Rest) (position : SourcePosition) (tokens : List Token) → Refused g position tokens → FoundAt g position tokens
found_at g position [] r = absurd r
found_at g position (token ∷ tokens) (inl (at, can, stays)) = record { before = []; token = token; after = tokens; whole = refl; at = at; can = can; stays = stays }
found_at g position (token ∷ tokens) (inr r) =
    let found = found_at (λ xs. g (token ∷ xs)) position tokens r in
    record { before = token ∷ found.before; token = found.token; after = found.after; whole = ap (λ xs. token ∷ xs) found.whole; at = found.at; can = found.can; stays = found.stays }

-- the front of a line, with another end
line_prefix : (before : List Token) (token : Token) (after : List Token) (first : Token) (further : List Token) → is_line (before ++ token ∷ after) ≡ true → is_line (first ∷ further) ≡ true → is_line (before ++ first ∷ further) ≡ true
line_prefix [] token after first further line other = other
line_prefix (one ∷ []) token after first further line other =
    let parts = both (not (is_end one.kind)) (is_line (token ∷ after)) line in rw (not_true (is_end one.kind) parts.0) other
line_prefix (one ∷ next ∷ before) token after first further line other =
    let parts = both (not (is_end one.kind)) (is_line ((next ∷ before) ++ token ∷ after)) line in
    rw (not_true (is_end one.kind) parts.0) (line_prefix (next ∷ before) token after first further parts.1 other)

module _ (text : List ℕ) (started : Bool) where
  front_begins : (xs ys : List Token) → BeginsLine text started (xs ++ ys) → BeginsLine text started xs
  front_begins xs ys (further, line, is) = (ys ++ further, line, subst (λ (tokens : List Token). IsLine text started tokens line) (append_assoc xs ys further) is)

  refuses : (started : Bool) (tokens : List Token) (position : SourcePosition) → is_line tokens ≡ true → line_rest text started tokens ≡ Err position → Refused (line_rest text started) position tokens
  refuses true tokens position line q = (later_good text).refuses tokens position line q
  refuses false tokens position line q = (first_good text).refuses tokens position line q

  rest_refused : (tokens : List Token) (position : SourcePosition) (outcome : Outcome Answer) → map_ok (finished text tokens) outcome ≡ Err position → outcome ≡ Err position
  rest_refused tokens position (Ok x) q = absurd (refused (sym q))
  rest_refused tokens position (Err p) q = ap Err (err_is q)

  pub first_fault : (tokens : List Token) (position : SourcePosition) → is_line tokens ≡ true → line_at text started tokens ≡ Err position → First (BeginsLine text started) tokens position
  first_fault tokens position line q =
      let found = found_at (line_rest text started) position tokens (refuses started tokens position line (rest_refused tokens position (line_rest text started tokens) (sym (line_is text started tokens) ∙ q))) in
      let can = found.can in
      let long = found.before ++ can.first ∷ can.further in
      let whole = line_prefix found.before found.token found.after can.first can.further (subst (λ xs. is_line xs ≡ true) found.whole line) can.line in
      let read = sound text started long [] (finished text long (can.answer, can.end ∷ [])).0 whole (line_is text started long ∙ ap (map_ok (finished text long)) can.goes) in (
        found.before,
        found.token,
        found.after,
        found.whole,
        found.at,
        (can.first ∷ can.further, (finished text long (can.answer, can.end ∷ [])).0, read.0),
        λ begins. stuck found.before found.token position found.stays begins,
      )
    where
      stuck : (before : List Token) (token : Token) (position : SourcePosition) → ((further : List Token) → line_rest text started (before ++ token ∷ further) ≡ Err position) → BeginsLine text started (before ++ token ∷ []) → ⊥
      stuck before token position stays (further, line, is) =
          let here : (before ++ token ∷ []) ++ further ≡ before ++ token ∷ further = append_assoc before (token ∷ []) further in
          let read = complete (subst (λ (tokens : List Token). IsLine text started tokens line) here is) in
          refused (sym (line_is text started (before ++ token ∷ further) ∙ ap (map_ok (finished text (before ++ token ∷ further))) (stays further)) ∙ read)

  pub faults_there : (tokens : List Token) (position : SourcePosition) → is_line tokens ≡ true → First (BeginsLine text started) tokens position → line_at text started tokens ≡ Err position
  faults_there tokens position line = there_by (BeginsLine text started) front_begins tokens (line_at text started tokens)
      (λ x e. ([], x.0, subst (λ (tokens : List Token). IsLine text started tokens x.0) (sym (append-nil tokens)) (sound text started tokens x.1 x.0 line e).0)) (λ p e. first_fault tokens p line e) position

pub line_faults_at_first : LineFaultsAtFirst
line_faults_at_first text started tokens position line = (first_fault text started tokens position line, faults_there text started tokens position line)
