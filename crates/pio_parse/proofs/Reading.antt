-- How the rest of a line is read, part by part: what stands there where it is read, and where it is refused.
use Rattle.std.proofs.Common.{◌≡◌, not, Bool, true, false, ℕ, List, [], ◌∷◌, Option, Some, None, Ok, Err, ◌⊎◌, inl, inr, refl, sym, ap, ◌∙◌}
use Rattle.pio_parse.proofs.Shared.{false≢true, SourcePosition, Token, TokenKind, LineEnd, FileEnd, Statement, and_then, map_ok, Outcome, after_head, expected, misfit, head_kind, head_position, is_end, flag_at, named_at, MayStand, stands, missing, is_line}
use Rattle.pio_parse.proofs.Tests.{both, err_is, refused}
use Rattle.pio_parse.proofs.Extents.{ends_sum}

-- what a line says: its label and its statement
abbrev pub Answer : Type 0
Answer = Option (List ℕ) × Option Statement

-- reads the rest of a line up to its end
abbrev pub Rest : Type 0
Rest = List Token → Outcome Answer

abbrev pub token_of : TokenKind → Token
token_of kind = record { kind = kind; position = record { line = 0; column = 0 } }

-- tokens that are read up to their end
pub record Can (g : Rest) : Type 0 where
  pub first : Token
  pub further : List Token
  pub answer : Answer
  pub end : Token
  pub line : is_line (first ∷ further) ≡ true
  pub goes : g (first ∷ further) ≡ Ok (answer, end ∷ [])

-- the tokens are refused at one at this position: before it something can be read, and with it nothing
abbrev pub Refused : Rest → SourcePosition → List Token → Type 0
Refused g position [] = ⊥
Refused g position (token ∷ tokens) =
    ((token.position ≡ position) × Can g × ((further : List Token) → g (token ∷ further) ≡ Err position)) ⊎ Refused (λ xs. g (token ∷ xs)) position tokens

-- what is read stands so, and its end is left; what is refused is so at the first token that fits nothing
pub record Good (starts : Bool) (g : Rest) (S : List Token → Answer → List Token → Type 0) : Type 0 where
  pub reads : (tokens rest : List Token) (answer : Answer) → is_line tokens ≡ true → g tokens ≡ Ok (answer, rest) → S tokens answer rest × (is_line rest ≡ true)
  pub refuses : (tokens : List Token) (position : SourcePosition) → is_line tokens ≡ true → g tokens ≡ Err position → Refused g position tokens
  pub can : Can g
  pub ends : starts ≡ true → ends_sum can.first.kind ≡ true

abbrev can_same : (g g' : Rest) → ((tokens : List Token) → g tokens ≡ g' tokens) → Can g → Can g'
can_same g g' e can = record { first = can.first; further = can.further; answer = can.answer; end = can.end; line = can.line; goes = sym (e (can.first ∷ can.further)) ∙ can.goes }

pub refused_same : (g g' : Rest) → ((tokens : List Token) → g tokens ≡ g' tokens) → (position : SourcePosition) (tokens : List Token) → Refused g position tokens → Refused g' position tokens
refused_same g g' e position [] r = r
refused_same g g' e position (token ∷ tokens) (inl (at, can, stays)) = inl (at, can_same g g' e can, λ further. sym (e (token ∷ further)) ∙ stays further)
refused_same g g' e position (token ∷ tokens) (inr r) = inr (refused_same (λ xs. g (token ∷ xs)) (λ xs. g' (token ∷ xs)) (λ xs. e (token ∷ xs)) position tokens r)

pub good_same : {starts : Bool} {g : Rest} {S : List Token → Answer → List Token → Type 0} (g' : Rest) (S' : List Token → Answer → List Token → Type 0)
    → Good starts g S → ((tokens : List Token) → g tokens ≡ g' tokens) → ((tokens : List Token) (answer : Answer) (rest : List Token) → S tokens answer rest → S' tokens answer rest)
    → Good starts g' S'
good_same {g = g} g' S' good e to = record {
  reads = λ tokens rest answer line q. let read = good.reads tokens rest answer line (e tokens ∙ q) in (to tokens answer rest read.0, read.1);
  refuses = λ tokens position line q. refused_same g g' e position tokens (good.refuses tokens position line (e tokens ∙ q));
  can = can_same g g' e good.can;
  ends = good.ends;
}

pub good_to : {starts : Bool} {g : Rest} {S : List Token → Answer → List Token → Type 0} (S' : List Token → Answer → List Token → Type 0)
    → Good starts g S → ((tokens : List Token) (answer : Answer) (rest : List Token) → S tokens answer rest → S' tokens answer rest) → Good starts g S'
good_to {g = g} S' good to = good_same g S' good (λ tokens. refl) to

-- what the rest of a line does with its next token: it is refused, it is read, or it is left for what comes next
pub data Move (kind : TokenKind) (position : SourcePosition) (h : Rest) (S : List Token → Answer → List Token → Type 0) : Type 0 where
  misfits : ((tokens : List Token) → h tokens ≡ misfit tokens) → Move kind position h S
  shifts : {starts : Bool} (g : Rest)
      → Good starts g (λ tokens answer rest. (token : Token) → token.kind ≡ kind → token.position ≡ position → S (token ∷ tokens) answer rest)
      → is_end kind ≡ false → ((tokens : List Token) → h tokens ≡ g (after_head tokens)) → Move kind position h S
  keeps : {starts : Bool} (g : Rest)
      → Good starts g (λ tokens answer rest. head_kind tokens ≡ kind → S tokens answer rest)
      → ((tokens : List Token) → h tokens ≡ g tokens) → Move kind position h S

pub line_inside : (token : Token) (tokens : List Token) → is_line (token ∷ tokens) ≡ true → is_end token.kind ≡ false → is_line tokens ≡ true
line_inside token [] line no_end = absurd (false≢true (sym no_end ∙ line))
line_inside token (next ∷ tokens) line no_end = (both (not (is_end token.kind)) (is_line (next ∷ tokens)) line).1

module _ (S : List Token → Answer → List Token → Type 0) (h : Rest) (token : Token) where
  reads_by : (tokens rest : List Token) (answer : Answer) → is_line (token ∷ tokens) ≡ true → h (token ∷ tokens) ≡ Ok (answer, rest)
      → Move token.kind token.position h S → S (token ∷ tokens) answer rest × (is_line rest ≡ true)
  reads_by tokens rest answer line q (misfits e) = absurd (refused (sym (e (token ∷ tokens)) ∙ q))
  reads_by tokens rest answer line q (shifts g good no_end e) =
      let read = good.reads tokens rest answer (line_inside token tokens line no_end) (sym (e (token ∷ tokens)) ∙ q) in (read.0 token refl refl, read.1)
  reads_by tokens rest answer line q (keeps g good e) =
      let read = good.reads (token ∷ tokens) rest answer line (sym (e (token ∷ tokens)) ∙ q) in (read.0 refl, read.1)

  -- a rest that does with this token what `h` does
  module _ (f : Rest) (same : (tokens : List Token) → h (token ∷ tokens) ≡ f (token ∷ tokens)) (can : Can f) where
    kept : (position : SourcePosition) (tokens : List Token) (g : Rest) → ((tokens : List Token) → h tokens ≡ g tokens) → Refused g position (token ∷ tokens) → Refused f position (token ∷ tokens)
    kept position tokens g e (inl (at, can_g, stays)) = inl (at, can, λ further. sym (same further) ∙ e (token ∷ further) ∙ stays further)
    kept position tokens g e (inr r) = inr (refused_same (λ xs. g (token ∷ xs)) (λ xs. f (token ∷ xs)) (λ xs. sym (e (token ∷ xs)) ∙ same xs) position tokens r)

    refused_by : (position : SourcePosition) (tokens : List Token) → is_line (token ∷ tokens) ≡ true → h (token ∷ tokens) ≡ Err position → Move token.kind token.position h S → Refused f position (token ∷ tokens)
    refused_by position tokens line q (misfits e) =
        let at : token.position ≡ position = err_is (sym (e (token ∷ tokens)) ∙ q) in
        inl (at, can, λ further. sym (same further) ∙ e (token ∷ further) ∙ ap Err at)
    refused_by position tokens line q (shifts g good no_end e) =
        inr (refused_same g (λ xs. f (token ∷ xs)) (λ xs. sym (e (token ∷ xs)) ∙ same xs) position tokens
        (good.refuses tokens position (line_inside token tokens line no_end) (sym (e (token ∷ tokens)) ∙ q)))
    refused_by position tokens line q (keeps g good e) = kept position tokens g e (good.refuses (token ∷ tokens) position line (sym (e (token ∷ tokens)) ∙ q))

-- where it goes by the next token
pub good : (starts : Bool) (h : TokenKind → SourcePosition → Rest) (S : List Token → Answer → List Token → Type 0)
    → ((kind : TokenKind) (position : SourcePosition) → Move kind position (h kind position) S)
    → (can : Can (λ tokens. h (head_kind tokens) (head_position tokens) tokens)) → (starts ≡ true → ends_sum can.first.kind ≡ true)
    → Good starts (λ tokens. h (head_kind tokens) (head_position tokens) tokens) S
good starts h S moves can ends = record { reads = reads; refuses = refuses; can = can; ends = ends }
  where
    reads : (tokens rest : List Token) (answer : Answer) → is_line tokens ≡ true → h (head_kind tokens) (head_position tokens) tokens ≡ Ok (answer, rest) → S tokens answer rest × (is_line rest ≡ true)
    reads [] rest answer line q = absurd (false≢true line)
    reads (token ∷ tokens) rest answer line q = reads_by S (h token.kind token.position) token tokens rest answer line q (moves token.kind token.position)

    refuses : (tokens : List Token) (position : SourcePosition) → is_line tokens ≡ true → h (head_kind tokens) (head_position tokens) tokens ≡ Err position → Refused (λ tokens. h (head_kind tokens) (head_position tokens) tokens) position tokens
    refuses [] position line q = absurd (false≢true line)
    refuses (token ∷ tokens) position line q =
        refused_by S (h token.kind token.position) token (λ tokens. h (head_kind tokens) (head_position tokens) tokens) (λ tokens. refl) can position tokens line q (moves token.kind token.position)

-- what is read goes on so
abbrev pub bind : {X : Type 0} → (X → Rest) → Outcome X → Outcome Answer
bind k outcome = and_then (λ x. k x.0 x.1) outcome

abbrev pub Then : {X : Type 0} → (List Token → X → List Token → Type 0) → (X → List Token → Answer → List Token → Type 0) → List Token → Answer → List Token → Type 0
Then {X} R S tokens answer rest = (x : X) × (middle : List Token) × R tokens x middle × S x middle answer rest

-- a part of a line is read as it stands there, and is refused at its first token that fits nothing, whatever comes after it
pub record Reads {X : Type 0} (starts : Bool) (p : List Token → Outcome X) (R : List Token → X → List Token → Type 0) : Type 1 where
  pub good : (k : X → Rest) (S : X → List Token → Answer → List Token → Type 0) → ((x : X) → Good true (k x) (S x)) → Good starts (λ tokens. bind k (p tokens)) (Then R S)

module _ {X : Type 0} {starts : Bool} {p : List Token → Outcome X} {R : List Token → X → List Token → Type 0} where
  pub reads_to : (R' : List Token → X → List Token → Type 0) → Reads starts p R → ((tokens : List Token) (x : X) (rest : List Token) → R tokens x rest → R' tokens x rest) → Reads starts p R'
  reads_to R' read to = record { good = λ k S goods. good_to (Then R' S) (read.good k S goods) (λ tokens answer rest. turn S tokens answer rest) }
    where
      turn : (S : X → List Token → Answer → List Token → Type 0) (tokens : List Token) (answer : Answer) (rest : List Token) → Then R S tokens answer rest → Then R' S tokens answer rest
      turn S tokens answer rest (x, middle, r, s) = (x, middle, to tokens x middle r, s)

  pub reads_then : {Y : Type 0} {T : X → List Token → Y → List Token → Type 0} (q : X → List Token → Outcome Y) → Reads starts p R → ((x : X) → Reads true (q x) (T x))
      → Reads starts (λ tokens. and_then (λ x. q x.0 x.1) (p tokens)) (λ tokens y rest. (x : X) × (middle : List Token) × R tokens x middle × T x middle y rest)
  reads_then {Y = Y} {T = T} q read next = record {
    good = λ k S goods. good_same _ _ (read.good (λ x tokens. bind k (q x tokens)) (λ x. Then (T x) S) (λ x. (next x).good k S goods)) (λ tokens. assoc k (p tokens)) (λ tokens answer rest. turn S tokens answer rest);
  }
    where
      assoc : (k : Y → Rest) (outcome : Outcome X) → and_then (λ x. bind k (q x.0 x.1)) outcome ≡ bind k (and_then (λ x. q x.0 x.1) outcome)
      assoc k (Ok x) = refl
      assoc k (Err position) = refl

      turn : (S : Y → List Token → Answer → List Token → Type 0) (tokens : List Token) (answer : Answer) (rest : List Token)
          → Then R (λ x. Then (T x) S) tokens answer rest → Then (λ tokens y rest. (x : X) × (middle : List Token) × R tokens x middle × T x middle y rest) S tokens answer rest
      turn S tokens answer rest (x, middle, r, (y, after, t, s)) = (y, after, (x, middle, r, t), s)

  pub reads_map : {Y : Type 0} (f : X → Y) → Reads starts p R
      → Reads starts (λ tokens. map_ok (λ x. (f x.0, x.1)) (p tokens)) (λ tokens y rest. (x : X) × R tokens x rest × (f x ≡ y))
  reads_map {Y = Y} f read = record {
    good = λ k S goods. good_same _ _ (read.good (λ x. k (f x)) (λ x. S (f x)) (λ x. goods (f x))) (λ tokens. assoc k (p tokens)) (λ tokens answer rest. turn S tokens answer rest);
  }
    where
      assoc : (k : Y → Rest) (outcome : Outcome X) → and_then (λ x. k (f x.0) x.1) outcome ≡ bind k (map_ok {Y = Y × List Token} (λ x. (f x.0, x.1)) outcome)
      assoc k (Ok x) = refl
      assoc k (Err position) = refl

      turn : (S : Y → List Token → Answer → List Token → Type 0) (tokens : List Token) (answer : Answer) (rest : List Token)
          → Then R (λ x. S (f x)) tokens answer rest → Then (λ tokens y rest. (x : X) × R tokens x rest × (f x ≡ y)) S tokens answer rest
      turn S tokens answer rest (x, middle, r, s) = (f x, middle, (x, r, refl), s)

-- a token before tokens that are read
abbrev pub can_after : (g k : Rest) (token : Token) → ((tokens : List Token) → g (token ∷ tokens) ≡ k tokens) → is_end token.kind ≡ false → Can k → Can g
can_after g k token e no_end can = record { first = token; further = can.first ∷ can.further; answer = can.answer; end = can.end; line = rw no_end can.line; goes = e (can.first ∷ can.further) ∙ can.goes }

-- a relation after one token
abbrev pub After : {X : Type 0} → TokenKind → SourcePosition → (List Token → X → List Token → Type 0) → List Token → X → List Token → Type 0
After kind position R tokens x rest = (token : Token) → token.kind ≡ kind → token.position ≡ position → R (token ∷ tokens) x rest

-- what a part of a line does with its next token: it is refused; it is read, and a part after it; it is read, and this is it; it is left, and
-- this is it; or a part is read as if it had not been seen
pub data Step {X : Type 0} (kind : TokenKind) (position : SourcePosition) (h : List Token → Outcome X) (R : List Token → X → List Token → Type 0) : Type 1 where
  misfit_here : ((tokens : List Token) → h tokens ≡ misfit tokens) → Step kind position h R
  shift : {starts : Bool} {p : List Token → Outcome X} → Reads starts p (After kind position R) → is_end kind ≡ false → ((tokens : List Token) → h tokens ≡ p (after_head tokens)) → Step kind position h R
  take : (x : X) → ((token : Token) (rest : List Token) → token.kind ≡ kind → R (token ∷ rest) x rest) → is_end kind ≡ false → ((tokens : List Token) → h tokens ≡ Ok (x, after_head tokens)) → Step kind position h R
  keep : (x : X) → ((rest : List Token) → head_kind rest ≡ kind → R rest x rest) → ((tokens : List Token) → h tokens ≡ Ok (x, tokens)) → Step kind position h R
  pass : {starts : Bool} {p : List Token → Outcome X} → Reads starts p R → ((tokens : List Token) → h tokens ≡ p tokens) → Step kind position h R

-- the part can begin by this token
abbrev pub begins : {X : Type 0} {kind : TokenKind} {position : SourcePosition} {h : List Token → Outcome X} {R : List Token → X → List Token → Type 0} → Step kind position h R → Bool
begins (shift read no_end e) = true
begins (take x r no_end e) = true
begins step = false

module _ {X : Type 0} (h : TokenKind → SourcePosition → List Token → Outcome X) (R : List Token → X → List Token → Type 0) where
  module _ (k : X → Rest) (S : X → List Token → Answer → List Token → Type 0) (goods : (x : X) → Good true (k x) (S x)) where
    move : (kind : TokenKind) (position : SourcePosition) → Step kind position (h kind position) R → Move kind position (λ tokens. bind k (h kind position tokens)) (Then R S)
    move kind position (misfit_here e) = misfits (λ tokens. ap (bind k) (e tokens))
    move kind position (shift {p = p} read no_end e) = shifts (λ tokens. bind k (p tokens)) (good_to _ (read.good k S goods) turn) no_end (λ tokens. ap (bind k) (e tokens))
      where
        turn : (tokens : List Token) (answer : Answer) (rest : List Token) → Then (After kind position R) S tokens answer rest → (token : Token) → token.kind ≡ kind → token.position ≡ position → Then R S (token ∷ tokens) answer rest
        turn tokens answer rest (x, middle, r, s) token is at = (x, middle, r token is at, s)
    move kind position (take x r no_end e) = shifts (k x) (good_to _ (goods x) (λ tokens answer rest s token is at. (x, tokens, r token tokens is, s))) no_end (λ tokens. ap (bind k) (e tokens))
    move kind position (keep x r e) = keeps (k x) (good_to _ (goods x) (λ tokens answer rest s is. (x, tokens, r tokens is, s))) (λ tokens. ap (bind k) (e tokens))
    move kind position (pass {p = p} read e) = keeps (λ tokens. bind k (p tokens)) (good_to _ (read.good k S goods) (λ tokens answer rest s is. s)) (λ tokens. ap (bind k) (e tokens))

    can_by : (token : Token) (step : Step token.kind token.position (h token.kind token.position) R) → begins step ≡ true
        → (can : Can (λ tokens. bind k (h (head_kind tokens) (head_position tokens) tokens))) × (can.first.kind ≡ token.kind)
    can_by token (shift {p = p} read no_end e) so = (can_after _ (λ tokens. bind k (p tokens)) token (λ tokens. ap (bind k) (e (token ∷ tokens))) no_end (read.good k S goods).can, refl)
    can_by token (take x r no_end e) so = (can_after _ (k x) token (λ tokens. ap (bind k) (e (token ∷ tokens))) no_end (goods x).can, refl)
    can_by token step so = absurd (false≢true so)

  -- a part that goes by its next token, and can come to an end
  pub chosen : {starts : Bool} → ((kind : TokenKind) (position : SourcePosition) → Step kind position (h kind position) R)
      → ((k : X → Rest) (S : X → List Token → Answer → List Token → Type 0) → ((x : X) → Good true (k x) (S x)) → (can : Can (λ tokens. bind k (h (head_kind tokens) (head_position tokens) tokens))) × (starts ≡ true → ends_sum can.first.kind ≡ true))
      → Reads starts (λ tokens. h (head_kind tokens) (head_position tokens) tokens) R
  chosen {starts = starts} steps can = record {
    good = λ k S goods. good starts (λ kind position tokens. bind k (h kind position tokens)) (Then R S) (λ kind position. move k S goods kind position (steps kind position)) (can k S goods).0 (can k S goods).1;
  }

  -- of the tokens by which it can begin one is given
  pub choose : {starts : Bool} (steps : (kind : TokenKind) (position : SourcePosition) → Step kind position (h kind position) R) (token : Token) → begins (steps token.kind token.position) ≡ true → (starts ≡ true → ends_sum token.kind ≡ true)
      → Reads starts (λ tokens. h (head_kind tokens) (head_position tokens) tokens) R
  choose steps token so ends = chosen steps (λ k S goods. let can = can_by k S goods token (steps token.kind token.position) so in (can.0, λ s. ap ends_sum can.1 ∙ ends s))

-- a token that may stand or be missing
module _ (test : TokenKind → Bool) (kind : TokenKind) (fits : test kind ≡ true) (no_end : is_end kind ≡ false) (is_kind : (other : TokenKind) → test other ≡ true → other ≡ kind) where
  flag_step : (other : TokenKind) (position : SourcePosition) (b : Bool) → test other ≡ b → Step other position (λ tokens. flag_at b tokens) (MayStand kind)
  flag_step other position true h = take true (λ token rest is. stands (is ∙ is_kind other h)) (ap is_end (is_kind other h) ∙ no_end) (λ tokens. refl)
  flag_step other position false h = keep false (λ rest is. missing) (λ tokens. refl)

  flag_begins : (b : Bool) (h : test kind ≡ b) → b ≡ true → begins (flag_step kind (token_of kind).position b h) ≡ true
  unfolding flag_step
  flag_begins true h so = refl
  flag_begins false h so = absurd (false≢true so)

  pub flag_reads : ends_sum kind ≡ true → Reads true (λ tokens. flag_at (test (head_kind tokens)) tokens) (MayStand kind)
  flag_reads ends = choose (λ kind position. flag_at (test kind)) _ (λ other position. flag_step other position (test other) refl) (token_of kind) (flag_begins (test kind) refl fits) (λ yes. ends)

-- one token that has to stand
pub data IsOne (test : TokenKind → Bool) : List Token → Unit {0} → List Token → Type 0 where
  one : {rest : List Token} {token : Token} → test token.kind ≡ true → IsOne test (token ∷ rest) tt rest

pub not_end : (test : TokenKind → Bool) → test LineEnd ≡ false → test FileEnd ≡ false → (kind : TokenKind) → test kind ≡ true → is_end kind ≡ false
not_end test line file LineEnd h = absurd (false≢true (sym line ∙ h))
not_end test line file FileEnd h = absurd (false≢true (sym file ∙ h))
not_end test line file kind h = refl

module _ (test : TokenKind → Bool) (line : test LineEnd ≡ false) (file : test FileEnd ≡ false) where
  one_step : (kind : TokenKind) (position : SourcePosition) (b : Bool) → test kind ≡ b → Step kind position (λ tokens. expected b tokens) (IsOne test)
  one_step kind position true h = take tt (λ token rest is. one (ap test is ∙ h)) (not_end test line file kind h) (λ tokens. refl)
  one_step kind position false h = misfit_here (λ tokens. refl)

  one_begins : (kind : TokenKind) (b : Bool) (h : test kind ≡ b) → b ≡ true → begins (one_step kind (token_of kind).position b h) ≡ true
  unfolding one_step
  one_begins kind true h so = refl
  one_begins kind false h so = absurd (false≢true so)

  pub one_reads : {starts : Bool} (kind : TokenKind) → test kind ≡ true → (starts ≡ true → ends_sum kind ≡ true) → Reads starts (λ tokens. expected (test (head_kind tokens)) tokens) (IsOne test)
  one_reads kind fits ends = choose (λ kind position. expected (test kind)) _ (λ kind position. one_step kind position (test kind) refl) (token_of kind) (one_begins kind (test kind) refl fits) ends

-- a token that names something by a table
pub data IsNamed {X : Type 0} (table : TokenKind → Option X) : List Token → X → List Token → Type 0 where
  named : {rest : List Token} {token : Token} {x : X} → table token.kind ≡ Some x → IsNamed table (token ∷ rest) x rest

named_not_end : {X : Type 0} (table : TokenKind → Option X) → table LineEnd ≡ None → table FileEnd ≡ None → (kind : TokenKind) (x : X) → table kind ≡ Some x → is_end kind ≡ false
named_not_end table line file LineEnd x h = cc
named_not_end table line file FileEnd x h = cc
named_not_end table line file kind x h = refl

module _ {X : Type 0} (table : TokenKind → Option X) (line : table LineEnd ≡ None) (file : table FileEnd ≡ None) where
  named_step : (kind : TokenKind) (position : SourcePosition) (o : Option X) → table kind ≡ o → Step kind position (λ tokens. named_at o tokens) (IsNamed table)
  named_step kind position (Some x) h = take x (λ token rest is. named (ap table is ∙ h)) (named_not_end table line file kind x h) (λ tokens. refl)
  named_step kind position None h = misfit_here (λ tokens. refl)

  named_begins : (kind : TokenKind) (x : X) (o : Option X) (h : table kind ≡ o) → o ≡ Some x → begins (named_step kind (token_of kind).position o h) ≡ true
  unfolding named_step
  named_begins kind x (Some y) h is = refl
  named_begins kind x None h is = cc

  pub named_reads : (kind : TokenKind) (x : X) → table kind ≡ Some x → ends_sum kind ≡ true → Reads true (λ tokens. named_at (table (head_kind tokens)) tokens) (IsNamed table)
  named_reads kind x fits ends = choose (λ kind position. named_at (table kind)) _ (λ kind position. named_step kind position (table kind) refl) (token_of kind) (named_begins kind x (table kind) refl fits) (λ yes. ends)
