-- At the front of characters stands a lexeme, or none: so each file has its tokens or its first fault, and no other.
use Rattle.std.proofs.Common.{◌≡◌, ◌==◌, ◌&&◌, ◌||◌, ℕ, zero, suc, ◌+◌, ◌<◌, ◌≤◌, Bool, true, false, List, [], ◌∷◌, ◌++◌, length, Option, None, Some, Result, Ok, Err, append_assoc, length-append, ◌⊎◌, inl, inr, arith, refl, sym, ap, ◌∙◌, subst}
use Rattle.pio_parse.proofs.Shared.{cases_Bool, SourcePosition, Token, TokenKind, Comma, Colon, DoubleColon, OpenBracket, CloseBracket, OpenParenthesis, CloseParenthesis, Plus, Minus, Star, BangToken as Bang, NotEqual, Tilde, LineEnd, FileEnd, is_word_char, scanned, AreLexemes, IsCharFaultAt, IsLexed, IsLexeme, IsMisplaced, StopsAt, are_word_chars, begins_by, ends_text_line as ends_line, ends_word, has_name, is_option, is_word, lacks, lacks_pair, tokens_at, word_at, first_position, moved, past, space, tab, carriage_return, line_end, comma, open_bracket, close_bracket, open_parenthesis, close_parenthesis, plus_lexeme as plus, minus, star, tilde, colon, double_colon, bang, not_equal, word, option, semicolon, slashes, comment, code_block, nothing, lexeme, other, slash, open_comment, percent, open_block, none_here, after_lexeme, CharFaultsAtFirst, LexesExactly}
use Rattle.pio_parse.proofs.Tests.{both, first_of, is_or, neither}
use Rattle.pio_parse.proofs.Lexemes.{reads_lexemes, reads_stop}

-- a lexeme at the front of characters
record Split (index : ℕ) (all : List ℕ) : Type 0 where
  chars : List ℕ
  rest : List ℕ
  token : Option TokenKind
  is : IsLexeme index chars rest token
  whole : chars ++ rest ≡ all
  less : length rest < length all

split : (index : ℕ) (chars rest : List ℕ) (token : Option TokenKind) (all : List ℕ) → IsLexeme index chars rest token → chars ++ rest ≡ all → 0 < length chars → Split index all
split index chars rest token all is whole some =
    let lengths : length (chars ++ rest) ≡ length all = ap length whole in
    record { chars = chars; rest = rest; token = token; is = is; whole = whole; less = omega (arith, length-append chars rest) }

one : (index c : ℕ) (rest : List ℕ) (token : Option TokenKind) → IsLexeme index (c ∷ []) rest token → Split index (c ∷ rest)
one index c rest token is = split index (c ∷ []) rest token (c ∷ rest) is refl (omega arith)

-- characters with `P`, behind which stands `Q`
record Span (P Q : List ℕ → Type 0) (cs : List ℕ) : Type 0 where
  chars : List ℕ
  rest : List ℕ
  whole : chars ++ rest ≡ cs
  all : P chars
  ends : Q rest

module _ (P Q : List ℕ → Type 0) (none : P []) (over : Q []) (next : (c : ℕ) (cs : List ℕ) → ((chars : List ℕ) → P chars → P (c ∷ chars)) ⊎ Q (c ∷ cs)) where
  span_more : (c : ℕ) (cs : List ℕ) → Span P Q cs → ((chars : List ℕ) → P chars → P (c ∷ chars)) ⊎ Q (c ∷ cs) → Span P Q (c ∷ cs)
  span_more c cs s (inl more) = record { chars = c ∷ s.chars; rest = s.rest; whole = ap (λ xs. c ∷ xs) s.whole; all = more s.chars s.all; ends = s.ends }
  span_more c cs s (inr here) = record { chars = []; rest = c ∷ cs; whole = refl; all = none; ends = here }

  span : (cs : List ℕ) → Span P Q cs
  span [] = record { chars = []; rest = []; whole = refl; all = none; ends = over }
  span (c ∷ cs) = span_more c cs (span cs) (next c cs)

abbrev WordSpan : List ℕ → Type 0
WordSpan cs = Span (λ cs. are_word_chars cs ≡ true) (λ cs. ends_word cs ≡ true) cs

word_span : (cs : List ℕ) → WordSpan cs
word_span cs = span _ _ refl refl (λ c cs. elim (cases_Bool (is_word_char c)) [ inl h ↦ inl (λ chars all. rw h all) | inr h ↦ inr (rw h refl) ]) cs

abbrev LineSpan : List ℕ → Type 0
LineSpan cs = Span (λ cs. lacks 10 cs ≡ true) (λ cs. ends_line cs ≡ true) cs

line_span : (cs : List ℕ) → LineSpan cs
line_span cs = span _ _ refl refl (λ c cs. elim (cases_Bool (c == 10)) [ inl h ↦ inr h | inr h ↦ inl (λ chars all. rw h all) ]) cs

-- characters up to the first pair
record PairSpan (a b : ℕ) (cs : List ℕ) : Type 0 where
  body : List ℕ
  rest : List ℕ
  whole : (body ++ a ∷ b ∷ []) ++ rest ≡ cs
  lack : lacks_pair a b (body ++ a ∷ []) ≡ true

and_false : (b : Bool) → (b && false) ≡ false
and_false true = refl
and_false false = refl

pair_here : (a b c : ℕ) (cs : List ℕ) → ((c == a) && begins_by b cs) ≡ true → PairSpan a b (c ∷ cs)
pair_here a b c [] h = let q : false ≡ true = sym (and_false (c == a)) ∙ h in absurd cc
pair_here a b c (d ∷ ds) h =
    let parts = both (c == a) (d == b) h in
    let here : PairSpan a b (a ∷ b ∷ ds) = record { body = []; rest = ds; whole = refl; lack = rw (and_false (a == a)) refl } in
    is_or (λ c. PairSpan a b (c ∷ d ∷ ds)) c a (is_or (λ d. PairSpan a b (a ∷ d ∷ ds)) d b here (λ no. let yes = parts.1 in absurd cc)) (λ no. let yes = parts.0 in absurd cc)

begins_same : (b a : ℕ) (body rest : List ℕ) → begins_by b ((body ++ a ∷ b ∷ []) ++ rest) ≡ begins_by b (body ++ a ∷ [])
begins_same b a [] rest = refl
begins_same b a (c ∷ cs) rest = refl

pair_more : (a b c : ℕ) (cs : List ℕ) (t : Bool) → ((c == a) && begins_by b cs) ≡ t → PairSpan a b cs ⊎ (lacks_pair a b cs ≡ true) → PairSpan a b (c ∷ cs) ⊎ (lacks_pair a b (c ∷ cs) ≡ true)
pair_more a b c cs true h s = inl (pair_here a b c cs h)
pair_more a b c cs false h (inl s) =
    let apart : ((c == a) && begins_by b (s.body ++ a ∷ [])) ≡ false = ap (λ x. (c == a) && x) (sym (begins_same b a s.body s.rest) ∙ ap (λ xs. begins_by b xs) s.whole) ∙ h in
    inl (record { body = c ∷ s.body; rest = s.rest; whole = ap (λ xs. c ∷ xs) s.whole; lack = rw (apart) s.lack })
pair_more a b c cs false h (inr l) = inr (rw h l)

pair_span : (a b : ℕ) (cs : List ℕ) → PairSpan a b cs ⊎ (lacks_pair a b cs ≡ true)
pair_span a b [] = inr refl
pair_span a b (c ∷ cs) = pair_more a b c cs ((c == a) && begins_by b cs) refl (pair_span a b cs)

-- the name of a code block does not go on here
abbrev stops : List ℕ → Bool
stops [] = true
stops (c ∷ cs) = (c == 37 || c == 10) || c == 123

abbrev IsHeading : List ℕ → Type 0
IsHeading name = (lacks 37 name ≡ true) × (lacks 10 name ≡ true) × (lacks 123 name ≡ true)

abbrev NameSpan : List ℕ → Type 0
NameSpan cs = Span IsHeading (λ cs. stops cs ≡ true) cs

name_span : (cs : List ℕ) → NameSpan cs
name_span cs = span IsHeading _ (refl, refl, refl) refl (λ c cs. elim (cases_Bool ((c == 37 || c == 10) || c == 123)) [
  | inl h ↦ inr h
  | inr h ↦
      let p = neither (c == 37 || c == 10) (c == 123) h in
      let q = neither (c == 37) (c == 10) p.0 in
      inl (λ chars all. (rw (q.0) all.0, rw (q.1) all.1, rw (p.1) all.2))
]) cs

abbrev Front : ℕ → List ℕ → Type 0
Front index all = Split index all ⊎ IsMisplaced all

block_front : (index : ℕ) (name rest : List ℕ) → lacks 37 name ≡ true → lacks 10 name ≡ true → lacks 123 name ≡ true → has_name name ≡ true
    → PairSpan 37 125 rest ⊎ (lacks_pair 37 125 rest ≡ true) → Front index (37 ∷ (name ++ 123 ∷ rest))
block_front index name rest a b d h (inl s) =
    inl (split index (37 ∷ (name ++ 123 ∷ (s.body ++ 37 ∷ 125 ∷ []))) s.rest None (37 ∷ (name ++ 123 ∷ rest)) (code_block name s.body a b d h s.lack)
    (ap (λ xs. 37 ∷ xs) (append_assoc name (123 ∷ (s.body ++ 37 ∷ 125 ∷ [])) s.rest ∙ ap (λ xs. name ++ 123 ∷ xs) s.whole)) (omega arith))
block_front index name rest a b d h (inr l) = inr (open_block name rest a b d h l)

percent_front : (index : ℕ) (name rest : List ℕ) → lacks 37 name ≡ true → lacks 10 name ≡ true → lacks 123 name ≡ true → stops rest ≡ true → Front index (37 ∷ (name ++ rest))
percent_front index name [] a b d h = inr (percent name [] a b d refl)
percent_front index name (c ∷ cs) a b d h = is_or (λ c. Front index (37 ∷ (name ++ c ∷ cs))) c 123
    (elim (cases_Bool (has_name name)) [
      | inl named ↦ block_front index name cs a b d named (pair_span 37 125 cs)
      | inr unnamed ↦ inr (percent name (123 ∷ cs) a b d (rw unnamed refl))
    ])
    (λ no. let bad = first_of (c == 37 || c == 10) (c == 123) no h in inr (percent name (c ∷ cs) a b d (rw bad refl)))

colon_front : (index : ℕ) (cs : List ℕ) → Split index (58 ∷ cs)
colon_front index [] = one index 58 [] (Some Colon) (colon refl)
colon_front index (d ∷ ds) = is_or (λ d. Split index (58 ∷ d ∷ ds)) d 58 (split index (58 ∷ 58 ∷ []) ds (Some DoubleColon) (58 ∷ 58 ∷ ds) double_colon refl (omega arith)) (λ no. one index 58 (d ∷ ds) (Some Colon) (colon no))

bang_front : (index : ℕ) (cs : List ℕ) → Split index (33 ∷ cs)
bang_front index [] = one index 33 [] (Some Bang) (bang refl)
bang_front index (d ∷ ds) = is_or (λ d. Split index (33 ∷ d ∷ ds)) d 61 (split index (33 ∷ 61 ∷ []) ds (Some NotEqual) (33 ∷ 61 ∷ ds) not_equal refl (omega arith)) (λ no. one index 33 (d ∷ ds) (Some Bang) (bang no))

slashes_front : (index : ℕ) (cs : List ℕ) → LineSpan cs → Split index (47 ∷ 47 ∷ cs)
slashes_front index cs s = split index (47 ∷ 47 ∷ s.chars) s.rest None (47 ∷ 47 ∷ cs) (slashes s.all s.ends) (ap (λ xs. 47 ∷ 47 ∷ xs) s.whole) (omega arith)

comment_front : (index : ℕ) (cs : List ℕ) → PairSpan 42 47 cs ⊎ (lacks_pair 42 47 cs ≡ true) → Front index (47 ∷ 42 ∷ cs)
comment_front index cs (inl s) = inl (split index (47 ∷ 42 ∷ (s.body ++ 42 ∷ 47 ∷ [])) s.rest None (47 ∷ 42 ∷ cs) (comment s.body s.lack) (ap (λ xs. 47 ∷ 42 ∷ xs) s.whole) (omega arith))
comment_front index cs (inr l) = inr (open_comment l)

slash_front : (index : ℕ) (cs : List ℕ) → Front index (47 ∷ cs)
slash_front index [] = inr (slash refl refl)
slash_front index (d ∷ ds) = is_or (λ d. Front index (47 ∷ d ∷ ds)) d 47 (inl (slashes_front index ds (line_span ds)))
    (λ no. is_or (λ d. Front index (47 ∷ d ∷ ds)) d 42 (comment_front index ds (pair_span 42 47 ds)) (λ none. inr (slash no none)))

semicolon_front : (index : ℕ) (cs : List ℕ) → LineSpan cs → Split index (59 ∷ cs)
semicolon_front index cs s = split index (59 ∷ s.chars) s.rest None (59 ∷ cs) (semicolon s.all s.ends) (ap (λ xs. 59 ∷ xs) s.whole) (omega arith)

block_or_not : (index : ℕ) (cs : List ℕ) → NameSpan cs → Front index (37 ∷ cs)
block_or_not index cs s = subst (λ (xs : List ℕ). Front index (37 ∷ xs)) s.whole (percent_front index s.chars s.rest s.all.0 s.all.1 s.all.2 s.ends)

option_front : (index c : ℕ) (cs word_chars rest : List ℕ) → is_word (c ∷ word_chars) ≡ true → ends_word rest ≡ true → is_option (word_at index (c ∷ word_chars)) ≡ true → word_chars ++ rest ≡ cs → LineSpan rest → Split index (c ∷ cs)
option_front index c cs word_chars rest w e o whole s =
    split index ((c ∷ word_chars) ++ s.chars) s.rest (Some (word_at index (c ∷ word_chars))) (c ∷ cs)
    (option (c ∷ word_chars) s.chars w (ap ends_word s.whole ∙ e) o s.all s.ends)
    (ap (λ xs. c ∷ xs) (append_assoc word_chars s.chars s.rest ∙ ap (λ xs. word_chars ++ xs) s.whole ∙ whole)) (omega arith)

word_front : (index c : ℕ) (cs : List ℕ) → (is_word_char c || c == 46) ≡ true → WordSpan cs → Split index (c ∷ cs)
word_front index c cs h s =
    let w : is_word (c ∷ s.chars) ≡ true = rw h s.all in
    elim (cases_Bool (is_option (word_at index (c ∷ s.chars)))) [
      | inl o ↦ option_front index c cs s.chars s.rest w s.ends o s.whole (line_span s.rest)
      | inr o ↦ split index (c ∷ s.chars) s.rest (Some (word_at index (c ∷ s.chars))) (c ∷ cs) (word w s.ends o) (ap (λ xs. c ∷ xs) s.whole) (omega arith)
    ]

-- a lexeme stands at the front, or none
front : (index c : ℕ) (cs : List ℕ) → Front index (c ∷ cs)
front index c cs =
    let here = λ (k : ℕ) (found : Front index (k ∷ cs)) (no : (c == k) ≡ false → Front index (c ∷ cs)). is_or (λ c. Front index (c ∷ cs)) c k found no in
    here 32 (inl (one index 32 cs None space)) λ n32.
    here 9 (inl (one index 9 cs None tab)) λ n9.
    here 13 (inl (one index 13 cs None carriage_return)) λ n13.
    here 10 (inl (one index 10 cs (Some LineEnd) line_end)) λ n10.
    here 44 (inl (one index 44 cs (Some Comma) comma)) λ n44.
    here 91 (inl (one index 91 cs (Some OpenBracket) open_bracket)) λ n91.
    here 93 (inl (one index 93 cs (Some CloseBracket) close_bracket)) λ n93.
    here 40 (inl (one index 40 cs (Some OpenParenthesis) open_parenthesis)) λ n40.
    here 41 (inl (one index 41 cs (Some CloseParenthesis) close_parenthesis)) λ n41.
    here 43 (inl (one index 43 cs (Some Plus) plus)) λ n43.
    here 45 (inl (one index 45 cs (Some Minus) minus)) λ n45.
    here 42 (inl (one index 42 cs (Some Star) star)) λ n42.
    here 126 (inl (one index 126 cs (Some Tilde) tilde)) λ n126.
    here 58 (inl (colon_front index cs)) λ n58.
    here 33 (inl (bang_front index cs)) λ n33.
    here 47 (slash_front index cs) λ n47.
    here 59 (inl (semicolon_front index cs (line_span cs))) λ n59.
    here 37 (block_or_not index cs (name_span cs)) λ n37.
    elim (cases_Bool (is_word_char c || c == 46)) [
      | inl w ↦ inl (word_front index c cs w (word_span cs))
      | inr w ↦
          let none = neither (is_word_char c) (c == 46) w in
          inr (other none.0 (rw (n32, n9, n13, n10, n58, n33, n47, n59, n37, none.1, n44, n91, n93, n40, n41, n43, n45, n42, n126) refl))
    ]

-- characters are lexemes to their end, or up to a position where none stands
abbrev Whole : ℕ → SourcePosition → List ℕ → Type 0
Whole index position chars = ((tokens : List Token) × AreLexemes index position chars tokens) ⊎ ((fault : SourcePosition) × StopsAt index position chars fault)

goes_on : (index : ℕ) (position : SourcePosition) (all : List ℕ) (s : Split index all) → Whole (index + length s.chars) (moved s.chars position) s.rest → Whole index position all
goes_on index position all s (inl w) = inl (tokens_at s.token position ++ w.0, subst (λ (cs : List ℕ). AreLexemes index position cs (tokens_at s.token position ++ w.0)) s.whole (lexeme s.is w.1))
goes_on index position all s (inr w) = inr (w.0, subst (λ (cs : List ℕ). StopsAt index position cs w.0) s.whole (after_lexeme s.is w.1))

whole_by : (n index : ℕ) (position : SourcePosition) (all : List ℕ) → length all ≤ suc n → ((index : ℕ) (position : SourcePosition) (chars : List ℕ) → length chars ≤ n → Whole index position chars) → Front index all → Whole index position all
whole_by n index position all le shorter (inl s) =
    let less = s.less in
    let few : length s.rest ≤ n = omega arith in
    goes_on index position all s (shorter (index + length s.chars) (moved s.chars position) s.rest few)
whole_by n index position all le shorter (inr m) = inr (position, none_here m)

whole : (n index : ℕ) (position : SourcePosition) (chars : List ℕ) → length chars ≤ n → Whole index position chars
whole n index position [] le = inl ([], nothing)
whole zero index position (c ∷ cs) le = absurd (omega arith)
whole (suc n) index position (c ∷ cs) le = whole_by n index position (c ∷ cs) le (λ index position chars le. whole n index position chars le) (front index c cs)

abbrev all_of : List ℕ → List Token → List Token
all_of text tokens = tokens ++ record { kind = FileEnd; position = past first_position first_position text } ∷ []

same_tokens : (outcome : Result (List Token) SourcePosition) (xs ys : List Token) → outcome ≡ Ok xs → outcome ≡ Ok ys → xs ≡ ys
same_tokens (Ok zs) xs ys h k = cc
same_tokens (Err position) xs ys h k = cc

same_position : (outcome : Result (List Token) SourcePosition) (p q : SourcePosition) → outcome ≡ Err p → outcome ≡ Err q → p ≡ q
same_position (Ok zs) p q h k = cc
same_position (Err position) p q h k = cc

not_both : (outcome : Result (List Token) SourcePosition) (xs : List Token) (p : SourcePosition) → outcome ≡ Ok xs → outcome ≡ Err p → ⊥
not_both (Ok zs) xs p h k = cc
not_both (Err position) xs p h k = cc

lexed_of : (text : List ℕ) (tokens : List Token) → scanned text ≡ Ok tokens → Whole 0 first_position text → IsLexed text tokens
lexed_of text tokens h (inl w) = (w.0, w.1, same_tokens (scanned text) tokens (all_of text w.0) h (reads_lexemes text (all_of text w.0) (w.0, w.1, refl)))
lexed_of text tokens h (inr w) = absurd (not_both (scanned text) tokens w.0 h (reads_stop text w.0 w.1))

fault_of : (text : List ℕ) (position : SourcePosition) → scanned text ≡ Err position → Whole 0 first_position text → IsCharFaultAt text position
fault_of text position h (inl w) = absurd (not_both (scanned text) (all_of text w.0) position (reads_lexemes text (all_of text w.0) (w.0, w.1, refl)) h)
fault_of text position h (inr w) =
    subst (λ (p : SourcePosition). IsCharFaultAt text p) (same_position (scanned text) w.0 position (reads_stop text w.0 w.1) h) w.1

pub lexes_exactly : LexesExactly
lexes_exactly text tokens = (λ h. lexed_of text tokens h (whole (length text) 0 first_position text (omega arith)), λ is. reads_lexemes text tokens is)

pub char_faults_at_first : CharFaultsAtFirst
char_faults_at_first text position = (λ h. fault_of text position h (whole (length text) 0 first_position text (omega arith)), λ is. reads_stop text position is)
