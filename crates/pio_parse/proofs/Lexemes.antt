-- How characters are read: each lexeme gives its token, and the next begins where it ends; where none stands, they are refused.
use Rattle.std.proofs.Common.{◌≡◌, ◌==◌, ◌&&◌, ◌||◌, not, ℕ, suc, ◌+◌, Bool, true, false, cond, List, [], ◌∷◌, ◌++◌, length, Option, None, Some, Result, Ok, Err, slice_range, drop, option_to_list, append-nil, append_assoc, length-append, take_at, drop_at, inl, inr, arith, refl, sym, ap, ◌∙◌, subst}
use Rattle.pio_parse.proofs.Shared.{⊤, ◌-◌, option_map_or, eqb_tells, SourcePosition, Token, LangOpt, TokenKind, DirectiveToken, Colon as ColonToken, BangToken, FileEnd, Mode, Between, Word, ColonMode as Colon, Bang, Slash, LineComment, BlockComment, Header, Code, Step, begins, ends, finishes, without_token, scanned, scanned_from, sign_of, single_token, steps, word_ends, word_token_ends, and_then, map_ok, is_word_char, word_kind, first_position, position_behind, moved, past, AreLexemes, IsCharFaultAt, IsLexed, IsLexeme, IsMisplaced, StopsAt, are_word_chars, begins_by, ends_badly, ends_text_line as ends_line, ends_word, first_chars, has_name, is_among, is_option, is_word, lacks, lacks_pair, tokens_at, word_at, space, tab, carriage_return, line_end, comma, open_bracket, close_bracket, open_parenthesis, close_parenthesis, plus_lexeme as plus, minus, star, tilde, colon, double_colon, bang, not_equal, word, option, semicolon, slashes, comment, code_block, nothing, lexeme, other, slash, open_comment, percent, open_block, none_here, after_lexeme}
use Rattle.pio_parse.proofs.Tests.{apart, both, first_of, is_or, not_true}

-- where a scan stands: at an index and a position, behind another, with the tokens so far
pub record Place : Type 0 where
  pub index : ℕ
  pub here : SourcePosition
  pub after : SourcePosition
  pub toks : List Token

abbrev pub scan : List ℕ → Mode → Place → List ℕ → Result (List Token) SourcePosition
scan text mode p chars = scanned_from text chars p.index mode p.here p.after p.toks

-- the place behind these characters, with these tokens
abbrev pub on : Place → List ℕ → List Token → Place
on p chars toks = record { index = p.index + length chars; here = moved chars p.here; after = past p.after p.here chars; toks = toks }

-- these characters are read, with the rest after them: the mode and the tokens behind them
pub record Goes (text : List ℕ) (mode : Mode) (p : Place) (chars rest : List ℕ) (last : Mode) (toks : List Token) : Type 0 where
  pub goes : scan text mode p (chars ++ rest) ≡ scan text last (on p chars toks) rest

-- what is read after a character, by what the character does
abbrev after_step : List ℕ → List ℕ → Place → ℕ → Result Step SourcePosition → Result (List Token) SourcePosition
after_step text rest p c outcome = and_then
    (λ step. scanned_from text rest (p.index + 1) step.mode (position_behind c p.here) (record { line = p.here.line; column = p.here.column + 1 }) (p.toks ++ option_to_list step.first ++ option_to_list step.second)) outcome

module _ {text rest : List ℕ} {mode : Mode} {p : Place} where
  -- nothing is read, and what had begun is over
  stop : {last : Mode} {toks : List Token} → scan text mode p rest ≡ scanned_from text rest p.index last p.here p.after toks → Goes text mode p [] rest last toks
  stop {last = last} {toks = toks} e = let none : p.index + 0 ≡ p.index = omega arith in record { goes = e ∙ ap (λ i. scanned_from text rest i last p.here p.after toks) (sym none) }

  over : {chars : List ℕ} {middle last : Mode} {more new : List Token} → Goes text mode p chars rest middle more → scan text middle (on p chars more) rest ≡ scan text last (on p chars new) rest → Goes text mode p chars rest last new
  over g e = record { goes = g.goes ∙ e }

  -- one more character
  step_on : {ds : List ℕ} {last : Mode} {toks more : List Token} (c : ℕ) (step : Step) → steps text p.index mode c p.here ≡ Ok step → p.toks ++ option_to_list step.first ++ option_to_list step.second ≡ toks
      → Goes text step.mode (on p (c ∷ []) toks) ds rest last more → Goes text mode p (c ∷ ds) rest last more
  step_on {ds = ds} {last = last} {more = more} c step h same g =
      let far : p.index + 1 + length ds ≡ p.index + suc (length ds) = omega arith in
      record {
        goes = ap (λ (r : Result Step SourcePosition). after_step text (ds ++ rest) p c r) h
            ∙ ap (λ ts. scanned_from text (ds ++ rest) (p.index + 1) step.mode (position_behind c p.here) (record { line = p.here.line; column = p.here.column + 1 }) ts) same
            ∙ g.goes
            ∙ ap (λ i. scanned_from text rest i last (moved (c ∷ ds) p.here) (past p.after p.here (c ∷ ds)) more) far;
      }

  next : {ds : List ℕ} {middle last : Mode} {more : List Token} (c : ℕ) → steps text p.index mode c p.here ≡ Ok (without_token middle)
      → Goes text middle (on p (c ∷ []) p.toks) ds rest last more → Goes text mode p (c ∷ ds) rest last more
  next {middle = middle} c h g = step_on c (without_token middle) h (append-nil (p.toks ++ []) ∙ append-nil p.toks) g

none : {text rest : List ℕ} {mode : Mode} {p : Place} → Goes text mode p [] rest mode p.toks
none = stop refl

moved_append : (cs ds : List ℕ) (position : SourcePosition) → moved (cs ++ ds) position ≡ moved ds (moved cs position)
moved_append [] ds position = refl
moved_append (c ∷ cs) ds position = moved_append cs ds (position_behind c position)

past_append : (cs ds : List ℕ) (before position : SourcePosition) → past before position (cs ++ ds) ≡ past (past before position cs) (moved cs position) ds
past_append [] ds before position = refl
past_append (c ∷ cs) ds before position = past_append cs ds (record { line = position.line; column = position.column + 1 }) (position_behind c position)

-- characters after others
then : {text rest ds : List ℕ} {p : Place} {mode middle last : Mode} {toks more : List Token} (cs : List ℕ) → Goes text mode p cs (ds ++ rest) middle toks → Goes text middle (on p cs toks) ds rest last more
    → Goes text mode p (cs ++ ds) rest last more
then {text = text} {rest = rest} {ds = ds} {p = p} {mode = mode} cs a b =
    let far : p.index + length cs + length ds ≡ p.index + length (cs ++ ds) = omega (arith, length-append cs ds) in
    record { goes = ap (λ xs. scan text mode p xs) (append_assoc cs ds rest) ∙ a.goes ∙ b.goes ∙ rw (far, moved_append cs ds p.here, past_append cs ds p.after p.here) refl }

-- a lexeme gives its token
abbrev Reads : List ℕ → Place → List ℕ → List ℕ → Option TokenKind → Type 0
Reads text p chars rest token = Goes text Between p chars rest Between (p.toks ++ tokens_at token p.here)

silent : {text chars rest : List ℕ} {p : Place} → Goes text Between p chars rest Between p.toks → Reads text p chars rest None
silent {text = text} {chars = chars} {rest = rest} {p = p} g = subst (λ ts. Goes text Between p chars rest Between ts) (sym (append-nil p.toks)) g

-- one character that ends a token
sign : {text rest : List ℕ} {mode : Mode} {p : Place} (c : ℕ) (kind : TokenKind) (position : SourcePosition) → steps text p.index mode c p.here ≡ Ok (single_token kind position)
    → Goes text mode p (c ∷ []) rest Between (p.toks ++ record { kind = kind; position = position } ∷ [])
sign {p = p} c kind position h = step_on c (single_token kind position) h (ap (λ ts. ts ++ record { kind = kind; position = position } ∷ []) (append-nil p.toks)) none

-- what begins at a character ends no token before it
abbrev IsPlain : Result Step SourcePosition → Type 0
IsPlain (Ok step) = step.first ≡ None
IsPlain (Err position) = ⊤

plain_if : (b : Bool) (x y : Result Step SourcePosition) → IsPlain x → IsPlain y → IsPlain (cond b x y)
plain_if true x y h k = h
plain_if false x y h k = k

plain_sign : (kind : Option TokenKind) (position : SourcePosition) (o : Result Step SourcePosition) → IsPlain o → IsPlain (option_map_or (λ (kind : TokenKind). Ok (single_token kind position)) kind o)
plain_sign None position o h = h
plain_sign (Some kind) position o h = refl

begins_plain : (index c : ℕ) (position : SourcePosition) → IsPlain (begins index c position)
begins_plain index c position =
    plain_if ((c == 32) || (c == 9) || (c == 13)) _ _ refl
    (plain_if (c == 10) _ _ refl
    (plain_if (c == 58) _ _ refl
    (plain_if (c == 33) _ _ refl
    (plain_if (c == 47) _ _ refl
    (plain_if (c == 59) _ _ refl
    (plain_if (c == 37) _ _ refl
    (plain_if (c == 46) _ _ refl
    (plain_sign (sign_of c) position _ (plain_if (is_word_char c) _ _ refl tt)))))))))

over_by : (outcome : Result Step SourcePosition) (text rest : List ℕ) (p : Place) (c : ℕ) (token : Token) → IsPlain outcome
    → after_step text rest p c (map_ok (λ (step : Step). record { mode = step.mode; first = Some token; second = step.second }) outcome) ≡ after_step text rest (record p { toks = p.toks ++ token ∷ [] }) c outcome
over_by (Ok step) text rest p c token h = rw (h, append-nil (p.toks ++ token ∷ [])) refl
over_by (Err position) text rest p c token h = refl

-- a token ends before what follows it
token_over : (text rest : List ℕ) (mode : Mode) (p : Place) (token : Token) → (rest ≡ [] → finishes text mode ≡ Ok (Some token))
    → ((c : ℕ) (cs : List ℕ) → rest ≡ c ∷ cs → steps text p.index mode c p.here ≡ ends token p.index c p.here) → scan text mode p rest ≡ scan text Between (record p { toks = p.toks ++ token ∷ [] }) rest
token_over text [] mode p token fin step = rw (fin refl, append-nil (p.toks ++ token ∷ [])) refl
token_over text (c ∷ cs) mode p token fin step =
    ap (λ (r : Result Step SourcePosition). after_step text cs p c r) (step c cs refl) ∙ over_by (begins p.index c p.here) text cs p c token (begins_plain p.index c p.here)

-- the characters of a word that has begun, and those of a line that is not read
word_walk : {text rest : List ℕ} (start : ℕ) (begun : SourcePosition) (cs : List ℕ) (p : Place) → are_word_chars cs ≡ true → Goes text (Word start begun) p cs rest (Word start begun) p.toks
word_walk start begun [] p h = none
word_walk start begun (c ∷ cs) p h = let parts = both (is_word_char c) (are_word_chars cs) h in next c (rw parts.0 refl) (word_walk start begun cs (on p (c ∷ []) p.toks) parts.1)

line_walk : {text rest : List ℕ} (cs : List ℕ) (p : Place) → lacks 10 cs ≡ true → Goes text LineComment p cs rest LineComment p.toks
line_walk [] p h = none
line_walk (c ∷ cs) p h = let parts = both (not (c == 10)) (lacks 10 cs) h in next c (rw (not_true (c == 10) parts.0) refl) (line_walk cs (on p (c ∷ []) p.toks) parts.1)

-- such a line is over
line_over : (text rest : List ℕ) (p : Place) → ends_line rest ≡ true → scan text LineComment p rest ≡ scan text Between p rest
line_over text [] p h = refl
line_over text (c ∷ cs) p h = elim (eqb_tells c 10) [
  | inl e ↦ let same = e.1 in rw same refl
  | inr e ↦ let other = e.0 in absurd cc
]

line_reads : (text line rest : List ℕ) (p : Place) → lacks 10 line ≡ true → ends_line rest ≡ true → Goes text LineComment p line rest Between p.toks
line_reads text line rest p lack ends = over (line_walk line p lack) (line_over text rest (on p line p.toks) ends)

-- what ends by a pair of characters: a comment, or a code block
module _ (text : List ℕ) (mode : Bool → Mode) (a b : ℕ) (begun : SourcePosition) (same : (a == a) ≡ true) (same_last : (b == b) ≡ true) (unfinished : (ready : Bool) → finishes text (mode ready) ≡ Err begun)
    (step : (index c : ℕ) (here : SourcePosition) (ready : Bool) → steps text index (mode ready) c here ≡ cond (ready && (c == b)) (Ok (without_token Between)) (Ok (without_token (mode (c == a))))) where
  pair_walk : {rest : List ℕ} (body : List ℕ) (ready : Bool) (p : Place) → (ready && begins_by b (body ++ a ∷ [])) ≡ false → lacks_pair a b (body ++ a ∷ []) ≡ true
      → Goes text (mode ready) p (body ++ a ∷ b ∷ []) rest Between p.toks
  pair_walk [] ready p h lack = next a (step p.index a p.here ready ∙ rw (h, same) refl) (next b (step (p.index + 1) b (position_behind a p.here) true ∙ rw same_last refl) none)
  pair_walk (c ∷ cs) ready p h lack =
      let parts = both (not ((c == a) && begins_by b (cs ++ a ∷ []))) (lacks_pair a b (cs ++ a ∷ [])) lack in
      next c (step p.index c p.here ready ∙ rw h refl) (pair_walk cs (c == a) (on p (c ∷ []) p.toks) (not_true ((c == a) && begins_by b (cs ++ a ∷ [])) parts.0) parts.1)

  pair_fails : (cs : List ℕ) (ready : Bool) (p : Place) → (ready && begins_by b cs) ≡ false → lacks_pair a b cs ≡ true → scan text (mode ready) p cs ≡ Err begun
  pair_fails [] ready p h lack = rw (unfinished ready) refl
  pair_fails (c ∷ cs) ready p h lack =
      let parts = both (not ((c == a) && begins_by b cs)) (lacks_pair a b cs) lack in
      let first : Goes text (mode ready) p (c ∷ []) cs (mode (c == a)) p.toks = next c (step p.index c p.here ready ∙ rw h refl) none in
      first.goes ∙ pair_fails cs (c == a) (on p (c ∷ []) p.toks) (not_true ((c == a) && begins_by b cs) parts.0) parts.1

comment_walk : {text rest : List ℕ} (begun : SourcePosition) (body : List ℕ) (p : Place) → lacks_pair 42 47 (body ++ 42 ∷ []) ≡ true → Goes text (BlockComment begun false) p (body ++ 42 ∷ 47 ∷ []) rest Between p.toks
comment_walk {text = text} begun body p lack = pair_walk text (BlockComment begun) 42 47 begun refl refl (λ ready. refl) (λ index c here ready. refl) body false p refl lack

code_walk : {text rest : List ℕ} (begun : SourcePosition) (body : List ℕ) (p : Place) → lacks_pair 37 125 (body ++ 37 ∷ []) ≡ true → Goes text (Code begun false) p (body ++ 37 ∷ 125 ∷ []) rest Between p.toks
code_walk {text = text} begun body p lack = pair_walk text (Code begun) 37 125 begun refl refl (λ ready. refl) (λ index c here ready. refl) body false p refl lack

or_false : (b : Bool) → b ≡ (b || false)
or_false true = refl
or_false false = refl

or_assoc : (a b c : Bool) → ((a || b) || c) ≡ (a || (b || c))
or_assoc true b c = refl
or_assoc false b c = refl

-- the name of a code block
header_walk : {text rest : List ℕ} (begun : SourcePosition) (name : List ℕ) (named : Bool) (p : Place) → lacks 37 name ≡ true → lacks 10 name ≡ true → lacks 123 name ≡ true
    → Goes text (Header begun named) p name rest (Header begun (named || has_name name)) p.toks
header_walk {text = text} {rest = rest} begun [] named p a b d = subst (λ n. Goes text (Header begun named) p [] rest (Header begun n) p.toks) (or_false named) none
header_walk {text = text} {rest = rest} begun (c ∷ cs) named p a b d =
    let no_percent = both (not (c == 37)) (lacks 37 cs) a in
    let no_line = both (not (c == 10)) (lacks 10 cs) b in
    let no_brace = both (not (c == 123)) (lacks 123 cs) d in
    subst (λ n. Goes text (Header begun named) p (c ∷ cs) rest (Header begun n) p.toks) (or_assoc named (not (c == 32)) (has_name cs))
    (next c (rw (not_true (c == 123) no_brace.0, not_true (c == 37) no_percent.0, not_true (c == 10) no_line.0) refl)
    (header_walk begun cs (named || not (c == 32)) (on p (c ∷ []) p.toks) no_percent.1 no_line.1 no_brace.1))

-- a code block up to its `{`
block_begun : {text rest : List ℕ} (name : List ℕ) (p : Place) → lacks 37 name ≡ true → lacks 10 name ≡ true → lacks 123 name ≡ true
    → Goes text Between p (37 ∷ name) rest (Header p.here (has_name name)) p.toks
block_begun name p a b d = next 37 refl (header_walk p.here name false (on p (37 ∷ []) p.toks) a b d)

block_named : {text rest : List ℕ} (name : List ℕ) (p : Place) → lacks 37 name ≡ true → lacks 10 name ≡ true → lacks 123 name ≡ true → has_name name ≡ true
    → Goes text Between p (37 ∷ (name ++ 123 ∷ [])) rest (Code p.here false) p.toks
block_named name p a b d h = then (37 ∷ name) (block_begun name p a b d) (next 123 (rw h refl) none)

-- where a word stands in its file
record Stands (text chars rest : List ℕ) (start index : ℕ) : Type 0 where
  range : slice_range text start index ≡ chars
  last : rest ≡ [] → drop start text ≡ chars
  length_is : rest ≡ [] → length text ≡ index

slice_middle : (pre w rest : List ℕ) (n : ℕ) → n ≡ length pre + length w → slice_range (pre ++ (w ++ rest)) (length pre) n ≡ w
slice_middle pre w rest n e =
    let f : n - length pre ≡ length w = omega arith in
    rw (drop_at pre (w ++ rest) (length pre) refl, f) (take_at w rest (length w) refl)

stands : (text pre chars rest : List ℕ) (index : ℕ) → text ≡ pre ++ (chars ++ rest) → index ≡ length pre → Stands text chars rest index (index + length chars)
stands text pre chars rest index whole at = record {
  range = rw (whole, at) (slice_middle pre chars rest (length pre + length chars) refl);
  last = λ e. rw (whole, at) (drop_at pre (chars ++ rest) (length pre) refl ∙ ap (λ r. chars ++ r) e ∙ append-nil chars);
  length_is = λ e.
      let a : length text ≡ length (pre ++ (chars ++ rest)) = ap length whole in
      let b : length rest ≡ 0 = ap length e in
      omega (arith, length-append pre (chars ++ rest), length-append chars rest);
}

-- what ends a word, by its kind
kind_over : (kind : TokenKind) (begun : SourcePosition) (c index : ℕ) (position : SourcePosition) → is_option kind ≡ false → word_token_ends kind begun c index position ≡ ends (record { kind = kind; position = begun }) index c position
kind_over (DirectiveToken LangOpt) begun c index position h = cc
kind_over kind begun c index position h = refl

option_end : (kind : TokenKind) (begun : SourcePosition) (c index : ℕ) (position : SourcePosition) → is_option kind ≡ true → (c == 10) ≡ true
    → word_token_ends kind begun c index position ≡ ends (record { kind = kind; position = begun }) index c position
option_end (DirectiveToken LangOpt) begun c index position h k = rw k refl
option_end kind begun c index position h k = cc

-- the option's line goes on
option_step : (kind : TokenKind) (begun : SourcePosition) (c index : ℕ) (position : SourcePosition) → is_option kind ≡ true → (c == 10) ≡ false
    → word_token_ends kind begun c index position ≡ Ok (record { mode = LineComment; first = Some (record { kind = kind; position = begun }); second = None })
option_step (DirectiveToken LangOpt) begun c index position h k = rw k refl
option_step kind begun c index position h k = cc

cond_false : {X : Type 0} (b : Bool) (x y : X) → b ≡ false → cond b x y ≡ y
cond_false true x y h = cc
cond_false false x y h = refl

word_begins : (c index : ℕ) (position : SourcePosition) → is_word_char c ≡ true → begins index c position ≡ Ok (without_token (Word index position))
word_begins c index position h =
    let no = λ (k : ℕ) (e : is_word_char k ≡ false). apart is_word_char c k h e in
    rw (no 32 refl, no 9 refl, no 13 refl, no 10 refl, no 58 refl, no 33 refl, no 47 refl, no 59 refl, no 37 refl, no 46 refl, no 44 refl, no 91 refl, no 93 refl, no 40 refl, no 41 refl, no 43 refl, no 45 refl, no 42 refl, no 126 refl, h) refl

run_begins : (c index : ℕ) (position : SourcePosition) → (is_word_char c || c == 46) ≡ true → begins index c position ≡ Ok (without_token (Word index position))
run_begins c index position h = is_or (λ c. begins index c position ≡ Ok (without_token (Word index position))) c 46 refl (λ n. word_begins c index position (first_of (is_word_char c) (c == 46) n h))

word_begun : {text rest : List ℕ} (chars : List ℕ) (p : Place) → is_word chars ≡ true → Goes text Between p chars rest (Word p.index p.here) p.toks
word_begun [] p h = cc
word_begun (c ∷ cs) p h =
    let parts = both (is_word_char c || c == 46) (are_word_chars cs) h in
    next c (run_begins c p.index p.here parts.0) (word_walk p.index p.here cs (on p (c ∷ []) p.toks) parts.1)

module _ (text chars : List ℕ) (start index : ℕ) (begun : SourcePosition) where
  abbrev kind_is : TokenKind
  kind_is = word_kind chars (record { start = start; end = index })

  abbrev token_is : Token
  token_is = record { kind = kind_is; position = begun }

  word_step : (c : ℕ) (here : SourcePosition) → is_word_char c ≡ false → slice_range text start index ≡ chars → steps text index (Word start begun) c here ≡ word_token_ends kind_is begun c index here
  word_step c here h s =
      cond_false (is_word_char c) (Ok (without_token (Word start begun))) (word_ends (slice_range text start index) start begun c index here) h
      ∙ ap (λ (x : List ℕ). word_ends x start begun c index here) s

  -- a word is over, where its kind is so ended
  word_over : (rest : List ℕ) (here after : SourcePosition) (toks : List Token) → ends_word rest ≡ true → Stands text chars rest start index
      → ((c : ℕ) (cs : List ℕ) → rest ≡ c ∷ cs → word_token_ends kind_is begun c index here ≡ ends token_is index c here)
      → scanned_from text rest index (Word start begun) here after toks ≡ scanned_from text rest index Between here after (toks ++ token_is ∷ [])
  word_over rest here after toks e s how = token_over text rest (Word start begun) (record { index = index; here = here; after = after; toks = toks }) token_is (λ none. rw (s.last none, s.length_is none) refl)
      (λ c cs same. word_step c here (not_true (is_word_char c) (ap ends_word (sym same) ∙ e)) s.range ∙ how c cs same)

  -- the option's line and what follows
  option_over : (line rest : List ℕ) (here after : SourcePosition) (toks : List Token) → ends_word (line ++ rest) ≡ true → Stands text chars (line ++ rest) start index → is_option kind_is ≡ true → lacks 10 line ≡ true
      → ends_line rest ≡ true → Goes text (Word start begun) (record { index = index; here = here; after = after; toks = toks }) line rest Between (toks ++ token_is ∷ [])
  option_over [] rest here after toks e s o lack ends =
      stop (word_over rest here after toks e s (λ c cs same. option_end kind_is begun c index here o (ap ends_line (sym same) ∙ ends)))
  option_over (c ∷ cs) rest here after toks e s o lack ends =
      let parts = both (not (c == 10)) (lacks 10 cs) lack in
      step_on c (record { mode = LineComment; first = Some token_is; second = None }) (word_step c here (not_true (is_word_char c) e) s.range ∙ option_step kind_is begun c index here o (not_true (c == 10) parts.0))
      (append-nil (toks ++ token_is ∷ [])) (line_reads text cs rest _ parts.1 ends)

-- each lexeme is read
lexeme_reads : {chars rest : List ℕ} {token : Option TokenKind} (p : Place) → IsLexeme p.index chars rest token → (text pre : List ℕ) → text ≡ pre ++ (chars ++ rest) → p.index ≡ length pre → Reads text p chars rest token
lexeme_reads p space text pre whole at = silent (next 32 refl none)
lexeme_reads p tab text pre whole at = silent (next 9 refl none)
lexeme_reads p carriage_return text pre whole at = silent (next 13 refl none)
lexeme_reads p line_end text pre whole at = sign 10 _ p.here refl
lexeme_reads p comma text pre whole at = sign 44 _ p.here refl
lexeme_reads p open_bracket text pre whole at = sign 91 _ p.here refl
lexeme_reads p close_bracket text pre whole at = sign 93 _ p.here refl
lexeme_reads p open_parenthesis text pre whole at = sign 40 _ p.here refl
lexeme_reads p close_parenthesis text pre whole at = sign 41 _ p.here refl
lexeme_reads p plus text pre whole at = sign 43 _ p.here refl
lexeme_reads p minus text pre whole at = sign 45 _ p.here refl
lexeme_reads p star text pre whole at = sign 42 _ p.here refl
lexeme_reads p tilde text pre whole at = sign 126 _ p.here refl
lexeme_reads p (colon {rest = rest} h) text pre whole at = next 58 refl
    (stop (token_over text rest (Colon p.here) (on p (58 ∷ []) p.toks) (record { kind = ColonToken; position = p.here }) (λ none. refl) (λ c cs same. let no : (c == 58) ≡ false = ap (begins_by 58) (sym same) ∙ h in rw no refl)))
lexeme_reads p double_colon text pre whole at = next 58 refl (sign 58 _ p.here refl)
lexeme_reads p (bang {rest = rest} h) text pre whole at = next 33 refl
    (stop (token_over text rest (Bang p.here) (on p (33 ∷ []) p.toks) (record { kind = BangToken; position = p.here }) (λ none. refl) (λ c cs same. let no : (c == 61) ≡ false = ap (begins_by 61) (sym same) ∙ h in rw no refl)))
lexeme_reads p not_equal text pre whole at = next 33 refl (sign 61 _ p.here refl)
lexeme_reads p (word {chars = chars} {rest = rest} w e o) text pre whole at =
    over (word_begun chars p w)
    (word_over text chars p.index (p.index + length chars) p.here rest (moved chars p.here) (past p.after p.here chars) p.toks e (stands text pre chars rest p.index whole at) (λ c cs same. kind_over (word_at p.index chars) p.here c _ _ o))
lexeme_reads p (option chars line {rest = rest} w e o lack ends) text pre whole at =
    then chars (word_begun chars p w)
    (option_over text chars p.index (p.index + length chars) p.here line rest (moved chars p.here) (past p.after p.here chars) p.toks e
    (stands text pre chars (line ++ rest) p.index (whole ∙ ap (λ cs. pre ++ cs) (append_assoc chars line rest)) at) o lack ends)
lexeme_reads p (semicolon {line = line} {rest = rest} lack ends) text pre whole at = silent (next 59 refl (line_reads text line rest _ lack ends))
lexeme_reads p (slashes {line = line} {rest = rest} lack ends) text pre whole at = silent (next 47 refl (next 47 refl (line_reads text line rest _ lack ends)))
lexeme_reads p (comment body lack) text pre whole at = silent (next 47 refl (next 42 refl (comment_walk p.here body _ lack)))
lexeme_reads p (code_block name body {rest = rest} a b d h lack) text pre whole at =
    silent (next 37 refl (then name (header_walk p.here name false (on p (37 ∷ []) p.toks) a b d) (next 123 (rw h refl) (code_walk p.here body _ lack))))

-- lexemes from a position on give their tokens and the end of the file
pub lexemes_read : {index : ℕ} {position : SourcePosition} {chars : List ℕ} {tokens : List Token} → AreLexemes index position chars tokens → (text pre : List ℕ) (after : SourcePosition) (toks : List Token)
    → text ≡ pre ++ chars → index ≡ length pre
    → scanned_from text chars index Between position after toks ≡ Ok ((toks ++ tokens) ++ record { kind = FileEnd; position = past after position chars } ∷ [])
lexemes_read nothing text pre after toks whole at = refl
lexemes_read {index = index} {position = position} (lexeme {chars = chars} {rest = rest} {token = token} {tokens = tokens} is more) text pre after toks whole at =
    let far : index + length chars ≡ length (pre ++ chars) = omega (arith, length-append pre chars) in
    (lexeme_reads (record { index = index; here = position; after = after; toks = toks }) is text pre whole at).goes
    ∙ lexemes_read more text (pre ++ chars) (past after position chars) (toks ++ tokens_at token position) (whole ∙ sym (append_assoc pre chars rest)) far
    ∙ rw (append_assoc toks (tokens_at token position) tokens, past_append chars rest after position) refl

pub reads_lexemes : (text : List ℕ) (tokens : List Token) → IsLexed text tokens → scanned text ≡ Ok tokens
reads_lexemes text tokens is = lexemes_read is.1 text [] first_position [] refl refl ∙ ap (λ (ts : List Token). Ok ts) (sym is.2)

-- characters that begin nothing are refused at their position
other_begins : (c index : ℕ) (position : SourcePosition) → is_word_char c ≡ false → is_among c first_chars ≡ false → begins index c position ≡ Err position
other_begins c index position w h =
    let no = λ (k : ℕ) (e : not (is_among k first_chars) ≡ false). apart (λ c. not (is_among c first_chars)) c k (ap not h) e in
    rw (no 32 refl, no 9 refl, no 13 refl, no 10 refl, no 58 refl, no 33 refl, no 47 refl, no 59 refl, no 37 refl, no 46 refl, no 44 refl, no 91 refl, no 93 refl, no 40 refl, no 41 refl, no 43 refl, no 45 refl, no 42 refl, no 126 refl, w) refl

err_step : {fault : SourcePosition} (text rest : List ℕ) (mode : Mode) (p : Place) (c : ℕ) → steps text p.index mode c p.here ≡ Err fault → scan text mode p (c ∷ rest) ≡ Err fault
err_step text rest mode p c h = ap (λ (r : Result Step SourcePosition). after_step text rest p c r) h

bad_named : (named : Bool) (begun : SourcePosition) (step : Result Step SourcePosition) → not named ≡ true → cond named step (Err begun) ≡ Err begun
bad_named true begun step h = cc
bad_named false begun step h = refl

bad_other : (b : Bool) (begun : SourcePosition) (step : Result Step SourcePosition) → (b || false) ≡ true → cond b (Err begun) step ≡ Err begun
bad_other true begun step h = refl
bad_other false begun step h = cc

bad_step : (text : List ℕ) (index c : ℕ) (begun here : SourcePosition) (named : Bool) (cs : List ℕ) → ends_badly named (c ∷ cs) ≡ true → steps text index (Header begun named) c here ≡ Err begun
bad_step text index c begun here named cs h = elim (eqb_tells c 123) [
  | inl e ↦
      let same = e.1 in
      let n : not named ≡ true = subst (λ (c : ℕ). ends_badly named (c ∷ cs) ≡ true) same h in
      rw same (bad_named named begun (Ok (without_token (Code begun false))) n)
  | inr e ↦
      let n : ((c == 37 || c == 10) || false) ≡ true = ap (λ b. (c == 37 || c == 10) || (b && not named)) (sym e.0) ∙ h in
      rw e.0 (bad_other (c == 37 || c == 10) begun (Ok (without_token (Header begun (named || not (c == 32))))) n)
]

header_fails : (text rest : List ℕ) (begun : SourcePosition) (named : Bool) (p : Place) → ends_badly named rest ≡ true → scan text (Header begun named) p rest ≡ Err begun
header_fails text [] begun named p h = refl
header_fails text (c ∷ cs) begun named p h = err_step text cs (Header begun named) p c (bad_step text p.index c begun p.here named cs h)

slash_fails : (text rest : List ℕ) (begun : SourcePosition) (p : Place) → begins_by 47 rest ≡ false → begins_by 42 rest ≡ false → scan text (Slash begun) p rest ≡ Err begun
slash_fails text [] begun p a b = refl
slash_fails text (c ∷ cs) begun p a b = err_step text cs (Slash begun) p c (rw (a, b) refl)

misplaced_fails : {chars : List ℕ} (text : List ℕ) (p : Place) → IsMisplaced chars → scan text Between p chars ≡ Err p.here
misplaced_fails text p (other {c = c} {rest = rest} w h) = err_step text rest Between p c (other_begins c p.index p.here w h)
misplaced_fails text p (slash {rest = rest} a b) =
    let first : Goes text Between p (47 ∷ []) rest (Slash p.here) p.toks = next 47 refl none in
    first.goes ∙ slash_fails text rest p.here (on p (47 ∷ []) p.toks) a b
misplaced_fails text p (open_comment {rest = rest} lack) =
    let first : Goes text Between p (47 ∷ 42 ∷ []) rest (BlockComment p.here false) p.toks = next 47 refl (next 42 refl none) in
    first.goes ∙ pair_fails text (BlockComment p.here) 42 47 p.here refl refl (λ ready. refl) (λ index c here ready. refl) rest false (on p (47 ∷ 42 ∷ []) p.toks) refl lack
misplaced_fails text p (percent name rest a b d h) =
    let first : Goes text Between p (37 ∷ name) rest (Header p.here (has_name name)) p.toks = block_begun name p a b d in
    first.goes ∙ header_fails text rest p.here (has_name name) (on p (37 ∷ name) p.toks) h
misplaced_fails text p (open_block name rest a b d h lack) =
    let first : Goes text Between p (37 ∷ (name ++ 123 ∷ [])) rest (Code p.here false) p.toks = block_named name p a b d h in
    ap (λ xs. scan text Between p (37 ∷ xs)) (sym (append_assoc name (123 ∷ []) rest))
    ∙ first.goes ∙ pair_fails text (Code p.here) 37 125 p.here refl refl (λ ready. refl) (λ index c here ready. refl) rest false (on p (37 ∷ (name ++ 123 ∷ [])) p.toks) refl lack

stops_read : {index : ℕ} {position fault : SourcePosition} {chars : List ℕ} → StopsAt index position chars fault → (text pre : List ℕ) (after : SourcePosition) (toks : List Token) → text ≡ pre ++ chars → index ≡ length pre
    → scanned_from text chars index Between position after toks ≡ Err fault
stops_read {index = index} {position = position} (none_here is) text pre after toks whole at = misplaced_fails text (record { index = index; here = position; after = after; toks = toks }) is
stops_read {index = index} {position = position} (after_lexeme {chars = chars} {rest = rest} {token = token} is more) text pre after toks whole at =
    let far : index + length chars ≡ length (pre ++ chars) = omega (arith, length-append pre chars) in
    (lexeme_reads (record { index = index; here = position; after = after; toks = toks }) is text pre whole at).goes
    ∙ stops_read more text (pre ++ chars) (past after position chars) (toks ++ tokens_at token position) (whole ∙ sym (append_assoc pre chars rest)) far

pub reads_stop : (text : List ℕ) (position : SourcePosition) → IsCharFaultAt text position → scanned text ≡ Err position
reads_stop text position is = stops_read is text [] first_position [] refl refl
