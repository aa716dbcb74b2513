-- A line as the pieces that it is made of: words, signs and blanks. With its end they are its lexemes.
use Rattle.std.proofs.Common.{◌≡◌, ◌==◌, ◌||◌, ℕ, suc, ◌+◌, Bool, true, false, List, [], ◌∷◌, ◌++◌, length, arith, refl, sym, ap, ◌∙◌, subst, append_assoc}
use Rattle.pio_parse.proofs.Shared.{false≢true, ⊤, SourcePosition, is_word_char, moved, Span, Token, TokenKind, Comma as CommaToken, Minus as MinusToken, OpenBracket, CloseBracket, BangToken, DoubleColon, NotEqual as NotEqualToken, LineEnd, word_kind, is_end, AreLexemes, are_word_chars, begins_by, ends_word as ends_any_word, is_option, is_word, word_at, lexeme, space, line_end, comma, minus, open_bracket, close_bracket, bang, double_colon, not_equal, word}
use Rattle.pio_parse.proofs.Tests.{apart, both}

pub data Piece : Type 0 where
  Blank : Piece
  Run : (w : List ℕ) → (kind : TokenKind) → Piece
  Comma : Piece
  Minus : Piece
  Open : Piece
  Close : Piece
  Bang : Piece
  Colons : Piece
  NotEqual : Piece

-- the characters of a piece
abbrev pub chars_of : Piece → List ℕ
chars_of Blank = 32 ∷ []
chars_of (Run w kind) = w
chars_of Comma = 44 ∷ []
chars_of Minus = 45 ∷ []
chars_of Open = 91 ∷ []
chars_of Close = 93 ∷ []
chars_of Bang = 33 ∷ []
chars_of Colons = 58 ∷ 58 ∷ []
chars_of NotEqual = 33 ∷ 61 ∷ []

-- the kind of its token; a blank has none
abbrev pub kind_of : Piece → TokenKind
kind_of Blank = LineEnd
kind_of (Run w kind) = kind
kind_of Comma = CommaToken
kind_of Minus = MinusToken
kind_of Open = OpenBracket
kind_of Close = CloseBracket
kind_of Bang = BangToken
kind_of Colons = DoubleColon
kind_of NotEqual = NotEqualToken

abbrev pub joined : List Piece → List ℕ
joined [] = []
joined (p ∷ ps) = chars_of p ++ joined ps

abbrev pub token_at : TokenKind → ℕ → ℕ → Token
token_at kind line column = record { kind = kind; position = record { line = line; column = column } }

-- the tokens of a line's pieces from a position on, and of its end
abbrev pub tokens_of : ℕ → ℕ → List Piece → List Token
tokens_of line column [] = token_at LineEnd line column ∷ []
tokens_of line column (Blank ∷ ps) = tokens_of line (column + 1) ps
tokens_of line column (p ∷ ps) = token_at (kind_of p) line column ∷ tokens_of line (column + length (chars_of p)) ps

-- a run that is a token of this kind wherever it stands
pub record IsRun (w : List ℕ) (kind : TokenKind) : Type 0 where
  pub run : is_word w ≡ true
  pub plain : is_option kind ≡ false
  pub inside : is_end kind ≡ false
  pub names : (span : Span) → word_kind w span ≡ kind

-- a word ends before these pieces
abbrev pub ends_word : List Piece → Bool
ends_word [] = true
ends_word (Blank ∷ ps) = true
ends_word (Comma ∷ ps) = true
ends_word (Minus ∷ ps) = true
ends_word (Close ∷ ps) = true
ends_word (NotEqual ∷ ps) = true
ends_word ps = false

abbrev pub begins_run : List Piece → Bool
begins_run (Run w kind ∷ ps) = true
begins_run ps = false

-- the pieces are read one by one: no two words stand together, and `!` stands before a word
abbrev pub AreApart : List Piece → Type 0
AreApart [] = ⊤
AreApart (Run w kind ∷ ps) = IsRun w kind × (ends_word ps ≡ true) × AreApart ps
AreApart (Bang ∷ ps) = (begins_run ps ≡ true) × AreApart ps
AreApart (p ∷ ps) = AreApart ps

abbrev pub position_at : ℕ → ℕ → SourcePosition
position_at line column = record { line = line; column = column }

-- a word stays on its line
chars_move : (w : List ℕ) (line column : ℕ) → are_word_chars w ≡ true → moved w (position_at line column) ≡ position_at line (column + length w)
chars_move [] line column h = let e : column + 0 ≡ column = omega arith in rw e refl
chars_move (c ∷ cs) line column h =
    let parts = both (is_word_char c) (are_word_chars cs) h in
    let e : column + 1 + length cs ≡ column + suc (length cs) = omega arith in
    rw (apart is_word_char c 10 parts.0 refl) (chars_move cs line (column + 1) parts.1 ∙ rw e refl)

-- what a word does not begin by
begins_apart : (c k : ℕ) (cs : List ℕ) → is_word (c ∷ cs) ≡ true → (is_word_char k || k == 46) ≡ false → (c == k) ≡ false
begins_apart c k cs h unlike = apart (λ c. is_word_char c || c == 46) c k (both (is_word_char c || c == 46) (are_word_chars cs) h).0 unlike

word_moves : (w : List ℕ) (line column : ℕ) → is_word w ≡ true → moved w (position_at line column) ≡ position_at line (column + length w)
word_moves [] line column h = absurd (false≢true h)
word_moves (c ∷ cs) line column h =
    let e : column + 1 + length cs ≡ column + suc (length cs) = omega arith in
    rw (begins_apart c 10 cs h refl) (chars_move cs line (column + 1) (both (is_word_char c || c == 46) (are_word_chars cs) h).1 ∙ rw e refl)

no_equals : (w more rest : List ℕ) → is_word w ≡ true → begins_by 61 ((w ++ more) ++ rest) ≡ false
no_equals [] more rest h = absurd (false≢true h)
no_equals (c ∷ cs) more rest h = begins_apart c 61 cs h refl

before_run : (ps : List Piece) (rest : List ℕ) → begins_run ps ≡ true → AreApart ps → begins_by 61 (joined ps ++ rest) ≡ false
before_run (Run w kind ∷ ps) rest h a = no_equals w (joined ps) rest a.0.run
before_run ps rest h a = absurd (false≢true h)

over_before : (ps : List Piece) (rest : List ℕ) → ends_word ps ≡ true → ends_any_word (joined ps ++ 10 ∷ rest) ≡ true
over_before [] rest h = refl
over_before (Blank ∷ ps) rest h = refl
over_before (Comma ∷ ps) rest h = refl
over_before (Minus ∷ ps) rest h = refl
over_before (Close ∷ ps) rest h = refl
over_before (NotEqual ∷ ps) rest h = refl
over_before ps rest h = absurd (false≢true h)

-- a sign of two characters
two : (column : ℕ) → column + 2 ≡ column + 1 + 1
two column = omega arith

-- a line and what comes after it are lexemes, and its tokens are those of its pieces
module _ (rest : List ℕ) (tokens : List Token) where
  pub pieces_are : (ps : List Piece) (index line column : ℕ) → AreApart ps → ((index : ℕ) → AreLexemes index (position_at (line + 1) 1) rest tokens)
      → AreLexemes index (position_at line column) (joined ps ++ 10 ∷ rest) (tokens_of line column ps ++ tokens)
  pieces_are [] index line column a later = lexeme {chars = 10 ∷ []} line_end (later (index + 1))
  pieces_are (Blank ∷ ps) index line column a later = lexeme {chars = 32 ∷ []} space (pieces_are ps (index + 1) line (column + 1) a later)
  pieces_are (Run w kind ∷ ps) index line column a later =
      let named : word_at index w ≡ kind = a.0.names (record { start = index; end = index + length w }) in
      rw (append_assoc w (joined ps) (10 ∷ rest))
      (subst (λ kind. AreLexemes index (position_at line column) (w ++ (joined ps ++ 10 ∷ rest)) (token_at kind line column ∷ (tokens_of line (column + length w) ps ++ tokens))) named
      (lexeme {chars = w} (word a.0.run (over_before ps rest a.1) (ap is_option named ∙ a.0.plain))
      (subst (λ (p : SourcePosition). AreLexemes (index + length w) p (joined ps ++ 10 ∷ rest) (tokens_of line (column + length w) ps ++ tokens)) (sym (word_moves w line column a.0.run))
      (pieces_are ps (index + length w) line (column + length w) a.2 later))))
  pieces_are (Comma ∷ ps) index line column a later = lexeme {chars = 44 ∷ []} comma (pieces_are ps (index + 1) line (column + 1) a later)
  pieces_are (Minus ∷ ps) index line column a later = lexeme {chars = 45 ∷ []} minus (pieces_are ps (index + 1) line (column + 1) a later)
  pieces_are (Open ∷ ps) index line column a later = lexeme {chars = 91 ∷ []} open_bracket (pieces_are ps (index + 1) line (column + 1) a later)
  pieces_are (Close ∷ ps) index line column a later = lexeme {chars = 93 ∷ []} close_bracket (pieces_are ps (index + 1) line (column + 1) a later)
  pieces_are (Bang ∷ ps) index line column a later = lexeme {chars = 33 ∷ []} (bang (before_run ps (10 ∷ rest) a.0 a.1)) (pieces_are ps (index + 1) line (column + 1) a.1 later)
  pieces_are (Colons ∷ ps) index line column a later = lexeme {chars = 58 ∷ 58 ∷ []} double_colon
      (subst (λ n. AreLexemes (index + 2) (position_at line n) (joined ps ++ 10 ∷ rest) (tokens_of line (column + 2) ps ++ tokens)) (two column) (pieces_are ps (index + 2) line (column + 2) a later))
  pieces_are (NotEqual ∷ ps) index line column a later = lexeme {chars = 33 ∷ 61 ∷ []} not_equal
      (subst (λ n. AreLexemes (index + 2) (position_at line n) (joined ps ++ 10 ∷ rest) (tokens_of line (column + 2) ps ++ tokens)) (two column) (pieces_are ps (index + 2) line (column + 2) a later))
