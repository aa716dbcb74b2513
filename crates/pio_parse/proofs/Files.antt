-- A file is parsed as the grammar of its lines has it, and its Syntax fault is at the first token that fits nothing.
use Rattle.std.proofs.Common.{◌≡◌, ◌&&◌, ◌||◌, Bool, true, false, if◌then◌else◌, ℕ, List, [], ◌∷◌, ◌++◌, Result, Ok, Err, refl, sym, ap, ◌∙◌, subst}
use Rattle.pio_parse.proofs.Shared.{false≢true, SourcePosition, Token, Line, Source, and_then, map_ok, Outcome, scanned, AreLines, FaultsAt, IsSource, IsSyntaxFaultAt, gathered, token_lines, with_first, lines_at, parsed, parsed_tokens, with_syntax, SyntaxAt, is_end, is_program, line_at, OneMeaning, ParsesGrammar, SyntaxFaultsAtFirst, is_line, IsLine}
use Rattle.pio_parse.proofs.Tests.{both, err_is, ok_is, refused, same_value}
use Rattle.pio_parse.proofs.Decide.{lexes_exactly}
use Rattle.pio_parse.specs.Files.AreLines.{no_line, one_line}
use Rattle.pio_parse.specs.Files.FaultsAt.{fits_nothing, after_line}
use Rattle.pio_parse.proofs.ReadLines.{complete, sound}
use Rattle.pio_parse.proofs.FirstFaults.{faults_there, first_fault}

abbrev are_lines : List (List Token) → Bool
are_lines [] = true
are_lines (tokens ∷ others) = is_line tokens && are_lines others

-- the lines of a file's tokens end once each
with_first_are : (token : Token) (lines : List (List Token)) → is_end token.kind ≡ false → are_lines lines ≡ true → are_lines (with_first token lines) ≡ true
with_first_are token [] h are = refl
with_first_are token ([] ∷ lines) h are = absurd (false≢true are)
with_first_are token ((next ∷ tokens) ∷ lines) h are = rw h are

lines_by : (token : Token) (lines : List (List Token)) (b : Bool) → is_end token.kind ≡ b → are_lines lines ≡ true → are_lines (if b then (token ∷ []) ∷ lines else with_first token lines) ≡ true
lines_by token lines true h are = rw h are
lines_by token lines false h are = with_first_are token lines h are

token_lines_are : (tokens : List Token) → are_lines (token_lines tokens) ≡ true
token_lines_are [] = refl
token_lines_are (token ∷ tokens) = lines_by token (token_lines tokens) (is_end token.kind) refl (token_lines_are tokens)

module _ (text : List ℕ) where
  abbrev onwards : Bool → Line → List (List Token) → Result (List Line) SourcePosition
  onwards started line others = map_ok (λ lines. line ∷ lines) (lines_at text (started || is_program line.statement) others)

  abbrev LinesRead : List (List Token) → Type 0
  LinesRead tokens = (started : Bool) (lines : List Line) → are_lines tokens ≡ true → lines_at text started tokens ≡ Ok lines → AreLines text started tokens lines

  rest_read : (started : Bool) (tokens : List Token) (line : Line) (others : List (List Token)) (lines : List Line) → IsLine text started tokens line
      → ((read : List Line) → lines_at text (started || is_program line.statement) others ≡ Ok read → AreLines text (started || is_program line.statement) others read)
      → (outcome : Result (List Line) SourcePosition) → lines_at text (started || is_program line.statement) others ≡ outcome → map_ok (λ lines. line ∷ lines) outcome ≡ Ok lines → AreLines text started (tokens ∷ others) lines
  rest_read started tokens line others lines is later (Err p) e q = absurd (refused q)
  rest_read started tokens line others lines is later (Ok read) e q = subst (AreLines text started (tokens ∷ others)) (ok_is q) (one_line is (later read e))

  line_read : (tokens : List Token) (others : List (List Token)) → LinesRead others → (started : Bool) (lines : List Line) → is_line tokens ≡ true → are_lines others ≡ true
      → (outcome : Outcome Line) → line_at text started tokens ≡ outcome → and_then (λ line. onwards started line.0 others) outcome ≡ Ok lines → AreLines text started (tokens ∷ others) lines
  line_read tokens others later started lines is are (Err p) e q = absurd (refused q)
  line_read tokens others later started lines is are (Ok (line, rest)) e q =
      rest_read started tokens line others lines (sound text started tokens rest line is e).0 (λ read h. later (started || is_program line.statement) read are h)
      (lines_at text (started || is_program line.statement) others) refl q

  are_read : (tokens : List (List Token)) → LinesRead tokens
  are_read [] started lines are q = subst (AreLines text started []) (ok_is q) no_line
  are_read (tokens ∷ others) started lines are q =
      let parts = both (is_line tokens) (are_lines others) are in
      line_read tokens others (are_read others) started lines parts.0 parts.1 (line_at text started tokens) refl q

  lines_complete : {started : Bool} {tokens : List (List Token)} {lines : List Line} → AreLines text started tokens lines → lines_at text started tokens ≡ Ok lines
  lines_complete no_line = refl
  lines_complete (one_line is are) = rw (complete is, lines_complete are) refl

  -- faults
  abbrev LinesFault : List (List Token) → Type 0
  LinesFault tokens = (started : Bool) (position : SourcePosition) → are_lines tokens ≡ true → lines_at text started tokens ≡ Err position → FaultsAt text started tokens position

  rest_fault : (line : Line) (position : SourcePosition) (outcome : Result (List Line) SourcePosition) → map_ok (λ lines. line ∷ lines) outcome ≡ Err position → outcome ≡ Err position
  rest_fault line position (Ok x) q = absurd (refused (sym q))
  rest_fault line position (Err p) q = q

  line_fault : (tokens : List Token) (others : List (List Token)) → LinesFault others → (started : Bool) (position : SourcePosition) → is_line tokens ≡ true → are_lines others ≡ true
      → (outcome : Outcome Line) → line_at text started tokens ≡ outcome → and_then (λ line. onwards started line.0 others) outcome ≡ Err position → FaultsAt text started (tokens ∷ others) position
  line_fault tokens others later started position is are (Err p) e q =
      let same : p ≡ position = err_is q in
      let first = first_fault text started tokens position is (e ∙ ap Err same) in
      subst (λ (xs : List Token). FaultsAt text started (xs ∷ others) position) (sym first.3)
      (subst (λ (position : SourcePosition). FaultsAt text started ((first.0 ++ first.1 ∷ first.2) ∷ others) position) first.4 (fits_nothing first.0 first.1 first.2 first.5 first.6))
  line_fault tokens others later started position is are (Ok (line, rest)) e q =
      after_line (sound text started tokens rest line is e).0
      (later (started || is_program line.statement) position are (rest_fault line position (lines_at text (started || is_program line.statement) others) q))

  are_faults : (tokens : List (List Token)) → LinesFault tokens
  are_faults [] started position are q = absurd (refused (sym q))
  are_faults (tokens ∷ others) started position are q =
      let parts = both (is_line tokens) (are_lines others) are in
      line_fault tokens others (are_faults others) started position parts.0 parts.1 (line_at text started tokens) refl q

  faults_complete : {started : Bool} {tokens : List (List Token)} {position : SourcePosition} → are_lines tokens ≡ true → FaultsAt text started tokens position → lines_at text started tokens ≡ Err position
  faults_complete {started = started} are (fits_nothing {others = others} before token after begins none) =
      let parts = both (is_line (before ++ token ∷ after)) (are_lines others) are in
      rw (faults_there text started (before ++ token ∷ after) token.position parts.0 (before, token, after, refl, refl, begins, none)) refl
  faults_complete are (after_line {tokens = tokens} {others = others} is later) =
      let parts = both (is_line tokens) (are_lines others) are in rw (complete is, faults_complete parts.1 later) refl

  -- files
  gathered_is : (tokens : List Token) (source : Source) (outcome : Result (List Line) SourcePosition) → with_syntax (map_ok gathered outcome) ≡ Ok source → (lines : List Line) × (outcome ≡ Ok lines) × (gathered lines ≡ source)
  gathered_is tokens source (Err p) q = absurd (refused q)
  gathered_is tokens source (Ok lines) q = (lines, refl, ok_is q)

  source_read : (source : Source) (outcome : Result (List Token) SourcePosition) → scanned text ≡ outcome → parsed_tokens text outcome ≡ Ok source → IsSource text source
  source_read source (Err p) e q = absurd (refused q)
  source_read source (Ok tokens) e q =
      let is = gathered_is tokens source (lines_at text false (token_lines tokens)) q in
      (tokens, is.0, (lexes_exactly text tokens).0 e, are_read (token_lines tokens) false is.0 (token_lines_are tokens) is.1, is.2)

  source_parsed : (source : Source) → IsSource text source → parsed text ≡ Ok source
  source_parsed source (tokens, lines, lexed, are, same) = rw ((lexes_exactly text tokens).1 lexed, lines_complete are) (ap Ok same)

  fault_is : (position : SourcePosition) (outcome : Result (List Line) SourcePosition) → with_syntax (map_ok gathered outcome) ≡ Err (SyntaxAt position) → outcome ≡ Err position
  fault_is position (Ok lines) q = absurd (refused (sym q))
  fault_is position (Err p) q = cc

  fault_read : (position : SourcePosition) (outcome : Result (List Token) SourcePosition) → scanned text ≡ outcome → parsed_tokens text outcome ≡ Err (SyntaxAt position) → IsSyntaxFaultAt text position
  fault_read position (Err p) e q = absurd cc
  fault_read position (Ok tokens) e q =
      (tokens, (lexes_exactly text tokens).0 e, are_faults (token_lines tokens) false position (token_lines_are tokens) (fault_is position (lines_at text false (token_lines tokens)) q))

  fault_parsed : (position : SourcePosition) → IsSyntaxFaultAt text position → parsed text ≡ Err (SyntaxAt position)
  fault_parsed position (tokens, lexed, faults) = rw ((lexes_exactly text tokens).1 lexed, faults_complete (token_lines_are tokens) faults) refl

pub parses_grammar : ParsesGrammar
parses_grammar text source = (source_read text source (scanned text) refl, source_parsed text source)

pub syntax_faults_at_first : SyntaxFaultsAtFirst
syntax_faults_at_first text position = (fault_read text position (scanned text) refl, fault_parsed text position)

pub one_meaning : OneMeaning
one_meaning = (
  λ text started tokens line other is is'. same_value (sym (complete is) ∙ complete is'),
  λ text source other is is'. ok_is (sym (source_parsed text source is) ∙ source_parsed text other is'),
)
