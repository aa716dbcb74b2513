-- A line is read as the grammar has it, and is refused at the first token with which no line of the grammar begins so.
use Rattle.std.proofs.Common.{◌≡◌, ◌||◌, not, Bool, true, false, if◌then◌else◌, ℕ, List, [], ◌∷◌, Option, None, Ok, Err, ◌⊎◌, inl, inr, refl, sym, ap, ◌∙◌, subst}
use Rattle.pio_parse.proofs.Shared.{false≢true, SourcePosition, Token, ProgramDirective as Program, Define, LangOpt, PioVersion, TokenKind, DirectiveToken, LineEnd, FileEnd, Statement, Line, and_then, map_ok, Outcome, after_head, misfit, head_kind, head_position, is_end, is_program, begins_label, end_at, is_end_after, is_first, label_at, line_at, statement_at, statement_of_kind, ReadsLines, is_line, IsLabel, IsLine, IsProgram, IsSetting, IsStatement, define, lang_opt, pio_version, program_line}
use Rattle.pio_parse.proofs.Tests.{both, not_true, refused, same_left, same_value}
use Rattle.pio_parse.specs.Lines.IsLine.{line as a_line, blank_before, setting_before, first_program}
use Rattle.pio_parse.proofs.Reading.{Answer, Good, Rest, Step, Then, bind, choose, reads_to, token_of}
use Rattle.pio_parse.proofs.Reading.Step.{misfit_here, shift, take, keep}
use Rattle.pio_parse.proofs.Parts.{IsEnded, define_reads, ended, ended_good, label_reads, program_reads, statement_reads, version_reads}
use Rattle.pio_parse.proofs.Parts.IsEnded.{end_here}
use Rattle.pio_parse.proofs.Completes.{Ending, label_is, program_is, setting_is, statement_is, unlabelled}
use Rattle.pio_parse.proofs.Completes.Ending.{line_next, file_next}

-- what may stand before the first `.program`
pub data IsFirst (text : List ℕ) : List Token → Option Statement → List Token → Type 0 where
  first_blank : {rest : List Token} → head_kind rest ≡ LineEnd → IsFirst text rest None rest
  first_setting : {tokens rest : List Token} {s : Option Statement} → IsSetting text tokens s rest → IsFirst text tokens s rest
  first_is_program : {tokens rest : List Token} {s : Option Statement} → IsProgram text tokens s rest → IsFirst text tokens s rest

module _ (text : List ℕ) where
  -- a line after the first `.program`, up to its end
  abbrev pub later_rest : Rest
  later_rest tokens = bind (λ mark tokens. bind (ended true mark) (statement_at text tokens)) (label_at text tokens)

  pub later_good : Good true later_rest (Then (IsLabel text) (λ mark. Then (IsStatement text) (IsEnded true mark)))
  later_good = (label_reads text).good (λ mark tokens. bind (ended true mark) (statement_at text tokens)) (λ mark. Then (IsStatement text) (IsEnded true mark))
      (λ mark. (statement_reads text).good (ended true mark) (IsEnded true mark) (ended_good true mark))

  -- a line before it
  abbrev first_of : TokenKind → SourcePosition → List Token → Outcome (Option Statement)
  first_of kind position tokens = if is_first kind then statement_of_kind text kind tokens else misfit tokens

  abbrev first_step : (kind : TokenKind) (position : SourcePosition) → Step kind position (first_of kind position) (IsFirst text)
  first_step LineEnd position = keep None (λ rest is. first_blank is) (λ tokens. refl)
  first_step (DirectiveToken Program) position = shift (reads_to _ (program_reads text position) (λ tokens x rest is token k at. first_is_program (is token k at))) refl (λ tokens. refl)
  first_step (DirectiveToken Define) position = shift (reads_to _ (define_reads text position) (λ tokens x rest is token k at. first_setting (is token k at))) refl (λ tokens. refl)
  first_step (DirectiveToken LangOpt) position = take None (λ token rest is. first_setting (lang_opt is)) refl (λ tokens. refl)
  first_step (DirectiveToken PioVersion) position = shift (reads_to _ (version_reads text position) (λ tokens x rest is token k at. first_setting (is token k at))) refl (λ tokens. refl)
  first_step kind position = misfit_here (λ tokens. refl)

  abbrev pub first_rest : Rest
  first_rest tokens = bind (ended false None) (first_of (head_kind tokens) (head_position tokens) tokens)

  pub first_good : Good true first_rest (Then (IsFirst text) (IsEnded false None))
  first_good = (choose first_of _ first_step (token_of (DirectiveToken LangOpt)) refl (λ yes. refl)).good (ended false None) (IsEnded false None) (ended_good false None)

  -- a line is what is read up to its end, and the end
  abbrev pub finished : List Token → Answer × List Token → Line × List Token
  finished tokens x = (record { number = (head_position tokens).line; label = x.0.0; statement = x.0.1 }, after_head x.1)

  by_end : (tokens middle : List Token) (mark : Option (List ℕ)) (statement : Option Statement) (b : Bool)
      → map_ok {Y = Line × List Token} (λ (end : Unit {0} × List Token). (record { number = (head_position tokens).line; label = mark; statement = statement }, end.1)) (if b then Ok (tt, after_head middle) else misfit middle)
      ≡ map_ok (finished tokens) (if b then Ok ((mark, statement), middle) else misfit middle)
  by_end tokens middle mark statement true = refl
  by_end tokens middle mark statement false = refl

  by_statement : (started : Bool) (tokens : List Token) (mark : Option (List ℕ)) (outcome : Outcome (Option Statement))
      → and_then (λ statement. map_ok {Y = Line × List Token} (λ end. (record { number = (head_position tokens).line; label = mark; statement = statement.0 }, end.1)) (end_at started statement.0 statement.1)) outcome
      ≡ map_ok (finished tokens) (bind (ended started mark) outcome)
  by_statement started tokens mark (Ok x) = by_end tokens x.1 mark x.0 (is_end_after (started || is_program x.0) (head_kind x.1))
  by_statement started tokens mark (Err position) = refl

  by_label : (tokens : List Token) (outcome : Outcome (Option (List ℕ)))
      → and_then (λ label. and_then (λ statement. map_ok {Y = Line × List Token} (λ end. (record { number = (head_position tokens).line; label = label.0; statement = statement.0 }, end.1)) (end_at true statement.0 statement.1)) (statement_at text label.1)) outcome
      ≡ map_ok (finished tokens) (bind (λ mark tokens. bind (ended true mark) (statement_at text tokens)) outcome)
  by_label tokens (Ok x) = by_statement true tokens x.0 (statement_at text x.1)
  by_label tokens (Err position) = refl

  no_first_label : (kind : TokenKind) → is_first kind ≡ true → begins_label kind ≡ false
  no_first_label LineEnd h = refl
  no_first_label (DirectiveToken directive) h = refl
  no_first_label kind h = absurd (false≢true h)

  abbrev pub line_rest : Bool → Rest
  line_rest true tokens = later_rest tokens
  line_rest false tokens = first_rest tokens

  first_by : (tokens : List Token) (b : Bool) → is_first (head_kind tokens) ≡ b → line_at text false tokens ≡ map_ok (finished tokens) (first_rest tokens)
  first_by tokens true h = rw (h, no_first_label (head_kind tokens) h) (by_statement false tokens None (statement_at text tokens))
  first_by tokens false h = rw h refl

  pub line_is : (started : Bool) (tokens : List Token) → line_at text started tokens ≡ map_ok (finished tokens) (line_rest started tokens)
  line_is true tokens = by_label tokens (label_at text tokens)
  line_is false tokens = first_by tokens (is_first (head_kind tokens)) refl

end_of : (b : Bool) (kind : TokenKind) → is_end_after b kind ≡ true → is_end kind ≡ true
end_of b LineEnd h = refl
end_of b FileEnd h = refl
end_of b kind h = absurd (false≢true h)

end_true : (kind : TokenKind) → is_end kind ≡ true → is_end_after true kind ≡ true
end_true LineEnd h = refl
end_true FileEnd h = refl
end_true kind h = absurd (false≢true h)

before_end : (kind : TokenKind) → is_end_after false kind ≡ true → kind ≡ LineEnd
before_end LineEnd h = refl
before_end kind h = absurd (false≢true h)

end_kind : (kind : TokenKind) → is_end kind ≡ true → (kind ≡ LineEnd) ⊎ (kind ≡ FileEnd)
end_kind LineEnd h = inl refl
end_kind FileEnd h = inr refl
end_kind kind h = absurd (false≢true h)

ending : (token : Token) (tokens : List Token) → is_end token.kind ≡ true → Ending (token ∷ tokens)
ending token tokens h = by (end_kind token.kind h)
  where
    by : (token.kind ≡ LineEnd) ⊎ (token.kind ≡ FileEnd) → Ending (token ∷ tokens)
    by (inl is) = line_next is
    by (inr is) = file_next is

-- where the end of a line comes next, it is all that is left of it
some_end : (rest : List Token) (b : Bool) → is_line rest ≡ true → is_end_after b (head_kind rest) ≡ true → (end : Token) × (rest ≡ end ∷ []) × (is_end_after b end.kind ≡ true)
some_end [] b line h = absurd (false≢true line)
some_end (token ∷ []) b line h = (token, refl, h)
some_end (token ∷ next ∷ tokens) b line h =
    let parts = both (not (is_end token.kind)) (is_line (next ∷ tokens)) line in
    absurd (false≢true (sym (not_true (is_end token.kind) parts.0) ∙ end_of b token.kind h))

module _ {text : List ℕ} where
  setting_no_program : {tokens rest : List Token} {s : Option Statement} → IsSetting text tokens s rest → is_program s ≡ false
  setting_no_program (define w may n sum) = refl
  setting_no_program (lang_opt w) = refl
  setting_no_program (pio_version w z) = refl

  program_is_one : {tokens rest : List Token} {s : Option Statement} → IsProgram text tokens s rest → is_program s ≡ true
  program_is_one (program_line w n) = refl

  setting_first : {tokens rest : List Token} {s : Option Statement} → IsSetting text tokens s rest → is_first (head_kind tokens) ≡ true
  setting_first (define w may n sum) = ap is_first w
  setting_first (lang_opt w) = ap is_first w
  setting_first (pio_version w z) = ap is_first w

  program_first : {tokens rest : List Token} {s : Option Statement} → IsProgram text tokens s rest → is_first (head_kind tokens) ≡ true
  program_first (program_line w n) = ap is_first w

  -- what is read is a line of the grammar
  later_line : {tokens rest : List Token} {answer : Answer} → Then (IsLabel text) (λ mark. Then (IsStatement text) (IsEnded true mark)) tokens answer rest → is_line rest ≡ true
      → IsLine text true tokens (finished text tokens (answer, rest)).0 × (after_head rest ≡ [])
  later_line {rest = rest} (mark, middle, is_label, (statement, after, is_statement, end_here h)) line =
      let end = some_end rest true line h in
      (a_line is_label (subst (IsStatement text middle statement) end.1 is_statement) (end_of true end.0.kind end.2), ap after_head end.1)

  first_line : {tokens rest : List Token} {answer : Answer} → Then (IsFirst text) (IsEnded false None) tokens answer rest → is_line rest ≡ true
      → IsLine text false tokens (finished text tokens (answer, rest)).0 × (after_head rest ≡ [])
  first_line {rest = rest} (statement, middle, first_blank k, end_here h) line =
      let end = some_end rest false line h in
      (subst (λ (xs : List Token). IsLine text false xs (finished text xs ((None, None), xs)).0) (sym end.1) (blank_before (ap head_kind (sym end.1) ∙ k)), ap after_head end.1)
  first_line {tokens = tokens} {rest = rest} (statement, middle, first_setting set, end_here h) line =
      let end = some_end rest (is_program statement) line h in
      let b : is_end_after false end.0.kind ≡ true = ap (λ b. is_end_after b end.0.kind) (sym (setting_no_program set)) ∙ end.2 in
      (setting_before (subst (IsSetting text tokens statement) end.1 set) (before_end end.0.kind b), ap after_head end.1)
  first_line {tokens = tokens} {rest = rest} (statement, middle, first_is_program p, end_here h) line =
      let end = some_end rest (is_program statement) line h in
      (first_program (subst (IsProgram text tokens statement) end.1 p) (end_of (is_program statement) end.0.kind end.2), ap after_head end.1)

  -- each line of the grammar is read
  pub complete : {started : Bool} {tokens : List Token} {line : Line} → IsLine text started tokens line → line_at text started tokens ≡ Ok (line, [])
  complete {tokens = tokens} (a_line {middle = middle} {end = end} is_label is_statement ends) =
      let e = ending end [] ends in
      let plain : begins_label (head_kind middle) ≡ false = unlabelled text (head_kind middle) middle _ (statement_is is_statement e) in
      line_is text true tokens ∙ rw (label_is is_label plain, statement_is is_statement e, end_true end.kind ends) refl
  complete {tokens = tokens} (blank_before k) = line_is text false tokens ∙ rw k refl
  complete {tokens = tokens} (setting_before set k) = line_is text false tokens ∙ rw (setting_first set, setting_is set (line_next k), k) refl
  complete {tokens = tokens} (first_program {end = end} p ends) = line_is text false tokens ∙ rw (program_first p, program_is p, program_is_one p, end_true end.kind ends) refl

module _ (text : List ℕ) where
  sound_by : (started : Bool) (tokens rest : List Token) (line : Line) → is_line tokens ≡ true → (outcome : Outcome Answer) → line_rest text started tokens ≡ outcome
      → map_ok (finished text tokens) outcome ≡ Ok (line, rest) → IsLine text started tokens line × (rest ≡ [])
  sound_by started tokens rest line is (Err position) e q = absurd (refused q)
  sound_by true tokens rest line is (Ok (answer, left)) e q =
      let read = (later_good text).reads tokens left answer is e in
      let found = later_line read.0 read.1 in
      (subst (IsLine text true tokens) (same_value q) found.0, sym (same_left q) ∙ found.1)
  sound_by false tokens rest line is (Ok (answer, left)) e q =
      let read = (first_good text).reads tokens left answer is e in
      let found = first_line read.0 read.1 in
      (subst (IsLine text false tokens) (same_value q) found.0, sym (same_left q) ∙ found.1)

  pub sound : (started : Bool) (tokens rest : List Token) (line : Line) → is_line tokens ≡ true → line_at text started tokens ≡ Ok (line, rest) → IsLine text started tokens line × (rest ≡ [])
  sound started tokens rest line is q = sound_by started tokens rest line is (line_rest text started tokens) refl (sym (line_is text started tokens) ∙ q)

pub reads_lines : ReadsLines
reads_lines text started tokens line is = (λ q. (sound text started tokens [] line is q).0, λ is_line. complete is_line)
