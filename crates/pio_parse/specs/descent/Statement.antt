-- The grammar of a line: a label, then a directive or an instruction (RP2040 Datasheet, 3.3, Directives, Labels and Instructions).
use Rattle.std.specs.Prelude.{◌==◌, ◌||◌, ℕ, Bool, true, false, if◌then◌else◌, List, Option, None, Some, Ok}
use Rattle.pio_parse.specs.declared.token.Token.{Token}
use Rattle.pio_parse.specs.declared.token.Keyword.TheVariants.{Public, Opt, Pindirs}
use Rattle.pio_parse.specs.declared.token.Directive.{Directive}
use Rattle.pio_parse.specs.declared.token.Directive.TheVariants.{Program, Define, Origin, SideSet, WrapTarget, Wrap, Word, LangOpt, PioVersion}
use Rattle.pio_parse.specs.declared.token.TokenKind.{TokenKind}
use Rattle.pio_parse.specs.declared.token.TokenKind.TheVariants.{Name, Keyword as KeywordToken, Directive as DirectiveToken, Number, Colon, LineEnd, FileEnd}
use Rattle.pio_parse.specs.declared.syntax.Statement.{Statement}
use Rattle.pio_parse.specs.declared.syntax.Statement.TheVariants.{Program as ProgramStatement, Define as DefineStatement, Origin as OriginStatement, SideSet as SideSetStatement, WrapTarget as WrapTargetStatement, Wrap as WrapStatement, Word as WordStatement, Instruction as InstructionStatement}
use Rattle.pio_parse.specs.declared.syntax.Line.{Line}
use Rattle.source_text.specs.Outcome.{and_then, map_ok}
use Rattle.pio_parse.specs.descent.Cursor.{Outcome, after_head, expected, misfit}
use Rattle.pio_parse.specs.Tokens.{head_kind, head_position, is_program, name_at}
use Rattle.pio_parse.specs.descent.Expression.{expression_at}
use Rattle.pio_parse.specs.descent.Instruction.{flag_at, instruction_at}

abbrev pub name_of_kind : List ℕ → TokenKind → List Token → Outcome (List ℕ)
name_of_kind text (Name span) tokens = Ok (name_at text span, after_head tokens)
name_of_kind text kind tokens = misfit tokens

-- a name
abbrev pub name_token_at : List ℕ → List Token → Outcome (List ℕ)
name_token_at text tokens = name_of_kind text (head_kind tokens) tokens

abbrev pub is_public : TokenKind → Bool
is_public (KeywordToken Public) = true
is_public kind = false

abbrev pub is_opt : TokenKind → Bool
is_opt (KeywordToken Opt) = true
is_opt kind = false

abbrev pub is_pindirs : TokenKind → Bool
is_pindirs (KeywordToken Pindirs) = true
is_pindirs kind = false

abbrev pub past_public : List Token → List Token
past_public tokens = if is_public (head_kind tokens) then after_head tokens else tokens

-- .define [public] name value
abbrev pub define_at : List ℕ → List Token → Outcome Statement
define_at text tokens = and_then (λ name. map_ok (λ value. (DefineStatement name.0 value.0, value.1)) (expression_at text name.1)) (name_token_at text (past_public tokens))

-- .side_set count [opt] [pindirs]
abbrev pub side_set_at : List ℕ → List Token → Outcome Statement
side_set_at text tokens = and_then
    (λ count. and_then
    (λ opt. map_ok (λ pindirs. (SideSetStatement count.0 opt.0 pindirs.0, pindirs.1)) (flag_at (is_pindirs (head_kind opt.1)) opt.1))
    (flag_at (is_opt (head_kind count.1)) count.1))
    (expression_at text tokens)

abbrev pub is_zero : TokenKind → Bool
is_zero (Number number) = number == 0
is_zero kind = false

-- the 0 after .pio_version
abbrev pub version_at : List Token → Outcome (Option Statement)
version_at tokens = map_ok (λ zero. (None, zero.1)) (expected (is_zero (head_kind tokens)) tokens)

-- what follows the word of a directive (RP2040 Datasheet, 3.3, Directives). `.lang_opt` and `.pio_version` say nothing about a program
abbrev pub directive_at : List ℕ → Directive → List Token → Outcome (Option Statement)
directive_at text Program tokens = map_ok (λ name. (Some (ProgramStatement name.0), name.1)) (name_token_at text tokens)
directive_at text Define tokens = map_ok (λ define. (Some define.0, define.1)) (define_at text tokens)
directive_at text Origin tokens = map_ok (λ position. (Some (OriginStatement position.0), position.1)) (expression_at text tokens)
directive_at text SideSet tokens = map_ok (λ side. (Some side.0, side.1)) (side_set_at text tokens)
directive_at text WrapTarget tokens = Ok (Some WrapTargetStatement, tokens)
directive_at text Wrap tokens = Ok (Some WrapStatement, tokens)
directive_at text Word tokens = map_ok (λ value. (Some (WordStatement value.0), value.1)) (expression_at text tokens)
directive_at text LangOpt tokens = Ok (None, tokens)
directive_at text PioVersion tokens = version_at tokens

abbrev pub statement_of_kind : List ℕ → TokenKind → List Token → Outcome (Option Statement)
statement_of_kind text LineEnd tokens = Ok (None, tokens)
statement_of_kind text FileEnd tokens = Ok (None, tokens)
statement_of_kind text (DirectiveToken directive) tokens = directive_at text directive (after_head tokens)
statement_of_kind text (KeywordToken keyword) tokens = map_ok (λ instruction. (Some (InstructionStatement instruction.0), instruction.1)) (instruction_at text keyword tokens)
statement_of_kind text kind tokens = misfit tokens

-- [directive or instruction]
abbrev pub statement_at : List ℕ → List Token → Outcome (Option Statement)
statement_at text tokens = statement_of_kind text (head_kind tokens) tokens

abbrev pub is_colon : TokenKind → Bool
is_colon Colon = true
is_colon kind = false

abbrev pub begins_label : TokenKind → Bool
begins_label (Name span) = true
begins_label kind = is_public kind

-- [[public] name:]
abbrev pub label_at : List ℕ → List Token → Outcome (Option (List ℕ))
label_at text tokens =
    if begins_label (head_kind tokens)
    then and_then (λ name. map_ok (λ colon. (Some name.0, colon.1)) (expected (is_colon (head_kind name.1)) name.1)) (name_token_at text (past_public tokens))
    else Ok (None, tokens)

abbrev pub is_first_directive : Directive → Bool
is_first_directive Program = true
is_first_directive Define = true
is_first_directive LangOpt = true
is_first_directive PioVersion = true
is_first_directive directive = false

-- the lines that may stand before the first `.program` begin so
abbrev pub is_first : TokenKind → Bool
is_first LineEnd = true
is_first (DirectiveToken directive) = is_first_directive directive
is_first kind = false

-- a line ends at LF, or at the end of a file that has a program
abbrev pub is_end_after : Bool → TokenKind → Bool
is_end_after has_program LineEnd = true
is_end_after has_program FileEnd = has_program
is_end_after has_program kind = false

-- the end of a line with this statement
abbrev pub end_at : Bool → Option Statement → List Token → Outcome (Unit {0})
end_at is_started statement tokens = expected (is_end_after (is_started || is_program statement) (head_kind tokens)) tokens

-- [[public] name:] [directive or instruction], up to the end of the line
abbrev pub whole_line_at : List ℕ → Bool → List Token → Outcome Line
whole_line_at text is_started tokens = and_then
    (λ label. and_then
    (λ statement. map_ok (λ end. (record { number = (head_position tokens).line; label = label.0; statement = statement.0 }, end.1))
    (end_at is_started statement.0 statement.1))
    (statement_at text label.1))
    (label_at text tokens)

-- a line, which may be any after the first `.program`
abbrev pub line_at : List ℕ → Bool → List Token → Outcome Line
line_at text is_started tokens = if is_started || is_first (head_kind tokens) then whole_line_at text is_started tokens else misfit tokens
