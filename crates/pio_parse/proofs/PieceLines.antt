-- A program whose lines are read one by one.
use Rattle.std.proofs.Common.{◌≡◌, nat_le, ℕ, ◌+◌, Bool, true, false, List, [], ◌∷◌, ◌++◌, length, Option, None, Some, Ok, append-nil, append_assoc, codes, arith, refl, ap, ◌∙◌}
use Rattle.pio_parse.proofs.Shared.{⊤, le-leb, SourcePosition, Token, ProgramDirective, DirectiveToken, Name, FileEnd, LineEnd, BangToken, AreLexemes, nothing, Between, Statement, Program, Line, SourceProgram, Source, Groups, and_then, past, scanned, scanned_from, name_at, line_at, parsed, parsed_tokens, with_syntax, grouped_by, line_step, no_groups, source_from}
use Rattle.pio_parse.proofs.Gathered.{source_gathered}
use Rattle.pio_parse.proofs.Lexemes.{lexemes_read}
use Rattle.pio_parse.proofs.Pieces.{AreApart, Piece, chars_of, joined, kind_of, pieces_are, position_at, token_at, tokens_of}
use Rattle.pio_parse.proofs.Pieces.Piece.{Bang, Blank, Run}

-- the characters of lines, and their tokens from a line on
abbrev pub joined_lines : List (List Piece) → List ℕ
joined_lines [] = []
joined_lines (ps ∷ pss) = joined ps ++ 10 ∷ joined_lines pss

abbrev tokens_of_lines : ℕ → List (List Piece) → List Token
tokens_of_lines number [] = []
tokens_of_lines number (ps ∷ pss) = tokens_of number 1 ps ++ tokens_of_lines (number + 1) pss

-- a line up to its end
splits : (ps : List Piece) (text : List ℕ) (groups : Groups) (current rest : List Token) (line column : ℕ) → AreApart ps
    → source_from text groups current (tokens_of line column ps ++ rest) ≡ and_then (λ next. source_from text next [] rest) (line_step text groups (current ++ tokens_of line column ps))
splits [] text groups current rest line column a = refl
splits (Blank ∷ ps) text groups current rest line column a = splits ps text groups current rest line (column + 1) a
splits (Run w kind ∷ ps) text groups current rest line column a =
    rw a.0.inside (splits ps text groups (current ++ token_at kind line column ∷ []) rest line (column + length w) a.2 ∙ rw (append_assoc current (token_at kind line column ∷ []) (tokens_of line (column + length w) ps)) refl)
splits (Bang ∷ ps) text groups current rest line column a =
    splits ps text groups (current ++ token_at BangToken line column ∷ []) rest line (column + 1) a.1 ∙ rw (append_assoc current (token_at BangToken line column ∷ []) (tokens_of line (column + 1) ps)) refl
splits (p ∷ ps) text groups current rest line column a =
    splits ps text groups (current ++ token_at (kind_of p) line column ∷ []) rest line (column + length (chars_of p)) a ∙ rw (append_assoc current (token_at (kind_of p) line column ∷ []) (tokens_of line (column + length (chars_of p)) ps)) refl

-- a line of a program that has begun
abbrev pub stays : Option Statement → Bool
stays None = false
stays (Some (Program name)) = false
stays (Some statement) = true

abbrev in_program : SourceProgram → Groups
in_program program = record { globals = []; programs = []; current = Some program }

grouped_stays : (number : ℕ) (label : Option (List ℕ)) (statement : Option Statement) (program : SourceProgram) → stays statement ≡ true → grouped_by number label statement (in_program program) ≡ in_program (record program { lines = program.lines ++ record { number = number; label = label; statement = statement } ∷ [] })
grouped_stays number label None program h = cc
grouped_stays number label (Some (Program name)) program h = cc
grouped_stays number label (Some statement) program h = refl

-- these lines stand in this text from a line on
abbrev pub AreLines : List ℕ → ℕ → List (List Piece) → List Line → Type 0
AreLines text number [] [] = ⊤
AreLines text number [] (line ∷ lines) = ⊥
AreLines text number (ps ∷ pss) [] = ⊥
AreLines text number (ps ∷ pss) (line ∷ lines) =
    AreApart ps × (stays line.statement ≡ true) × (line_at text true (tokens_of number 1 ps) ≡ Ok (line, [])) × AreLines text (number + 1) pss lines

lines_are : (pss : List (List Piece)) (lines : List Line) (text : List ℕ) (index number : ℕ) → AreLines text number pss lines → AreLexemes index (position_at number 1) (joined_lines pss) (tokens_of_lines number pss)
lines_are [] [] text index number a = nothing
lines_are [] (line ∷ lines) text index number a = absurd a
lines_are (ps ∷ pss) [] text index number a = absurd a
lines_are (ps ∷ pss) (line ∷ lines) text index number a =
    pieces_are (joined_lines pss) (tokens_of_lines (number + 1) pss) ps index number 1 a.0 (λ index. lines_are pss lines text index (number + 1) a.3)

lines_read : (pss : List (List Piece)) (lines : List Line) (text : List ℕ) (number : ℕ) (program : SourceProgram) (end : List Token) (last : SourcePosition) → end ≡ record { kind = FileEnd; position = last } ∷ [] → AreLines text number pss lines
    → source_from text (in_program program) [] (tokens_of_lines number pss ++ end) ≡ Ok (record { globals = []; programs = record program { lines = program.lines ++ lines } ∷ [] })
lines_read [] [] text number program end last e a = rw (e, append-nil program.lines) refl
lines_read [] (line ∷ lines) text number program end last e a = absurd a
lines_read (ps ∷ pss) [] text number program end last e a = absurd a
lines_read (ps ∷ pss) (line ∷ lines) text number program end last e a =
    let reads = a.2 in
    let step : line_step text (in_program program) (tokens_of number 1 ps) ≡ Ok (in_program (record program { lines = program.lines ++ line ∷ [] }))
    = rw reads (ap (λ (g : Groups). Ok g) (grouped_stays line.number line.label line.statement program a.1)) in
    rw (append_assoc (tokens_of number 1 ps) (tokens_of_lines (number + 1) pss) end)
    (splits ps text (in_program program) [] (tokens_of_lines (number + 1) pss ++ end) number 1 a.0
    ∙ rw step (lines_read pss lines text (number + 1) (record program { lines = program.lines ++ line ∷ [] }) end last e a.3
    ∙ rw (append_assoc program.lines (line ∷ []) lines) refl))

-- the source of one program, named `code`
abbrev pub header : List ℕ
header = codes ".program code\n"

abbrev pub source_of_lines : List Line → Source
source_of_lines lines = record { globals = []; programs = record { name = codes "code"; number = 1; lines = lines } ∷ [] }

header_tokens : List Token
header_tokens = record { kind = DirectiveToken ProgramDirective; position = position_at 1 1 } ∷ record { kind = Name (record { start = 9; end = 13 }); position = position_at 1 10 } ∷ record { kind = LineEnd; position = position_at 1 14 } ∷ []

header_scans : (rest : List ℕ) → scanned (header ++ rest) ≡ scanned_from (header ++ rest) rest 14 Between (position_at 2 1) (position_at 1 15) header_tokens
unfolding header_tokens
header_scans rest = refl

name_there : (rest : List ℕ) → name_at (header ++ rest) (record { start = 9; end = 13 }) ≡ codes "code"
name_there rest = let h : nat_le 13 (length (header ++ rest)) ≡ true = le-leb 13 (length (header ++ rest)) (omega arith) in rw h refl

header_reads : (rest : List ℕ) (tokens : List Token) → source_from (header ++ rest) no_groups [] (header_tokens ++ tokens) ≡ source_from (header ++ rest) (in_program (record { name = codes "code"; number = 1; lines = [] })) [] tokens
unfolding header_tokens
header_reads rest tokens =
    let e : source_from (header ++ rest) no_groups [] (header_tokens ++ tokens) ≡ source_from (header ++ rest) (in_program (record { name = name_at (header ++ rest) (record { start = 9; end = 13 }); number = 1; lines = [] })) [] tokens = refl in
    e ∙ rw (name_there rest) refl

pub program_parses : (pss : List (List Piece)) (lines : List Line) → AreLines (header ++ joined_lines pss) 2 pss lines → parsed (header ++ joined_lines pss) ≡ Ok (source_of_lines lines)
program_parses pss lines are =
    let text = header ++ joined_lines pss in
    let last = past (position_at 1 15) (position_at 2 1) (joined_lines pss) in
    let end : List Token = record { kind = FileEnd; position = last } ∷ [] in
    let tokens : scanned (header ++ joined_lines pss) ≡ Ok (header_tokens ++ (tokens_of_lines 2 pss ++ end)) =
    header_scans (joined_lines pss) ∙ lexemes_read (lines_are pss lines (header ++ joined_lines pss) 14 2 are) (header ++ joined_lines pss) header (position_at 1 15) header_tokens refl refl
    ∙ ap (λ (ts : List Token). Ok ts) (append_assoc header_tokens (tokens_of_lines 2 pss) end) in
    ap (λ outcome. parsed_tokens text outcome) tokens
    ∙ ap with_syntax (source_gathered text (header_tokens ++ (tokens_of_lines 2 pss ++ end))
    ∙ header_reads (joined_lines pss) (tokens_of_lines 2 pss ++ end)
    ∙ lines_read pss lines (header ++ joined_lines pss) 2 (record { name = codes "code"; number = 1; lines = [] }) end last refl are)
