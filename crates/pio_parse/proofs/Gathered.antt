-- The lines that `parse` gathers one after the other make the source of the lines.
use Rattle.std.proofs.Common.{◌≡◌, ◌||◌, ℕ, Bool, true, false, cond, List, [], ◌∷◌, ◌++◌, Option, None, Some, append-nil, append_assoc, refl, sym, ap, ◌∙◌}
use Rattle.pio_parse.proofs.Shared.{Result, Ok, Err, is_some, option_to_list, SourcePosition, Token, Statement, Program, Line, SourceProgram, Source, Groups, and_then, map_ok, is_end, is_program, line_at, before_by, gathered, token_lines, with_first, lines_at, source_of, grouped, grouped_by, line_step, no_groups, source_from}

-- what is gathered, with the source of the lines that come
abbrev joined_to : List Line → List SourceProgram → Option SourceProgram → Source → Source
joined_to globals programs None source = record { globals = globals ++ source.globals; programs = programs ++ source.programs }
joined_to globals programs (Some program) source =
    record { globals = globals; programs = programs ++ record program { lines = program.lines ++ source.globals } ∷ source.programs }

abbrev joined : Groups → Source → Source
joined groups source = joined_to groups.globals groups.programs groups.current source

-- a line that is gathered, before the others
grows : (number : ℕ) (label : Option (List ℕ)) (statement : Option Statement) (g : List Line) (ps : List SourceProgram) (current : Option SourceProgram) (source : Source)
    → joined (grouped_by number label statement (record { globals = g; programs = ps; current = current })) source ≡ joined_to g ps current (before_by number label statement source)
grows number None None g ps None source = refl
grows number None None g ps (Some p) source = refl
grows number (Some label) None g ps None source = rw (append_assoc g (record { number = number; label = Some label; statement = None } ∷ []) source.globals) refl
grows number (Some label) None g ps (Some p) source = rw (append_assoc p.lines (record { number = number; label = Some label; statement = None } ∷ []) source.globals) refl
grows number None (Some (Program name)) g ps None source = rw (append-nil ps, append-nil g) refl
grows number None (Some (Program name)) g ps (Some p) source = rw (append_assoc ps (p ∷ []) (record { name = name; number = number; lines = source.globals } ∷ source.programs), append-nil p.lines) refl
grows number (Some label) (Some (Program name)) g ps None source = rw (append-nil ps) refl
grows number (Some label) (Some (Program name)) g ps (Some p) source =
    rw (append_assoc ps (record p { lines = p.lines ++ record { number = number; label = Some label; statement = None } ∷ [] } ∷ []) (record { name = name; number = number; lines = source.globals } ∷ source.programs)) refl
grows number label (Some statement) g ps None source = rw (append_assoc g (record { number = number; label = label; statement = Some statement } ∷ []) source.globals) refl
grows number label (Some statement) g ps (Some p) source = rw (append_assoc p.lines (record { number = number; label = label; statement = Some statement } ∷ []) source.globals) refl

or-false : (b : Bool) → b ≡ b || false
or-false true = refl
or-false false = refl

or-true : (b : Bool) → true ≡ b || true
or-true true = refl
or-true false = refl

begins : (number : ℕ) (label : Option (List ℕ)) (statement : Option Statement) (g : List Line) (ps : List SourceProgram) (current : Option SourceProgram)
    → is_some (grouped_by number label statement (record { globals = g; programs = ps; current = current })).current ≡ is_some current || is_program statement
begins number None None g ps current = or-false (is_some current)
begins number (Some label) None g ps None = refl
begins number (Some label) None g ps (Some p) = refl
begins number None (Some (Program name)) g ps current = or-true (is_some current)
begins number (Some label) (Some (Program name)) g ps current = or-true (is_some current)
begins number label (Some statement) g ps None = refl
begins number label (Some statement) g ps (Some p) = refl

-- the tokens of the line so far stand before the other lines
abbrev prefixed : List Token → List (List Token) → List (List Token)
prefixed current [] = []
prefixed current (line ∷ lines) = (current ++ line) ∷ lines

prefixed-nil : (lines : List (List Token)) → prefixed [] lines ≡ lines
prefixed-nil [] = refl
prefixed-nil (line ∷ lines) = refl

prefixed-first : (current : List Token) (token : Token) (lines : List (List Token)) → prefixed (current ++ token ∷ []) lines ≡ prefixed current (with_first token lines)
prefixed-first current token [] = refl
prefixed-first current token (line ∷ lines) = rw (append_assoc current (token ∷ []) line) refl

abbrev whole : List ℕ → Groups → List (List Token) → Result Source SourcePosition
whole text groups lines = map_ok (λ (ls : List Line). joined groups (gathered ls)) (lines_at text (is_some groups.current) lines)

none_left : (g : List Line) (ps : List SourceProgram) (current : Option SourceProgram) → joined_to g ps current (record { globals = []; programs = [] }) ≡ record { globals = g; programs = ps ++ option_to_list current }
none_left g ps None = rw (append-nil g) refl
none_left g ps (Some p) = rw (append-nil p.lines) refl

-- one more line before those that are read
one_more : (groups : Groups) (line : Line) (lines : Result (List Line) SourcePosition) → map_ok (λ (ls : List Line). joined (grouped groups line) (gathered ls)) lines ≡ map_ok (λ (ls : List Line). joined groups (gathered ls)) (map_ok (λ ls. line ∷ ls) lines)
one_more groups line (Ok ls) = ap (λ (s : Source). Ok s) (grows line.number line.label line.statement groups.globals groups.programs groups.current (gathered ls))
one_more groups line (Err position) = refl

-- what is read after the tokens of the line so far
abbrev Gathers : List ℕ → List Token → Type 0
Gathers text tokens = (groups : Groups) (current : List Token) → source_from text groups current tokens ≡ whole text groups (prefixed current (token_lines tokens))

line_read : (text : List ℕ) (groups : Groups) (tokens : List Token) (outcome : Result (Line × List Token) SourcePosition) → Gathers text tokens
    → and_then (λ next. source_from text next [] tokens) (map_ok (λ (line : Line × List Token). grouped groups line.0) outcome)
    ≡ map_ok (λ (ls : List Line). joined groups (gathered ls)) (and_then (λ line. map_ok (λ lines. line.0 ∷ lines) (lines_at text (is_some groups.current || is_program line.0.statement) (token_lines tokens))) outcome)
line_read text groups tokens (Err position) ih = refl
line_read text groups tokens (Ok line) ih =
    ih (grouped groups line.0) []
    ∙ ap (λ lines. whole text (grouped groups line.0) lines) (prefixed-nil (token_lines tokens))
    ∙ ap (λ b. map_ok (λ (ls : List Line). joined (grouped groups line.0) (gathered ls)) (lines_at text b (token_lines tokens))) (begins line.0.number line.0.label line.0.statement groups.globals groups.programs groups.current)
    ∙ one_more groups line.0 (lines_at text (is_some groups.current || is_program line.0.statement) (token_lines tokens))

step : (b : Bool) (text : List ℕ) (groups : Groups) (current : List Token) (token : Token) (tokens : List Token) → Gathers text tokens
    → cond b (and_then (λ next. source_from text next [] tokens) (line_step text groups (current ++ token ∷ []))) (source_from text groups (current ++ token ∷ []) tokens)
    ≡ whole text groups (prefixed current (cond b ((token ∷ []) ∷ token_lines tokens) (with_first token (token_lines tokens))))
step true text groups current token tokens ih = line_read text groups tokens (line_at text (is_some groups.current) (current ++ token ∷ [])) ih
step false text groups current token tokens ih = ih groups (current ++ token ∷ []) ∙ ap (λ lines. whole text groups lines) (prefixed-first current token (token_lines tokens))

gathers : (text : List ℕ) (tokens : List Token) → Gathers text tokens
gathers text [] = λ groups current. ap (λ (s : Source). Ok s) (sym (none_left groups.globals groups.programs groups.current))
gathers text (token ∷ tokens) = λ groups current. step (is_end token.kind) text groups current token tokens (gathers text tokens)

pub source_gathered : (text : List ℕ) (tokens : List Token) → source_of text tokens ≡ source_from text no_groups [] tokens
source_gathered text tokens = sym (gathers text tokens no_groups [] ∙ ap (λ lines. whole text no_groups lines) (prefixed-nil (token_lines tokens)))
