-- How the line of an instruction word is parsed.
use Rattle.std.proofs.Common.{◌≡◌, ◌==◌, ◌&&◌, not, ℕ, ◌+◌, Bool, true, false, if◌then◌else◌, List, [], ◌∷◌, ◌++◌, length, Option, None, Some, Ok, refl, ap, ◌∙◌}
use Rattle.pio_asm.proofs.Shared.{eq-eqb, IrqIndex, JmpCondition, XDecrement, YDecrement, InSource, InPins, OutDestination, OutPins, MovDestination, ToPins, ToY, MovSource, FromPins, FromY, SetDestination, SetPins, MovOperation, Plain, Invert, Reverse, WaitSource, Gpio, Pin, Flag, PioOp, Jmp, Wait, In, Out, Push, Pull, Mov, Irq, Set, Reserved, SideConfig, SideDelay, bit, KeywordToken, LineEnd, Term, Number as NumberTerm, Operation, JmpSyntax, WaitGpio, WaitPin, WaitIrq, InSyntax, OutSyntax, PushSyntax, PullSyntax, MovSyntax, IrqSyntax, SetSyntax, Instruction, Statement, SideSetStatement, WordStatement, InstructionStatement, Line, and_then, map_ok, Piece, token_at, tokens_of, keyword_name, decimal, digits, is_from_y, is_plain, is_to_y, is_written, both}
use Rattle.pio_parse.specs.declared.token.Token.{Token}
use Rattle.pio_parse.specs.descent.Cursor.{Outcome, after_head}
use Rattle.pio_parse.specs.Tokens.{head_kind}
use Rattle.pio_parse.specs.Registers.{mov_destination_of, mov_source_of}
use Rattle.pio_parse.specs.descent.Instruction.{is_rel, modified_at}
use Rattle.pio_parse.specs.descent.Statement.{end_at, line_at}
use Rattle.pio_asm.proofs.LinePieces.{delay_if, from_key, instruction_if, instruction_pieces, is_nop, mov_pieces, operation_pieces, rel_pieces, side_pieces, side_set_pieces, tail_pieces, to_key, word_pieces}

abbrev pub number_terms : ℕ → List Term
number_terms n = NumberTerm n ∷ []

abbrev pub wait_syntax : Bool → WaitSource → Operation
wait_syntax p (Gpio n) = WaitGpio (Some (number_terms (bit p))) (number_terms n)
wait_syntax p (Pin n) = WaitPin (Some (number_terms (bit p))) (number_terms n)
wait_syntax p (Flag i) = WaitIrq (Some (number_terms (bit p))) (number_terms i.number) i.relative

-- what the text of an operation is parsed as
abbrev pub syntax_of : PioOp → Operation
syntax_of (Jmp c n) = JmpSyntax c (number_terms n)
syntax_of (Wait p s) = wait_syntax p s
syntax_of (In s n) = InSyntax s (number_terms n)
syntax_of (Out d n) = OutSyntax d (number_terms n)
syntax_of (Push f b) = PushSyntax f b
syntax_of (Pull e b) = PullSyntax e b
syntax_of (Mov d o s) = MovSyntax d o s
syntax_of (Irq c w i) = IrqSyntax c w (number_terms i.number) i.relative
syntax_of (Set d n) = SetSyntax d (number_terms n)
syntax_of Reserved = PushSyntax false false

-- the end of a line after an instruction
abbrev finished : ℕ → Outcome Instruction → Outcome Line
finished number outcome = and_then
    (λ (statement : Option Statement × List Token). map_ok (λ (end : Unit {0} × List Token). (record { number = number; label = None; statement = statement.0 }, end.1)) (end_at true statement.0 statement.1))
    (map_ok (λ (instruction : Instruction × List Token). (Some (InstructionStatement instruction.0), instruction.1)) outcome)

-- the first words of a line are an operation, after which the rest of the line is read
abbrev Parses : List ℕ → ℕ → List Piece → Operation → List Piece → Type 0
Parses text number ps operation rest = (column : ℕ) × (line_at text true (tokens_of number 1 (ps ++ rest)) ≡ finished number (modified_at text operation (tokens_of number column rest)))

same_line : (number : ℕ) → (number == number) ≡ true
same_line number = eq-eqb number number refl

jmp_parses : (text : List ℕ) (number : ℕ) (c : JmpCondition) (n : ℕ) (rest : List Piece) → Parses text number (operation_pieces (Jmp c n)) (JmpSyntax c (number_terms n)) rest
jmp_parses text number XDecrement n rest = (9 + length (decimal n), rw (same_line number) refl)
jmp_parses text number YDecrement n rest = (9 + length (decimal n), rw (same_line number) refl)
jmp_parses text number c n rest = (_, refl)

-- `rel` does not stand here
abbrev IsNoRel : ℕ → List Piece → Type 0
IsNoRel number rest = (column : ℕ) → is_rel (head_kind (tokens_of number column rest)) ≡ false

-- `rel` is read where it stands
record ReadsRel (number column : ℕ) (r : Bool) (rest : List Piece) : Type 0 where
  after : ℕ
  is : is_rel (head_kind (tokens_of number column (rel_pieces r ++ rest))) ≡ r
  left : (if is_rel (head_kind (tokens_of number column (rel_pieces r ++ rest))) then after_head (tokens_of number column (rel_pieces r ++ rest)) else tokens_of number column (rel_pieces r ++ rest)) ≡ tokens_of number after rest

reads_rel : (number column : ℕ) (r : Bool) (rest : List Piece) → IsNoRel number rest → ReadsRel number column r rest
reads_rel number column true rest none = record { after = column + 1 + 3; is = refl; left = refl }
reads_rel number column false rest none = record { after = column; is = none column; left = rw (none column) refl }

wait_parses : (text : List ℕ) (number : ℕ) (p : Bool) (s : WaitSource) (rest : List Piece) → IsNoRel number rest → Parses text number (operation_pieces (Wait p s)) (wait_syntax p s) rest
unfolding digits
wait_parses text number true (Gpio n) rest none = (_, refl)
wait_parses text number true (Pin n) rest none = (_, refl)
wait_parses text number true (Flag i) rest none = let rel = reads_rel number (12 + length (decimal i.number)) i.relative rest none in (rel.after, rw (rel.left, rel.is) refl)
wait_parses text number false (Gpio n) rest none = (_, refl)
wait_parses text number false (Pin n) rest none = (_, refl)
wait_parses text number false (Flag i) rest none = let rel = reads_rel number (12 + length (decimal i.number)) i.relative rest none in (rel.after, rw (rel.left, rel.is) refl)

irq_parses : (text : List ℕ) (number : ℕ) (c w : Bool) (i : IrqIndex) (rest : List Piece) → not (c && w) ≡ true → IsNoRel number rest → Parses text number (operation_pieces (Irq c w i)) (IrqSyntax c w (number_terms i.number) i.relative) rest
irq_parses text number true true i rest h none = cc
irq_parses text number true false i rest h none = let rel = reads_rel number (11 + length (decimal i.number)) i.relative rest none in (rel.after, rw (rel.left, rel.is) refl)
irq_parses text number false true i rest h none = let rel = reads_rel number (10 + length (decimal i.number)) i.relative rest none in (rel.after, rw (rel.left, rel.is) refl)
irq_parses text number false false i rest h none = let rel = reads_rel number (12 + length (decimal i.number)) i.relative rest none in (rel.after, rw (rel.left, rel.is) refl)

in_parses : (text : List ℕ) (number : ℕ) (s : InSource) (n : ℕ) (rest : List Piece) → Parses text number (operation_pieces (In s n)) (InSyntax s (number_terms n)) rest
in_parses text number InPins n rest = (_, refl)
in_parses text number s n rest = (_, refl)

out_parses : (text : List ℕ) (number : ℕ) (d : OutDestination) (n : ℕ) (rest : List Piece) → Parses text number (operation_pieces (Out d n)) (OutSyntax d (number_terms n)) rest
out_parses text number OutPins n rest = (_, refl)
out_parses text number d n rest = (_, refl)

set_parses : (text : List ℕ) (number : ℕ) (d : SetDestination) (n : ℕ) (rest : List Piece) → Parses text number (operation_pieces (Set d n)) (SetSyntax d (number_terms n)) rest
set_parses text number SetPins n rest = (_, refl)
set_parses text number d n rest = (_, refl)

from_named : (s : MovSource) → mov_source_of (KeywordToken (from_key s)) ≡ Some s
from_named FromPins = refl
from_named s = refl

to_named : (d : MovDestination) → mov_destination_of (KeywordToken (to_key d)) ≡ Some d
to_named ToPins = refl
to_named d = refl

is_y_to : (d : MovDestination) → is_to_y d ≡ true → d ≡ ToY
is_y_to ToY h = refl
is_y_to d h = absurd (let g : false ≡ true = h in cc)

is_plain_operation : (o : MovOperation) → is_plain o ≡ true → o ≡ Plain
is_plain_operation Plain h = refl
is_plain_operation o h = absurd (let g : false ≡ true = h in cc)

is_y_from : (s : MovSource) → is_from_y s ≡ true → s ≡ FromY
is_y_from FromY h = refl
is_y_from s h = absurd (let g : false ≡ true = h in cc)

mov_parses : (text : List ℕ) (number : ℕ) (b : Bool) (d : MovDestination) (o : MovOperation) (s : MovSource) (rest : List Piece) → is_nop d o s ≡ b → Parses text number (mov_pieces b d o s) (MovSyntax d o s) rest
mov_parses text number true d o s rest h =
    let a = both (is_to_y d && is_plain o) (is_from_y s) h in
    let b = both (is_to_y d) (is_plain o) a.0 in
    (4, rw (is_y_to d b.0, is_plain_operation o b.1, is_y_from s a.1) refl)
mov_parses text number false d Plain s rest h = (5 + length (keyword_name (to_key d)) + 1 + 1 + length (keyword_name (from_key s)), rw (to_named d, from_named s) refl)
mov_parses text number false d Invert s rest h = (5 + length (keyword_name (to_key d)) + 1 + 1 + 1 + length (keyword_name (from_key s)), rw (to_named d, from_named s) refl)
mov_parses text number false d Reverse s rest h = (5 + length (keyword_name (to_key d)) + 1 + 1 + 2 + length (keyword_name (from_key s)), rw (to_named d, from_named s) refl)

operation_parses : (text : List ℕ) (number : ℕ) (op : PioOp) (rest : List Piece) → is_written op ≡ true → IsNoRel number rest → Parses text number (operation_pieces op) (syntax_of op) rest
operation_parses text number (Jmp c n) rest h none = jmp_parses text number c n rest
operation_parses text number (Wait p s) rest h none = wait_parses text number p s rest none
operation_parses text number (In s n) rest h none = in_parses text number s n rest
operation_parses text number (Out d n) rest h none = out_parses text number d n rest
operation_parses text number (Push true true) rest h none = (_, refl)
operation_parses text number (Push true false) rest h none = (_, refl)
operation_parses text number (Push false true) rest h none = (_, refl)
operation_parses text number (Push false false) rest h none = (_, refl)
operation_parses text number (Pull true true) rest h none = (_, refl)
operation_parses text number (Pull true false) rest h none = (_, refl)
operation_parses text number (Pull false true) rest h none = (_, refl)
operation_parses text number (Pull false false) rest h none = (_, refl)
operation_parses text number (Mov d o s) rest h none = mov_parses text number (is_nop d o s) d o s rest refl
operation_parses text number (Irq c w i) rest h none = irq_parses text number c w i rest h none
operation_parses text number (Set d n) rest h none = set_parses text number d n rest
operation_parses text number Reserved rest h none = absurd (let g : false ≡ true = h in cc)

-- a side-set value and a delay
abbrev pub side_terms : Option ℕ → Option (List Term)
side_terms None = None
side_terms (Some v) = Some (number_terms v)

abbrev pub delay_terms_if : Bool → ℕ → Option (List Term)
delay_terms_if true d = None
delay_terms_if false d = Some (number_terms d)

abbrev pub delay_terms : ℕ → Option (List Term)
delay_terms d = delay_terms_if (d == 0) d

abbrev instruction_with : Operation → Option ℕ → Bool → ℕ → Instruction
instruction_with operation v b d = record { operation = operation; side = side_terms v; delay = delay_terms_if b d }

tail_parses : (text : List ℕ) (number column : ℕ) (operation : Operation) (v : Option ℕ) (b : Bool) (d : ℕ) → (position : ℕ) × (modified_at text operation (tokens_of number column (side_pieces v ++ delay_if b d)) ≡ Ok (instruction_with operation v b d, token_at LineEnd number position ∷ []))
tail_parses text number column operation None true d = (_, refl)
tail_parses text number column operation None false d = (_, refl)
tail_parses text number column operation (Some v) true d = (_, refl)
tail_parses text number column operation (Some v) false d = (_, refl)

no_rel : (number : ℕ) (v : Option ℕ) (b : Bool) (d : ℕ) → IsNoRel number (side_pieces v ++ delay_if b d)
no_rel number None true d column = refl
no_rel number None false d column = refl
no_rel number (Some v) true d column = refl
no_rel number (Some v) false d column = refl

-- what the line of a word says
abbrev pub statement_if : Bool → PioOp → SideDelay → ℕ → Statement
statement_if true op side word = InstructionStatement (record { operation = syntax_of op; side = side_terms side.value; delay = delay_terms side.delay })
statement_if false op side word = WordStatement (number_terms word)

abbrev pub statement_of : PioOp → Option SideDelay → ℕ → Statement
statement_of op None word = WordStatement (number_terms word)
statement_of op (Some side) word = statement_if (is_written op) op side word

abbrev pub line_with : ℕ → Statement → Line
line_with number statement = record { number = number; label = None; statement = Some statement }

word_parses : (text : List ℕ) (number word : ℕ) → line_at text true (tokens_of number 1 (word_pieces word)) ≡ Ok (line_with number (WordStatement (number_terms word)), [])
word_parses text number word = refl

instruction_parses : (text : List ℕ) (number : ℕ) (b : Bool) (op : PioOp) (side : SideDelay) (word : ℕ) → is_written op ≡ b → line_at text true (tokens_of number 1 (instruction_if b op side word)) ≡ Ok (line_with number (statement_if b op side word), [])
instruction_parses text number true op side word h =
    let first = operation_parses text number op (tail_pieces side) h (no_rel number side.value (side.delay == 0) side.delay) in
    let last = tail_parses text number first.0 (syntax_of op) side.value (side.delay == 0) side.delay in
    first.1 ∙ ap (λ (o : Outcome Instruction). finished number o) last.1
instruction_parses text number false op side word h = word_parses text number word

pub line_parses : (text : List ℕ) (number : ℕ) (op : PioOp) (side : Option SideDelay) (word : ℕ) → line_at text true (tokens_of number 1 (instruction_pieces op side word)) ≡ Ok (line_with number (statement_of op side word), [])
line_parses text number op None word = word_parses text number word
line_parses text number op (Some side) word = instruction_parses text number (is_written op) op side word refl

pub side_set_parses : (text : List ℕ) (number : ℕ) (side : SideConfig) → line_at text true (tokens_of number 1 (side_set_pieces side)) ≡ Ok (line_with number (SideSetStatement (number_terms side.count) side.opt side.pindirs), [])
side_set_parses text number side = flags_parse side.opt side.pindirs side.count
  where
    flags_parse : (opt pindirs : Bool) (n : ℕ) → line_at text true (tokens_of number 1 (side_set_pieces (record { count = n; opt = opt; pindirs = pindirs }))) ≡ Ok (line_with number (SideSetStatement (number_terms n) opt pindirs), [])
    flags_parse true true n = refl
    flags_parse true false n = refl
    flags_parse false true n = refl
    flags_parse false false n = refl
