-- How the parts of a line are read: its label, its directive or its instruction with its operands and modifiers, and its end.
use Rattle.std.proofs.Common.{◌≡◌, ◌==◌, ◌&&◌, ◌||◌, Bool, true, false, if◌then◌else◌, ℕ, suc, ◌-◌, List, [], ◌∷◌, Option, Some, None, Ok, Err, inl, inr, arith, refl, sym, ap, ◌∙◌, subst}
use Rattle.pio_parse.proofs.Shared.{eqb_tells, false≢true, JmpCondition, Always, XZero, XDecrement, YZero, YDecrement, XNotY, PinHigh, OsrNotEmpty, MovOperation, SourcePosition, Span, Token, Keyword, Public, Opt, Pindirs, Jmp, Wait, In, Out, Push, Pull, Mov, Irq, Set, Nop, Side, Gpio, Pin, Rel, Pins, X, Y, Osre, IfFull, IfEmpty, Block, NoBlock, NoWait, Clear, ProgramDirective as Program, Define, Origin, SideSet, WrapTarget, Wrap, WordDirective as Word, LangOpt, PioVersion, TokenKind, Name, KeywordToken, DirectiveToken, Number, Comma, Colon, Minus, NotEqual, BangToken as Bang, Tilde, DoubleColon, OpenBracket, CloseBracket, LineEnd, FileEnd, Term, NumberTerm, Operation, Statement, Program as ProgramStatement, DefineStatement, OriginStatement, SideSetStatement, WrapTargetStatement, WrapStatement, WordStatement, InstructionStatement, and_then, map_ok, Outcome, after_head, expected, misfit, are_together, head_kind, head_position, is_program, name_at, expression_at, operand_at, in_source_of, mov_destination_of, mov_source_of, out_destination_of, set_destination_of, block_at, block_of, conditional_at, decrement_at, delay_at, flag_at, in_at, irq_at, irq_mode_at, irq_mode_of, is_close_bracket, is_comma, is_if_empty, is_if_full, is_minus, is_not_equal, is_open_bracket, is_rel, is_side, is_y, jmp_at, jmp_condition_at, jmp_condition_of, last_operand_at, modified_at, modifiers_at, mov_at, mov_operation_at, mov_operation_of, named_at, not_condition_at, not_condition_of, out_at, past_comma, polarity_at, polarity_of, pull_at, push_at, set_at, side_at, wait_at, wait_for, x_condition_at, begins_label, define_at, is_colon, is_end_after, is_opt, is_pindirs, is_public, is_zero, label_at, name_of_kind, name_token_at, past_public, side_set_at, statement_at, statement_of_kind, version_at, is_line, IsBlock, IsCondition, IsDecrement, IsDelay, IsIrqMode, IsJmpCondition, IsLabel, IsLastValue, IsModifiers, IsMovOperation, IsOperation, IsPolarity, IsProgram, IsSetting, IsSide, IsStatement, MayStand, last_value, x_zero, x_decrement, y_zero, y_decrement, x_not_y, pin, osr_not_empty, always, condition, no_polarity, polarity, block, noblock, no_word, plain, invert, tilde_source as tilde, reverse_source as reverse, no_mode, set_mode, nowait, wait_mode, clear_mode, jmp, wait_gpio, wait_pin, wait_irq, in_, out, push, pull, mov, irq, set, nop, no_side, side, no_delay, delay, side_first, delay_first, define, lang_opt, pio_version, program_line, nothing_said as nothing, setting, program, origin, side_set, wrap_target, wrap, word_statement, instruction, no_label, label}
use Rattle.pio_words.specs.declared.op.InSource.TheVariants.{Pins as InPins}
use Rattle.pio_words.specs.declared.op.OutDestination.TheVariants.{Pins as OutPins}
use Rattle.pio_words.specs.declared.op.SetDestination.TheVariants.{Pins as SetPins}
use Rattle.pio_words.specs.declared.op.MovDestination.{MovDestination}
use Rattle.pio_words.specs.declared.op.MovDestination.TheVariants.{Pins as ToPins, Y as MovToY}
use Rattle.pio_words.specs.declared.op.MovOperation.TheVariants.{Plain, Invert, Reverse}
use Rattle.pio_words.specs.declared.op.MovSource.TheVariants.{Pins as FromPins, Y as MovFromY}
use Rattle.pio_parse.specs.declared.token.Directive.{Directive}
use Rattle.pio_parse.specs.declared.syntax.Operation.TheVariants.{Jmp as JmpOperation, WaitGpio, WaitPin, WaitIrq, In as InOperation, Out as OutOperation, Push as PushOperation, Pull as PullOperation, Mov as MovOperation', Irq as IrqOperation, Set as SetOperation}
use Rattle.pio_parse.specs.declared.syntax.Instruction.{Instruction}
use Rattle.pio_parse.proofs.Tests.{both, err_is, ok_is, refused, same_left}
use Rattle.pio_parse.proofs.Reading.{After, Answer, Can, Good, IsNamed, IsOne, Reads, Refused, Rest, Step, begins, bind, can_after, choose, chosen, flag_reads, good_to, named_reads, not_end, one_reads, reads_map, reads_then, reads_to, token_of}
use Rattle.pio_parse.proofs.Reading.IsNamed.{named}
use Rattle.pio_parse.proofs.Reading.IsOne.{one}
use Rattle.pio_parse.proofs.Reading.Step.{misfit_here, shift, take, keep, pass}
use Rattle.pio_parse.proofs.Expressions.{IsTerms, expression_reads, value_reads}
use Rattle.pio_parse.proofs.Expressions.IsTerms.{sum_terms}

-- the kind that a test tells
comma_of : (kind : TokenKind) → is_comma kind ≡ true → kind ≡ Comma
comma_of Comma h = refl
comma_of kind h = absurd (false≢true h)

rel_of : (kind : TokenKind) → is_rel kind ≡ true → kind ≡ KeywordToken Rel
rel_of (KeywordToken Rel) h = refl
rel_of kind h = absurd (false≢true h)

if_full_of : (kind : TokenKind) → is_if_full kind ≡ true → kind ≡ KeywordToken IfFull
if_full_of (KeywordToken IfFull) h = refl
if_full_of kind h = absurd (false≢true h)

if_empty_of : (kind : TokenKind) → is_if_empty kind ≡ true → kind ≡ KeywordToken IfEmpty
if_empty_of (KeywordToken IfEmpty) h = refl
if_empty_of kind h = absurd (false≢true h)

minus_of : (kind : TokenKind) → is_minus kind ≡ true → kind ≡ Minus
minus_of Minus h = refl
minus_of kind h = absurd (false≢true h)

y_of : (kind : TokenKind) → is_y kind ≡ true → kind ≡ KeywordToken Y
y_of (KeywordToken Y) h = refl
y_of kind h = absurd (false≢true h)

bracket_of : (kind : TokenKind) → is_close_bracket kind ≡ true → kind ≡ CloseBracket
bracket_of CloseBracket h = refl
bracket_of kind h = absurd (false≢true h)

public_of : (kind : TokenKind) → is_public kind ≡ true → kind ≡ KeywordToken Public
public_of (KeywordToken Public) h = refl
public_of kind h = absurd (false≢true h)

opt_of : (kind : TokenKind) → is_opt kind ≡ true → kind ≡ KeywordToken Opt
opt_of (KeywordToken Opt) h = refl
opt_of kind h = absurd (false≢true h)

pindirs_of : (kind : TokenKind) → is_pindirs kind ≡ true → kind ≡ KeywordToken Pindirs
pindirs_of (KeywordToken Pindirs) h = refl
pindirs_of kind h = absurd (false≢true h)

colon_of : (kind : TokenKind) → is_colon kind ≡ true → kind ≡ Colon
colon_of Colon h = refl
colon_of kind h = absurd (false≢true h)

zero_of : (kind : TokenKind) → is_zero kind ≡ true → kind ≡ Number 0
zero_of (Number n) h = elim (eqb_tells n 0) [
  | inl e ↦ ap (λ n. Number n) e.1
  | inr e ↦ absurd (false≢true (sym e.0 ∙ h))
]
zero_of kind h = absurd (false≢true h)

comma_reads : Reads true (λ tokens. flag_at (is_comma (head_kind tokens)) tokens) (MayStand Comma)
comma_reads = flag_reads is_comma Comma refl refl comma_of refl

rel_reads : Reads true (λ tokens. flag_at (is_rel (head_kind tokens)) tokens) (MayStand (KeywordToken Rel))
rel_reads = flag_reads is_rel (KeywordToken Rel) refl refl rel_of refl

public_reads : Reads true (λ tokens. flag_at (is_public (head_kind tokens)) tokens) (MayStand (KeywordToken Public))
public_reads = flag_reads is_public (KeywordToken Public) refl refl public_of refl

-- [`,`] value
last_value_reads : (text : List ℕ) → Reads true (last_operand_at text) (IsLastValue text)
last_value_reads text = reads_to _ (reads_then (λ comma tokens. operand_at text tokens) comma_reads (λ comma. value_reads text)) (λ tokens value rest (comma, middle, may, is). last_value may is)

-- a condition, and perhaps a comma
abbrev IsConditional : JmpCondition → List Token → JmpCondition → List Token → Type 0
IsConditional c tokens c' rest = (comma : Bool) × MayStand Comma tokens comma rest × (c ≡ c')

conditional_reads : (c : JmpCondition) → Reads true (conditional_at c) (IsConditional c)
conditional_reads c = reads_map (λ comma. c) comma_reads

given : {tokens middle rest : List Token} {c c' : JmpCondition} → IsCondition tokens c middle → IsConditional c middle c' rest → IsJmpCondition tokens c' rest
given {tokens = tokens} {rest = rest} is (comma, may, same) = subst (λ c. IsJmpCondition tokens c rest) same (condition is may)

-- the second of two signs beside each other
pub data IsSecond (c : JmpCondition) (position : SourcePosition) : List Token → JmpCondition → List Token → Type 0 where
  second_sign : {middle rest : List Token} {second : Token} {c' : JmpCondition} → second.kind ≡ Minus → are_together position second.position ≡ true → IsConditional c middle c' rest → IsSecond c position (second ∷ middle) c' rest

abbrev beside : SourcePosition → Token
beside position = record { kind = Minus; position = record { line = position.line; column = suc position.column } }

beside_is : (line column : ℕ) → ((line == line) && (suc column - 1 == column) && true) ≡ true
beside_is line column = grind arith

module _ (c : JmpCondition) where
  abbrev second_of : SourcePosition → TokenKind → SourcePosition → List Token → Outcome JmpCondition
  second_of before kind position tokens = and_then (λ second. conditional_at c second.1) (expected (are_together before position && is_minus kind) tokens)

  second_step : (before : SourcePosition) (kind : TokenKind) (position : SourcePosition) (b : Bool) → (are_together before position && is_minus kind) ≡ b
      → Step kind position (λ tokens. and_then (λ second. conditional_at c second.1) (expected b tokens)) (IsSecond c before)
  second_step before kind position true fits =
      let parts = both (are_together before position) (is_minus kind) fits in
      shift (reads_to _ (conditional_reads c) (λ tokens c' rest is token k at. second_sign (k ∙ minus_of kind parts.1) (ap (are_together before) at ∙ parts.0) is)) (not_end is_minus refl refl kind parts.1) (λ tokens. refl)
  second_step before kind position false fits = misfit_here (λ tokens. refl)

  second_begins : (before : SourcePosition) (token : Token) (b : Bool) (h : (are_together before token.position && is_minus token.kind) ≡ b) → b ≡ true → begins (second_step before token.kind token.position b h) ≡ true
  unfolding second_step
  second_begins before token true h so = refl
  second_begins before token false h so = absurd (false≢true so)

  second_reads : (before : SourcePosition) → Reads false (λ tokens. second_of before (head_kind tokens) (head_position tokens) tokens) (IsSecond c before)
  second_reads before = choose (second_of before) _ (λ kind position. second_step before kind position (are_together before position && is_minus kind) refl) (beside before)
      (second_begins before (beside before) _ refl (beside_is before.line before.column)) (λ no. absurd (false≢true no))

  -- `--`
  pub data IsSigns : List Token → JmpCondition → List Token → Type 0 where
    signs : {middle rest : List Token} {first second : Token} {c' : JmpCondition} → IsDecrement first second → IsConditional c middle c' rest → IsSigns (first ∷ second ∷ middle) c' rest

  signs_of : {tokens rest : List Token} {c' : JmpCondition} {position : SourcePosition} → IsSecond c position tokens c' rest → (first : Token) → first.kind ≡ Minus → first.position ≡ position → IsSigns (first ∷ tokens) c' rest
  signs_of (second_sign {second = second} is together rest) first k at = signs (k, is, ap (λ position. are_together position second.position) at ∙ together) rest

  abbrev decrement_of : TokenKind → SourcePosition → List Token → Outcome JmpCondition
  decrement_of kind position tokens =
      and_then (λ first. and_then (λ second. conditional_at c second.1) (expected (are_together position (head_position first.1) && is_minus (head_kind first.1)) first.1)) (expected (is_minus kind) tokens)

  abbrev decrement_step : (kind : TokenKind) (position : SourcePosition) → Step kind position (decrement_of kind position) IsSigns
  decrement_step Minus position = shift (reads_to _ (second_reads position) (λ tokens c' rest is token k at. signs_of is token k at)) refl (λ tokens. refl)
  decrement_step kind position = misfit_here (λ tokens. refl)

  decrement_reads : Reads false (decrement_at c) IsSigns
  decrement_reads = choose decrement_of _ decrement_step (token_of Minus) refl (λ no. absurd (false≢true no))

abbrev AfterX : List Token → JmpCondition → List Token → Type 0
AfterX tokens c rest = (x : Token) → x.kind ≡ KeywordToken X → IsJmpCondition (x ∷ tokens) c rest

x_signs : {tokens rest : List Token} {c : JmpCondition} → IsSigns XDecrement tokens c rest → AfterX tokens c rest
x_signs (signs is more) x k = given (x_decrement k is) more

y_signs : {tokens rest : List Token} {c : JmpCondition} → IsSigns YDecrement tokens c rest → (y : Token) → y.kind ≡ KeywordToken Y → IsJmpCondition (y ∷ tokens) c rest
y_signs (signs is more) y k = given (y_decrement k is) more

abbrev AfterNotEqual : List Token → JmpCondition → List Token → Type 0
AfterNotEqual tokens c rest = (sign : Token) → sign.kind ≡ NotEqual → AfterX (sign ∷ tokens) c rest

not_equal_of : (tokens : List Token) (c : JmpCondition) (rest : List Token) → (u : Unit {0}) × (middle : List Token) × IsOne is_y tokens u middle × IsConditional XNotY middle c rest → AfterNotEqual tokens c rest
not_equal_of tokens c rest (u, middle, one {token = y} is, more) sign s x k = given (x_not_y k s (y_of y.kind is)) more

y_reads : Reads true (λ tokens. and_then (λ y. conditional_at XNotY y.1) (expected (is_y (head_kind tokens)) tokens)) AfterNotEqual
y_reads = reads_to _ (reads_then (λ u tokens. conditional_at XNotY tokens) (one_reads is_y refl refl (KeywordToken Y) refl (λ yes. refl)) (λ u. conditional_reads XNotY)) not_equal_of

abbrev x_of : TokenKind → SourcePosition → List Token → Outcome JmpCondition
x_of kind position tokens = if is_not_equal kind then and_then (λ y. conditional_at XNotY y.1) (expected (is_y (head_kind (after_head tokens))) (after_head tokens)) else decrement_at XDecrement tokens

abbrev x_step : (kind : TokenKind) (position : SourcePosition) → Step kind position (x_of kind position) AfterX
x_step NotEqual position = shift (reads_to _ y_reads (λ tokens c rest is token k at. is token k)) refl (λ tokens. refl)
x_step kind position = pass (reads_to _ (decrement_reads XDecrement) (λ tokens c rest is. x_signs is)) (λ tokens. refl)

-- `--` or `!=` `y`
x_reads : Reads true x_condition_at AfterX
x_reads = choose x_of _ x_step (token_of NotEqual) refl (λ yes. refl)

abbrev AfterBang : List Token → JmpCondition → List Token → Type 0
AfterBang tokens c rest = (bang : Token) → bang.kind ≡ Bang → IsJmpCondition (bang ∷ tokens) c rest

abbrev bang_step : (kind : TokenKind) (position : SourcePosition) → Step kind position (not_condition_of kind) AfterBang
bang_step (KeywordToken X) position = shift (reads_to _ (conditional_reads XZero) (λ tokens c rest is token k at bang b. given (x_zero b k) is)) refl (λ tokens. refl)
bang_step (KeywordToken Y) position = shift (reads_to _ (conditional_reads YZero) (λ tokens c rest is token k at bang b. given (y_zero b k) is)) refl (λ tokens. refl)
bang_step (KeywordToken Osre) position = shift (reads_to _ (conditional_reads OsrNotEmpty) (λ tokens c rest is token k at bang b. given (osr_not_empty b k) is)) refl (λ tokens. refl)
bang_step kind position = misfit_here (λ tokens. refl)

-- `x`, `y` or `osre` after `!`
bang_reads : Reads true not_condition_at AfterBang
bang_reads = choose (λ kind position. not_condition_of kind) _ bang_step (token_of (KeywordToken X)) refl (λ yes. refl)

abbrev condition_step : (kind : TokenKind) (position : SourcePosition) → Step kind position (jmp_condition_of kind) IsJmpCondition
condition_step Bang position = shift (reads_to _ bang_reads (λ tokens c rest is token k at. is token k)) refl (λ tokens. refl)
condition_step (KeywordToken X) position = shift (reads_to _ x_reads (λ tokens c rest is token k at. is token k)) refl (λ tokens. refl)
condition_step (KeywordToken Y) position = shift (reads_to _ (decrement_reads YDecrement) (λ tokens c rest is token k at. y_signs is token k)) refl (λ tokens. refl)
condition_step (KeywordToken Pin) position = shift (reads_to _ (conditional_reads PinHigh) (λ tokens c rest is token k at. given (pin k) is)) refl (λ tokens. refl)
condition_step kind position = keep Always (λ rest is. always) (λ tokens. refl)

-- [condition [`,`]]
condition_reads : Reads true jmp_condition_at IsJmpCondition
condition_reads = choose (λ kind position. jmp_condition_of kind) _ condition_step (token_of (KeywordToken Pin)) refl (λ yes. refl)

abbrev block_step : (kind : TokenKind) (position : SourcePosition) → Step kind position (block_of kind) IsBlock
block_step (KeywordToken Block) position = take true (λ token rest is. block is) refl (λ tokens. refl)
block_step (KeywordToken NoBlock) position = take false (λ token rest is. noblock is) refl (λ tokens. refl)
block_step kind position = keep true (λ rest is. no_word) (λ tokens. refl)

block_reads : Reads true block_at IsBlock
block_reads = choose (λ kind position. block_of kind) _ block_step (token_of (KeywordToken Block)) refl (λ yes. refl)

abbrev mov_step : (kind : TokenKind) (position : SourcePosition) → Step kind position (mov_operation_of kind) IsMovOperation
mov_step Bang position = take Invert (λ token rest is. invert is) refl (λ tokens. refl)
mov_step Tilde position = take Invert (λ token rest is. tilde is) refl (λ tokens. refl)
mov_step DoubleColon position = take Reverse (λ token rest is. reverse is) refl (λ tokens. refl)
mov_step kind position = keep Plain (λ rest is. plain) (λ tokens. refl)

mov_operation_reads : Reads true mov_operation_at IsMovOperation
mov_operation_reads = choose (λ kind position. mov_operation_of kind) _ mov_step (token_of Bang) refl (λ yes. refl)

abbrev Mode : Type 0
Mode = Bool × Bool

abbrev IsMode : List Token → Mode → List Token → Type 0
IsMode tokens mode rest = IsIrqMode tokens mode.0 mode.1 rest

abbrev mode_step : (kind : TokenKind) (position : SourcePosition) → Step kind position (irq_mode_of kind) IsMode
mode_step (KeywordToken Set) position = take (false, false) (λ token rest is. set_mode is) refl (λ tokens. refl)
mode_step (KeywordToken NoWait) position = take (false, false) (λ token rest is. nowait is) refl (λ tokens. refl)
mode_step (KeywordToken Wait) position = take (false, true) (λ token rest is. wait_mode is) refl (λ tokens. refl)
mode_step (KeywordToken Clear) position = take (true, false) (λ token rest is. clear_mode is) refl (λ tokens. refl)
mode_step kind position = keep (false, false) (λ rest is. no_mode) (λ tokens. refl)

irq_mode_reads : Reads true irq_mode_at IsMode
irq_mode_reads = choose (λ kind position. irq_mode_of kind) _ mode_step (token_of (KeywordToken Wait)) refl (λ yes. refl)

-- a name
data IsName (text : List ℕ) : List Token → List ℕ → List Token → Type 0 where
  a_name : {rest : List Token} {token : Token} {span : Span} → token.kind ≡ Name span → IsName text (token ∷ rest) (name_at text span) rest

abbrev no_span : Span
no_span = record { start = 0; end = 0 }

-- the tokens after an instruction's first word
abbrev AfterWord : List ℕ → Keyword → List Token → Operation → List Token → Type 0
AfterWord text keyword tokens operation rest = (word : Token) → word.kind ≡ KeywordToken keyword → IsOperation text (word ∷ tokens) operation rest

module _ (text : List ℕ) where
  op_same : {keyword : Keyword} {tokens rest : List Token} {operation other : Operation} → operation ≡ other → AfterWord text keyword tokens operation rest → AfterWord text keyword tokens other rest
  op_same {tokens = tokens} {rest = rest} same is word w = subst (λ operation. IsOperation text (word ∷ tokens) operation rest) same (is word w)

  jmp_reads : Reads true (jmp_at text) (AfterWord text Jmp)
  jmp_reads = reads_to _ (reads_then (λ c tokens. map_ok (λ target. (JmpOperation c target.0, target.1)) (operand_at text tokens)) condition_reads (λ c. reads_map (JmpOperation c) (value_reads text)))
      (λ tokens operation rest (c, middle, is, (target, value, same)). op_same same (λ word w. jmp w is value))

  some_polarity : Reads true (λ tokens. map_ok (λ operand. (Some operand.0, operand.1)) (operand_at text tokens)) (IsPolarity text)
  some_polarity = reads_to _ (reads_map Some (value_reads text)) (λ tokens x rest (value, is, same). subst (λ x. IsPolarity text tokens x rest) same (polarity is))

  abbrev polarity_step : (kind : TokenKind) (position : SourcePosition) → Step kind position (polarity_of text kind) (IsPolarity text)
  polarity_step (KeywordToken word) position = keep None (λ rest is. no_polarity) (λ tokens. refl)
  polarity_step kind position = pass some_polarity (λ tokens. refl)

  -- [value]
  polarity_reads : Reads true (polarity_at text) (IsPolarity text)
  polarity_reads = chosen (λ kind position. polarity_of text kind) _ polarity_step
      (λ k S goods. (can_after _ (k (Some (NumberTerm 0 ∷ []))) (token_of (Number 0)) (λ tokens. refl) refl (goods (Some (NumberTerm 0 ∷ []))).can, λ yes. refl))

  -- what follows the polarity of `wait`
  abbrev Waits : Option (List Term) → List Token → Operation → List Token → Type 0
  Waits p tokens operation rest = (word : Token) (before : List Token) → word.kind ≡ KeywordToken Wait → IsPolarity text before p tokens → IsOperation text (word ∷ before) operation rest

  waits_same : {p : Option (List Term)} {tokens rest : List Token} {operation other : Operation} → operation ≡ other → Waits p tokens operation rest → Waits p tokens other rest
  waits_same {rest = rest} same is word before w of_p = subst (λ operation. IsOperation text (word ∷ before) operation rest) same (is word before w of_p)

  module _ (p : Option (List Term)) where
    gpio_reads : (position : SourcePosition) → Reads true (λ tokens. map_ok (λ number. (WaitGpio p number.0, number.1)) (last_operand_at text tokens)) (After (KeywordToken Gpio) position (Waits p))
    gpio_reads position = reads_to _ (reads_map (WaitGpio p) (last_value_reads text)) (λ tokens operation rest (x, is, same) token k at. waits_same same (λ word before w of_p. wait_gpio w of_p k is))

    pin_reads : (position : SourcePosition) → Reads true (λ tokens. map_ok (λ number. (WaitPin p number.0, number.1)) (last_operand_at text tokens)) (After (KeywordToken Pin) position (Waits p))
    pin_reads position = reads_to _ (reads_map (WaitPin p) (last_value_reads text)) (λ tokens operation rest (x, is, same) token k at. waits_same same (λ word before w of_p. wait_pin w of_p k is))

    irq_number_reads : (position : SourcePosition)
        → Reads true (λ tokens. and_then (λ number. map_ok (λ relative. (WaitIrq p number.0 relative.0, relative.1)) (flag_at (is_rel (head_kind number.1)) number.1)) (last_operand_at text tokens)) (After (KeywordToken Irq) position (Waits p))
    irq_number_reads position = reads_to _ (reads_then (λ number tokens. map_ok (λ relative. (WaitIrq p number relative.0, relative.1)) (flag_at (is_rel (head_kind tokens)) tokens)) (last_value_reads text) (λ number. reads_map (WaitIrq p number) rel_reads))
        (λ tokens operation rest (x, middle, is, (relative, may, same)) token k at. waits_same same (λ word before w of_p. wait_irq w of_p k is may))

    abbrev wait_step : (kind : TokenKind) (position : SourcePosition) → Step kind position (wait_for text p kind) (Waits p)
    wait_step (KeywordToken Gpio) position = shift (gpio_reads position) refl (λ tokens. refl)
    wait_step (KeywordToken Pin) position = shift (pin_reads position) refl (λ tokens. refl)
    wait_step (KeywordToken Irq) position = shift (irq_number_reads position) refl (λ tokens. refl)
    wait_step kind position = misfit_here (λ tokens. refl)

    wait_for_reads : Reads true (λ tokens. wait_for text p (head_kind tokens) tokens) (Waits p)
    wait_for_reads = choose (λ kind position. wait_for text p kind) _ wait_step (token_of (KeywordToken Gpio)) refl (λ yes. refl)

  wait_reads : Reads true (wait_at text) (AfterWord text Wait)
  wait_reads = reads_to _ (reads_then (λ p tokens. wait_for text p (head_kind tokens) tokens) polarity_reads wait_for_reads) (λ tokens operation rest (p, middle, is, waits) word w. waits word tokens w is)

  -- a register, and a value
  module _ {D : Type 0} (table : TokenKind → Option D) (make : D → List Term → Operation) (keyword : Keyword)
      (rule : (word register : Token) (d : D) (count : List Term) (tokens rest : List Token) → word.kind ≡ KeywordToken keyword → table register.kind ≡ Some d → IsLastValue text tokens count rest → IsOperation text (word ∷ register ∷ tokens) (make d count) rest) where
    register_is : (tokens : List Token) (operation : Operation) (rest : List Token) → (d : D) × (middle : List Token) × IsNamed table tokens d middle × ((count : List Term) × IsLastValue text middle count rest × (make d count ≡ operation))
        → AfterWord text keyword tokens operation rest
    register_is tokens operation rest (d, middle, named fits, (count, value, same)) = op_same same (λ word w. rule word _ d count _ rest w fits value)

    register_reads : table LineEnd ≡ None → table FileEnd ≡ None → (d : D) → table (KeywordToken Pins) ≡ Some d
        → Reads true (λ tokens. and_then (λ d. map_ok (λ count. (make d.0 count.0, count.1)) (last_operand_at text d.1)) (named_at (table (head_kind tokens)) tokens)) (AfterWord text keyword)
    register_reads line file d fits = reads_to _
        (reads_then (λ d tokens. map_ok (λ count. (make d count.0, count.1)) (last_operand_at text tokens)) (named_reads table line file (KeywordToken Pins) d fits refl) (λ d. reads_map (make d) (last_value_reads text))) register_is

  in_reads : Reads true (in_at text) (AfterWord text In)
  in_reads = register_reads in_source_of InOperation In (λ word register d count tokens rest w fits value. in_ w fits value) refl refl InPins refl

  out_reads : Reads true (out_at text) (AfterWord text Out)
  out_reads = register_reads out_destination_of OutOperation Out (λ word register d count tokens rest w fits value. out w fits value) refl refl OutPins refl

  set_reads : Reads true (set_at text) (AfterWord text Set)
  set_reads = register_reads set_destination_of SetOperation Set (λ word register d count tokens rest w fits value. set w fits value) refl refl SetPins refl

  irq_reads : Reads true (irq_at text) (AfterWord text Irq)
  irq_reads = reads_to _ (reads_then (λ mode tokens. and_then (λ number. map_ok (λ relative. (IrqOperation mode.0 mode.1 number.0 relative.0, relative.1)) (flag_at (is_rel (head_kind number.1)) number.1)) (operand_at text tokens)) irq_mode_reads
      (λ mode. reads_then (λ number tokens. map_ok (λ relative. (IrqOperation mode.0 mode.1 number relative.0, relative.1)) (flag_at (is_rel (head_kind tokens)) tokens)) (value_reads text) (λ number. reads_map (IrqOperation mode.0 mode.1 number) rel_reads)))
      (λ tokens operation rest (mode, middle, is, (number, after, value, (relative, may, same))). op_same same (λ word w. irq w is value may))

  -- a word that may stand, and `block` or `noblock`
  blocks_reads : (test : TokenKind → Bool) (key keyword : Keyword) (make : Bool → Bool → Operation) → test (KeywordToken key) ≡ true → ((kind : TokenKind) → test kind ≡ true → kind ≡ KeywordToken key)
      → ((word : Token) (tokens middle rest : List Token) (flag block : Bool) → word.kind ≡ KeywordToken keyword → MayStand (KeywordToken key) tokens flag middle → IsBlock middle block rest → IsOperation text (word ∷ tokens) (make flag block) rest)
      → Reads true (λ tokens. and_then (λ flag. map_ok (λ block. (make flag.0 block.0, block.1)) (block_at flag.1)) (flag_at (test (head_kind tokens)) tokens)) (AfterWord text keyword)
  blocks_reads test key keyword make fits is_key rule =
      reads_to _ (reads_then (λ flag tokens. map_ok (λ block. (make flag block.0, block.1)) (block_at tokens)) (flag_reads test (KeywordToken key) fits refl is_key refl) (λ flag. reads_map (make flag) block_reads))
      (λ tokens operation rest (flag, middle, may, (blocks, is, same)). op_same same (λ word w. rule word tokens middle rest flag blocks w may is))

  push_reads : Reads true push_at (AfterWord text Push)
  push_reads = blocks_reads is_if_full IfFull Push PushOperation refl if_full_of (λ word tokens middle rest flag block w may is. push w may is)

  pull_reads : Reads true pull_at (AfterWord text Pull)
  pull_reads = blocks_reads is_if_empty IfEmpty Pull PullOperation refl if_empty_of (λ word tokens middle rest flag block w may is. pull w may is)

  mov_is : (tokens : List Token) (operation : Operation) (rest : List Token)
      → (destination : MovDestination) × (middle : List Token) × IsNamed mov_destination_of tokens destination middle × ((comma : Bool) × (after : List Token) × MayStand Comma middle comma after
      × ((op : MovOperation) × (last : List Token) × IsMovOperation after op last × ((source : _) × IsNamed mov_source_of last source rest × (MovOperation' destination op source ≡ operation)))) → AfterWord text Mov tokens operation rest
  mov_is tokens operation rest (destination, middle, named to_is, (comma, after, may, (op, last, is, (source, named from_is, same)))) = op_same same (λ word w. mov w to_is may is from_is)

  mov_reads : Reads true mov_at (AfterWord text Mov)
  mov_reads = reads_to _ (reads_then (λ destination tokens. and_then (λ operation. map_ok (λ source. (MovOperation' destination operation.0 source.0, source.1)) (named_at (mov_source_of (head_kind operation.1)) operation.1)) (mov_operation_at (past_comma tokens)))
      (named_reads mov_destination_of refl refl (KeywordToken Pins) ToPins refl refl)
      (λ destination. reads_then (λ comma tokens. and_then (λ operation. map_ok (λ source. (MovOperation' destination operation.0 source.0, source.1)) (named_at (mov_source_of (head_kind operation.1)) operation.1)) (mov_operation_at tokens)) comma_reads
      (λ comma. reads_then (λ operation tokens. map_ok (λ source. (MovOperation' destination operation source.0, source.1)) (named_at (mov_source_of (head_kind tokens)) tokens)) mov_operation_reads
      (λ operation. reads_map (MovOperation' destination operation) (named_reads mov_source_of refl refl (KeywordToken Pins) FromPins refl refl))))) mov_is

  nop_reads : Reads true (λ tokens. Ok (MovOperation' MovToY Plain MovFromY, tokens)) (AfterWord text Nop)
  nop_reads = record { good = λ k S goods. good_to _ (goods (MovOperation' MovToY Plain MovFromY)) (λ tokens answer rest s. (MovOperation' MovToY Plain MovFromY, tokens, (λ word w. nop w), s)) }

  -- modifiers
  abbrev some_side : List Token → Outcome (Option (List Term))
  some_side tokens = map_ok (λ value. (Some value.0, value.1)) (operand_at text tokens)

  some_side_reads : (position : SourcePosition) → Reads true some_side (After (KeywordToken Side) position (IsSide text))
  some_side_reads position = reads_to _ (reads_map Some (value_reads text)) (λ tokens x rest (value, is, same) token k at. subst (λ x. IsSide text (token ∷ tokens) x rest) same (side k is))

  abbrev side_of : TokenKind → SourcePosition → List Token → Outcome (Option (List Term))
  side_of kind position tokens = if is_side kind then some_side (after_head tokens) else Ok (None, tokens)

  abbrev side_step : (kind : TokenKind) (position : SourcePosition) → Step kind position (side_of kind position) (IsSide text)
  side_step (KeywordToken Side) position = shift (some_side_reads position) refl (λ tokens. refl)
  side_step kind position = keep None (λ rest is. no_side) (λ tokens. refl)

  side_reads : Reads true (side_at text) (IsSide text)
  side_reads = choose side_of _ side_step (token_of (KeywordToken Side)) refl (λ yes. refl)

  abbrev delay_inner : List Token → Outcome (Option (List Term))
  delay_inner tokens = and_then (λ delay. map_ok (λ close. (Some delay.0, close.1)) (expected (is_close_bracket (head_kind delay.1)) delay.1)) (expression_at text tokens)

  delay_is : (position : SourcePosition) (tokens : List Token) (y : Option (List Term)) (rest : List Token)
      → (x : List Term) × (middle : List Token) × IsTerms text tokens x middle × ((u : Unit {0}) × IsOne is_close_bracket middle u rest × (Some x ≡ y)) → After OpenBracket position (IsDelay text) tokens y rest
  delay_is position tokens y rest (x, middle, sum_terms sum, (u, one {token = close} is, same)) token k at = subst (λ y. IsDelay text (token ∷ tokens) y rest) same (delay k sum (bracket_of close.kind is))

  delay_inner_reads : (position : SourcePosition) → Reads true delay_inner (After OpenBracket position (IsDelay text))
  delay_inner_reads position = reads_to _ (reads_then (λ x tokens. map_ok (λ close. (Some x, close.1)) (expected (is_close_bracket (head_kind tokens)) tokens)) (expression_reads text)
      (λ x. reads_map (λ u. Some x) (one_reads is_close_bracket refl refl CloseBracket refl (λ yes. refl)))) (delay_is position)

  abbrev delay_of : TokenKind → SourcePosition → List Token → Outcome (Option (List Term))
  delay_of kind position tokens = if is_open_bracket kind then delay_inner (after_head tokens) else Ok (None, tokens)

  abbrev delay_step : (kind : TokenKind) (position : SourcePosition) → Step kind position (delay_of kind position) (IsDelay text)
  delay_step OpenBracket position = shift (delay_inner_reads position) refl (λ tokens. refl)
  delay_step kind position = keep None (λ rest is. no_delay) (λ tokens. refl)

  delay_reads : Reads true (delay_at text) (IsDelay text)
  delay_reads = choose delay_of _ delay_step (token_of OpenBracket) refl (λ yes. refl)

  abbrev Both : Type 0
  Both = Option (List Term) × Option (List Term)

  abbrev AreModifiers : List Token → Both → List Token → Type 0
  AreModifiers tokens both rest = IsModifiers text tokens both.0 both.1 rest

  bracket_first : (position : SourcePosition) → Reads true (λ tokens. and_then (λ delay. map_ok (λ side. ((side.0, delay.0), side.1)) (side_at text delay.1)) (delay_inner tokens)) (After OpenBracket position AreModifiers)
  bracket_first position = reads_to _ (reads_then (λ d tokens. map_ok (λ side. ((side.0, d), side.1)) (side_at text tokens)) (delay_inner_reads position) (λ d. reads_map (λ s. (s, d)) side_reads))
      (λ tokens both rest (d, middle, is, (s, is_side, same)) token k at. subst (λ (both : Both). AreModifiers (token ∷ tokens) both rest) same (delay_first (is token k at) is_side))

  side_then_delay : Reads true (λ tokens. and_then (λ side. map_ok (λ delay. ((side.0, delay.0), delay.1)) (delay_at text side.1)) (side_at text tokens)) AreModifiers
  side_then_delay = reads_to _ (reads_then (λ s tokens. map_ok (λ delay. ((s, delay.0), delay.1)) (delay_at text tokens)) side_reads (λ s. reads_map (λ d. (s, d)) delay_reads))
      (λ tokens both rest (s, middle, is, (d, is_delay, same)). subst (λ (both : Both). AreModifiers tokens both rest) same (side_first is is_delay))

  abbrev modifiers_of : TokenKind → SourcePosition → List Token → Outcome Both
  modifiers_of kind position tokens =
      if is_open_bracket kind
      then and_then (λ delay. map_ok (λ side. ((side.0, delay.0), side.1)) (side_at text delay.1)) (delay_of kind position tokens)
      else and_then (λ side. map_ok (λ delay. ((side.0, delay.0), delay.1)) (delay_at text side.1)) (side_at text tokens)

  abbrev modifiers_step : (kind : TokenKind) (position : SourcePosition) → Step kind position (modifiers_of kind position) AreModifiers
  modifiers_step OpenBracket position = shift (bracket_first position) refl (λ tokens. refl)
  modifiers_step kind position = pass side_then_delay (λ tokens. refl)

  modifiers_reads : Reads true (modifiers_at text) AreModifiers
  modifiers_reads = choose modifiers_of _ modifiers_step (token_of OpenBracket) refl (λ yes. refl)

  -- directives
  abbrev name_step : (kind : TokenKind) (position : SourcePosition) → Step kind position (name_of_kind text kind) (IsName text)
  name_step (Name span) position = take (name_at text span) (λ token rest is. a_name is) refl (λ tokens. refl)
  name_step kind position = misfit_here (λ tokens. refl)

  name_reads : Reads true (name_token_at text) (IsName text)
  name_reads = choose (λ kind position. name_of_kind text kind) _ name_step (token_of (Name no_span)) refl (λ yes. refl)

  define_is : (position : SourcePosition) (tokens : List Token) (x : Option Statement) (rest : List Token)
      → (y : Statement) × ((may : Bool) × (middle : List Token) × MayStand (KeywordToken Public) tokens may middle × ((name : List ℕ) × (after : List Token) × IsName text middle name after
      × ((value : List Term) × IsTerms text after value rest × (DefineStatement name value ≡ y)))) × (Some y ≡ x) → After (DirectiveToken Define) position (IsSetting text) tokens x rest
  define_is position tokens x rest (y, (may, middle, is_there, (name, after, a_name n, (value, sum_terms sum, inner))), same) token k at =
      subst (λ x. IsSetting text (token ∷ tokens) x rest) (ap Some inner ∙ same) (define k is_there n sum)

  pub define_reads : (position : SourcePosition) → Reads true (λ tokens. map_ok (λ define. (Some define.0, define.1)) (define_at text tokens)) (After (DirectiveToken Define) position (IsSetting text))
  define_reads position = reads_to _ (reads_map Some
      (reads_then (λ may tokens. and_then (λ name. map_ok (λ value. (DefineStatement name.0 value.0, value.1)) (expression_at text name.1)) (name_token_at text tokens)) public_reads
      (λ may. reads_then (λ name tokens. map_ok (λ value. (DefineStatement name value.0, value.1)) (expression_at text tokens)) name_reads (λ name. reads_map (DefineStatement name) (expression_reads text))))) (define_is position)

  version_is : (position : SourcePosition) (tokens : List Token) (x : Option Statement) (rest : List Token) → (u : Unit {0}) × IsOne is_zero tokens u rest × (None ≡ x) → After (DirectiveToken PioVersion) position (IsSetting text) tokens x rest
  version_is position tokens x rest (u, one {token = zero} is, same) token k at = subst (λ x. IsSetting text (token ∷ tokens) x rest) same (pio_version k (zero_of zero.kind is))

  pub version_reads : (position : SourcePosition) → Reads true version_at (After (DirectiveToken PioVersion) position (IsSetting text))
  version_reads position = reads_to _ (reads_map (λ u. None) (one_reads is_zero refl refl (Number 0) refl (λ yes. refl))) (version_is position)

  program_is : (position : SourcePosition) (tokens : List Token) (x : Option Statement) (rest : List Token) → (name : List ℕ) × IsName text tokens name rest × (Some (ProgramStatement name) ≡ x) → After (DirectiveToken Program) position (IsProgram text) tokens x rest
  program_is position tokens x rest (name, a_name n, same) token k at = subst (λ x. IsProgram text (token ∷ tokens) x rest) same (program_line k n)

  pub program_reads : (position : SourcePosition) → Reads true (λ tokens. map_ok (λ name. (Some (ProgramStatement name.0), name.1)) (name_token_at text tokens)) (After (DirectiveToken Program) position (IsProgram text))
  program_reads position = reads_to _ (reads_map (λ name. Some (ProgramStatement name)) name_reads) (program_is position)

  -- a directive with an expression
  module _ (directive : Directive) (make : List Term → Statement)
      (rule : (word : Token) (tokens rest : List Token) (value : List Term) → word.kind ≡ DirectiveToken directive → IsTerms text tokens value rest → IsStatement text (word ∷ tokens) (Some (make value)) rest) where
    valued_reads : (position : SourcePosition) → Reads true (λ tokens. map_ok (λ value. (Some (make value.0), value.1)) (expression_at text tokens)) (After (DirectiveToken directive) position (IsStatement text))
    valued_reads position = reads_to _ (reads_map (λ value. Some (make value)) (expression_reads text)) (λ tokens x rest (value, is, same) token k at. subst (λ x. IsStatement text (token ∷ tokens) x rest) same (rule token tokens rest value k is))

  origin_is : (word : Token) (tokens rest : List Token) (value : List Term) → word.kind ≡ DirectiveToken Origin → IsTerms text tokens value rest → IsStatement text (word ∷ tokens) (Some (OriginStatement value)) rest
  origin_is word tokens rest value k (sum_terms sum) = origin k sum

  word_is : (word : Token) (tokens rest : List Token) (value : List Term) → word.kind ≡ DirectiveToken Word → IsTerms text tokens value rest → IsStatement text (word ∷ tokens) (Some (WordStatement value)) rest
  word_is token tokens rest value k (sum_terms sum) = word_statement k sum

  side_set_is : (position : SourcePosition) (tokens : List Token) (x : Option Statement) (rest : List Token)
      → (y : Statement) × ((count : List Term) × (middle : List Token) × IsTerms text tokens count middle × ((opt : Bool) × (after : List Token) × MayStand (KeywordToken Opt) middle opt after
      × ((pindirs : Bool) × MayStand (KeywordToken Pindirs) after pindirs rest × (SideSetStatement count opt pindirs ≡ y)))) × (Some y ≡ x) → After (DirectiveToken SideSet) position (IsStatement text) tokens x rest
  side_set_is position tokens x rest (y, (count, middle, sum_terms sum, (opt, after, may_opt, (pindirs, may_pindirs, inner))), same) token k at =
      subst (λ x. IsStatement text (token ∷ tokens) x rest) (ap Some inner ∙ same) (side_set k sum may_opt may_pindirs)

  side_set_reads : (position : SourcePosition) → Reads true (λ tokens. map_ok (λ side. (Some side.0, side.1)) (side_set_at text tokens)) (After (DirectiveToken SideSet) position (IsStatement text))
  side_set_reads position = reads_to _ (reads_map Some
      (reads_then (λ count tokens. and_then (λ opt. map_ok (λ pindirs. (SideSetStatement count opt.0 pindirs.0, pindirs.1)) (flag_at (is_pindirs (head_kind opt.1)) opt.1)) (flag_at (is_opt (head_kind tokens)) tokens)) (expression_reads text)
      (λ count. reads_then (λ opt tokens. map_ok (λ pindirs. (SideSetStatement count opt pindirs.0, pindirs.1)) (flag_at (is_pindirs (head_kind tokens)) tokens)) (flag_reads is_opt (KeywordToken Opt) refl refl opt_of refl)
      (λ opt. reads_map (SideSetStatement count opt) (flag_reads is_pindirs (KeywordToken Pindirs) refl refl pindirs_of refl))))) (side_set_is position)

  -- an instruction after its first word, with its modifiers
  abbrev made : Operation → Option (List Term) × Option (List Term) → Instruction
  made operation both = record { operation = operation; side = both.0; delay = both.1 }

  instruction_reads : {p : List Token → Outcome Operation} (keyword : Keyword) (position : SourcePosition) → Reads true p (AfterWord text keyword)
      → Reads true (λ tokens. map_ok (λ instruction. (Some (InstructionStatement instruction.0), instruction.1)) (and_then (λ operation. modified_at text operation.0 operation.1) (p tokens))) (After (KeywordToken keyword) position (IsStatement text))
  instruction_reads keyword position read =
      reads_to _ (reads_map (λ i. Some (InstructionStatement i)) (reads_then (λ operation tokens. modified_at text operation tokens) read (λ operation. reads_map (made operation) modifiers_reads)))
      (λ tokens x rest (i, (operation, middle, is, (both, modifiers, inner)), same) token k at. subst (λ x. IsStatement text (token ∷ tokens) x rest) (ap (λ i. Some (InstructionStatement i)) inner ∙ same) (instruction (is token k) modifiers))

  abbrev statement_step : (kind : TokenKind) (position : SourcePosition) → Step kind position (statement_of_kind text kind) (IsStatement text)
  statement_step LineEnd position = keep None (λ rest is. nothing) (λ tokens. refl)
  statement_step FileEnd position = keep None (λ rest is. nothing) (λ tokens. refl)
  statement_step (DirectiveToken Program) position = shift (reads_to _ (program_reads position) (λ tokens x rest is token k at. program (is token k at))) refl (λ tokens. refl)
  statement_step (DirectiveToken Define) position = shift (reads_to _ (define_reads position) (λ tokens x rest is token k at. setting (is token k at))) refl (λ tokens. refl)
  statement_step (DirectiveToken Origin) position = shift (valued_reads Origin OriginStatement origin_is position) refl (λ tokens. refl)
  statement_step (DirectiveToken SideSet) position = shift (side_set_reads position) refl (λ tokens. refl)
  statement_step (DirectiveToken WrapTarget) position = take (Some WrapTargetStatement) (λ token rest is. wrap_target is) refl (λ tokens. refl)
  statement_step (DirectiveToken Wrap) position = take (Some WrapStatement) (λ token rest is. wrap is) refl (λ tokens. refl)
  statement_step (DirectiveToken Word) position = shift (valued_reads Word WordStatement word_is position) refl (λ tokens. refl)
  statement_step (DirectiveToken LangOpt) position = take None (λ token rest is. setting (lang_opt is)) refl (λ tokens. refl)
  statement_step (DirectiveToken PioVersion) position = shift (reads_to _ (version_reads position) (λ tokens x rest is token k at. setting (is token k at))) refl (λ tokens. refl)
  statement_step (KeywordToken Jmp) position = shift (instruction_reads Jmp position jmp_reads) refl (λ tokens. refl)
  statement_step (KeywordToken Wait) position = shift (instruction_reads Wait position wait_reads) refl (λ tokens. refl)
  statement_step (KeywordToken In) position = shift (instruction_reads In position in_reads) refl (λ tokens. refl)
  statement_step (KeywordToken Out) position = shift (instruction_reads Out position out_reads) refl (λ tokens. refl)
  statement_step (KeywordToken Push) position = shift (instruction_reads Push position push_reads) refl (λ tokens. refl)
  statement_step (KeywordToken Pull) position = shift (instruction_reads Pull position pull_reads) refl (λ tokens. refl)
  statement_step (KeywordToken Mov) position = shift (instruction_reads Mov position mov_reads) refl (λ tokens. refl)
  statement_step (KeywordToken Irq) position = shift (instruction_reads Irq position irq_reads) refl (λ tokens. refl)
  statement_step (KeywordToken Set) position = shift (instruction_reads Set position set_reads) refl (λ tokens. refl)
  statement_step (KeywordToken Nop) position = shift (instruction_reads Nop position nop_reads) refl (λ tokens. refl)
  statement_step kind position = misfit_here (λ tokens. refl)

  pub statement_reads : Reads true (statement_at text) (IsStatement text)
  statement_reads = choose (λ kind position. statement_of_kind text kind) _ statement_step (token_of (DirectiveToken Wrap)) refl (λ yes. refl)

  -- [`public`] name `:`
  abbrev labelled : List Token → Outcome (Option (List ℕ))
  labelled tokens = and_then (λ name. map_ok (λ colon. (Some name.0, colon.1)) (expected (is_colon (head_kind name.1)) name.1)) (name_token_at text (past_public tokens))

  colon_reads : (name : List ℕ) → Reads true (λ tokens. map_ok (λ colon. (Some name, colon.1)) (expected (is_colon (head_kind tokens)) tokens)) (λ tokens x rest. (u : Unit {0}) × IsOne is_colon tokens u rest × (Some name ≡ x))
  colon_reads name = reads_map (λ u. Some name) (one_reads is_colon refl refl Colon refl (λ yes. refl))

  labelled_is : (tokens : List Token) (x : Option (List ℕ)) (rest : List Token)
      → (may : Bool) × (middle : List Token) × MayStand (KeywordToken Public) tokens may middle × ((name : List ℕ) × (after : List Token) × IsName text middle name after
      × ((u : Unit {0}) × IsOne is_colon after u rest × (Some name ≡ x))) → IsLabel text tokens x rest
  labelled_is tokens x rest (may, middle, is_there, (name, after, a_name n, (u, one {token = colon} is, same))) = subst (λ x. IsLabel text tokens x rest) same (label is_there n (colon_of colon.kind is))

  labelled_reads : Reads true labelled (IsLabel text)
  labelled_reads = reads_to _ (reads_then (λ may tokens. and_then (λ name. map_ok (λ colon. (Some name.0, colon.1)) (expected (is_colon (head_kind name.1)) name.1)) (name_token_at text tokens)) public_reads
      (λ may. reads_then (λ name tokens. map_ok (λ colon. (Some name, colon.1)) (expected (is_colon (head_kind tokens)) tokens)) name_reads colon_reads)) labelled_is

  abbrev label_of : TokenKind → SourcePosition → List Token → Outcome (Option (List ℕ))
  label_of kind position tokens = if begins_label kind then labelled tokens else Ok (None, tokens)

  abbrev label_step : (kind : TokenKind) (position : SourcePosition) → Step kind position (label_of kind position) (IsLabel text)
  label_step (Name span) position = pass labelled_reads (λ tokens. refl)
  label_step (KeywordToken Public) position = pass labelled_reads (λ tokens. refl)
  label_step kind position = keep None (λ rest is. no_label) (λ tokens. refl)

  pub label_reads : Reads true (label_at text) (IsLabel text)
  label_reads = chosen label_of _ label_step
      (λ k S goods. (can_after _ (λ tokens. bind k (map_ok (λ colon. (Some (name_at text no_span), colon.1)) (expected (is_colon (head_kind tokens)) tokens))) (token_of (Name no_span)) (λ tokens. refl) refl ((colon_reads (name_at text no_span)).good k S goods).can, λ yes. refl))

-- the end of a line, which is not yet read
abbrev pub ended : Bool → Option (List ℕ) → Option Statement → Rest
ended started mark statement tokens = if is_end_after (started || is_program statement) (head_kind tokens) then Ok ((mark, statement), tokens) else misfit tokens

pub data IsEnded (started : Bool) (mark : Option (List ℕ)) (statement : Option Statement) : List Token → Answer → List Token → Type 0 where
  end_here : {rest : List Token} → is_end_after (started || is_program statement) (head_kind rest) ≡ true → IsEnded started mark statement rest (mark, statement) rest

module _ (started : Bool) (mark : Option (List ℕ)) (statement : Option Statement) where
  ended_by : (b : Bool) (tokens rest : List Token) (answer : Answer) → is_end_after (started || is_program statement) (head_kind tokens) ≡ b → is_line tokens ≡ true
      → Path (Outcome Answer) (if b then Ok ((mark, statement), tokens) else misfit tokens) (Ok (answer, rest)) → IsEnded started mark statement tokens answer rest × (is_line rest ≡ true)
  ended_by false tokens rest answer h line q = absurd (refused q)
  ended_by true tokens rest answer h line q =
      (subst (λ (x : Answer × List Token). IsEnded started mark statement tokens x.0 x.1) (ok_is q) (end_here h), subst (λ xs. is_line xs ≡ true) (same_left q) line)

  abbrev end_can : Can (ended started mark statement)
  end_can = record { first = token_of LineEnd; further = []; answer = (mark, statement); end = token_of LineEnd; line = refl; goes = refl }

  ended_refused : (b : Bool) (token : Token) (tokens : List Token) (position : SourcePosition) → is_end_after (started || is_program statement) token.kind ≡ b
      → Path (Outcome Answer) (if b then Ok ((mark, statement), token ∷ tokens) else misfit (token ∷ tokens)) (Err position) → Refused (ended started mark statement) position (token ∷ tokens)
  ended_refused true token tokens position h q = absurd (refused (sym q))
  ended_refused false token tokens position h q = let at : token.position ≡ position = err_is q in inl (at, end_can, λ further. rw h (ap Err at))

  pub ended_good : Good true (ended started mark statement) (IsEnded started mark statement)
  ended_good = record {
    reads = λ tokens rest answer line q. ended_by (is_end_after (started || is_program statement) (head_kind tokens)) tokens rest answer refl line q;
    refuses = refuses;
    can = end_can;
    ends = λ yes. refl;
  }
    where
      refuses : (tokens : List Token) (position : SourcePosition) → is_line tokens ≡ true → ended started mark statement tokens ≡ Err position → Refused (ended started mark statement) position tokens
      refuses [] position line q = absurd (false≢true line)
      refuses (token ∷ tokens) position line q = ended_refused (is_end_after (started || is_program statement) token.kind) token tokens position refl q
