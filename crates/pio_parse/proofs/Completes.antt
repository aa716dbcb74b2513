-- Each part of a line of the grammar is read as it stands there, where the line goes on as the grammar has it.
use Rattle.std.proofs.Common.{◌≡◌, Bool, true, false, if◌then◌else◌, ℕ, List, ◌∷◌, Option, Some, None, Ok, refl, ap, ◌∙◌}
use Rattle.pio_parse.proofs.Shared.{false≢true, JmpCondition, Always, MovOperation, Span, Token, Keyword, Pindirs, Side, Block, NoBlock, Public, TokenKind, Name, Number, KeywordToken, Comma, OpenBracket, OpenParenthesis, LineEnd, FileEnd, Term, Operation, Statement, InstructionStatement, map_ok, Outcome, after_head, head_kind, expression_at, operand_at, Expr, IsSum, postfix, mov_source_of, block_at, block_of, delay_at, irq_mode_at, irq_mode_of, is_comma, is_if_empty, is_if_full, is_open_bracket, is_rel, is_side, jmp_condition_at, jmp_condition_of, last_operand_at, modified_at, modifiers_at, mov_operation_at, past_comma, polarity_at, polarity_of, side_at, begins_label, is_opt, is_pindirs, label_at, statement_at, statement_of_kind, IsBlock, IsCondition, IsDelay, IsIrqMode, IsJmpCondition, IsLabel, IsLastValue, IsModifiers, IsMovOperation, IsOperation, IsPolarity, IsProgram, IsSetting, IsSide, IsStatement, IsValue, MayStand, stands, missing, number_value as number, name_value as name, parentheses_value as parentheses, last_value, x_zero, x_decrement, y_zero, y_decrement, x_not_y, pin, osr_not_empty, always, condition, no_polarity, polarity, block, noblock, no_word, plain, invert, tilde_source as tilde, reverse_source as reverse, no_mode, set_mode, nowait, wait_mode, clear_mode, jmp, wait_gpio, wait_pin, wait_irq, in_, out, push, pull, mov, irq, set, nop, no_side, side, no_delay, delay, side_first, delay_first, define, lang_opt, pio_version, program_line, nothing_said as nothing, setting, program, origin, side_set, wrap_target, wrap, word_statement as word, instruction, no_label, label}
use Rattle.pio_words.specs.declared.op.MovSource.{MovSource}
use Rattle.pio_parse.proofs.Tests.{refused}
use Rattle.pio_parse.proofs.Finds.{is_none_left, reads}
use Rattle.pio_parse.proofs.Extents.{ends_sum}
use Rattle.pio_parse.proofs.Expressions.{no_operator}

-- the end of a line comes next
pub data Ending : List Token → Type 0 where
  line_next : {tokens : List Token} {token : Token} → token.kind ≡ LineEnd → Ending (token ∷ tokens)
  file_next : {tokens : List Token} {token : Token} → token.kind ≡ FileEnd → Ending (token ∷ tokens)

-- an operation goes no further than here: `side`, `[` or the end comes next
data Closing : List Token → Type 0 where
  side_next : {tokens : List Token} {token : Token} → token.kind ≡ KeywordToken Side → Closing (token ∷ tokens)
  bracket_next : {tokens : List Token} {token : Token} → token.kind ≡ OpenBracket → Closing (token ∷ tokens)
  end_next : {tokens : List Token} → Ending tokens → Closing tokens

-- no expression goes on here
data Over : List Token → Type 0 where
  over : {tokens : List Token} {token : Token} → ends_sum token.kind ≡ true → Over (token ∷ tokens)

module _ {X : Type 0} (f : TokenKind → X) (x : X) where
  at_end : f LineEnd ≡ x → f FileEnd ≡ x → {tokens : List Token} → Ending tokens → f (head_kind tokens) ≡ x
  at_end line file (line_next is) = ap f is ∙ line
  at_end line file (file_next is) = ap f is ∙ file

  at_close : f (KeywordToken Side) ≡ x → f OpenBracket ≡ x → f LineEnd ≡ x → f FileEnd ≡ x → {tokens : List Token} → Closing tokens → f (head_kind tokens) ≡ x
  at_close s bracket line file (side_next is) = ap f is ∙ s
  at_close s bracket line file (bracket_next is) = ap f is ∙ bracket
  at_close s bracket line file (end_next e) = at_end line file e

  at_value : ((n : ℕ) → f (Number n) ≡ x) → ((span : Span) → f (Name span) ≡ x) → f OpenParenthesis ≡ x → {text : List ℕ} {tokens rest : List Token} {value : List Term} → IsValue text tokens value rest → f (head_kind tokens) ≡ x
  at_value num nam par (number {n = n} is) = ap f is ∙ num n
  at_value num nam par (name {span = span} is) = ap f is ∙ nam span
  at_value num nam par (parentheses is sum close) = ap f is ∙ par

over_end : {tokens : List Token} → Ending tokens → Over tokens
over_end (line_next is) = over (ap ends_sum is)
over_end (file_next is) = over (ap ends_sum is)

over_may : {kind : TokenKind} {tokens rest : List Token} {b : Bool} → MayStand kind tokens b rest → ends_sum kind ≡ true → Over rest → Over tokens
over_may (stands is) h o = over (ap ends_sum is ∙ h)
over_may missing h o = o

-- a token that may stand, and what is left after it
flag_value : (test : TokenKind → Bool) {kind : TokenKind} {tokens rest : List Token} {b : Bool} → test kind ≡ true → MayStand kind tokens b rest → test (head_kind rest) ≡ false → test (head_kind tokens) ≡ b
flag_value test fits (stands is) h = ap test is ∙ fits
flag_value test fits missing h = h

flag_rest : {kind : TokenKind} {tokens rest : List Token} {b : Bool} → MayStand kind tokens b rest → (if b then after_head tokens else tokens) ≡ rest
flag_rest (stands is) = refl
flag_rest missing = refl

past_is : {tokens rest : List Token} {b : Bool} → MayStand Comma tokens b rest → is_comma (head_kind rest) ≡ false → past_comma tokens ≡ rest
past_is (stands is) h = rw is refl
past_is missing h = rw h refl

condition_is : {tokens middle rest : List Token} {c : JmpCondition} {comma : Bool} → IsCondition tokens c middle → MayStand Comma middle comma rest → is_comma (head_kind rest) ≡ false → jmp_condition_at tokens ≡ Ok (c, rest)
condition_is (x_zero bang x) may h = rw (bang, x, past_is may h) refl
condition_is (x_decrement x (first, second, together)) may h = rw (x, first, together, second, past_is may h) refl
condition_is (y_zero bang y) may h = rw (bang, y, past_is may h) refl
condition_is (y_decrement y (first, second, together)) may h = rw (y, first, together, second, past_is may h) refl
condition_is (x_not_y x sign y) may h = rw (x, sign, y, past_is may h) refl
condition_is (pin k) may h = rw (k, past_is may h) refl
condition_is (osr_not_empty bang osre) may h = rw (bang, osre, past_is may h) refl

block_is : {tokens rest : List Token} {b : Bool} → IsBlock tokens b rest → Closing rest → block_at tokens ≡ Ok (b, rest)
block_is (block is) close = rw is refl
block_is (noblock is) close = rw is refl
block_is {rest = rest} no_word close = at_close (λ kind. block_of kind rest) (Ok (true, rest)) refl refl refl refl close

at_block : (test : TokenKind → Bool) → test (KeywordToken Block) ≡ false → test (KeywordToken NoBlock) ≡ false → {tokens rest : List Token} {b : Bool} → test (head_kind rest) ≡ false → IsBlock tokens b rest → test (head_kind tokens) ≡ false
at_block test b n h (block is) = ap test is ∙ b
at_block test b n h (noblock is) = ap test is ∙ n
at_block test b n h no_word = h

source_word : (kind : TokenKind) (source : MovSource) → mov_source_of kind ≡ Some source → (key : Keyword) × (kind ≡ KeywordToken key)
source_word (KeywordToken key) source q = (key, refl)
source_word kind source q = absurd cc

mov_operation_is : {tokens rest : List Token} {from : Token} {operation : MovOperation} {source : MovSource} → IsMovOperation tokens operation (from ∷ rest) → mov_source_of from.kind ≡ Some source
    → mov_operation_at tokens ≡ Ok (operation, from ∷ rest)
mov_operation_is {from = from} {source = source} plain q = let is = source_word from.kind source q in rw is.1 refl
mov_operation_is (invert is) q = rw is refl
mov_operation_is (tilde is) q = rw is refl
mov_operation_is (reverse is) q = rw is refl

no_comma_mov : {tokens rest : List Token} {from : Token} {operation : MovOperation} {source : MovSource} → IsMovOperation tokens operation (from ∷ rest) → mov_source_of from.kind ≡ Some source → is_comma (head_kind tokens) ≡ false
no_comma_mov {from = from} {source = source} plain q = let is = source_word from.kind source q in ap is_comma is.1
no_comma_mov (invert is) q = ap is_comma is
no_comma_mov (tilde is) q = ap is_comma is
no_comma_mov (reverse is) q = ap is_comma is

no_rel : {tokens : List Token} → Closing tokens → is_rel (head_kind tokens) ≡ false
no_rel close = at_close is_rel false refl refl refl refl close

no_bracket : {tokens : List Token} → Ending tokens → is_open_bracket (head_kind tokens) ≡ false
no_bracket e = at_end is_open_bracket false refl refl e

no_side_word : {tokens : List Token} → Ending tokens → is_side (head_kind tokens) ≡ false
no_side_word e = at_end is_side false refl refl e

no_opt : {tokens rest : List Token} {b : Bool} → MayStand (KeywordToken Pindirs) tokens b rest → Ending rest → is_opt (head_kind tokens) ≡ false
no_opt (stands is) e = ap is_opt is
no_opt missing e = at_end is_opt false refl refl e

-- an instruction after its operation
abbrev onwards : List ℕ → Operation → List Token → Outcome (Option Statement)
onwards text operation tokens = map_ok (λ instruction. (Some (InstructionStatement instruction.0), instruction.1)) (modified_at text operation tokens)

-- what is read as a statement begins with no label
pub unlabelled : (text : List ℕ) (kind : TokenKind) (tokens : List Token) (x : Option Statement × List Token) → statement_of_kind text kind tokens ≡ Ok x → begins_label kind ≡ false
unlabelled text (Name span) tokens x q = absurd (refused q)
unlabelled text (KeywordToken Public) tokens x q = absurd (refused q)
unlabelled text kind tokens x q = refl

module _ {text : List ℕ} where
  expression_is : {tokens rest : List Token} {tree : Expr} → IsSum text tokens tree rest → Over rest → expression_at text tokens ≡ Ok (postfix tree, rest)
  expression_is {tokens = tokens} {tree = tree} sum (over {tokens = further} {token = token} h) =
      reads text tokens tree (token ∷ further) (sum, no_operator token.kind h, λ q. false≢true (ap is_none_left q))

  pub value_is : {tokens rest : List Token} {value : List Term} → IsValue text tokens value rest → operand_at text tokens ≡ Ok (value, rest)
  value_is (number is) = rw is refl
  value_is (name is) = rw is refl
  value_is (parentheses is sum close) = rw (is, expression_is sum (over (ap ends_sum close)), close) refl

  no_comma : {tokens rest : List Token} {value : List Term} → IsValue text tokens value rest → is_comma (head_kind tokens) ≡ false
  no_comma v = at_value is_comma false (λ n. refl) (λ span. refl) refl v

  last_is : {tokens rest : List Token} {value : List Term} → IsLastValue text tokens value rest → last_operand_at text tokens ≡ Ok (value, rest)
  last_is (last_value may v) = rw (past_is may (no_comma v)) (value_is v)

  jmp_condition_is : {tokens middle rest : List Token} {c : JmpCondition} {value : List Term} → IsJmpCondition tokens c middle → IsValue text middle value rest → jmp_condition_at tokens ≡ Ok (c, middle)
  jmp_condition_is {middle = middle} always v = at_value (λ kind. jmp_condition_of kind middle) (Ok (Always, middle)) (λ n. refl) (λ span. refl) refl v
  jmp_condition_is (condition is may) v = condition_is is may (no_comma v)

  polarity_is : {tokens middle : List Token} {source : Token} {p : Option (List Term)} (key : Keyword) → IsPolarity text tokens p (source ∷ middle) → source.kind ≡ KeywordToken key → polarity_at text tokens ≡ Ok (p, source ∷ middle)
  polarity_is key no_polarity k = rw k refl
  polarity_is {tokens = tokens} key (polarity v) k =
      at_value (λ kind. polarity_of text kind tokens) (map_ok (λ operand. (Some operand.0, operand.1)) (operand_at text tokens)) (λ n. refl) (λ span. refl) refl v ∙ rw (value_is v) refl

  irq_mode_is : {tokens rest after : List Token} {clear wait : Bool} {value : List Term} → IsIrqMode tokens clear wait rest → IsValue text rest value after → irq_mode_at tokens ≡ Ok ((clear, wait), rest)
  irq_mode_is {rest = rest} no_mode v = at_value (λ kind. irq_mode_of kind rest) (Ok ((false, false), rest)) (λ n. refl) (λ span. refl) refl v
  irq_mode_is (set_mode is) v = rw is refl
  irq_mode_is (nowait is) v = rw is refl
  irq_mode_is (wait_mode is) v = rw is refl
  irq_mode_is (clear_mode is) v = rw is refl

  operation_is : {tokens rest : List Token} {operation : Operation} → IsOperation text tokens operation rest → Closing rest → statement_at text tokens ≡ onwards text operation rest
  operation_is (jmp w c v) close = rw (w, jmp_condition_is c v, value_is v) refl
  operation_is (wait_gpio w p k v) close = rw (w, polarity_is _ p k, k, last_is v) refl
  operation_is (wait_pin w p k v) close = rw (w, polarity_is _ p k, k, last_is v) refl
  operation_is (wait_irq w p k v may) close = rw (w, polarity_is _ p k, k, last_is v, flag_value is_rel refl may (no_rel close), flag_rest may) refl
  operation_is (in_ w k v) close = rw (w, k, last_is v) refl
  operation_is (out w k v) close = rw (w, k, last_is v) refl
  operation_is (push w may b) close =
      rw (w, flag_value is_if_full refl may (at_block is_if_full refl refl (at_close is_if_full false refl refl refl refl close) b), flag_rest may, block_is b close) refl
  operation_is (pull w may b) close =
      rw (w, flag_value is_if_empty refl may (at_block is_if_empty refl refl (at_close is_if_empty false refl refl refl refl close) b), flag_rest may, block_is b close) refl
  operation_is (mov w to may operation from) close = rw (w, to, past_is may (no_comma_mov operation from), mov_operation_is operation from, from) refl
  operation_is (irq w mode v may) close = rw (w, irq_mode_is mode v, value_is v, flag_value is_rel refl may (no_rel close), flag_rest may) refl
  operation_is (set w k v) close = rw (w, k, last_is v) refl
  operation_is (nop w) close = rw w refl

  -- modifiers
  side_is : {tokens rest : List Token} {s : Option (List Term)} → IsSide text tokens s rest → is_side (head_kind rest) ≡ false → side_at text tokens ≡ Ok (s, rest)
  side_is no_side h = rw h refl
  side_is (side k v) h = rw (k, value_is v) refl

  delay_is : {tokens rest : List Token} {d : Option (List Term)} → IsDelay text tokens d rest → is_open_bracket (head_kind rest) ≡ false → delay_at text tokens ≡ Ok (d, rest)
  delay_is no_delay h = rw h refl
  delay_is (delay k sum close) h = rw (k, expression_is sum (over (ap ends_sum close)), close) refl

  modifiers_are : {tokens rest : List Token} {s d : Option (List Term)} → IsModifiers text tokens s d rest → Ending rest → modifiers_at text tokens ≡ Ok ((s, d), rest)
  modifiers_are (side_first (side k v) d) e = rw (k, value_is v, delay_is d (no_bracket e)) refl
  modifiers_are (side_first no_side (delay k sum close)) e = rw (k, expression_is sum (over (ap ends_sum close)), close, no_side_word e) refl
  modifiers_are (side_first no_side no_delay) e = rw (no_bracket e, no_side_word e, no_bracket e) refl
  modifiers_are (delay_first (delay k sum close) s) e = rw (k, expression_is sum (over (ap ends_sum close)), close, side_is s (no_side_word e)) refl
  modifiers_are (delay_first no_delay (side k v)) e = rw (k, value_is v, no_bracket e) refl
  modifiers_are (delay_first no_delay no_side) e = rw (no_bracket e, no_side_word e, no_bracket e) refl

  modifiers_close : {tokens rest : List Token} {s d : Option (List Term)} → IsModifiers text tokens s d rest → Ending rest → Closing tokens
  modifiers_close (side_first (side k v) d) e = side_next k
  modifiers_close (side_first no_side (delay k sum close)) e = bracket_next k
  modifiers_close (side_first no_side no_delay) e = end_next e
  modifiers_close (delay_first (delay k sum close) s) e = bracket_next k
  modifiers_close (delay_first no_delay (side k v)) e = side_next k
  modifiers_close (delay_first no_delay no_side) e = end_next e

  -- statements
  pub setting_is : {tokens rest : List Token} {s : Option Statement} → IsSetting text tokens s rest → Ending rest → statement_at text tokens ≡ Ok (s, rest)
  setting_is (define w (stands p) n sum) e = rw (w, p, n, expression_is sum (over_end e)) refl
  setting_is (define w missing n sum) e = rw (w, n, expression_is sum (over_end e)) refl
  setting_is (lang_opt w) e = rw w refl
  setting_is (pio_version w z) e = rw (w, z) refl

  pub program_is : {tokens rest : List Token} {s : Option Statement} → IsProgram text tokens s rest → statement_at text tokens ≡ Ok (s, rest)
  program_is (program_line w n) = rw (w, n) refl

  pub statement_is : {tokens rest : List Token} {s : Option Statement} → IsStatement text tokens s rest → Ending rest → statement_at text tokens ≡ Ok (s, rest)
  statement_is {rest = rest} nothing e = at_end (λ kind. statement_of_kind text kind rest) (Ok (None, rest)) refl refl e
  statement_is (setting is) e = setting_is is e
  statement_is (program is) e = program_is is
  statement_is (origin w sum) e = rw (w, expression_is sum (over_end e)) refl
  statement_is (side_set w sum opt pindirs) e =
      rw (
        w,
        expression_is sum (over_may opt refl (over_may pindirs refl (over_end e))),
        flag_value is_opt refl opt (no_opt pindirs e),
        flag_rest opt,
        flag_value is_pindirs refl pindirs (at_end is_pindirs false refl refl e),
        flag_rest pindirs,
      ) refl
  statement_is (wrap_target w) e = rw w refl
  statement_is (wrap w) e = rw w refl
  statement_is (word w sum) e = rw (w, expression_is sum (over_end e)) refl
  statement_is (instruction is modifiers) e = operation_is is (modifiers_close modifiers e) ∙ rw (modifiers_are modifiers e) refl

  pub label_is : {tokens rest : List Token} {mark : Option (List ℕ)} → IsLabel text tokens mark rest → begins_label (head_kind rest) ≡ false → label_at text tokens ≡ Ok (mark, rest)
  label_is no_label h = rw h refl
  label_is (label (stands p) n c) h = rw (p, n, c) refl
  label_is (label missing n c) h = rw (n, c) refl
