-- The grammar of an instruction (RP2040 Datasheet, 3.3, Instructions; 3.4.2 to 3.4.10, Assembler Syntax). Where a comma may be
-- missing is as pioasm has it.
use Rattle.std.specs.Prelude.{◌&&◌, ℕ, Bool, true, false, if◌then◌else◌, List, Option, None, Some, Ok}
use Rattle.std.specs.Option.{option_map_or}
use Rattle.pio_words.specs.declared.op.JmpCondition.{JmpCondition}
use Rattle.pio_words.specs.declared.op.JmpCondition.TheVariants.{Always, XZero, XDecrement, YZero, YDecrement, XNotY, Pin as PinHigh, OsrNotEmpty}
use Rattle.pio_words.specs.declared.op.MovDestination.TheVariants.{Y as MovToY}
use Rattle.pio_words.specs.declared.op.MovOperation.{MovOperation}
use Rattle.pio_words.specs.declared.op.MovOperation.TheVariants.{Plain, Invert, Reverse}
use Rattle.pio_words.specs.declared.op.MovSource.TheVariants.{Y as MovFromY}
use Rattle.pio_parse.specs.declared.token.Token.{Token}
use Rattle.pio_parse.specs.declared.token.Keyword.{Keyword}
use Rattle.pio_parse.specs.declared.token.Keyword.TheVariants.{Jmp, Wait, In, Out, Push, Pull, Mov, Irq, Set, Nop, Side, Gpio, Pin, Rel, X, Y, Osre, IfFull, IfEmpty, Block, NoBlock, NoWait, Clear}
use Rattle.pio_parse.specs.declared.token.TokenKind.{TokenKind}
use Rattle.pio_parse.specs.declared.token.TokenKind.TheVariants.{Keyword as KeywordToken, Comma, Minus, NotEqual, Bang, Tilde, DoubleColon, OpenBracket, CloseBracket}
use Rattle.pio_parse.specs.declared.expression.Term.{Term}
use Rattle.pio_parse.specs.declared.syntax.Operation.{Operation}
use Rattle.pio_parse.specs.declared.syntax.Operation.TheVariants.{Jmp as JmpOperation, WaitGpio, WaitPin, WaitIrq, In as InOperation, Out as OutOperation, Push as PushOperation, Pull as PullOperation, Mov as MovOperation', Irq as IrqOperation, Set as SetOperation}
use Rattle.pio_parse.specs.declared.syntax.Instruction.{Instruction}
use Rattle.source_text.specs.Outcome.{and_then, map_ok}
use Rattle.pio_parse.specs.descent.Cursor.{Outcome, after_head, expected, misfit}
use Rattle.pio_parse.specs.Tokens.{are_together, head_kind, head_position}
use Rattle.pio_parse.specs.descent.Expression.{expression_at, operand_at}
use Rattle.pio_parse.specs.Registers.{in_source_of, out_destination_of, mov_destination_of, mov_source_of, set_destination_of}

-- one comma that may stand or be missing
abbrev pub is_comma : TokenKind → Bool
is_comma Comma = true
is_comma kind = false

abbrev pub past_comma : List Token → List Token
past_comma tokens = if is_comma (head_kind tokens) then after_head tokens else tokens

abbrev pub is_minus : TokenKind → Bool
is_minus Minus = true
is_minus kind = false

abbrev pub is_not_equal : TokenKind → Bool
is_not_equal NotEqual = true
is_not_equal kind = false

abbrev pub is_close_bracket : TokenKind → Bool
is_close_bracket CloseBracket = true
is_close_bracket kind = false

abbrev pub is_y : TokenKind → Bool
is_y (KeywordToken Y) = true
is_y kind = false

abbrev pub is_rel : TokenKind → Bool
is_rel (KeywordToken Rel) = true
is_rel kind = false

abbrev pub is_if_full : TokenKind → Bool
is_if_full (KeywordToken IfFull) = true
is_if_full kind = false

abbrev pub is_if_empty : TokenKind → Bool
is_if_empty (KeywordToken IfEmpty) = true
is_if_empty kind = false

-- a condition, after which a comma may stand
abbrev pub conditional_at : JmpCondition → List Token → Outcome JmpCondition
conditional_at condition tokens = Ok (condition, past_comma tokens)

-- `--`, whose signs stand together
abbrev pub decrement_at : JmpCondition → List Token → Outcome JmpCondition
decrement_at condition tokens = and_then
    (λ first. and_then (λ second. conditional_at condition second.1)
    (expected (are_together (head_position tokens) (head_position first.1) && is_minus (head_kind first.1)) first.1))
    (expected (is_minus (head_kind tokens)) tokens)

-- `--` or `!=y` after `x`
abbrev pub x_condition_at : List Token → Outcome JmpCondition
x_condition_at tokens =
    if is_not_equal (head_kind tokens)
    then and_then (λ y. conditional_at XNotY y.1) (expected (is_y (head_kind (after_head tokens))) (after_head tokens))
    else decrement_at XDecrement tokens

-- `x`, `y` or `osre` after `!`
abbrev pub not_condition_of : TokenKind → List Token → Outcome JmpCondition
not_condition_of (KeywordToken X) tokens = conditional_at XZero (after_head tokens)
not_condition_of (KeywordToken Y) tokens = conditional_at YZero (after_head tokens)
not_condition_of (KeywordToken Osre) tokens = conditional_at OsrNotEmpty (after_head tokens)
not_condition_of kind tokens = misfit tokens

abbrev pub not_condition_at : List Token → Outcome JmpCondition
not_condition_at tokens = not_condition_of (head_kind tokens) tokens

abbrev pub jmp_condition_of : TokenKind → List Token → Outcome JmpCondition
jmp_condition_of Bang tokens = not_condition_at (after_head tokens)
jmp_condition_of (KeywordToken X) tokens = x_condition_at (after_head tokens)
jmp_condition_of (KeywordToken Y) tokens = decrement_at YDecrement (after_head tokens)
jmp_condition_of (KeywordToken Pin) tokens = conditional_at PinHigh (after_head tokens)
jmp_condition_of kind tokens = Ok (Always, tokens)

-- the condition of `jmp`, if one is written
abbrev pub jmp_condition_at : List Token → Outcome JmpCondition
jmp_condition_at tokens = jmp_condition_of (head_kind tokens) tokens

-- jmp [condition] target
abbrev pub jmp_at : List ℕ → List Token → Outcome Operation
jmp_at text tokens = and_then (λ condition. map_ok (λ target. (JmpOperation condition.0 target.0, target.1)) (operand_at text condition.1)) (jmp_condition_at tokens)

-- a word that may be written
abbrev pub flag_at : Bool → List Token → Outcome Bool
flag_at stands tokens = Ok (stands, if stands then after_head tokens else tokens)

abbrev pub polarity_of : List ℕ → TokenKind → List Token → Outcome (Option (List Term))
polarity_of text (KeywordToken keyword) tokens = Ok (None, tokens)
polarity_of text kind tokens = map_ok (λ operand. (Some operand.0, operand.1)) (operand_at text tokens)

-- a polarity, if one is written
abbrev pub polarity_at : List ℕ → List Token → Outcome (Option (List Term))
polarity_at text tokens = polarity_of text (head_kind tokens) tokens

-- an operand after a comma that may be missing
abbrev pub last_operand_at : List ℕ → List Token → Outcome (List Term)
last_operand_at text tokens = operand_at text (past_comma tokens)

abbrev pub wait_for : List ℕ → Option (List Term) → TokenKind → List Token → Outcome Operation
wait_for text polarity (KeywordToken Gpio) tokens = map_ok (λ number. (WaitGpio polarity number.0, number.1)) (last_operand_at text (after_head tokens))
wait_for text polarity (KeywordToken Pin) tokens = map_ok (λ number. (WaitPin polarity number.0, number.1)) (last_operand_at text (after_head tokens))
wait_for text polarity (KeywordToken Irq) tokens = and_then
    (λ number. map_ok (λ relative. (WaitIrq polarity number.0 relative.0, relative.1)) (flag_at (is_rel (head_kind number.1)) number.1))
    (last_operand_at text (after_head tokens))
wait_for text polarity kind tokens = misfit tokens

-- wait [polarity] gpio|pin number, wait [polarity] irq number [rel]
abbrev pub wait_at : List ℕ → List Token → Outcome Operation
wait_at text tokens = and_then (λ polarity. wait_for text polarity.0 (head_kind polarity.1) polarity.1) (polarity_at text tokens)

-- a word that has to name one of an instruction's registers
abbrev pub named_at : {X : Type 0} → Option X → List Token → Outcome X
named_at named tokens = option_map_or (λ x. Ok (x, after_head tokens)) named (misfit tokens)

-- in source, count
abbrev pub in_at : List ℕ → List Token → Outcome Operation
in_at text tokens = and_then (λ source. map_ok (λ count. (InOperation source.0 count.0, count.1)) (last_operand_at text source.1)) (named_at (in_source_of (head_kind tokens)) tokens)

-- out destination, count
abbrev pub out_at : List ℕ → List Token → Outcome Operation
out_at text tokens = and_then (λ destination. map_ok (λ count. (OutOperation destination.0 count.0, count.1)) (last_operand_at text destination.1)) (named_at (out_destination_of (head_kind tokens)) tokens)

-- set destination, value
abbrev pub set_at : List ℕ → List Token → Outcome Operation
set_at text tokens = and_then (λ destination. map_ok (λ value. (SetOperation destination.0 value.0, value.1)) (last_operand_at text destination.1)) (named_at (set_destination_of (head_kind tokens)) tokens)

abbrev pub block_of : TokenKind → List Token → Outcome Bool
block_of (KeywordToken Block) tokens = Ok (true, after_head tokens)
block_of (KeywordToken NoBlock) tokens = Ok (false, after_head tokens)
block_of kind tokens = Ok (true, tokens)

-- [block|noblock], where none is block
abbrev pub block_at : List Token → Outcome Bool
block_at tokens = block_of (head_kind tokens) tokens

-- push [iffull] [block|noblock]
abbrev pub push_at : List Token → Outcome Operation
push_at tokens = and_then (λ if_full. map_ok (λ block. (PushOperation if_full.0 block.0, block.1)) (block_at if_full.1)) (flag_at (is_if_full (head_kind tokens)) tokens)

-- pull [ifempty] [block|noblock]
abbrev pub pull_at : List Token → Outcome Operation
pull_at tokens = and_then (λ if_empty. map_ok (λ block. (PullOperation if_empty.0 block.0, block.1)) (block_at if_empty.1)) (flag_at (is_if_empty (head_kind tokens)) tokens)

abbrev pub mov_operation_of : TokenKind → List Token → Outcome MovOperation
mov_operation_of Bang tokens = Ok (Invert, after_head tokens)
mov_operation_of Tilde tokens = Ok (Invert, after_head tokens)
mov_operation_of DoubleColon tokens = Ok (Reverse, after_head tokens)
mov_operation_of kind tokens = Ok (Plain, tokens)

-- [!|~|::] before the source of `mov`
abbrev pub mov_operation_at : List Token → Outcome MovOperation
mov_operation_at tokens = mov_operation_of (head_kind tokens) tokens

-- mov destination, [!|~|::] source
abbrev pub mov_at : List Token → Outcome Operation
mov_at tokens = and_then
    (λ destination. and_then
    (λ operation. map_ok (λ source. (MovOperation' destination.0 operation.0 source.0, source.1)) (named_at (mov_source_of (head_kind operation.1)) operation.1))
    (mov_operation_at (past_comma destination.1)))
    (named_at (mov_destination_of (head_kind tokens)) tokens)

abbrev pub irq_mode_of : TokenKind → List Token → Outcome (Bool × Bool)
irq_mode_of (KeywordToken Set) tokens = Ok ((false, false), after_head tokens)
irq_mode_of (KeywordToken NoWait) tokens = Ok ((false, false), after_head tokens)
irq_mode_of (KeywordToken Wait) tokens = Ok ((false, true), after_head tokens)
irq_mode_of (KeywordToken Clear) tokens = Ok ((true, false), after_head tokens)
irq_mode_of kind tokens = Ok ((false, false), tokens)

-- [set|nowait|wait|clear]: whether the flag is cleared, and whether the instruction waits
abbrev pub irq_mode_at : List Token → Outcome (Bool × Bool)
irq_mode_at tokens = irq_mode_of (head_kind tokens) tokens

-- irq [set|nowait|wait|clear] number [rel]
abbrev pub irq_at : List ℕ → List Token → Outcome Operation
irq_at text tokens = and_then
    (λ mode. and_then
    (λ number. map_ok (λ relative. (IrqOperation mode.0.0 mode.0.1 number.0 relative.0, relative.1)) (flag_at (is_rel (head_kind number.1)) number.1))
    (operand_at text mode.1))
    (irq_mode_at tokens)

-- what follows the first word of an instruction; `nop` is `mov y, y`
abbrev pub operands_at : List ℕ → Keyword → List Token → Outcome Operation
operands_at text Jmp tokens = jmp_at text tokens
operands_at text Wait tokens = wait_at text tokens
operands_at text In tokens = in_at text tokens
operands_at text Out tokens = out_at text tokens
operands_at text Push tokens = push_at tokens
operands_at text Pull tokens = pull_at tokens
operands_at text Mov tokens = mov_at tokens
operands_at text Irq tokens = irq_at text tokens
operands_at text Set tokens = set_at text tokens
operands_at text keyword tokens = Ok (MovOperation' MovToY Plain MovFromY, tokens)

-- the first words of instructions
abbrev pub is_instruction : Keyword → Bool
is_instruction Jmp = true
is_instruction Wait = true
is_instruction In = true
is_instruction Out = true
is_instruction Push = true
is_instruction Pull = true
is_instruction Mov = true
is_instruction Irq = true
is_instruction Set = true
is_instruction Nop = true
is_instruction keyword = false

abbrev pub is_side : TokenKind → Bool
is_side (KeywordToken Side) = true
is_side kind = false

-- [side value]
abbrev pub side_at : List ℕ → List Token → Outcome (Option (List Term))
side_at text tokens =
    if is_side (head_kind tokens) then map_ok (λ value. (Some value.0, value.1)) (operand_at text (after_head tokens)) else Ok (None, tokens)

abbrev pub is_open_bracket : TokenKind → Bool
is_open_bracket OpenBracket = true
is_open_bracket kind = false

-- ['[' delay ']']
abbrev pub delay_at : List ℕ → List Token → Outcome (Option (List Term))
delay_at text tokens =
    if is_open_bracket (head_kind tokens)
    then and_then (λ delay. map_ok (λ close. (Some delay.0, close.1)) (expected (is_close_bracket (head_kind delay.1)) delay.1)) (expression_at text (after_head tokens))
    else Ok (None, tokens)

-- a side-set value and a delay, in either order
abbrev pub modifiers_at : List ℕ → List Token → Outcome (Option (List Term) × Option (List Term))
modifiers_at text tokens =
    if is_open_bracket (head_kind tokens)
    then and_then (λ delay. map_ok (λ side. ((side.0, delay.0), side.1)) (side_at text delay.1)) (delay_at text tokens)
    else and_then (λ side. map_ok (λ delay. ((side.0, delay.0), delay.1)) (delay_at text side.1)) (side_at text tokens)

-- an operation with the side-set value and the delay that follow it
abbrev pub modified_at : List ℕ → Operation → List Token → Outcome Instruction
modified_at text operation tokens =
    map_ok (λ both. (record { operation = operation; side = both.0.0; delay = both.0.1 }, both.1)) (modifiers_at text tokens)

-- an instruction with its side-set value and its delay, whose first word is `keyword`
abbrev pub instruction_at : List ℕ → Keyword → List Token → Outcome Instruction
instruction_at text keyword tokens = and_then
    (λ first. and_then (λ operation. modified_at text operation.0 operation.1) (operands_at text keyword first.1))
    (expected (is_instruction keyword) tokens)
