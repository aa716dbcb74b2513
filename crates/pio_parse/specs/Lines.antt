-- The grammar of a line of a PIO source (RP2040 Datasheet, 3.3, Directives, Labels and Instructions; 3.4.2 to 3.4.10, Assembler Syntax), which
-- knows nothing of how a program reads it. Where a comma may be missing is as pioasm has it.
--
--   line        ::= [label] [statement] end             after the first `.program`
--                 | [setting] LF                        before it
--                 | `.program` name end
--   label       ::= [`public`] name `:`
--   statement   ::= setting | `.program` name | `.origin` expression | `.side_set` expression [`opt`] [`pindirs`]
--                 | `.wrap_target` | `.wrap` | `.word` expression | operation modifiers
--   setting     ::= `.define` [`public`] name expression | `.lang_opt` | `.pio_version` 0
--   operation   ::= `jmp` [condition [`,`]] value
--                 | `wait` [value] `gpio` [`,`] value | `wait` [value] `pin` [`,`] value | `wait` [value] `irq` [`,`] value [`rel`]
--                 | `in` source [`,`] value | `out` destination [`,`] value | `set` destination [`,`] value
--                 | `push` [`iffull`] [`block` | `noblock`] | `pull` [`ifempty`] [`block` | `noblock`]
--                 | `mov` destination [`,`] [`!` | `~` | `::`] source
--                 | `irq` [`set` | `nowait` | `wait` | `clear`] value [`rel`] | `nop`
--   condition   ::= `!` `x` | `x` `--` | `!` `y` | `y` `--` | `x` `!=` `y` | `pin` | `!` `osre`
--   modifiers   ::= [`side` value] [`[` expression `]`] | [`[` expression `]`] [`side` value]
--   value       ::= number | name | `(` expression `)`
--   end         ::= LF | the end of the file
use Rattle.std.specs.Prelude.{◌≡◌, ℕ, Bool, true, false, List, [], ◌∷◌, ◌++◌, Option, None, Some}
use Rattle.pio_words.specs.declared.op.JmpCondition.{JmpCondition}
use Rattle.pio_words.specs.declared.op.JmpCondition.TheVariants.{Always, XZero, XDecrement, YZero, YDecrement, XNotY, Pin as PinHigh, OsrNotEmpty}
use Rattle.pio_words.specs.declared.op.InSource.{InSource}
use Rattle.pio_words.specs.declared.op.OutDestination.{OutDestination}
use Rattle.pio_words.specs.declared.op.SetDestination.{SetDestination}
use Rattle.pio_words.specs.declared.op.MovDestination.{MovDestination}
use Rattle.pio_words.specs.declared.op.MovDestination.TheVariants.{Y as MovToY}
use Rattle.pio_words.specs.declared.op.MovOperation.{MovOperation}
use Rattle.pio_words.specs.declared.op.MovOperation.TheVariants.{Plain, Invert, Reverse}
use Rattle.pio_words.specs.declared.op.MovSource.{MovSource}
use Rattle.pio_words.specs.declared.op.MovSource.TheVariants.{Y as MovFromY}
use Rattle.pio_parse.specs.declared.token.Span.{Span}
use Rattle.pio_parse.specs.declared.token.Token.{Token}
use Rattle.pio_parse.specs.declared.token.Keyword.TheVariants.{Public, Opt, Pindirs, Jmp, Wait, In, Out, Push, Pull, Mov, Irq, Set, Nop, Side, Gpio, Pin, Rel, X, Y, Osre, IfFull, IfEmpty, Block, NoBlock, NoWait, Clear}
use Rattle.pio_parse.specs.declared.token.Directive.TheVariants.{Program, Define, Origin, SideSet, WrapTarget, Wrap, Word, LangOpt, PioVersion}
use Rattle.pio_parse.specs.declared.token.TokenKind.{TokenKind}
use Rattle.pio_parse.specs.declared.token.TokenKind.TheVariants.{Name, Keyword, Directive, Number, Comma, Colon, DoubleColon, OpenBracket, CloseBracket, OpenParenthesis, CloseParenthesis, Minus, Bang, NotEqual, Tilde, LineEnd}
use Rattle.pio_parse.specs.declared.expression.Term.{Term}
use Rattle.pio_parse.specs.declared.expression.Term.TheVariants.{Number as NumberTerm, Name as NameTerm}
use Rattle.pio_parse.specs.declared.syntax.Operation.{Operation}
use Rattle.pio_parse.specs.declared.syntax.Operation.TheVariants.{Jmp as JmpOperation, WaitGpio, WaitPin, WaitIrq, In as InOperation, Out as OutOperation, Push as PushOperation, Pull as PullOperation, Mov as MovOperation', Irq as IrqOperation, Set as SetOperation}
use Rattle.pio_parse.specs.declared.syntax.Statement.{Statement}
use Rattle.pio_parse.specs.declared.syntax.Statement.TheVariants.{Program as ProgramStatement, Define as DefineStatement, Origin as OriginStatement, SideSet as SideSetStatement, WrapTarget as WrapTargetStatement, Wrap as WrapStatement, Word as WordStatement, Instruction as InstructionStatement}
use Rattle.pio_parse.specs.declared.syntax.Line.{Line}
use Rattle.pio_parse.specs.Tokens.{head_position, name_at, are_together, is_end}
use Rattle.pio_parse.specs.Grammar.{Expr, IsSum, postfix}
use Rattle.pio_parse.specs.Registers.{in_source_of, mov_destination_of, mov_source_of, out_destination_of, set_destination_of}

-- In each relation the tokens of a file's text, up to the rest of them, are what its name says; a constructor is an alternative of the grammar. An
-- expression is kept as its terms in postfix order.

-- a token that may stand or be missing
pub data MayStand (kind : TokenKind) : List Token → Bool → List Token → Type 0 where
  stands : {rest : List Token} {token : Token} → token.kind ≡ kind → MayStand kind (token ∷ rest) true rest
  missing : {rest : List Token} → MayStand kind rest false rest

-- value
pub data IsValue (text : List ℕ) : List Token → List Term → List Token → Type 0 where
  number : {rest : List Token} {token : Token} {n : ℕ} → token.kind ≡ Number n → IsValue text (token ∷ rest) (NumberTerm n ∷ []) rest
  name : {rest : List Token} {token : Token} {span : Span} → token.kind ≡ Name span → IsValue text (token ∷ rest) (NameTerm (name_at text span) ∷ []) rest
  parentheses : {inner rest : List Token} {tree : Expr} {open_token close_token : Token}
      → open_token.kind ≡ OpenParenthesis → IsSum text inner tree (close_token ∷ rest) → close_token.kind ≡ CloseParenthesis
      → IsValue text (open_token ∷ inner) (postfix tree) rest

-- [`,`] value
pub data IsLastValue (text : List ℕ) : List Token → List Term → List Token → Type 0 where
  last_value : {tokens middle rest : List Token} {comma : Bool} {value : List Term}
      → MayStand Comma tokens comma middle → IsValue text middle value rest → IsLastValue text tokens value rest

-- `--`: two signs beside each other
abbrev pub IsDecrement : Token → Token → Type 0
IsDecrement first second = (first.kind ≡ Minus) × (second.kind ≡ Minus) × (are_together first.position second.position ≡ true)

-- condition
pub data IsCondition : List Token → JmpCondition → List Token → Type 0 where
  x_zero : {rest : List Token} {bang x : Token} → bang.kind ≡ Bang → x.kind ≡ Keyword X → IsCondition (bang ∷ x ∷ rest) XZero rest
  x_decrement : {rest : List Token} {x first second : Token} → x.kind ≡ Keyword X → IsDecrement first second → IsCondition (x ∷ first ∷ second ∷ rest) XDecrement rest
  y_zero : {rest : List Token} {bang y : Token} → bang.kind ≡ Bang → y.kind ≡ Keyword Y → IsCondition (bang ∷ y ∷ rest) YZero rest
  y_decrement : {rest : List Token} {y first second : Token} → y.kind ≡ Keyword Y → IsDecrement first second → IsCondition (y ∷ first ∷ second ∷ rest) YDecrement rest
  x_not_y : {rest : List Token} {x sign y : Token} → x.kind ≡ Keyword X → sign.kind ≡ NotEqual → y.kind ≡ Keyword Y → IsCondition (x ∷ sign ∷ y ∷ rest) XNotY rest
  pin : {rest : List Token} {word : Token} → word.kind ≡ Keyword Pin → IsCondition (word ∷ rest) PinHigh rest
  osr_not_empty : {rest : List Token} {bang osre : Token} → bang.kind ≡ Bang → osre.kind ≡ Keyword Osre → IsCondition (bang ∷ osre ∷ rest) OsrNotEmpty rest

-- [condition [`,`]]
pub data IsJmpCondition : List Token → JmpCondition → List Token → Type 0 where
  always : {rest : List Token} → IsJmpCondition rest Always rest
  condition : {tokens middle rest : List Token} {condition : JmpCondition} {comma : Bool}
      → IsCondition tokens condition middle → MayStand Comma middle comma rest → IsJmpCondition tokens condition rest

-- [value]: the polarity that `wait` waits for
pub data IsPolarity (text : List ℕ) : List Token → Option (List Term) → List Token → Type 0 where
  no_polarity : {rest : List Token} → IsPolarity text rest None rest
  polarity : {tokens rest : List Token} {value : List Term} → IsValue text tokens value rest → IsPolarity text tokens (Some value) rest

-- [`block` | `noblock`], where none is `block`
pub data IsBlock : List Token → Bool → List Token → Type 0 where
  block : {rest : List Token} {word : Token} → word.kind ≡ Keyword Block → IsBlock (word ∷ rest) true rest
  noblock : {rest : List Token} {word : Token} → word.kind ≡ Keyword NoBlock → IsBlock (word ∷ rest) false rest
  no_word : {rest : List Token} → IsBlock rest true rest

-- [`!` | `~` | `::`]
pub data IsMovOperation : List Token → MovOperation → List Token → Type 0 where
  plain : {rest : List Token} → IsMovOperation rest Plain rest
  invert : {rest : List Token} {sign : Token} → sign.kind ≡ Bang → IsMovOperation (sign ∷ rest) Invert rest
  tilde : {rest : List Token} {sign : Token} → sign.kind ≡ Tilde → IsMovOperation (sign ∷ rest) Invert rest
  reverse : {rest : List Token} {sign : Token} → sign.kind ≡ DoubleColon → IsMovOperation (sign ∷ rest) Reverse rest

-- [`set` | `nowait` | `wait` | `clear`]: whether the flag is cleared, and whether the instruction waits
pub data IsIrqMode : List Token → Bool → Bool → List Token → Type 0 where
  no_mode : {rest : List Token} → IsIrqMode rest false false rest
  set : {rest : List Token} {word : Token} → word.kind ≡ Keyword Set → IsIrqMode (word ∷ rest) false false rest
  nowait : {rest : List Token} {word : Token} → word.kind ≡ Keyword NoWait → IsIrqMode (word ∷ rest) false false rest
  wait : {rest : List Token} {word : Token} → word.kind ≡ Keyword Wait → IsIrqMode (word ∷ rest) false true rest
  clear : {rest : List Token} {word : Token} → word.kind ≡ Keyword Clear → IsIrqMode (word ∷ rest) true false rest

-- operation
pub data IsOperation (text : List ℕ) : List Token → Operation → List Token → Type 0 where
  jmp : {tokens middle rest : List Token} {word : Token} {condition : JmpCondition} {target : List Term}
      → word.kind ≡ Keyword Jmp → IsJmpCondition tokens condition middle → IsValue text middle target rest
      → IsOperation text (word ∷ tokens) (JmpOperation condition target) rest
  wait_gpio : {tokens middle rest : List Token} {word source : Token} {polarity : Option (List Term)} {number : List Term}
      → word.kind ≡ Keyword Wait → IsPolarity text tokens polarity (source ∷ middle) → source.kind ≡ Keyword Gpio → IsLastValue text middle number rest
      → IsOperation text (word ∷ tokens) (WaitGpio polarity number) rest
  wait_pin : {tokens middle rest : List Token} {word source : Token} {polarity : Option (List Term)} {number : List Term}
      → word.kind ≡ Keyword Wait → IsPolarity text tokens polarity (source ∷ middle) → source.kind ≡ Keyword Pin → IsLastValue text middle number rest
      → IsOperation text (word ∷ tokens) (WaitPin polarity number) rest
  wait_irq : {tokens middle after rest : List Token} {word source : Token} {polarity : Option (List Term)} {number : List Term} {relative : Bool}
      → word.kind ≡ Keyword Wait → IsPolarity text tokens polarity (source ∷ middle) → source.kind ≡ Keyword Irq → IsLastValue text middle number after
      → MayStand (Keyword Rel) after relative rest
      → IsOperation text (word ∷ tokens) (WaitIrq polarity number relative) rest
  in_ : {tokens rest : List Token} {word register : Token} {source : InSource} {count : List Term}
      → word.kind ≡ Keyword In → in_source_of register.kind ≡ Some source → IsLastValue text tokens count rest
      → IsOperation text (word ∷ register ∷ tokens) (InOperation source count) rest
  out : {tokens rest : List Token} {word register : Token} {destination : OutDestination} {count : List Term}
      → word.kind ≡ Keyword Out → out_destination_of register.kind ≡ Some destination → IsLastValue text tokens count rest
      → IsOperation text (word ∷ register ∷ tokens) (OutOperation destination count) rest
  push : {tokens middle rest : List Token} {word : Token} {if_full block : Bool}
      → word.kind ≡ Keyword Push → MayStand (Keyword IfFull) tokens if_full middle → IsBlock middle block rest
      → IsOperation text (word ∷ tokens) (PushOperation if_full block) rest
  pull : {tokens middle rest : List Token} {word : Token} {if_empty block : Bool}
      → word.kind ≡ Keyword Pull → MayStand (Keyword IfEmpty) tokens if_empty middle → IsBlock middle block rest
      → IsOperation text (word ∷ tokens) (PullOperation if_empty block) rest
  mov : {tokens middle rest : List Token} {word to from : Token} {comma : Bool} {destination : MovDestination} {operation : MovOperation} {source : MovSource}
      → word.kind ≡ Keyword Mov → mov_destination_of to.kind ≡ Some destination → MayStand Comma tokens comma middle
      → IsMovOperation middle operation (from ∷ rest) → mov_source_of from.kind ≡ Some source
      → IsOperation text (word ∷ to ∷ tokens) (MovOperation' destination operation source) rest
  irq : {tokens middle after rest : List Token} {word : Token} {clear wait relative : Bool} {number : List Term}
      → word.kind ≡ Keyword Irq → IsIrqMode tokens clear wait middle → IsValue text middle number after → MayStand (Keyword Rel) after relative rest
      → IsOperation text (word ∷ tokens) (IrqOperation clear wait number relative) rest
  set : {tokens rest : List Token} {word register : Token} {destination : SetDestination} {value : List Term}
      → word.kind ≡ Keyword Set → set_destination_of register.kind ≡ Some destination → IsLastValue text tokens value rest
      → IsOperation text (word ∷ register ∷ tokens) (SetOperation destination value) rest
  -- `mov y, y`
  nop : {rest : List Token} {word : Token} → word.kind ≡ Keyword Nop → IsOperation text (word ∷ rest) (MovOperation' MovToY Plain MovFromY) rest

-- [`side` value]
pub data IsSide (text : List ℕ) : List Token → Option (List Term) → List Token → Type 0 where
  no_side : {rest : List Token} → IsSide text rest None rest
  side : {tokens rest : List Token} {word : Token} {value : List Term}
      → word.kind ≡ Keyword Side → IsValue text tokens value rest → IsSide text (word ∷ tokens) (Some value) rest

-- [`[` expression `]`]
pub data IsDelay (text : List ℕ) : List Token → Option (List Term) → List Token → Type 0 where
  no_delay : {rest : List Token} → IsDelay text rest None rest
  delay : {tokens rest : List Token} {open_token close_token : Token} {tree : Expr}
      → open_token.kind ≡ OpenBracket → IsSum text tokens tree (close_token ∷ rest) → close_token.kind ≡ CloseBracket
      → IsDelay text (open_token ∷ tokens) (Some (postfix tree)) rest

-- modifiers: a side-set value and a delay, in either order
pub data IsModifiers (text : List ℕ) : List Token → Option (List Term) → Option (List Term) → List Token → Type 0 where
  side_first : {tokens middle rest : List Token} {side delay : Option (List Term)}
      → IsSide text tokens side middle → IsDelay text middle delay rest → IsModifiers text tokens side delay rest
  delay_first : {tokens middle rest : List Token} {side delay : Option (List Term)}
      → IsDelay text tokens delay middle → IsSide text middle side rest → IsModifiers text tokens side delay rest

-- setting: what may stand before the first `.program`. `.lang_opt` and `.pio_version` say nothing about a program
pub data IsSetting (text : List ℕ) : List Token → Option Statement → List Token → Type 0 where
  define : {tokens middle rest : List Token} {word name : Token} {public : Bool} {span : Span} {tree : Expr}
      → word.kind ≡ Directive Define → MayStand (Keyword Public) tokens public (name ∷ middle) → name.kind ≡ Name span → IsSum text middle tree rest
      → IsSetting text (word ∷ tokens) (Some (DefineStatement (name_at text span) (postfix tree))) rest
  lang_opt : {rest : List Token} {word : Token} → word.kind ≡ Directive LangOpt → IsSetting text (word ∷ rest) None rest
  pio_version : {rest : List Token} {word zero : Token} → word.kind ≡ Directive PioVersion → zero.kind ≡ Number 0 → IsSetting text (word ∷ zero ∷ rest) None rest

-- `.program` name
pub data IsProgram (text : List ℕ) : List Token → Option Statement → List Token → Type 0 where
  program : {rest : List Token} {word name : Token} {span : Span}
      → word.kind ≡ Directive Program → name.kind ≡ Name span → IsProgram text (word ∷ name ∷ rest) (Some (ProgramStatement (name_at text span))) rest

-- [statement]
pub data IsStatement (text : List ℕ) : List Token → Option Statement → List Token → Type 0 where
  nothing : {rest : List Token} → IsStatement text rest None rest
  setting : {tokens rest : List Token} {statement : Option Statement} → IsSetting text tokens statement rest → IsStatement text tokens statement rest
  program : {tokens rest : List Token} {statement : Option Statement} → IsProgram text tokens statement rest → IsStatement text tokens statement rest
  origin : {tokens rest : List Token} {word : Token} {tree : Expr}
      → word.kind ≡ Directive Origin → IsSum text tokens tree rest → IsStatement text (word ∷ tokens) (Some (OriginStatement (postfix tree))) rest
  side_set : {tokens middle after rest : List Token} {word : Token} {tree : Expr} {opt pindirs : Bool}
      → word.kind ≡ Directive SideSet → IsSum text tokens tree middle → MayStand (Keyword Opt) middle opt after → MayStand (Keyword Pindirs) after pindirs rest
      → IsStatement text (word ∷ tokens) (Some (SideSetStatement (postfix tree) opt pindirs)) rest
  wrap_target : {rest : List Token} {word : Token} → word.kind ≡ Directive WrapTarget → IsStatement text (word ∷ rest) (Some WrapTargetStatement) rest
  wrap : {rest : List Token} {word : Token} → word.kind ≡ Directive Wrap → IsStatement text (word ∷ rest) (Some WrapStatement) rest
  word : {tokens rest : List Token} {word : Token} {tree : Expr}
      → word.kind ≡ Directive Word → IsSum text tokens tree rest → IsStatement text (word ∷ tokens) (Some (WordStatement (postfix tree))) rest
  instruction : {tokens middle rest : List Token} {operation : Operation} {side delay : Option (List Term)}
      → IsOperation text tokens operation middle → IsModifiers text middle side delay rest
      → IsStatement text tokens (Some (InstructionStatement (record { operation = operation; side = side; delay = delay }))) rest

-- [[`public`] name `:`]
pub data IsLabel (text : List ℕ) : List Token → Option (List ℕ) → List Token → Type 0 where
  no_label : {rest : List Token} → IsLabel text rest None rest
  label : {tokens rest : List Token} {name colon : Token} {public : Bool} {span : Span}
      → MayStand (Keyword Public) tokens public (name ∷ colon ∷ rest) → name.kind ≡ Name span → colon.kind ≡ Colon
      → IsLabel text tokens (Some (name_at text span)) rest

-- `IsLine text started tokens line`: the tokens, with the end of their line, are a line of the grammar that says this; a program has begun before
-- it, or not. A line has the number of its first token's
pub data IsLine (text : List ℕ) : Bool → List Token → Line → Type 0 where
  line : {tokens middle : List Token} {end : Token} {label : Option (List ℕ)} {statement : Option Statement}
      → IsLabel text tokens label middle → IsStatement text middle statement (end ∷ []) → is_end end.kind ≡ true
      → IsLine text true tokens (record { number = (head_position tokens).line; label = label; statement = statement })
  blank_before : {end : Token} → end.kind ≡ LineEnd → IsLine text false (end ∷ []) (record { number = end.position.line; label = None; statement = None })
  setting_before : {tokens : List Token} {end : Token} {statement : Option Statement}
      → IsSetting text tokens statement (end ∷ []) → end.kind ≡ LineEnd
      → IsLine text false tokens (record { number = (head_position tokens).line; label = None; statement = statement })
  first_program : {tokens : List Token} {end : Token} {statement : Option Statement}
      → IsProgram text tokens statement (end ∷ []) → is_end end.kind ≡ true
      → IsLine text false tokens (record { number = (head_position tokens).line; label = None; statement = statement })

-- with some further tokens, or none, these are a line of the grammar
abbrev pub BeginsLine : List ℕ → Bool → List Token → Type 0
BeginsLine text started tokens = (further : List Token) × (line : Line) × IsLine text started (tokens ++ further) line
