-- Keywords, names and numbers (RP2040 Datasheet, 3.3, Directives and Values; 3.4). Which words are no names is the project's own.
use Rattle.std.specs.Prelude.{◌==◌, ◌&&◌, ℕ, min, Bool, true, false, if◌then◌else◌, List, [], ◌∷◌, Option, find, codes}
use Rattle.std.specs.Option.{option_map, option_map_or}
use Rattle.source_text.specs.Characters.{is_digit}
use Rattle.source_text.specs.Numbers.{digits_value}
use Rattle.std.specs.Char.{to_ascii_lowercase}
use Rattle.pio_parse.specs.declared.token.Keyword.{Keyword}
use Rattle.pio_parse.specs.declared.token.Keyword.TheVariants.{Public, Opt, Pindirs, Jmp, Wait, In, Out, Push, Pull, Mov, Irq, Set, Nop, Side, Gpio, Pin, Rel, Pins, X, Y, Null, Isr, Osr, Pc, Exec, Status, IfFull, IfEmpty, Block, NoBlock, NoWait, Clear, Osre}
use Rattle.pio_parse.specs.declared.token.Directive.{Directive}
use Rattle.pio_parse.specs.declared.token.Directive.TheVariants.{Program, Define, Origin, SideSet, WrapTarget, Wrap, Word, LangOpt, PioVersion}
use Rattle.pio_parse.specs.declared.token.Span.{Span}
use Rattle.pio_parse.specs.declared.token.TokenKind.{TokenKind}
use Rattle.pio_parse.specs.declared.token.TokenKind.TheVariants.{Name, Keyword as KeywordToken, Directive as DirectiveToken, Number, Unfit}

-- the words that are no names (RP2040 Datasheet, 3.3)
abbrev pub keyword_name : Keyword → List ℕ
keyword_name Public = codes "public"
keyword_name Opt = codes "opt"
keyword_name Pindirs = codes "pindirs"
keyword_name Jmp = codes "jmp"
keyword_name Wait = codes "wait"
keyword_name In = codes "in"
keyword_name Out = codes "out"
keyword_name Push = codes "push"
keyword_name Pull = codes "pull"
keyword_name Mov = codes "mov"
keyword_name Irq = codes "irq"
keyword_name Set = codes "set"
keyword_name Nop = codes "nop"
keyword_name Side = codes "side"
keyword_name Gpio = codes "gpio"
keyword_name Pin = codes "pin"
keyword_name Rel = codes "rel"
keyword_name Pins = codes "pins"
keyword_name X = codes "x"
keyword_name Y = codes "y"
keyword_name Null = codes "null"
keyword_name Isr = codes "isr"
keyword_name Osr = codes "osr"
keyword_name Pc = codes "pc"
keyword_name Exec = codes "exec"
keyword_name Status = codes "status"
keyword_name IfFull = codes "iffull"
keyword_name IfEmpty = codes "ifempty"
keyword_name Block = codes "block"
keyword_name NoBlock = codes "noblock"
keyword_name NoWait = codes "nowait"
keyword_name Clear = codes "clear"
keyword_name Osre = codes "osre"

abbrev pub keywords : List Keyword
keywords =
    Public ∷ Opt ∷ Pindirs ∷ Jmp ∷ Wait ∷ In ∷ Out ∷ Push ∷ Pull ∷ Mov ∷ Irq ∷ Set ∷ Nop ∷ Side ∷ Gpio ∷ Pin ∷ Rel ∷ Pins ∷ X ∷ Y ∷ Null ∷ Isr ∷ Osr ∷ Pc ∷ Exec ∷ Status ∷ IfFull ∷ IfEmpty ∷ Block ∷ NoBlock ∷ NoWait ∷ Clear ∷ Osre ∷ []

-- the directives, without their point (RP2040 Datasheet, 3.3, Directives)
abbrev pub directive_name : Directive → List ℕ
directive_name Program = codes "program"
directive_name Define = codes "define"
directive_name Origin = codes "origin"
directive_name SideSet = codes "side_set"
directive_name WrapTarget = codes "wrap_target"
directive_name Wrap = codes "wrap"
directive_name Word = codes "word"
directive_name LangOpt = codes "lang_opt"
directive_name PioVersion = codes "pio_version"

abbrev pub directives : List Directive
directives = Program ∷ Define ∷ Origin ∷ SideSet ∷ WrapTarget ∷ Wrap ∷ Word ∷ LangOpt ∷ PioVersion ∷ []

-- a word spells a keyword or a directive in any case: the first list has no upper-case letter
abbrev pub same_word : List ℕ → List ℕ → Bool
same_word [] [] = true
same_word [] (y ∷ ys) = false
same_word (x ∷ xs) [] = false
same_word (x ∷ xs) (y ∷ ys) = (x == to_ascii_lowercase y) && same_word xs ys

abbrev pub keyword_of : List ℕ → Option Keyword
keyword_of word = find (λ keyword. same_word (keyword_name keyword) word) keywords

abbrev pub directive_of : List ℕ → Option Directive
directive_of word = find (λ directive. same_word (directive_name directive) word) directives

-- the number of digits to a base: a value above 2^32 - 1 is kept as 2^32, since no number may be so large
abbrev pub number_to : ℕ → List ℕ → Option ℕ
number_to base digits = option_map (min 4294967296) (digits_value base digits)

-- a number: 0x with hexadecimal digits, 0b with binary ones, or decimal digits
abbrev pub number_of : List ℕ → Option ℕ
number_of (a ∷ b ∷ c ∷ cs) =
    if (a == 48) && (b == 120) then number_to 16 (c ∷ cs)
    else if (a == 48) && (b == 98) then number_to 2 (c ∷ cs)
    else number_to 10 (a ∷ b ∷ c ∷ cs)
number_of word = number_to 10 word

abbrev pub directive_kind_of : List ℕ → TokenKind
directive_kind_of name = option_map_or DirectiveToken (directive_of name) Unfit

abbrev pub number_kind_of : List ℕ → TokenKind
number_kind_of word = option_map_or Number (number_of word) Unfit

abbrev pub name_kind_of : List ℕ → Span → TokenKind
name_kind_of word span = option_map_or KeywordToken (keyword_of word) (Name span)

-- what a run of letters, digits and underscores is, perhaps with a point before it
abbrev pub word_kind : List ℕ → Span → TokenKind
word_kind [] span = Name span
word_kind (c ∷ cs) span =
    if c == 46 then directive_kind_of cs
    else if is_digit c then number_kind_of (c ∷ cs)
    else name_kind_of (c ∷ cs) span
