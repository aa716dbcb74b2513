-- The source of a program of given words (RP2040 Datasheet, 3.4.2 to 3.4.10, Assembler Syntax; 3.3, Directives). Which of the
-- forms of an instruction is written is the project's own.
use Rattle.std.specs.Prelude.{◌==◌, ◌&&◌, not, ℕ, ◌/◌, ◌%◌, Bool, true, false, if◌then◌else◌, List, [], ◌∷◌, ◌++◌, Option, None, Some, codes, decimal, flat_map}
use Rattle.std.specs.Char.{digit_char}
use Rattle.pio_words.specs.declared.op.IrqIndex.{IrqIndex}
use Rattle.pio_words.specs.declared.op.WaitSource.{WaitSource}
use Rattle.pio_words.specs.declared.op.WaitSource.TheVariants.{Gpio, Pin, Irq as WaitIrq}
use Rattle.pio_words.specs.declared.op.MovDestination.{MovDestination}
use Rattle.pio_words.specs.declared.op.MovDestination.TheVariants.{Y as MovToY}
use Rattle.pio_words.specs.declared.op.MovOperation.{MovOperation}
use Rattle.pio_words.specs.declared.op.MovOperation.TheVariants.{Plain}
use Rattle.pio_words.specs.declared.op.MovSource.{MovSource}
use Rattle.pio_words.specs.declared.op.MovSource.TheVariants.{Y as MovFromY}
use Rattle.pio_words.specs.declared.op.PioOp.{PioOp}
use Rattle.pio_words.specs.declared.op.PioOp.TheVariants.{Jmp, Wait, In, Out, Push, Pull, Mov, Irq, Set, Reserved}
use Rattle.pio_words.specs.declared.side.SideConfig.{SideConfig}
use Rattle.pio_words.specs.declared.side.SideDelay.{SideDelay}
use Rattle.pio_words.specs.Operation.{operation_of}
use Rattle.pio_words.specs.Side.{side_at}
use Rattle.pio_disasm.specs.Names.{condition_name, in_source_name, mov_destination_name, mov_operation_name, mov_source_name, out_destination_name, set_destination_name}

-- a halfword in four hexadecimal digits, in lower case
abbrev pub hex_half : ℕ → List ℕ
hex_half n = digit_char (n / 4096 % 16) ∷ digit_char (n / 256 % 16) ∷ digit_char (n / 16 % 16) ∷ digit_char (n % 16) ∷ []

abbrev pub index_text : IrqIndex → List ℕ
index_text index = decimal index.number ++ (if index.relative then codes " rel" else [])

abbrev pub wait_source_text : WaitSource → List ℕ
wait_source_text (Gpio n) = codes "gpio " ++ decimal n
wait_source_text (Pin n) = codes "pin " ++ decimal n
wait_source_text (WaitIrq index) = codes "irq " ++ index_text index

abbrev pub block_text : Bool → List ℕ
block_text true = codes "block"
block_text false = codes "noblock"

abbrev pub irq_mode_text : Bool → Bool → List ℕ
irq_mode_text true wait = codes "clear "
irq_mode_text false true = codes "wait "
irq_mode_text false false = codes "nowait "

abbrev pub is_to_y : MovDestination → Bool
is_to_y MovToY = true
is_to_y register = false

abbrev pub is_plain : MovOperation → Bool
is_plain Plain = true
is_plain operation = false

abbrev pub is_from_y : MovSource → Bool
is_from_y MovFromY = true
is_from_y register = false

-- `mov y, y` is `nop`
abbrev pub mov_text : MovDestination → MovOperation → MovSource → List ℕ
mov_text destination operation source =
    if is_to_y destination && is_plain operation && is_from_y source
    then codes "nop"
    else codes "mov " ++ mov_destination_name destination ++ codes ", " ++ mov_operation_name operation ++ mov_source_name source

-- an instruction without its side-set value and its delay (RP2040 Datasheet, 3.4)
abbrev pub operation_text : PioOp → List ℕ
operation_text (Jmp condition address) = codes "jmp " ++ condition_name condition ++ decimal address
operation_text (Wait polarity source) = codes "wait " ++ (if polarity then codes "1 " else codes "0 ") ++ wait_source_text source
operation_text (In source count) = codes "in " ++ in_source_name source ++ codes ", " ++ decimal count
operation_text (Out destination count) = codes "out " ++ out_destination_name destination ++ codes ", " ++ decimal count
operation_text (Push if_full block) = codes "push " ++ (if if_full then codes "iffull " else []) ++ block_text block
operation_text (Pull if_empty block) = codes "pull " ++ (if if_empty then codes "ifempty " else []) ++ block_text block
operation_text (Mov destination operation source) = mov_text destination operation source
operation_text (Irq clear wait index) = codes "irq " ++ irq_mode_text clear wait ++ index_text index
operation_text (Set destination value) = codes "set " ++ set_destination_name destination ++ codes ", " ++ decimal value
operation_text Reserved = []

-- no instruction of the source language makes a reserved word, nor an IRQ word that both clears and waits
abbrev pub is_written : PioOp → Bool
is_written (Irq clear wait index) = not (clear && wait)
is_written Reserved = false
is_written op = true

abbrev pub side_text : Option ℕ → List ℕ
side_text None = []
side_text (Some value) = codes " side " ++ decimal value

abbrev pub delay_text : ℕ → List ℕ
delay_text delay = if delay == 0 then [] else codes " [" ++ decimal delay ++ codes "]"

abbrev pub word_text : ℕ → List ℕ
word_text word = codes ".word 0x" ++ hex_half word

abbrev pub instruction_text : PioOp → Option SideDelay → ℕ → List ℕ
instruction_text op None word = word_text word
instruction_text op (Some side) word = if is_written op then operation_text op ++ side_text side.value ++ delay_text side.delay else word_text word

-- the line of a word: the text of the instruction that stands with it, or `.word` where there is none
abbrev pub line_text : SideConfig → ℕ → List ℕ
line_text side word = instruction_text (operation_of word) (side_at side (word / 256 % 32)) word ++ codes "\n"

-- the side-set directive (RP2040 Datasheet, 3.3, Directives); without a side-set there is none
abbrev pub side_set_text : SideConfig → List ℕ
side_set_text side =
    if (side.count == 0) && not side.opt
    then []
    else codes ".side_set " ++ decimal side.count ++ (if side.opt then codes " opt" else []) ++ (if side.pindirs then codes " pindirs" else []) ++ codes "\n"

-- the source of a program of these words
abbrev pub source_text : SideConfig → List ℕ → List ℕ
source_text side words = codes ".program code\n" ++ side_set_text side ++ flat_map (line_text side) words
