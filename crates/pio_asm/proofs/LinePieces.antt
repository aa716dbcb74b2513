-- The line of an instruction word as the pieces that it is made of.
use Rattle.std.proofs.Common.{◌==◌, ◌&&◌, not, ℕ, ◌/◌, ◌%◌, Bool, true, false, List, [], ◌∷◌, ◌++◌, map, Option, None, Some}
use Rattle.pio_asm.proofs.Shared.{IrqIndex, JmpCondition, Always, XZero, XDecrement, YZero, YDecrement, XNotY, PinHigh, OsrNotEmpty, InSource, InPins, InX, InY, InNull, InIsr, InOsr, OutDestination, OutPins, OutX, OutY, OutNull, OutPindirs, OutPc, OutIsr, OutExec, MovDestination, ToPins, ToX, ToY, ToExec, ToPc, ToIsr, ToOsr, MovSource, FromPins, FromX, FromY, FromNull, FromStatus, FromIsr, FromOsr, SetDestination, SetPins, SetX, SetY, SetPindirs, MovOperation, Plain, Invert, Reverse, WaitSource, Gpio, Pin, Flag, PioOp, Jmp, Wait, In, Out, Push, Pull, Mov, Irq, Set, Reserved, SideConfig, SideDelay, bit, operation_of, side_at, Keyword, KOpt, KPindirs, KJmp, KWait, KIn, KOut, KPush, KPull, KMov, KIrq, KSet, KNop, KSide, KGpio, KPin, KRel, KPins, KX, KY, KNull, KIsr, KOsr, KPc, KExec, KStatus, KIfFull, KIfEmpty, KBlock, KNoBlock, KNoWait, KClear, KOsre, SideSet, WordDirective, KeywordToken, DirectiveToken, NumberToken as Number, directive_name, keyword_name, Piece, Blank, Run, Comma, Minus, Open, Close, Bang, Colons, NotEqual, decimal, hex_half, is_from_y, is_plain, is_to_y, is_written}

abbrev pub key : Keyword → Piece
key keyword = Run (keyword_name keyword) (KeywordToken keyword)

abbrev pub num : ℕ → Piece
num n = Run (decimal n) (Number n)

abbrev pub hex : ℕ → Piece
hex n = Run (48 ∷ 120 ∷ hex_half n) (Number n)

abbrev pub condition_pieces : JmpCondition → List Piece
condition_pieces Always = []
condition_pieces XZero = Bang ∷ key KX ∷ Blank ∷ []
condition_pieces XDecrement = key KX ∷ Minus ∷ Minus ∷ Blank ∷ []
condition_pieces YZero = Bang ∷ key KY ∷ Blank ∷ []
condition_pieces YDecrement = key KY ∷ Minus ∷ Minus ∷ Blank ∷ []
condition_pieces XNotY = key KX ∷ NotEqual ∷ key KY ∷ Blank ∷ []
condition_pieces PinHigh = key KPin ∷ Blank ∷ []
condition_pieces OsrNotEmpty = Bang ∷ key KOsre ∷ Blank ∷ []

abbrev pub in_key : InSource → Keyword
in_key InPins = KPins
in_key InX = KX
in_key InY = KY
in_key InNull = KNull
in_key InIsr = KIsr
in_key InOsr = KOsr

abbrev pub out_key : OutDestination → Keyword
out_key OutPins = KPins
out_key OutX = KX
out_key OutY = KY
out_key OutNull = KNull
out_key OutPindirs = KPindirs
out_key OutPc = KPc
out_key OutIsr = KIsr
out_key OutExec = KExec

abbrev pub to_key : MovDestination → Keyword
to_key ToPins = KPins
to_key ToX = KX
to_key ToY = KY
to_key ToExec = KExec
to_key ToPc = KPc
to_key ToIsr = KIsr
to_key ToOsr = KOsr

abbrev pub from_key : MovSource → Keyword
from_key FromPins = KPins
from_key FromX = KX
from_key FromY = KY
from_key FromNull = KNull
from_key FromStatus = KStatus
from_key FromIsr = KIsr
from_key FromOsr = KOsr

abbrev pub set_key : SetDestination → Keyword
set_key SetPins = KPins
set_key SetX = KX
set_key SetY = KY
set_key SetPindirs = KPindirs

abbrev pub rel_pieces : Bool → List Piece
rel_pieces true = Blank ∷ key KRel ∷ []
rel_pieces false = []

abbrev pub index_pieces : IrqIndex → List Piece
index_pieces index = num index.number ∷ rel_pieces index.relative

abbrev pub wait_pieces : WaitSource → List Piece
wait_pieces (Gpio n) = key KGpio ∷ Blank ∷ num n ∷ []
wait_pieces (Pin n) = key KPin ∷ Blank ∷ num n ∷ []
wait_pieces (Flag index) = key KIrq ∷ Blank ∷ index_pieces index

abbrev pub block_key : Bool → Keyword
block_key true = KBlock
block_key false = KNoBlock

abbrev pub if_pieces : Bool → Keyword → List Piece
if_pieces true keyword = key keyword ∷ Blank ∷ []
if_pieces false keyword = []

abbrev pub mode_key : Bool → Bool → Keyword
mode_key true wait = KClear
mode_key false true = KWait
mode_key false false = KNoWait

abbrev pub mov_operation_pieces : MovOperation → List Piece
mov_operation_pieces Plain = []
mov_operation_pieces Invert = Bang ∷ []
mov_operation_pieces Reverse = Colons ∷ []

abbrev pub is_nop : MovDestination → MovOperation → MovSource → Bool
is_nop d o s = is_to_y d && is_plain o && is_from_y s

abbrev pub mov_pieces : Bool → MovDestination → MovOperation → MovSource → List Piece
mov_pieces true d o s = key KNop ∷ []
mov_pieces false d o s = key KMov ∷ Blank ∷ key (to_key d) ∷ Comma ∷ Blank ∷ (mov_operation_pieces o ++ key (from_key s) ∷ [])

abbrev pub operation_pieces : PioOp → List Piece
operation_pieces (Jmp c n) = key KJmp ∷ Blank ∷ (condition_pieces c ++ num n ∷ [])
operation_pieces (Wait p s) = key KWait ∷ Blank ∷ num (bit p) ∷ Blank ∷ wait_pieces s
operation_pieces (In s n) = key KIn ∷ Blank ∷ key (in_key s) ∷ Comma ∷ Blank ∷ num n ∷ []
operation_pieces (Out d n) = key KOut ∷ Blank ∷ key (out_key d) ∷ Comma ∷ Blank ∷ num n ∷ []
operation_pieces (Push f b) = key KPush ∷ Blank ∷ (if_pieces f KIfFull ++ key (block_key b) ∷ [])
operation_pieces (Pull e b) = key KPull ∷ Blank ∷ (if_pieces e KIfEmpty ++ key (block_key b) ∷ [])
operation_pieces (Mov d o s) = mov_pieces (is_nop d o s) d o s
operation_pieces (Irq c w i) = key KIrq ∷ Blank ∷ key (mode_key c w) ∷ Blank ∷ index_pieces i
operation_pieces (Set d n) = key KSet ∷ Blank ∷ key (set_key d) ∷ Comma ∷ Blank ∷ num n ∷ []
operation_pieces Reserved = []

abbrev pub side_pieces : Option ℕ → List Piece
side_pieces None = []
side_pieces (Some v) = Blank ∷ key KSide ∷ Blank ∷ num v ∷ []

abbrev pub delay_if : Bool → ℕ → List Piece
delay_if true d = []
delay_if false d = Blank ∷ Open ∷ num d ∷ Close ∷ []

abbrev pub delay_pieces : ℕ → List Piece
delay_pieces d = delay_if (d == 0) d

abbrev pub tail_pieces : SideDelay → List Piece
tail_pieces side = side_pieces side.value ++ delay_pieces side.delay

abbrev pub word_pieces : ℕ → List Piece
word_pieces word = Run (46 ∷ directive_name WordDirective) (DirectiveToken WordDirective) ∷ Blank ∷ hex word ∷ []

abbrev pub instruction_if : Bool → PioOp → SideDelay → ℕ → List Piece
instruction_if true op side word = operation_pieces op ++ tail_pieces side
instruction_if false op side word = word_pieces word

abbrev pub instruction_pieces : PioOp → Option SideDelay → ℕ → List Piece
instruction_pieces op None word = word_pieces word
instruction_pieces op (Some side) word = instruction_if (is_written op) op side word

abbrev pub line_pieces : SideConfig → ℕ → List Piece
line_pieces side word = instruction_pieces (operation_of word) (side_at side (word / 256 % 32)) word

abbrev pub flag_pieces : Bool → Keyword → List Piece
flag_pieces true keyword = Blank ∷ key keyword ∷ []
flag_pieces false keyword = []

abbrev pub side_set_pieces : SideConfig → List Piece
side_set_pieces side = Run (46 ∷ directive_name SideSet) (DirectiveToken SideSet) ∷ Blank ∷ num side.count ∷ (flag_pieces side.opt KOpt ++ flag_pieces side.pindirs KPindirs)

abbrev pub side_set_lines : Bool → SideConfig → List (List Piece)
side_set_lines true side = []
side_set_lines false side = side_set_pieces side ∷ []

abbrev pub program_lines : SideConfig → List ℕ → List (List Piece)
program_lines side words = side_set_lines ((side.count == 0) && not side.opt) side ++ map (line_pieces side) words
