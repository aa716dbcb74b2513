-- The text of a source of words is that of its pieces.
use Rattle.std.proofs.Common.{◌≡◌, ◌==◌, ◌&&◌, not, ℕ, ◌/◌, ◌%◌, Bool, true, false, if◌then◌else◌, List, [], ◌∷◌, ◌++◌, map, Option, None, Some, codes, flat_map, append-nil, append_assoc, refl, sym, ap, ◌∙◌}
use Rattle.pio_asm.proofs.Shared.{IrqIndex, JmpCondition, Always, XZero, XDecrement, YZero, YDecrement, XNotY, PinHigh, OsrNotEmpty, InSource, InPins, OutDestination, OutPins, MovDestination, ToPins, MovSource, FromPins, SetDestination, SetPins, MovOperation, Plain, Invert, Reverse, WaitSource, Gpio, Pin, Flag, PioOp, Jmp, Wait, In, Out, Push, Pull, Mov, Irq, Set, Reserved, SideConfig, SideDelay, operation_of, side_at, keyword_name, KOpt, KPindirs, Piece, chars_of, joined, joined_lines, header, decimal, digits, delay_text, index_text, instruction_text, is_written, line_text, operation_text, side_text, source_text, wait_source_text, word_text}
use Rattle.pio_disasm.specs.Names.{condition_name, in_source_name, mov_destination_name, mov_operation_name, mov_source_name, out_destination_name, set_destination_name}
use Rattle.pio_asm.proofs.LinePieces.{condition_pieces, delay_if, delay_pieces, from_key, in_key, flag_pieces, index_pieces, instruction_if, instruction_pieces, is_nop, key, line_pieces, mov_operation_pieces, mov_pieces, num, operation_pieces, out_key, program_lines, rel_pieces, set_key, side_pieces, side_set_lines, tail_pieces, to_key, wait_pieces}

joined-append : (ps qs : List Piece) → joined (ps ++ qs) ≡ joined ps ++ joined qs
joined-append [] qs = refl
joined-append (p ∷ ps) qs = rw (joined-append ps qs) (sym (append_assoc (chars_of p) (joined ps) (joined qs)))

rel_text : (r : Bool) → joined (rel_pieces r) ≡ (if r then codes " rel" else [])
rel_text true = refl
rel_text false = refl

index_is : (i : IrqIndex) → joined (index_pieces i) ≡ index_text i
index_is i = ap (λ xs. decimal i.number ++ xs) (rel_text i.relative)

wait_is : (s : WaitSource) → joined (wait_pieces s) ≡ wait_source_text s
wait_is (Gpio n) = rw (append-nil (decimal n)) refl
wait_is (Pin n) = rw (append-nil (decimal n)) refl
wait_is (Flag i) = ap (λ xs. codes "irq " ++ xs) (index_is i)

in_is : (s : InSource) → keyword_name (in_key s) ≡ in_source_name s
in_is InPins = refl
in_is s = refl

out_is : (d : OutDestination) → keyword_name (out_key d) ≡ out_destination_name d
out_is OutPins = refl
out_is d = refl

to_is : (d : MovDestination) → keyword_name (to_key d) ≡ mov_destination_name d
to_is ToPins = refl
to_is d = refl

from_is : (s : MovSource) → keyword_name (from_key s) ≡ mov_source_name s
from_is FromPins = refl
from_is s = refl

set_is : (d : SetDestination) → keyword_name (set_key d) ≡ set_destination_name d
set_is SetPins = refl
set_is d = refl

-- a first word, a register and a number
counted_is : (first register : List ℕ) (n : ℕ) → first ++ (register ++ (44 ∷ 32 ∷ (decimal n ++ []))) ≡ ((first ++ register) ++ codes ", ") ++ decimal n
counted_is first register n = rw (append-nil (decimal n), append_assoc (first ++ register) (codes ", ") (decimal n), append_assoc first register (codes ", " ++ decimal n)) refl

from_text : (o : MovOperation) (s : MovSource) → joined (mov_operation_pieces o ++ key (from_key s) ∷ []) ≡ mov_operation_name o ++ mov_source_name s
from_text Plain s = append-nil (keyword_name (from_key s)) ∙ from_is s
from_text Invert s = ap (λ xs. 33 ∷ xs) (append-nil (keyword_name (from_key s)) ∙ from_is s)
from_text Reverse s = ap (λ xs. 58 ∷ 58 ∷ xs) (append-nil (keyword_name (from_key s)) ∙ from_is s)

mov_if_is : (b : Bool) (d : MovDestination) (o : MovOperation) (s : MovSource) → joined (mov_pieces b d o s) ≡ (if b then codes "nop" else codes "mov " ++ mov_destination_name d ++ codes ", " ++ mov_operation_name o ++ mov_source_name s)
mov_if_is true d o s = refl
mov_if_is false d o s = rw (from_text o s, to_is d) (simp append_assoc)

condition_is : (c : JmpCondition) (n : ℕ) → joined (condition_pieces c ++ num n ∷ []) ≡ condition_name c ++ decimal n
condition_is Always n = append-nil (decimal n)
condition_is XZero n = ap (λ xs. codes "!x " ++ xs) (append-nil (decimal n))
condition_is XDecrement n = ap (λ xs. codes "x-- " ++ xs) (append-nil (decimal n))
condition_is YZero n = ap (λ xs. codes "!y " ++ xs) (append-nil (decimal n))
condition_is YDecrement n = ap (λ xs. codes "y-- " ++ xs) (append-nil (decimal n))
condition_is XNotY n = ap (λ xs. codes "x!=y " ++ xs) (append-nil (decimal n))
condition_is PinHigh n = ap (λ xs. codes "pin " ++ xs) (append-nil (decimal n))
condition_is OsrNotEmpty n = ap (λ xs. codes "!osre " ++ xs) (append-nil (decimal n))

operation_is : (op : PioOp) → joined (operation_pieces op) ≡ operation_text op
unfolding digits
operation_is (Jmp c n) = ap (λ xs. codes "jmp " ++ xs) (condition_is c n) ∙ sym (append_assoc (codes "jmp ") (condition_name c) (decimal n))
operation_is (Wait true s) = ap (λ xs. codes "wait 1 " ++ xs) (wait_is s)
operation_is (Wait false s) = ap (λ xs. codes "wait 0 " ++ xs) (wait_is s)
operation_is (In s n) = counted_is (codes "in ") (keyword_name (in_key s)) n ∙ ap (λ xs. codes "in " ++ xs ++ codes ", " ++ decimal n) (in_is s)
operation_is (Out d n) = counted_is (codes "out ") (keyword_name (out_key d)) n ∙ ap (λ xs. codes "out " ++ xs ++ codes ", " ++ decimal n) (out_is d)
operation_is (Push true true) = refl
operation_is (Push true false) = refl
operation_is (Push false true) = refl
operation_is (Push false false) = refl
operation_is (Pull true true) = refl
operation_is (Pull true false) = refl
operation_is (Pull false true) = refl
operation_is (Pull false false) = refl
operation_is (Mov d o s) = mov_if_is (is_nop d o s) d o s
operation_is (Irq true w i) = ap (λ xs. codes "irq clear " ++ xs) (index_is i)
operation_is (Irq false true i) = ap (λ xs. codes "irq wait " ++ xs) (index_is i)
operation_is (Irq false false i) = ap (λ xs. codes "irq nowait " ++ xs) (index_is i)
operation_is (Set d n) = counted_is (codes "set ") (keyword_name (set_key d)) n ∙ ap (λ xs. codes "set " ++ xs ++ codes ", " ++ decimal n) (set_is d)
operation_is Reserved = refl

side_is : (v : Option ℕ) → joined (side_pieces v) ≡ side_text v
side_is None = refl
side_is (Some v) = ap (λ xs. codes " side " ++ xs) (append-nil (decimal v))

delay_if_is : (b : Bool) (d : ℕ) → joined (delay_if b d) ≡ (if b then [] else codes " [" ++ decimal d ++ codes "]")
delay_if_is true d = refl
delay_if_is false d = refl

tail_is : (side : SideDelay) → joined (tail_pieces side) ≡ side_text side.value ++ delay_text side.delay
tail_is side = joined-append (side_pieces side.value) (delay_pieces side.delay)
    ∙ ap (λ xs. xs ++ joined (delay_pieces side.delay)) (side_is side.value) ∙ ap (λ xs. side_text side.value ++ xs) (delay_if_is (side.delay == 0) side.delay)

instruction_if_is : (b : Bool) (op : PioOp) (side : SideDelay) (word : ℕ) → joined (instruction_if b op side word) ≡ (if b then operation_text op ++ side_text side.value ++ delay_text side.delay else word_text word)
instruction_if_is true op side word = joined-append (operation_pieces op) (tail_pieces side)
    ∙ ap (λ xs. xs ++ joined (tail_pieces side)) (operation_is op) ∙ ap (λ xs. operation_text op ++ xs) (tail_is side)
    ∙ sym (append_assoc (operation_text op) (side_text side.value) (delay_text side.delay))
instruction_if_is false op side word = refl

instruction_is : (op : PioOp) (side : Option SideDelay) (word : ℕ) → joined (instruction_pieces op side word) ≡ instruction_text op side word
instruction_is op None word = refl
instruction_is op (Some side) word = instruction_if_is (is_written op) op side word

line_is : (side : SideConfig) (word : ℕ) (rest : List ℕ) → joined (line_pieces side word) ++ 10 ∷ rest ≡ line_text side word ++ rest
line_is side word rest = ap (λ xs. xs ++ (10 ∷ rest)) (instruction_is (operation_of word) (side_at side (word / 256 % 32)) word)
    ∙ sym (append_assoc (instruction_text (operation_of word) (side_at side (word / 256 % 32)) word) (10 ∷ []) rest)

lines_are : (side : SideConfig) (words : List ℕ) → joined_lines (map (line_pieces side) words) ≡ flat_map (line_text side) words
lines_are side [] = refl
lines_are side (word ∷ words) = line_is side word (joined_lines (map (line_pieces side) words)) ∙ ap (λ xs. line_text side word ++ xs) (lines_are side words)

flags_are : (opt pindirs : Bool) (n : ℕ) → decimal n ++ joined (flag_pieces opt KOpt ++ flag_pieces pindirs KPindirs) ≡ (decimal n ++ (if opt then codes " opt" else [])) ++ (if pindirs then codes " pindirs" else [])
flags_are true true n = simp append_assoc
flags_are true false n = simp append-nil
flags_are false true n = simp append-nil
flags_are false false n = simp append-nil

side_set_if : (b : Bool) (side : SideConfig) (words : List ℕ) → joined_lines (side_set_lines b side ++ map (line_pieces side) words) ≡ (if b then [] else codes ".side_set " ++ decimal side.count ++ (if side.opt then codes " opt" else []) ++ (if side.pindirs then codes " pindirs" else []) ++ codes "\n") ++ flat_map (line_text side) words
side_set_if true side words = lines_are side words
side_set_if false side words =
    ap (λ xs. codes ".side_set " ++ xs ++ (10 ∷ joined_lines (map (line_pieces side) words))) (flags_are side.opt side.pindirs side.count)
    ∙ ap (λ xs. codes ".side_set " ++ ((decimal side.count ++ (if side.opt then codes " opt" else [])) ++ (if side.pindirs then codes " pindirs" else [])) ++ (10 ∷ xs)) (lines_are side words)
    ∙ sym (append_assoc (codes ".side_set " ++ ((decimal side.count ++ (if side.opt then codes " opt" else [])) ++ (if side.pindirs then codes " pindirs" else []))) (10 ∷ []) (flat_map (line_text side) words))

pub source_is : (side : SideConfig) (words : List ℕ) → header ++ joined_lines (program_lines side words) ≡ source_text side words
source_is side words = ap (λ xs. header ++ xs) (side_set_if ((side.count == 0) && not side.opt) side words)
