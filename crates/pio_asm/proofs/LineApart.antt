-- The pieces of a source of words are read one by one.
use Rattle.std.proofs.Common.{◌≡◌, ◌==◌, ℕ, ◌%◌, ◌<◌, ◌≤◌, Bool, true, false, List, [], ◌∷◌, ◌++◌, Option, None, Some, arith, lit<, refl}
use Rattle.pio_asm.proofs.Shared.{JmpCondition, Always, XZero, XDecrement, YZero, YDecrement, XNotY, PinHigh, OsrNotEmpty, MovDestination, MovSource, MovOperation, Plain, Invert, Reverse, WaitSource, Gpio, Pin, Flag, PioOp, Jmp, Wait, In, Out, Push, Pull, Mov, Irq, Set, Reserved, SideConfig, SideDelay, HasFields, IsWaitSource, KOpt, KPindirs, KJmp, KWait, KIn, KOut, KPush, KPull, KMov, KIrq, KSet, KNop, KSide, KGpio, KPin, KRel, KX, KY, KIfFull, KIfEmpty, KBlock, KNoBlock, KOsre, DirectiveToken, SideSet, WordDirective, directive_name, AreApart, IsRun, Piece, ends_word}
use Rattle.pio_asm.proofs.LinePieces.{condition_pieces, delay_if, delay_pieces, flag_pieces, from_key, in_key, is_nop, mode_key, mov_pieces, num, operation_pieces, out_key, rel_pieces, set_key, side_pieces, side_set_pieces, tail_pieces, to_key, wait_pieces, word_pieces}
use Rattle.pio_asm.proofs.LineRuns.{decimal_run, hex_run, key_run}

-- a number of at most five bits before what ends it
small : (n : ℕ) (ps : List Piece) → n ≤ 32 → ends_word ps ≡ true → AreApart ps → AreApart (num n ∷ ps)
small n ps le e a = (decimal_run n (omega arith), e, a)

condition_apart : (c : JmpCondition) (n : ℕ) (ps : List Piece) → AreApart (num n ∷ ps) → AreApart ((condition_pieces c ++ num n ∷ []) ++ ps)
condition_apart Always n ps a = a
condition_apart XZero n ps a = (refl, (key_run KX, refl, a))
condition_apart XDecrement n ps a = (key_run KX, refl, a)
condition_apart YZero n ps a = (refl, (key_run KY, refl, a))
condition_apart YDecrement n ps a = (key_run KY, refl, a)
condition_apart XNotY n ps a = (key_run KX, refl, (key_run KY, refl, a))
condition_apart PinHigh n ps a = (key_run KPin, refl, a)
condition_apart OsrNotEmpty n ps a = (refl, (key_run KOsre, refl, a))

index_apart : (n : ℕ) (r : Bool) (ps : List Piece) → n < 8 → ends_word ps ≡ true → AreApart ps → AreApart ((num n ∷ rel_pieces r) ++ ps)
index_apart n true ps lt e a = (decimal_run n (omega arith), refl, (key_run KRel, e, a))
index_apart n false ps lt e a = (decimal_run n (omega arith), e, a)

wait_apart : (s : WaitSource) (code low : ℕ) (ps : List Piece) → IsWaitSource s code low → ends_word ps ≡ true → AreApart ps → AreApart (wait_pieces s ++ ps)
wait_apart (Gpio n) code low ps h e a = (key_run KGpio, refl, (decimal_run n (let lt = h.2 in omega arith), e, a))
wait_apart (Pin n) code low ps h e a = (key_run KPin, refl, (decimal_run n (let lt = h.2 in omega arith), e, a))
wait_apart (Flag i) code low ps h e a = (key_run KIrq, refl, index_apart i.number i.relative ps h.1.1 e a)

mov_apart : (b : Bool) (d : MovDestination) (o : MovOperation) (s : MovSource) (ps : List Piece) → ends_word ps ≡ true → AreApart ps → AreApart (mov_pieces b d o s ++ ps)
mov_apart true d o s ps e a = (key_run KNop, e, a)
mov_apart false d Plain s ps e a = (key_run KMov, refl, (key_run (to_key d), refl, (key_run (from_key s), e, a)))
mov_apart false d Invert s ps e a = (key_run KMov, refl, (key_run (to_key d), refl, (refl, (key_run (from_key s), e, a))))
mov_apart false d Reverse s ps e a = (key_run KMov, refl, (key_run (to_key d), refl, (key_run (from_key s), e, a)))

operation_apart : (op : PioOp) (major middle low : ℕ) (ps : List Piece) → HasFields op major middle low → ends_word ps ≡ true → AreApart ps → AreApart (operation_pieces op ++ ps)
operation_apart (Jmp c n) major middle low ps h e a = (key_run KJmp, refl, condition_apart c n ps (decimal_run n (let lt = h.3 in omega arith), e, a))
operation_apart (Wait true s) major middle low ps h e a = (key_run KWait, refl, (decimal_run 1 (lit< tt), refl, wait_apart s (middle % 4) low ps h.2 e a))
operation_apart (Wait false s) major middle low ps h e a = (key_run KWait, refl, (decimal_run 0 (lit< tt), refl, wait_apart s (middle % 4) low ps h.2 e a))
operation_apart (In s n) major middle low ps h e a = (key_run KIn, refl, (key_run (in_key s), refl, (decimal_run n (let le = h.2.2 in omega arith), e, a)))
operation_apart (Out d n) major middle low ps h e a = (key_run KOut, refl, (key_run (out_key d), refl, (decimal_run n (let le = h.2.2 in omega arith), e, a)))
operation_apart (Push true true) major middle low ps h e a = (key_run KPush, refl, (key_run KIfFull, refl, (key_run KBlock, e, a)))
operation_apart (Push true false) major middle low ps h e a = (key_run KPush, refl, (key_run KIfFull, refl, (key_run KNoBlock, e, a)))
operation_apart (Push false true) major middle low ps h e a = (key_run KPush, refl, (key_run KBlock, e, a))
operation_apart (Push false false) major middle low ps h e a = (key_run KPush, refl, (key_run KNoBlock, e, a))
operation_apart (Pull true true) major middle low ps h e a = (key_run KPull, refl, (key_run KIfEmpty, refl, (key_run KBlock, e, a)))
operation_apart (Pull true false) major middle low ps h e a = (key_run KPull, refl, (key_run KIfEmpty, refl, (key_run KNoBlock, e, a)))
operation_apart (Pull false true) major middle low ps h e a = (key_run KPull, refl, (key_run KBlock, e, a))
operation_apart (Pull false false) major middle low ps h e a = (key_run KPull, refl, (key_run KNoBlock, e, a))
operation_apart (Mov d o s) major middle low ps h e a = mov_apart (is_nop d o s) d o s ps e a
operation_apart (Irq c w i) major middle low ps h e a = (key_run KIrq, refl, (key_run (mode_key c w), refl, index_apart i.number i.relative ps h.2.1 e a))
operation_apart (Set d n) major middle low ps h e a = (key_run KSet, refl, (key_run (set_key d), refl, (decimal_run n (let lt = h.3 in omega arith), e, a)))
operation_apart Reserved major middle low ps h e a = absurd h

-- the numbers of a side-set value and a delay are small
abbrev pub IsSmall : Option ℕ → Type 0
IsSmall None = Unit {0}
IsSmall (Some v) = v < 100

delay_apart : (b : Bool) (d : ℕ) → d < 100 → (ends_word (delay_if b d) ≡ true) × AreApart (delay_if b d)
delay_apart true d lt = (refl, tt)
delay_apart false d lt = (refl, (decimal_run d lt, refl, tt))

side_apart : (v : Option ℕ) (ps : List Piece) → IsSmall v → ends_word ps ≡ true → AreApart ps → (ends_word (side_pieces v ++ ps) ≡ true) × AreApart (side_pieces v ++ ps)
side_apart None ps lt e a = (e, a)
side_apart (Some v) ps lt e a = (refl, (key_run KSide, refl, (decimal_run v lt, e, a)))

-- the line of an instruction
pub instruction_apart : (op : PioOp) (side : SideDelay) (major middle low : ℕ) → HasFields op major middle low → IsSmall side.value → side.delay < 100 → AreApart (operation_pieces op ++ tail_pieces side)
instruction_apart op side major middle low h v d =
    let delay = delay_apart (side.delay == 0) side.delay d in
    let tail = side_apart side.value (delay_pieces side.delay) v delay.0 delay.1 in
    operation_apart op major middle low (tail_pieces side) h tail.0 tail.1

word_run : IsRun (46 ∷ directive_name WordDirective) (DirectiveToken WordDirective)
word_run = record { run = refl; plain = refl; inside = refl; names = λ span. refl }

pub word_apart : (word : ℕ) → word < 65536 → AreApart (word_pieces word)
word_apart word lt = (word_run, refl, (hex_run word lt, refl, tt))

side_set_run : IsRun (46 ∷ directive_name SideSet) (DirectiveToken SideSet)
side_set_run = record { run = refl; plain = refl; inside = refl; names = λ span. refl }

flags_apart : (opt pindirs : Bool) (n : ℕ) → n < 100 → AreApart (num n ∷ (flag_pieces opt KOpt ++ flag_pieces pindirs KPindirs))
flags_apart true true n lt = (decimal_run n lt, refl, (key_run KOpt, refl, (key_run KPindirs, refl, tt)))
flags_apart true false n lt = (decimal_run n lt, refl, (key_run KOpt, refl, tt))
flags_apart false true n lt = (decimal_run n lt, refl, (key_run KPindirs, refl, tt))
flags_apart false false n lt = (decimal_run n lt, refl, tt)

pub side_set_apart : (side : SideConfig) → side.count < 100 → AreApart (side_set_pieces side)
side_set_apart side lt = (side_set_run, refl, flags_apart side.opt side.pindirs side.count lt)
