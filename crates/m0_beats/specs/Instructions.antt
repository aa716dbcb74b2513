-- The table of instructions: how each is written and what it does, in the order of the manual (ARMv6-M Architecture Reference
-- Manual, A5.2, A5.3 and A6.7; ARM Cortex-M0+ Technical Reference Manual, 3.3, Instruction set summary). In a meaning, `r k` is the
-- register of that number, with 13 for SP and 15 for PC, and `c` is the carry flag.
use Rattle.std.specs.Prelude.{ℕ, ◌+◌, ◌-◌, ◌*◌, ◌/◌, ◌%◌, ◌^◌, Bool, true, false, ◌==◌, nat_lt, if◌then◌else◌, List, [], ◌∷◌, Option, Some, None, bit_and, bit_or, bit_xor, slice_index}
use Prim.Native.String.{String}
use Rattle.std.specs.Bool.{beq}
use Rattle.std.specs.Int.{w32, bit_not}
use Rattle.std.specs.List.{list_any}
use Rattle.rp_base.specs.Word.{bit_number, has_bit}
use Rattle.rp_base.specs.declared.Size.{Size}
use Rattle.rp_base.specs.declared.Size.TheVariants.{Byte, Half, Word}
use Rattle.rp_base.specs.declared.op.Op.{Op}
use Rattle.rp_base.specs.declared.op.Op.TheVariants as op
use Rattle.m0_alu.specs.Sum.{add_with_carry}
use Rattle.m0_alu.specs.Shift.{shifted}
use Rattle.m0_alu.specs.Extend.{extended}
use Rattle.m0_alu.specs.Product.{product_of}
use Rattle.m0_alu.specs.declared.ShiftKind.TheVariants.{Lsl, Lsr, Asr, Ror}
use Rattle.m0_alu.specs.declared.ExtendKind.TheVariants as extends
use Rattle.m0_beats.specs.declared.registers.Regs.{Regs}
use Rattle.m0_beats.specs.declared.timing.Beat.{Beat}
use Rattle.m0_beats.specs.declared.timing.Beat.TheVariants.{Inner}
use Rattle.m0_beats.specs.Patterns.{Encoding, Halfword, bits, bits_but}
use Rattle.m0_beats.specs.Registers.{register_of, moved_on}
use Rattle.m0_beats.specs.Conditions.{condition_holds}
use Rattle.m0_beats.specs.Beats.{stored, registers_of, reads, writes, push_address, one_access, inner, inner_to, pop_beats, is_unaligned_beat}
use Rattle.m0_beats.specs.Effects.{after_sum, after_word, after_shift, after_value, branched, branched_if, branched_link, exchanged, exchanged_link, loaded, after_load_many, after_store_many, after_push, after_pop, after_read_special, after_write_special, after_mask, returned, returned_pop}

pub record Meaning : Type 0 where
  -- its cycles inside the core and its accesses, in order
  pub beats : Regs → List Beat
  -- what it leaves in registers and flags, by the values that its accesses read
  pub effect : Regs → List ℕ → Regs
  -- the value with which it begins an exception return, if it does
  pub returns : Regs → List ℕ → Option ℕ

-- ---- operands

-- a shift to the right by the number 0 is one by 32 (A6.4.2, DecodeImmShift)
abbrev pub right_amount : ℕ → ℕ
right_amount i = if i == 0 then 32 else i

-- a number of some bits with its sign, as a word (SignExtend)
abbrev pub sign_extended : ℕ → ℕ → ℕ
sign_extended bits i =
    if nat_lt i (2 ^ (bits - 1)) then i else (2 ^ 32 - 2 ^ bits + i) % 2 ^ 32

-- the offset of BL: S, I1 and I2, the 21 bits and a 0, where I1 is J1 where S is set and its opposite elsewhere, and
-- likewise I2 and J2 (A6.7.13)
abbrev pub link_offset : Bool → ℕ → ℕ → ℕ
link_offset s i j =
    sign_extended 25
    (bit_number s * 2 ^ 24 + bit_number (beq s (has_bit j 1)) * 2 ^ 23 + bit_number (beq s (has_bit j 0)) * 2 ^ 22
    + i % 2 ^ 21 * 2)

-- ---- kinds of instructions

-- these beats and this effect, and no exception return
abbrev pub over : (Regs → List Beat) → (Regs → List ℕ → Regs) → Meaning
over beats effect = record { beats = beats; effect = effect; returns = λ s read. None }

-- so many cycles inside the core
abbrev pub inside : ℕ → (Regs → Regs) → Meaning
inside count after = over (λ s. inner count) (λ s read. after s)

-- a sum sets N, Z, C and V; a comparison has no destination
abbrev pub sum : Option ℕ → ((ℕ → ℕ) → Bool → ℕ × Bool × Bool) → Meaning
sum d out = inside 1 (λ s. after_sum d (out (register_of s) s.c) s)

-- a shift sets N, Z and C
abbrev pub shift : ℕ → ((ℕ → ℕ) → Bool → ℕ × Bool) → Meaning
shift d out = inside 1 (λ s. after_shift d (out (register_of s) s.c) s)

-- a word sets N and Z; TST has no destination
abbrev pub word : Option ℕ → ((ℕ → ℕ) → ℕ) → Meaning
word d out = inside 1 (λ s. after_word d (out (register_of s)) s)

-- a value sets no flag, and one that may go to PC takes two cycles there
abbrev pub value : ℕ → ((ℕ → ℕ) → ℕ) → Meaning
value d out = inside 1 (λ s. after_value d (out (register_of s)) s)

abbrev pub value_to : ℕ → ((ℕ → ℕ) → ℕ) → Meaning
value_to d out = record (value d out) { beats = λ s. inner_to d }

-- a load and a store of one register
abbrev pub load : ℕ → Size → Bool → ((ℕ → ℕ) → ℕ) → Meaning
load t size sign address =
    over (λ s. one_access (address (register_of s)) size None) (λ s read. after_value t (loaded size sign (slice_index read 0)) s)

abbrev pub store : ℕ → Size → ((ℕ → ℕ) → ℕ) → Meaning
store t size address =
    over (λ s. one_access (address (register_of s)) size (Some (stored size (register_of s t)))) (λ s read. moved_on s 2)

-- loads and stores of several registers
abbrev pub push : ℕ → Meaning
push list = over (λ s. Inner ∷ writes (push_address list s) (registers_of list) s) (λ s read. after_push list s)

abbrev pub pop : ℕ → Meaning
pop list = record { beats = pop_beats list; effect = after_pop list; returns = returned_pop list }

abbrev pub store_many : ℕ → ℕ → Meaning
store_many n list =
    over (λ s. Inner ∷ writes (register_of s n) (registers_of list) s) (λ s read. after_store_many n list s)

abbrev pub load_many : ℕ → ℕ → Meaning
load_many n list = over (λ s. Inner ∷ reads (register_of s n) (registers_of list)) (after_load_many n list)

-- a branch where a condition holds, and one to a register
abbrev pub branch_if : ℕ → ℕ → Meaning
branch_if condition offset =
    over (λ s. if condition_holds condition s then inner 2 else inner 1) (λ s read. branched_if condition offset s)

abbrev pub exchange : ℕ → Meaning
exchange m = record (inside 2 (λ s. exchanged s (register_of s m))) { returns = λ s read. returned s (register_of s m) }

-- ---- the instructions

-- a row: the patterns, with the operands in order of their letters, and what the instruction does
pub record Instruction : Type 0 where
  pub encoding : Option Encoding
  pub meaning : Meaning

abbrev pub short_but : List String → String → List ℕ → Meaning → Instruction
short_but others pattern operands meaning =
    record { encoding = Some (record { first = bits_but others pattern operands; second = None }); meaning = meaning }

abbrev pub short : String → List ℕ → Meaning → Instruction
short pattern operands = short_but [] pattern operands

abbrev pub long : Halfword → Halfword → Meaning → Instruction
long first second meaning = record { encoding = Some (record { first = first; second = Some second }); meaning = meaning }

abbrev pub instruction : Op → Instruction
-- shift, add, subtract, move and compare (A5.2.1)
instruction (op.LslImm i m d) = short "00000iiiiimmmddd" (i ∷ m ∷ d ∷ []) (shift d (λ r c. shifted Lsl (r m) i c))
instruction (op.LsrImm i m d) = short "00001iiiiimmmddd" (i ∷ m ∷ d ∷ []) (shift d (λ r c. shifted Lsr (r m) (right_amount i) c))
instruction (op.AsrImm i m d) = short "00010iiiiimmmddd" (i ∷ m ∷ d ∷ []) (shift d (λ r c. shifted Asr (r m) (right_amount i) c))
instruction (op.AddReg m n d) = short "0001100mmmnnnddd" (m ∷ n ∷ d ∷ []) (sum (Some d) (λ r c. add_with_carry (r n) (r m) false))
instruction (op.SubReg m n d) =
    short "0001101mmmnnnddd" (m ∷ n ∷ d ∷ []) (sum (Some d) (λ r c. add_with_carry (r n) (bit_not w32 (r m)) true))
instruction (op.AddImm3 i n d) = short "0001110iiinnnddd" (i ∷ n ∷ d ∷ []) (sum (Some d) (λ r c. add_with_carry (r n) i false))
instruction (op.SubImm3 i n d) =
    short "0001111iiinnnddd" (i ∷ n ∷ d ∷ []) (sum (Some d) (λ r c. add_with_carry (r n) (bit_not w32 i) true))
instruction (op.MovImm d i) = short "00100dddiiiiiiii" (d ∷ i ∷ []) (word (Some d) (λ r. i))
instruction (op.CmpImm d i) = short "00101dddiiiiiiii" (d ∷ i ∷ []) (sum None (λ r c. add_with_carry (r d) (bit_not w32 i) true))
instruction (op.AddImm8 d i) = short "00110dddiiiiiiii" (d ∷ i ∷ []) (sum (Some d) (λ r c. add_with_carry (r d) i false))
instruction (op.SubImm8 d i) =
    short "00111dddiiiiiiii" (d ∷ i ∷ []) (sum (Some d) (λ r c. add_with_carry (r d) (bit_not w32 i) true))
-- data processing (A5.2.2); a shift by a register is by its low byte
instruction (op.And m d) = short "0100000000mmmddd" (m ∷ d ∷ []) (word (Some d) (λ r. bit_and (r d) (r m)))
instruction (op.Eor m d) = short "0100000001mmmddd" (m ∷ d ∷ []) (word (Some d) (λ r. bit_xor (r d) (r m)))
instruction (op.LslReg m d) = short "0100000010mmmddd" (m ∷ d ∷ []) (shift d (λ r c. shifted Lsl (r d) (r m % 2 ^ 8) c))
instruction (op.LsrReg m d) = short "0100000011mmmddd" (m ∷ d ∷ []) (shift d (λ r c. shifted Lsr (r d) (r m % 2 ^ 8) c))
instruction (op.AsrReg m d) = short "0100000100mmmddd" (m ∷ d ∷ []) (shift d (λ r c. shifted Asr (r d) (r m % 2 ^ 8) c))
instruction (op.Adc m d) = short "0100000101mmmddd" (m ∷ d ∷ []) (sum (Some d) (λ r c. add_with_carry (r d) (r m) c))
instruction (op.Sbc m d) =
    short "0100000110mmmddd" (m ∷ d ∷ []) (sum (Some d) (λ r c. add_with_carry (r d) (bit_not w32 (r m)) c))
instruction (op.Ror m d) = short "0100000111mmmddd" (m ∷ d ∷ []) (shift d (λ r c. shifted Ror (r d) (r m % 2 ^ 8) c))
instruction (op.Tst m d) = short "0100001000mmmddd" (m ∷ d ∷ []) (word None (λ r. bit_and (r d) (r m)))
instruction (op.Rsb m d) = short "0100001001mmmddd" (m ∷ d ∷ []) (sum (Some d) (λ r c. add_with_carry 0 (bit_not w32 (r m)) true))
instruction (op.Cmp m d) = short "0100001010mmmddd" (m ∷ d ∷ []) (sum None (λ r c. add_with_carry (r d) (bit_not w32 (r m)) true))
instruction (op.Cmn m d) = short "0100001011mmmddd" (m ∷ d ∷ []) (sum None (λ r c. add_with_carry (r d) (r m) false))
instruction (op.Orr m d) = short "0100001100mmmddd" (m ∷ d ∷ []) (word (Some d) (λ r. bit_or (r d) (r m)))
instruction (op.Mul m d) = short "0100001101mmmddd" (m ∷ d ∷ []) (word (Some d) (λ r. product_of (r d) (r m)))
instruction (op.Bic m d) = short "0100001110mmmddd" (m ∷ d ∷ []) (word (Some d) (λ r. bit_and (r d) (bit_not w32 (r m))))
instruction (op.Mvn m d) = short "0100001111mmmddd" (m ∷ d ∷ []) (word (Some d) (λ r. bit_not w32 (r m)))
-- special data instructions, and branch and exchange (A5.2.3): bit 3 of a register stands alone; xxx is 000
instruction (op.AddHigh d m) = short "01000100Dmmmmddd" (d / 8 ∷ m ∷ d % 8 ∷ []) (value_to d (λ r. (r d + r m) % 2 ^ 32))
instruction (op.CmpHigh d m) =
    short "01000101Dmmmmddd" (d / 8 ∷ m ∷ d % 8 ∷ []) (sum None (λ r c. add_with_carry (r d) (bit_not w32 (r m)) true))
instruction (op.MovHigh d m) = short "01000110Dmmmmddd" (d / 8 ∷ m ∷ d % 8 ∷ []) (value_to d (λ r. r m))
instruction (op.Bx m) = short "010001110mmmmxxx" (m ∷ 0 ∷ []) (exchange m)
instruction (op.Blx m) = short "010001111mmmmxxx" (m ∷ 0 ∷ []) (inside 2 (λ s. exchanged_link s (register_of s m)))
-- load from literal pool (A5.2): the base is Align(PC, 4)
instruction (op.LdrLit t i) = short "01001tttiiiiiiii" (t ∷ i ∷ []) (load t Word false (λ r. r 15 / 4 * 4 + 4 * i))
-- load and store single data item (A5.2.4)
instruction (op.StrReg m n t) = short "0101000mmmnnnttt" (m ∷ n ∷ t ∷ []) (store t Word (λ r. r n + r m))
instruction (op.StrhReg m n t) = short "0101001mmmnnnttt" (m ∷ n ∷ t ∷ []) (store t Half (λ r. r n + r m))
instruction (op.StrbReg m n t) = short "0101010mmmnnnttt" (m ∷ n ∷ t ∷ []) (store t Byte (λ r. r n + r m))
instruction (op.LdrsbReg m n t) = short "0101011mmmnnnttt" (m ∷ n ∷ t ∷ []) (load t Byte true (λ r. r n + r m))
instruction (op.LdrReg m n t) = short "0101100mmmnnnttt" (m ∷ n ∷ t ∷ []) (load t Word false (λ r. r n + r m))
instruction (op.LdrhReg m n t) = short "0101101mmmnnnttt" (m ∷ n ∷ t ∷ []) (load t Half false (λ r. r n + r m))
instruction (op.LdrbReg m n t) = short "0101110mmmnnnttt" (m ∷ n ∷ t ∷ []) (load t Byte false (λ r. r n + r m))
instruction (op.LdrshReg m n t) = short "0101111mmmnnnttt" (m ∷ n ∷ t ∷ []) (load t Half true (λ r. r n + r m))
instruction (op.StrImm i n t) = short "01100iiiiinnnttt" (i ∷ n ∷ t ∷ []) (store t Word (λ r. r n + 4 * i))
instruction (op.LdrImm i n t) = short "01101iiiiinnnttt" (i ∷ n ∷ t ∷ []) (load t Word false (λ r. r n + 4 * i))
instruction (op.StrbImm i n t) = short "01110iiiiinnnttt" (i ∷ n ∷ t ∷ []) (store t Byte (λ r. r n + i))
instruction (op.LdrbImm i n t) = short "01111iiiiinnnttt" (i ∷ n ∷ t ∷ []) (load t Byte false (λ r. r n + i))
instruction (op.StrhImm i n t) = short "10000iiiiinnnttt" (i ∷ n ∷ t ∷ []) (store t Half (λ r. r n + 2 * i))
instruction (op.LdrhImm i n t) = short "10001iiiiinnnttt" (i ∷ n ∷ t ∷ []) (load t Half false (λ r. r n + 2 * i))
instruction (op.StrSp t i) = short "10010tttiiiiiiii" (t ∷ i ∷ []) (store t Word (λ r. r 13 + 4 * i))
instruction (op.LdrSp t i) = short "10011tttiiiiiiii" (t ∷ i ∷ []) (load t Word false (λ r. r 13 + 4 * i))
-- addresses from PC and from SP (A5.2)
instruction (op.Adr d i) = short "10100dddiiiiiiii" (d ∷ i ∷ []) (value_to d (λ r. (r 15 / 4 * 4 + 4 * i) % 2 ^ 32))
instruction (op.AddSp d i) = short "10101dddiiiiiiii" (d ∷ i ∷ []) (value_to d (λ r. (r 13 + 4 * i) % 2 ^ 32))
-- miscellaneous (A5.2.5): the list of a meaning has bit 14 for LR and bit 15 for PC, and CPSID sets PRIMASK; NOP is BF00
instruction (op.AddSpImm i) = short "101100000iiiiiii" (i ∷ []) (value 13 (λ r. (r 13 + 4 * i) % 2 ^ 32))
instruction (op.SubSpImm i) = short "101100001iiiiiii" (i ∷ []) (value 13 (λ r. (r 13 + (2 ^ 32 - 4 * i)) % 2 ^ 32))
instruction (op.Sxth m d) = short "1011001000mmmddd" (m ∷ d ∷ []) (value d (λ r. extended extends.Sxth (r m)))
instruction (op.Sxtb m d) = short "1011001001mmmddd" (m ∷ d ∷ []) (value d (λ r. extended extends.Sxtb (r m)))
instruction (op.Uxth m d) = short "1011001010mmmddd" (m ∷ d ∷ []) (value d (λ r. extended extends.Uxth (r m)))
instruction (op.Uxtb m d) = short "1011001011mmmddd" (m ∷ d ∷ []) (value d (λ r. extended extends.Uxtb (r m)))
instruction (op.Push r l) =
    short_but ("1011010000000000" ∷ []) "1011010rllllllll" (bit_number r ∷ l ∷ []) (push (bit_number r * 2 ^ 14 + l))
instruction (op.Pop r l) =
    short_but ("1011110000000000" ∷ []) "1011110rllllllll" (bit_number r ∷ l ∷ []) (pop (bit_number r * 2 ^ 15 + l))
instruction op.Cpsie = short "1011011001100010" [] (inside 1 (after_mask false))
instruction op.Cpsid = short "1011011001110010" [] (inside 1 (after_mask true))
instruction (op.Rev m d) = short "1011101000mmmddd" (m ∷ d ∷ []) (value d (λ r. extended extends.Rev (r m)))
instruction (op.Rev16 m d) = short "1011101001mmmddd" (m ∷ d ∷ []) (value d (λ r. extended extends.Rev16 (r m)))
instruction (op.Revsh m d) = short "1011101011mmmddd" (m ∷ d ∷ []) (value d (λ r. extended extends.Revsh (r m)))
instruction (op.Bkpt i) = short "10111110iiiiiiii" (i ∷ []) (inside 1 (λ s. s))
instruction op.Nop =
    short_but ("1011111100010000" ∷ "1011111100100000" ∷ "1011111100110000" ∷ "1011111101000000" ∷ []) "10111111hhhh0000" (0 ∷ [])
    (inside 1 (λ s. moved_on s 2))
instruction op.Yield = short "1011111100010000" [] (inside 1 (λ s. moved_on s 2))
instruction op.Wfe = short "1011111100100000" [] (inside 2 (λ s. moved_on s 2))
instruction op.Wfi = short "1011111100110000" [] (inside 2 (λ s. moved_on s 2))
instruction op.Sev = short "1011111101000000" [] (inside 1 (λ s. moved_on s 2))
-- store and load multiple (A5.2)
instruction (op.Stm n l) = short_but ("11000xxx00000000" ∷ []) "11000nnnllllllll" (n ∷ l ∷ []) (store_many n l)
instruction (op.Ldm n l) = short_but ("11001xxx00000000" ∷ []) "11001nnnllllllll" (n ∷ l ∷ []) (load_many n l)
-- conditional branch and supervisor call (A5.2.6), branch (A5.2)
instruction (op.BCond c i) =
    short_but ("11011110xxxxxxxx" ∷ "11011111xxxxxxxx" ∷ []) "1101cccciiiiiiii" (c ∷ i ∷ [])
    (branch_if c (sign_extended 9 (2 * i)))
instruction (op.Udf i) = short "11011110iiiiiiii" (i ∷ []) (inside 1 (λ s. s))
instruction (op.Svc i) = short "11011111iiiiiiii" (i ∷ []) (inside 1 (λ s. moved_on s 2))
instruction (op.B i) = short "11100iiiiiiiiiii" (i ∷ []) (inside 2 (branched (sign_extended 12 (2 * i))))
-- branch with link, and miscellaneous control (A5.3.1): 13 and 15 are no operands of MSR and MRS; xxxx is 1111
instruction (op.Bl s i j) =
    long (bits "11110Siiiiiiiiii" (bit_number s ∷ i / 2 ^ 11 ∷ [])) (bits "11J1Jiiiiiiiiiii" (j / 2 ∷ j % 2 ∷ i % 2 ^ 11 ∷ []))
    (inside 3 (branched_link (link_offset s i j)))
instruction (op.Msr n s) =
    long (bits_but ("1111001110001101" ∷ "1111001110001111" ∷ []) "111100111000nnnn" (n ∷ [])) (bits "10001000ssssssss" (s ∷ []))
    (inside 3 (after_write_special n s))
instruction (op.Mrs d s) =
    long (bits "1111001111101111" []) (bits_but ("10001101xxxxxxxx" ∷ "10001111xxxxxxxx" ∷ []) "1000ddddssssssss" (d ∷ s ∷ []))
    (inside 3 (after_read_special d s))
instruction op.Dsb = long (bits "1111001110111111" []) (bits "100011110100xxxx" (15 ∷ [])) (inside 3 (λ s. moved_on s 4))
instruction op.Dmb = long (bits "1111001110111111" []) (bits "100011110101xxxx" (15 ∷ [])) (inside 3 (λ s. moved_on s 4))
instruction op.Isb = long (bits "1111001110111111" []) (bits "100011110110xxxx" (15 ∷ [])) (inside 3 (λ s. moved_on s 4))
instruction op.Undefined = record { encoding = None; meaning = inside 1 (λ s. s) }

abbrev pub encoding_of : Op → Option Encoding
encoding_of op = (instruction op).encoding

abbrev pub meaning_of : Op → Meaning
meaning_of op = (instruction op).meaning

-- ---- by instruction

unfoldable pub beats_of : Op → Regs → List Beat
beats_of op s = (meaning_of op).beats s

unfoldable pub effect_of : Op → Regs → List ℕ → Regs
effect_of op s read = (meaning_of op).effect s read

unfoldable pub return_of : Op → Regs → List ℕ → Option ℕ
return_of op s read = (meaning_of op).returns s read

-- an instruction faults where one of its accesses is unaligned (A3.2.1)
unfoldable pub is_unaligned_of : Op → Regs → Bool
is_unaligned_of op s = list_any is_unaligned_beat (beats_of op s)
