-- The lines of a source of words are assembled to members that stand for them.
use Rattle.std.proofs.Common.{◌≡◌, ◌==◌, ◌&&◌, not, ℕ, ◌+◌, ◌-◌, ◌%◌, ◌<◌, ◌≤◌, nat_le, Bool, true, false, List, [], ◌∷◌, ◌++◌, length, Option, None, Some, Ok, MatchBool, is_some, arith, refl, inl, inr}
use Rattle.pio_asm.proofs.Shared.{eqb_tells, nat_tests, le-leb, WaitSource, Gpio, Pin, Flag, PioOp, Jmp, Wait, In, Out, Push, Pull, Mov, Irq, Set, Reserved, SideConfig, SideDelay, HasFields, IsWaitSource, bit, IsOptionalSide, IsPlainSide, IsSideField, SideSetStatement, WordStatement, Modifier, Member, WordMember, Coded, Building, Names, field_in, modifier_in, IsConfig, config_of, delay_bits, delay_modifier_in, greatest, operation_in, side_modifier_in, side_value_of, sure_op, line_step}
use Rattle.pio_asm.proofs.LineApart.{IsSmall}
use Rattle.pio_asm.proofs.LineParse.{delay_terms, line_with, number_terms, side_terms, statement_if, syntax_of, wait_syntax}

-- a number is an operand that fits
field_number : (locals globals : Names) (low high n : ℕ) → low ≤ n → n ≤ high → high ≤ 4294967295 → field_in locals globals low high (number_terms n) ≡ record { value = Some n; unknown = false; range = false }
field_number locals globals low high n a b c =
    let whole : n ≤ 4294967295 = omega arith in
    rw (le-leb n 4294967295 whole, le-leb low n a, le-leb n high b) refl

abbrev modifier_with_value : ℕ → Modifier
modifier_with_value n = record { value = n; lost = false; unknown = false; outside = false; fault = false }

part_number : (locals globals : Names) (most n : ℕ) → n ≤ most → n ≤ 4294967295 → modifier_in locals globals most (number_terms n) ≡ modifier_with_value n
part_number locals globals most n a whole =
    let low : 0 ≤ n = omega arith in
    rw (le-leb n 4294967295 whole, le-leb 0 n low, le-leb n most a) refl

wait_planned : (locals globals : Names) (p : Bool) (s : WaitSource) (code low : ℕ) → IsWaitSource s code low → operation_in locals globals (wait_syntax p s) ≡ sure_op (Wait p s)
wait_planned locals globals true (Gpio n) code low h = let lt = h.2 in rw (field_number locals globals 0 31 n (omega arith) (omega arith) (omega arith)) refl
wait_planned locals globals false (Gpio n) code low h = let lt = h.2 in rw (field_number locals globals 0 31 n (omega arith) (omega arith) (omega arith)) refl
wait_planned locals globals true (Pin n) code low h = let lt = h.2 in rw (field_number locals globals 0 31 n (omega arith) (omega arith) (omega arith)) refl
wait_planned locals globals false (Pin n) code low h = let lt = h.2 in rw (field_number locals globals 0 31 n (omega arith) (omega arith) (omega arith)) refl
wait_planned locals globals true (Flag i) code low h = let lt = h.1.1 in rw (field_number locals globals 0 7 i.number (omega arith) (omega arith) (omega arith)) refl
wait_planned locals globals false (Flag i) code low h = let lt = h.1.1 in rw (field_number locals globals 0 7 i.number (omega arith) (omega arith) (omega arith)) refl

-- an operation is planned from its text
operation_planned : (locals globals : Names) (op : PioOp) (major middle low : ℕ) → HasFields op major middle low → operation_in locals globals (syntax_of op) ≡ sure_op op
operation_planned locals globals (Jmp c n) major middle low h = let lt = h.3 in rw (field_number locals globals 0 31 n (omega arith) (omega arith) (omega arith)) refl
operation_planned locals globals (Wait p s) major middle low h = wait_planned locals globals p s (middle % 4) low h.2
operation_planned locals globals (In s n) major middle low h = let some = h.2.1 in let le = h.2.2 in rw (field_number locals globals 1 32 n (omega arith) le (omega arith)) refl
operation_planned locals globals (Out d n) major middle low h = let some = h.2.1 in let le = h.2.2 in rw (field_number locals globals 1 32 n (omega arith) le (omega arith)) refl
operation_planned locals globals (Push f b) major middle low h = refl
operation_planned locals globals (Pull e b) major middle low h = refl
operation_planned locals globals (Mov d o s) major middle low h = refl
operation_planned locals globals (Irq c w i) major middle low h = let lt = h.2.1 in rw (field_number locals globals 0 7 i.number (omega arith) (omega arith) (omega arith)) refl
operation_planned locals globals (Set d n) major middle low h = let lt = h.3 in rw (field_number locals globals 0 31 n (omega arith) (omega arith) (omega arith)) refl
operation_planned locals globals Reserved major middle low h = absurd h

delay_fits : (opt : Bool) (n : ℕ) (v : Option ℕ) (d f : ℕ) → MatchBool opt (IsOptionalSide n v d f) (IsPlainSide n v d f) → d ≤ greatest (5 - (n + bit opt))
delay_fits true n None d f h = let e : 5 - (n + 1) ≡ 4 - n = omega arith in let lt = h.1 in rw e (omega arith)
delay_fits true n (Some v) d f h = let e : 5 - (n + 1) ≡ 4 - n = omega arith in let lt = h.1 in rw e (omega arith)
delay_fits false n None d f h = let z = h.0 in let lt = h.1 in let e : 5 - (n + 0) ≡ 5 = omega arith in rw e (omega arith)
delay_fits false n (Some v) d f h = let e : 5 - (n + 0) ≡ 5 - n = omega arith in let lt = h.2 in rw e (omega arith)

delay_planned : (locals globals : Names) (config : SideConfig) (d : ℕ) → d ≤ greatest (delay_bits config) → d < 100 → delay_modifier_in locals globals config (delay_terms d) ≡ modifier_with_value d
delay_planned locals globals config d fits lt = elim (eqb_tells d 0) [
  | inl e ↦ let none = e.1 in rw e.0 (rw none refl)
  | inr e ↦ rw e.0 (part_number locals globals (greatest (delay_bits config)) d fits (omega arith))
]

abbrev value_or_zero : Option ℕ → ℕ
value_or_zero None = 0
value_or_zero (Some v) = v

-- where there is a side-set, it has bits
abbrev pub HasBits : Option SideConfig → Type 0
HasBits None = Unit {0}
HasBits (Some config) = ((config.count == 0) && not config.opt) ≡ false

record IsSidePlanned (locals globals : Names) (set : Option SideConfig) (v : Option ℕ) : Type 0 where
  modifier : side_modifier_in locals globals set (side_terms v) ≡ modifier_with_value (value_or_zero v)
  value : side_value_of (config_of set) (is_some (side_terms v)) (value_or_zero v) ≡ v

side_planned_at : (locals globals : Names) (opt : Bool) (n : ℕ) (pindirs : Bool) (v : Option ℕ) (d f : ℕ) → ((n == 0) && not opt) ≡ false → MatchBool opt (IsOptionalSide n v d f) (IsPlainSide n v d f) → IsSmall v → IsSidePlanned locals globals (Some (record { count = n; opt = opt; pindirs = pindirs })) v
side_planned_at locals globals true n pindirs None d f bits h small = record { modifier = refl; value = refl }
side_planned_at locals globals true n pindirs (Some v) d f bits h small = let lt = h.2 in record { modifier = part_number locals globals (greatest n) v (omega arith) (omega arith); value = refl }
side_planned_at locals globals false n pindirs None d f bits h small = absurd (let z = h.0 in let g : ((n == 0) && true) ≡ false = bits in let k : ((0 == 0) && true) ≡ false = rw z at g in let m : true ≡ false = k in cc)
side_planned_at locals globals false n pindirs (Some v) d f bits h small =
    let some = h.0 in
    let lt = h.3 in
    let other : (n == 0) ≡ false = grind (arith, nat_tests) in
    record { modifier = part_number locals globals (greatest n) v (omega arith) (omega arith); value = rw other refl }

side_planned : (locals globals : Names) (set : Option SideConfig) (v : Option ℕ) (d f : ℕ) → HasBits set → IsSideField (config_of set) v d f → IsSmall v → IsSidePlanned locals globals set v
side_planned locals globals None None d f bits h small = record { modifier = refl; value = refl }
side_planned locals globals None (Some v) d f bits h small = absurd (let none = h.0 in omega arith)
side_planned locals globals (Some config) v d f bits h small = side_planned_at locals globals config.opt config.count config.pindirs v d f bits h small

-- a program that is being built of words
abbrev pub built : List Member → Option SideConfig → Building
built code set = record { seen = []; code = code; side = set; origin = None; target = None; wrap = None }

room : (code : List Member) → length code < 32 → nat_le 32 (length code) ≡ false
room code lt = grind (arith, nat_tests)

-- the line of an instruction adds its member
pub instruction_assembles : (whole globals : Names) (total number : ℕ) (set : Option SideConfig) (op : PioOp) (side : SideDelay) (major middle low f : ℕ) (code : List Member) → HasFields op major middle low → HasBits set → IsSideField (config_of set) side.value side.delay f → IsSmall side.value → side.delay < 100 → length code < 32 →
    line_step whole globals total (line_with number (statement_if true op side 0)) (built code set) ≡ Ok (built (code ++ Coded op (config_of set) side.value side.delay ∷ []) set)
instruction_assembles whole globals total number set op side major middle low f code h bits fits small short lt =
    let planned = operation_planned whole globals op major middle low h in
    let modifier = side_planned whole globals set side.value side.delay f bits fits small in
    let delay = delay_planned whole globals (config_of set) side.delay (delay_fits (config_of set).opt (config_of set).count side.value side.delay f fits) short in
    rw (planned, modifier.modifier, delay, room code lt, modifier.value) refl

pub word_assembles : (whole globals : Names) (total number : ℕ) (set : Option SideConfig) (word : ℕ) (code : List Member) → word < 65536 → length code < 32 → line_step whole globals total (line_with number (WordStatement (number_terms word))) (built code set) ≡ Ok (built (code ++ WordMember word ∷ []) set)
word_assembles whole globals total number set word code half lt =
    let bound : word ≤ 4294967295 = omega arith in
    let low : 0 ≤ word = omega arith in
    let high : word ≤ 65535 = omega arith in
    rw (le-leb word 4294967295 bound, le-leb 0 word low, le-leb word 65535 high, room code lt) refl

pub side_set_assembles : (whole globals : Names) (total number : ℕ) (side : SideConfig) → IsConfig side → line_step whole globals total (line_with number (SideSetStatement (number_terms side.count) side.opt side.pindirs)) (built [] None) ≡ Ok (built [] (Some side))
side_set_assembles whole globals total number side fits =
    let bound : side.count ≤ 4294967295 = omega arith in
    let low : 0 ≤ side.count = omega arith in
    let high : side.count ≤ 5 - bit side.opt = omega arith in
    rw (le-leb side.count 4294967295 bound, le-leb 0 side.count low, le-leb side.count (5 - bit side.opt) high) refl
