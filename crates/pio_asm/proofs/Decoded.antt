-- The operation and the side-set value that a word is read as are those of its fields.
use Rattle.std.proofs.Common.{◌≡◌, ◌==◌, ℕ, suc, zero, ◌+◌, ◌-◌, ◌*◌, ◌/◌, ◌%◌, ◌^◌, ◌<◌, ◌≤◌, Bool, true, false, cond, Option, None, Some, MatchBool, option_map, option_and_then, subst, arith, refl, inl, inr}
use Rattle.pio_asm.proofs.Shared.{eqb_tells, leb_tells, IrqIndex, JmpCondition, InSource, OutDestination, MovDestination, MovSource, MovOperation, SetDestination, WaitSource, Gpio, Pin, Flag, PioOp, Jmp, Wait, In, Out, Mov, Irq, Set, SideConfig, SideDelay, entry, conditions, in_sources, out_destinations, mov_destinations, mov_operations, mov_sources, set_destinations, HasFields, HasOperation, IsCount, IsIrqIndex, IsWaitSource, bit, count_at, irq_at, irq_index_at, named_at, operation_of, or_reserved, push_pull_at, wait_source_at, IsOptionalSide, IsPlainSide, IsSideField, optional_side_at, plain_side_at, scaled_side, side_at, high-lt, joined_parts as joined, low-lt, power_le, is_written}
use Rattle.pio_asm.proofs.LineApart.{IsSmall}

some_is : {X : Type 0} (x y : X) → Some x ≡ Some y → x ≡ y
some_is x y h = cc

-- where an operation is written, its fields are these
abbrev Named : Option PioOp → ℕ → ℕ → ℕ → Type 0
Named None major middle low = Unit {0}
Named (Some op) major middle low = HasFields op major middle low

bit_is : (n : ℕ) → n < 2 → n ≡ bit (n == 1)
bit_is n lt = elim (eqb_tells n 1) [
  | inl e ↦ rw e.0 e.1
  | inr e ↦ let other = e.1 in rw e.0 (omega (arith, other))
]

index_is : (low : ℕ) (i : IrqIndex) → low < 32 → irq_index_at low ≡ Some i → IsIrqIndex i low
index_is low i lt h = elim (eqb_tells (low / 8 % 2) 0) [
  | inl e ↦
      let same : record { number = low % 8; relative = low / 16 == 1 } ≡ i = let g = rw e.0 at h in some_is (record { number = low % 8; relative = low / 16 == 1 }) i g in
      let even = e.1 in
      let top : low / 16 ≡ bit (low / 16 == 1) = bit_is (low / 16) (omega arith) in
      let P : IrqIndex → Type 0 = λ i. IsIrqIndex i low in
      subst P same (omega arith, omega arith)
  | inr e ↦ absurd (let g = rw e.0 at h in cc)
]

jmp_named : (middle low : ℕ) (o : Option JmpCondition) → low < 32 → entry conditions middle ≡ o → Named (option_map (λ c. Jmp c low) o) 0 middle low
jmp_named middle low None lt e = tt
jmp_named middle low (Some c) lt e = (refl, e, refl, lt)

flag_named : (low : ℕ) (o : Option IrqIndex) (s : WaitSource) → low < 32 → irq_index_at low ≡ o → option_map Flag o ≡ Some s → IsWaitSource s 2 low
flag_named low None s lt e h = cc
flag_named low (Some i) s lt e h = let same : Flag i ≡ s = some_is (Flag i) s h in let P : WaitSource → Type 0 = λ s. IsWaitSource s 2 low in subst P same (refl, index_is low i lt e)

source_named : (code low : ℕ) (s : WaitSource) → low < 32 → wait_source_at code low ≡ Some s → IsWaitSource s code low
source_named zero low s lt h = let same : Gpio low ≡ s = some_is (Gpio low) s h in let P : WaitSource → Type 0 = λ s. IsWaitSource s 0 low in subst P same (refl, refl, lt)
source_named (suc zero) low s lt h = let same : Pin low ≡ s = some_is (Pin low) s h in let P : WaitSource → Type 0 = λ s. IsWaitSource s 1 low in subst P same (refl, refl, lt)
source_named (suc (suc zero)) low s lt h = flag_named low (irq_index_at low) s lt refl h
source_named (suc (suc (suc code))) low s lt h = cc

wait_named : (middle low : ℕ) (o : Option WaitSource) → middle < 8 → low < 32 → wait_source_at (middle % 4) low ≡ o → Named (option_map (λ s. Wait (middle / 4 == 1) s) o) 1 middle low
wait_named middle low None lm lt e = tt
wait_named middle low (Some s) lm lt e = (refl, bit_is (middle / 4) (omega arith), source_named (middle % 4) low s lt e)

count_is : (low : ℕ) → low < 32 → IsCount (count_at low) low
count_is low lt = elim (eqb_tells low 0) [
  | inl e ↦ let none = e.1 in rw e.0 (omega arith, omega arith, omega arith)
  | inr e ↦ let other = e.1 in rw e.0 (omega arith, omega (arith, other), omega arith)
]

in_named : (middle low : ℕ) (o : Option InSource) → low < 32 → entry in_sources middle ≡ o → Named (option_map (λ s. In s (count_at low)) o) 2 middle low
in_named middle low None lt e = tt
in_named middle low (Some s) lt e = (refl, e, count_is low lt)

out_named : (middle low : ℕ) (o : Option OutDestination) → low < 32 → entry out_destinations middle ≡ o → Named (option_map (λ d. Out d (count_at low)) o) 3 middle low
out_named middle low None lt e = tt
out_named middle low (Some d) lt e = (refl, e, count_is low lt)

two_bits : (middle : ℕ) → middle < 4 → middle ≡ 2 * bit (middle / 2 % 2 == 1) + bit (middle % 2 == 1)
two_bits middle lt = let high = bit_is (middle / 2 % 2) (omega arith) in let low = bit_is (middle % 2) (omega arith) in omega arith

push_pull_named : (middle low : ℕ) → middle < 8 → low < 32 → Named (push_pull_at middle low) 4 middle low
push_pull_named middle low lm lt = elim (eqb_tells low 0) [
  | inl e ↦ elim (eqb_tells (middle / 4) 0) [
    | inl f ↦ let first = f.1 in rw (e.0, f.0) (refl, two_bits middle (omega arith), e.1)
    | inr f ↦ let other = f.1 in let high = bit_is (middle / 2 % 2) (omega arith) in let low = bit_is (middle % 2) (omega arith) in rw (e.0, f.0) (refl, omega (arith, other), e.1)
  ]
  | inr e ↦ rw e.0 tt
]

mov_named : (middle low : ℕ) (d : Option MovDestination) (o : Option MovOperation) (s : Option MovSource) → entry mov_destinations middle ≡ d → entry mov_operations (low / 8) ≡ o → entry mov_sources (low % 8) ≡ s → Named (option_and_then (λ d. option_and_then (λ o. option_map (λ s. Mov d o s) s) o) d) 5 middle low
mov_named middle low None o s ed eo es = tt
mov_named middle low (Some d) None s ed eo es = tt
mov_named middle low (Some d) (Some o) None ed eo es = tt
mov_named middle low (Some d) (Some o) (Some s) ed eo es = (refl, ed, eo, es)

irq_some : (middle low : ℕ) (o : Option IrqIndex) → middle < 4 → low < 32 → irq_index_at low ≡ o → Named (option_map (λ i. Irq (middle / 2 % 2 == 1) (middle % 2 == 1) i) o) 6 middle low
irq_some middle low None lm lt e = tt
irq_some middle low (Some i) lm lt e = (refl, two_bits middle lm, index_is low i lt e)

irq_named : (middle low : ℕ) → middle < 8 → low < 32 → Named (irq_at middle low) 6 middle low
irq_named middle low lm lt = elim (eqb_tells (middle / 4) 0) [
  | inl e ↦ let first = e.1 in rw e.0 (irq_some middle low (irq_index_at low) (omega arith) lt refl)
  | inr e ↦ rw e.0 tt
]

set_named : (middle low : ℕ) (o : Option SetDestination) → low < 32 → entry set_destinations middle ≡ o → Named (option_map (λ d. Set d low) o) 7 middle low
set_named middle low None lt e = tt
set_named middle low (Some d) lt e = (refl, e, refl, lt)

named : (major middle low : ℕ) → middle < 8 → low < 32 → Named (named_at major middle low) major middle low
named zero middle low lm lt = jmp_named middle low (entry conditions middle) lt refl
named (suc zero) middle low lm lt = wait_named middle low (wait_source_at (middle % 4) low) lm lt refl
named (suc (suc zero)) middle low lm lt = in_named middle low (entry in_sources middle) lt refl
named (suc (suc (suc zero))) middle low lm lt = out_named middle low (entry out_destinations middle) lt refl
named (suc (suc (suc (suc zero)))) middle low lm lt = push_pull_named middle low lm lt
named (suc (suc (suc (suc (suc zero))))) middle low lm lt = mov_named middle low (entry mov_destinations middle) (entry mov_operations (low / 8)) (entry mov_sources (low % 8)) refl refl refl
named (suc (suc (suc (suc (suc (suc zero)))))) middle low lm lt = irq_named middle low lm lt
named (suc (suc (suc (suc (suc (suc (suc zero))))))) middle low lm lt = set_named middle low (entry set_destinations middle) lt refl
named (suc (suc (suc (suc (suc (suc (suc (suc n)))))))) middle low lm lt = tt

written_named : (o : Option PioOp) (major middle low : ℕ) → is_written (or_reserved o) ≡ true → Named o major middle low → HasFields (or_reserved o) major middle low
written_named None major middle low h n = absurd (let g : false ≡ true = h in cc)
written_named (Some op) major middle low h n = n

-- a word whose operation is written has that operation's fields
pub has_operation : (word : ℕ) → is_written (operation_of word) ≡ true → HasOperation (operation_of word) word
has_operation word h = written_named (named_at (word / 8192) (word / 32 % 8) (word % 32)) (word / 8192) (word / 32 % 8) (word % 32) h (named (word / 8192) (word / 32 % 8) (word % 32) (omega arith) (omega arith))

scaled_optional : (n f : ℕ) → n ≤ 4 → 16 ≤ f → f < 32 → IsOptionalSide n (scaled_side (f - 16) n 4).value (scaled_side (f - 16) n 4).delay f
scaled_optional n f le high lt =
    let top : f - 16 < 2 ^ 4 = omega arith in
    let whole = joined 4 n (f - 16) in
    (le, low-lt 4 n (f - 16), high-lt 4 n (f - 16) le top, omega (arith, whole))

optional_is : (n f : ℕ) (s : SideDelay) → f < 32 → optional_side_at n f ≡ Some s → IsOptionalSide n s.value s.delay f
optional_is n f s lt h = let P : SideDelay → Type 0 = λ s. IsOptionalSide n s.value s.delay f in elim (leb_tells n 4) [
  | inl e ↦ elim (leb_tells 16 f) [
    | inl g ↦ subst P (some_is (scaled_side (f - 16) n 4) s (let k = rw (e.0, g.0) at h in k)) (scaled_optional n f e.1 g.1 lt)
    | inr g ↦ elim (leb_tells (suc f) (2 ^ (4 - n))) [
      | inl k ↦ subst P (some_is (record { value = None; delay = f }) s (let m = rw (e.0, g.0, k.0) at h in m)) (e.1, k.1, refl)
      | inr k ↦ absurd (let m = rw (e.0, g.0, k.0) at h in cc)
    ]
  ]
  | inr e ↦ absurd (let k = rw e.0 at h in cc)
]

plain_is : (n f : ℕ) (s : SideDelay) → f < 32 → plain_side_at n f ≡ Some s → IsPlainSide n s.value s.delay f
plain_is n f s lt h = let P : SideDelay → Type 0 = λ s. IsPlainSide n s.value s.delay f in elim (leb_tells n 5) [
  | inl e ↦ elim (eqb_tells n 0) [
    | inl g ↦ subst P (some_is (record { value = None; delay = f }) s (let k = rw (e.0, g.0) at h in k)) (g.1, lt, refl)
    | inr g ↦ let other = g.1 in let some : 0 < n = omega (arith, other) in let top : f < 2 ^ 5 = omega arith in
        subst P (some_is (scaled_side f n 5) s (let k = rw (e.0, g.0) at h in k)) (some, e.1, low-lt 5 n f, high-lt 5 n f e.1 top, joined 5 n f)
  ]
  | inr e ↦ absurd (let k = rw e.0 at h in cc)
]

side_is : (opt : Bool) (n f : ℕ) (s : SideDelay) → f < 32 → cond opt (optional_side_at n f) (plain_side_at n f) ≡ Some s → MatchBool opt (IsOptionalSide n s.value s.delay f) (IsPlainSide n s.value s.delay f)
side_is true n f s lt h = optional_is n f s lt h
side_is false n f s lt h = plain_is n f s lt h

-- what bits 12:8 are read as is their side-set value and their delay
pub has_side : (side : SideConfig) (f : ℕ) (s : SideDelay) → f < 32 → side_at side f ≡ Some s → IsSideField side s.value s.delay f
has_side side f s lt h = side_is side.opt side.count f s lt h

-- so they are small
pub small_side : (opt : Bool) (n : ℕ) (v : Option ℕ) (d f : ℕ) → MatchBool opt (IsOptionalSide n v d f) (IsPlainSide n v d f) → IsSmall v × (d < 100)
small_side true n None d f h = (tt, let lt = h.1 in let u : 2 ^ (4 - n) ≤ 32 = power_le (4 - n) (omega arith) in omega arith)
small_side true n (Some v) d f h = (let lt = h.2 in let le = h.0 in let u : 2 ^ n ≤ 32 = power_le n (omega arith) in omega arith, let lt = h.1 in let u : 2 ^ (4 - n) ≤ 32 = power_le (4 - n) (omega arith) in omega arith)
small_side false n None d f h = (tt, let lt = h.1 in omega arith)
small_side false n (Some v) d f h = (let lt = h.3 in let le = h.1 in let u : 2 ^ n ≤ 32 = power_le n (omega arith) in omega arith, let lt = h.2 in let u : 2 ^ (5 - n) ≤ 32 = power_le (5 - n) (omega arith) in omega arith)
