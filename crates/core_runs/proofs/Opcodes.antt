-- The instructions of the routines.
use Rattle.std.proofs.Common.{◌≡◌, ◌≢◌, ℕ, suc, ◌+◌, ◌-◌, ◌*◌, ◌/◌, ◌%◌, ◌^◌, ◌<◌, Bool, true, false, cond, not, List, [], ◌∷◌, slice_index, refl, ap, ap₂, ◌∙◌, arith, Some, None, option_to_list, ◌++◌, ne_eqb}
use Rattle.std.specs.Int.{w32, bit_not}
use Rattle.std.specs.Bool.{then_some}
use Rattle.rp_base.specs.declared.Size.TheVariants as sizes
use Rattle.rp_base.specs.declared.op.Op.TheVariants as op
use Rattle.rp_base.specs.Word.{has_bit, is_negative_word, is_zero_word}
use Rattle.thumb_rows.specs.Rows.{begins_long, operation_of, rows}
use Rattle.m0_alu.specs.Sum.{sum_of, carry_of, overflow_of, unsigned_sum}
use Rattle.m0_beats.specs.declared.registers.Regs.{Regs}
use Rattle.m0_beats.specs.declared.timing.Beat.{Beat}
use Rattle.m0_beats.specs.declared.timing.Beat.TheVariants.{Inner}
use Rattle.m0_beats.specs.Beats.{access, single}
use Rattle.m0_beats.specs.Instructions.{beats_of, effect_of, return_of, sign_extended}
use Rattle.m0_beats.specs.Conditions.{is_exception_return}
use Rattle.m0_beats.specs.Registers.{register_of, with_pc}
use Rattle.m0_core.specs.Fetch.{is_ram}
use Rattle.core_laws.specs.Laws.{half_at}
use Rattle.core_runs.specs.Bytes.{put, answer, IsSram}
use Rattle.core_runs.specs.Runs.{Steps}
use Rattle.core_runs.specs.Programs.{AHalfwordSteps, IsInside, place}
use Rattle.core_runs.proofs.Bytes.{each_place_has_a_byte}

-- a core in Thumb state, by PC, R0 to R12 and C
abbrev pub standing : Regs → ℕ → List ℕ → Bool → Regs
standing r pc registers c = record r { pc = pc; r = registers; c = c; t = true }

-- the halfword at an address of SRAM
pub record IsCode (m : List ℕ) (pc h : ℕ) : Type 0 where
  pub inside : is_ram pc ≡ true
  pub half : half_at (answer m) pc ≡ h

-- ---- SUBS R2, #1

abbrev pub less_one : ℕ → ℕ
less_one x = sum_of x (bit_not w32 1) true

-- the flags N, Z and V
abbrev pub signed : Regs → ℕ → Regs
signed r x = record r { n = is_negative_word (less_one x); z = is_zero_word (less_one x); v = overflow_of x (bit_not w32 1) true }

less_is : (n : ℕ) → suc n < 2 ^ 32 → less_one (suc n) ≡ n
less_is n small = omega (arith, small)

carries : (n : ℕ) → suc n < 2 ^ 32 → carry_of (suc n) (bit_not w32 1) true ≡ true
carries n small =
    let is = less_is n small in
    let ne : less_one (suc n) ≢ unsigned_sum (suc n) (bit_not w32 1) true = λ e. omega (arith, is, e) in
    ap not (ne_eqb (less_one (suc n)) (unsigned_sum (suc n) (bit_not w32 1) true) ne)

pub subs_on : AHalfwordSteps → (r : Regs) (m : List ℕ) (pc : ℕ) (a b n d : ℕ) (rest : List ℕ) (c : Bool) → IsCode m pc 0x3A01 → suc n < 2 ^ 32
    → Steps 1 (standing r pc (a ∷ b ∷ suc n ∷ d ∷ rest) c) m (standing (signed r (suc n)) ((pc + 2) % 2 ^ 32) (a ∷ b ∷ n ∷ d ∷ rest) true) m
unfolding operation_of rows beats_of effect_of return_of
subs_on law r m pc a b n d rest c code small =
    law (op.SubImm8 2 1) 0x3A01 (Inner ∷ []) _ m _ m (record {
      code = code.inside;
      half = code.half;
      short = refl;
      decoded = refl;
      ordinary = refl;
      thumb = refl;
      beats_are = refl;
      some = omega arith;
      aligned = refl;
      inside = refl;
      stays = refl;
      effect = ap₂ (λ x y. standing (signed r (suc n)) ((pc + 2) % 2 ^ 32) (a ∷ b ∷ x ∷ d ∷ rest) y) (less_is n small) (carries n small);
      memory = refl;
    })

pub subs_off : AHalfwordSteps → (r : Regs) (m : List ℕ) (pc : ℕ) (a b d : ℕ) (rest : List ℕ) (c : Bool) → IsCode m pc 0x3A01
    → Steps 1 (standing r pc (a ∷ b ∷ 0 ∷ d ∷ rest) c) m (standing (signed r 0) ((pc + 2) % 2 ^ 32) (a ∷ b ∷ (2 ^ 32 - 1) ∷ d ∷ rest) false) m
unfolding operation_of rows beats_of effect_of return_of
subs_off law r m pc a b d rest c code =
    law (op.SubImm8 2 1) 0x3A01 (Inner ∷ []) _ m _ m (record {
      code = code.inside;
      half = code.half;
      short = refl;
      decoded = refl;
      ordinary = refl;
      thumb = refl;
      beats_are = refl;
      some = omega arith;
      aligned = refl;
      inside = refl;
      stays = refl;
      effect = refl;
      memory = refl;
    })

-- ---- branches

-- where a branch by an offset leads
abbrev pub branch_to : ℕ → ℕ → ℕ
branch_to pc offset = ((pc + 4) % 2 ^ 32 + offset) % 2 ^ 32 / 2 * 2

-- BCC, with C set
pub bcc_on : AHalfwordSteps → (r : Regs) (m : List ℕ) (pc h i : ℕ) (registers : List ℕ) → IsCode m pc h → begins_long h ≡ false → operation_of h 0 ≡ op.BCond 3 i
    → Steps 1 (standing r pc registers true) m (standing r ((pc + 2) % 2 ^ 32) registers true) m
unfolding beats_of effect_of return_of
bcc_on law r m pc h i registers code short decoded =
    law (op.BCond 3 i) h (Inner ∷ []) _ m _ m (record {
      code = code.inside;
      half = code.half;
      short = short;
      decoded = decoded;
      ordinary = refl;
      thumb = refl;
      beats_are = refl;
      some = omega arith;
      aligned = refl;
      inside = refl;
      stays = refl;
      effect = refl;
      memory = refl;
    })

-- BCC, with C clear
pub bcc_off : AHalfwordSteps → (r : Regs) (m : List ℕ) (pc h i : ℕ) (registers : List ℕ) → IsCode m pc h → begins_long h ≡ false → operation_of h 0 ≡ op.BCond 3 i
    → Steps 2 (standing r pc registers false) m (standing r (branch_to pc (sign_extended 9 (2 * i))) registers false) m
unfolding beats_of effect_of return_of
bcc_off law r m pc h i registers code short decoded =
    law (op.BCond 3 i) h (Inner ∷ Inner ∷ []) _ m _ m (record {
      code = code.inside;
      half = code.half;
      short = short;
      decoded = decoded;
      ordinary = refl;
      thumb = refl;
      beats_are = refl;
      some = omega arith;
      aligned = refl;
      inside = refl;
      stays = refl;
      effect = refl;
      memory = refl;
    })

-- B
pub b_step : AHalfwordSteps → (r : Regs) (m : List ℕ) (pc h i : ℕ) (registers : List ℕ) (c : Bool) → IsCode m pc h → begins_long h ≡ false → operation_of h 0 ≡ op.B i
    → Steps 2 (standing r pc registers c) m (standing r (branch_to pc (sign_extended 12 (2 * i))) registers c) m
unfolding beats_of effect_of return_of
b_step law r m pc h i registers c code short decoded =
    law (op.B i) h (Inner ∷ Inner ∷ []) _ m _ m (record {
      code = code.inside;
      half = code.half;
      short = short;
      decoded = decoded;
      ordinary = refl;
      thumb = refl;
      beats_are = refl;
      some = omega arith;
      aligned = refl;
      inside = refl;
      stays = refl;
      effect = refl;
      memory = refl;
    })

-- BX LR
pub bx_step : AHalfwordSteps → (r : Regs) (m : List ℕ) (pc : ℕ) (registers : List ℕ) (c : Bool) → IsCode m pc 0x4770 → has_bit r.lr 0 ≡ true → is_exception_return r.ipsr r.lr ≡ false
    → Steps 2 (standing r pc registers c) m (standing r (r.lr / 2 * 2) registers c) m
unfolding operation_of rows beats_of effect_of return_of
bx_step law r m pc registers c code odd plain =
    let s = standing r pc registers c in
    law (op.Bx 14) 0x4770 (Inner ∷ Inner ∷ []) s m _ m (record {
      code = code.inside;
      half = code.half;
      short = refl;
      decoded = refl;
      ordinary = refl;
      thumb = refl;
      beats_are = refl;
      some = omega arith;
      aligned = refl;
      inside = refl;
      stays = ap (λ b. then_some b r.lr) plain;
      effect = ap₂ (λ b t. cond b s (record (with_pc s r.lr) { t = t })) plain odd;
      memory = refl;
    })

-- ---- accesses to a byte

-- beats of an access at an address of SRAM, which is not on the single-cycle port
pub two_beats : (x : ℕ) (beat : Beat) → IsInside x → single x beat ≡ Inner ∷ beat ∷ []
two_beats x beat inside =
    let last = inside.last in
    let ne : x / 2 ^ 28 ≢ 13 = λ e. omega (arith, last, e) in
    ap (λ b. cond b (beat ∷ []) (Inner ∷ beat ∷ [])) (ne_eqb (x / 2 ^ 28) 13 ne)

pub whole_word : (x : ℕ) → IsInside x → x % 2 ^ 32 ≡ x
whole_word x inside = let last = inside.last in omega (arith, last)

by_one : (x : ℕ) → x % 1 ≡ 0
by_one x = omega arith

-- STRB Rt, [R0, R2]
pub strb_step : AHalfwordSteps → (r : Regs) (m : List ℕ) (pc h t v : ℕ) (a b n d : ℕ) (rest : List ℕ) (c : Bool) → IsCode m pc h → begins_long h ≡ false → operation_of h 0 ≡ op.StrbReg 2 0 t
    → register_of (standing r pc (a ∷ b ∷ n ∷ d ∷ rest) c) t ≡ v → IsSram m → IsInside (a + n)
    → Steps 2 (standing r pc (a ∷ b ∷ n ∷ d ∷ rest) c) m (standing r ((pc + 2) % 2 ^ 32) (a ∷ b ∷ n ∷ d ∷ rest) c) (put m (place (a + n)) (v % 2 ^ 8 ∷ []))
unfolding beats_of effect_of return_of
strb_step law r m pc h t v a b n d rest c code short decoded value sram inside =
    let s = standing r pc (a ∷ b ∷ n ∷ d ∷ rest) c in
    let x = a + n in
    let has = each_place_has_a_byte m x (v % 2 ^ 8) sram inside in
    let twice : v % 2 ^ 8 % 2 ^ 8 ≡ v % 2 ^ 8 = omega arith in
    law (op.StrbReg 2 0 t) h (Inner ∷ access x sizes.Byte (Some (v % 2 ^ 8)) ∷ []) s m _ _ (record {
      code = code.inside;
      half = code.half;
      short = short;
      decoded = decoded;
      ordinary = refl;
      thumb = refl;
      beats_are = ap₂ (λ y w. single y (access y sizes.Byte (Some (w % 2 ^ 8)))) (whole_word x inside) value ∙ two_beats x (access x sizes.Byte (Some (v % 2 ^ 8))) inside;
      some = omega arith;
      aligned = rw (by_one x) refl;
      inside = rw has.inside refl;
      stays = refl;
      effect = refl;
      memory = has.written ∙ ap (λ w. put m (place x) (w ∷ [])) twice;
    })

-- LDRB R3, [R1, R2]
pub ldrb_step : AHalfwordSteps → (r : Regs) (m : List ℕ) (pc : ℕ) (a b n d : ℕ) (rest : List ℕ) (c : Bool) → IsCode m pc 0x5C8B → IsSram m → IsInside (b + n)
    → Steps 2 (standing r pc (a ∷ b ∷ n ∷ d ∷ rest) c) m (standing r ((pc + 2) % 2 ^ 32) (a ∷ b ∷ n ∷ slice_index m (place (b + n)) ∷ rest) c) m
unfolding operation_of rows beats_of effect_of return_of
ldrb_step law r m pc a b n d rest c code sram inside =
    let s = standing r pc (a ∷ b ∷ n ∷ d ∷ rest) c in
    let x = b + n in
    let has = each_place_has_a_byte m x 0 sram inside in
    let small : slice_index m (place x) % 2 ^ 8 ≡ slice_index m (place x) = omega (arith, sram.bytes (place x)) in
    law (op.LdrbReg 2 1 3) 0x5C8B (Inner ∷ access x sizes.Byte None ∷ []) s m _ m (record {
      code = code.inside;
      half = code.half;
      short = refl;
      decoded = refl;
      ordinary = refl;
      thumb = refl;
      beats_are = ap (λ y. single y (access y sizes.Byte None)) (whole_word x inside) ∙ two_beats x (access x sizes.Byte None) inside;
      some = omega arith;
      aligned = rw (by_one x) refl;
      inside = rw has.inside refl;
      stays = refl;
      effect = ap (λ o. effect_of (op.LdrbReg 2 1 3) s (option_to_list o ++ [])) has.read ∙ ap (λ w. standing r ((pc + 2) % 2 ^ 32) (a ∷ b ∷ n ∷ w ∷ rest) c) small;
      memory = refl;
    })
