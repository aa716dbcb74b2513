-- The sum of words, by induction on their number.
use Rattle.std.proofs.Common.{◌≡◌, ℕ, zero, suc, ◌+◌, ◌-◌, ◌*◌, ◌/◌, ◌%◌, ◌^◌, ◌<◌, ◌≤◌, Bool, true, false, List, [], ◌∷◌, ◌++◌, length, slice_index, slice_set, refl, sym, ap, ap₂, subst, ◌∙◌, arith, None, option_to_list}
use Rattle.rp_base.specs.declared.Size.TheVariants as sizes
use Rattle.rp_base.specs.declared.op.Op.TheVariants as op
use Rattle.rp_base.specs.Word.{has_bit, is_negative_word, is_zero_word}
use Rattle.thumb_rows.specs.Rows.{operation_of, rows}
use Rattle.m0_alu.specs.Sum.{sum_of, carry_of, overflow_of}
use Rattle.m0_beats.specs.declared.registers.Regs.{Regs}
use Rattle.m0_beats.specs.declared.timing.Beat.TheVariants.{Inner}
use Rattle.m0_beats.specs.Beats.{access, single}
use Rattle.m0_beats.specs.Instructions.{beats_of, effect_of, return_of}
use Rattle.m0_beats.specs.Conditions.{is_exception_return}
use Rattle.m0_core.specs.Fetch.{is_ram}
use Rattle.core_runs.specs.Bytes.{Holds, IsSram, word_from}
use Rattle.core_runs.specs.Runs.{Steps}
use Rattle.core_runs.specs.Programs.{AHalfwordSteps, IsInside, place, counted_out}
use Rattle.core_runs.specs.Checksum.{checksum, sum_of_words, word_after, AChecksumAdds}
use Rattle.core_runs.proofs.Bytes.{inside_ram, code_is_fetched, each_fourth_place_has_a_word}
use Rattle.core_runs.proofs.Instructions.{steps_chain}
use Rattle.core_runs.proofs.Opcodes.{IsCode, standing, signed, branch_to, two_beats, whole_word, subs_on, subs_off, bcc_on, bcc_off, b_step, bx_step}

-- the code at a place
record HasCode (m : List ℕ) (k : ℕ) : Type 0 where
  sram : IsSram m
  code : Holds m k checksum
  within : k + 14 ≤ 0x42000
  even : k % 2 ≡ 0

abbrev at : ℕ → ℕ → ℕ
at k i = 0x20000000 + (k + i)

code_at : (m : List ℕ) (k i h : ℕ) → HasCode m k → i % 2 ≡ 0 → i + 1 < 14 → slice_index checksum i + 2 ^ 8 * slice_index checksum (i + 1) ≡ h → IsCode m (at k i) h
unfolding is_ram checksum
code_at m k i h has even lt is =
    let within = has.within in
    let inside : IsInside (at k i) = record { first = omega arith; last = omega (arith, within, lt) } in
    record {
      inside = inside_ram (at k i) inside;
      half = code_is_fetched m k checksum i has.sram has.code (omega (arith, has.even, even)) lt (omega (arith, within, lt)) ∙ is;
    }

-- LSLS R1, R2, #2
lsls_step : AHalfwordSteps → (r : Regs) (m : List ℕ) (pc a w n x : ℕ) (rest : List ℕ) (c : Bool) → IsCode m pc 0x0091
    → Steps 1 (standing r pc (a ∷ w ∷ n ∷ x ∷ rest) c) m
    (standing (record r { n = is_negative_word (n * 4 % 2 ^ 32); z = is_zero_word (n * 4 % 2 ^ 32) }) ((pc + 2) % 2 ^ 32) (a ∷ n * 4 % 2 ^ 32 ∷ n ∷ x ∷ rest) (has_bit (n * 4) 32)) m
unfolding operation_of rows beats_of effect_of return_of
lsls_step law r m pc a w n x rest c code =
    law (op.LslImm 2 2 1) 0x0091 (Inner ∷ []) _ m _ m (record {
      code = code.inside;
      half = code.half;
      short = refl;
      decoded = refl;
      ordinary = refl;
      thumb = refl;
      beats_are = refl;
      some = omega arith;
      aligned = refl;
      inside = refl;
      stays = refl;
      effect = refl;
      memory = refl;
    })

-- LDR R1, [R0, R1]
ldr_step : AHalfwordSteps → (r : Regs) (m : List ℕ) (pc a w n x : ℕ) (rest : List ℕ) (c : Bool) → IsCode m pc 0x5841 → IsSram m → IsInside (a + w) → (a + w) % 4 ≡ 0
    → Steps 2 (standing r pc (a ∷ w ∷ n ∷ x ∷ rest) c) m (standing r ((pc + 2) % 2 ^ 32) (a ∷ word_from m (place (a + w)) ∷ n ∷ x ∷ rest) c) m
unfolding operation_of rows beats_of effect_of return_of
ldr_step law r m pc a w n x rest c code sram inside aligned =
    let s = standing r pc (a ∷ w ∷ n ∷ x ∷ rest) c in
    let y = a + w in
    let has = each_fourth_place_has_a_word m y 0 sram inside aligned in
    law (op.LdrReg 1 0 1) 0x5841 (Inner ∷ access y sizes.Word None ∷ []) s m _ m (record {
      code = code.inside;
      half = code.half;
      short = refl;
      decoded = refl;
      ordinary = refl;
      thumb = refl;
      beats_are = ap (λ z. single z (access z sizes.Word None)) (whole_word y inside) ∙ two_beats y (access y sizes.Word None) inside;
      some = omega arith;
      aligned = rw aligned refl;
      inside = rw has.inside refl;
      stays = refl;
      effect = ap (λ o. effect_of (op.LdrReg 1 0 1) s (option_to_list o ++ [])) has.read;
      memory = refl;
    })

-- ADDS R3, R3, R1
abbrev summed : Regs → ℕ → ℕ → Regs
summed r x w = record r { n = is_negative_word (sum_of x w false); z = is_zero_word (sum_of x w false); v = overflow_of x w false }

adds_step : AHalfwordSteps → (r : Regs) (m : List ℕ) (pc a w n x : ℕ) (rest : List ℕ) (c : Bool) → IsCode m pc 0x185B
    → Steps 1 (standing r pc (a ∷ w ∷ n ∷ x ∷ rest) c) m (standing (summed r x w) ((pc + 2) % 2 ^ 32) (a ∷ w ∷ n ∷ sum_of x w false ∷ rest) (carry_of x w false)) m
unfolding operation_of rows beats_of effect_of return_of
adds_step law r m pc a w n x rest c code =
    law (op.AddReg 1 3 3) 0x185B (Inner ∷ []) _ m _ m (record {
      code = code.inside;
      half = code.half;
      short = refl;
      decoded = refl;
      ordinary = refl;
      thumb = refl;
      beats_are = refl;
      some = omega arith;
      aligned = refl;
      inside = refl;
      stays = refl;
      effect = refl;
      memory = refl;
    })

-- ---- the loop

-- the address behind a step
next : (k i : ℕ) → k + 14 ≤ 0x42000 → i < 14 → (at k i + 2) % 2 ^ 32 ≡ at k (i + 2)
next k i within lt = omega (arith, within, lt)

abbrev flags_after : Regs → ℕ → ℕ → ℕ → Regs
flags_after r n x w = summed (record (signed r (suc n)) { n = is_negative_word (n * 4 % 2 ^ 32); z = is_zero_word (n * 4 % 2 ^ 32) }) x w

turn : AHalfwordSteps → (r : Regs) (m : List ℕ) (k a w n x : ℕ) (rest : List ℕ) (c : Bool) → HasCode m k → a % 4 ≡ 0 → IsInside (a + 4 * n) → x < 2 ^ 32
    → let w' = word_from m (place (a + 4 * n)) in
    Steps 8 (standing r (at k 0) (a ∷ w ∷ suc n ∷ x ∷ rest) c) m (standing (flags_after r n x w') (at k 0) (a ∷ w' ∷ n ∷ (x + w') % 2 ^ 32 ∷ rest) (carry_of x w' false)) m
unfolding operation_of rows checksum
turn law r m k a w n x rest c has aligned inside small =
    let within = has.within in
    let last = inside.last in
    let w' = word_from m (place (a + 4 * n)) in
    let u = signed r (suc n) in
    let v = record u { n = is_negative_word (n * 4 % 2 ^ 32); z = is_zero_word (n * 4 % 2 ^ 32) } in
    let f = flags_after r n x w' in
    let four : n * 4 % 2 ^ 32 ≡ 4 * n = omega (arith, last) in
    let inside' : IsInside (a + n * 4 % 2 ^ 32) = subst (λ y. IsInside (a + y)) (sym four) inside in
    let aligned' : (a + n * 4 % 2 ^ 32) % 4 ≡ 0 = omega (arith, four, aligned) in
    let xs0 = a ∷ w ∷ suc n ∷ x ∷ rest in
    let xs1 = a ∷ w ∷ n ∷ x ∷ rest in
    let xs2 = a ∷ n * 4 % 2 ^ 32 ∷ n ∷ x ∷ rest in
    let xs3 = a ∷ w' ∷ n ∷ x ∷ rest in
    let xs4 = a ∷ w' ∷ n ∷ (x + w') % 2 ^ 32 ∷ rest in
    let c1 = has_bit (n * 4) 32 in
    let c2 = carry_of x w' false in
    let s0 = standing r (at k 0) xs0 c in
    let s1 = standing u (at k 2) xs1 true in
    let s2 = standing u (at k 4) xs1 true in
    let s3 = standing v (at k 6) xs2 c1 in
    let s4 = standing v (at k 8) xs3 c1 in
    let s5 = standing f (at k 10) xs4 c2 in
    let s6 = standing f (at k 0) xs4 c2 in
    let sum : sum_of x w' false ≡ (x + w') % 2 ^ 32 = ap (λ y. y % 2 ^ 32) (plain_sum x w') in
    let back : branch_to (at k 10) (2 ^ 32 - 14) ≡ at k 0 = omega (arith, within, has.even) in
    let subs : Steps 1 s0 m s1 m = subst (λ pc. Steps 1 s0 m (standing u pc xs1 true) m) (next k 0 within (omega arith)) (subs_on law r m (at k 0) a w n x rest c (code_at m k 0 0x3A01 has refl (omega arith) refl) (omega (arith, last))) in
    let bcc : Steps 1 s1 m s2 m = subst (λ pc. Steps 1 s1 m (standing u pc xs1 true) m) (next k 2 within (omega arith)) (bcc_on law u m (at k 2) 0xD303 3 xs1 (code_at m k 2 0xD303 has refl (omega arith) refl) refl refl) in
    let lsls : Steps 1 s2 m s3 m = subst (λ pc. Steps 1 s2 m (standing v pc xs2 c1) m) (next k 4 within (omega arith)) (lsls_step law u m (at k 4) a w n x rest true (code_at m k 4 0x0091 has refl (omega arith) refl)) in
    let ldr : Steps 2 s3 m s4 m = subst (λ y. Steps 2 s3 m (standing v (at k 8) (a ∷ word_from m (place (a + y)) ∷ n ∷ x ∷ rest) c1) m) four
    (subst (λ pc. Steps 2 s3 m (standing v pc (a ∷ word_from m (place (a + n * 4 % 2 ^ 32)) ∷ n ∷ x ∷ rest) c1) m) (next k 6 within (omega arith)) (ldr_step law v m (at k 6) a (n * 4 % 2 ^ 32) n x rest c1 (code_at m k 6 0x5841 has refl (omega arith) refl) has.sram inside' aligned')) in
    let adds : Steps 1 s4 m s5 m = subst (λ y. Steps 1 s4 m (standing f (at k 10) (a ∷ w' ∷ n ∷ y ∷ rest) c2) m) sum
    (subst (λ pc. Steps 1 s4 m (standing f pc (a ∷ w' ∷ n ∷ sum_of x w' false ∷ rest) c2) m) (next k 8 within (omega arith)) (adds_step law v m (at k 8) a w' n x rest c1 (code_at m k 8 0x185B has refl (omega arith) refl))) in
    let b : Steps 2 s5 m s6 m = subst (λ pc. Steps 2 s5 m (standing f pc xs4 c2) m) back (b_step law f m (at k 10) 0xE7F9 0x7F9 xs4 c2 (code_at m k 10 0xE7F9 has refl (omega arith) refl) refl refl) in
    steps_chain 1 7 s0 s1 s6 m m m subs
    (steps_chain 1 6 s1 s2 s6 m m m bcc
    (steps_chain 1 5 s2 s3 s6 m m m lsls
    (steps_chain 2 3 s3 s4 s6 m m m ldr
    (steps_chain 1 2 s4 s5 s6 m m m adds b))))
  where
    plain_sum : (x w : ℕ) → x + w + 0 ≡ x + w
    plain_sum x w = omega arith

out : AHalfwordSteps → (r : Regs) (m : List ℕ) (k a w x : ℕ) (rest : List ℕ) (c : Bool) → HasCode m k → has_bit r.lr 0 ≡ true → is_exception_return r.ipsr r.lr ≡ false
    → Steps 5 (standing r (at k 0) (a ∷ w ∷ 0 ∷ x ∷ rest) c) m (standing (signed r 0) (r.lr / 2 * 2) (a ∷ w ∷ (2 ^ 32 - 1) ∷ x ∷ rest) false) m
unfolding operation_of rows checksum
out law r m k a w x rest c has odd plain =
    let within = has.within in
    let u = signed r 0 in
    let xs0 = a ∷ w ∷ 0 ∷ x ∷ rest in
    let xs = a ∷ w ∷ (2 ^ 32 - 1) ∷ x ∷ rest in
    let s0 = standing r (at k 0) xs0 c in
    let s1 = standing u (at k 2) xs false in
    let s2 = standing u (at k 12) xs false in
    let s3 = standing u (r.lr / 2 * 2) xs false in
    let far : branch_to (at k 2) 6 ≡ at k 12 = omega (arith, within, has.even) in
    let subs : Steps 1 s0 m s1 m = subst (λ pc. Steps 1 s0 m (standing u pc xs false) m) (next k 0 within (omega arith)) (subs_off law r m (at k 0) a w x rest c (code_at m k 0 0x3A01 has refl (omega arith) refl)) in
    let bcc : Steps 2 s1 m s2 m = subst (λ pc. Steps 2 s1 m (standing u pc xs false) m) far (bcc_off law u m (at k 2) 0xD303 3 xs (code_at m k 2 0xD303 has refl (omega arith) refl) refl refl) in
    let bx : Steps 2 s2 m s3 m = bx_step law u m (at k 12) xs false (code_at m k 12 0x4770 has refl (omega arith) refl) odd plain in
    steps_chain 1 4 s0 s1 s3 m m m subs (steps_chain 2 2 s1 s2 s3 m m m bcc bx)

-- what is added
added : (x w t : ℕ) → ((x + w) % 2 ^ 32 + t) % 2 ^ 32 ≡ (x + (t + w)) % 2 ^ 32
added x w t = omega arith

word_is : (m : List ℕ) (a n : ℕ) → IsInside a → word_from m (place (a + 4 * n)) ≡ word_from m (place a + 4 * n)
word_is m a n inside = let first = inside.first in let same : place (a + 4 * n) ≡ place a + 4 * n = omega (arith, first) in ap (word_from m) same

last_word : (m : List ℕ) (a n : ℕ) → word_after n (word_from m (place (a + 4 * n))) (word_from m (place a)) ≡ word_from m (place a)
last_word m a zero = let none : a + 4 * 0 ≡ a = omega arith in ap (λ y. word_from m (place y)) none
last_word m a (suc n) = refl

at_none : (a : ℕ) → IsInside (a + 4 * 0) → IsInside a
at_none a inside = let none : a + 4 * 0 ≡ a = omega arith in subst IsInside none inside

runs : AHalfwordSteps → (n : ℕ) (r : Regs) (m : List ℕ) (k a w x : ℕ) (rest : List ℕ) (c : Bool) → HasCode m k → has_bit r.lr 0 ≡ true → is_exception_return r.ipsr r.lr ≡ false
    → a % 4 ≡ 0 → ((i : ℕ) → i < n → IsInside (a + 4 * i)) → x < 2 ^ 32
    → Steps (8 * n + 5) (standing r (at k 0) (a ∷ w ∷ n ∷ x ∷ rest) c) m
    (standing (signed r 0) (r.lr / 2 * 2) (a ∷ word_after n w (word_from m (place a)) ∷ (2 ^ 32 - 1) ∷ (x + sum_of_words m (place a) n) % 2 ^ 32 ∷ rest) false) m
runs law zero r m k a w x rest c has odd plain aligned words small =
    let whole : x ≡ (x + 0) % 2 ^ 32 = omega (arith, small) in
    subst (λ y. Steps 5 (standing r (at k 0) (a ∷ w ∷ 0 ∷ x ∷ rest) c) m (standing (signed r 0) (r.lr / 2 * 2) (a ∷ w ∷ (2 ^ 32 - 1) ∷ y ∷ rest) false) m) whole
    (out law r m k a w x rest c has odd plain)
runs law (suc n) r m k a w x rest c has odd plain aligned words small =
    let w' = word_from m (place (a + 4 * n)) in
    let x' = (x + w') % 2 ^ 32 in
    let first : IsInside a = at_none a (words 0 (omega arith)) in
    let here = standing r (at k 0) (a ∷ w ∷ suc n ∷ x ∷ rest) c in
    let between = standing (flags_after r n x w') (at k 0) (a ∷ w' ∷ n ∷ x' ∷ rest) (carry_of x w' false) in
    let there = λ (v y : ℕ). standing (signed r 0) (r.lr / 2 * 2) (a ∷ v ∷ (2 ^ 32 - 1) ∷ y ∷ rest) false in
    let v1 = word_after n w' (word_from m (place a)) in
    let y1 = (x' + sum_of_words m (place a) n) % 2 ^ 32 in
    let one = turn law r m k a w n x rest c has aligned (words n (omega arith)) small in
    let more = runs law n (flags_after r n x w') m k a w' x' rest (carry_of x w' false) has odd plain aligned (λ i h. words i (omega (arith, h))) (omega arith) in
    let count : 8 + (8 * n + 5) ≡ 8 * suc n + 5 = omega arith in
    let sum : y1 ≡ (x + sum_of_words m (place a) (suc n)) % 2 ^ 32 =
    added x w' (sum_of_words m (place a) n) ∙ ap (λ y. (x + (sum_of_words m (place a) n + y)) % 2 ^ 32) (word_is m a n first) in
    let both : Steps (8 + (8 * n + 5)) here m (there v1 y1) m = steps_chain 8 (8 * n + 5) here between (there v1 y1) m m m one more in
    let left : Steps (8 + (8 * n + 5)) here m (there (word_from m (place a)) ((x + sum_of_words m (place a) (suc n)) % 2 ^ 32)) m =
    subst (λ y. Steps (8 + (8 * n + 5)) here m (there (word_from m (place a)) y) m) sum
    (subst (λ v. Steps (8 + (8 * n + 5)) here m (there v y1) m) (last_word m a n) both) in
    subst (λ i. Steps i here m (there (word_from m (place a)) ((x + sum_of_words m (place a) (suc n)) % 2 ^ 32)) m) count left

pub a_checksum_adds : AHalfwordSteps → AChecksumAdds
a_checksum_adds law k r m is =
    let call = is.call in
    let a = place (slice_index r.r 0) in
    let n = slice_index r.r 2 in
    let pc : at k 0 ≡ r.pc = omega (arith, call.entry) in
    let here : standing r (at k 0) r.r r.c ≡ r = ap₂ (λ p t. record r { pc = p; t = t }) pc (sym call.thumb) in
    let back = counted_out r (slice_set (slice_set (slice_set r.r 3 ((slice_index r.r 3 + sum_of_words m a n) % 2 ^ 32)) 2 (2 ^ 32 - 1)) 1 (word_after n (slice_index r.r 1) (word_from m a))) in
    let there : record back { t = true } ≡ back = ap (λ t. record back { t = t }) (sym call.thumb) in
    subst (λ s. Steps (8 * n + 5) s m back m) here
    (subst (λ s. Steps (8 * n + 5) (standing r (at k 0) r.r r.c) m s m) there (go r.r call.registers is.aligned is.words is.sum))
  where
    go : (xs : List ℕ) → length xs ≡ 13 → slice_index xs 0 % 4 ≡ 0 → ((i : ℕ) → i < slice_index xs 2 → IsInside (slice_index xs 0 + 4 * i)) → slice_index xs 3 < 2 ^ 32
        → let a = place (slice_index xs 0) in
        let n = slice_index xs 2 in
        Steps (8 * n + 5) (standing r (at k 0) xs r.c) m
        (record (counted_out r (slice_set (slice_set (slice_set xs 3 ((slice_index xs 3 + sum_of_words m a n) % 2 ^ 32)) 2 (2 ^ 32 - 1)) 1 (word_after n (slice_index xs 1) (word_from m a)))) { t = true }) m
    go [] e al ws s = absurd (omega (arith, e))
    go (a ∷ []) e al ws s = absurd (omega (arith, e))
    go (a ∷ b ∷ []) e al ws s = absurd (omega (arith, e))
    go (a ∷ b ∷ n ∷ []) e al ws s = absurd (omega (arith, e))
    go (a ∷ w ∷ n ∷ x ∷ rest) e al ws s = runs law n r m k a w x rest r.c (record { sram = is.sram; code = is.code; within = is.within; even = is.even }) is.call.odd is.call.plain al ws s
