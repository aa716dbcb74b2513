-- memset, by induction on the number of places.
use Rattle.std.proofs.Common.{◌≡◌, ℕ, zero, suc, ◌+◌, ◌-◌, ◌*◌, ◌/◌, ◌%◌, ◌^◌, ◌<◌, ◌≤◌, Bool, true, false, List, [], ◌∷◌, length, replicate, slice_index, slice_set, refl, sym, ap, ap₂, subst, ◌∙◌, arith}
use Rattle.rp_base.specs.Word.{has_bit}
use Rattle.thumb_rows.specs.Rows.{operation_of, rows}
use Rattle.m0_beats.specs.declared.registers.Regs.{Regs}
use Rattle.m0_beats.specs.Conditions.{is_exception_return}
use Rattle.core_runs.specs.Bytes.{put}
use Rattle.core_runs.specs.Runs.{Steps}
use Rattle.core_runs.specs.Programs.{AHalfwordSteps, IsInside, place, counted_out}
use Rattle.core_runs.proofs.Instructions.{steps_chain}
use Rattle.startup_blocks.specs.Table.{table_bytes}
use Rattle.routine_laws.specs.Routines.{set, IsFree, AreFree, MemsetSets}
use Rattle.routine_laws.proofs.Coded.{HasTable, code_at, still_coded}
use Rattle.core_runs.proofs.Puts.{put_none, put_both, replicate_more, replicate_length}
use Rattle.core_runs.proofs.Opcodes.{standing, signed, subs_on, subs_off, bcc_on, bcc_off, b_step, bx_step, strb_step}

-- one turn of the loop
turn : AHalfwordSteps → (r : Regs) (m : List ℕ) (a b n d : ℕ) (rest : List ℕ) (c : Bool) → HasTable m → suc n < 2 ^ 32 → IsFree (a + n)
    → Steps 6 (standing r 0x20040008 (a ∷ b ∷ suc n ∷ d ∷ rest) c) m (standing (signed r (suc n)) 0x20040008 (a ∷ b ∷ n ∷ d ∷ rest) true) (put m (place (a + n)) (b % 2 ^ 8 ∷ []))
unfolding operation_of rows table_bytes
turn law r m a b n d rest c coded small free =
    let u = signed r (suc n) in
    let xs = a ∷ b ∷ n ∷ d ∷ rest in
    let m1 = put m (place (a + n)) (b % 2 ^ 8 ∷ []) in
    let coded1 : HasTable m1 = still_coded m (a + n) (b % 2 ^ 8) coded free (omega arith) in
    let subs = subs_on law r m 0x20040008 a b n d rest c (code_at m 8 0x3A01 coded refl (omega arith) refl) small in
    let bcc = bcc_on law u m 0x2004000A 0xD301 1 xs (code_at m 10 0xD301 coded refl (omega arith) refl) refl refl in
    let strb = strb_step law u m 0x2004000C 0x5481 1 b a b n d rest true (code_at m 12 0x5481 coded refl (omega arith) refl) refl refl refl coded.sram free.inside in
    let back = b_step law u m1 0x2004000E 0xE7FB 0x7FB xs true (code_at m1 14 0xE7FB coded1 refl (omega arith) refl) refl refl in
    steps_chain 1 5 _ (standing u 0x2004000A xs true) _ m m m1 subs
    (steps_chain 1 4 _ (standing u 0x2004000C xs true) _ m m m1 bcc
    (steps_chain 2 2 _ (standing u 0x2004000E xs true) _ m m1 m1 strb back))

-- the way out, where no place is left
out : AHalfwordSteps → (r : Regs) (m : List ℕ) (a b d : ℕ) (rest : List ℕ) (c : Bool) → HasTable m → has_bit r.lr 0 ≡ true → is_exception_return r.ipsr r.lr ≡ false
    → Steps 5 (standing r 0x20040008 (a ∷ b ∷ 0 ∷ d ∷ rest) c) m (standing (signed r 0) (r.lr / 2 * 2) (a ∷ b ∷ (2 ^ 32 - 1) ∷ d ∷ rest) false) m
unfolding operation_of rows table_bytes
out law r m a b d rest c coded odd plain =
    let u = signed r 0 in
    let xs = a ∷ b ∷ (2 ^ 32 - 1) ∷ d ∷ rest in
    let subs = subs_off law r m 0x20040008 a b d rest c (code_at m 8 0x3A01 coded refl (omega arith) refl) in
    let bcc = bcc_off law u m 0x2004000A 0xD301 1 xs (code_at m 10 0xD301 coded refl (omega arith) refl) refl refl in
    let bx = bx_step law u m 0x20040010 xs false (code_at m 16 0x4770 coded refl (omega arith) refl) odd plain in
    steps_chain 1 4 _ (standing u 0x2004000A xs false) _ m m m subs
    (steps_chain 2 2 _ (standing u 0x20040010 xs false) _ m m m bcc bx)

-- the places of one turn more
set_more : (m : List ℕ) (a v n : ℕ) → HasTable m → IsInside a → IsInside (a + n) → set (put m (place (a + n)) (v ∷ [])) (place a) v n ≡ set m (place a) v (suc n)
set_more m a v n coded first last =
    let count = replicate_length n v in
    let at : place (a + n) ≡ place a + length (replicate n v) = omega (arith, count, first.first) in
    let fits : place a + length (replicate n v) ≤ length m = omega (arith, count, first.first, last.last, coded.sram.size) in
    ap (λ k. put (put m k (v ∷ [])) (place a) (replicate n v)) at
    ∙ put_both m (place a) (replicate n v) (v ∷ []) fits
    ∙ ap (put m (place a)) (replicate_more n v)

at_first : (a : ℕ) → IsFree (a + 0) → IsInside a
at_first a free = let none : a + 0 ≡ a = omega arith in subst IsInside none free.inside

pub runs : AHalfwordSteps → (n : ℕ) (r : Regs) (m : List ℕ) (a b d : ℕ) (rest : List ℕ) (c : Bool) → HasTable m → has_bit r.lr 0 ≡ true → is_exception_return r.ipsr r.lr ≡ false → AreFree a n
    → Steps (6 * n + 5) (standing r 0x20040008 (a ∷ b ∷ n ∷ d ∷ rest) c) m (standing (signed r 0) (r.lr / 2 * 2) (a ∷ b ∷ (2 ^ 32 - 1) ∷ d ∷ rest) false) (set m (place a) (b % 2 ^ 8) n)
runs law zero r m a b d rest c coded odd plain free =
    let there = standing (signed r 0) (r.lr / 2 * 2) (a ∷ b ∷ (2 ^ 32 - 1) ∷ d ∷ rest) false in
    subst (λ x. Steps 5 (standing r 0x20040008 (a ∷ b ∷ 0 ∷ d ∷ rest) c) m there x) (sym (put_none m (place a))) (out law r m a b d rest c coded odd plain)
runs law (suc n) r m a b d rest c coded odd plain free =
    let here = standing r 0x20040008 (a ∷ b ∷ suc n ∷ d ∷ rest) c in
    let between = standing (signed r (suc n)) 0x20040008 (a ∷ b ∷ n ∷ d ∷ rest) true in
    let there = standing (signed r 0) (r.lr / 2 * 2) (a ∷ b ∷ (2 ^ 32 - 1) ∷ d ∷ rest) false in
    let v = b % 2 ^ 8 in
    let m1 = put m (place (a + n)) (v ∷ []) in
    let last : IsFree (a + n) = free n (omega arith) in
    let first : IsInside a = at_first a (free 0 (omega arith)) in
    let bound = last.inside.last in
    let one = turn law r m a b n d rest c coded (omega (arith, bound)) last in
    let coded1 : HasTable m1 = still_coded m (a + n) v coded last (omega arith) in
    let more = runs law n (signed r (suc n)) m1 a b d rest true coded1 odd plain (λ k h. free k (omega (arith, h))) in
    let count : 6 + (6 * n + 5) ≡ 6 * suc n + 5 = omega arith in
    let both : Steps (6 + (6 * n + 5)) here m there (set m1 (place a) v n) = steps_chain 6 (6 * n + 5) here between there m m1 (set m1 (place a) v n) one more in
    subst (λ k. Steps k here m there (set m (place a) v (suc n))) count
    (subst (λ x. Steps (6 + (6 * n + 5)) here m there x) (set_more m a v n coded first last.inside) both)

pub memset_sets : AHalfwordSteps → MemsetSets
memset_sets law r m called free =
    let pc : 0x20040008 ≡ r.pc = omega (arith, called.call.entry) in
    let here : standing r 0x20040008 r.r r.c ≡ r = ap₂ (λ p t. record r { pc = p; t = t }) pc (sym called.call.thumb) in
    let back = counted_out r (slice_set r.r 2 (2 ^ 32 - 1)) in
    let there : record back { t = true } ≡ back = ap (λ t. record back { t = t }) (sym called.call.thumb) in
    let n = slice_index r.r 2 in
    let left = set m (place (slice_index r.r 0)) (slice_index r.r 1 % 2 ^ 8) n in
    subst (λ x. Steps (6 * n + 5) x m back left) here
    (subst (λ y. Steps (6 * n + 5) (standing r 0x20040008 r.r r.c) m y left) there (go r.r called.call.registers free))
  where
    go : (xs : List ℕ) → length xs ≡ 13 → AreFree (slice_index xs 0) (slice_index xs 2)
        → Steps (6 * slice_index xs 2 + 5) (standing r 0x20040008 xs r.c) m (record (counted_out r (slice_set xs 2 (2 ^ 32 - 1))) { t = true }) (set m (place (slice_index xs 0)) (slice_index xs 1 % 2 ^ 8) (slice_index xs 2))
    go [] e f = absurd (omega (arith, e))
    go (a ∷ []) e f = absurd (omega (arith, e))
    go (a ∷ b ∷ []) e f = absurd (omega (arith, e))
    go (a ∷ b ∷ n ∷ []) e f = absurd (omega (arith, e))
    go (a ∷ b ∷ n ∷ d ∷ rest) e f = runs law n r m a b d rest r.c (record { sram = called.sram; table = called.linked }) called.call.odd called.call.plain f
