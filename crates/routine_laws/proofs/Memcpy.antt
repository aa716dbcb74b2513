-- memcpy, by induction on the number of places.
use Rattle.std.proofs.Common.{◌≡◌, ℕ, zero, suc, ◌+◌, ◌-◌, ◌*◌, ◌/◌, ◌%◌, ◌^◌, ◌<◌, ◌≤◌, ◌⊎◌, inl, inr, Bool, true, false, List, [], ◌∷◌, ◌++◌, length, take, drop, get_or, slice_index, slice_set, refl, sym, ap, ap₂, subst, ◌∙◌, arith, length-take-le, length-drop, take-suc, get_or-take, get_or-drop}
use Rattle.rp_base.specs.Word.{has_bit}
use Rattle.thumb_rows.specs.Rows.{operation_of, rows}
use Rattle.m0_beats.specs.declared.registers.Regs.{Regs}
use Rattle.m0_beats.specs.Conditions.{is_exception_return}
use Rattle.core_runs.specs.Bytes.{put}
use Rattle.core_runs.specs.Runs.{Steps}
use Rattle.core_runs.specs.Programs.{AHalfwordSteps, IsInside, place, counted_out}
use Rattle.core_runs.proofs.Bytes.{put_below, put_above}
use Rattle.core_runs.proofs.Instructions.{steps_chain}
use Rattle.startup_blocks.specs.Table.{table_bytes}
use Rattle.routine_laws.specs.Routines.{copy, IsFree, AreFree, AreInside, byte_after, MemcpyCopies}
use Rattle.routine_laws.proofs.Coded.{HasTable, code_at, still_coded}
use Rattle.core_runs.proofs.Puts.{put_none, put_both}
use Rattle.core_runs.proofs.Opcodes.{standing, signed, subs_on, subs_off, bcc_on, bcc_off, b_step, bx_step, ldrb_step, strb_step}

-- one turn of the loop
turn : AHalfwordSteps → (r : Regs) (m : List ℕ) (a b n d : ℕ) (rest : List ℕ) (c : Bool) → HasTable m → suc n < 2 ^ 32 → IsFree (a + n) → IsInside (b + n)
    → Steps 8 (standing r 0x20040014 (a ∷ b ∷ suc n ∷ d ∷ rest) c) m (standing (signed r (suc n)) 0x20040014 (a ∷ b ∷ n ∷ slice_index m (place (b + n)) ∷ rest) true) (put m (place (a + n)) (slice_index m (place (b + n)) % 2 ^ 8 ∷ []))
unfolding operation_of rows table_bytes
turn law r m a b n d rest c coded small free source =
    let u = signed r (suc n) in
    let v = slice_index m (place (b + n)) in
    let xs = a ∷ b ∷ n ∷ d ∷ rest in
    let ys = a ∷ b ∷ n ∷ v ∷ rest in
    let m1 = put m (place (a + n)) (v % 2 ^ 8 ∷ []) in
    let coded1 : HasTable m1 = still_coded m (a + n) (v % 2 ^ 8) coded free (omega arith) in
    let subs = subs_on law r m 0x20040014 a b n d rest c (code_at m 20 0x3A01 coded refl (omega arith) refl) small in
    let bcc = bcc_on law u m 0x20040016 0xD302 2 xs (code_at m 22 0xD302 coded refl (omega arith) refl) refl refl in
    let ldrb = ldrb_step law u m 0x20040018 a b n d rest true (code_at m 24 0x5C8B coded refl (omega arith) refl) coded.sram source in
    let strb = strb_step law u m 0x2004001A 0x5483 3 v a b n v rest true (code_at m 26 0x5483 coded refl (omega arith) refl) refl refl refl coded.sram free.inside in
    let back = b_step law u m1 0x2004001C 0xE7FA 0x7FA ys true (code_at m1 28 0xE7FA coded1 refl (omega arith) refl) refl refl in
    steps_chain 1 7 _ (standing u 0x20040016 xs true) _ m m m1 subs
    (steps_chain 1 6 _ (standing u 0x20040018 xs true) _ m m m1 bcc
    (steps_chain 2 4 _ (standing u 0x2004001A ys true) _ m m m1 ldrb
    (steps_chain 2 2 _ (standing u 0x2004001C ys true) _ m m1 m1 strb back)))

-- the way out, where no place is left
out : AHalfwordSteps → (r : Regs) (m : List ℕ) (a b d : ℕ) (rest : List ℕ) (c : Bool) → HasTable m → has_bit r.lr 0 ≡ true → is_exception_return r.ipsr r.lr ≡ false
    → Steps 5 (standing r 0x20040014 (a ∷ b ∷ 0 ∷ d ∷ rest) c) m (standing (signed r 0) (r.lr / 2 * 2) (a ∷ b ∷ (2 ^ 32 - 1) ∷ d ∷ rest) false) m
unfolding operation_of rows table_bytes
out law r m a b d rest c coded odd plain =
    let u = signed r 0 in
    let xs = a ∷ b ∷ (2 ^ 32 - 1) ∷ d ∷ rest in
    let subs = subs_off law r m 0x20040014 a b d rest c (code_at m 20 0x3A01 coded refl (omega arith) refl) in
    let bcc = bcc_off law u m 0x20040016 0xD302 2 xs (code_at m 22 0xD302 coded refl (omega arith) refl) refl refl in
    let bx = bx_step law u m 0x2004001E xs false (code_at m 30 0x4770 coded refl (omega arith) refl) odd plain in
    steps_chain 1 4 _ (standing u 0x20040016 xs false) _ m m m subs
    (steps_chain 2 2 _ (standing u 0x2004001E xs false) _ m m m bcc bx)

-- ---- what is copied

-- the byte that is stored is none of those that are still to be copied
source_kept : (m : List ℕ) (a b n v : ℕ) → HasTable m → IsInside a → IsInside (a + n) → IsInside b → (a + suc n ≤ b) ⊎ (b + suc n ≤ a)
    → take n (drop (place b) (put m (place (a + n)) (v ∷ []))) ≡ take n (drop (place b) m)
source_kept m a b n v coded first last source (inl below) =
    ap (take n) (put_above m (place (a + n)) (v ∷ []) (place b) (omega (arith, last.first, last.last, coded.sram.size)) (omega (arith, last.first, below)))
source_kept m a b n v coded first last source (inr above) =
    put_below m (place (a + n)) (v ∷ []) (place b) n (omega (arith, last.first, last.last, coded.sram.size)) (omega (arith, first.first, source.first, above))

first_byte : (m : List ℕ) (q n : ℕ) → 0 < n → get_or (take n (drop q m)) 0 0 ≡ slice_index m q
first_byte m q n some =
    let none : q + 0 ≡ q = omega arith in
    get_or-take n (drop q m) 0 0 some ∙ get_or-drop q m 0 0 ∙ ap (slice_index m) none

byte_kept : (m m1 : List ℕ) (b n : ℕ) → take n (drop (place b) m1) ≡ take n (drop (place b) m)
    → byte_after n (slice_index m (place (b + n))) (slice_index m1 (place b)) ≡ slice_index m (place b)
byte_kept m m1 b zero same = let none : b + 0 ≡ b = omega arith in ap (λ x. slice_index m (place x)) none
byte_kept m m1 b (suc n) same =
    let some : 0 < suc n = omega arith in
    sym (first_byte m1 (place b) (suc n) some) ∙ ap (λ xs. get_or xs 0 0) same ∙ first_byte m (place b) (suc n) some

-- the places of one turn more
copy_more : (m : List ℕ) (a b n : ℕ) → HasTable m → IsInside a → IsInside (a + n) → IsInside b → IsInside (b + n)
    → let m1 = put m (place (a + n)) (slice_index m (place (b + n)) % 2 ^ 8 ∷ []) in
    take n (drop (place b) m1) ≡ take n (drop (place b) m) → copy m1 (place a) (place b) n ≡ copy m (place a) (place b) (suc n)
copy_more m a b n coded first last source source_last same =
    let q = place b in
    let v = slice_index m (place (b + n)) in
    let small : v % 2 ^ 8 ≡ v = omega (arith, coded.sram.bytes (place (b + n))) in
    let many : n < length (drop q m) = omega (arith, length-drop q m, source.first, source_last.last, coded.sram.size) in
    let count : length (take n (drop q m)) ≡ n = length-take-le n (drop q m) (omega (arith, many)) in
    let at : place (a + n) ≡ place a + length (take n (drop q m)) = omega (arith, count, first.first) in
    let fits : place a + length (take n (drop q m)) ≤ length m = omega (arith, count, first.first, last.last, coded.sram.size) in
    let index : q + n ≡ place (b + n) = omega (arith, source.first) in
    ap (put (put m (place (a + n)) (v % 2 ^ 8 ∷ [])) (place a)) same
    ∙ ap₂ (λ k w. put (put m k (w ∷ [])) (place a) (take n (drop q m))) at small
    ∙ put_both m (place a) (take n (drop q m)) (v ∷ []) fits
    ∙ ap (λ w. put m (place a) (take n (drop q m) ++ (w ∷ []))) (sym (get_or-drop q m n 0 ∙ ap (slice_index m) index))
    ∙ ap (put m (place a)) (sym (take-suc (drop q m) n 0 many))

-- ---- the loop

at_none : (a : ℕ) → IsInside (a + 0) → IsInside a
at_none a inside = let none : a + 0 ≡ a = omega arith in subst IsInside none inside

apart_less : (a b n : ℕ) → (a + suc n ≤ b) ⊎ (b + suc n ≤ a) → (a + n ≤ b) ⊎ (b + n ≤ a)
apart_less a b n (inl h) = inl (omega (arith, h))
apart_less a b n (inr h) = inr (omega (arith, h))

pub runs : AHalfwordSteps → (n : ℕ) (r : Regs) (m : List ℕ) (a b d : ℕ) (rest : List ℕ) (c : Bool) → HasTable m → has_bit r.lr 0 ≡ true → is_exception_return r.ipsr r.lr ≡ false
    → AreFree a n → AreInside b n → (a + n ≤ b) ⊎ (b + n ≤ a)
    → Steps (8 * n + 5) (standing r 0x20040014 (a ∷ b ∷ n ∷ d ∷ rest) c) m
    (standing (signed r 0) (r.lr / 2 * 2) (a ∷ b ∷ (2 ^ 32 - 1) ∷ byte_after n d (slice_index m (place b)) ∷ rest) false) (copy m (place a) (place b) n)
runs law zero r m a b d rest c coded odd plain free inside apart =
    let there = standing (signed r 0) (r.lr / 2 * 2) (a ∷ b ∷ (2 ^ 32 - 1) ∷ d ∷ rest) false in
    subst (λ x. Steps 5 (standing r 0x20040014 (a ∷ b ∷ 0 ∷ d ∷ rest) c) m there x) (sym (put_none m (place a))) (out law r m a b d rest c coded odd plain)
runs law (suc n) r m a b d rest c coded odd plain free inside apart =
    let here = standing r 0x20040014 (a ∷ b ∷ suc n ∷ d ∷ rest) c in
    let v = slice_index m (place (b + n)) in
    let m1 = put m (place (a + n)) (v % 2 ^ 8 ∷ []) in
    let between = standing (signed r (suc n)) 0x20040014 (a ∷ b ∷ n ∷ v ∷ rest) true in
    let last : IsFree (a + n) = free n (omega arith) in
    let first : IsInside a = at_none a (free 0 (omega arith)).inside in
    let source : IsInside b = at_none b (inside 0 (omega arith)) in
    let source_last : IsInside (b + n) = inside n (omega arith) in
    let bound = last.inside.last in
    let one = turn law r m a b n d rest c coded (omega (arith, bound)) last source_last in
    let coded1 : HasTable m1 = still_coded m (a + n) (v % 2 ^ 8) coded last (omega arith) in
    let more = runs law n (signed r (suc n)) m1 a b v rest true coded1 odd plain (λ k h. free k (omega (arith, h))) (λ k h. inside k (omega (arith, h))) (apart_less a b n apart) in
    let same = source_kept m a b n (v % 2 ^ 8) coded first last.inside source apart in
    let count : 8 + (8 * n + 5) ≡ 8 * suc n + 5 = omega arith in
    let there = λ (w : ℕ). standing (signed r 0) (r.lr / 2 * 2) (a ∷ b ∷ (2 ^ 32 - 1) ∷ w ∷ rest) false in
    let w1 = byte_after n v (slice_index m1 (place b)) in
    let both : Steps (8 + (8 * n + 5)) here m (there w1) (copy m1 (place a) (place b) n) = steps_chain 8 (8 * n + 5) here between (there w1) m m1 (copy m1 (place a) (place b) n) one more in
    subst (λ k. Steps k here m (there (slice_index m (place b))) (copy m (place a) (place b) (suc n))) count
    (subst (λ w. Steps (8 + (8 * n + 5)) here m (there w) (copy m (place a) (place b) (suc n))) (byte_kept m m1 b n same)
    (subst (λ x. Steps (8 + (8 * n + 5)) here m (there w1) x) (copy_more m a b n coded first last.inside source source_last same) both))

pub memcpy_copies : AHalfwordSteps → MemcpyCopies
memcpy_copies law r m called free inside apart =
    let pc : 0x20040014 ≡ r.pc = omega (arith, called.call.entry) in
    let here : standing r 0x20040014 r.r r.c ≡ r = ap₂ (λ p t. record r { pc = p; t = t }) pc (sym called.call.thumb) in
    let n = slice_index r.r 2 in
    let left = copy m (place (slice_index r.r 0)) (place (slice_index r.r 1)) n in
    let back = counted_out r (slice_set (slice_set r.r 3 (byte_after n (slice_index r.r 3) (slice_index m (place (slice_index r.r 1))))) 2 (2 ^ 32 - 1)) in
    let there : record back { t = true } ≡ back = ap (λ t. record back { t = t }) (sym called.call.thumb) in
    subst (λ x. Steps (8 * n + 5) x m back left) here
    (subst (λ y. Steps (8 * n + 5) (standing r 0x20040014 r.r r.c) m y left) there (go r.r called.call.registers free inside apart))
  where
    go : (xs : List ℕ) → length xs ≡ 13 → AreFree (slice_index xs 0) (slice_index xs 2) → AreInside (slice_index xs 1) (slice_index xs 2)
        → (slice_index xs 0 + slice_index xs 2 ≤ slice_index xs 1) ⊎ (slice_index xs 1 + slice_index xs 2 ≤ slice_index xs 0)
        → Steps (8 * slice_index xs 2 + 5) (standing r 0x20040014 xs r.c) m
        (record (counted_out r (slice_set (slice_set xs 3 (byte_after (slice_index xs 2) (slice_index xs 3) (slice_index m (place (slice_index xs 1))))) 2 (2 ^ 32 - 1))) { t = true })
        (copy m (place (slice_index xs 0)) (place (slice_index xs 1)) (slice_index xs 2))
    go [] e f i s = absurd (omega (arith, e))
    go (a ∷ []) e f i s = absurd (omega (arith, e))
    go (a ∷ b ∷ []) e f i s = absurd (omega (arith, e))
    go (a ∷ b ∷ n ∷ []) e f i s = absurd (omega (arith, e))
    go (a ∷ b ∷ n ∷ d ∷ rest) e f i s = runs law n r m a b d rest r.c (record { sram = called.sram; table = called.linked }) called.call.odd called.call.plain f i s
