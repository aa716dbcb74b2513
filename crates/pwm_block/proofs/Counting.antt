-- A slice that runs free: its counts and wraps in closed form.
use Rattle.std.proofs.Common.{◌∙◌, ap, sym, ◌≡◌, ℕ, zero, suc, ◌+◌, ◌-◌, ◌*◌, ◌/◌, ◌%◌, ◌^◌, ◌<◌, ◌≤◌, Bool, true, false, ◌&&◌, cond, subst, refl, arith}
use Rattle.std.specs.Prelude.{◌==◌, nat_le}
use Rattle.std.proofs.lemmas.Grind.{common_steps}
use Rattle.std.proofs.lemmas.Bool.Decides.{nat_tests}
use Rattle.std.proofs.lemmas.Nat.{div-mul-add, mod-mul-add, div-add-mod'}
use Rattle.rp_base.specs.Word.{bit_number}
use Rattle.pwm_block.specs.State.{Slice, is_enabled, is_phase_correct, mode_of, divisor_of}
use Rattle.pwm_block.specs.Step.{wraps, counted, has_event, is_full, after_event, acts, after_slice, has_wrap}
use Rattle.pwm_block.specs.Laws.{after_cycles, wraps_in, RunsFree, counts_of, CountsAreThoseOfTheDivider}

-- ---- quotients that go on by a step

div-at : (x m a b : ℕ) → x ≡ a * m + b → b < m → x / m ≡ a
div-at x m a b e h = ap (λ z. z / m) e ∙ div-mul-add a m b h

mod-at : (x m a b : ℕ) → x ≡ a * m + b → b < m → x % m ≡ b
mod-at x m a b e h = ap (λ z. z % m) e ∙ mod-mul-add a m b h

-- a step that goes past the end, and one that does not
past : (x d m : ℕ) → 0 < m → d ≤ m → m ≤ x % m + d → x + d ≡ (x / m + 1) * m + (x % m + d - m)
past x d m p h i = omega (arith, div-add-mod' x m)

past-lt : (x d m : ℕ) → 0 < m → d ≤ m → m ≤ x % m + d → x % m + d - m < m
past-lt x d m p h i = omega arith

pub div-past : (x d m : ℕ) → 0 < m → d ≤ m → m ≤ x % m + d → (x + d) / m ≡ x / m + 1
div-past x d m p h i = div-at (x + d) m (x / m + 1) (x % m + d - m) (past x d m p h i) (past-lt x d m p h i)

pub mod-past : (x d m : ℕ) → 0 < m → d ≤ m → m ≤ x % m + d → (x + d) % m ≡ x % m + d - m
mod-past x d m p h i = mod-at (x + d) m (x / m + 1) (x % m + d - m) (past x d m p h i) (past-lt x d m p h i)

short : (x d m : ℕ) → x + d ≡ x / m * m + (x % m + d)
short x d m = omega (arith, div-add-mod' x m)

pub div-short : (x d m : ℕ) → x % m + d < m → (x + d) / m ≡ x / m
div-short x d m h = div-at (x + d) m (x / m) (x % m + d) (short x d m) h

pub mod-short : (x d m : ℕ) → x % m + d < m → (x + d) % m ≡ x % m + d
mod-short x d m h = mod-at (x + d) m (x / m) (x % m + d) (short x d m) h

-- ---- a cycle

least : (s : Slice) → 16 ≤ divisor_of s
least s = grind (arith, nat_tests, common_steps)

both-true : (a b : Bool) → a ≡ true → b ≡ true → (a && b) ≡ true
both-true true b h i = i
both-true false b h i = h

event : (input was : Bool) (s : Slice) → mode_of s ≡ 0 → has_event input was s ≡ true
event input was s h = rw h refl

acting : (input was : Bool) (s : Slice) → is_enabled s ≡ true → mode_of s ≡ 0 → acts input was s ≡ true
acting input was s h i = both-true (is_enabled s) (has_event input was s) h (event input was s i)

-- what a cycle of a slice that acts comes to: no count, a count, a wrap
record Comes (input was : Bool) (s t : Slice) (b : Bool) : Type 0 where
  slice : after_slice input was s ≡ t
  wrap : has_wrap input was s ≡ b

no_count : (input was : Bool) (s : Slice) → acts input was s ≡ true → is_full s ≡ false
    → Comes input was s (record s { acc = s.acc + 16 }) false
no_count input was s h i = record {
  slice = ap (λ b. cond b (after_event s) s) h ∙ ap (λ b. cond b (counted (record s { acc = s.acc + 16 - divisor_of s })) (record s { acc = s.acc + 16 })) i;
  wrap = ap (λ b. b && (is_full s && wraps s)) h ∙ ap (λ b. b && wraps s) i;
}

count : (input was : Bool) (s : Slice) → acts input was s ≡ true → is_full s ≡ true
    → Comes input was s (counted (record s { acc = s.acc + 16 - divisor_of s })) (wraps s)
count input was s h i = record {
  slice = ap (λ b. cond b (after_event s) s) h ∙ ap (λ b. cond b (counted (record s { acc = s.acc + 16 - divisor_of s })) (record s { acc = s.acc + 16 })) i;
  wrap = ap (λ b. b && (is_full s && wraps s)) h ∙ ap (λ b. b && wraps s) i;
}

-- counting up alone
upward-wrap : (s : Slice) → is_phase_correct s ≡ false → (s.ctr == s.live_top) ≡ true
    → counted s ≡ record s { ctr = 0; live_cc = s.cc; live_top = s.top }
upward-wrap s h i = rw (h, i) refl

upward-on : (s : Slice) → is_phase_correct s ≡ false → (s.ctr == s.live_top) ≡ false
    → counted s ≡ record s { ctr = (s.ctr + 1) % 2 ^ 16 }
upward-on s h i = rw (h, i) refl

upward-wraps : (s : Slice) → is_phase_correct s ≡ false → wraps s ≡ (s.ctr == s.live_top)
upward-wraps s h = rw h refl

-- ---- so many cycles

-- a slice so many cycles after another one, with so many wraps
record IsAfter (s t : Slice) (n w : ℕ) : Type 0 where
  csr : t.csr ≡ s.csr
  div : t.div ≡ s.div
  top : t.top ≡ s.live_top
  live : t.live_top ≡ s.live_top
  acc : t.acc ≡ (16 * n + s.acc) % divisor_of s
  ctr : t.ctr ≡ counts_of s n % (s.live_top + 1)
  wraps : w ≡ counts_of s n / (s.live_top + 1)

moved : (input was : Bool) (s t x : Slice) (n w : ℕ) (b : Bool) → Comes input was t x b → IsAfter s x n (w + bit_number b)
    → IsAfter s (after_slice input was t) n (w + bit_number (has_wrap input was t))
moved input was s t x n w b c h =
    subst (λ (y : Slice). IsAfter s y n (w + bit_number (has_wrap input was t))) (sym c.slice)
    (subst (λ (y : Bool). IsAfter s x n (w + bit_number y)) (sym c.wrap) h)

sooner : (s : Slice) (n : ℕ) → 16 * suc n + s.acc ≡ 16 * n + s.acc + 16
sooner s n = omega arith

-- the divider has not enough for a count
low : (s : Slice) (n : ℕ) → (16 * n + s.acc) % divisor_of s + 16 < divisor_of s → counts_of s (suc n) ≡ counts_of s n
low s n h = ap (λ x. s.ctr + x) (ap (λ x. x / divisor_of s) (sooner s n) ∙ div-short (16 * n + s.acc) 16 (divisor_of s) h)

low-acc : (s : Slice) (n : ℕ) → (16 * n + s.acc) % divisor_of s + 16 < divisor_of s
    → (16 * suc n + s.acc) % divisor_of s ≡ (16 * n + s.acc) % divisor_of s + 16
low-acc s n h = ap (λ x. x % divisor_of s) (sooner s n) ∙ mod-short (16 * n + s.acc) 16 (divisor_of s) h

-- and where it has
high : (s : Slice) (n : ℕ) → divisor_of s ≤ (16 * n + s.acc) % divisor_of s + 16 → counts_of s (suc n) ≡ counts_of s n + 1
high s n h =
    ap (λ x. s.ctr + x)
    (ap (λ x. x / divisor_of s) (sooner s n) ∙ div-past (16 * n + s.acc) 16 (divisor_of s) (omega (arith, least s)) (least s) h)
    ∙ plus s.ctr ((16 * n + s.acc) / divisor_of s)
  where
    plus : (a b : ℕ) → a + (b + 1) ≡ a + b + 1
    plus a b = omega arith

high-acc : (s : Slice) (n : ℕ) → divisor_of s ≤ (16 * n + s.acc) % divisor_of s + 16
    → (16 * suc n + s.acc) % divisor_of s ≡ (16 * n + s.acc) % divisor_of s + 16 - divisor_of s
high-acc s n h =
    ap (λ x. x % divisor_of s) (sooner s n)
    ∙ mod-past (16 * n + s.acc) 16 (divisor_of s) (omega (arith, least s)) (least s) h

same-divisor : (s t : Slice) → t.div ≡ s.div → divisor_of t ≡ divisor_of s
same-divisor s t e = cc

same-enabled : (s t : Slice) → t.csr ≡ s.csr → is_enabled t ≡ is_enabled s
same-enabled s t e = cc

same-mode : (s t : Slice) → t.csr ≡ s.csr → mode_of t ≡ mode_of s
same-mode s t e = cc

same-way : (s t : Slice) → t.csr ≡ s.csr → is_phase_correct t ≡ is_phase_correct s
same-way s t e = cc

le-true : (a b : ℕ) → nat_le a b ≡ true → a ≤ b
le-true a b h = grind (arith, nat_tests, common_steps)

le-false : (a b : ℕ) → nat_le a b ≡ false → b < a
le-false a b h = grind (arith, nat_tests, common_steps)

eq-true : (a b : ℕ) → (a == b) ≡ true → a ≡ b
eq-true a b h = grind (arith, nat_tests, common_steps)

eq-false : (a b : ℕ) → (a == b) ≡ false → a ≤ b → a < b
eq-false a b h i = grind (arith, nat_tests, common_steps)

no_count-after : (s t : Slice) (n w : ℕ) → IsAfter s t n w → is_full t ≡ false
    → IsAfter s (record t { acc = t.acc + 16 }) (suc n) (w + 0)
no_count-after s t n w h f =
    let d = same-divisor s t h.div in
    let less : (16 * n + s.acc) % divisor_of s + 16 < divisor_of s = omega (arith, le-false (divisor_of t) (t.acc + 16) f, d, h.acc) in
    record {
      csr = h.csr;
      div = h.div;
      top = h.top;
      live = h.live;
      acc = ap (λ x. x + 16) h.acc ∙ sym (low-acc s n less);
      ctr = h.ctr ∙ ap (λ x. x % (s.live_top + 1)) (sym (low s n less));
      wraps = plus-none w ∙ h.wraps ∙ ap (λ x. x / (s.live_top + 1)) (sym (low s n less));
    }
  where
    plus-none : (a : ℕ) → a + 0 ≡ a
    plus-none a = omega arith

full-acc : (s t : Slice) (n w : ℕ) → IsAfter s t n w → is_full t ≡ true → divisor_of s ≤ (16 * n + s.acc) % divisor_of s + 16
full-acc s t n w h f = omega (arith, le-true (divisor_of t) (t.acc + 16) f, same-divisor s t h.div, h.acc)

acc-after : (s t : Slice) (n w : ℕ) → IsAfter s t n w → is_full t ≡ true
    → t.acc + 16 - divisor_of t ≡ (16 * suc n + s.acc) % divisor_of s
acc-after s t n w h f = omega (arith, h.acc, same-divisor s t h.div, high-acc s n (full-acc s t n w h f))

wrap-after : (s t : Slice) (n w : ℕ) → RunsFree s → IsAfter s t n w → is_full t ≡ true → (t.ctr == t.live_top) ≡ true
    → IsAfter s (record t { acc = t.acc + 16 - divisor_of t; ctr = 0; live_cc = t.cc; live_top = t.top }) (suc n) (w + 1)
wrap-after s t n w r h f e =
    let more = high s n (full-acc s t n w h f) in
    let at_top : counts_of s n % (s.live_top + 1) ≡ s.live_top = sym h.ctr ∙ eq-true t.ctr t.live_top e ∙ h.live in
    let past : s.live_top + 1 ≤ counts_of s n % (s.live_top + 1) + 1 = omega arith in
    record {
      csr = h.csr;
      div = h.div;
      top = h.top;
      live = h.top;
      acc = acc-after s t n w h f;
      ctr = sym (ap (λ x. x % (s.live_top + 1)) more ∙ mod-past (counts_of s n) 1 (s.live_top + 1) (omega arith) (omega arith) past ∙ omega arith);
      wraps = ap (λ x. x + 1) h.wraps ∙ sym (ap (λ x. x / (s.live_top + 1)) more ∙ div-past (counts_of s n) 1 (s.live_top + 1) (omega arith) (omega arith) past);
    }

count-after : (s t : Slice) (n w : ℕ) → RunsFree s → IsAfter s t n w → is_full t ≡ true → (t.ctr == t.live_top) ≡ false
    → IsAfter s (record t { acc = t.acc + 16 - divisor_of t; ctr = (t.ctr + 1) % 2 ^ 16 }) (suc n) (w + 0)
count-after s t n w r h f e =
    let more = high s n (full-acc s t n w h f) in
    let bound : counts_of s n % (s.live_top + 1) < s.live_top + 1 = omega arith in
    let within : t.ctr < t.live_top = eq-false t.ctr t.live_top e (omega (arith, h.ctr, h.live, bound)) in
    let short : counts_of s n % (s.live_top + 1) + 1 < s.live_top + 1 = omega (arith, h.ctr, h.live, within) in
    record {
      csr = h.csr;
      div = h.div;
      top = h.top;
      live = h.live;
      acc = acc-after s t n w h f;
      ctr = fits t.ctr (omega (arith, within, h.live, r.sixteen)) ∙ ap (λ x. x + 1) h.ctr
          ∙ sym (ap (λ x. x % (s.live_top + 1)) more ∙ mod-short (counts_of s n) 1 (s.live_top + 1) short);
      wraps = plus-none w ∙ h.wraps ∙ sym (ap (λ x. x / (s.live_top + 1)) more ∙ div-short (counts_of s n) 1 (s.live_top + 1) short);
    }
  where
    plus-none : (a : ℕ) → a + 0 ≡ a
    plus-none a = omega arith

    fits : (a : ℕ) → a < 2 ^ 16 - 1 → (a + 1) % 2 ^ 16 ≡ a + 1
    fits a h = omega arith

-- a count by where it is
counted-after : (s t : Slice) (n w : ℕ) (b : Bool) → RunsFree s → IsAfter s t n w → is_full t ≡ true → (t.ctr == t.live_top) ≡ b
    → IsAfter s (counted (record t { acc = t.acc + 16 - divisor_of t })) (suc n) (w + bit_number (wraps t))
counted-after s t n w true r h f e =
    let up : is_phase_correct t ≡ false = same-way s t h.csr ∙ r.upward in
    let u : Slice = record t { acc = t.acc + 16 - divisor_of t } in
    subst (λ (y : Slice). IsAfter s y (suc n) (w + bit_number (wraps t))) (sym (upward-wrap u up e))
    (subst (λ (y : Bool). IsAfter s (record t { acc = t.acc + 16 - divisor_of t; ctr = 0; live_cc = t.cc; live_top = t.top }) (suc n) (w + bit_number y))
    (sym (upward-wraps t up ∙ e)) (wrap-after s t n w r h f e))
counted-after s t n w false r h f e =
    let up : is_phase_correct t ≡ false = same-way s t h.csr ∙ r.upward in
    let u : Slice = record t { acc = t.acc + 16 - divisor_of t } in
    subst (λ (y : Slice). IsAfter s y (suc n) (w + bit_number (wraps t))) (sym (upward-on u up e))
    (subst (λ (y : Bool). IsAfter s (record t { acc = t.acc + 16 - divisor_of t; ctr = (t.ctr + 1) % 2 ^ 16 }) (suc n) (w + bit_number y))
    (sym (upward-wraps t up ∙ e)) (count-after s t n w r h f e))

next-after : (input was : Bool) (s t : Slice) (n w : ℕ) (b : Bool) → RunsFree s → IsAfter s t n w → is_full t ≡ b
    → IsAfter s (after_slice input was t) (suc n) (w + bit_number (has_wrap input was t))
next-after input was s t n w true r h f =
    let a = acting input was t (same-enabled s t h.csr ∙ r.enabled) (same-mode s t h.csr ∙ r.always) in
    moved input was s t _ (suc n) w _ (count input was t a f) (counted-after s t n w (t.ctr == t.live_top) r h f refl)
next-after input was s t n w false r h f =
    let a = acting input was t (same-enabled s t h.csr ∙ r.enabled) (same-mode s t h.csr ∙ r.always) in
    moved input was s t _ (suc n) w _ (no_count input was t a f) (no_count-after s t n w h f)

small-div : (a m : ℕ) → a < m → a / m ≡ 0
small-div a m h = div-at a m 0 a (omega arith) h

small-mod : (a m : ℕ) → a < m → a % m ≡ a
small-mod a m h = mod-at a m 0 a (omega arith) h

start : (s : Slice) → RunsFree s → counts_of s 0 ≡ s.ctr
start s r = ap (λ x. s.ctr + x) (small-div (16 * 0 + s.acc) (divisor_of s) (omega (arith, r.part))) ∙ omega arith

after : (input : ℕ → Bool) (n : ℕ) (s : Slice) → RunsFree s → IsAfter s (after_cycles input n s) n (wraps_in input n s)
after input zero s r = record {
  csr = refl;
  div = refl;
  top = sym r.top;
  live = refl;
  acc = sym (small-mod (16 * 0 + s.acc) (divisor_of s) (omega (arith, r.part)) ∙ omega arith);
  ctr = sym (ap (λ x. x % (s.live_top + 1)) (start s r) ∙ small-mod s.ctr (s.live_top + 1) (omega (arith, r.within)));
  wraps = sym (ap (λ x. x / (s.live_top + 1)) (start s r) ∙ small-div s.ctr (s.live_top + 1) (omega (arith, r.within)));
}
after input (suc n) s r =
    next-after (input (suc n)) (input n) s (after_cycles input n s) n (wraps_in input n s) (is_full (after_cycles input n s)) r
    (after input n s r) refl

pub counts_are_those_of_the_divider : CountsAreThoseOfTheDivider
counts_are_those_of_the_divider = λ input n s r. let h = after input n s r in record { ctr = h.ctr; wraps = h.wraps }
