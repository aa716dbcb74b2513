-- A machine that only waits: what is left of its divider and its delay after so many cycles, and for how long it does.
use Rattle.std.proofs.Common.{◌≡◌, ◌∙◌, ap, sym, subst, refl, ℕ, zero, suc, ◌+◌, ◌-◌, ◌*◌, ◌/◌, ◌%◌, ◌^◌, ◌<◌, ◌≤◌, Bool, true, false, ◌&&◌, ◌==◌, nat_lt, if◌then◌else◌, Option, Some, None, slice_index, bit_and, arith}
use Rattle.pio_machine.proofs.Shared.{Done, Machine1, Seen, Waiting, add-mul, advanced, after_cycle, after_try, after_word, and_le_r, bit_at, bit_not, delay_of, divider, either-way, ended, has_side, ltb-false, ltb-true, nothing_done, operation_of, or_lt, overlaid, same_from_bits_below, side_pindir, ticks, w32, with_autopull, with_side, word_of, word_tried, worked, written, written_by_try, written_by_word, written_in_cycle, zero-div}
use Rattle.std.proofs.Math.Dec.{eqb-suc-zero}
use Rattle.pio_machine.specs.Quiet.{waited_once, waited, LeavesPins, IsQuiet, is_forced, loads, IsStuck}
use Rattle.pio_machine.proofs.Clock.{at_least, one_more}
use Rattle.pio_machine.proofs.Drives.{bit_overlaid, writes-side}
use Rattle.pio_machine.proofs.Stuck.{stays}

-- ---- what goes on

pub once_off : (m : Machine1) → m.enabled ≡ false → waited_once m ≡ m
once_off m off = rw off refl

pub waited_off : (n : ℕ) (m : Machine1) → m.enabled ≡ false → waited n m ≡ m
unfolding waited
waited_off zero m off = refl
waited_off (suc n) m off = ap waited_once (waited_off n m off) ∙ once_off m off

once_at_tick : (m : Machine1) (a d : ℕ) → m.enabled ≡ true → nat_lt a 256 ≡ true
    → waited_once (record m { acc = a; delay = d }) ≡ record m { acc = a + divider m - 256; delay = d - 1 }
once_at_tick m a d on low = rw (on, low) refl

once_between : (m : Machine1) (a d : ℕ) → m.enabled ≡ true → nat_lt a 256 ≡ false
    → waited_once (record m { acc = a; delay = d }) ≡ record m { acc = a - 256; delay = d }
once_between m a d on high = rw (on, high) refl

-- so many ticks are among so many cycles, and so much is left of the divider
record Gone (m : Machine1) (n : ℕ) : Type 0 where
  ticks : ℕ
  acc : ℕ
  at : waited n m ≡ record m { acc = acc; delay = m.delay - ticks }
  sum : acc + 256 * n ≡ m.acc + ticks * divider m
  least : 0 < ticks → m.acc + ticks * divider m < 256 * n + divider m

one_more_gone : (m : Machine1) (n : ℕ) → m.enabled ≡ true → (g : Gone m n) (low : Bool) → nat_lt g.acc 256 ≡ low → Gone m (suc n)
unfolding waited
one_more_gone m n on g true e =
    let less = ltb-true g.acc 256 e in
    let more = one_more g.ticks (divider m) in
    let fewer : m.delay - g.ticks - 1 ≡ m.delay - (1 + g.ticks) = omega arith in
    record {
      ticks = 1 + g.ticks;
      acc = g.acc + divider m - 256;
      at = ap waited_once g.at ∙ once_at_tick m g.acc (m.delay - g.ticks) on e ∙ ap (λ d. record m { acc = g.acc + divider m - 256; delay = d }) fewer;
      sum = omega (arith, g.sum, more, at_least m);
      least = λ some. omega (arith, g.sum, more, less);
    }
one_more_gone m n on g false e =
    let high = ltb-false g.acc 256 e in
    record {
      ticks = g.ticks;
      acc = g.acc - 256;
      at = ap waited_once g.at ∙ once_between m g.acc (m.delay - g.ticks) on e;
      sum = omega (arith, g.sum, high);
      least = λ some. omega (arith, g.least some);
    }

gone : (m : Machine1) (n : ℕ) → m.enabled ≡ true → Gone m n
unfolding waited
gone m zero on = record { ticks = 0; acc = m.acc; at = ap (λ d. record m { delay = d }) (omega arith); sum = omega arith; least = λ some. omega (arith, some) }
gone m (suc n) on = let g = gone m n on in one_more_gone m n on g (nat_lt g.acc 256) refl

-- the number of ticks is known by the time
not_fewer : (t u period before time : ℕ) → t < u → time ≤ before + t * period → (0 < u → before + u * period < time + period) → ⊥
not_fewer t u period before time less enough least =
    let extra = u - t - 1 in
    let split : u * period ≡ extra * period + (period + t * period) = ap (λ n. n * period) (omega (arith, less)) ∙ add-mul extra (1 + t) period ∙ ap (λ x. extra * period + x) (one_more t period) in
    let bound = least (omega (arith, less)) in
    omega (arith, split, bound, enough)

same_ticks-by : (fewer more : Bool) (t u period before time : ℕ) → nat_lt t u ≡ fewer → nat_lt u t ≡ more → time ≤ before + t * period → time ≤ before + u * period
    → (0 < t → before + t * period < time + period) → (0 < u → before + u * period < time + period) → t ≡ u
same_ticks-by true more t u period before time e i h k low high = absurd (not_fewer t u period before time (ltb-true t u e) h high)
same_ticks-by false true t u period before time e i h k low high = absurd (not_fewer u t period before time (ltb-true u t i) k low)
same_ticks-by false false t u period before time e i h k low high = omega (arith, ltb-false t u e, ltb-false u t i)

pub waited_by : (m : Machine1) (n acc ticks delay period : ℕ) → m.enabled ≡ true → period ≡ divider m → acc + 256 * n ≡ m.acc + ticks * period
    → (0 < ticks → m.acc + ticks * period < 256 * n + period) → delay ≡ m.delay - ticks → record m { acc = acc; delay = delay } ≡ waited n m
waited_by m n acc ticks delay period on same sum least e =
    let g = gone m n on in
    let times = ap (λ p. ticks * p) same in
    let count : g.ticks ≡ ticks =
    same_ticks-by (nat_lt g.ticks ticks) (nat_lt ticks g.ticks) g.ticks ticks (divider m) m.acc (256 * n) refl refl (omega (arith, g.sum)) (omega (arith, sum, times)) g.least (λ some. omega (arith, least some, times, same)) in
    let left : g.acc ≡ acc = omega (arith, g.sum, sum, times, ap (λ t. t * divider m) count) in
    sym (g.at ∙ ap (λ a. record m { acc = a; delay = m.delay - g.ticks }) left ∙ ap (λ t. record m { acc = acc; delay = m.delay - t }) count ∙ ap (λ d. record m { acc = acc; delay = d }) (sym e))

-- ---- what it leaves

-- what does not look at what is left of the divider and of the delay
abbrev pub LooksOutside : {A : Type 0} → (Machine1 → A) → Type 0
LooksOutside f = (m : Machine1) (a d : ℕ) → f (record m { acc = a; delay = d }) ≡ f m

keeps-by : {A : Type 0} (on : Bool) (f : Machine1 → A) → LooksOutside f → (n : ℕ) (m : Machine1) → m.enabled ≡ on → f (waited n m) ≡ f m
keeps-by true f h n m e = let g = gone m n e in ap f g.at ∙ h m g.acc (m.delay - g.ticks)
keeps-by false f h n m e = ap f (waited_off n m e)

pub keeps : {A : Type 0} (f : Machine1 → A) → LooksOutside f → (n : ℕ) (m : Machine1) → f (waited n m) ≡ f m
keeps f h n m = keeps-by m.enabled f h n m refl

-- ---- cycles in which no word is tried

between-by : (waiting : Option Waiting) (seen : Seen) (m : Machine1) → is_forced waiting ≡ false → ticks m ≡ false → word_of waiting seen m ≡ None
between-by None seen m none still = rw still refl
between-by (Some w) seen m none still = rw (none, still) refl

none_tried : (word : Option ℕ) (ticked : Bool) (number : ℕ) (seen : Seen) (m : Machine1) → word ≡ None → ticked ≡ false → after_word word ticked number seen m ≡ m
none_tried word ticked number seen m none still = rw (none, still) refl

none_written : (word : Option ℕ) (number : ℕ) (seen : Seen) (m : Machine1) (d : Done) → word ≡ None → written_by_word word number seen m d ≡ d
none_written word number seen m d none = rw none refl

off_tick : (number : ℕ) (seen : Seen) (m : Machine1) → is_forced m.waiting ≡ false → ticks m ≡ false → after_cycle number seen m ≡ waited_once m
unfolding after_cycle word_tried
off_tick number seen m none still =
    none_tried (word_of m.waiting seen m) (ticks m) number seen (advanced m) (between-by m.waiting seen m none still) still
    ∙ sym (ap (λ t. if t then record (advanced m) { delay = m.delay - 1 } else advanced m) still)

off_tick_written : (number : ℕ) (seen : Seen) (m : Machine1) (d : Done) → is_forced m.waiting ≡ false → ticks m ≡ false → written_in_cycle number seen m d ≡ d
unfolding written_in_cycle word_tried
off_tick_written number seen m d none still = none_written (word_of m.waiting seen m) number seen (advanced m) d (between-by m.waiting seen m none still)

-- a tick within a delay, of a machine whose OSR is not loaded
no_word : (seen : Seen) (m : Machine1) (a d : ℕ) → m.waiting ≡ None → (d == 0) ≡ false → word_of m.waiting seen (record m { acc = a; delay = d }) ≡ None
no_word seen m a d none late = rw (none, late) (neither (m.enabled && nat_lt a 256) _)
  where
    neither : (ticked : Bool) (word : ℕ) → (if ticked && false then Some word else None) ≡ None
    neither true word = refl
    neither false word = refl

on_tick : (number : ℕ) (seen : Seen) (m : Machine1) (a d : ℕ) → m.enabled ≡ true → nat_lt a 256 ≡ true → m.waiting ≡ None → (d == 0) ≡ false
    → loads m.tx m ≡ false → after_cycle number seen (record m { acc = a; delay = d }) ≡ waited_once (record m { acc = a; delay = d })
unfolding after_cycle word_tried
on_tick number seen m a d on low none late osr =
    let x = record m { acc = a; delay = d } in
    let ticked : ticks x ≡ true = rw (on, low) refl in
    let gone : advanced x ≡ record m { acc = a + divider m - 256; delay = d } = rw (on, low) refl in
    ap (λ w. after_word w (ticks x) number seen (advanced x)) (no_word seen m a d none late) ∙ ap (λ t. after_word None t number seen (advanced x)) ticked
    ∙ ap (after_word None true number seen) gone ∙ stays m osr (a + divider m - 256) (d - 1) ∙ sym (once_at_tick m a d on low)

on_tick_written : (number : ℕ) (seen : Seen) (m : Machine1) (a d : ℕ) (done : Done) → m.waiting ≡ None → (d == 0) ≡ false
    → written_in_cycle number seen (record m { acc = a; delay = d }) done ≡ done
unfolding written_in_cycle word_tried
on_tick_written number seen m a d done none late =
    let x = record m { acc = a; delay = d } in
    none_written (word_of m.waiting seen x) number seen (advanced x) done (no_word seen m a d none late)

-- ---- for how long it tries none

pub none : (m : Machine1) → (number : ℕ) → (seen : Seen) → (level enable : ℕ) → IsQuiet number seen level enable m 0
none m number seen level enable = record { steps = λ k lt. absurd (omega (arith, lt)); leaves = λ k lt d h. absurd (omega (arith, lt)) }

pub off : (m : Machine1) (n : ℕ) → is_forced m.waiting ≡ false → m.enabled ≡ false → (number : ℕ) → (seen : Seen) → (level enable : ℕ) → IsQuiet number seen level enable m n
unfolding waited
off m n none stays number seen level enable =
    let still : ticks m ≡ false = rw stays refl in
    record {
      steps = λ k lt. ap (after_cycle number seen) (waited_off k m stays) ∙ off_tick number seen m none still ∙ sym (ap waited_once (waited_off k m stays));
      leaves = λ k lt d h. subst (λ (x : Done). LeavesPins level enable x) (sym (ap (λ y. written_in_cycle number seen y d) (waited_off k m stays) ∙ off_tick_written number seen m d none still)) h;
    }

-- for so many cycles no more ticks come than these, which pass a delay
record Passes (m : Machine1) (few n : ℕ) : Type 0 where
  enabled : m.enabled ≡ true
  forced : is_forced m.waiting ≡ false
  time : 256 * n ≤ m.acc + few * divider m
  within : few ≤ m.delay
  waiting : 0 < few → m.waiting ≡ None
  osr : 0 < few → loads m.tx m ≡ false

few_ticks-by : (fewer : Bool) (t free period before acc time : ℕ) → nat_lt t free ≡ fewer → acc + time ≡ before + t * period → acc < 256 → time + 256 ≤ before + free * period → t < free
few_ticks-by true t free period before acc time e sum low enough = ltb-true t free e
few_ticks-by false t free period before acc time e sum low enough =
    let extra = t - free in
    let split : t * period ≡ extra * period + free * period = ap (λ n. n * period) (omega (arith, ltb-false t free e)) ∙ add-mul extra free period in
    absurd (omega (arith, sum, low, enough, split))

-- a cycle within these
record Cycle (number : ℕ) (seen : Seen) (m : Machine1) : Type 0 where
  steps : after_cycle number seen m ≡ waited_once m
  writes : (d : Done) → written_in_cycle number seen m d ≡ d

one-by : (low : Bool) (number : ℕ) (seen : Seen) (m : Machine1) (free n k : ℕ) (p : Passes m free n) → k < n → (g : Gone m k) → nat_lt g.acc 256 ≡ low
    → Cycle number seen (record m { acc = g.acc; delay = m.delay - g.ticks })
one-by true number seen m free n k p lt g e =
    let less = few_ticks-by (nat_lt g.ticks free) g.ticks free (divider m) m.acc g.acc (256 * k) refl g.sum (ltb-true g.acc 256 e) (omega (arith, p.time, lt)) in
    let late : (m.delay - g.ticks == 0) ≡ false = positive (m.delay - g.ticks) (omega (arith, less, p.within)) in
    let word = p.waiting (omega (arith, less)) in
    record {
      steps = on_tick number seen m g.acc (m.delay - g.ticks) p.enabled e word late (p.osr (omega (arith, less)));
      writes = λ d. on_tick_written number seen m g.acc (m.delay - g.ticks) d word late;
    }
  where
    positive : (x : ℕ) → 0 < x → (x == 0) ≡ false
    positive zero h = absurd (omega (arith, h))
    positive (suc x) h = eqb-suc-zero x
one-by false number seen m free n k p lt g e =
    let x = record m { acc = g.acc; delay = m.delay - g.ticks } in
    let still : ticks x ≡ false = rw (p.enabled, e) refl in
    record { steps = off_tick number seen x p.forced still; writes = λ d. off_tick_written number seen x d p.forced still }

one : (number : ℕ) (seen : Seen) (m : Machine1) (free n k : ℕ) → Passes m free n → k < n → Cycle number seen (waited k m)
one number seen m free n k p lt =
    let g = gone m k p.enabled in
    subst (λ (x : Machine1). Cycle number seen x) (sym g.at) (one-by (nat_lt g.acc 256) number seen m free n k p lt g refl)

passes : (m : Machine1) (free n : ℕ) → Passes m free n → (number : ℕ) → (seen : Seen) → (level enable : ℕ) → IsQuiet number seen level enable m n
unfolding waited
passes m free n p number seen level enable = record {
  steps = λ k lt. (one number seen m free n k p lt).steps;
  leaves = λ k lt d h. subst (λ (x : Done). LeavesPins level enable x) (sym ((one number seen m free n k p lt).writes d)) h;
}

pub between : (m : Machine1) (n : ℕ) → is_forced m.waiting ≡ false → m.enabled ≡ true → n ≡ m.acc / 256
    → (number : ℕ) → (seen : Seen) → (level enable : ℕ) → IsQuiet number seen level enable m n
between m n none on e =
    passes m 0 n (record { enabled = on; forced = none; time = omega (arith, e); within = omega arith; waiting = λ some. absurd (omega (arith, some)); osr = λ some. absurd (omega (arith, some)) })

pub within_delay : (m : Machine1) (n period : ℕ) → m.waiting ≡ None → m.enabled ≡ true → loads m.tx m ≡ false → period ≡ divider m → n ≡ (m.acc + m.delay * period) / 256
    → (number : ℕ) → (seen : Seen) → (level enable : ℕ) → IsQuiet number seen level enable m n
within_delay m n period none on osr same e =
    passes m m.delay n (record {
      enabled = on;
      forced = ap is_forced none;
      time = omega (arith, e, ap (λ p. m.delay * p) same);
      within = omega arith;
      waiting = λ some. none;
      osr = λ some. osr;
    })

-- ---- a machine that stalls

tries : (number word : ℕ) (seen : Seen) (m : Machine1) (a d : ℕ) → IsStuck (operation_of word) number seen m
    → after_try word number seen (record m { acc = a; delay = d }) ≡ record m { acc = a; delay = d }
unfolding after_try ended
tries number word seen m a d h =
    let op = operation_of word in
    let x = record m { acc = a; delay = d } in
    let left : worked op number seen x ≡ x = ap (with_autopull op) (h.machine a d) ∙ h.osr a d in
    ap (λ e. ended (delay_of word (worked op number seen x)) e (worked op number seen x)) (h.ending a d) ∙ left

writes : (number word : ℕ) (seen : Seen) (m : Machine1) (a d : ℕ) (done : Done) → IsStuck (operation_of word) number seen m
    → written_by_try word number seen (record m { acc = a; delay = d }) done ≡ with_side word m done
unfolding written_by_try with_side
writes number word seen m a d done h =
    let op = operation_of word in
    let x = record m { acc = a; delay = d } in
    let left : worked op number seen x ≡ x = ap (with_autopull op) (h.machine a d) ∙ h.osr a d in
    ap (λ y. with_side word y (written op number seen x done)) left ∙ ap (with_side word x) (h.written a d done)

-- what is written is what the pin has, whoever wrote it last
same_bit : (own : Bool) (x own_mask own_bit mask bit after_mask after_bit pin : ℕ)
    → own_mask ≡ (if own then 1 else 0) → own_bit ≡ (if own then x else 0) → pin ≡ (if own_mask == 1 then own_bit else pin) → pin ≡ (if mask == 1 then bit else pin)
    → after_mask ≡ (if own then 1 else mask) → after_bit ≡ (if own then x else bit) → pin ≡ (if after_mask == 1 then after_bit else pin)
same_bit true x own_mask own_bit mask bit after_mask after_bit pin om ob by_own by_others am ab =
    by_own ∙ ap (λ k. if k == 1 then own_bit else pin) om ∙ ob ∙ sym ab ∙ sym (ap (λ k. if k == 1 then after_bit else pin) am)
same_bit false x own_mask own_bit mask bit after_mask after_bit pin om ob by_own by_others am ab =
    by_others ∙ ap (λ b. if mask == 1 then b else pin) (sym ab) ∙ sym (ap (λ k. if k == 1 then after_bit else pin) am)

none_over : (pin : ℕ) → bit_at 0 pin ≡ 0
none_over pin = ap (λ n. n % 2) (zero-div (2 ^ pin))

levels_same : (pin : ℕ) → pin < 32 → (level word : ℕ) (m : Machine1) (d : Done) → d.level_mask < 2 ^ 32
    → overlaid (with_side word m nothing_done).level_mask (with_side word m nothing_done).levels level ≡ level → overlaid d.level_mask d.levels level ≡ level
    → bit_at (overlaid (with_side word m d).level_mask (with_side word m d).levels level) pin ≡ bit_at level pin
levels_same pin low level word m d fits own others =
    let w = writes-side pin low word m in
    let own_fits = w.level_fits nothing_done (omega arith) in
    bit_overlaid (with_side word m d).level_mask (with_side word m d).levels level pin (w.level_fits d fits) low
    ∙ sym (same_bit w.levels w.level _ _ _ _ _ _ (bit_at level pin)
    (w.level_mask_is nothing_done ∙ ap (λ z. if w.levels then 1 else z) (none_over pin)) (w.level_is nothing_done ∙ ap (λ z. if w.levels then w.level else z) (none_over pin))
    (sym (ap (λ x. bit_at x pin) own) ∙ bit_overlaid _ _ level pin own_fits low) (sym (ap (λ x. bit_at x pin) others) ∙ bit_overlaid _ _ level pin fits low)
    (w.level_mask_is d) (w.level_is d))

enables_same : (pin : ℕ) → pin < 32 → (enable word : ℕ) (m : Machine1) (d : Done) → d.enable_mask < 2 ^ 32
    → overlaid (with_side word m nothing_done).enable_mask (with_side word m nothing_done).enables enable ≡ enable → overlaid d.enable_mask d.enables enable ≡ enable
    → bit_at (overlaid (with_side word m d).enable_mask (with_side word m d).enables enable) pin ≡ bit_at enable pin
enables_same pin low enable word m d fits own others =
    let w = writes-side pin low word m in
    let own_fits = w.enable_fits nothing_done (omega arith) in
    bit_overlaid (with_side word m d).enable_mask (with_side word m d).enables enable pin (w.enable_fits d fits) low
    ∙ sym (same_bit w.enables w.enable _ _ _ _ _ _ (bit_at enable pin)
    (w.enable_mask_is nothing_done ∙ ap (λ z. if w.enables then 1 else z) (none_over pin)) (w.enable_is nothing_done ∙ ap (λ z. if w.enables then w.enable else z) (none_over pin))
    (sym (ap (λ x. bit_at x pin) own) ∙ bit_overlaid _ _ enable pin own_fits low) (sym (ap (λ x. bit_at x pin) others) ∙ bit_overlaid _ _ enable pin fits low)
    (w.enable_mask_is d) (w.enable_is d))

over_fits : (mask bits word : ℕ) → mask < 2 ^ 32 → overlaid mask bits word < 2 ^ 32
over_fits mask bits word fits =
    or_lt 32 (bit_and word (bit_not w32 mask)) (bit_and bits mask) (omega (arith, and_le_r word (bit_not w32 mask))) (omega (arith, fits, and_le_r bits mask))

-- two words with the same bits, of which one is overlaid and the other one was
one_word : (mask bits word mask2 bits2 : ℕ) → mask < 2 ^ 32 → mask2 < 2 ^ 32 → overlaid mask2 bits2 word ≡ word
    → ((pin : ℕ) → pin < 32 → bit_at (overlaid mask bits word) pin ≡ bit_at word pin) → overlaid mask bits word ≡ word
one_word mask bits word mask2 bits2 fits fits2 same each =
    let small = over_fits mask2 bits2 word fits2 in
    same_from_bits_below 32 (overlaid mask bits word) word (over_fits mask bits word fits) (omega (arith, small, same)) each

side_keeps : (f : Done → ℕ) → ((d : Done) (mask bits : ℕ) → f (record d { levels = bits; level_mask = mask }) ≡ f d)
    → ((d : Done) (mask bits : ℕ) → f (record d { enables = bits; enable_mask = mask }) ≡ f d) → (word : ℕ) (m : Machine1) (d : Done) → f (with_side word m d) ≡ f d
unfolding with_side
side_keeps f by_level by_enable word m d =
    either-way (λ x. f x ≡ f d) (has_side word m) (either-way (λ x. f x ≡ f d) (side_pindir m) (by_enable d _ _) (by_level d _ _)) refl

side_leaves : (level enable word : ℕ) (m : Machine1) (d : Done)
    → overlaid (with_side word m nothing_done).level_mask (with_side word m nothing_done).levels level ≡ level
    → overlaid (with_side word m nothing_done).enable_mask (with_side word m nothing_done).enables enable ≡ enable
    → LeavesPins level enable d → LeavesPins level enable (with_side word m d)
side_leaves level enable word m d levels enables h =
    let w = writes-side 0 (omega arith) word m in
    record {
      levels = one_word _ _ level d.level_mask d.levels (w.level_fits d h.level_mask) h.level_mask h.levels (λ pin low. levels_same pin low level word m d h.level_mask levels h.levels);
      enables = one_word _ _ enable d.enable_mask d.enables (w.enable_fits d h.enable_mask) h.enable_mask h.enables (λ pin low. enables_same pin low enable word m d h.enable_mask enables h.enables);
      level_mask = w.level_fits d h.level_mask;
      enable_mask = w.enable_fits d h.enable_mask;
      set = side_keeps (λ x. x.set) (λ d x y. refl) (λ d x y. refl) word m d ∙ h.set;
      clear = side_keeps (λ x. x.clear) (λ d x y. refl) (λ d x y. refl) word m d ∙ h.clear;
    }

-- a cycle of such a machine
record Stuck (number word : ℕ) (seen : Seen) (m : Machine1) : Type 0 where
  enabled : m.enabled ≡ true
  late : m.delay ≡ 0
  none : m.waiting ≡ None
  at_pc : slice_index seen.memory (m.pc % 32) ≡ word
  stuck : IsStuck (operation_of word) number seen m

-- what it writes in it, in a tick or not
record Again (number word : ℕ) (seen : Seen) (m x : Machine1) : Type 1 where
  steps : after_cycle number seen x ≡ waited_once x
  writes : (P : Done → Type 0) (d : Done) → P d → P (with_side word m d) → P (written_in_cycle number seen x d)

again-by : (low : Bool) (number word : ℕ) (seen : Seen) (m : Machine1) (a : ℕ) (s : Stuck number word seen m) → nat_lt a 256 ≡ low → Again number word seen m (record m { acc = a; delay = 0 })
unfolding after_cycle written_in_cycle word_tried
again-by true number word seen m a s e =
    let x = record m { acc = a; delay = 0 } in
    let ticked : ticks x ≡ true = rw (s.enabled, e) refl in
    let next : advanced x ≡ record m { acc = a + divider m - 256; delay = 0 } = rw (s.enabled, e) refl in
    let due : word_of m.waiting seen x ≡ Some word = rw (s.none, s.enabled, e, s.at_pc) refl in
    record {
      steps = ap (λ w. after_word w (ticks x) number seen (advanced x)) due ∙ ap (after_try word number seen) next
          ∙ tries number word seen m (a + divider m - 256) 0 s.stuck ∙ sym (once_at_tick m a 0 s.enabled e);
      writes = λ P d here there. subst P (sym (ap (λ w. written_by_word w number seen (advanced x) d) due ∙ ap (λ y. written_by_try word number seen y d) next
          ∙ writes number word seen m (a + divider m - 256) 0 d s.stuck)) there;
    }
again-by false number word seen m a s e =
    let x = record m { acc = a; delay = 0 } in
    let still : ticks x ≡ false = rw (s.enabled, e) refl in
    let unforced = ap is_forced s.none in
    record {
      steps = off_tick number seen x unforced still;
      writes = λ P d here there. subst P (sym (off_tick_written number seen x d unforced still)) here;
    }

again : (number word : ℕ) (seen : Seen) (m : Machine1) → Stuck number word seen m → (k : ℕ) → Again number word seen m (waited k m)
again number word seen m s k =
    let g = gone m k s.enabled in
    let over : m.delay - g.ticks ≡ 0 = omega (arith, s.late) in
    subst (λ (x : Machine1). Again number word seen m x) (sym (g.at ∙ ap (λ d. record m { acc = g.acc; delay = d }) over)) (again-by (nat_lt g.acc 256) number word seen m g.acc s refl)

pub stuck : (number : ℕ) (seen : Seen) (m : Machine1) (level enable word : ℕ) → m.enabled ≡ true → m.delay ≡ 0 → m.waiting ≡ None
    → word ≡ slice_index seen.memory (m.pc % 32) → IsStuck (operation_of word) number seen m
    → overlaid (with_side word m nothing_done).level_mask (with_side word m nothing_done).levels level ≡ level
    → overlaid (with_side word m nothing_done).enable_mask (with_side word m nothing_done).enables enable ≡ enable
    → (n : ℕ) → IsQuiet number seen level enable m n
unfolding waited
stuck number seen m level enable word on late none e h levels enables n =
    let s : Stuck number word seen m = record { enabled = on; late = late; none = none; at_pc = sym e; stuck = h } in
    record {
      steps = λ k lt. (again number word seen m s k).steps;
      leaves = λ k lt d leaves. (again number word seen m s k).writes (LeavesPins level enable) d leaves (side_leaves level enable word m d levels enables leaves);
    }
