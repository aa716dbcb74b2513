-- How often a machine ticks, and that its FIFOs stay within their depths.
use Rattle.pio_machine.proofs.Shared.{Bool, List, Machine1, None, Option, Seen, Some, [], add-mul, advanced, after_cycle, after_word, ap, arith, cond_both, div-mul-add, divided, divider, false, if◌then◌else◌, length, ltb-false, ltb-true, nat_lt, one-mul, passed, refl, rx_depth, subst, suc, sym, ticks, true, tx_depth, word_tried, zero, zero-add, ℕ, ◌%◌, ◌&&◌, ◌*◌, ◌+◌, ◌-◌, ◌/◌, ◌<◌, ◌==◌, ◌^◌, ◌∙◌, ◌∷◌, ◌≡◌, ◌≤◌}
use Rattle.pio_machine.specs.Clock.{ticks_over, AMachineTicksByItsDivider, ACycleKeepsTheFifosWithin}
use Rattle.pio_machine.proofs.Changes.{refill}
use Rattle.pio_machine.proofs.Goes.{Goes, same_depth, next_goes, stays, holds, load, goes-try}

-- ---- a cycle

goes-passed : (ticked : Bool) (m : Machine1) → Goes m (passed ticked m)
goes-passed true m = next_goes (holds.beside m _ _ _ _ _ _ _ _) (refill Goes stays load (record m { delay = m.delay - 1 }))
goes-passed false m = stays m

goes-word : (word : Option ℕ) (ticked : Bool) (number : ℕ) (seen : Seen) (m : Machine1) → Goes m (after_word word ticked number seen m)
goes-word None ticked number seen m = goes-passed ticked m
goes-word (Some word) ticked number seen m = goes-try word number seen m

pub goes-cycle : (number : ℕ) (seen : Seen) (m : Machine1) → Goes (advanced m) (after_cycle number seen m)
unfolding after_cycle
goes-cycle number seen m = goes-word (word_tried seen m) (ticks m) number seen (advanced m)

-- ---- the divider

at_least-by : (b : Bool) (q r : ℕ) → (q == 0) ≡ b → 256 ≤ (if b then 2 ^ 24 else q * 256 + r)
at_least-by true q r h = omega arith
at_least-by false zero r h = absurd (cc)
at_least-by false (suc q) r h = omega arith

pub at_least : (m : Machine1) → 256 ≤ divider m
at_least m = at_least-by (m.clkdiv / 2 ^ 16 == 0) (m.clkdiv / 2 ^ 16) (m.clkdiv / 2 ^ 8 % 2 ^ 8) refl

divided-low : (m : Machine1) → nat_lt m.acc 256 ≡ true → divided m ≡ m.acc + divider m - 256
divided-low m h = ap (λ b. if b then m.acc + divider m - 256 else m.acc - 256) h

divided-high : (m : Machine1) → nat_lt m.acc 256 ≡ false → divided m ≡ m.acc - 256
divided-high m h = ap (λ b. if b then m.acc + divider m - 256 else m.acc - 256) h

-- what does not look at what the divider has left
abbrev pub LooksBeside : {A : Type 0} → (Machine1 → A) → Type 0
LooksBeside f = (m : Machine1) (a : ℕ) → f (record m { acc = a }) ≡ f m

pub advanced-keeps : {A : Type 0} (f : Machine1 → A) → LooksBeside f → (m : Machine1) → f (advanced m) ≡ f m
advanced-keeps f h m = cond_both m.enabled (record m { acc = divided m }) m (λ x. f x ≡ f m) (λ e. h m (divided m)) (λ e. refl)

acc-moved : (m : Machine1) → m.enabled ≡ true → (advanced m).acc ≡ divided m
acc-moved m h = ap (λ b. (if b then record m { acc = divided m } else m).acc) h

same_divider : (m next : Machine1) → next.clkdiv ≡ m.clkdiv → divider next ≡ divider m
same_divider m next h = ap (λ c. if c / 2 ^ 16 == 0 then 2 ^ 24 else c / 2 ^ 16 * 256 + c / 2 ^ 8 % 2 ^ 8) h

-- n cycles are within the periods that t ticks begin, where p is the time of these and acc what is left of an earlier one
record IsBetween (n p acc period : ℕ) : Type 0 where
  low : 256 * n ≤ p + acc
  high : p + acc < 256 * n + period

pub one_more : (t period : ℕ) → (1 + t) * period ≡ period + t * period
one_more t period = add-mul 1 t period ∙ ap (λ x. x + t * period) (one-mul period)

with_tick : (n p acc next period : ℕ) → 256 ≤ period → acc < 256 → next ≡ acc + period - 256 → IsBetween n p next period → IsBetween (suc n) (period + p) acc period
with_tick n p acc next period least low e h = record { low = omega (arith, h.low); high = omega (arith, h.high) }

without_tick : (n p acc next period : ℕ) → 256 ≤ acc → next ≡ acc - 256 → IsBetween n p next period → IsBetween (suc n) p acc period
without_tick n p acc next period high e h = record { low = omega (arith, h.low); high = omega (arith, h.high) }

below-by : (b : Bool) (acc period next : ℕ) → nat_lt acc 256 ≡ b → 256 ≤ period → acc < period → next ≡ (if b then acc + period - 256 else acc - 256) → next < period
below-by true acc period next h least l e = omega (arith, ltb-true acc 256 h)
below-by false acc period next h least l e = omega (arith, ltb-false acc 256 h)

time_of-tick : (t : ℕ) (m : Machine1) → m.enabled ≡ true → nat_lt m.acc 256 ≡ true
    → ((if m.enabled && nat_lt m.acc 256 then 1 else 0) + t) * divider m ≡ divider m + t * divider m
time_of-tick t m on h = rw (on, h) (one_more t (divider m))

time_of-other : (t : ℕ) (m : Machine1) → m.enabled ≡ true → nat_lt m.acc 256 ≡ false
    → ((if m.enabled && nat_lt m.acc 256 then 1 else 0) + t) * divider m ≡ t * divider m
time_of-other t m on h = rw (on, h) (ap (λ x. x * divider m) (zero-add t))

step-by : (b : Bool) (n t : ℕ) (m : Machine1) (next : ℕ) → m.enabled ≡ true → nat_lt m.acc 256 ≡ b → next ≡ divided m
    → IsBetween n (t * divider m) next (divider m)
    → IsBetween (suc n) (((if m.enabled && nat_lt m.acc 256 then 1 else 0) + t) * divider m) m.acc (divider m)
step-by true n t m next on h e i =
    subst (λ (p : ℕ). IsBetween (suc n) p m.acc (divider m)) (sym (time_of-tick t m on h))
    (with_tick n (t * divider m) m.acc next (divider m) (at_least m) (ltb-true m.acc 256 h) (e ∙ divided-low m h) i)
step-by false n t m next on h e i =
    subst (λ (p : ℕ). IsBetween (suc n) p m.acc (divider m)) (sym (time_of-other t m on h))
    (without_tick n (t * divider m) m.acc next (divider m) (ltb-false m.acc 256 h) (e ∙ divided-high m h) i)

periods : (number : ℕ) (seens : List Seen) (m : Machine1) → m.enabled ≡ true → m.acc < divider m
    → IsBetween (length seens) (ticks_over number seens m * divider m) m.acc (divider m)
periods number [] m on low = record { low = omega arith; high = omega (arith, low) }
periods number (seen ∷ seens) m on low =
    let next = after_cycle number seen m in
    let g = goes-cycle number seen m in
    let next_on : next.enabled ≡ true = g.enabled ∙ advanced-keeps (λ x. x.enabled) (λ x a. refl) m ∙ on in
    let same : divider next ≡ divider m = same_divider m next (g.clkdiv ∙ advanced-keeps (λ x. x.clkdiv) (λ x a. refl) m) in
    let acc : next.acc ≡ divided m = g.acc ∙ acc-moved m on in
    let next_low : next.acc < divider m = below-by (nat_lt m.acc 256) m.acc (divider m) next.acc refl (at_least m) low acc in
    let rest = periods number seens next next_on (subst (λ (p : ℕ). next.acc < p) (sym same) next_low) in
    let there : IsBetween (length seens) (ticks_over number seens next * divider m) next.acc (divider m) = subst (λ (p : ℕ). IsBetween (length seens) (ticks_over number seens next * p) next.acc p) same rest in
    step-by (nat_lt m.acc 256) (length seens) (ticks_over number seens next) m next.acc on refl acc there

-- the number of ticks by their time
the_quotient : (n t period : ℕ) → IsBetween n (t * period) 0 period → 0 < period → t ≡ (256 * n + (period - 1)) / period
the_quotient n t period h some =
    let rest = 256 * n + (period - 1) - t * period in
    let below : rest < period = omega (arith, h.low, h.high) in
    let whole : t * period + rest ≡ 256 * n + (period - 1) = omega (arith, h.low, h.high) in
    sym (div-mul-add t period rest below) ∙ ap (λ x. x / period) whole

pub a_machine_ticks_by_its_divider : AMachineTicksByItsDivider
a_machine_ticks_by_its_divider number seens m on rest =
    let between = periods number seens m on (omega (arith, rest, at_least m)) in
    let from_rest : IsBetween (length seens) (ticks_over number seens m * divider m) 0 (divider m) = subst (λ (a : ℕ). IsBetween (length seens) (ticks_over number seens m * divider m) a (divider m)) rest between in
    the_quotient (length seens) (ticks_over number seens m) (divider m) from_rest (omega (arith, at_least m))

-- ---- the FIFOs

same_tx_depth : (m next : Machine1) → next.shiftctrl ≡ m.shiftctrl → tx_depth next ≡ tx_depth m
same_tx_depth m next h = rw h refl

pub a_cycle_keeps_the_fifos_within : ACycleKeepsTheFifosWithin
a_cycle_keeps_the_fifos_within number seen m w =
    let g = goes-cycle number seen m in
    let next = after_cycle number seen m in
    let first : (advanced m).shiftctrl ≡ m.shiftctrl = advanced-keeps (λ x. x.shiftctrl) (λ x a. refl) m in
    let tx : length (advanced m).tx ≤ tx_depth m = subst (λ (ws : List ℕ). length ws ≤ tx_depth m) (sym (advanced-keeps (λ x. x.tx) (λ x a. refl) m)) w.tx in
    let rx : length (advanced m).rx ≤ rx_depth m = subst (λ (ws : List ℕ). length ws ≤ rx_depth m) (sym (advanced-keeps (λ x. x.rx) (λ x a. refl) m)) w.rx in
    record {
      tx = let same = same_tx_depth m next (g.shiftctrl ∙ first) in omega (arith, g.tx, tx, same);
      rx = let same = same_depth m next (g.shiftctrl ∙ first) in
          let before = same_depth m (advanced m) first in omega (arith, g.rx, rx, same, before);
    }
