-- What a machine writes to a pin does not depend on what was written before it.
use Rattle.pio_machine.proofs.Shared.{Bool, Done, Irq, Machine1, Mov, MovDestination, None, Option, Out, OutDestination, PioOp, Seen, Set, SetDestination, Some, Wait, WaitSource, advanced, ap, arith, bit_and, bit_at, bit_at-lt, bit_at_and, bit_at_not, bit_at_or, bit_not, bit_or, cleared_by, div-le_self, false, flag_of, has_side, if◌then◌else◌, is_high, max, min, mov_value, nothing_done, operation_of, or_lt, out_base, out_count, out_pins, out_stalls, out_value, overlaid, pins_from, pow-le-pow_right, progress_of, refl, rotate_left, set_base, set_count, side_base, side_enable, side_pindir, side_pins, side_value, subst, suc, sym, true, w32, with_clear, with_enables, with_levels, with_set, with_side, word_tried, worked, written, written_by_mov, written_by_out, written_by_set, written_by_try, written_by_word, written_in_cycle, zero, zero-div, ℕ, ◌%◌, ◌-◌, ◌/◌, ◌<◌, ◌==◌, ◌^◌, ◌∙◌, ◌≡◌, ◌≤◌}
use Rattle.pio_words.specs.declared.op.WaitSource.TheVariants as wait
use Rattle.pio_words.specs.declared.op.OutDestination.TheVariants as out
use Rattle.pio_words.specs.declared.op.SetDestination.TheVariants as set
use Rattle.pio_words.specs.declared.op.MovDestination.TheVariants as moved
use Rattle.pio_machine.specs.Drives.{decided, Overrides, TheLaterMachineDecides, TheSideSetDecides}

-- what a writer does to a pin, whatever was written before: whether it writes its level and its enable, and which
pub record Writes (pin : ℕ) (f : Done → Done) : Type 0 where
  pub levels : Bool
  pub level : ℕ
  pub enables : Bool
  pub enable : ℕ
  pub level_is : (d : Done) → bit_at (f d).levels pin ≡ (if levels then level else bit_at d.levels pin)
  pub level_mask_is : (d : Done) → bit_at (f d).level_mask pin ≡ (if levels then 1 else bit_at d.level_mask pin)
  pub enable_is : (d : Done) → bit_at (f d).enables pin ≡ (if enables then enable else bit_at d.enables pin)
  pub enable_mask_is : (d : Done) → bit_at (f d).enable_mask pin ≡ (if enables then 1 else bit_at d.enable_mask pin)
  pub level_fits : (d : Done) → d.level_mask < 2 ^ 32 → (f d).level_mask < 2 ^ 32
  pub enable_fits : (d : Done) → d.enable_mask < 2 ^ 32 → (f d).enable_mask < 2 ^ 32

-- ---- two writers

in_turn : (a b : Bool) (x y before middle after : ℕ) → middle ≡ (if a then x else before) → after ≡ (if b then y else middle)
    → after ≡ (if (if b then true else a) then (if b then y else x) else before)
in_turn a true x y before middle after h k = k
in_turn a false x y before middle after h k = k ∙ h

ones_in_turn : (a b : Bool) (before middle after : ℕ) → middle ≡ (if a then 1 else before) → after ≡ (if b then 1 else middle)
    → after ≡ (if (if b then true else a) then 1 else before)
ones_in_turn a true before middle after h k = k
ones_in_turn a false before middle after h k = k ∙ h

pub after : (pin : ℕ) (f g : Done → Done) → Writes pin f → Writes pin g → Writes pin (λ d. g (f d))
after pin f g h k =
    record {
      levels = if k.levels then true else h.levels;
      level = if k.levels then k.level else h.level;
      enables = if k.enables then true else h.enables;
      enable = if k.enables then k.enable else h.enable;
      level_is = λ d. in_turn h.levels k.levels h.level k.level _ _ _ (h.level_is d) (k.level_is (f d));
      level_mask_is = λ d. ones_in_turn h.levels k.levels _ _ _ (h.level_mask_is d) (k.level_mask_is (f d));
      enable_is = λ d. in_turn h.enables k.enables h.enable k.enable _ _ _ (h.enable_is d) (k.enable_is (f d));
      enable_mask_is = λ d. ones_in_turn h.enables k.enables _ _ _ (h.enable_mask_is d) (k.enable_mask_is (f d));
      level_fits = λ d low. k.level_fits (f d) (h.level_fits d low);
      enable_fits = λ d low. k.enable_fits (f d) (h.enable_fits d low);
    }

-- one that leaves the pins
pub leaves : (pin : ℕ) (f : Done → Done) → ((d : Done) → (f d).levels ≡ d.levels) → ((d : Done) → (f d).level_mask ≡ d.level_mask)
    → ((d : Done) → (f d).enables ≡ d.enables) → ((d : Done) → (f d).enable_mask ≡ d.enable_mask) → Writes pin f
leaves pin f l lm e em =
    record {
      levels = false;
      level = 0;
      enables = false;
      enable = 0;
      level_is = λ d. ap (λ x. bit_at x pin) (l d);
      level_mask_is = λ d. ap (λ x. bit_at x pin) (lm d);
      enable_is = λ d. ap (λ x. bit_at x pin) (e d);
      enable_mask_is = λ d. ap (λ x. bit_at x pin) (em d);
      level_fits = λ d low. subst (λ (x : ℕ). x < 2 ^ 32) (sym (lm d)) low;
      enable_fits = λ d low. subst (λ (x : ℕ). x < 2 ^ 32) (sym (em d)) low;
    }

-- ---- a write of a group of pins

chosen : (x y m : ℕ) → x < 2 → y < 2 → m < 2 → max (min y (1 - m)) (min x m) ≡ (if m == 1 then x else y)
chosen x y zero bx by bm = omega arith
chosen x y (suc zero) bx by bm = omega arith
chosen x y (suc (suc m)) bx by bm = absurd (omega arith)

joined : (y m : ℕ) → y < 2 → m < 2 → max y m ≡ (if m == 1 then 1 else y)
joined y zero by bm = omega arith
joined y (suc zero) by bm = omega arith
joined y (suc (suc m)) by bm = absurd (omega arith)

pub bit_overlaid : (mask bits word pin : ℕ) → mask < 2 ^ 32 → pin < 32
    → bit_at (overlaid mask bits word) pin ≡ (if bit_at mask pin == 1 then bit_at bits pin else bit_at word pin)
bit_overlaid mask bits word pin fits low =
    bit_at_or (bit_and word (bit_not w32 mask)) (bit_and bits mask) pin
    ∙ rw (bit_at_and word (bit_not w32 mask) pin, bit_at_and bits mask pin, bit_at_not w32 mask pin fits low) (chosen (bit_at bits pin) (bit_at word pin) (bit_at mask pin) (bit_at-lt bits pin) (bit_at-lt word pin) (bit_at-lt mask pin))

bit_joined : (mask word pin : ℕ) → bit_at (bit_or word mask) pin ≡ (if bit_at mask pin == 1 then 1 else bit_at word pin)
bit_joined mask word pin = bit_at_or word mask pin ∙ joined (bit_at word pin) (bit_at mask pin) (bit_at-lt word pin) (bit_at-lt mask pin)

less_than_all : (count : ℕ) → count ≤ 32 → 2 ^ count - 1 < 2 ^ 32
less_than_all count h =
    let bound : 2 ^ count ≤ 2 ^ 32 = pow-le-pow_right (omega arith) h in
    omega (arith, bound)

rotated_fits : (n by : ℕ) → n < 2 ^ 32 → rotate_left w32 n by < 2 ^ 32
rotated_fits n by h =
    let rest : n / 2 ^ ((32 - by % 32) % 32) < 2 ^ 32 = omega (arith, h, div-le_self n (2 ^ ((32 - by % 32) % 32))) in
    or_lt 32 _ _ (omega arith) rest

pins_fit : (base count : ℕ) → count ≤ 32 → pins_from base count < 2 ^ 32
pins_fit base count h = rotated_fits (2 ^ count - 1) base (less_than_all count h)

writes-levels : (pin base count value : ℕ) → pin < 32 → count ≤ 32 → Writes pin (with_levels base count value)
writes-levels pin base count value low h =
    record {
      levels = bit_at (pins_from base count) pin == 1;
      level = bit_at (rotate_left w32 value base) pin;
      enables = false;
      enable = 0;
      level_is = λ d. bit_overlaid (pins_from base count) (rotate_left w32 value base) d.levels pin (pins_fit base count h) low;
      level_mask_is = λ d. bit_joined (pins_from base count) d.level_mask pin;
      enable_is = λ d. refl;
      enable_mask_is = λ d. refl;
      level_fits = λ d fits. or_lt 32 d.level_mask (pins_from base count) fits (pins_fit base count h);
      enable_fits = λ d fits. fits;
    }

writes-enables : (pin base count value : ℕ) → pin < 32 → count ≤ 32 → Writes pin (with_enables base count value)
writes-enables pin base count value low h =
    record {
      levels = false;
      level = 0;
      enables = bit_at (pins_from base count) pin == 1;
      enable = bit_at (rotate_left w32 value base) pin;
      level_is = λ d. refl;
      level_mask_is = λ d. refl;
      enable_is = λ d. bit_overlaid (pins_from base count) (rotate_left w32 value base) d.enables pin (pins_fit base count h) low;
      enable_mask_is = λ d. bit_joined (pins_from base count) d.enable_mask pin;
      level_fits = λ d fits. fits;
      enable_fits = λ d fits. or_lt 32 d.enable_mask (pins_from base count) fits (pins_fit base count h);
    }

same : (pin : ℕ) → Writes pin (λ d. d)
same pin = leaves pin (λ d. d) (λ d. refl) (λ d. refl) (λ d. refl) (λ d. refl)

-- ---- the operations

at_most : (n k : ℕ) → k ≤ 32 → min n k ≤ 32
at_most n k h = omega (arith, h)

writes-flag : (pin flag : ℕ) → Writes pin (with_set flag)
writes-flag pin flag = leaves pin (with_set flag) (λ d. refl) (λ d. refl) (λ d. refl) (λ d. refl)

writes-clear : (pin flag : ℕ) → Writes pin (with_clear flag)
writes-clear pin flag = leaves pin (with_clear flag) (λ d. refl) (λ d. refl) (λ d. refl) (λ d. refl)

writes-source : (pin : ℕ) (source : WaitSource) (number : ℕ) → Writes pin (cleared_by source number)
writes-source pin (wait.Irq index) number = writes-clear pin (flag_of index number)
writes-source pin _ number = same pin

writes-wait-by : (polarity high : Bool) (pin : ℕ) (source : WaitSource) (number : ℕ)
    → Writes pin (λ d. if polarity then (if high then cleared_by source number d else d) else d)
writes-wait-by true true pin source number = writes-source pin source number
writes-wait-by true false pin source number = same pin
writes-wait-by false high pin source number = same pin

writes-irq-by : (clear waits raised : Bool) (pin flag : ℕ)
    → Writes pin (λ d. if clear then with_clear flag d else if waits then (if raised then d else with_set flag d) else with_set flag d)
writes-irq-by true waits raised pin flag = writes-clear pin flag
writes-irq-by false true true pin flag = same pin
writes-irq-by false true false pin flag = writes-flag pin flag
writes-irq-by false false raised pin flag = writes-flag pin flag

writes-out-pins : (pin : ℕ) → pin < 32 → (destination : OutDestination) (value : ℕ) (m : Machine1) → Writes pin (out_pins destination value m)
writes-out-pins pin low out.Pins value m = writes-levels pin (out_base m) (out_count m) value low (at_most _ 32 (omega arith))
writes-out-pins pin low out.Pindirs value m = writes-enables pin (out_base m) (out_count m) value low (at_most _ 32 (omega arith))
writes-out-pins pin low _ value m = same pin

writes-out-by : (stalls : Bool) (pin : ℕ) → pin < 32 → (destination : OutDestination) (value : ℕ) (m : Machine1)
    → Writes pin (λ d. if stalls then d else out_pins destination value m d)
writes-out-by true pin low destination value m = same pin
writes-out-by false pin low destination value m = writes-out-pins pin low destination value m

writes-out : (pin : ℕ) → pin < 32 → (destination : OutDestination) (count : ℕ) (m : Machine1) → Writes pin (written_by_out destination count m)
unfolding written_by_out
writes-out pin low destination count m = writes-out-by (out_stalls m) pin low destination (out_value (min count 32) m) m

writes-set : (pin : ℕ) → pin < 32 → (destination : SetDestination) (value : ℕ) (m : Machine1) → Writes pin (written_by_set destination value m)
writes-set pin low set.Pins value m = writes-levels pin (set_base m) (set_count m) value low (at_most _ 5 (omega arith))
writes-set pin low set.Pindirs value m = writes-enables pin (set_base m) (set_count m) value low (at_most _ 5 (omega arith))
writes-set pin low _ value m = same pin

writes-mov : (pin : ℕ) → pin < 32 → (destination : MovDestination) (value : ℕ) (m : Machine1) → Writes pin (written_by_mov destination value m)
writes-mov pin low moved.Pins value m = writes-levels pin (out_base m) (out_count m) value low (at_most _ 32 (omega arith))
writes-mov pin low _ value m = same pin

writes-op : (pin : ℕ) → pin < 32 → (op : PioOp) (number : ℕ) (seen : Seen) (m : Machine1) → Writes pin (written op number seen m)
writes-op pin low (Wait polarity source) number seen m = writes-wait-by polarity (is_high source number seen m) pin source number
writes-op pin low (Out destination count) number seen m = writes-out pin low destination count m
writes-op pin low (Mov destination operation source) number seen m = writes-mov pin low destination (mov_value operation source seen m) m
writes-op pin low (Irq clear waits index) number seen m = writes-irq-by clear waits (progress_of m).raised pin (flag_of index number)
writes-op pin low (Set destination value) number seen m = writes-set pin low destination value m
writes-op pin low _ number seen m = same pin

-- ---- a try and a cycle

side_fits-by : (b : Bool) (n : ℕ) → (if b then min n 5 - 1 else min n 5) ≤ 32
side_fits-by true n = omega arith
side_fits-by false n = omega arith

writes-side-by : (has pindir : Bool) (pin base count value : ℕ) → pin < 32 → count ≤ 32
    → Writes pin (λ d. if has then (if pindir then with_enables base count value d else with_levels base count value d) else d)
writes-side-by true true pin base count value low h = writes-enables pin base count value low h
writes-side-by true false pin base count value low h = writes-levels pin base count value low h
writes-side-by false pindir pin base count value low h = same pin

pub writes-side : (pin : ℕ) → pin < 32 → (word : ℕ) (m : Machine1) → Writes pin (with_side word m)
unfolding with_side
writes-side pin low word m =
    writes-side-by (has_side word m) (side_pindir m) pin (side_base m) (side_pins m) (side_value word m) low (side_fits-by (side_enable m) (m.pinctrl / 2 ^ 29 % 2 ^ 3))

writes-try : (pin : ℕ) → pin < 32 → (word number : ℕ) (seen : Seen) (m : Machine1) → Writes pin (written_by_try word number seen m)
unfolding written_by_try
writes-try pin low word number seen m =
    after pin (written (operation_of word) number seen m) (with_side word (worked (operation_of word) number seen m))
    (writes-op pin low (operation_of word) number seen m) (writes-side pin low word (worked (operation_of word) number seen m))

writes-word : (pin : ℕ) → pin < 32 → (word : Option ℕ) (number : ℕ) (seen : Seen) (m : Machine1) → Writes pin (written_by_word word number seen m)
writes-word pin low None number seen m = same pin
writes-word pin low (Some word) number seen m = writes-try pin low word number seen m

writes-cycle : (pin : ℕ) → pin < 32 → (number : ℕ) (seen : Seen) (m : Machine1) → Writes pin (written_in_cycle number seen m)
unfolding written_in_cycle
writes-cycle pin low number seen m = writes-word pin low (word_tried seen m) number seen (advanced m)

-- ---- a writer that is compared with what it writes alone

alone : (b : Bool) (x own_mask own before after zero_bit : ℕ) → zero_bit ≡ 0 → own_mask ≡ (if b then 1 else zero_bit) → own ≡ (if b then x else zero_bit)
    → after ≡ (if b then x else before) → after ≡ decided own_mask own before
alone true x own_mask own before after z e h k l = rw (h, k, l) refl
alone false x own_mask own before after z e h k l = rw (h, e, l) refl

alone_mask : (b : Bool) (own_mask before after zero_bit : ℕ) → zero_bit ≡ 0 → own_mask ≡ (if b then 1 else zero_bit)
    → after ≡ (if b then 1 else before) → after ≡ decided own_mask 1 before
alone_mask true own_mask before after z e h l = rw (h, l) refl
alone_mask false own_mask before after z e h l = rw (h, e, l) refl

no_bit : (pin : ℕ) → bit_at 0 pin ≡ 0
no_bit pin = ap (λ n. n % 2) (zero-div (2 ^ pin))

overrides : (pin : ℕ) (f : Done → Done) → Writes pin f → (d : Done) → Overrides pin (f nothing_done) d (f d)
overrides pin f h d =
    record {
      level = alone h.levels h.level _ _ _ _ _ (no_bit pin) (h.level_mask_is nothing_done) (h.level_is nothing_done) (h.level_is d);
      level_mask = alone_mask h.levels _ _ _ _ (no_bit pin) (h.level_mask_is nothing_done) (h.level_mask_is d);
      enable = alone h.enables h.enable _ _ _ _ _ (no_bit pin) (h.enable_mask_is nothing_done) (h.enable_is nothing_done) (h.enable_is d);
      enable_mask = alone_mask h.enables _ _ _ _ (no_bit pin) (h.enable_mask_is nothing_done) (h.enable_mask_is d);
    }

pub the_later_machine_decides : TheLaterMachineDecides
the_later_machine_decides number pin seen m before low =
    overrides pin (written_in_cycle number seen m) (writes-cycle pin low number seen m) before

pub the_side_set_decides : TheSideSetDecides
unfolding written_by_try
the_side_set_decides word number pin seen m before low =
    overrides pin (with_side word (worked (operation_of word) number seen m)) (writes-side pin low word (worked (operation_of word) number seen m))
    (written (operation_of word) number seen m before)

-- a machine's masks are words
pub mask_fits : (number : ℕ) (seen : Seen) (m : Machine1) (d : Done) → d.level_mask < 2 ^ 32 → (written_in_cycle number seen m d).level_mask < 2 ^ 32
mask_fits number seen m d h = (writes-cycle 0 (omega arith) number seen m).level_fits d h

pub enable_mask_fits : (number : ℕ) (seen : Seen) (m : Machine1) (d : Done) → d.enable_mask < 2 ^ 32 → (written_in_cycle number seen m d).enable_mask < 2 ^ 32
enable_mask_fits number seen m d h = (writes-cycle 0 (omega arith) number seen m).enable_fits d h
