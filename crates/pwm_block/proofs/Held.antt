-- The words of the device hold a block.
use Rattle.std.proofs.Common.{◌∙◌, ap, sym, ◌≡◌, ℕ, zero, suc, ◌+◌, ◌-◌, ◌*◌, ◌/◌, ◌%◌, ◌^◌, ◌<◌, Bool, true, false, not, cond, subst, refl, arith, List, [], ◌∷◌, ◌++◌, length, get_or}
use Rattle.std.specs.Prelude.{◌==◌, replicate, slice_index, slice_set, bit_or, Some}
use Rattle.std.specs.List.{AllByRecursion}
use Rattle.std.proofs.lemmas.Grind.{common_steps}
use Rattle.std.proofs.lemmas.Bool.Decides.{nat_tests}
use Rattle.std.proofs.lemmas.List.{get_or-append-add, set-append_right}
use Rattle.std.proofs.lemmas.Nat.{or_of_8, and_le_l}
use Rattle.std.specs.Int.Bits.{or_zero_r}
use Rattle.rp_base.specs.Word.{has_bit, bit_number}
use Rattle.rp_base.specs.Rows.{effect_at}
use Rattle.rp_base.proofs.Rows.{keeps}
use Rattle.pwm_block.specs.State.{Slice, State, slice_at_reset, is_enabled, shown_of}
use Rattle.pwm_block.specs.Step.{numbered, set_of, acts, is_full, after_event, after_slice, has_wrap, input_of, after_step}
use Rattle.pwm_block.specs.Outputs.{pins_of, line_of, enabled_of, wires_of}
use Rattle.pwm_block.specs.Words.{with_csr, only, with_slices, pwm_rows, offset_of, read_at, write_at}
use Rattle.rp_base.specs.Alias.{aliased}
use Rattle.pwm_block.specs.Packing.{slice_of, slice_words, slices_in, all_words, signs_of, interrupt_word, words_of, block_of}
use Rattle.pwm_block.specs.Device.{pwm_device}
use Rattle.pwm_block.specs.Laws.{IsWhole, DoAsTheBlock, TheWordsHoldTheBlock}
use Rattle.pwm_block.proofs.Slices.{no_slices, one_more, length-numbered, set_of-lt, five}

-- ---- the block that words hold

csr-back : (c : ℕ) (b : Bool) → c < 2 ^ 6 → (c % 2 ^ 6 + bit_number b * 2 ^ 6) % 2 ^ 6 ≡ c
csr-back c true h = omega arith
csr-back c false h = omega arith

down-back : (c : ℕ) (b : Bool) → c < 2 ^ 6 → has_bit (c % 2 ^ 6 + bit_number b * 2 ^ 6) 6 ≡ b
down-back c true h = ap (λ x. x == 1) (high c h)
  where
    high : (c : ℕ) → c < 2 ^ 6 → (c % 2 ^ 6 + 1 * 2 ^ 6) / 2 ^ 6 % 2 ≡ 1
    high c h = omega arith
down-back c false h = ap (λ x. x == 1) (low c h)
  where
    low : (c : ℕ) → c < 2 ^ 6 → (c % 2 ^ 6 + 0 * 2 ^ 6) / 2 ^ 6 % 2 ≡ 0
    low c h = omega arith

slice-back : (s : Slice) → s.csr < 2 ^ 6 → slice_of (slice_words s) ≡ s
slice-back s h =
    ap (λ (c : ℕ). record s { csr = c; down = has_bit (s.csr % 2 ^ 6 + bit_number s.down * 2 ^ 6) 6 }) (csr-back s.csr s.down h)
    ∙ ap (λ (b : Bool). record s { down = b }) (down-back s.csr s.down h)

pub slices-back : (ss : List Slice) (rest : List ℕ) → AllByRecursion (λ s. s.csr < 2 ^ 6) ss → slices_in (length ss) (all_words ss ++ rest) ≡ ss
slices-back [] rest h = no_slices rest
slices-back (s ∷ ss) rest h =
    one_more (length ss) (slice_words s ++ all_words ss ++ rest)
    ∙ ap (λ (t : Slice). t ∷ slices_in (length ss) (all_words ss ++ rest)) (slice-back s h.0)
    ∙ ap (λ (ts : List Slice). s ∷ ts) (slices-back ss rest h.1)

length-words : (ss : List Slice) → length (all_words ss) ≡ 8 * length ss
length-words [] = refl
length-words (s ∷ ss) = omega (arith, length-words ss)

sixty-four : (b : State) → length b.slices ≡ 8 → length (all_words b.slices) ≡ 64
sixty-four b h = omega (arith, length-words b.slices)

index-back : (b : State) (k : ℕ) → length b.slices ≡ 8
    → get_or (words_of b) (64 + k) 0 ≡ get_or (pins_of b ∷ signs_of b ∷ b.last ∷ interrupt_word b ∷ []) k 0
index-back b k h =
    ap (λ (n : ℕ). get_or (words_of b) (n + k) 0) (sym (sixty-four b h))
    ∙ get_or-append-add (all_words b.slices) (pins_of b ∷ signs_of b ∷ b.last ∷ interrupt_word b ∷ []) k 0

set-back : (b : State) (pads : ℕ) → length b.slices ≡ 8 → slice_set (words_of b) 66 pads ≡ words_of (record b { last = pads })
set-back b pads h =
    set-append_right (all_words b.slices) (pins_of b ∷ signs_of b ∷ b.last ∷ interrupt_word b ∷ []) 64 66 pads (sixty-four b h) (omega arith)

interrupts-back : (r e f : ℕ) → r < 2 ^ 8 → e < 2 ^ 8 → f < 2 ^ 8
    → let w = r % 2 ^ 8 + e % 2 ^ 8 * 2 ^ 8 + f % 2 ^ 8 * 2 ^ 16 in (w % 2 ^ 8 ≡ r) × (w / 2 ^ 8 % 2 ^ 8 ≡ e) × (w / 2 ^ 16 % 2 ^ 8 ≡ f)
interrupts-back r e f h i j = (omega arith, omega arith, omega arith)

pub block-back : (b : State) → IsWhole b → block_of (words_of b) ≡ b
block-back b w =
    let ints = interrupts-back b.raised b.enabled b.forced w.raised w.enabled w.forced in
    let word = index-back b 3 w.eight in
    five _ _ _ _ _ _ _ _ _ _
    (ap (λ (n : ℕ). slices_in n (words_of b)) (sym w.eight) ∙ slices-back b.slices _ w.csr)
    (index-back b 2 w.eight)
    (ap (λ (x : ℕ). x % 2 ^ 8) word ∙ ints.0)
    (ap (λ (x : ℕ). x / 2 ^ 8 % 2 ^ 8) word ∙ ints.1)
    (ap (λ (x : ℕ). x / 2 ^ 16 % 2 ^ 8) word ∙ ints.2)

-- ---- the block stays whole

csr-numbered : (f : ℕ → Slice → Slice) → ((n : ℕ) (s : Slice) → s.csr < 2 ^ 6 → (f n s).csr < 2 ^ 6)
    → (n : ℕ) (ss : List Slice) → AllByRecursion (λ s. s.csr < 2 ^ 6) ss → AllByRecursion (λ s. s.csr < 2 ^ 6) (numbered f n ss)
csr-numbered f h n [] a = tt
csr-numbered f h n (s ∷ ss) a = (h n s a.0, csr-numbered f h (n + 1) ss a.1)

whole-slices : (f : ℕ → Slice → Slice) (b : State) → IsWhole b → ((n : ℕ) (s : Slice) → s.csr < 2 ^ 6 → (f n s).csr < 2 ^ 6)
    → IsWhole (with_slices f b)
whole-slices f b w h = record {
  eight = length-numbered f 0 b.slices ∙ w.eight;
  csr = csr-numbered f h 0 b.slices w.csr;
  raised = w.raised;
  enabled = w.enabled;
  forced = w.forced;
}

csr-event : (s : Slice) (b : Bool) → is_full s ≡ b → (after_event s).csr ≡ s.csr
csr-event s true e = rw e refl
csr-event s false e = rw e refl

csr-cycle : (input was : Bool) (s : Slice) (b : Bool) → acts input was s ≡ b → (after_slice input was s).csr ≡ s.csr
csr-cycle input was s true e = rw e (csr-event s (is_full s) refl)
csr-cycle input was s false e = rw e refl

below : (a b k : ℕ) → a ≡ b → b < k → a < k
below a b k e h = omega arith

whole-step : (pads : ℕ) (b : State) → IsWhole b → IsWhole (after_step pads b)
whole-step pads b w = record {
  eight = length-numbered (λ n s. after_slice (input_of pads n) (input_of b.last n) s) 0 b.slices ∙ w.eight;
  csr =
      csr-numbered (λ n s. after_slice (input_of pads n) (input_of b.last n) s)
      (λ n s h. below _ s.csr (2 ^ 6) (csr-cycle (input_of pads n) (input_of b.last n) s (acts (input_of pads n) (input_of b.last n) s) refl) h)
      0 b.slices w.csr;
  raised = or_of_8 _ _ w.raised (set_of-lt _ 0 b.slices (omega (arith, w.eight)));
  enabled = w.enabled;
  forced = w.forced;
}

only-csr : (number : ℕ) (g : Slice → Slice) → ((s : Slice) → s.csr < 2 ^ 6 → (g s).csr < 2 ^ 6)
    → (n : ℕ) (s : Slice) → s.csr < 2 ^ 6 → (only number g n s).csr < 2 ^ 6
only-csr number g h n s i = by (n == number)
  where
    by : (b : Bool) → (cond b (g s) s).csr < 2 ^ 6
    by true = h s i
    by false = i

enable-csr : (c : ℕ) (b : Bool) → c < 2 ^ 6 → c / 2 * 2 + bit_number b < 2 ^ 6
enable-csr c true h = omega arith
enable-csr c false h = omega arith

whole-write : (offset w : ℕ) (b : State) → IsWhole b → IsWhole (effect_at pwm_rows offset (Some w) b)
whole-write offset w b h =
    keeps IsWhole pwm_rows offset (Some w) b h (
      λ n. (h, λ w. whole-slices _ b h (only-csr n (with_csr w) (λ s i. omega arith))),
      (
        λ n. (h, λ w. whole-slices _ b h (only-csr n _ (λ s i. i))),
        (
          λ n. (h, λ w. whole-slices _ b h (only-csr n _ (λ s i. i))),
          (
            λ n. (h, λ w. whole-slices _ b h (only-csr n _ (λ s i. i))),
            (
              λ n. (h, λ w. whole-slices _ b h (only-csr n _ (λ s i. i))),
              (
                λ n. (h, λ w. whole-slices _ b h (λ k s i. enable-csr s.csr (has_bit w k) i)),
                (
                  λ n. (h, λ w. record { eight = h.eight; csr = h.csr; raised = omega (arith, h.raised, and_le_l b.raised (2 ^ 32 - 1 - w)); enabled = h.enabled; forced = h.forced }),
                  (
                    λ n. (h, λ w. record { eight = h.eight; csr = h.csr; raised = h.raised; enabled = omega arith; forced = h.forced }),
                    (
                      λ n. (h, λ w. record { eight = h.eight; csr = h.csr; raised = h.raised; enabled = h.enabled; forced = omega arith }),
                      (
                        λ n. (h, λ w. h),
                        tt,
                      ),
                    ),
                  ),
                ),
              ),
            ),
          ),
        ),
      ),
    )

-- ---- a cycle in which no slice is enabled

off : (s : Slice) (rest : ℕ) → bit_number (is_enabled s) + rest * 2 ≡ 0 → is_enabled s ≡ false
off s rest h = by (is_enabled s) h
  where
    by : (b : Bool) → bit_number b + rest * 2 ≡ 0 → b ≡ false
    by true h = absurd (omega arith)
    by false h = refl

off-rest : (b : Bool) (rest : ℕ) → bit_number b + rest * 2 ≡ 0 → rest ≡ 0
off-rest b rest h = omega arith

still-slice : (input was : Bool) (s : Slice) → is_enabled s ≡ false → after_slice input was s ≡ s
still-slice input was s h = rw h refl

still-wrap : (input was : Bool) (s : Slice) → is_enabled s ≡ false → has_wrap input was s ≡ false
still-wrap input was s h = rw h refl

still-slices : (pads last n : ℕ) (ss : List Slice) → set_of (λ n s. is_enabled s) n ss ≡ 0
    → numbered (λ n s. after_slice (input_of pads n) (input_of last n) s) n ss ≡ ss
still-slices pads last n [] h = refl
still-slices pads last n (s ∷ ss) h =
    ap (λ (t : Slice). t ∷ numbered (λ n s. after_slice (input_of pads n) (input_of last n) s) (n + 1) ss)
    (still-slice (input_of pads n) (input_of last n) s (off s _ h))
    ∙ ap (λ (ts : List Slice). s ∷ ts) (still-slices pads last (n + 1) ss (off-rest (is_enabled s) _ h))

still-wraps : (pads last n : ℕ) (ss : List Slice) → set_of (λ n s. is_enabled s) n ss ≡ 0
    → set_of (λ n s. has_wrap (input_of pads n) (input_of last n) s) n ss ≡ 0
still-wraps pads last n [] h = refl
still-wraps pads last n (s ∷ ss) h =
    ap (λ (b : Bool). bit_number b + set_of (λ n s. has_wrap (input_of pads n) (input_of last n) s) (n + 1) ss * 2)
    (still-wrap (input_of pads n) (input_of last n) s (off s _ h))
    ∙ ap (λ (x : ℕ). 0 + x * 2) (still-wraps pads last (n + 1) ss (off-rest (is_enabled s) _ h))

two : (b : State) (pads r : ℕ) (ss : List Slice) → b.slices ≡ ss → b.raised ≡ r
    → record b { last = pads } ≡ record b { slices = ss; raised = r; last = pads }
two b pads r ss h i =
    ap (λ (ts : List Slice). record b { last = pads; slices = ts }) h ∙ ap (λ (x : ℕ). record b { last = pads; slices = ss; raised = x }) i

or-none : (a b : ℕ) → b ≡ 0 → a ≡ bit_or a b
or-none a b h = sym (ap (bit_or a) h ∙ or_zero_r a)

still-step : (pads : ℕ) (b : State) → enabled_of b ≡ 0 → record b { last = pads } ≡ after_step pads b
still-step pads b h =
    two b pads _ _ (sym (still-slices pads b.last 0 b.slices h)) (or-none b.raised _ (still-wraps pads b.last 0 b.slices h))

-- ---- the calls

enabled-lt : (b : State) → IsWhole b → enabled_of b < 2 ^ 8
enabled-lt b w = set_of-lt (λ n s. is_enabled s) 0 b.slices (omega (arith, w.eight))

signs-low : (b : State) → IsWhole b → signs_of b % 2 ^ 8 ≡ enabled_of b
signs-low b w = low (enabled_of b) (line_of b) (enabled-lt b w)
  where
    low : (e l : ℕ) → e < 2 ^ 8 → (e + l * 2 ^ 8) % 2 ^ 8 ≡ e
    low e l h = omega arith

line-high : (e : ℕ) (l : Bool) → e < 2 ^ 8 → (e + bit_number l * 2 ^ 8) / 2 ^ 8 % 2 ≡ bit_number l
line-high e true h = omega arith
line-high e false h = omega arith

wires-back : (b : State) → IsWhole b → (cycle pads : ℕ) → pwm_device.wires (words_of b) cycle pads ≡ wires_of b
wires-back b w cycle pads =
    ap (λ (x : ℕ). record { mask = 0; level = 0; pwm = x; irq = slice_index (words_of b) 65 / 2 ^ 8 % 2 * 2 ^ 4 }) (index-back b 0 w.eight)
    ∙ ap (λ (x : ℕ). record { mask = 0; level = 0; pwm = pins_of b; irq = x * 2 ^ 4 })
    (ap (λ (x : ℕ). x / 2 ^ 8 % 2) (index-back b 1 w.eight) ∙ line-high (enabled_of b) (not (shown_of b == 0)) (enabled-lt b w))

is-zero : (a : ℕ) → (a == 0) ≡ true → a ≡ 0
is-zero a h = grind (arith, nat_tests, common_steps)

step-back : (pads : ℕ) (b : State) (q : Bool) → IsWhole b → (slice_index (words_of b) 65 % 2 ^ 8 == 0) ≡ q
    → cond q (slice_set (words_of b) 66 pads) (words_of (after_step pads (block_of (words_of b)))) ≡ words_of (after_step pads b)
step-back pads b true w h =
    set-back b pads w.eight
    ∙ ap words_of (still-step pads b (sym (signs-low b w) ∙ sym (ap (λ (x : ℕ). x % 2 ^ 8) (index-back b 1 w.eight)) ∙ is-zero _ h))
step-back pads b false w h = ap (λ (c : State). words_of (after_step pads c)) (block-back b w)

calls-back : (b : State) → IsWhole b → DoAsTheBlock (words_of b) b
calls-back b w = record {
  value = λ address. ap (read_at address) (block-back b w);
  after_read = λ address. record { words = refl; whole = w };
  after_write = λ address value. record {
    words = ap (λ (c : State). words_of (write_at address value c)) (block-back b w);
    whole = whole-write (offset_of address) (aliased (address / 2 ^ 12 % 4) (read_at address b) value) b w;
  };
  wires = wires-back b w;
  after_step = λ cycle pads. record {
    words = step-back pads b (slice_index (words_of b) 65 % 2 ^ 8 == 0) w refl;
    whole = whole-step pads b w;
  };
}

csr-alike : (n : ℕ) → AllByRecursion (λ s. s.csr < 2 ^ 6) (replicate n slice_at_reset)
csr-alike zero = tt
csr-alike (suc n) = (omega arith, csr-alike n)

pub the_words_hold_the_block : TheWordsHoldTheBlock
the_words_hold_the_block = record {
  first = λ ws. record {
    words = refl;
    whole = record { eight = refl; csr = csr-alike 8; raised = omega arith; enabled = omega arith; forced = omega arith };
  };
  calls = λ ws b h. subst (λ (x : List ℕ). DoAsTheBlock x b) (sym h.words) (calls-back b h.whole);
}
