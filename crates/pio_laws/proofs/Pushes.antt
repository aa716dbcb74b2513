-- What comes out of the RX FIFO, bit after bit, is what INs took.
use Rattle.std.proofs.Common.{◌≡◌, ◌∙◌, ap, ap₂, sym, subst, ℕ, zero, suc, ◌+◌, ◌-◌, ◌*◌, ◌/◌, ◌%◌, ◌^◌, ◌<◌, ◌≤◌, min, Bool, true, false, not, ◌&&◌, nat_le, nat_lt, cond, map, List, [], ◌∷◌, ◌++◌, Option, Some, None, refl, arith, ltb-false, true≢false}
use Rattle.std.specs.Int.{bit_at}
use Rattle.std.specs.List.{flat_map}
use Rattle.std.proofs.lemmas.Bool.{cond_both}
use Rattle.std.proofs.lemmas.List.{append_assoc, append-nil, map-append}
use Rattle.std.proofs.lemmas.Nat.{pow_pos}
use Rattle.std.proofs.Math.Nat.{mod-lt}
use Rattle.pio_words.specs.declared.op.PioOp.{PioOp}
use Rattle.pio_words.specs.declared.op.PioOp.TheVariants.{Jmp, Wait, In, Out, Push, Pull, Mov, Irq, Set, Reserved}
use Rattle.pio_words.specs.declared.op.InSource.{InSource}
use Rattle.pio_words.specs.Operation.{operation_of}
use Rattle.pio_machine.specs.declared.machine.Machine1.{Machine1}
use Rattle.pio_machine.specs.declared.machine.Seen.{Seen}
use Rattle.pio_machine.specs.Bits.{entered}
use Rattle.pio_machine.specs.Fields.{in_right, autopush, push_threshold, is_rx_full}
use Rattle.pio_machine.specs.Flags.{flag_of}
use Rattle.pio_machine.specs.Progress.{with_shifted, progress_of}
use Rattle.pio_machine.specs.Input.{in_value, shifted_in, shifted_once, try_in}
use Rattle.pio_machine.specs.Queue.{completed, stalled, refilled, with_rx_stall, pushed, with_isr_cleared, try_push}
use Rattle.pio_machine.specs.Move.{mov_value}
use Rattle.pio_machine.specs.Operation.{tried, loads_osr}
use Rattle.pio_machine.specs.Cycle.{worked, after_op, after_try, ticks, divided, advanced, word_tried, passed, after_word, after_cycle}
use Rattle.pio_machine.specs.Stream.{listed, bit_index, leading}
use Rattle.pio_machine.specs.WordLaws.{AreEntered}
use Rattle.pio_machine.proofs.Changes.{Holds, OfOsr, OfLoad, refill}
use Rattle.pio_machine.proofs.Changes as change
use Rattle.pio_machine.proofs.Stream.{listed-same, listed-append, bit-mod, bit-div, in_turn}
use Rattle.pio_machine.proofs.Tries.{bits_in}
use Rattle.pio_laws.specs.Pushes.{collected, Pushed, bits_pushed, bits_held, taken_by, pushed_by, goes_to_isr, moves_to_isr, loses, taken_by_word, pushed_by_word, word_loses, end_of, read_over, taken_over, pushed_over, TheBitsInAreThosePushed}

-- ---- bits enter

-- the place of a bit, the oldest first, of so many that were shifted in
abbrev place : Bool → ℕ → ℕ → ℕ
place right count turn = cond right ((32 - count) + turn) (count - 1 - turn)

collected-at : (right : Bool) (count word : ℕ) → collected right count word ≡ listed count (λ i. bit_at word (place right count i))
collected-at true count word = listed-same count _ _ (λ i low. bit-div word (32 - count) i)
collected-at false count word = refl

-- those of before
old-bit : (right : Bool) (c n v w i : ℕ) → AreEntered n v w → c + n ≤ 32 → i < c → bit_at (entered right n v w) (place right (c + n) i) ≡ bit_at w (place right c i)
old-bit true c n v w i h fits low =
    let e = entered true n v w in
    let p = (32 - (c + n)) + i in
    sym (bit-mod e (32 - n) p (omega (arith, fits, low))) ∙ ap (λ x. bit_at x p) h.below ∙ bit-div w n p ∙ ap (λ k. bit_at w k) (omega (arith, fits, low))
old-bit false c n v w i h fits low =
    let e = entered false n v w in
    let j = c - 1 - i in
    ap (λ k. bit_at e k) (omega (arith, low)) ∙ sym (bit-div e n j) ∙ ap (λ x. bit_at x j) h.above ∙ bit-mod w (32 - n) j (omega (arith, fits, low))

-- and the new ones
new-bit : (right : Bool) (c n v w i : ℕ) → AreEntered n v w → c + n ≤ 32 → i < n → bit_at (entered right n v w) (place right (c + n) (c + i)) ≡ bit_at v (bit_index right n i)
new-bit true c n v w i h fits low =
    let e = entered true n v w in
    ap (λ k. bit_at e k) (omega (arith, fits, low)) ∙ sym (bit-div e (32 - n) i) ∙ ap (λ x. bit_at x i) h.high ∙ bit-mod v n i low
new-bit false c n v w i h fits low =
    let e = entered false n v w in
    let j = n - 1 - i in
    ap (λ k. bit_at e k) (omega (arith, low)) ∙ sym (bit-mod e n j (omega (arith, low))) ∙ ap (λ x. bit_at x j) h.low ∙ bit-mod v n j (omega (arith, low))

none-enters : (right : Bool) (v w : ℕ) → w < 2 ^ 32 → entered right 0 v w ≡ w
none-enters true v w h = omega (arith, h)
none-enters false v w h = omega (arith, h)

collects : (right : Bool) (c n v w : ℕ) → w < 2 ^ 32 → c + n ≤ 32 → collected right (c + n) (entered right n v w) ≡ collected right c w ++ leading right n n v
collects right c zero v w word fits =
    let same : c + 0 ≡ c = omega arith in
    ap₂ (λ (k x : ℕ). collected right k x) same (none-enters right v w word) ∙ sym (append-nil (collected right c w))
collects right c (suc m) v w word fits =
    let n = suc m in
    let h = bits_in n v w (omega arith) (omega (arith, fits)) word in
    collected-at right (c + n) (entered right n v w)
    ∙ listed-append c n (λ i. bit_at (entered right n v w) (place right (c + n) i))
    ∙ ap₂ (λ (xs ys : List ℕ). xs ++ ys)
    (listed-same c _ _ (λ i low. old-bit right c n v w i h fits low) ∙ sym (collected-at right c w))
    (listed-same n _ _ (λ i low. new-bit right c n v w i h fits low))

enters-word : (right : Bool) (n v w : ℕ) → entered right n v w < 2 ^ 32
enters-word true n v w = mod-lt (w / 2 ^ n + v * 2 ^ (32 - n)) (pow_pos 32)
enters-word false n v w = mod-lt (w * 2 ^ n + v % 2 ^ n) (pow_pos 32)

-- ---- what a part of a cycle does to the ISR and the RX FIFO

record Agrees (m next : Machine1) : Type 0 where
  isr : next.isr ≡ m.isr
  isr_count : next.isr_count ≡ m.isr_count
  rx : next.rx ≡ m.rx
  shiftctrl : next.shiftctrl ≡ m.shiftctrl

agrees : (m next : Machine1) → next.isr ≡ m.isr → next.isr_count ≡ m.isr_count → next.rx ≡ m.rx → next.shiftctrl ≡ m.shiftctrl → Agrees m next
agrees m next i c r s = record { isr = i; isr_count = c; rx = r; shiftctrl = s }

itself : (m : Machine1) → Agrees m m
itself m = agrees m m refl refl refl refl

and_then : {a b c : Machine1} → Agrees a b → Agrees b c → Agrees a c
and_then g h = record { isr = h.isr ∙ g.isr; isr_count = h.isr_count ∙ g.isr_count; rx = h.rx ∙ g.rx; shiftctrl = h.shiftctrl ∙ g.shiftctrl }

holds : Holds Agrees
holds = record { none = itself; beside = λ m x y pc delay w p t r. agrees m _ refl refl refl refl; both = and_then }

osr : OfOsr Agrees
osr m v c = agrees m _ refl refl refl refl

load : OfLoad Agrees
load m word rest e = agrees m _ refl refl refl refl

same_held : (m next : Machine1) → next.isr ≡ m.isr → next.isr_count ≡ m.isr_count → next.shiftctrl ≡ m.shiftctrl → bits_held next ≡ bits_held m
same_held m next i c s = rw (i, c, s) refl

same_pushed : (m next : Machine1) → next.shiftctrl ≡ m.shiftctrl → (ps : List Pushed) → flat_map (bits_pushed next) ps ≡ flat_map (bits_pushed m) ps
same_pushed m next s [] = refl
same_pushed m next s (p ∷ ps) =
    let one : bits_pushed next p ≡ bits_pushed m p = rw s refl in
    ap₂ (λ (xs ys : List ℕ). xs ++ ys) one (same_pushed m next s ps)

abbrev words_of : List Pushed → List ℕ
words_of ps = map (λ p. p.word) ps

-- these bits enter the ISR, and these words leave it
record Moves (m next : Machine1) (ins : List ℕ) (ps : List Pushed) : Type 0 where
  shiftctrl : next.shiftctrl ≡ m.shiftctrl
  word : m.isr < 2 ^ 32 → next.isr < 2 ^ 32
  rx : next.rx ≡ m.rx ++ words_of ps
  bits : m.isr < 2 ^ 32 → flat_map (bits_pushed m) ps ++ bits_held next ≡ bits_held m ++ ins

rests : (m next : Machine1) → Agrees m next → Moves m next [] []
rests m next g = record {
  shiftctrl = g.shiftctrl;
  word = λ h. subst (λ (x : ℕ). x < 2 ^ 32) (sym g.isr) h;
  rx = g.rx ∙ sym (append-nil m.rx);
  bits = λ h. same_held m next g.isr g.isr_count g.shiftctrl ∙ sym (append-nil (bits_held m));
}

-- nothing happens before
after_rest : (a b c : Machine1) (ins : List ℕ) (ps : List Pushed) → Agrees a b → Moves b c ins ps → Moves a c ins ps
after_rest a b c ins ps g h =
    let carried : a.isr < 2 ^ 32 → b.isr < 2 ^ 32 = λ w. subst (λ (x : ℕ). x < 2 ^ 32) (sym g.isr) w in
    record {
      shiftctrl = h.shiftctrl ∙ g.shiftctrl;
      word = λ w. h.word (carried w);
      rx = h.rx ∙ ap (λ xs. xs ++ words_of ps) g.rx;
      bits = λ w. ap (λ bs. bs ++ bits_held c) (sym (same_pushed a b g.shiftctrl ps)) ∙ h.bits (carried w) ∙ ap (λ bs. bs ++ ins) (same_held a b g.isr g.isr_count g.shiftctrl);
    }

-- nor behind
then_rest : (a b c : Machine1) (ins : List ℕ) (ps : List Pushed) → Moves a b ins ps → Agrees b c → Moves a c ins ps
then_rest a b c ins ps h g = record {
  shiftctrl = g.shiftctrl ∙ h.shiftctrl;
  word = λ w. subst (λ (x : ℕ). x < 2 ^ 32) (sym g.isr) (h.word w);
  rx = g.rx ∙ h.rx;
  bits = λ w. ap (λ bs. flat_map (bits_pushed a) ps ++ bs) (same_held b c g.isr g.isr_count g.shiftctrl) ∙ h.bits w;
}

-- bits enter, and then words leave
enter_then_leave : (a b c : Machine1) (ins : List ℕ) (ps : List Pushed) → Moves a b ins [] → Moves b c [] ps → Moves a c ins ps
enter_then_leave a b c ins ps h k = record {
  shiftctrl = k.shiftctrl ∙ h.shiftctrl;
  word = λ w. k.word (h.word w);
  rx = k.rx ∙ ap (λ xs. xs ++ words_of ps) (h.rx ∙ append-nil a.rx);
  bits = λ w. ap (λ bs. bs ++ bits_held c) (sym (same_pushed a b h.shiftctrl ps)) ∙ k.bits (h.word w) ∙ append-nil (bits_held b) ∙ h.bits w;
}

-- ---- IN and PUSH

unlost : (shifted : Bool) (c n : ℕ) → (not shifted && nat_lt 32 (c + n)) ≡ false → shifted ≡ false → c + n ≤ 32
unlost true c n h e = absurd (true≢false e)
unlost false c n h e = ltb-false 32 (c + n) h

enters : (shifted : Bool) (source : InSource) (count : ℕ) (seen : Seen) (m : Machine1) → (not shifted && nat_lt 32 (m.isr_count + min count 32)) ≡ false
    → Moves m (cond shifted m (shifted_in (in_value source seen m) (min count 32) m)) (cond shifted [] (leading (in_right m) (min count 32) (min count 32) (in_value source seen m))) []
enters true source count seen m h = rests m m (itself m)
enters false source count seen m h =
    let n = min count 32 in
    let v = in_value source seen m in
    let fits : m.isr_count + n ≤ 32 = unlost false m.isr_count n h refl in
    let exact : min (m.isr_count + n) 32 ≡ m.isr_count + n = omega (arith, fits) in
    record {
      shiftctrl = refl;
      word = λ w. enters-word (in_right m) n v m.isr;
      rx = sym (append-nil m.rx);
      bits = λ w. ap (λ (k : ℕ). collected (in_right m) k (entered (in_right m) n v m.isr)) exact ∙ collects (in_right m) m.isr_count n v m.isr w fits;
    }

leaves : (m : Machine1) → Moves m (pushed m) [] (record { count = m.isr_count; word = m.isr } ∷ [])
leaves m = record {
  shiftctrl = refl;
  word = λ w. omega arith;
  rx = refl;
  bits = λ w. ap (λ bs. bs ++ bits_held (pushed m)) (append-nil (bits_held m)) ∙ ap (λ bs. bits_held m ++ bs) (cleared (in_right m));
}
  where
    cleared : (right : Bool) → collected right 0 0 ≡ []
    cleared true = refl
    cleared false = refl

autopushes : (asked full : Bool) (m : Machine1)
    → Moves m (cond asked (cond full (stalled (with_rx_stall (with_shifted m))) (completed (pushed m))) (completed m)).machine [] (cond asked (cond full [] (record { count = m.isr_count; word = m.isr } ∷ [])) [])
autopushes true true m = rests m _ (and_then (change.keep holds m.waiting _ m) (agrees (with_shifted m) _ refl refl refl refl))
autopushes true false m = leaves m
autopushes false full m = rests m m (itself m)

moves-in : (source : InSource) (count : ℕ) (seen : Seen) (m : Machine1) → loses (In source count) m ≡ false
    → Moves m (try_in source count seen m).machine (taken_by (In source count) seen m) (pushed_by (In source count) seen m)
unfolding try_in
moves-in source count seen m h =
    let s = shifted_once source count seen m in
    enter_then_leave m s _ _ _ (enters (progress_of m).shifted source count seen m h) (autopushes (autopush s && nat_le (push_threshold s) s.isr_count) (is_rx_full s) s)

pushes : (void full block : Bool) (m : Machine1) → (not void && (full && not block)) ≡ false
    → Moves m (cond void (completed m) (cond full (cond block (stalled (with_rx_stall m)) (completed (with_isr_cleared (with_rx_stall m)))) (completed (pushed m)))).machine []
    (cond (not void) (cond full [] (record { count = m.isr_count; word = m.isr } ∷ [])) [])
pushes true full block m h = rests m m (itself m)
pushes false true true m h = rests m _ (agrees m _ refl refl refl refl)
pushes false true false m h = absurd (true≢false h)
pushes false false block m h = leaves m

moves-push : (if_full block : Bool) (seen : Seen) (m : Machine1) → loses (Push if_full block) m ≡ false
    → Moves m (try_push if_full block m).machine [] (pushed_by (Push if_full block) seen m)
unfolding try_push
moves-push if_full block seen m h = pushes (if_full && nat_lt m.isr_count (push_threshold m)) (is_rx_full m) block m h

-- ---- the other operations

moves-op : (op : PioOp) (number : ℕ) (seen : Seen) (m : Machine1) → loses op m ≡ false → Moves m (tried op number seen m).machine (taken_by op seen m) (pushed_by op seen m)
moves-op (Jmp condition address) number seen m h = rests m _ (change.jmp holds condition m)
moves-op (Wait polarity source) number seen m h = rests m m (itself m)
moves-op (In source count) number seen m h = moves-in source count seen m h
moves-op (Out destination count) number seen m h = rests m _
    (change.out_ holds osr load destination (λ e. absurd (true≢false (sym (ap goes_to_isr e) ∙ h))) count m)
moves-op (Push if_full block) number seen m h = moves-push if_full block seen m h
moves-op (Pull if_empty block) number seen m h = rests m _ (change.pull holds osr load if_empty block m)
moves-op (Mov destination operation source) number seen m h = rests m _
    (change.mov holds destination (λ e. absurd (true≢false (sym (ap moves_to_isr e) ∙ h))) (λ e. osr)
    (mov_value operation source seen m) m)
moves-op (Irq clear wait index) number seen m h = rests m _ (change.irq holds clear wait (flag_of index number) seen m)
moves-op (Set destination value) number seen m h = rests m _ (change.set_ holds destination value m)
moves-op Reserved number seen m h = rests m m (itself m)

-- ---- a cycle

moves-try-of : (word : ℕ) (op : PioOp) (number : ℕ) (seen : Seen) (m : Machine1) → loses op m ≡ false
    → Moves m (after_op word op number seen m) (taken_by op seen m) (pushed_by op seen m)
moves-try-of word op number seen m h =
    let t = (tried op number seen m).machine in
    then_rest m t _ (taken_by op seen m) (pushed_by op seen m) (moves-op op number seen m h)
    (and_then (cond_both (loads_osr op) t (refilled t) (Agrees t) (λ e. itself t) (λ e. refill Agrees itself load t))
    (change.end holds _ (tried op number seen m).ending (worked op number seen m)))

moves-try : (word number : ℕ) (seen : Seen) (m : Machine1) → loses (operation_of word) m ≡ false
    → Moves m (after_try word number seen m) (taken_by (operation_of word) seen m) (pushed_by (operation_of word) seen m)
unfolding after_try
moves-try word number seen m h = moves-try-of word (operation_of word) number seen m h

agrees-passed : (ticked : Bool) (m : Machine1) → Agrees m (passed ticked m)
agrees-passed true m =
    and_then (agrees m (record m { delay = m.delay - 1 }) refl refl refl refl)
    (refill Agrees itself load (record m { delay = m.delay - 1 }))
agrees-passed false m = itself m

moves-word : (word : Option ℕ) (ticked : Bool) (number : ℕ) (seen : Seen) (m : Machine1) → word_loses word m ≡ false
    → Moves m (after_word word ticked number seen m) (taken_by_word word seen m) (pushed_by_word word seen m)
moves-word None ticked number seen m h = rests m _ (agrees-passed ticked m)
moves-word (Some word) ticked number seen m h = moves-try word number seen m h

agrees-advanced : (b : Bool) (m : Machine1) (a : ℕ) → Agrees m (cond b (record m { acc = a }) m)
agrees-advanced true m a = agrees m _ refl refl refl refl
agrees-advanced false m a = itself m

moves-cycle : (number : ℕ) (seen : Seen) (m : Machine1) → word_loses (word_tried seen m) (advanced m) ≡ false
    → Moves m (after_cycle number seen m) (taken_by_word (word_tried seen m) seen (advanced m)) (pushed_by_word (word_tried seen m) seen (advanced m))
unfolding after_cycle
moves-cycle number seen m h =
    after_rest m (advanced m) _ _ _ (agrees-advanced m.enabled m (divided m)) (moves-word (word_tried seen m) (ticks m) number seen (advanced m) h)

-- ---- a run

flat_pushed : (m : Machine1) (ps qs : List Pushed) → flat_map (bits_pushed m) (ps ++ qs) ≡ flat_map (bits_pushed m) ps ++ flat_map (bits_pushed m) qs
flat_pushed m [] qs = refl
flat_pushed m (p ∷ ps) qs =
    ap (λ bs. bits_pushed m p ++ bs) (flat_pushed m ps qs) ∙ sym (append_assoc (bits_pushed m p) (flat_map (bits_pushed m) ps) (flat_map (bits_pushed m) qs))

pub the_bits_in_are_those_pushed : TheBitsInAreThosePushed
the_bits_in_are_those_pushed number m [] word drained = record {
  words = sym (append-nil m.rx);
  bits = sym (append-nil (bits_held m));
}
the_bits_in_are_those_pushed number m (t ∷ ts) word drained =
    let n = t.machine in
    let next = after_cycle number t.seen n in
    let d = drained.0 in
    let c = moves-cycle number t.seen n drained.1 in
    let fits : n.isr < 2 ^ 32 = subst (λ (x : ℕ). x < 2 ^ 32) (sym d.isr) word in
    let rest = the_bits_in_are_those_pushed number next ts (c.word fits) drained.2 in
    let ps = pushed_by_word (word_tried t.seen n) t.seen (advanced n) in
    let ins = taken_by_word (word_tried t.seen n) t.seen (advanced n) in
    let same : next.shiftctrl ≡ m.shiftctrl = c.shiftctrl ∙ d.shiftctrl in
    record {
      words = in_turn t.words (read_over ts) (end_of number next ts).rx next.rx m.rx (words_of ps) (words_of (pushed_over ts)) rest.words
          (ap (λ xs. t.words ++ xs) c.rx ∙ sym (append_assoc t.words n.rx (words_of ps)) ∙ ap (λ xs. xs ++ words_of ps) (sym d.rx))
          ∙ ap (λ xs. m.rx ++ xs) (sym (map-append (λ (p : Pushed). p.word) ps (pushed_over ts)));
      bits = ap (λ bs. bs ++ bits_held (end_of number next ts)) (flat_pushed m ps (pushed_over ts))
          ∙ in_turn (flat_map (bits_pushed m) ps) (flat_map (bits_pushed m) (pushed_over ts)) (bits_held (end_of number next ts)) (bits_held next) (bits_held m) ins (taken_over ts)
          (ap (λ bs. bs ++ bits_held (end_of number next ts)) (sym (same_pushed m next same (pushed_over ts))) ∙ rest.bits)
          (ap (λ bs. bs ++ bits_held next) (sym (same_pushed m n d.shiftctrl ps)) ∙ c.bits fits ∙ ap (λ bs. bs ++ ins) (same_held m n d.isr d.isr_count d.shiftctrl));
    }
