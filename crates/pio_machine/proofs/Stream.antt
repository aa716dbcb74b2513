-- What OUTs give, bit after bit, is what was sent, word after word.
use Rattle.pio_machine.proofs.Shared.{Bool, In, Irq, Jmp, List, Machine1, Mov, None, Option, Out, OutDestination, PioOp, Pull, Push, Seen, Set, Some, [], advanced, after_cycle, after_op, after_try, after_word, and_parts, ap, append-nil, append_assoc, arith, autopull, bit_at, completed, cond_both, counted, div-div-eq-div-mul, div-mul-add, false, flag_of, flat_map-append, if◌then◌else◌, is_osr, is_pull_void, is_spent, loaded, loaded_from, loads_osr, min, mod-lt, mod-pow-add, mov_value, mul-div_cancel, nat_le, nat_tests, not, operation_of, out_done, out_right, out_stalls, out_value, passed, pow-add, pow_pos, pull_threshold, pulled_from, refilled, refl, remaining, shifted_out, stalled, starved, sub-zero, suc, sym, taken, ticks, tried, true, true≢false, try_out, try_pull, with_out, word_tried, worked, zero, zero-add, ℕ, ◌%◌, ◌*◌, ◌++◌, ◌+◌, ◌-◌, ◌/◌, ◌<◌, ◌^◌, ◌∙◌, ◌∷◌, ◌≡◌, ◌≤◌}
use Rattle.std.specs.List.{flat_map}
use Rattle.std.proofs.Math.Pow.{mod-mod-pow}
use Rattle.pio_machine.specs.Stream.{listed, bit_index, leading, bits_of_word, bits_waiting, bits_of_out, given_by, given_by_word, given_in_cycle, replaces_osr, word_replaces_osr, Feeds, end_of, given_over, sent_over, TheBitsOutAreThoseSent}
use Rattle.pio_machine.proofs.Changes.{Holds, OfIsr, OfPush}
use Rattle.pio_machine.proofs.Changes as change
use Rattle.pio_machine.proofs.Clock.{advanced-keeps, goes-cycle}

-- ---- lists of bits

pub listed-same : (n : ℕ) (f g : ℕ → ℕ) → ((i : ℕ) → i < n → f i ≡ g i) → listed n f ≡ listed n g
listed-same zero f g h = refl
listed-same (suc n) f g h =
    ap (λ b. b ∷ listed n (λ i. f (suc i))) (h 0 (omega arith))
    ∙ ap (λ bs. g 0 ∷ bs) (listed-same n (λ i. f (suc i)) (λ i. g (suc i)) (λ i low. h (suc i) (omega (arith, low))))

pub listed-append : (a b : ℕ) (f : ℕ → ℕ) → listed (a + b) f ≡ listed a f ++ listed b (λ i. f (a + i))
listed-append zero b f = ap (λ n. listed n f) (zero-add b) ∙ listed-same b f (λ i. f (0 + i)) (λ i low. ap f (sym (zero-add i)))
listed-append (suc a) b f =
    let longer : suc a + b ≡ suc (a + b) = omega arith in
    ap (λ n. listed n f) longer
    ∙ ap (λ bs. f 0 ∷ bs) (listed-append a b (λ i. f (suc i)) ∙ ap (λ cs. listed a (λ i. f (suc i)) ++ cs)
    (listed-same b (λ i. f (suc (a + i))) (λ i. f (suc a + i)) (λ i low. ap f (omega arith))))

-- ---- bits of a word

low_bits : (w j i : ℕ) → bit_at (w % 2 ^ ((j + 1) + i)) i ≡ bit_at w i
low_bits w j i =
    ap (λ n. n / 2 ^ i % 2) (mod-pow-add w (j + 1) i)
    ∙ ap (λ n. n % 2) (div-mul-add (w / 2 ^ i % 2 ^ (j + 1)) (2 ^ i) (w % 2 ^ i) (mod-lt w (pow_pos i)))
    ∙ mod-mod-pow (w / 2 ^ i) j 1

pub bit-mod : (w c i : ℕ) → i < c → bit_at (w % 2 ^ c) i ≡ bit_at w i
bit-mod w c i h =
    let split : c ≡ ((c - suc i) + 1) + i = omega (arith, h) in
    ap (λ n. bit_at (w % 2 ^ n) i) split ∙ low_bits w (c - suc i) i

pub bit-div : (w c i : ℕ) → bit_at (w / 2 ^ c) i ≡ bit_at w (c + i)
bit-div w c i = ap (λ n. n % 2) (div-div-eq-div-mul w (2 ^ c) (2 ^ i) ∙ ap (λ n. w / n) (sym (pow-add 2 c i)))

bit-mul : (w c i : ℕ) → bit_at (w * 2 ^ c) (c + i) ≡ bit_at w i
bit-mul w c i = sym (bit-div (w * 2 ^ c) c i) ∙ ap (λ n. bit_at n i) (mul-div_cancel w (pow_pos c))

first_bits : (right : Bool) (c w i : ℕ) → i < c → c ≤ 32 → bit_at (taken right c w) (bit_index right c i) ≡ bit_at w (bit_index right 32 i)
first_bits true c w i h k = bit-mod w c i h
first_bits false c w i h k =
    bit-div w (32 - c) (c - 1 - i) ∙ ap (λ n. bit_at w n) (omega (arith, h, k))

next_bits : (right : Bool) (c w i : ℕ) → c + i < 32 → bit_at (remaining right c w) (bit_index right 32 i) ≡ bit_at w (bit_index right 32 (c + i))
next_bits true c w i h = bit-div w c i
next_bits false c w i h =
    let turned : 32 - 1 - i ≡ c + (32 - 1 - (c + i)) = omega (arith, h) in
    bit-mod (w * 2 ^ c) 32 (32 - 1 - i) (omega (arith, h)) ∙ ap (λ n. bit_at (w * 2 ^ c) n) turned ∙ bit-mul w c (32 - 1 - (c + i))

-- what a shift gives, and what it leaves, are the word
parted : (right : Bool) (c left w : ℕ) → c ≤ 32 → left ≤ 32
    → leading right c (min c left) (taken right c w) ++ leading right 32 (left - c) (remaining right c w) ≡ leading right 32 left w
parted right c left w h k =
    let whole : left ≡ min c left + (left - c) = omega arith in
    ap (λ bs. bs ++ leading right 32 (left - c) (remaining right c w))
    (listed-same (min c left) _ (λ i. bit_at w (bit_index right 32 i)) (λ i low. first_bits right c w i (omega (arith, low)) h))
    ∙ ap (λ bs. leading right 32 (min c left) w ++ bs)
    (listed-same (left - c) _ (λ i. bit_at w (bit_index right 32 (min c left + i)))
    (λ i low. next_bits right c w i (omega (arith, low, k)) ∙ ap (λ n. bit_at w (bit_index right 32 n)) (omega (arith, low))))
    ∙ sym (ap (λ n. leading right 32 n w) whole ∙ listed-append (min c left) (left - c) (λ i. bit_at w (bit_index right 32 i)))

-- ---- what waits, in machines that agree

same_word : (m next : Machine1) → next.shiftctrl ≡ m.shiftctrl → (word : ℕ) → bits_of_word next word ≡ bits_of_word m word
same_word m next h word = rw h refl

same_words : (m next : Machine1) → next.shiftctrl ≡ m.shiftctrl → (words : List ℕ) → flat_map (bits_of_word next) words ≡ flat_map (bits_of_word m) words
same_words m next h [] = refl
same_words m next h (word ∷ rest) =
    ap (λ bs. bs ++ flat_map (bits_of_word next) rest) (same_word m next h word) ∙ ap (λ bs. bits_of_word m word ++ bs) (same_words m next h rest)

-- what is left of an OSR with this SHIFTCTRL
same_rest : (m next : Machine1) → next.osr ≡ m.osr → next.osr_count ≡ m.osr_count → next.shiftctrl ≡ m.shiftctrl
    → leading (out_right next) 32 (pull_threshold next - next.osr_count) next.osr ≡ leading (out_right m) 32 (pull_threshold m - m.osr_count) m.osr
same_rest m next o c s = rw (o, c, s) refl

-- as much waits
abbrev SameBits : Machine1 → Machine1 → Type 0
SameBits m next = bits_waiting next ≡ bits_waiting m

holds : Holds SameBits
holds = record { none = λ m. refl; beside = λ m x y pc delay w p t r. refl; both = λ g h. h ∙ g }

isr : OfIsr SameBits
isr m v c = refl

push : OfPush SameBits
push m h = refl

-- ---- a spent OSR is loaded

is_over : (t count : ℕ) → nat_le t count ≡ true → t - count ≡ 0
is_over t count h = grind (arith, nat_tests)

loaded-bits : (words : List ℕ) (m : Machine1) → m.tx ≡ words → is_spent m ≡ true → bits_waiting (loaded_from words m) ≡ bits_waiting m
loaded-bits [] m h spent = refl
loaded-bits (word ∷ rest) m h spent =
    ap (λ n. leading (out_right m) 32 n word ++ flat_map (bits_of_word m) rest) (sub-zero (pull_threshold m))
    ∙ sym (ap (λ n. leading (out_right m) 32 n m.osr ++ flat_map (bits_of_word m) m.tx) (is_over (pull_threshold m) m.osr_count spent)
    ∙ ap (λ ws. flat_map (bits_of_word m) ws) h)

refill-by : (b c : Bool) (m : Machine1) → is_spent m ≡ c → bits_waiting (if b then (if c then loaded m else m) else m) ≡ bits_waiting m
refill-by true true m h = loaded-bits m.tx m refl h
refill-by true false m h = refl
refill-by false c m h = refl

refilled-bits : (m : Machine1) → bits_waiting (refilled m) ≡ bits_waiting m
unfolding refilled
refilled-bits m = refill-by (autopull m) (is_spent m) m refl

-- ---- OUT

fits-by : (b : Bool) (field : ℕ) → field < 32 → (if b then 32 else field) ≤ 32
fits-by true field h = omega arith
fits-by false field h = omega (arith, h)

threshold-fits : (m : Machine1) → pull_threshold m ≤ 32
threshold-fits m = fits-by _ (m.shiftctrl / 2 ^ 25 % 2 ^ 5) (mod-lt (m.shiftctrl / 2 ^ 25) (pow_pos 5))

left_after : (t before count : ℕ) → t ≤ 32 → t - counted before count ≡ t - before - count
left_after t before count h = omega (arith, h)

shift-bits : (count : ℕ) (m : Machine1) → count ≤ 32 → bits_of_out count m ++ bits_waiting (shifted_out count m) ≡ bits_waiting m
shift-bits count m h =
    let left = pull_threshold m - m.osr_count in
    let after : pull_threshold m - counted m.osr_count count ≡ left - count = left_after (pull_threshold m) m.osr_count count (threshold-fits m) in
    ap (λ n. bits_of_out count m ++ (leading (out_right m) 32 n (remaining (out_right m) count m.osr) ++ flat_map (bits_of_word m) m.tx)) after
    ∙ sym (append_assoc (bits_of_out count m) (leading (out_right m) 32 (left - count) (remaining (out_right m) count m.osr)) (flat_map (bits_of_word m) m.tx))
    ∙ ap (λ bs. bs ++ flat_map (bits_of_word m) m.tx) (parted (out_right m) count left m.osr h (omega (arith, threshold-fits m)))

done-bits : (destination : OutDestination) (count : ℕ) (m : Machine1) → count ≤ 32
    → bits_of_out count m ++ bits_waiting (out_done destination count m).machine ≡ bits_waiting m
done-bits destination count m h =
    ap (λ bs. bits_of_out count m ++ bs)
    (refilled-bits (with_out destination (out_value count m) count (shifted_out count m))
    ∙ change.put holds destination (λ e. isr) (out_value count m) count (shifted_out count m))
    ∙ shift-bits count m h

starved-bits : (words : List ℕ) (m : Machine1) → m.tx ≡ words → is_spent m ≡ true → bits_waiting (starved words m) ≡ bits_waiting m
starved-bits [] m h spent = refl
starved-bits (word ∷ rest) m h spent = loaded-bits m.tx m refl spent

out-by : (b : Bool) (destination : OutDestination) (count : ℕ) (m : Machine1) → out_stalls m ≡ b → count ≤ 32
    → (if b then [] else bits_of_out count m) ++ bits_waiting (if b then stalled (starved m.tx m) else out_done destination count m).machine ≡ bits_waiting m
out-by true destination count m h k = starved-bits m.tx m refl (and_parts (autopull m) (is_spent m) h).1
out-by false destination count m h k = done-bits destination count m k

out-bits : (destination : OutDestination) (count : ℕ) (m : Machine1)
    → given_by (Out destination count) m ++ bits_waiting (try_out destination count m).machine ≡ bits_waiting m
unfolding try_out
out-bits destination count m = out-by (out_stalls m) destination (min count 32) m refl (omega arith)

-- ---- the other operations

void-bits : (b block : Bool) (m : Machine1) → not b ≡ false
    → SameBits m (if b then completed m else pulled_from m.tx block m).machine
void-bits true block m h = refl
void-bits false block m h = absurd (cc)

pull-bits : (if_empty block : Bool) (m : Machine1) → not (is_pull_void if_empty m) ≡ false
    → SameBits m (try_pull if_empty block m).machine
unfolding try_pull
pull-bits if_empty block m h = void-bits (is_pull_void if_empty m) block m h

op-bits : (op : PioOp) (number : ℕ) (seen : Seen) (m : Machine1) → replaces_osr op m ≡ false
    → given_by op m ++ bits_waiting (tried op number seen m).machine ≡ bits_waiting m
op-bits (Jmp condition address) number seen m h = change.jmp holds condition m
op-bits (In source count) number seen m h = change.in_ holds isr push source count seen m
op-bits (Out destination count) number seen m h = out-bits destination count m
op-bits (Push if_full block) number seen m h = change.push holds isr push if_full block m
op-bits (Pull if_empty block) number seen m h = pull-bits if_empty block m h
op-bits (Mov destination operation source) number seen m h =
    change.mov holds destination (λ e. isr) (λ e. absurd (true≢false (sym (ap is_osr e) ∙ h)))
    (mov_value operation source seen m) m
op-bits (Irq clear wait index) number seen m h = change.irq holds clear wait (flag_of index number) seen m
op-bits (Set destination value) number seen m h = change.set_ holds destination value m
op-bits _ number seen m h = refl

-- ---- a cycle

try-bits-of : (word : ℕ) (op : PioOp) (number : ℕ) (seen : Seen) (m : Machine1) → replaces_osr op m ≡ false
    → given_by op m ++ bits_waiting (after_op word op number seen m) ≡ bits_waiting m
try-bits-of word op number seen m h =
    let t = (tried op number seen m).machine in
    ap (λ bs. given_by op m ++ bs)
    (change.end holds _ (tried op number seen m).ending (worked op number seen m)
    ∙ cond_both (loads_osr op) t (refilled t) (λ x. bits_waiting x ≡ bits_waiting t) (λ e. refl) (λ e. refilled-bits t))
    ∙ op-bits op number seen m h

try-bits : (word number : ℕ) (seen : Seen) (m : Machine1) → replaces_osr (operation_of word) m ≡ false
    → given_by (operation_of word) m ++ bits_waiting (after_try word number seen m) ≡ bits_waiting m
unfolding after_try
try-bits word number seen m h = try-bits-of word (operation_of word) number seen m h

passed-bits : (ticked : Bool) (m : Machine1) → bits_waiting (passed ticked m) ≡ bits_waiting m
passed-bits true m = refilled-bits (record m { delay = m.delay - 1 })
passed-bits false m = refl

word-bits : (word : Option ℕ) (ticked : Bool) (number : ℕ) (seen : Seen) (m : Machine1) → word_replaces_osr word m ≡ false
    → given_by_word word m ++ bits_waiting (after_word word ticked number seen m) ≡ bits_waiting m
word-bits None ticked number seen m h = passed-bits ticked m
word-bits (Some word) ticked number seen m h = try-bits word number seen m h

cycle-bits : (number : ℕ) (seen : Seen) (m : Machine1) → word_replaces_osr (word_tried seen m) (advanced m) ≡ false
    → given_in_cycle seen m ++ bits_waiting (after_cycle number seen m) ≡ bits_waiting m
unfolding after_cycle
cycle-bits number seen m h =
    word-bits (word_tried seen m) (ticks m) number seen (advanced m) h ∙ advanced-keeps bits_waiting (λ x a. refl) m

-- ---- a run

fed-bits : (words : List ℕ) (m next : Machine1) → Feeds words m next → bits_waiting next ≡ bits_waiting m ++ flat_map (bits_of_word m) words
fed-bits words m next g =
    let rest = leading (out_right m) 32 (pull_threshold m - m.osr_count) m.osr in
    ap (λ bs. bs ++ flat_map (bits_of_word next) next.tx) (same_rest m next g.osr g.osr_count g.shiftctrl)
    ∙ ap (λ bs. rest ++ bs)
    (ap (λ ws. flat_map (bits_of_word next) ws) g.tx ∙ same_words m next g.shiftctrl (m.tx ++ words) ∙ flat_map-append (bits_of_word m) m.tx words)
    ∙ sym (append_assoc rest (flat_map (bits_of_word m) m.tx) (flat_map (bits_of_word m) words))

same_shiftctrl : (number : ℕ) (seen : Seen) (m : Machine1) → (after_cycle number seen m).shiftctrl ≡ m.shiftctrl
same_shiftctrl number seen m = (goes-cycle number seen m).shiftctrl ∙ advanced-keeps (λ x. x.shiftctrl) (λ x a. refl) m

-- in five pieces: what is given now and later, what waits at the end, what was sent now and later
pub in_turn : {A : Type 0} (given later end next before now after : List A)
    → later ++ end ≡ next ++ after → given ++ next ≡ before ++ now
    → (given ++ later) ++ end ≡ before ++ (now ++ after)
in_turn given later end next before now after h k =
    append_assoc given later end ∙ ap (λ bs. given ++ bs) h ∙ sym (append_assoc given next after)
    ∙ ap (λ bs. bs ++ after) k ∙ append_assoc before now after

pub the_bits_out_are_those_sent : TheBitsOutAreThoseSent
the_bits_out_are_those_sent number m [] fed = sym (append-nil (bits_waiting m))
the_bits_out_are_those_sent number m (t ∷ ts) fed =
    let next = after_cycle number t.seen t.machine in
    let same : next.shiftctrl ≡ m.shiftctrl = same_shiftctrl number t.seen t.machine ∙ fed.0.shiftctrl in
    let later = the_bits_out_are_those_sent number next ts fed.2 ∙ ap (λ bs. bits_waiting next ++ bs) (same_words m next same (sent_over ts)) in
    let now = cycle-bits number t.seen t.machine fed.1 ∙ fed-bits t.words m t.machine fed.0 in
    in_turn (given_in_cycle t.seen t.machine) (given_over ts) (bits_waiting (end_of number next ts)) (bits_waiting next) (bits_waiting m)
    (flat_map (bits_of_word m) t.words) (flat_map (bits_of_word m) (sent_over ts)) later now
    ∙ ap (λ bs. bits_waiting m ++ bs) (sym (flat_map-append (bits_of_word m) t.words (sent_over ts)))
