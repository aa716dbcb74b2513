-- A return gives back what an entry found.
use Rattle.std.proofs.Common.{◌≡◌, ℕ, zero, suc, ◌+◌, ◌-◌, ◌*◌, ◌/◌, ◌%◌, ◌^◌, ◌<◌, ◌≤◌, ◌≢◌, ◌==◌, ◌&&◌, ◌||◌, not, Bool, true, false, cond, List, [], ◌∷◌, length, refl, sym, ap, ap₂, subst, ◌∙◌, inl, inr, arith, lt-ltb}
use Rattle.core_laws.proofs.Shared.{Option, Some, None, map, max, slice_index, slice_set, bit_and, bit_or, int_lt, bit_at, pow-lt, ltb-true, ne_eqb, nat_tests, get_or-set_same, get_or-set_other, length-set, and-not, and_comm, and_le_l, or_mod, or_disjoint, or_lt, bit_at_or, bit_at-lt, bit_at-pow_same, bit_at-pow_other, and_pow, same_from_bits_below, has_bit, bit_number, Regs, Beat, Inner, is_thread, sp_of, xpsr_of, Exceptions, numbers_from, is_number, is_member, minus, entered, left, rank_of, priority_of, after_cycles, Want, access, is_ram, taken_of, entry_frame, stacked_xpsr, stacked, vector_address, stacking, link_of, entry_beat, with_entry, is_to_process, is_alone, return_frame, is_bad, is_misfit, stacked_number, stack_after, with_five, with_frame, with_return, State, Served, after_all_served, candidates, lines_in, last_lines, ends_in, left_of, want_in, wants_through, lines_of, Stays, entry_beats, HandlerBegins, BeginsReturn, HasFrame, after_leaving, IsBack, IsThere, written, AreThere, IsGivenBack, KeepsTheRest, AReturnGivesBackWhatAnEntryFound, active_before, and_parts, false_from_ne_true, both_ways, cases_eq, and_self_left}
use Rattle.std.specs.Int.Bits.{or_zero_r}
use Rattle.std.proofs.lemmas.Grind.{same_number_lists}
use Rattle.m0_nvic.specs.Cycle as nvic
use Rattle.m0_nvic.proofs.Held.{minus_at, pends_behind}
use Rattle.m0_nvic.proofs.InForce.{the_priority_is_the_least}
use Rattle.rp_base.specs.declared.Size.TheVariants as sizes
use Rattle.core_laws.proofs.Taken.{what_is_taken_is_the_least, keeps_cycle}
use Rattle.core_laws.proofs.Handlers.{an_entry_takes_its_beats, a_return_takes_its_beats}

-- ---- the exception that is taken

-- a number, and not active
pub record IsFresh (n : ℕ) (s : State) : Type 0 where
  pub within : n < 48
  pub clear : bit_at s.nvic.active n ≡ 0

pub bit_clear : (x : ℕ) → x < 2 → (x == 1) ≡ false → x ≡ 0
bit_clear x h e = grind (arith, nat_tests)

pub fresh_of : (n : ℕ) (s : State) → taken_of s ≡ Some n → IsFresh n s
fresh_of n s taken =
    let h = (what_is_taken_is_the_least s).taken n taken in
    let number : is_number n ≡ true = (and_parts (is_number n) (has_bit (candidates s) n) h.0.0).0 in
    let p = the_priority_is_the_least s.nvic s.regs.primask in
    let other : is_member n s.nvic.active ≡ false = false_from_ne_true (is_member n s.nvic.active) (λ e. both_ways (int_lt (rank_of s.nvic n) (priority_of s.nvic s.regs.primask)) (p.of_active n e) h.1) in
    record {
      within = ltb-true n 48 number;
      clear = bit_clear (bit_at s.nvic.active n) (bit_at-lt s.nvic.active n) (sym (ap (λ b. b && has_bit s.nvic.active n) number) ∙ other);
    }

-- ---- the active exceptions

pub entered_active : (n : ℕ) (e : Exceptions) → n < 48 → (entered n e).active ≡ bit_or e.active (2 ^ n)
entered_active n e h =
    ap (λ b. (cond b (record e { pending = minus e.pending (2 ^ n); active = bit_or e.active (2 ^ n) }) e).active) (lt-ltb n 48 h)

pub left_active : (n : ℕ) (e : Exceptions) → n < 48 → (left n e).active ≡ minus e.active (2 ^ n)
left_active n e h = ap (λ b. (cond b (record e { active = minus e.active (2 ^ n) }) e).active) (lt-ltb n 48 h)

active_cycles : (cycle : ℕ) (lines : List ℕ) (e : Exceptions) → (after_cycles cycle lines e).active ≡ e.active
active_cycles cycle [] e = refl
active_cycles cycle (l ∷ more) e = active_cycles (cycle + 1) more (nvic.after_cycle l cycle e) ∙ (keeps_cycle l cycle e).active

leaving_active : (n cycle line : ℕ) (lines : List ℕ) (e : Exceptions) → n < 48 → (after_leaving n cycle (line ∷ lines) e).active ≡ minus e.active (2 ^ n)
leaving_active n cycle line [] e h = (keeps_cycle line cycle (left n e)).active ∙ left_active n e h
leaving_active n cycle line (another ∷ more) e h =
    leaving_active n (cycle + 1) another more (nvic.after_cycle line cycle e) h ∙ ap (λ a. minus a (2 ^ n)) ((keeps_cycle line cycle e).active)

leaving_pends : (i cycle : ℕ) (y : Served) (ys : List Served) (e : Exceptions) → i < 32 → e.active < 2 ^ 64 → has_bit (last_lines (y ∷ ys)) i ≡ true
    → is_member (16 + i) (after_leaving (16 + i) cycle (lines_of (y ∷ ys)) e).pending ≡ true
leaving_pends i cycle y [] e h fits high = pends_behind i cycle (lines_in y.given) e h fits high
leaving_pends i cycle y (z ∷ zs) e h fits high =
    leaving_pends i (cycle + 1) z zs (nvic.after_cycle (lines_in y.given) cycle e) h (omega (arith, (keeps_cycle (lines_in y.given) cycle e).active, fits)) high

pow_fits : (k : ℕ) → k < 64 → 2 ^ k < 2 ^ 64
pow_fits k h = pow-lt h

pub taken_out : (a n : ℕ) → a < 2 ^ 48 → n < 48 → bit_at a n ≡ 0 → minus (bit_or a (2 ^ n)) (2 ^ n) ≡ a
taken_out a n fits within clear =
    let one : 2 ^ n < 2 ^ 64 = pow_fits n (omega (arith, within)) in
    let wide : a < 2 ^ 64 = omega (arith, fits) in
    same_from_bits_below 64 (minus (bit_or a (2 ^ n)) (2 ^ n)) a (below (bit_or a (2 ^ n)) (2 ^ n) (or_lt 64 a (2 ^ n) wide one)) wide
    (λ i low. elim (cases_eq i n) [
      | inl e ↦ subst (λ (j : ℕ). bit_at (minus (bit_or a (2 ^ n)) (2 ^ n)) j ≡ bit_at a j) (sym e)
          (omega (arith, minus_at (bit_or a (2 ^ n)) (2 ^ n) n one (omega (arith, within)), bit_at-pow_same n, clear))
      | inr e ↦ omega (arith, minus_at (bit_or a (2 ^ n)) (2 ^ n) i one low, bit_at_or a (2 ^ n) i, bit_at-pow_other n i e)
    ])
  where
    below : (x y : ℕ) → x < 2 ^ 64 → minus x y < 2 ^ 64
    below x y h = omega (arith, and_le_l x (2 ^ 64 - 1 - y), h)

-- ---- the value in LR

abbrev link_by : Bool → Bool → ℕ
link_by thread process = cond thread (cond process 0xFFFFFFFD 0xFFFFFFF9) 0xFFFFFFF1

link_process : (thread process : Bool) → (link_by thread process == 0xFFFFFFFD) ≡ (thread && process)
link_process true true = refl
link_process true false = refl
link_process false process = refl

link_good : (thread process : Bool) → cond (link_by thread process == 0xFFFFFFF1) thread (cond ((link_by thread process == 0xFFFFFFF9) || (link_by thread process == 0xFFFFFFFD)) (not thread) true) ≡ false
link_good true true = refl
link_good true false = refl
link_good false process = refl

link_fits : (thread process : Bool) → cond (link_by thread process == 0xFFFFFFF1) thread (not thread) ≡ false
link_fits true true = refl
link_fits true false = refl
link_fits false process = refl

-- ---- the stacked program status

flag_small : (b : Bool) → bit_number b < 2
flag_small true = omega arith
flag_small false = omega arith

flag_back : (b : Bool) → (bit_number b == 1) ≡ b
flag_back true = refl
flag_back false = refl

-- bit 9 tells of the alignment, and all else is the program status
abbrev marked_by : Bool → ℕ → ℕ
marked_by high x = cond high (bit_or x (2 ^ 9)) x

marked_bit : (high : Bool) (x k : ℕ) → k ≢ 9 → bit_at (marked_by high x) k ≡ bit_at x k
marked_bit true x k other = omega (arith, bit_at_or x (2 ^ 9) k, bit_at-pow_other 9 k other)
marked_bit false x k other = refl

mark_at : (high : Bool) (x : ℕ) → bit_at x 9 ≡ 0 → has_bit (marked_by high x) 9 ≡ high
mark_at true x clear = ap (λ b. b == 1) (bit_at_or x (2 ^ 9) 9 ∙ ap (λ b. max b (bit_at (2 ^ 9) 9)) clear)
mark_at false x clear = ap (λ b. b == 1) clear

marked_six : (high : Bool) (x : ℕ) → marked_by high x % 2 ^ 6 ≡ x % 2 ^ 6
marked_six true x = or_mod x (2 ^ 9) 6 ∙ or_zero_r (x % 2 ^ 6)
marked_six false x = refl

record Status (r : Regs) : Type 0 where
  n : has_bit (stacked_xpsr r) 31 ≡ r.n
  z : has_bit (stacked_xpsr r) 30 ≡ r.z
  c : has_bit (stacked_xpsr r) 29 ≡ r.c
  v : has_bit (stacked_xpsr r) 28 ≡ r.v
  t : has_bit (stacked_xpsr r) 24 ≡ r.t
  mark : has_bit (stacked_xpsr r) 9 ≡ has_bit (sp_of r) 2
  number : stacked_number (stacked_xpsr r) ≡ r.ipsr

status : (r : Regs) → r.ipsr < 64 → Status r
status r low =
    let high = has_bit (sp_of r) 2 in
    let x = xpsr_of r in
    let n = flag_small r.n in
    let z = flag_small r.z in
    let c = flag_small r.c in
    let v = flag_small r.v in
    let t = flag_small r.t in
    let flag : (k : ℕ) (b : Bool) → k ≢ 9 → bit_at x k ≡ bit_number b → has_bit (marked_by high x) k ≡ b =
    λ k b other e. ap (λ i. i == 1) (marked_bit high x k other ∙ e) ∙ flag_back b in
    record {
      n = flag 31 r.n (λ q. absurd (omega (arith, q))) (omega arith);
      z = flag 30 r.z (λ q. absurd (omega (arith, q))) (omega arith);
      c = flag 29 r.c (λ q. absurd (omega (arith, q))) (omega arith);
      v = flag 28 r.v (λ q. absurd (omega (arith, q))) (omega arith);
      t = flag 24 r.t (λ q. absurd (omega (arith, q))) (omega arith);
      mark = mark_at high x (omega arith);
      number = marked_six high x ∙ omega (arith, low);
    }

-- ---- the stack

abbrev below_by : ℕ → ℕ
below_by sp = (sp + (2 ^ 32 - 32)) % 2 ^ 32

frame_is : (m : ℕ) → m < 2 ^ 32 → bit_and m (2 ^ 32 - 1 - 4) + bit_at m 2 * 4 ≡ m
frame_is m h =
    omega (arith, and-not 32 4 m (omega arith) h, and_comm m (2 ^ 32 - 1 - 4), and_comm 4 m, and_pow m 2)

frame_aligned : (sp : ℕ) → sp / 4 * 4 ≡ sp → bit_and (below_by sp) (2 ^ 32 - 1 - 4) / 4 * 4 ≡ bit_and (below_by sp) (2 ^ 32 - 1 - 4)
frame_aligned sp whole = omega (arith, frame_is (below_by sp) (omega arith), whole)

stack_by : (high : Bool) (sp frame : ℕ) → has_bit sp 2 ≡ high → sp < 2 ^ 32 → sp / 4 * 4 ≡ sp → frame + bit_at (below_by sp) 2 * 4 ≡ below_by sp
    → cond high (bit_or ((frame + 32) % 2 ^ 32) 4) ((frame + 32) % 2 ^ 32) ≡ sp
stack_by true sp frame bit fits whole at =
    let one : bit_at sp 2 ≡ 1 = grind (arith, nat_tests) in
    let lower : (frame + 32) % 2 ^ 32 ≡ sp - 4 = omega (arith, one, fits, whole, at) in
    let clear : bit_at ((frame + 32) % 2 ^ 32) 2 ≡ 0 = ap (λ x. bit_at x 2) lower ∙ omega (arith, one, fits, whole) in
    or_disjoint ((frame + 32) % 2 ^ 32) 4 (and_pow ((frame + 32) % 2 ^ 32) 2 ∙ ap (λ x. x * 2 ^ 2) clear) ∙ omega (arith, lower, one)
stack_by false sp frame bit fits whole at =
    let none : bit_at sp 2 ≡ 0 = bit_clear (bit_at sp 2) (bit_at-lt sp 2) bit in
    omega (arith, none, fits, whole, at)

-- the stack behind the frame is the one that was found
stack_back : (r : Regs) → sp_of r < 2 ^ 32 → sp_of r / 4 * 4 ≡ sp_of r → Status r → stack_after (entry_frame r) (stacked_xpsr r) ≡ sp_of r
stack_back r fits whole s =
    ap (λ b. cond b (bit_or ((entry_frame r + 32) % 2 ^ 32) 4) ((entry_frame r + 32) % 2 ^ 32)) s.mark
    ∙ stack_by (has_bit (sp_of r) 2) (sp_of r) (entry_frame r) refl fits whole (frame_is (below_by (sp_of r)) (omega arith))

-- ---- what the handler finds

record Found (n vector : ℕ) (r : Regs) : Type 0 where
  frame : return_frame (link_of r) (with_entry n vector r) ≡ entry_frame r
  list : (with_entry n vector r).r ≡ r.r
  mask : (with_entry n vector r).primask ≡ r.primask
  main : cond (is_thread r && r.spsel) (with_entry n vector r).msp 0 ≡ cond (is_thread r && r.spsel) r.msp 0
  process : cond (is_thread r && r.spsel) 0 (with_entry n vector r).psp ≡ cond (is_thread r && r.spsel) 0 r.psp

found : (n vector : ℕ) (r : Regs) → entry_frame r / 4 * 4 ≡ entry_frame r → Found n vector r
found n vector r whole =
    let p = parts (is_thread r && r.spsel) (entry_frame r / 4 * 4) in
    record {
      frame = ap (λ b. cond b (with_entry n vector r).psp (with_entry n vector r).msp) (link_process (is_thread r) r.spsel) ∙ p.0 ∙ whole;
      list = p.1;
      mask = p.2;
      main = p.3;
      process = p.4;
    }
  where
    parts : (b : Bool) (f : ℕ) → (cond b (cond b (record r { psp = f }) (record r { msp = f })).psp (cond b (record r { psp = f }) (record r { msp = f })).msp ≡ f) × ((cond b (record r { psp = f }) (record r { msp = f })).r ≡ r.r) × ((cond b (record r { psp = f }) (record r { msp = f })).primask ≡ r.primask)
        × (cond b (cond b (record r { psp = f }) (record r { msp = f })).msp 0 ≡ cond b r.msp 0) × (cond b 0 (cond b (record r { psp = f }) (record r { msp = f })).psp ≡ cond b 0 r.psp)
    parts true f = (refl, refl, refl, refl, refl)
    parts false f = (refl, refl, refl, refl, refl)

-- ---- the words that are there

-- what is claimed of an index
abbrev There : (ℕ → Beat) → List Served → ℕ → Type 0
There f ys j = IsThere (want_in (f j)) (written (want_in (f j))) ys

there_by : (f : ℕ → Beat) (ys : List Served) (o : Bool) (l m : Option (List Beat)) (ws vs : List Want) (from end : ℕ)
    → (l ≡ Some [] → AreThere ws ys → (j : ℕ) → from ≤ j → j < end → There f ys j)
    → (m ≡ Some [] → AreThere vs ys → (j : ℕ) → from ≤ j → j < end → There f ys j)
    → cond o l m ≡ Some [] → AreThere (cond o ws vs) ys → (j : ℕ) → from ≤ j → j < end → There f ys j
there_by f ys true l m ws vs from end over lasts e h j low high = over e h j low high
there_by f ys false l m ws vs from end over lasts e h j low high = lasts e h j low high

there_of : (f : ℕ → Beat) (ys xs : List Served) (k count : ℕ) → left_of (map f (numbers_from k count)) xs ≡ Some [] → AreThere (wants_through (map f (numbers_from k count)) xs) ys
    → (j : ℕ) → k ≤ j → j < k + count → There f ys j
there_of f ys [] k zero e h j low high = absurd (omega (arith, low, high))
there_of f ys [] k (suc c) e h j low high = absurd (cc)
there_of f ys (x ∷ xs) k zero e h j low high = absurd (cc)
there_of f ys (x ∷ xs) k (suc c) e h j low high = elim (cases_eq j k) [
  | inl same ↦ subst (λ (i : ℕ). There f ys i) (sym same) h.0
  | inr other ↦
      there_by f ys (ends_in (f k) x) (left_of (map f (numbers_from (k + 1) c)) xs) (left_of (f k ∷ map f (numbers_from (k + 1) c)) xs)
      (wants_through (map f (numbers_from (k + 1) c)) xs) (wants_through (f k ∷ map f (numbers_from (k + 1) c)) xs) (k + 1) (k + suc c)
      (λ e' h' j' low' high'. there_of f ys xs (k + 1) c e' h' j' low' (omega (arith, high')))
      (λ e' h' j' low' high'. there_of f ys xs k (suc c) e' h' j' (omega (arith, low')) high')
      e h.1 j (omega (arith, low, other)) high
]

entry_at_written : (n : ℕ) (s : State) (k : ℕ) → k < 8 → entry_beat n (record s { beats_done = k + 1 }) ≡ stacking k s.regs
unfolding entry_beat
entry_at_written n s k h =
    let e : k + 1 - 1 ≡ k = omega arith in
    ap₂ (λ a b. cond a Inner (cond b (stacking (k + 1 - 1) s.regs) (cond (k + 1 == 9) (access (vector_address n s.nvic) sizes.Word None) Inner))) (ne_eqb (k + 1) 0 (λ q. absurd (omega (arith, q)))) (lt-ltb (k + 1) 9 (omega (arith, h)))
    ∙ ap (λ (i : ℕ). stacking i s.regs) e

stacked_there : (n : ℕ) (s : State) (xs ys : List Served) → left_of (entry_beats n s) xs ≡ Some [] → AreThere (wants_through (entry_beats n s) xs) ys
    → (k : ℕ) → k < 8 → Stays ((entry_frame s.regs + 4 * k) % 2 ^ 32) (slice_index (stacked s.regs) k) ys
stacked_there n s xs ys e h k within =
    subst (λ (b : Beat). IsThere (want_in b) (written (want_in b)) ys) (entry_at_written n s k within)
    (there_of (λ i. entry_beat n (record s { beats_done = i })) ys xs 0 15 e h (k + 1) (omega arith) (omega (arith, within)))

-- ---- the registers behind the return

pub five_length : (words r : List ℕ) → length (with_five words r) ≡ length r
five_length words r =
    let a = slice_set r 0 (slice_index words 0) in
    let b = slice_set a 1 (slice_index words 1) in
    let c = slice_set b 2 (slice_index words 2) in
    let d = slice_set c 3 (slice_index words 3) in
    length-set d 12 (slice_index words 4) ∙ length-set c 3 (slice_index words 3) ∙ length-set b 2 (slice_index words 2) ∙ length-set a 1 (slice_index words 1) ∙ length-set r 0 (slice_index words 0)

record Five (words r : List ℕ) : Type 0 where
  at0 : slice_index (with_five words r) 0 ≡ slice_index words 0
  at1 : slice_index (with_five words r) 1 ≡ slice_index words 1
  at2 : slice_index (with_five words r) 2 ≡ slice_index words 2
  at3 : slice_index (with_five words r) 3 ≡ slice_index words 3
  at12 : slice_index (with_five words r) 12 ≡ slice_index words 4
  others : (k : ℕ) → 4 ≤ k → k < 12 → slice_index (with_five words r) k ≡ slice_index r k

five_at : (words r : List ℕ) → length r ≡ 13 → Five words r
five_at words r long =
    let u0 = slice_index words 0 in
    let u1 = slice_index words 1 in
    let u2 = slice_index words 2 in
    let u3 = slice_index words 3 in
    let u4 = slice_index words 4 in
    let a = slice_set r 0 u0 in
    let b = slice_set a 1 u1 in
    let c = slice_set b 2 u2 in
    let d = slice_set c 3 u3 in
    let la : length a ≡ 13 = length-set r 0 u0 ∙ long in
    let lb : length b ≡ 13 = length-set a 1 u1 ∙ la in
    let lc : length c ≡ 13 = length-set b 2 u2 ∙ lb in
    let ld : length d ≡ 13 = length-set c 3 u3 ∙ lc in
    record {
      at0 = get_or-set_other d 12 0 u4 0 (λ q. absurd (omega (arith, q))) ∙ get_or-set_other c 3 0 u3 0 (λ q. absurd (omega (arith, q))) ∙ get_or-set_other b 2 0 u2 0 (λ q. absurd (omega (arith, q)))
          ∙ get_or-set_other a 1 0 u1 0 (λ q. absurd (omega (arith, q))) ∙ get_or-set_same r 0 u0 0 (omega (arith, long));
      at1 = get_or-set_other d 12 1 u4 0 (λ q. absurd (omega (arith, q))) ∙ get_or-set_other c 3 1 u3 0 (λ q. absurd (omega (arith, q))) ∙ get_or-set_other b 2 1 u2 0 (λ q. absurd (omega (arith, q)))
          ∙ get_or-set_same a 1 u1 0 (omega (arith, la));
      at2 = get_or-set_other d 12 2 u4 0 (λ q. absurd (omega (arith, q))) ∙ get_or-set_other c 3 2 u3 0 (λ q. absurd (omega (arith, q))) ∙ get_or-set_same b 2 u2 0 (omega (arith, lb));
      at3 = get_or-set_other d 12 3 u4 0 (λ q. absurd (omega (arith, q))) ∙ get_or-set_same c 3 u3 0 (omega (arith, lc));
      at12 = get_or-set_same d 12 u4 0 (omega (arith, ld));
      others = λ k low high.
          get_or-set_other d 12 k u4 0 (λ q. absurd (omega (arith, q, high))) ∙ get_or-set_other c 3 k u3 0 (λ q. absurd (omega (arith, q, low))) ∙ get_or-set_other b 2 k u2 0 (λ q. absurd (omega (arith, q, low)))
          ∙ get_or-set_other a 1 k u1 0 (λ q. absurd (omega (arith, q, low))) ∙ get_or-set_other r 0 k u0 0 (λ q. absurd (omega (arith, q, low)));
    }

-- both stack pointers written out
abbrev back_by : Bool → ℕ → ℕ → List ℕ → Regs → Regs
back_by process sp value words r = record (with_frame value words r) { msp = cond process r.msp sp; psp = cond process sp r.psp }

back_is : (value : ℕ) (words : List ℕ) (r : Regs) (process : Bool) → is_to_process value ≡ process
    → with_return value words r ≡ back_by process (stack_after (return_frame value r) (slice_index words 7)) value words r
unfolding with_return
back_is value words r process e =
    let sp = stack_after (return_frame value r) (slice_index words 7) in
    ap (λ b. cond b (record (with_frame value words r) { psp = sp }) (record (with_frame value words r) { msp = sp })) e ∙ go process sp
  where
    go : (b : Bool) (sp : ℕ) → cond b (record (with_frame value words r) { psp = sp }) (record (with_frame value words r) { msp = sp }) ≡ back_by b sp value words r
    go true sp = refl
    go false sp = refl

and_selection : (thread process : Bool) → (thread ≡ false → process ≡ false) → (thread && process) ≡ process
and_selection true process h = refl
and_selection false process h = sym (h refl)

chosen : (b : Bool) (sp x y : ℕ) → cond b (cond b sp x) (cond b y sp) ≡ sp
chosen true sp x y = refl
chosen false sp x y = refl

main_back : (b : Bool) (x e m p : ℕ) → x ≡ e → cond b e 0 ≡ cond b m 0 → cond b x (cond b p m) ≡ m
main_back true x e m p h i = h ∙ i
main_back false x e m p h i = refl

process_back : (b : Bool) (x e m p : ℕ) → x ≡ e → cond b 0 e ≡ cond b 0 p → cond b (cond b p m) x ≡ p
process_back true x e m p h i = refl
process_back false x e m p h i = h ∙ i

-- what is known of the registers that the entry found
record Before (r : Regs) : Type 0 where
  thirteen : length r.r ≡ 13
  even : r.pc / 2 * 2 ≡ r.pc
  selection : is_thread r ≡ false → r.spsel ≡ false
  state : Status r

abbrev uses_process : Regs → Bool
uses_process r = is_thread r && r.spsel

abbrev back : Regs → Regs → Regs
back r q = back_by (uses_process r) (sp_of r) (link_of r) (stacked r) q

given_back : (r q : Regs) → Before r → length q.r ≡ 13 → IsGivenBack r (back r q)
given_back r q h long =
    let f = five_at (stacked r) q.r long in
    let st = h.state in
    let process : is_to_process (link_of r) ≡ uses_process r = link_process (is_thread r) r.spsel in
    record {
      r0 = f.at0;
      r1 = f.at1;
      r2 = f.at2;
      r3 = f.at3;
      r12 = f.at12;
      lr = refl;
      pc = h.even;
      flag_n = st.n;
      flag_z = st.z;
      flag_c = st.c;
      flag_v = st.v;
      thumb = st.t;
      mode = st.number;
      selection = process ∙ and_selection (is_thread r) r.spsel h.selection;
      stack = ap₂ (λ (i : ℕ) b. cond ((i == 0) && b) (back r q).psp (back r q).msp) st.number process
          ∙ ap (λ b. cond b (back r q).psp (back r q).msp) (and_self_left (is_thread r) r.spsel)
          ∙ chosen (uses_process r) (sp_of r) q.psp q.msp;
    }

same_regs : (a b : Regs) → a.r ≡ b.r → a.msp ≡ b.msp → a.psp ≡ b.psp → a.lr ≡ b.lr → a.pc ≡ b.pc → a.n ≡ b.n → a.z ≡ b.z → a.c ≡ b.c → a.v ≡ b.v → a.t ≡ b.t
    → a.ipsr ≡ b.ipsr → a.primask ≡ b.primask → a.spsel ≡ b.spsel → a ≡ b
same_regs a b er em ep el ec en ez ecc ev et ei ek es =
    let left : Regs = record { r = a.r; msp = a.msp; psp = a.psp; lr = a.lr; pc = a.pc; n = a.n; z = a.z; c = a.c; v = a.v; t = a.t; ipsr = a.ipsr; primask = a.primask; spsel = a.spsel } in
    let right : Regs = record { r = b.r; msp = b.msp; psp = b.psp; lr = b.lr; pc = b.pc; n = b.n; z = b.z; c = b.c; v = b.v; t = b.t; ipsr = b.ipsr; primask = b.primask; spsel = b.spsel } in
    let whole : left ≡ right = cc in
    whole

list_back : (r q : Regs) → Before r → length q.r ≡ 13 → ((k : ℕ) → 4 ≤ k → k < 12 → slice_index q.r k ≡ slice_index r.r k) → with_five (stacked r) q.r ≡ r.r
list_back r q h long rest =
    let f = five_at (stacked r) q.r long in
    let words = with_five (stacked r) q.r in
    same_number_lists words r.r (five_length (stacked r) q.r ∙ long ∙ sym h.thirteen)
    (λ k within. elim (cases_eq k 0) [
      | inl e ↦ subst (λ (i : ℕ). slice_index words i ≡ slice_index r.r i) (sym e) f.at0
      | inr n0 ↦ elim (cases_eq k 1) [
        | inl e ↦ subst (λ (i : ℕ). slice_index words i ≡ slice_index r.r i) (sym e) f.at1
        | inr n1 ↦ elim (cases_eq k 2) [
          | inl e ↦ subst (λ (i : ℕ). slice_index words i ≡ slice_index r.r i) (sym e) f.at2
          | inr n2 ↦ elim (cases_eq k 3) [
            | inl e ↦ subst (λ (i : ℕ). slice_index words i ≡ slice_index r.r i) (sym e) f.at3
            | inr n3 ↦ elim (cases_eq k 12) [
              | inl e ↦ subst (λ (i : ℕ). slice_index words i ≡ slice_index r.r i) (sym e) f.at12
              | inr n12 ↦
                  let low : 4 ≤ k = omega (arith, n0, n1, n2, n3) in
                  let high : k < 12 = omega (arith, within, five_length (stacked r) q.r, long, n12) in
                  f.others k low high ∙ rest k low high
            ]
          ]
        ]
      ]
    ])

whole_back : (n vector : ℕ) (r q : Regs) → Before r → Found n vector r → length q.r ≡ 13 → KeepsTheRest (with_entry n vector r) q → back r q ≡ r
whole_back n vector r q h fd long keeps =
    let g = given_back r q h long in
    same_regs (back r q) r
    (list_back r q h long (λ k low high. keeps.others k low high ∙ ap (λ (xs : List ℕ). slice_index xs k) fd.list))
    (main_back (uses_process r) q.msp (with_entry n vector r).msp r.msp r.psp keeps.main fd.main)
    (process_back (uses_process r) q.psp (with_entry n vector r).psp r.msp r.psp keeps.process fd.process)
    g.lr g.pc g.flag_n g.flag_z g.flag_c g.flag_v g.thumb g.mode (keeps.mask ∙ fd.mask) g.selection

returned_as : (r q : Regs) → sp_of r < 2 ^ 32 → sp_of r / 4 * 4 ≡ sp_of r → Status r → return_frame (link_of r) q ≡ entry_frame r → with_return (link_of r) (stacked r) q ≡ back r q
returned_as r q fits whole st frame =
    back_is (link_of r) (stacked r) q (uses_process r) (link_process (is_thread r) r.spsel)
    ∙ ap (λ (sp : ℕ). back_by (uses_process r) sp (link_of r) (stacked r) q)
    (ap (λ (f : ℕ). stack_after f (stacked_xpsr r)) frame ∙ stack_back r fits whole st)

-- ---- the law

aligned_by : (process : Bool) (msp psp : ℕ) → msp / 4 * 4 ≡ msp → psp / 4 * 4 ≡ psp → cond process psp msp / 4 * 4 ≡ cond process psp msp
aligned_by true msp psp main other = other
aligned_by false msp psp main other = main

alone_again : (n : ℕ) (s t : State) → is_thread s.regs ≡ (s.nvic.active == 0) → n < 48 → t.regs.ipsr ≡ n → minus t.nvic.active (2 ^ n) ≡ s.nvic.active → is_alone t ≡ is_thread s.regs
unfolding is_alone
alone_again n s t mode within number out =
    ap (λ (i : ℕ). (left i t.nvic).active == 0) number
    ∙ ap (λ (a : ℕ). a == 0) (left_active n t.nvic within ∙ out)
    ∙ sym mode

is_good : (s t : State) → is_alone t ≡ is_thread s.regs → is_bad (link_of s.regs) t ≡ false
unfolding is_bad
is_good s t alone =
    ap (λ b. cond (link_of s.regs == 0xFFFFFFF1) b (cond ((link_of s.regs == 0xFFFFFFF9) || (link_of s.regs == 0xFFFFFFFD)) (not b) true)) alone
    ∙ link_good (is_thread s.regs) s.regs.spsel

number_fits : (r : Regs) → Status r → is_misfit (link_of r) (stacked_xpsr r) ≡ false
number_fits r st =
    ap (λ (i : ℕ). cond (link_of r == 0xFFFFFFF1) (i == 0) (not (i == 0))) st.number ∙ link_fits (is_thread r) r.spsel

pub a_return_gives_back_what_an_entry_found : AReturnGivesBackWhatAnEntryFound
a_return_gives_back_what_an_entry_found n vector s t cycle later x y xs ys sound word at room full ends there done =
    let u = after_all_served cycle (x ∷ xs) s in
    let v = after_all_served later (y ∷ ys) t in
    let r = s.regs in
    let registers = sound.formed.registers in
    let aligned : sp_of r / 4 * 4 ≡ sp_of r = aligned_by (is_thread r && r.spsel) r.msp r.psp registers.main registers.process in
    let mode : is_thread r ≡ (s.nvic.active == 0) = sound.agrees.mode ∙ ap (λ w. active_before w s.nvic == 0) at.between in
    let entry = an_entry_takes_its_beats n vector s cycle x xs at room in
    let begun : HandlerBegins n vector cycle (x ∷ xs) s u = entry.over full in
    let kept : AreThere (wants_through (entry_beats n s) (x ∷ xs)) (y ∷ ys) = subst (λ ws. AreThere ws (y ∷ ys)) (entry.wants [] full) there in
    let fresh = fresh_of n s at.taken in
    let link : u.regs.lr ≡ link_of r = ap (λ (z : Regs). z.lr) begun.registers in
    let number : t.regs.ipsr ≡ n = ends.number ∙ ap (λ (z : Regs). z.ipsr) begun.registers in
    let active : t.nvic.active ≡ bit_or s.nvic.active (2 ^ n) =
    ends.active ∙ ap (λ (e : Exceptions). e.active) begun.exceptions ∙ active_cycles cycle (lines_of (x ∷ xs)) (entered n s.nvic) ∙ entered_active n s.nvic fresh.within in
    let out : minus t.nvic.active (2 ^ n) ≡ s.nvic.active =
    ap (λ (a : ℕ). minus a (2 ^ n)) active ∙ taken_out s.nvic.active n sound.formed.active fresh.within fresh.clear in
    let fd = found n vector r (frame_aligned (sp_of r) aligned) in
    let at_frame : return_frame u.regs.lr t.regs ≡ entry_frame r = ends.stack ∙ ap₂ (λ (l : ℕ) (z : Regs). return_frame l z) link begun.registers ∙ fd.frame in
    let frame : return_frame (link_of r) t.regs ≡ entry_frame r = sym (ap (λ (l : ℕ). return_frame l t.regs) link) ∙ at_frame in
    let st = status r registers.number in
    let before : Before r = record { thirteen = registers.thirteen; even = registers.even; selection = sound.agrees.selection; state = st } in
    let good : is_bad u.regs.lr t ≡ false = ap (λ (l : ℕ). is_bad l t) link ∙ is_good s t (alone_again n s t mode fresh.within number out) in
    let begins : BeginsReturn u.regs.lr t = record { awake = ends.awake; returns = ends.returns; first = ends.first; fresh = ends.fresh; good = good } in
    let words : HasFrame u.regs.lr (stacked r) (y ∷ ys) t = record {
      eight = refl;
      frame = λ k within. ap (λ (f : ℕ). is_ram ((f + 4 * k) % 2 ^ 32)) at_frame ∙ room.frame k within;
      stays = λ k within. subst (λ (f : ℕ). Stays ((f + 4 * k) % 2 ^ 32) (slice_index (stacked r) k) (y ∷ ys)) (sym at_frame) (stacked_there n s (x ∷ xs) (y ∷ ys) full kept k within);
      fits = ap (λ (l : ℕ). is_misfit l (stacked_xpsr r)) link ∙ number_fits r st;
    } in
    let over : IsBack u.regs.lr (stacked r) later (y ∷ ys) t v = (a_return_takes_its_beats u.regs.lr (stacked r) t later y ys begins words).over done in
    let path : v.regs ≡ back r t.regs =
    over.registers ∙ ap (λ (l : ℕ). with_return l (stacked r) t.regs) link ∙ returned_as r t.regs word aligned st frame in
    record {
      at_boundary = over.at_boundary;
      given_back = subst (λ z. IsGivenBack r z) (sym path) (given_back r t.regs before ends.thirteen);
      others = λ k low high. ap (λ (z : Regs). slice_index z.r k) path ∙ (five_at (stacked r) t.regs.r ends.thirteen).others k low high;
      mask = ap (λ (z : Regs). z.primask) path;
      whole = λ keeps. path ∙ whole_back n vector r t.regs before fd ends.thirteen (subst (λ z. KeepsTheRest z t.regs) begun.registers keeps);
      active = ap (λ (e : Exceptions). e.active) over.exceptions
          ∙ ap (λ (i : ℕ). (after_leaving i later (lines_of (y ∷ ys)) t.nvic).active) number
          ∙ leaving_active n later _ (lines_of ys) t.nvic fresh.within
          ∙ out;
      again = λ i low same high.
          let wide : t.nvic.active < 2 ^ 64 = omega (arith, active, or_lt 64 s.nvic.active (2 ^ n) (omega (arith, sound.formed.active)) (pow_fits n (omega (arith, fresh.within)))) in
          ap (λ (e : Exceptions). is_member (16 + i) e.pending) (over.exceptions ∙ ap (λ (k : ℕ). after_leaving k later (lines_of (y ∷ ys)) t.nvic) (ends.number ∙ same))
          ∙ leaving_pends i later y ys t.nvic low wide high;
      exceptions = over.exceptions ∙ ap (λ (i : ℕ). after_leaving i later (lines_of (y ∷ ys)) t.nvic) ends.number;
    }
