-- A core runs alike over the words of SRAM and over their bytes.
use Rattle.std.proofs.Common.{◌≡◌, ℕ, zero, suc, ◌+◌, ◌*◌, ◌/◌, ◌%◌, ◌^◌, ◌<◌, ◌≤◌, Bool, true, false, cond, ◌&&◌, ◌==◌, inl, inr, List, [], ◌∷◌, ◌++◌, length, take, drop, slice_index, slice_set, refl, sym, ap, ap₂, subst, ◌∙◌, arith, Option, Some, None, leb, leb-true, append_assoc, get_or-drop, length-set}
use lib.Seq.{take-append-le, drop-append-le, take-append-add, drop-append-add, get_or-set_same, get_or-set_other}
use Rattle.std.proofs.lemmas.Bool.Decides.{eqb_tells}
use Rattle.rp_base.specs.declared.Request.{Request}
use Rattle.rp_base.specs.declared.Size.{Size}
use Rattle.rp_base.specs.declared.Size.TheVariants as sizes
use Rattle.rp_base.specs.declared.map.Spot.{Spot}
use Rattle.rp_base.specs.declared.map.Spot.TheVariants as spot
use Rattle.rp_base.specs.Access.{lanes_at, replicated}
use Rattle.rp_base.specs.Map.{place_of}
use Rattle.rp_base.specs.Word.{byte_of, joined}
use Rattle.ram_banks.specs.Lanes.{with_lanes, lane_byte}
use Rattle.ram_banks.proofs.Lanes.{byte_of-with_lanes, with_lanes_small}
use Rattle.lane_look.specs.declared.lane.Ask.{Ask}
use Rattle.lane_look.specs.declared.lane.Ask.TheVariants as ask
use Rattle.lane_look.specs.declared.lane.Want.{Want}
use Rattle.lane_look.specs.declared.lane.Want.TheVariants as want
use Rattle.lane_look.specs.Asking.{Asking, answered}
use Rattle.lane_look.specs.Asking.Asking.{Ready, Question}
use Rattle.lane_look.specs.Replay.{Entry, asked, after_begun}
use Rattle.lane_look.specs.Alone.{Alone, alone, alone_cycle, begun_alone, all_stored, ends_at, ends_wants}
use Rattle.m0_core.specs.State.{State}
use Rattle.m0_core.specs.declared.doing.Doing.{Doing}
use Rattle.m0_core.specs.Fetch.{asks}
use Rattle.m0_core.specs.Cycle.{wanted, want_of}
use Rattle.core_runs.specs.Bytes.{put, word_from, word_at, half_of, answer, bytes_of, begins_at, stored_at, stored, around}
use Rattle.core_runs.specs.Runs.{core_lane, run, ends_in, IsReady}
use Rattle.core_runs.specs.Words.{AreWords, four_bytes, bytes_in, word_of, word_answer, stored_word_at, stored_word, around_words, ARunOverWordsIsThatOverTheirBytes, StepsHoldOverWords, TheBytesOfWordsAreSram}

-- ---- what is read

of_four : (w : ℕ) → w < 2 ^ 32 → joined (byte_of w 3) (byte_of w 2) (byte_of w 1) (byte_of w 0) ≡ w
of_four w small = omega (arith, small)

-- a byte behind the first word
behind : (w : ℕ) (ws : List ℕ) (j : ℕ) → slice_index (bytes_in (w ∷ ws)) (4 + j) ≡ slice_index (bytes_in ws) j
behind w ws j = sym (get_or-drop 4 (bytes_in (w ∷ ws)) j 0)

behind_at : (w : ℕ) (ws : List ℕ) (i k : ℕ) → slice_index (bytes_in (w ∷ ws)) (4 * suc i + k) ≡ slice_index (bytes_in ws) (4 * i + k)
behind_at w ws i k = let at : 4 * suc i + k ≡ 4 + (4 * i + k) = omega arith in ap (slice_index (bytes_in (w ∷ ws))) at ∙ behind w ws (4 * i + k)

behind_first : (w : ℕ) (ws : List ℕ) (i : ℕ) → slice_index (bytes_in (w ∷ ws)) (4 * suc i) ≡ slice_index (bytes_in ws) (4 * i)
behind_first w ws i = let at : 4 * suc i ≡ 4 + 4 * i = omega arith in ap (slice_index (bytes_in (w ∷ ws))) at ∙ behind w ws (4 * i)

word_from_is : (ws : List ℕ) (i : ℕ) → ((k : ℕ) → slice_index ws k < 2 ^ 32) → word_from (bytes_in ws) (4 * i) ≡ slice_index ws i
word_from_is [] i small = refl
word_from_is (w ∷ ws) zero small = of_four w (small 0)
word_from_is (w ∷ ws) (suc i) small =
    ap₂ (λ a b. joined a b (slice_index (bytes_in (w ∷ ws)) (4 * suc i + 1)) (slice_index (bytes_in (w ∷ ws)) (4 * suc i))) (behind_at w ws i 3) (behind_at w ws i 2)
    ∙ ap₂ (λ c d. joined (slice_index (bytes_in ws) (4 * i + 3)) (slice_index (bytes_in ws) (4 * i + 2)) c d) (behind_at w ws i 1) (behind_first w ws i)
    ∙ word_from_is ws i (λ k. small (suc k))

word_same : (ws : List ℕ) (p : Spot) → AreWords ws → word_of ws p ≡ word_at (bytes_in ws) p
word_same ws (spot.Ram index bank) are = sym (word_from_is ws index are.words)
word_same ws _ are = refl

answers_same : (ws : List ℕ) → AreWords ws → (a : Ask) → word_answer ws a ≡ answer (bytes_in ws) a
answers_same ws are (ask.Half address) = ap (λ w. half_of w address) (word_same ws (place_of address) are)
answers_same ws are (ask.Word address) = word_same ws (place_of address) are
answers_same ws are _ = refl

answered_same : {B : Type 0} (f g : Ask → ℕ) → ((a : Ask) → f a ≡ g a) → (tree : Asking B) → answered f tree ≡ answered g tree
answered_same f g same (Ready begun) = refl
answered_same f g same (Question a next) = answered_same f g same (next (f a)) ∙ ap (λ x. answered g (next x)) (same a)

asked_same : {B : Type 0} (f g : Ask → ℕ) → ((a : Ask) → f a ≡ g a) → (tree : Asking B) → asked f tree ≡ asked g tree
asked_same f g same (Ready begun) = refl
asked_same f g same (Question a next) =
    ap (λ es. (a, f a) ∷ es) (asked_same f g same (next (f a))) ∙ ap (λ x. (a, x) ∷ asked g (next x)) (same a)

-- ---- what is written

-- the bytes that are put into the first list of two
put_front : (xs ys : List ℕ) (at : ℕ) (bytes : List ℕ) → at + length bytes ≤ length xs → put (xs ++ ys) at bytes ≡ put xs at bytes ++ ys
put_front xs ys at bytes fits =
    ap₂ (λ x y. x ++ (bytes ++ y)) (take-append-le at xs ys (omega (arith, fits))) (drop-append-le (at + length bytes) xs ys fits)
    ∙ ap (λ z. take at xs ++ z) (sym (append_assoc bytes (drop (at + length bytes) xs) ys))
    ∙ sym (append_assoc (take at xs) (bytes ++ drop (at + length bytes) xs) ys)

-- and into the second
put_back : (xs ys : List ℕ) (at : ℕ) (bytes : List ℕ) → put (xs ++ ys) (length xs + at) bytes ≡ xs ++ put ys at bytes
put_back xs ys at bytes =
    let count : length xs + at + length bytes ≡ length xs + (at + length bytes) = omega arith in
    ap₂ (λ x y. x ++ (bytes ++ y)) (take-append-add xs ys at) (ap (λ n. drop n (xs ++ ys)) count ∙ drop-append-add xs ys (at + length bytes))
    ∙ append_assoc xs (take at ys) (bytes ++ drop (at + length bytes) ys)

put_word : (ws : List ℕ) (i w at : ℕ) (bytes : List ℕ) → i < length ws → at + length bytes ≤ 4 → four_bytes w ≡ put (four_bytes (slice_index ws i)) at bytes
    → bytes_in (slice_set ws i w) ≡ put (bytes_in ws) (4 * i + at) bytes
put_word [] i w at bytes lt fits e = absurd (omega (arith, lt))
put_word (x ∷ ws) zero w at bytes lt fits e =
    let none : 4 * 0 + at ≡ at = omega arith in
    ap (λ y. y ++ bytes_in ws) e
    ∙ sym (put_front (four_bytes x) (bytes_in ws) at bytes fits)
    ∙ ap (λ k. put (bytes_in (x ∷ ws)) k bytes) (sym none)
put_word (x ∷ ws) (suc i) w at bytes lt fits e =
    let more : 4 + (4 * i + at) ≡ 4 * suc i + at = omega arith in
    ap (λ y. four_bytes x ++ y) (put_word ws i w at bytes (omega (arith, lt)) fits e)
    ∙ sym (put_back (four_bytes x) (bytes_in ws) (4 * i + at) bytes)
    ∙ ap (λ k. put (bytes_in (x ∷ ws)) k bytes) more

-- the four bytes of a word after a write of some lanes
after_lanes : (lanes value word : ℕ) → four_bytes (with_lanes lanes value word) ≡ lane_byte lanes value word 0 ∷ lane_byte lanes value word 1 ∷ lane_byte lanes value word 2 ∷ lane_byte lanes value word 3 ∷ []
after_lanes lanes value word =
    ap₂ (λ a b. a ∷ b ∷ byte_of (with_lanes lanes value word) 2 ∷ byte_of (with_lanes lanes value word) 3 ∷ []) (byte_of-with_lanes lanes value word 0 (omega arith)) (byte_of-with_lanes lanes value word 1 (omega arith))
    ∙ ap₂ (λ c d. lane_byte lanes value word 0 ∷ lane_byte lanes value word 1 ∷ c ∷ d ∷ []) (byte_of-with_lanes lanes value word 2 (omega arith)) (byte_of-with_lanes lanes value word 3 (omega arith))

byte_0 : (v : ℕ) → byte_of (v % 2 ^ 8 * 0x01010101) 0 ≡ byte_of v 0
byte_0 v = omega arith

byte_1 : (v : ℕ) → byte_of (v % 2 ^ 8 * 0x01010101) 1 ≡ byte_of v 0
byte_1 v = omega arith

byte_2 : (v : ℕ) → byte_of (v % 2 ^ 8 * 0x01010101) 2 ≡ byte_of v 0
byte_2 v = omega arith

byte_3 : (v : ℕ) → byte_of (v % 2 ^ 8 * 0x01010101) 3 ≡ byte_of v 0
byte_3 v = omega arith

four_by_byte : (k word v : ℕ) → k < 4 → four_bytes (with_lanes (2 ^ k) (v % 2 ^ 8 * 0x01010101) word) ≡ put (four_bytes word) k (byte_of v 0 ∷ [])
four_by_byte zero word v lt = after_lanes 1 (v % 2 ^ 8 * 0x01010101) word ∙ ap (λ b. b ∷ byte_of word 1 ∷ byte_of word 2 ∷ byte_of word 3 ∷ []) (byte_0 v)
four_by_byte (suc zero) word v lt = after_lanes 2 (v % 2 ^ 8 * 0x01010101) word ∙ ap (λ b. byte_of word 0 ∷ b ∷ byte_of word 2 ∷ byte_of word 3 ∷ []) (byte_1 v)
four_by_byte (suc (suc zero)) word v lt = after_lanes 4 (v % 2 ^ 8 * 0x01010101) word ∙ ap (λ b. byte_of word 0 ∷ byte_of word 1 ∷ b ∷ byte_of word 3 ∷ []) (byte_2 v)
four_by_byte (suc (suc (suc zero))) word v lt = after_lanes 8 (v % 2 ^ 8 * 0x01010101) word ∙ ap (λ b. byte_of word 0 ∷ byte_of word 1 ∷ byte_of word 2 ∷ b ∷ []) (byte_3 v)
four_by_byte (suc (suc (suc (suc k)))) word v lt = absurd (omega (arith, lt))

half_0 : (v : ℕ) → byte_of (v % 2 ^ 16 * 0x00010001) 0 ≡ byte_of v 0
half_0 v = omega arith

half_1 : (v : ℕ) → byte_of (v % 2 ^ 16 * 0x00010001) 1 ≡ byte_of v 1
half_1 v = omega arith

half_2 : (v : ℕ) → byte_of (v % 2 ^ 16 * 0x00010001) 2 ≡ byte_of v 0
half_2 v = omega arith

half_3 : (v : ℕ) → byte_of (v % 2 ^ 16 * 0x00010001) 3 ≡ byte_of v 1
half_3 v = omega arith

four_by_half : (k word v : ℕ) → k < 2 → four_bytes (with_lanes (cond (k == 0) 3 12) (v % 2 ^ 16 * 0x00010001) word) ≡ put (four_bytes word) (2 * k) (byte_of v 0 ∷ byte_of v 1 ∷ [])
four_by_half zero word v lt = after_lanes 3 (v % 2 ^ 16 * 0x00010001) word ∙ ap₂ (λ a b. a ∷ b ∷ byte_of word 2 ∷ byte_of word 3 ∷ []) (half_0 v) (half_1 v)
four_by_half (suc zero) word v lt = after_lanes 12 (v % 2 ^ 16 * 0x00010001) word ∙ ap₂ (λ a b. byte_of word 0 ∷ byte_of word 1 ∷ a ∷ b ∷ []) (half_2 v) (half_3 v)
four_by_half (suc (suc k)) word v lt = absurd (omega (arith, lt))

four_by : (size : Size) (address word v : ℕ) → four_bytes (with_lanes (lanes_at size address) (replicated size v) word) ≡ put (four_bytes word) (begins_at size address) (bytes_of size v)
four_by sizes.Byte address word v = four_by_byte (address % 4) word v (omega arith)
four_by sizes.Half address word v = four_by_half (address / 2 % 2) word v (omega arith)
four_by sizes.Word address word v = after_lanes 15 v word

fits_in : (size : Size) (address v : ℕ) → begins_at size address + length (bytes_of size v) ≤ 4
fits_in sizes.Byte address v = omega arith
fits_in _ address v = omega arith

-- ---- SRAM has 67,584 words

abbrev RamWithin : Spot → Type 0
RamWithin (spot.Ram index bank) = index < 67584
RamWithin _ = Unit {0}

within_by : (first last a : ℕ) (p q : Spot) → (first ≤ a → a ≤ last → RamWithin p) → RamWithin q → RamWithin (cond (leb first a && leb a last) p q)
within_by first last a p q here there = go (leb first a) (leb a last) refl refl
  where
    go : (b c : Bool) → leb first a ≡ b → leb a last ≡ c → RamWithin (cond (b && c) p q)
    go true true e f = here (leb-true first a e) (leb-true a last f)
    go true false e f = there
    go false c e f = there

ram_within : (a : ℕ) → RamWithin (place_of a)
unfolding place_of
ram_within a =
    within_by 0x20000000 0x2003FFFF a _ _ (λ h k. omega (arith, h, k))
    (within_by 0x20040000 0x20040FFF a _ _ (λ h k. omega (arith, h, k))
    (within_by 0x20041000 0x20041FFF a _ _ (λ h k. omega (arith, h, k))
    (within_by 0x21000000 0x2103FFFF a _ _ (λ h k. omega (arith, h, k))
    (within_by 0x4000C000 0x4000FFFF a _ _ (λ h k. tt)
    (within_by 0x40014000 0x40017FFF a _ _ (λ h k. tt)
    (within_by 0x4001C000 0x4001FFFF a _ _ (λ h k. tt)
    (within_by 0x40030000 0x40033FFF a _ _ (λ h k. tt)
    (within_by 0x40034000 0x40037FFF a _ _ (λ h k. tt)
    (within_by 0x40038000 0x4003BFFF a _ _ (λ h k. tt)
    (within_by 0x40054000 0x40057FFF a _ _ (λ h k. tt)
    (within_by 0x50000000 0x50003FFF a _ _ (λ h k. tt)
    (within_by 0x50200000 0x50203FFF a _ _ (λ h k. tt)
    (within_by 0x50300000 0x50303FFF a _ _ (λ h k. tt)
    (within_by 0xD0000000 0xD000017F a _ _ (λ h k. tt)
    (within_by 0xE000E000 0xE000EFFF a _ _ (λ h k. tt) tt)))))))))))))))

-- ---- an access

set_words : (ws : List ℕ) (i w : ℕ) → AreWords ws → w < 2 ^ 32 → i < length ws → AreWords (slice_set ws i w)
set_words ws i w are small lt = record {
  size = length-set ws i w ∙ are.size;
  words = λ k. elim (eqb_tells k i) [
    | inl e ↦ subst (λ x. x < 2 ^ 32) (sym (ap (λ j. slice_index (slice_set ws i w) j) e.1 ∙ get_or-set_same ws i w 0 lt)) small
    | inr e ↦ subst (λ x. x < 2 ^ 32) (sym (get_or-set_other ws i k w 0 e.1)) (are.words k)
  ];
}

-- what an access leaves of both
pub record StaysSame (ws : List ℕ) (m : List ℕ) : Type 0 where
  pub words : AreWords ws
  pub bytes : bytes_in ws ≡ m

stored_at_same : (request : Request) (w : Option ℕ) (p : Spot) (ws : List ℕ) → RamWithin p → AreWords ws → StaysSame (stored_word_at request w p ws) (stored_at request w p (bytes_in ws))
stored_at_same request (Some v) (spot.Ram index bank) ws within are =
    let lt : index < length ws = omega (arith, within, are.size) in
    let new = with_lanes (lanes_at request.size request.address) (replicated request.size v) (slice_index ws index) in
    record {
      words = set_words ws index new are (with_lanes_small (lanes_at request.size request.address) (replicated request.size v) (slice_index ws index)) lt;
      bytes = put_word ws index new (begins_at request.size request.address) (bytes_of request.size v) lt (fits_in request.size request.address v) (four_by request.size request.address (slice_index ws index) v);
    }
stored_at_same request None (spot.Ram index bank) ws within are = record { words = are; bytes = refl }
stored_at_same request (Some v) (spot.Ppb offset) ws within are = record { words = are; bytes = refl }
stored_at_same request None (spot.Ppb offset) ws within are = record { words = are; bytes = refl }
stored_at_same request (Some v) (spot.Sio offset) ws within are = record { words = are; bytes = refl }
stored_at_same request None (spot.Sio offset) ws within are = record { words = are; bytes = refl }
stored_at_same request (Some v) (spot.Reg block offset alias) ws within are = record { words = are; bytes = refl }
stored_at_same request None (spot.Reg block offset alias) ws within are = record { words = are; bytes = refl }
stored_at_same request (Some v) spot.Outside ws within are = record { words = are; bytes = refl }
stored_at_same request None spot.Outside ws within are = record { words = are; bytes = refl }

stored_same : (w : Want) (ws : List ℕ) → AreWords ws → StaysSame (stored_word ws w) (stored (bytes_in ws) w)
stored_same (want.Ram request) ws are = stored_at_same request request.write (place_of request.address) ws (ram_within request.address) are
stored_same _ ws are = record { words = are; bytes = refl }

-- ---- the runs

-- after as many cycles
record Alike (r q : Alone State (List ℕ)) : Type 0 where
  core : r.state ≡ q.state
  words : AreWords r.around
  memory : bytes_in r.around ≡ q.around
  talk : r.talk ≡ q.talk

begun_same : (cycle : ℕ) (r q : Alone State (List ℕ)) → Alike r q → begun_alone core_lane around_words tt cycle r.state r.around ≡ begun_alone core_lane around tt cycle q.state q.around
begun_same cycle r q alike =
    answered_same (word_answer r.around) (answer (bytes_in r.around)) (answers_same r.around alike.words) (asks r.state cycle)
    ∙ ap₂ (λ m s. answered (answer m) (asks s cycle)) alike.memory alike.core

stored_begun : (begun : Doing) (r q : Alone State (List ℕ)) → Alike r q → StaysSame (all_stored around_words r.around (wanted begun)) (all_stored around q.around (wanted begun))
stored_begun begun r q alike =
    let same = stored_same (want_of begun) r.around alike.words in
    record { words = same.words; bytes = same.bytes ∙ ap (λ m. stored m (want_of begun)) alike.memory }

cycle_same : (cycle : ℕ) (r q : Alone State (List ℕ)) → Alike r q → Alike (alone_cycle core_lane around_words tt cycle r) (alone_cycle core_lane around tt cycle q)
cycle_same cycle r q alike =
    let b = begun_alone core_lane around_words tt cycle r.state r.around in
    let begun = begun_same cycle r q alike in
    let left = stored_begun b r q alike in
    record {
      core = ap₂ (λ s x. after_begun core_lane tt s x) alike.core begun;
      words = left.words;
      memory = left.bytes ∙ ap (λ x. all_stored around q.around (wanted x)) begun;
      talk = ap₂ (λ (es fs : List Entry). es ++ fs) alike.talk
          (asked_same (word_answer r.around) (answer (bytes_in r.around)) (answers_same r.around alike.words) (asks r.state cycle)
          ∙ ap₂ (λ m s. asked (answer m) (asks s cycle)) alike.memory alike.core);
    }

runs_same : (cycle n : ℕ) (s : State) (ws : List ℕ) → AreWords ws → Alike (alone core_lane around_words tt s cycle ws n) (run cycle n s (bytes_in ws))
unfolding alone
runs_same cycle zero s ws are = record { core = refl; words = are; memory = refl; talk = refl }
runs_same cycle (suc n) s ws are = cycle_same (cycle + n) _ _ (runs_same cycle n s ws are)

ends_same : (cycle n : ℕ) (s : State) (ws : List ℕ) → AreWords ws → ends_at core_lane around_words tt s cycle ws n ≡ ends_in cycle n s (bytes_in ws)
unfolding ends_at
ends_same cycle n s ws are = ap (λ b. ends_wants (wanted b)) (begun_same (cycle + n) _ _ (runs_same cycle n s ws are))

pub a_run_over_words_is_that_over_their_bytes : ARunOverWordsIsThatOverTheirBytes
a_run_over_words_is_that_over_their_bytes cycle n s ws are =
    let alike = runs_same cycle n s ws are in
    record { core = alike.core; memory = alike.memory; talk = alike.talk; ends = ends_same cycle n s ws are }

-- ---- what holds over bytes

pub steps_hold_over_words : StepsHoldOverWords
steps_hold_over_words n regs regs' ws m are steps cycle s ready e =
    let leads = steps cycle s ready e in
    let alike = runs_same cycle n s ws are in
    record {
      goes_on = λ k h. ends_same cycle k s ws are ∙ leads.goes_on k h;
      ready = subst IsReady (sym alike.core) leads.ready;
      registers = ap (λ (t : State). t.regs) alike.core ∙ leads.registers;
      memory = alike.memory ∙ leads.memory;
    }

four_times : (ws : List ℕ) → length (bytes_in ws) ≡ 4 * length ws
four_times [] = refl
four_times (w ∷ ws) = let rest = four_times ws in omega (arith, rest)

each_byte : (ws : List ℕ) (k : ℕ) → slice_index (bytes_in ws) k < 2 ^ 8
each_byte [] k = omega arith
each_byte (w ∷ ws) zero = omega arith
each_byte (w ∷ ws) (suc zero) = omega arith
each_byte (w ∷ ws) (suc (suc zero)) = omega arith
each_byte (w ∷ ws) (suc (suc (suc zero))) = omega arith
each_byte (w ∷ ws) (suc (suc (suc (suc k)))) = each_byte ws k

pub the_bytes_of_words_are_sram : TheBytesOfWordsAreSram
the_bytes_of_words_are_sram ws are = record { size = omega (arith, four_times ws, are.size); bytes = each_byte ws }
