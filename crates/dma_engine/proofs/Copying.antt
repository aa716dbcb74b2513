-- The cycles of a copy, one after another.
use Rattle.std.proofs.Common.{◌≡◌, ℕ, zero, suc, ◌+◌, ◌-◌, ◌*◌, ◌/◌, ◌%◌, ◌^◌, ◌<◌, ◌≤◌, ◌==◌, true, false, cond, List, [], ◌∷◌, ◌++◌, Option, Some, None, refl, ap, ap₂, ◌∙◌, arith}
use Rattle.std.proofs.lemmas.Bool.{le-leb}
use Rattle.std.proofs.lemmas.Bool.Decides.{nat_tests}
use Rattle.std.proofs.lemmas.Nat.{pow_pos, mod-mul-add, div-mul-add}
use Rattle.std.proofs.Math.Nat.{mod-lt}
use Rattle.rp_base.specs.declared.Size.TheVariants as sizes
use Rattle.rp_base.specs.declared.map.Spot.TheVariants as spot
use Rattle.rp_base.specs.Map.{place_of}
use Rattle.lane_look.specs.declared.lane.Turn.{Turn}
use Rattle.lane_look.specs.declared.lane.Turn.TheVariants.{Done}
use Rattle.lane_look.specs.Asking.{answered}
use Rattle.dma_engine.specs.declared.waiting.WaitingWrite.{WaitingWrite}
use Rattle.dma_engine.specs.declared.begun.Access.{Access}
use Rattle.dma_engine.specs.declared.begun.Access.TheVariants as access
use Rattle.dma_engine.specs.declared.begun.BegunTransfer.{BegunTransfer}
use Rattle.dma_engine.specs.Asks.{begun_with, idle_begun, asks, asks_at, asks_read, next_request, write_at, write_begun}
use Rattle.dma_engine.specs.Channel.{with_trigger, with_abort, with_end, in_turn}
use Rattle.dma_engine.specs.Choice.{is_ready, first_in_turn, choice_of}
use Rattle.dma_engine.specs.Cycle.{want_of, after_ends, with_read, after_transfers, next}
use Rattle.dma_engine.specs.Timer.{after_timers}
use Rattle.dma_engine.specs.Transfer.{advanced, moved, data_of, read_of, write_after, request_of}
use Rattle.dma_engine.specs.State.{State}
use Rattle.dma_engine.specs.TransferLaws.{copier, with_channel_0, memory_answer, granted, begun_by, engine_after, written_by, writes, copies, AreInSram, ACopyIsExact, ARingKeepsItsHighBits, AnAbortRaisesNothing}

-- ---- what is begun

abbrev pending : ℕ → ℕ → WaitingWrite
pending address value = record { channel = 0; address = address; size = sizes.Word; value = value }

abbrev reading : ℕ → ℕ → Access
reading address word = access.Read (record { address = address; size = sizes.Word; write = None }) word

abbrev writing : ℕ → ℕ → Access
writing address value = access.Write (record { address = address; size = sizes.Word; write = Some value })

abbrev busy : ℕ → ℕ → ℕ → ℕ → Option ℕ → List WaitingWrite → State
busy m r w k chosen waiting = with_channel_0 (copier m r w k true) chosen waiting 0

abbrev both_done : List Turn
both_done = Done 0 ∷ Done 0 ∷ []

begun_read : (memory : ℕ → ℕ) (m r w k i b : ℕ) → place_of (r / 4 * 4) ≡ spot.Ram i b →
    begun_by memory (busy m r w k (Some 0) []) ≡ begun_with 0 (reading (r / 4 * 4) (memory (r / 4 * 4) % 2 ^ 32)) access.Nothing
unfolding asks asks_read next_request write_begun read_of
begun_read memory m r w k i b h =
    ap (λ p. answered (memory_answer memory) (asks_at 0 access.Nothing (record { address = r / 4 * 4; size = sizes.Word; write = None }) p)) h

begun_both : (memory : ℕ → ℕ) (m r w k i b j c x v : ℕ) → place_of (r / 4 * 4) ≡ spot.Ram i b → place_of x ≡ spot.Ram j c →
    begun_by memory (busy m r w k (Some 0) (pending x v ∷ [])) ≡ begun_with 0 (reading (r / 4 * 4) (memory (r / 4 * 4) % 2 ^ 32)) (writing x v)
unfolding asks asks_read next_request write_begun read_of request_of
begun_both memory m r w k i b j c x v h g =
    ap₂ (λ p q. answered (memory_answer memory) (asks_at 0 (write_at (record { address = x; size = sizes.Word; write = Some v }) q) (record { address = r / 4 * 4; size = sizes.Word; write = None }) p)) h g

-- ---- the cycles

read_more : (m r w k x d : ℕ) → (k == 0) ≡ false
    → next (busy m r w k (Some 0) []) (begun_with 0 (reading x d) access.Nothing) both_done
    ≡ busy m ((r + 4) % 2 ^ 32) ((w + 4) % 2 ^ 32) (k - 1) (Some 0) (pending (w / 4 * 4) d ∷ [])
unfolding choice_of first_in_turn is_ready in_turn after_ends after_transfers next after_timers with_read moved data_of
    write_after with_end with_trigger
read_more m r w k x d h = rw h refl

both_more : (m r w k x d y v : ℕ) → (k == 0) ≡ false
    → next (busy m r w k (Some 0) (pending y v ∷ [])) (begun_with 0 (reading x d) (writing y v)) both_done
    ≡ busy m ((r + 4) % 2 ^ 32) ((w + 4) % 2 ^ 32) (k - 1) (Some 0) (pending (w / 4 * 4) d ∷ [])
unfolding choice_of first_in_turn is_ready in_turn after_ends after_transfers next after_timers with_read moved data_of
    write_after with_end with_trigger
both_more m r w k x d y v h = rw h refl

-- ---- cycles in turn

record Steps (memory : ℕ → ℕ) (s t : State) (done : List (ℕ × ℕ)) : Type 0 where
  next_is : granted memory s ≡ t
  written : written_by (want_of (begun_by memory s).write) ≡ done

steps : (memory : ℕ → ℕ) (s t : State) (b : BegunTransfer) → begun_by memory s ≡ b → next s b both_done ≡ t
    → Steps memory s t (written_by (want_of b.write))
steps memory s t b is goes = record {
  next_is = ap (λ x. next s x both_done) is ∙ goes;
  written = ap (λ (x : BegunTransfer). written_by (want_of x.write)) is;
}

then_writes : (memory : ℕ → ℕ) (n : ℕ) (s t : State) (done : List (ℕ × ℕ)) → Steps memory s t done → writes memory (suc n) s ≡ done ++ writes memory n t
then_writes memory n s t done h = ap₂ (λ a b. a ++ b) h.written (ap (writes memory n) h.next_is)

then_after : (memory : ℕ → ℕ) (n : ℕ) (s t : State) (done : List (ℕ × ℕ)) → Steps memory s t done → engine_after memory (suc n) s ≡ engine_after memory n t
then_after memory n s t done h = ap (engine_after memory n) h.next_is

after-add : (memory : ℕ → ℕ) (a b : ℕ) (s : State) → engine_after memory (a + b) s ≡ engine_after memory b (engine_after memory a s)
after-add memory zero b s = let e : 0 + b ≡ b = omega arith in ap (λ i. engine_after memory i s) e
after-add memory (suc a) b s =
    let e : suc a + b ≡ suc (a + b) = omega arith in ap (λ i. engine_after memory i s) e ∙ after-add memory a b (granted memory s)

-- ---- addresses in SRAM

record IsIn (a : ℕ) : Type 0 where
  aligned : a % 4 ≡ 0
  first : 0x20000000 ≤ a
  last : a < 0x20040000

place : (a : ℕ) → IsIn a → place_of a ≡ spot.Ram ((a - 0x20000000) / 4) ((a - 0x20000000) / 4 % 4)
unfolding place_of
place a h = rw (le-leb 0x20000000 a h.first, le-leb a 0x2003FFFF (omega (arith, h.last))) refl

is_in : (n a : ℕ) → AreInSram (suc n) a → IsIn a
is_in n a h = record { aligned = h.aligned; first = h.first; last = omega (arith, h.last) }

rest_in : (n a : ℕ) → AreInSram (suc n) a → AreInSram n (a + 4)
rest_in n a h = record { aligned = omega (arith, h.aligned); first = omega (arith, h.first); last = omega (arith, h.last) }

whole : (a : ℕ) → IsIn a → a / 4 * 4 ≡ a
whole a h = omega (arith, h.aligned)

on : (a : ℕ) → IsIn a → (a + 4) % 2 ^ 32 ≡ a + 4
on a h = omega (arith, h.last)

placed : (a : ℕ) → IsIn a → place_of (a / 4 * 4) ≡ spot.Ram ((a - 0x20000000) / 4) ((a - 0x20000000) / 4 % 4)
placed a h = ap place_of (whole a h) ∙ place a h

-- ---- the transfers

-- the word that is read
abbrev word : (ℕ → ℕ) → ℕ → ℕ
word memory a = memory a % 2 ^ 32

-- the state after a read, with its addresses as they are
state_is : (m r w k x d e : ℕ) (chosen : Option ℕ) → IsIn r → IsIn w → d ≡ e →
    busy m ((r + 4) % 2 ^ 32) ((w + 4) % 2 ^ 32) k chosen (pending (w / 4 * 4) d ∷ []) ≡ busy m (r + 4) (w + 4) k chosen (pending w e ∷ [])
state_is m r w k x d e chosen h g same =
    ap (λ a. busy m a ((w + 4) % 2 ^ 32) k chosen (pending (w / 4 * 4) d ∷ [])) (on r h)
    ∙ ap (λ a. busy m (r + 4) a k chosen (pending (w / 4 * 4) d ∷ [])) (on w g)
    ∙ ap₂ (λ a v. busy m (r + 4) (w + 4) k chosen (pending a v ∷ [])) (whole w g) same

word_at : (memory : ℕ → ℕ) (r : ℕ) → IsIn r → memory (r / 4 * 4) % 2 ^ 32 ≡ word memory r
word_at memory r h = ap (λ a. memory a % 2 ^ 32) (whole r h)

not_zero : (n : ℕ) → 1 ≤ n → (n == 0) ≡ false
not_zero n h = grind (arith, nat_tests)

one_less : (k : ℕ) → suc k - 1 ≡ k
one_less k = omega arith

-- a channel is chosen
chooses : (memory : ℕ → ℕ) (m r w k : ℕ) → Steps memory (busy m r w (suc k) None []) (busy m r w k (Some 0) []) []
unfolding asks asks_read next_request write_begun read_of request_of choice_of first_in_turn is_ready in_turn after_ends
    after_transfers next after_timers with_read moved data_of write_after with_end with_trigger
chooses memory m r w k = steps memory _ _ idle_begun refl (rw (not_zero (suc k) (omega arith), one_less k) refl)

-- the first word is read
reads_first : (memory : ℕ → ℕ) (m r w k : ℕ) → IsIn r → IsIn w →
    Steps memory (busy m r w (suc k) (Some 0) []) (busy m (r + 4) (w + 4) k (Some 0) (pending w (word memory r) ∷ [])) []
reads_first memory m r w k h g =
    let d = memory (r / 4 * 4) % 2 ^ 32 in
    steps memory _ _ (begun_with 0 (reading (r / 4 * 4) d) access.Nothing) (begun_read memory m r w (suc k) _ _ (placed r h))
    (read_more m r w (suc k) (r / 4 * 4) d (not_zero (suc k) (omega arith))
    ∙ ap (λ c. busy m ((r + 4) % 2 ^ 32) ((w + 4) % 2 ^ 32) c (Some 0) (pending (w / 4 * 4) d ∷ [])) (one_less k)
    ∙ state_is m r w k 0 d (word memory r) (Some 0) h g (word_at memory r h))

reads_only : (memory : ℕ → ℕ) (m r w : ℕ) → IsIn r → IsIn w →
    Steps memory (busy m r w 0 (Some 0) []) (busy m (r + 4) (w + 4) 0 None (pending w (word memory r) ∷ [])) []
unfolding asks asks_read next_request write_begun read_of request_of choice_of first_in_turn is_ready in_turn after_ends
    after_transfers next after_timers with_read moved data_of write_after with_end with_trigger
reads_only memory m r w h g =
    let d = memory (r / 4 * 4) % 2 ^ 32 in
    steps memory _ _ (begun_with 0 (reading (r / 4 * 4) d) access.Nothing) (begun_read memory m r w 0 _ _ (placed r h))
    (state_is m r w 0 0 d (word memory r) None h g (word_at memory r h))

-- a word is read, and the one before is written
does_both : (memory : ℕ → ℕ) (m r w k x v : ℕ) → IsIn r → IsIn w → IsIn x →
    Steps memory (busy m r w (suc k) (Some 0) (pending x v ∷ [])) (busy m (r + 4) (w + 4) k (Some 0) (pending w (word memory r) ∷ [])) ((x, v) ∷ [])
does_both memory m r w k x v h g f =
    let d = memory (r / 4 * 4) % 2 ^ 32 in
    steps memory _ _ (begun_with 0 (reading (r / 4 * 4) d) (writing x v)) (begun_both memory m r w (suc k) _ _ _ _ x v (placed r h) (place x f))
    (both_more m r w (suc k) (r / 4 * 4) d x v (not_zero (suc k) (omega arith))
    ∙ ap (λ c. busy m ((r + 4) % 2 ^ 32) ((w + 4) % 2 ^ 32) c (Some 0) (pending (w / 4 * 4) d ∷ [])) (one_less k)
    ∙ state_is m r w k 0 d (word memory r) (Some 0) h g (word_at memory r h))

does_last : (memory : ℕ → ℕ) (m r w x v : ℕ) → IsIn r → IsIn w → IsIn x →
    Steps memory (busy m r w 0 (Some 0) (pending x v ∷ [])) (busy m (r + 4) (w + 4) 0 None (pending w (word memory r) ∷ [])) ((x, v) ∷ [])
unfolding asks asks_read next_request write_begun read_of request_of choice_of first_in_turn is_ready in_turn after_ends
    after_transfers next after_timers with_read moved data_of write_after with_end with_trigger
does_last memory m r w x v h g f =
    let d = memory (r / 4 * 4) % 2 ^ 32 in
    steps memory _ _ (begun_with 0 (reading (r / 4 * 4) d) (writing x v)) (begun_both memory m r w 0 _ _ _ _ x v (placed r h) (place x f))
    (state_is m r w 0 0 d (word memory r) None h g (word_at memory r h))

writes_last : (memory : ℕ → ℕ) (m r w x v : ℕ) → IsIn x → Steps memory (busy m r w 0 None (pending x v ∷ [])) (busy m r w 0 None []) ((x, v) ∷ [])
unfolding asks asks_read next_request write_begun read_of request_of choice_of first_in_turn is_ready in_turn after_ends
    after_transfers next after_timers with_read moved data_of write_after with_end with_trigger
writes_last memory m r w x v f =
    steps memory _ _ (begun_with 0 access.Nothing (writing x v))
    (ap (λ q. begun_with 0 access.Nothing (write_at (record { address = x; size = sizes.Word; write = Some v }) q)) (place x f))
    refl

-- what is left where a write waits
record Copied (memory : ℕ → ℕ) (m n r w cycles : ℕ) (s : State) (done : List (ℕ × ℕ)) : Type 0 where
  all : writes memory cycles s ≡ done
  ends : engine_after memory cycles s ≡ busy m (r + 4 * n) (w + 4 * n) 0 None []

then_copied : (memory : ℕ → ℕ) (m n r w r' w' n' cycles : ℕ) (s t : State) (done more : List (ℕ × ℕ)) → Steps memory s t done →
    Copied memory m n r w cycles t more → r + 4 * n ≡ r' + 4 * n' → w + 4 * n ≡ w' + 4 * n' → Copied memory m n' r' w' (suc cycles) s (done ++ more)
then_copied memory m n r w r' w' n' cycles s t done more h c e f = record {
  all = then_writes memory cycles s t done h ∙ ap (λ l. done ++ l) c.all;
  ends = then_after memory cycles s t done h ∙ c.ends ∙ ap₂ (λ a b. busy m a b 0 None []) e f;
}

nothing_left : (memory : ℕ → ℕ) (m r w : ℕ) → Copied memory m 0 r w 0 (busy m r w 0 None []) []
nothing_left memory m r w = record {
  all = refl;
  ends = let e : (a : ℕ) → a ≡ a + 4 * 0 = λ a. omega arith in ap₂ (λ a b. busy m a b 0 None []) (e r) (e w);
}

last_left : (memory : ℕ → ℕ) (m r w x v : ℕ) → IsIn x → Copied memory m 0 r w 1 (busy m r w 0 None (pending x v ∷ [])) ((x, v) ∷ [])
last_left memory m r w x v f =
    then_copied memory m 0 r w r w 0 0 _ _ ((x, v) ∷ []) [] (writes_last memory m r w x v f) (nothing_left memory m r w) refl refl

more_by : (a n : ℕ) → (a + 4) + 4 * n ≡ a + 4 * suc n
more_by a n = omega arith

left : (memory : ℕ → ℕ) (m k r w x v : ℕ) → AreInSram (suc k) r → AreInSram (suc k) w → IsIn x →
    Copied memory m (suc k) r w (suc (suc k)) (busy m r w k (Some 0) (pending x v ∷ [])) ((x, v) ∷ copies memory (suc k) r w)
left memory m zero r w x v h g f =
    then_copied memory m 0 (r + 4) (w + 4) r w 1 1 _ _ ((x, v) ∷ []) ((w, word memory r) ∷ [])
    (does_last memory m r w x v (is_in 0 r h) (is_in 0 w g) f)
    (last_left memory m (r + 4) (w + 4) w (word memory r) (is_in 0 w g)) (more_by r 0) (more_by w 0)
left memory m (suc k) r w x v h g f =
    then_copied memory m (suc k) (r + 4) (w + 4) r w (suc (suc k)) (suc (suc k)) _ _ ((x, v) ∷ []) ((w, word memory r) ∷ copies memory (suc k) (r + 4) (w + 4))
    (does_both memory m r w k x v (is_in (suc k) r h) (is_in (suc k) w g) f)
    (left memory m k (r + 4) (w + 4) w (word memory r) (rest_in (suc k) r h) (rest_in (suc k) w g) (is_in (suc k) w g))
    (more_by r (suc k)) (more_by w (suc k))

from_start : (memory : ℕ → ℕ) (m n r w : ℕ) → 1 ≤ n → AreInSram n r → AreInSram n w →
    Copied memory m n r w (suc (suc n)) (busy m r w n None []) (copies memory n r w)
from_start memory m zero r w few h g = absurd (omega (arith, few))
from_start memory m (suc zero) r w few h g =
    then_copied memory m 1 r w r w 1 2 _ _ [] ((w, word memory r) ∷ []) (chooses memory m r w 0)
    (then_copied memory m 0 (r + 4) (w + 4) r w 1 1 _ _ [] ((w, word memory r) ∷ []) (reads_only memory m r w (is_in 0 r h) (is_in 0 w g))
    (last_left memory m (r + 4) (w + 4) w (word memory r) (is_in 0 w g)) (more_by r 0) (more_by w 0)) refl refl
from_start memory m (suc (suc k)) r w few h g =
    then_copied memory m (suc (suc k)) r w r w (suc (suc k)) (suc (suc (suc k))) _ _ [] (copies memory (suc (suc k)) r w) (chooses memory m r w (suc k))
    (then_copied memory m (suc k) (r + 4) (w + 4) r w (suc (suc k)) (suc (suc k)) _ _ [] ((w, word memory r) ∷ copies memory (suc k) (r + 4) (w + 4))
    (reads_first memory m r w k (is_in (suc k) r h) (is_in (suc k) w g))
    (left memory m k (r + 4) (w + 4) w (word memory r) (rest_in (suc k) r h) (rest_in (suc k) w g) (is_in (suc k) w g))
    (more_by r (suc k)) (more_by w (suc k))) refl refl

-- ---- the end

stays : (memory : ℕ → ℕ) (m r w raised : ℕ) → Steps memory (with_channel_0 (copier m r w 0 false) None [] raised) (with_channel_0 (copier m r w 0 false) None [] raised) []
unfolding asks asks_read next_request write_begun read_of request_of choice_of first_in_turn is_ready in_turn after_ends
    after_transfers next after_timers with_read moved data_of write_after with_end with_trigger
stays memory m r w raised = steps memory _ _ idle_begun refl refl

writes_none : (memory : ℕ → ℕ) (m r w raised n : ℕ) → writes memory n (with_channel_0 (copier m r w 0 false) None [] raised) ≡ []
writes_none memory m r w raised zero = refl
writes_none memory m r w raised (suc n) = then_writes memory n _ _ [] (stays memory m r w raised) ∙ writes_none memory m r w raised n

stays_so : (memory : ℕ → ℕ) (m r w raised n : ℕ) → engine_after memory n (with_channel_0 (copier m r w 0 false) None [] raised) ≡ with_channel_0 (copier m r w 0 false) None [] raised
stays_so memory m r w raised zero = refl
stays_so memory m r w raised (suc n) = then_after memory n _ _ [] (stays memory m r w raised) ∙ stays_so memory m r w raised n

ends_so : (memory : ℕ → ℕ) (m r w : ℕ) → engine_after memory 1 (busy m r w 0 None []) ≡ with_channel_0 (copier m r w 0 false) None [] 1
unfolding asks asks_read next_request write_begun read_of request_of choice_of first_in_turn is_ready in_turn after_ends
    after_transfers next after_timers with_read moved data_of write_after with_end with_trigger
ends_so memory m r w =
    then_after memory 0 _ _ []
    (steps memory (busy m r w 0 None []) (with_channel_0 (copier m r w 0 false) None [] 1) idle_begun refl refl)

two_more : (n : ℕ) → n + 2 ≡ suc (suc n)
two_more n = omega arith

three_more : (n : ℕ) → n + 3 ≡ suc (suc n) + 1
three_more n = omega arith

pub copied : ACopyIsExact
copied memory n m r w few h g =
    let all = from_start memory m n r w few h g in
    record {
      copied = ap (λ i. writes memory i (busy m r w n None [])) (two_more n) ∙ all.all;
      not_yet = ap (λ i. (engine_after memory i (busy m r w n None [])).raised) (two_more n) ∙ ap (λ (e : State). e.raised) all.ends;
      ended = ap (λ i. engine_after memory i (busy m r w n None [])) (three_more n) ∙ after-add memory (suc (suc n)) 1 (busy m r w n None [])
          ∙ ap (engine_after memory 1) all.ends ∙ ends_so memory m (r + 4 * n) (w + 4 * n);
      still = λ k. (writes_none memory m (r + 4 * n) (w + 4 * n) 1 k, stays_so memory m (r + 4 * n) (w + 4 * n) 1 k);
    }

-- ---- a ring

ring_is : (n bytes address : ℕ) → 1 ≤ n → advanced n bytes address ≡ address / 2 ^ n * 2 ^ n + (address % 2 ^ n + bytes) % 2 ^ n
ring_is n bytes address h =
    ap (λ b. cond b ((address + bytes) % 2 ^ 32) (address / 2 ^ n * 2 ^ n + (address % 2 ^ n + bytes) % 2 ^ n)) (not_zero n h)

pub ring_kept : ARingKeepsItsHighBits
ring_kept n bytes address h =
    let low : (address % 2 ^ n + bytes) % 2 ^ n < 2 ^ n = mod-lt (address % 2 ^ n + bytes) (pow_pos n) in
    record {
      high = ap (λ x. x / 2 ^ n) (ring_is n bytes address h) ∙ div-mul-add (address / 2 ^ n) (2 ^ n) ((address % 2 ^ n + bytes) % 2 ^ n) low;
      low = ap (λ x. x % 2 ^ n) (ring_is n bytes address h) ∙ mod-mul-add (address / 2 ^ n) (2 ^ n) ((address % 2 ^ n + bytes) % 2 ^ n) low;
    }

-- ---- an abort

abbrev aborted : ℕ → ℕ → ℕ → State
aborted m r w = with_channel_0 (record (copier m r w 0 true) { aborted = true }) None [] 0

abort_is : (m r w n : ℕ) → with_abort 0 (busy m r w n None []) ≡ aborted m r w
unfolding with_abort
abort_is m r w n = refl

after_abort : (memory : ℕ → ℕ) (m r w : ℕ) → Steps memory (aborted m r w) (with_channel_0 (copier m r w 0 false) None [] 0) []
unfolding asks asks_read next_request write_begun read_of request_of choice_of first_in_turn is_ready in_turn after_ends
    after_transfers next after_timers with_read moved data_of write_after with_end with_trigger
after_abort memory m r w = steps memory _ _ idle_begun refl refl

abort_writes : (memory : ℕ → ℕ) (m r w k : ℕ) → writes memory k (aborted m r w) ≡ []
abort_writes memory m r w zero = refl
abort_writes memory m r w (suc k) = then_writes memory k _ _ [] (after_abort memory m r w) ∙ writes_none memory m r w 0 k

abort_raises : (memory : ℕ → ℕ) (m r w k : ℕ) → (engine_after memory k (aborted m r w)).raised ≡ 0
abort_raises memory m r w zero = refl
abort_raises memory m r w (suc k) =
    ap (λ (e : State). e.raised) (then_after memory k _ _ [] (after_abort memory m r w) ∙ stays_so memory m r w 0 k)

pub aborted_law : AnAbortRaisesNothing
aborted_law memory n m r w k = (
  ap (writes memory k) (abort_is m r w n) ∙ abort_writes memory m r w k,
  ap (λ s. (engine_after memory k s).raised) (abort_is m r w n) ∙ abort_raises memory m r w k,
)
