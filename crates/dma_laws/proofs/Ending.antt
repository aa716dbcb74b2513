-- In which cycle a channel raises its interrupt, and that it is idle then.
use Rattle.std.proofs.Common.{◌≡◌, ◌≢◌, ℕ, zero, suc, ◌<◌, ◌≤◌, ◌==◌, ◌&&◌, ◌||◌, ◌⊎◌, inl, inr, not, Bool, true, false, cond, length, refl, sym, ap, ap₂, subst, ◌∙◌, arith, true≢false, Option, Some, None}
use Rattle.std.specs.Prelude.{nat_lt, slice_get}
use Rattle.std.proofs.lemmas.List.{length-set, get_or-set_same, get_or-set_other}
use Rattle.rp_base.specs.Word.{has_bit}
use Rattle.dma_engine.specs.declared.channel.Channel.{Channel}
use Rattle.dma_engine.specs.Channel.{changed, in_turn, with_end}
use Rattle.dma_engine.specs.Choice.{choice_of}
use Rattle.dma_engine.specs.Cycle.{is_in_flight, is_over, after_ends, word_of, word_read, with_data, with_read_by, with_read, after_read, is_written, after_write, counted, choice_where_none, after_choice, after_read_of, after_write_of, after_transfers, next}
use Rattle.dma_engine.specs.State.{State as Engine, idle_channel, channel_at}
use Rattle.dma_engine.specs.Timer.{gets_credit, credited, with_credit, with_stepped_timers, after_timers}
use Rattle.dma_engine.specs.Transfer.{moved}
use Rattle.dma_engine.proofs.InTurn.{in_turn-all_failing}
use Rattle.dma_laws.specs.Copies.{Cycle, begun_in, after, reports, AnEndIsRaisedOnce}
use Rattle.dma_laws.proofs.Views.{equal_or_not, changed_beside, changed_same, changed_other, turns_moving, turns_same, bit_other, bit_same, end_idle}

-- ---- what leaves INTR as it is

read_raised : (w : Option ℕ) (x : Engine) → (after_read w x).raised ≡ x.raised
unfolding with_read
read_raised None x = refl
read_raised (Some word) x = go (nat_lt (length x.waiting) 2) x.chosen
  where
    number : (n : ℕ) (b : Bool) → (cond b (with_data word n (channel_at n x) x) x).raised ≡ x.raised
    number n true = refl
    number n false = refl

    go : (b : Bool) (o : Option ℕ) → (cond b (with_read_by word o x) x).raised ≡ x.raised
    go true None = refl
    go true (Some n) = number n (nat_lt n 12)
    go false o = refl

write_raised : (b : Bool) (x : Engine) → (after_write b x).raised ≡ x.raised
write_raised true x = refl
write_raised false x = refl

choice_raised : (o choice : Option ℕ) (x : Engine) → (choice_where_none o choice x).raised ≡ x.raised
choice_raised (Some n) choice x = refl
choice_raised None None x = refl
choice_raised None (Some n) x = (changed_beside counted n x).raised

credits_raised : (test : ℕ → Bool) (n : ℕ) (x : Engine) → (in_turn test with_credit n x).raised ≡ x.raised
unfolding in_turn
credits_raised test zero x = refl
credits_raised test (suc n) x = go (test n) (credits_raised test n x)
  where
    go : (b : Bool) → (in_turn test with_credit n x).raised ≡ x.raised → (cond b (with_credit n (in_turn test with_credit n x)) (in_turn test with_credit n x)).raised ≡ x.raised
    go true before = (changed_beside credited n (in_turn test with_credit n x)).raised ∙ before
    go false before = before

timers_raised : (test : ℕ → Bool) (x : Engine) → (after_timers test x).raised ≡ x.raised
unfolding after_timers
timers_raised test x = credits_raised test 12 (with_stepped_timers x)

transfers_raised : (t : Cycle) → (after_transfers t.engine (begun_in t) t.turns).raised ≡ (after_ends t.engine).raised
unfolding after_transfers
transfers_raised t =
    let b = begun_in t in
    let read = after_read_of b t.turns (after_ends t.engine) in
    let written = after_write_of b t.turns read in
    choice_raised written.chosen (choice_of b.counts t.engine) written
    ∙ write_raised (is_written b.write (word_of (slice_get t.turns 1))) read
    ∙ read_raised (word_read b.read (word_of (slice_get t.turns 0))) (after_ends t.engine)

cycle_raised : (t : Cycle) → (after t).raised ≡ (after_ends t.engine).raised
unfolding next
cycle_raised t =
    timers_raised (gets_credit t.engine) (after_transfers t.engine (begun_in t) t.turns) ∙ transfers_raised t

-- ---- the ends, in turn

bits_before : (test : ℕ → Bool) (n k : ℕ) (e : Engine) → n ≤ k → has_bit (in_turn test with_end n e).raised k ≡ has_bit e.raised k
unfolding in_turn
bits_before test zero k e less = refl
bits_before test (suc n) k e less = go (test n) (bits_before test n k e (omega (arith, less)))
  where
    apart : k ≢ n
    apart is = absurd (omega (arith, is, less))

    go : (b : Bool) → has_bit (in_turn test with_end n e).raised k ≡ has_bit e.raised k
        → has_bit (cond b (with_end n (in_turn test with_end n e)) (in_turn test with_end n e)).raised k ≡ has_bit e.raised k
    go true before = bit_other n k (in_turn test with_end n e) apart ∙ before
    go false before = before

or_none : (b : Bool) → b ≡ (b || false)
or_none true = refl
or_none false = refl

bits_at : (test : ℕ → Bool) (k : ℕ) (e : Engine) → k < 12 → length e.channels ≡ 12 → (test k ≡ true → (channel_at k e).busy ≡ true)
    → has_bit (in_turn test with_end (suc k) e).raised k ≡ (has_bit e.raised k || (test k && reports (channel_at k e)))
unfolding in_turn
bits_at test k e low long busy = go (test k) refl
  where
    x : Engine
    x = in_turn test with_end k e

    go : (b : Bool) → test k ≡ b → has_bit (cond b (with_end k x) x).raised k ≡ (has_bit e.raised k || (b && reports (channel_at k e)))
    go true h =
        bit_same k x
        ∙ ap₂ (λ a (c : Channel). a || reports c) (bits_before test k k e (omega arith))
        (turns_same test k k e low long (busy h) (λ j less is. absurd (omega (arith, less, is)))).channel
    go false h = bits_before test k k e (omega arith) ∙ or_none (has_bit e.raised k)

equal_or_above : (a b : ℕ) → b < suc a → (a ≡ b) ⊎ (b < a)
equal_or_above a b h = grind arith

bits_after : (test : ℕ → Bool) (n k : ℕ) (e : Engine) → k < n → k < 12 → length e.channels ≡ 12 → (test k ≡ true → (channel_at k e).busy ≡ true)
    → has_bit (in_turn test with_end n e).raised k ≡ (has_bit e.raised k || (test k && reports (channel_at k e)))
unfolding in_turn
bits_after test zero k e less low long busy = absurd (omega (arith, less))
bits_after test (suc n) k e less low long busy = elim (equal_or_above n k less) [
  | inl is ↦
      subst (λ m. has_bit (in_turn test with_end (suc m) e).raised k ≡ (has_bit e.raised k || (test k && reports (channel_at k e)))) (sym is)
      (bits_at test k e low long busy)
  | inr later ↦ go (λ is. absurd (omega (arith, is, later))) (bits_after test n k e later low long busy) (test n)
]
  where
    go : k ≢ n → has_bit (in_turn test with_end n e).raised k ≡ (has_bit e.raised k || (test k && reports (channel_at k e))) → (b : Bool)
        → has_bit (cond b (with_end n (in_turn test with_end n e)) (in_turn test with_end n e)).raised k ≡ (has_bit e.raised k || (test k && reports (channel_at k e)))
    go apart before true = bit_other n k (in_turn test with_end n e) apart ∙ before
    go apart before false = before

first_of : (a b : Bool) → (a && b) ≡ true → a ≡ true
first_of true b h = refl
first_of false b h = absurd (true≢false (sym h))

busy_where_over : (e : Engine) (k : ℕ) → is_over e k ≡ true → (channel_at k e).busy ≡ true
busy_where_over e k h = first_of (channel_at k e).busy ((channel_at k e).count == 0) (first_of ((channel_at k e).busy && (channel_at k e).count == 0) (not (is_in_flight k e)) h)

ends_raised : (k : ℕ) (e : Engine) → k < 12 → length e.channels ≡ 12
    → has_bit (after_ends e).raised k ≡ (has_bit e.raised k || (is_over e k && reports (channel_at k e)))
unfolding after_ends
ends_raised k e low long = bits_after (is_over e) 12 k e low low long (busy_where_over e k)

-- ---- where it alone ends

only : (test : ℕ → Bool) (n k : ℕ) (e : Engine) → k < n → test k ≡ true → ((j : ℕ) → j < n → j ≢ k → test j ≡ false)
    → in_turn test with_end n e ≡ with_end k e
unfolding in_turn
only test zero k e less passes others = absurd (omega (arith, less))
only test (suc n) k e less passes others = elim (equal_or_above n k less) [
  | inl is ↦
      ap (λ b. cond b (with_end n (in_turn test with_end n e)) (in_turn test with_end n e)) (ap test is ∙ passes)
      ∙ ap (with_end n) (in_turn-all_failing test with_end n e (λ j low. others j (omega (arith, low)) (λ same. absurd (omega (arith, low, same, is)))))
      ∙ ap (λ m. with_end m e) is
  | inr later ↦
      ap (λ b. cond b (with_end n (in_turn test with_end n e)) (in_turn test with_end n e)) (others n (omega arith) (λ is. absurd (omega (arith, is, later))))
      ∙ only test n k e later passes (λ j low other. others j (omega (arith, low)) other)
]

not_over : (test : ℕ → Bool) (j k : ℕ) → (test j ≡ true → j ≡ k) → j ≢ k → test j ≡ false
not_over test j k h apart = go (test j) refl
  where
    go : (b : Bool) → test j ≡ b → test j ≡ false
    go true e = absurd (apart (h e))
    go false e = e

ends_only : (k : ℕ) (e : Engine) → k < 12 → is_over e k ≡ true → ((j : ℕ) → j < 12 → is_over e j ≡ true → j ≡ k) → after_ends e ≡ with_end k e
unfolding after_ends
ends_only k e low over alone = only (is_over e) 12 k e low over (λ j less apart. not_over (is_over e) j k (λ h. alone j less h) apart)

-- ---- what leaves an idle channel idle

changed_busy : (f : Channel → Channel) → ((c : Channel) → (f c).busy ≡ c.busy) → (n k : ℕ) (x : Engine) → k < 12 → length x.channels ≡ 12
    → (channel_at k (changed f n x)).busy ≡ (channel_at k x).busy
changed_busy f keeps n k x low long = elim (equal_or_not n k) [
  | inl is ↦
      subst (λ m. (channel_at k (changed f m x)).busy ≡ (channel_at k x).busy) (sym is)
      (ap (λ (c : Channel). c.busy) (changed_same f k x low long) ∙ keeps (channel_at k x))
  | inr apart ↦ ap (λ (c : Channel). c.busy) (changed_other f n k x (λ is. apart (sym is)))
]

moved_busy : (c : Channel) → (moved c).busy ≡ c.busy
unfolding moved
moved_busy c = refl

-- busy as before, and as many channels
record Idles (k : ℕ) (x y : Engine) : Type 0 where
  busy : (channel_at k y).busy ≡ (channel_at k x).busy
  long : length y.channels ≡ length x.channels

idles : (k : ℕ) (x : Engine) → Idles k x x
idles k x = record { busy = refl; long = refl }

idles_on : (k : ℕ) (x y z : Engine) → Idles k x y → Idles k y z → Idles k x z
idles_on k x y z a b = record { busy = b.busy ∙ a.busy; long = b.long ∙ a.long }

data_idles : (k n word : ℕ) (x : Engine) → k < 12 → length x.channels ≡ 12 → Idles k x (with_data word n (channel_at n x) x)
data_idles k n word x low long = elim (equal_or_not n k) [
  | inl is ↦
      subst (λ m. Idles k x (with_data word m (channel_at m x) x)) (sym is)
      (record {
        busy = ap (λ (c : Channel). c.busy) (get_or-set_same x.channels k (moved (channel_at k x)) idle_channel (omega (arith, low, long))) ∙ moved_busy (channel_at k x);
        long = length-set x.channels k (moved (channel_at k x));
      })
  | inr apart ↦ record {
    busy = ap (λ (c : Channel). c.busy) (get_or-set_other x.channels n k (moved (channel_at n x)) idle_channel (λ is. apart (sym is)));
    long = length-set x.channels n (moved (channel_at n x));
  }
]

read_idles : (k : ℕ) (w : Option ℕ) (x : Engine) → k < 12 → length x.channels ≡ 12 → Idles k x (after_read w x)
unfolding with_read
read_idles k None x low long = idles k x
read_idles k (Some word) x low long = go (nat_lt (length x.waiting) 2) x.chosen
  where
    number : (n : ℕ) (b : Bool) → Idles k x (cond b (with_data word n (channel_at n x) x) x)
    number n true = data_idles k n word x low long
    number n false = idles k x

    go : (b : Bool) (o : Option ℕ) → Idles k x (cond b (with_read_by word o x) x)
    go true None = idles k x
    go true (Some n) = number n (nat_lt n 12)
    go false o = idles k x

write_idles : (k : ℕ) (b : Bool) (x : Engine) → Idles k x (after_write b x)
write_idles k true x = record { busy = refl; long = refl }
write_idles k false x = idles k x

choice_idles : (k : ℕ) (o choice : Option ℕ) (x : Engine) → k < 12 → length x.channels ≡ 12 → Idles k x (choice_where_none o choice x)
choice_idles k (Some n) choice x low long = idles k x
choice_idles k None None x low long = idles k x
choice_idles k None (Some n) x low long = record { busy = changed_busy counted (λ c. refl) n k x low long; long = (changed_beside counted n x).long }

credits_idle : (test : ℕ → Bool) (n k : ℕ) (x : Engine) → k < 12 → length x.channels ≡ 12 → Idles k x (in_turn test with_credit n x)
unfolding in_turn
credits_idle test zero k x low long = idles k x
credits_idle test (suc n) k x low long = go (test n) (credits_idle test n k x low long)
  where
    go : (b : Bool) → Idles k x (in_turn test with_credit n x) → Idles k x (cond b (with_credit n (in_turn test with_credit n x)) (in_turn test with_credit n x))
    go true before =
        idles_on k x (in_turn test with_credit n x) (with_credit n (in_turn test with_credit n x)) before
        (record {
          busy = changed_busy credited (λ c. refl) n k (in_turn test with_credit n x) low (before.long ∙ long);
          long = (changed_beside credited n (in_turn test with_credit n x)).long;
        })
    go false before = before

timers_idle : (test : ℕ → Bool) (k : ℕ) (x : Engine) → k < 12 → length x.channels ≡ 12 → Idles k x (after_timers test x)
unfolding after_timers
timers_idle test k x low long =
    idles_on k x (with_stepped_timers x) (in_turn test with_credit 12 (with_stepped_timers x)) (record { busy = refl; long = refl })
    (credits_idle test 12 k (with_stepped_timers x) low long)

transfers_idle : (k : ℕ) (t : Cycle) → k < 12 → length t.engine.channels ≡ 12 → Idles k (after_ends t.engine) (after_transfers t.engine (begun_in t) t.turns)
unfolding after_transfers after_ends
transfers_idle k t low long =
    let b = begun_in t in
    let x = in_turn (is_over t.engine) with_end 12 t.engine in
    let y = after_read_of b t.turns x in
    let z = after_write_of b t.turns y in
    let first = (turns_moving (is_over t.engine) 12 t.engine).long ∙ long in
    let r = read_idles k (word_read b.read (word_of (slice_get t.turns 0))) x low first in
    let w = write_idles k (is_written b.write (word_of (slice_get t.turns 1))) y in
    let c = choice_idles k z.chosen (choice_of b.counts t.engine) z low (w.long ∙ r.long ∙ first) in
    idles_on k x z (after_choice (choice_of b.counts t.engine) z) (idles_on k x y z r w) c

ends_long : (e : Engine) → length e.channels ≡ 12 → length (after_ends e).channels ≡ 12
unfolding after_ends
ends_long e long = (turns_moving (is_over e) 12 e).long ∙ long

cycle_idle : (k : ℕ) (t : Cycle) → k < 12 → length t.engine.channels ≡ 12 → (channel_at k (after t)).busy ≡ (channel_at k (after_ends t.engine)).busy
unfolding next
cycle_idle k t low long =
    let x = after_transfers t.engine (begun_in t) t.turns in
    let m = transfers_idle k t low long in
    (timers_idle (gets_credit t.engine) k x low (m.long ∙ ends_long t.engine long)).busy ∙ m.busy

pub an_end_is_raised : AnEndIsRaisedOnce
an_end_is_raised k t low long = record {
  raised = ap (λ r. has_bit r k) (cycle_raised t) ∙ ends_raised k t.engine low long;
  idle = λ over alone.
      cycle_idle k t low long ∙ ap (λ e. (channel_at k e).busy) (ends_only k t.engine low over alone) ∙ end_idle k t.engine low long;
}
