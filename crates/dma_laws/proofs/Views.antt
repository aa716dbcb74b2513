-- A channel in the engine, where channels change one after another.
use Rattle.std.proofs.Common.{◌≡◌, ◌≢◌, ℕ, zero, suc, ◌^◌, ◌<◌, ◌==◌, ◌&&◌, ◌||◌, ◌⊎◌, inl, inr, max, eqb, not, Bool, true, false, cond, length, refl, sym, ap, ap₂, subst, ◌∙◌, arith, true≢false, lt-ltb}
use Rattle.std.specs.Prelude.{nat_lt, slice_set, bit_or}
use Rattle.std.specs.Int.{bit_at}
use Rattle.std.proofs.lemmas.Bool.Decides.{nat_tests}
use Rattle.std.proofs.lemmas.List.{length-set, get_or-set_same, get_or-set_other}
use Rattle.std.proofs.lemmas.Nat.Bits.{bit_at-lt, bit_at_or, bit_at-pow_same, bit_at-pow_other}
use Rattle.rp_base.specs.Word.{has_bit}
use Rattle.dma_engine.specs.declared.channel.Channel.{Channel}
use Rattle.dma_engine.specs.Control.{is_enabled, chain_of, irq_quiet}
use Rattle.dma_engine.specs.Channel.{triggered, idle, with_channels, changed, with_trigger, with_raised, with_report, with_chain, with_end_of, with_end, in_turn}
use Rattle.dma_engine.specs.State.{State as Engine, idle_channel, channel_at}

pub equal_or_not : (m k : ℕ) → (m ≡ k) ⊎ (m ≢ k)
equal_or_not m k = grind arith

-- ---- one channel changes

-- all but the channels is the same
pub record Beside (e f : Engine) : Type 0 where
  pub chosen : f.chosen ≡ e.chosen
  pub waiting : f.waiting ≡ e.waiting
  pub raised : f.raised ≡ e.raised
  pub long : length f.channels ≡ length e.channels

pub beside : (e : Engine) → Beside e e
beside e = record { chosen = refl; waiting = refl; raised = refl; long = refl }

pub changed_beside : (f : Channel → Channel) (n : ℕ) (e : Engine) → Beside e (changed f n e)
changed_beside f n e = go (nat_lt n 12)
  where
    go : (b : Bool) → Beside e (cond b (with_channels (slice_set e.channels n (f (channel_at n e))) e) e)
    go true = record { chosen = refl; waiting = refl; raised = refl; long = length-set e.channels n (f (channel_at n e)) }
    go false = beside e

pub changed_same : (f : Channel → Channel) (k : ℕ) (e : Engine) → k < 12 → length e.channels ≡ 12 → channel_at k (changed f k e) ≡ f (channel_at k e)
changed_same f k e low long =
    ap (λ b. channel_at k (cond b (with_channels (slice_set e.channels k (f (channel_at k e))) e) e)) (lt-ltb k 12 low)
    ∙ get_or-set_same e.channels k (f (channel_at k e)) idle_channel (omega (arith, low, long))

pub changed_other : (f : Channel → Channel) (n k : ℕ) (e : Engine) → k ≢ n → channel_at k (changed f n e) ≡ channel_at k e
changed_other f n k e apart = go (nat_lt n 12)
  where
    go : (b : Bool) → channel_at k (cond b (with_channels (slice_set e.channels n (f (channel_at n e))) e) e) ≡ channel_at k e
    go true = get_or-set_other e.channels n k (f (channel_at n e)) idle_channel apart
    go false = refl

-- ---- triggers

no_trigger : (b : Bool) (c d : Channel) → cond (b && false) d c ≡ c
no_trigger true c d = refl
no_trigger false c d = refl

triggered_busy : (c : Channel) → c.busy ≡ true → triggered c ≡ c
triggered_busy c h =
    ap (λ b. cond (is_enabled c && not b) (record c { count = c.reload; busy = true }) c) h
    ∙ no_trigger (is_enabled c) c (record c { count = c.reload; busy = true })

pub trigger_beside : (n : ℕ) (e : Engine) → Beside e (with_trigger n e)
unfolding with_trigger
trigger_beside n e = changed_beside triggered n e

-- a trigger does nothing to a busy channel
trigger_kept : (n k : ℕ) (e : Engine) → k < 12 → length e.channels ≡ 12 → (channel_at k e).busy ≡ true → channel_at k (with_trigger n e) ≡ channel_at k e
unfolding with_trigger
trigger_kept n k e low long busy = elim (equal_or_not n k) [
  | inl is ↦ subst (λ m. channel_at k (changed triggered m e) ≡ channel_at k e) (sym is) (changed_same triggered k e low long ∙ triggered_busy (channel_at k e) busy)
  | inr apart ↦ changed_other triggered n k e (λ is. apart (sym is))
]

trigger_other : (n k : ℕ) (e : Engine) → k ≢ n → channel_at k (with_trigger n e) ≡ channel_at k e
unfolding with_trigger
trigger_other n k e apart = changed_other triggered n k e apart

-- ---- bits of INTR

or_bit : (a b : ℕ) → a < 2 → b < 2 → eqb (max a b) 1 ≡ (eqb a 1 || eqb b 1)
or_bit a b h i = grind (arith, nat_tests)

has_or : (a b i : ℕ) → has_bit (bit_or a b) i ≡ (has_bit a i || has_bit b i)
has_or a b i = ap (λ n. eqb n 1) (bit_at_or a b i) ∙ or_bit (bit_at a i) (bit_at b i) (bit_at-lt a i) (bit_at-lt b i)

or_false : (b : Bool) → (b || false) ≡ b
or_false true = refl
or_false false = refl

pub raised_same : (k : ℕ) (e : Engine) → has_bit (with_raised k e).raised k ≡ (has_bit e.raised k || true)
raised_same k e = has_or e.raised (2 ^ k) k ∙ ap (λ n. has_bit e.raised k || eqb n 1) (bit_at-pow_same k)

raised_other : (n k : ℕ) (e : Engine) → k ≢ n → has_bit (with_raised n e).raised k ≡ has_bit e.raised k
raised_other n k e apart =
    has_or e.raised (2 ^ n) k ∙ ap (λ m. has_bit e.raised k || eqb m 1) (bit_at-pow_other n k apart) ∙ or_false (has_bit e.raised k)

-- ---- the end of a sequence

-- what is seen of a channel and of the transfers, but for its bit of INTR
pub record Same (k : ℕ) (e f : Engine) : Type 0 where
  pub channel : channel_at k f ≡ channel_at k e
  pub chosen : f.chosen ≡ e.chosen
  pub waiting : f.waiting ≡ e.waiting
  pub long : length f.channels ≡ length e.channels

pub same : (k : ℕ) (e : Engine) → Same k e e
same k e = record { channel = refl; chosen = refl; waiting = refl; long = refl }

pub same_on : (k : ℕ) (e f g : Engine) → Same k e f → Same k f g → Same k e g
same_on k e f g a b = record {
  channel = b.channel ∙ a.channel;
  chosen = b.chosen ∙ a.chosen;
  waiting = b.waiting ∙ a.waiting;
  long = b.long ∙ a.long;
}

same_beside : (k : ℕ) (e f : Engine) → channel_at k f ≡ channel_at k e → Beside e f → Same k e f
same_beside k e f channel rest = record { channel = channel; chosen = rest.chosen; waiting = rest.waiting; long = rest.long }

report_same : (n k : ℕ) (c : Channel) (e : Engine) → Same k e (with_report n c e)
report_same n k c e = go (irq_quiet c)
  where
    go : (b : Bool) → Same k e (cond b e (with_raised n e))
    go true = same k e
    go false = record { channel = refl; chosen = refl; waiting = refl; long = refl }

chain_same : (n k : ℕ) (c : Channel) (e : Engine) → k < 12 → length e.channels ≡ 12 → (channel_at k e).busy ≡ true → Same k e (with_chain n c e)
chain_same n k c e low long busy = go (chain_of c == n)
  where
    go : (b : Bool) → Same k e (cond b e (with_trigger (chain_of c) e))
    go true = same k e
    go false = same_beside k e (with_trigger (chain_of c) e) (trigger_kept (chain_of c) k e low long busy) (trigger_beside (chain_of c) e)

end_of_same : (n k : ℕ) (c : Channel) (e : Engine) → k < 12 → length e.channels ≡ 12 → (channel_at k e).busy ≡ true → Same k e (with_end_of n c e)
end_of_same n k c e low long busy = go c.aborted
  where
    go : (b : Bool) → Same k e (cond b e (with_chain n c (with_report n c e)))
    go true = same k e
    go false =
        let r = report_same n k c e in
        same_on k e (with_report n c e) (with_chain n c (with_report n c e)) r
        (chain_same n k c (with_report n c e) low (r.long ∙ long) (ap (λ (d : Channel). d.busy) r.channel ∙ busy))

-- the end of another channel's sequence does nothing to a busy channel
pub end_other : (n k : ℕ) (e : Engine) → k ≢ n → k < 12 → length e.channels ≡ 12 → (channel_at k e).busy ≡ true → Same k e (with_end n e)
unfolding with_end
end_other n k e apart low long busy =
    let i = same_beside k e (changed idle n e) (changed_other idle n k e apart) (changed_beside idle n e) in
    same_on k e (changed idle n e) (with_end_of n (channel_at n e) (changed idle n e)) i
    (end_of_same n k (channel_at n e) (changed idle n e) low (i.long ∙ long) (ap (λ (d : Channel). d.busy) i.channel ∙ busy))

-- ---- what the end of any sequence leaves beside the channels

pub record Moving (e f : Engine) : Type 0 where
  pub chosen : f.chosen ≡ e.chosen
  pub waiting : f.waiting ≡ e.waiting
  pub long : length f.channels ≡ length e.channels

pub moving : (e : Engine) → Moving e e
moving e = record { chosen = refl; waiting = refl; long = refl }

pub moving_on : (e f g : Engine) → Moving e f → Moving f g → Moving e g
moving_on e f g a b = record { chosen = b.chosen ∙ a.chosen; waiting = b.waiting ∙ a.waiting; long = b.long ∙ a.long }

moving_beside : (e f : Engine) → Beside e f → Moving e f
moving_beside e f b = record { chosen = b.chosen; waiting = b.waiting; long = b.long }

report_moving : (n : ℕ) (c : Channel) (e : Engine) → Moving e (with_report n c e)
report_moving n c e = go (irq_quiet c)
  where
    go : (b : Bool) → Moving e (cond b e (with_raised n e))
    go true = moving e
    go false = record { chosen = refl; waiting = refl; long = refl }

chain_moving : (n : ℕ) (c : Channel) (e : Engine) → Moving e (with_chain n c e)
chain_moving n c e = go (chain_of c == n)
  where
    go : (b : Bool) → Moving e (cond b e (with_trigger (chain_of c) e))
    go true = moving e
    go false = moving_beside e (with_trigger (chain_of c) e) (trigger_beside (chain_of c) e)

pub end_moving : (n : ℕ) (e : Engine) → Moving e (with_end n e)
unfolding with_end
end_moving n e =
    moving_on e (changed idle n e) (with_end_of n (channel_at n e) (changed idle n e)) (moving_beside e (changed idle n e) (changed_beside idle n e))
    (go (channel_at n e).aborted (channel_at n e) (changed idle n e))
  where
    go : (b : Bool) (c : Channel) (i : Engine) → Moving i (cond b i (with_chain n c (with_report n c i)))
    go true c i = moving i
    go false c i = moving_on i (with_report n c i) (with_chain n c (with_report n c i)) (report_moving n c i) (chain_moving n c (with_report n c i))

-- ---- the bit of INTR at the end of a sequence

chain_raised : (n : ℕ) (c : Channel) (e : Engine) → (with_chain n c e).raised ≡ e.raised
chain_raised n c e = go (chain_of c == n)
  where
    go : (b : Bool) → (cond b e (with_trigger (chain_of c) e)).raised ≡ e.raised
    go true = refl
    go false = (trigger_beside (chain_of c) e).raised

-- another channel's leaves it
pub bit_other : (n k : ℕ) (e : Engine) → k ≢ n → has_bit (with_end n e).raised k ≡ has_bit e.raised k
unfolding with_end
bit_other n k e apart = go (channel_at n e).aborted (channel_at n e) ∙ ap (λ r. has_bit r k) (changed_beside idle n e).raised
  where
    reported : (b : Bool) (i : Engine) → has_bit (cond b i (with_raised n i)).raised k ≡ has_bit i.raised k
    reported true i = refl
    reported false i = raised_other n k i apart

    go : (b : Bool) (c : Channel) → has_bit (cond b (changed idle n e) (with_chain n c (with_report n c (changed idle n e)))).raised k ≡ has_bit (changed idle n e).raised k
    go true c = refl
    go false c = ap (λ r. has_bit r k) (chain_raised n c (with_report n c (changed idle n e))) ∙ reported (irq_quiet c) (changed idle n e)

-- its own sets it, but for an abort and IRQ_QUIET
pub bit_same : (k : ℕ) (e : Engine) → has_bit (with_end k e).raised k ≡ (has_bit e.raised k || (not (channel_at k e).aborted && not (irq_quiet (channel_at k e))))
unfolding with_end
bit_same k e =
    go (channel_at k e).aborted (irq_quiet (channel_at k e)) refl refl
    ∙ ap (λ r. has_bit r k || (not (channel_at k e).aborted && not (irq_quiet (channel_at k e)))) (changed_beside idle k e).raised
  where
    i : Engine
    i = changed idle k e

    c : Channel
    c = channel_at k e

    go : (a q : Bool) → c.aborted ≡ a → irq_quiet c ≡ q
        → has_bit (cond c.aborted i (with_chain k c (with_report k c i))).raised k ≡ (has_bit i.raised k || (not c.aborted && not (irq_quiet c)))
    go true q a_is q_is =
        ap (λ b. has_bit (cond b i (with_chain k c (with_report k c i))).raised k) a_is
        ∙ sym (or_false (has_bit i.raised k)) ∙ ap (λ b. has_bit i.raised k || (not b && not (irq_quiet c))) (sym a_is)
    go false true a_is q_is =
        ap (λ b. has_bit (cond b i (with_chain k c (with_report k c i))).raised k) a_is
        ∙ ap (λ r. has_bit r k) (chain_raised k c (with_report k c i))
        ∙ ap (λ b. has_bit (cond b i (with_raised k i)).raised k) q_is
        ∙ sym (or_false (has_bit i.raised k)) ∙ ap₂ (λ x y. has_bit i.raised k || (not x && not y)) (sym a_is) (sym q_is)
    go false false a_is q_is =
        ap (λ b. has_bit (cond b i (with_chain k c (with_report k c i))).raised k) a_is
        ∙ ap (λ r. has_bit r k) (chain_raised k c (with_report k c i))
        ∙ ap (λ b. has_bit (cond b i (with_raised k i)).raised k) q_is
        ∙ raised_same k i ∙ ap₂ (λ x y. has_bit i.raised k || (not x && not y)) (sym a_is) (sym q_is)

-- after its own end a channel is idle
chain_idle : (k : ℕ) (c : Channel) (e : Engine) (b : Bool) → (chain_of c == k) ≡ b → channel_at k (cond b e (with_trigger (chain_of c) e)) ≡ channel_at k e
chain_idle k c e true h = refl
chain_idle k c e false h = trigger_other (chain_of c) k e (λ is. absurd (true≢false (sym (ap (λ (m : ℕ). m == k) (sym is) ∙ eq_itself k) ∙ h)))
  where
    eq_itself : (n : ℕ) → (n == n) ≡ true
    eq_itself n = grind (arith, nat_tests)

pub end_idle : (k : ℕ) (e : Engine) → k < 12 → length e.channels ≡ 12 → (channel_at k (with_end k e)).busy ≡ false
unfolding with_end
end_idle k e low long = ap (λ (d : Channel). d.busy) (go c.aborted ∙ changed_same idle k e low long)
  where
    i : Engine
    i = changed idle k e

    c : Channel
    c = channel_at k e

    reported : (b : Bool) → channel_at k (cond b i (with_raised k i)) ≡ channel_at k i
    reported true = refl
    reported false = refl

    go : (b : Bool) → channel_at k (cond b i (with_chain k c (with_report k c i))) ≡ channel_at k i
    go true = refl
    go false = chain_idle k c (with_report k c i) (chain_of c == k) refl ∙ reported (irq_quiet c)

-- ---- the ends of a cycle, in turn

pub turns_moving : (test : ℕ → Bool) (n : ℕ) (e : Engine) → Moving e (in_turn test with_end n e)
unfolding in_turn
turns_moving test zero e = moving e
turns_moving test (suc n) e = go (test n) (turns_moving test n e)
  where
    go : (b : Bool) → Moving e (in_turn test with_end n e) → Moving e (cond b (with_end n (in_turn test with_end n e)) (in_turn test with_end n e))
    go true before = moving_on e (in_turn test with_end n e) (with_end n (in_turn test with_end n e)) before (end_moving n (in_turn test with_end n e))
    go false before = before

-- a busy channel stays as it is as long as its own turn is not there
pub turns_same : (test : ℕ → Bool) (n k : ℕ) (e : Engine) → k < 12 → length e.channels ≡ 12 → (channel_at k e).busy ≡ true
    → ((j : ℕ) → j < n → j ≡ k → test j ≡ false) → Same k e (in_turn test with_end n e)
unfolding in_turn
turns_same test zero k e low long busy h = same k e
turns_same test (suc n) k e low long busy h = go (test n) refl (turns_same test n k e low long busy (λ j less is. h j (omega (arith, less)) is))
  where
    go : (b : Bool) → test n ≡ b → Same k e (in_turn test with_end n e) → Same k e (cond b (with_end n (in_turn test with_end n e)) (in_turn test with_end n e))
    go true t before =
        same_on k e (in_turn test with_end n e) (with_end n (in_turn test with_end n e)) before
        (end_other n k (in_turn test with_end n e) (λ is. absurd (true≢false (sym t ∙ h n (omega arith) (sym is)))) low (before.long ∙ long)
        (ap (λ (d : Channel). d.busy) before.channel ∙ busy))
    go false t before = before
