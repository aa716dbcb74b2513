-- The interrupt words bit by bit, and the edges that a step latches.
use Rattle.std.proofs.Common.{◌≡◌, ℕ, zero, suc, ◌+◌, ◌*◌, ◌/◌, ◌%◌, ◌<◌, ◌==◌, Bool, false, not, ◌&&◌, ◌||◌, cond, Some, refl, sym, ap, ◌∙◌, arith}
use Rattle.std.specs.Prelude.{bit_and, bit_or}
use Rattle.std.proofs.lemmas.Bool.{eq-eqb}
use Rattle.std.proofs.lemmas.Bool.Decides.{nat_tests}
use Rattle.rp_base.specs.Word.{has_bit}
use Rattle.io_bank.specs.declared.outputs.Outs.{Outs}
use Rattle.io_bank.specs.declared.events.Edges.{Edges}
use Rattle.io_bank.specs.declared.events.Events.{Events}
use Rattle.io_bank.specs.declared.events.Interrupts.{Interrupts}
use Rattle.io_bank.specs.State.{State}
use Rattle.io_bank.specs.Levels.{input_of}
use Rattle.io_bank.specs.Interrupts.{kind_of, event_word, is_named, raw_of, shown, left_of, cleared}
use Rattle.io_bank.specs.Edges.{falling, rising, joined}
use Rattle.io_bank.specs.Words.{after_any}
use Rattle.io_bank.specs.Laws.{read, WhatIsEnabledOrForcedIsShown, Driven, stepped, has_fallen, has_risen, input_now, AnEdgeIsLatchedTwoCyclesLater, AWriteClearsAnEdge}
use Rattle.io_bank.proofs.Bits.{has_and, has_or, bits_below-at}

-- ---- the words

abbrev IsRead : (State → Events) → ℕ → ℕ → Type 0
IsRead of first n = (s : State) (outs : Outs) → read s outs (first + 4 * n) ≡ event_word (of s) n

below_4 : (P : ℕ → Type 0) → P 0 → P 1 → P 2 → P 3 → (n : ℕ) → n < 4 → P n
below_4 P a b c d zero h = a
below_4 P a b c d (suc zero) h = b
below_4 P a b c d (suc (suc zero)) h = c
below_4 P a b c d (suc (suc (suc zero))) h = d
below_4 P a b c d (suc (suc (suc (suc n)))) h = absurd (omega arith)

reads_intr : (n : ℕ) → n < 4 → IsRead raw_of 0x0f0 n
reads_intr = below_4 (IsRead raw_of 0x0f0) (λ s o. refl) (λ s o. refl) (λ s o. refl) (λ s o. refl)

reads_enable0 : (n : ℕ) → n < 4 → IsRead (λ s. s.core0.enable) 0x100 n
reads_enable0 = below_4 (IsRead (λ s. s.core0.enable) 0x100) (λ s o. refl) (λ s o. refl) (λ s o. refl) (λ s o. refl)

reads_force0 : (n : ℕ) → n < 4 → IsRead (λ s. s.core0.force) 0x110 n
reads_force0 = below_4 (IsRead (λ s. s.core0.force) 0x110) (λ s o. refl) (λ s o. refl) (λ s o. refl) (λ s o. refl)

reads_shown0 : (n : ℕ) → n < 4 → IsRead (λ s. shown (raw_of s) s.core0) 0x120 n
reads_shown0 = below_4 (IsRead (λ s. shown (raw_of s) s.core0) 0x120) (λ s o. refl) (λ s o. refl) (λ s o. refl) (λ s o. refl)

reads_enable1 : (n : ℕ) → n < 4 → IsRead (λ s. s.core1.enable) 0x130 n
reads_enable1 = below_4 (IsRead (λ s. s.core1.enable) 0x130) (λ s o. refl) (λ s o. refl) (λ s o. refl) (λ s o. refl)

reads_force1 : (n : ℕ) → n < 4 → IsRead (λ s. s.core1.force) 0x140 n
reads_force1 = below_4 (IsRead (λ s. s.core1.force) 0x140) (λ s o. refl) (λ s o. refl) (λ s o. refl) (λ s o. refl)

reads_shown1 : (n : ℕ) → n < 4 → IsRead (λ s. shown (raw_of s) s.core1) 0x150 n
reads_shown1 = below_4 (IsRead (λ s. shown (raw_of s) s.core1) 0x150) (λ s o. refl) (λ s o. refl) (λ s o. refl) (λ s o. refl)

-- ---- INTS

shown_by : (t u v : Bool) (raw : Events) (x : Interrupts) → cond t (shown raw x).level_low (cond u (shown raw x).level_high (cond v (shown raw x).edge_low (shown raw x).edge_high))
    ≡ bit_or (bit_and (cond t raw.level_low (cond u raw.level_high (cond v raw.edge_low raw.edge_high)))
    (cond t x.enable.level_low (cond u x.enable.level_high (cond v x.enable.edge_low x.enable.edge_high))))
    (cond t x.force.level_low (cond u x.force.level_high (cond v x.force.edge_low x.force.edge_high)))
shown_by t u v raw x = grind (arith, nat_tests)

kind-shown : (raw : Events) (x : Interrupts) (kind : ℕ) →
    kind_of (shown raw x) kind ≡ bit_or (bit_and (kind_of raw kind) (kind_of x.enable kind)) (kind_of x.force kind)
kind-shown raw x kind = shown_by (kind == 0) (kind == 1) (kind == 2) raw x

bit_of_word : (e : Events) (n bit : ℕ) → bit < 32 → has_bit (event_word e n) bit ≡ has_bit (kind_of e (bit % 4)) (8 * n + bit / 4)
bit_of_word e n bit low = bits_below-at (λ bit. has_bit (kind_of e (bit % 4)) (8 * n + bit / 4)) 32 bit low

shown_bit : (raw : Events) (x : Interrupts) (n bit : ℕ) → bit < 32 →
    has_bit (event_word (shown raw x) n) bit
    ≡ (has_bit (event_word raw n) bit && has_bit (event_word x.enable n) bit) || has_bit (event_word x.force n) bit
shown_bit raw x n bit low =
    let i = 8 * n + bit / 4 in
    bit_of_word (shown raw x) n bit low
    ∙ ap (λ w. has_bit w i) (kind-shown raw x (bit % 4))
    ∙ has_or (bit_and (kind_of raw (bit % 4)) (kind_of x.enable (bit % 4))) (kind_of x.force (bit % 4)) i
    ∙ ap (λ b. b || has_bit (kind_of x.force (bit % 4)) i) (has_and (kind_of raw (bit % 4)) (kind_of x.enable (bit % 4)) i)
    ∙ rw (bit_of_word raw n bit low, bit_of_word x.enable n bit low, bit_of_word x.force n bit low) refl

pub shown_right : WhatIsEnabledOrForcedIsShown
shown_right s outs n bit low small = record {
  core0 = rw (reads_shown0 n low s outs, reads_intr n low s outs, reads_enable0 n low s outs, reads_force0 n low s outs) (shown_bit (raw_of s) s.core0 n bit small);
  core1 = rw (reads_shown1 n low s outs, reads_intr n low s outs, reads_enable1 n low s outs, reads_force1 n low s outs) (shown_bit (raw_of s) s.core1 n bit small);
}

-- ---- edges

-- the bit of a pin and a kind in INTR
raw_bit : (s : State) (outs : Outs) (pin kind : ℕ) → pin < 30 → kind < 4 →
    has_bit (read s outs (0x0f0 + 4 * (pin / 8))) (4 * (pin % 8) + kind) ≡ has_bit (kind_of (raw_of s) kind) pin
raw_bit s outs pin kind low few =
    let here : pin / 8 < 4 = omega arith in
    let at : 8 * (pin / 8) + (4 * (pin % 8) + kind) / 4 ≡ pin = omega arith in
    let of : (4 * (pin % 8) + kind) % 4 ≡ kind = omega arith in
    ap (λ w. has_bit w (4 * (pin % 8) + kind)) (reads_intr (pin / 8) here s outs)
    ∙ bit_of_word (raw_of s) (pin / 8) (4 * (pin % 8) + kind) (omega arith)
    ∙ ap (λ k. has_bit (kind_of (raw_of s) k) (8 * (pin / 8) + (4 * (pin % 8) + kind) / 4)) of
    ∙ ap (λ i. has_bit (kind_of (raw_of s) kind) i) at

fallen_is : (s : State) (outs : Outs) (pin : ℕ) → pin < 30 → has_fallen pin outs s ≡ has_bit s.latched.low pin
fallen_is s outs pin low = raw_bit s outs pin 2 low (omega arith)

risen_is : (s : State) (outs : Outs) (pin : ℕ) → pin < 30 → has_risen pin outs s ≡ has_bit s.latched.high pin
risen_is s outs pin low = raw_bit s outs pin 3 low (omega arith)

latches : (s : State) (c : Driven) → s.bank_held ≡ false → (stepped c s).latched ≡ joined s.latched (record { low = falling s; high = rising s })
latches s c free = rw free refl

pub latched_later : AnEdgeIsLatchedTwoCyclesLater
latched_later s a b c pin outs free low =
    let t = stepped b (stepped a s) in
    record {
      fall = fallen_is (stepped c t) outs pin low ∙ ap (λ (e : Edges). has_bit e.low pin) (latches t c free)
          ∙ has_or t.latched.low (falling t) pin
          ∙ ap (λ x. has_bit t.latched.low pin || x) (bits_below-at (λ pin. input_of t t.second pin && not (input_of t t.first pin)) 30 pin low)
          ∙ ap (λ x. x || (input_now pin s && not (input_now pin (stepped a s)))) (sym (fallen_is t outs pin low));
      rise = risen_is (stepped c t) outs pin low ∙ ap (λ (e : Edges). has_bit e.high pin) (latches t c free)
          ∙ has_or t.latched.high (rising t) pin
          ∙ ap (λ x. has_bit t.latched.high pin || x) (bits_below-at (λ pin. not (input_of t t.second pin) && input_of t t.first pin) 30 pin low)
          ∙ ap (λ x. x || (not (input_now pin s) && input_now pin (stepped a s))) (sym (risen_is t outs pin low));
    }

-- ---- a write to INTR

abbrev IsWritten : ℕ → Type 0
IsWritten n = (s : State) (w : ℕ) → (after_any (0x0f0 + 4 * n) (Some w) s).latched ≡ cleared n w s.latched s.fresh

writes_intr : (n : ℕ) → n < 4 → IsWritten n
writes_intr = below_4 IsWritten (λ s w. refl) (λ s w. refl) (λ s w. refl) (λ s w. refl)

left_bit : (word kind latched fresh pin : ℕ) → pin < 30 →
    has_bit (left_of (pin / 8) word kind latched fresh) pin ≡ has_bit latched pin && (has_bit fresh pin || not (has_bit word (4 * (pin % 8) + kind)))
left_bit word kind latched fresh pin low =
    bits_below-at (λ p. has_bit latched p && (has_bit fresh p || not (p / 8 == pin / 8 && is_named word kind p))) 30 pin low
    ∙ ap (λ b. has_bit latched pin && (has_bit fresh pin || not (b && is_named word kind pin))) (eq-eqb (pin / 8) (pin / 8) refl)

pub write_clears : AWriteClearsAnEdge
write_clears s pin w outs low =
    let here : pin / 8 < 4 = omega arith in
    let t = after_any (0x0f0 + 4 * (pin / 8)) (Some w) s in
    record {
      fall = fallen_is t outs pin low ∙ ap (λ (e : Edges). has_bit e.low pin) (writes_intr (pin / 8) here s w)
          ∙ left_bit w 2 s.latched.low s.fresh.low pin low
          ∙ ap (λ x. x && (has_bit s.fresh.low pin || not (has_bit w (4 * (pin % 8) + 2)))) (sym (fallen_is s outs pin low));
      rise = risen_is t outs pin low ∙ ap (λ (e : Edges). has_bit e.high pin) (writes_intr (pin / 8) here s w)
          ∙ left_bit w 3 s.latched.high s.fresh.high pin low
          ∙ ap (λ x. x && (has_bit s.fresh.high pin || not (has_bit w (4 * (pin % 8) + 3)))) (sym (risen_is s outs pin low));
    }
