-- Of each pin the highest machine that wrote it decides.
use Rattle.std.proofs.Common.{◌≡◌, ◌∙◌, ap, ℕ, zero, suc, ◌+◌, ◌^◌, ◌<◌, List, [], ◌∷◌, length, refl, arith}
use Rattle.std.specs.Int.{bit_at}
use Rattle.pio_machine.specs.declared.machine.Machine1.{Machine1}
use Rattle.pio_machine.specs.declared.machine.Seen.{Seen}
use Rattle.pio_machine.specs.declared.machine.Done.{Done}
use Rattle.pio_machine.specs.Start.{nothing_done}
use Rattle.pio_machine.specs.Cycle.{written_in_cycle}
use Rattle.pio_machine.specs.Drives.{decided}
use Rattle.pio_machine.proofs.Drives.{bit_overlaid, the_later_machine_decides, mask_fits, enable_mask_fits}
use Rattle.pio_block.specs.Cycle.{seen_by, written_from, all_written, joined, after_cycle}
use Rattle.pio_block.specs.Laws.{own, IsOfTheHighest, TheHighestMachineDecides}

-- ---- one pin, by the four masks and bits

wrote : (m x before r : ℕ) → r ≡ decided m x before → m ≡ 1 → r ≡ x
wrote m x before r e h = e ∙ ap (λ k. decided k x before) h

left : (m x before r : ℕ) → r ≡ decided m x before → m ≡ 0 → r ≡ before
left m x before r e h = e ∙ ap (λ k. decided k x before) h

-- the masks and bits after two, three and four machines
record Chain (mask bit : ℕ → ℕ) (before after : ℕ) : Type 0 where
  m2 : ℕ
  m3 : ℕ
  m4 : ℕ
  x2 : ℕ
  x3 : ℕ
  x4 : ℕ
  second_mask : m2 ≡ decided (mask 1) 1 (mask 0)
  second_bit : x2 ≡ decided (mask 1) (bit 1) (bit 0)
  third_mask : m3 ≡ decided (mask 2) 1 m2
  third_bit : x3 ≡ decided (mask 2) (bit 2) x2
  fourth_mask : m4 ≡ decided (mask 3) 1 m3
  fourth_bit : x4 ≡ decided (mask 3) (bit 3) x3
  end : after ≡ decided m4 x4 before

-- the highest of four by its number
pick : (mask bit : ℕ → ℕ) (after : ℕ)
    → (mask 0 ≡ 1 → mask 1 ≡ 0 → mask 2 ≡ 0 → mask 3 ≡ 0 → after ≡ bit 0)
    → (mask 1 ≡ 1 → mask 2 ≡ 0 → mask 3 ≡ 0 → after ≡ bit 1)
    → (mask 2 ≡ 1 → mask 3 ≡ 0 → after ≡ bit 2)
    → (mask 3 ≡ 1 → after ≡ bit 3)
    → (k : ℕ) → k < 4 → mask k ≡ 1 → ((j : ℕ) → k < j → j < 4 → mask j ≡ 0) → after ≡ bit k
pick mask bit after p q r s zero low h others =
    p h (others 1 (omega arith) (omega arith)) (others 2 (omega arith) (omega arith)) (others 3 (omega arith) (omega arith))
pick mask bit after p q r s (suc zero) low h others =
    q h (others 2 (omega arith) (omega arith)) (others 3 (omega arith) (omega arith))
pick mask bit after p q r s (suc (suc zero)) low h others = r h (others 3 (omega arith) (omega arith))
pick mask bit after p q r s (suc (suc (suc zero))) low h others = s h
pick mask bit after p q r s (suc (suc (suc (suc k)))) low h others = absurd (omega (arith, low))

chain : (mask bit : ℕ → ℕ) (before after : ℕ) → Chain mask bit before after → IsOfTheHighest mask bit before after
chain mask bit before after c =
    let up_mask : mask 3 ≡ 0 → c.m4 ≡ c.m3 = λ h. left (mask 3) 1 c.m3 c.m4 c.fourth_mask h in
    let up_bit : mask 3 ≡ 0 → c.x4 ≡ c.x3 = λ h. left (mask 3) (bit 3) c.x3 c.x4 c.fourth_bit h in
    let mid_mask : mask 2 ≡ 0 → c.m3 ≡ c.m2 = λ h. left (mask 2) 1 c.m2 c.m3 c.third_mask h in
    let mid_bit : mask 2 ≡ 0 → c.x3 ≡ c.x2 = λ h. left (mask 2) (bit 2) c.x2 c.x3 c.third_bit h in
    let low_mask : mask 1 ≡ 0 → c.m2 ≡ mask 0 = λ h. left (mask 1) 1 (mask 0) c.m2 c.second_mask h in
    let low_bit : mask 1 ≡ 0 → c.x2 ≡ bit 0 = λ h. left (mask 1) (bit 1) (bit 0) c.x2 c.second_bit h in
    let ends : c.m4 ≡ 1 → after ≡ c.x4 = λ h. wrote c.m4 c.x4 before after c.end h in
    let of_third : mask 3 ≡ 1 → after ≡ bit 3 = λ h.
    ends (wrote (mask 3) 1 c.m3 c.m4 c.fourth_mask h) ∙ wrote (mask 3) (bit 3) c.x3 c.x4 c.fourth_bit h in
    let of_second : mask 2 ≡ 1 → mask 3 ≡ 0 → after ≡ bit 2 = λ h k.
    ends (up_mask k ∙ wrote (mask 2) 1 c.m2 c.m3 c.third_mask h) ∙ up_bit k ∙ wrote (mask 2) (bit 2) c.x2 c.x3 c.third_bit h in
    let of_first : mask 1 ≡ 1 → mask 2 ≡ 0 → mask 3 ≡ 0 → after ≡ bit 1 = λ h k l.
    ends (up_mask l ∙ mid_mask k ∙ wrote (mask 1) 1 (mask 0) c.m2 c.second_mask h) ∙ up_bit l ∙ mid_bit k
    ∙ wrote (mask 1) (bit 1) (bit 0) c.x2 c.second_bit h in
    let of_zeroth : mask 0 ≡ 1 → mask 1 ≡ 0 → mask 2 ≡ 0 → mask 3 ≡ 0 → after ≡ bit 0 = λ h i k l.
    ends (up_mask l ∙ mid_mask k ∙ low_mask i ∙ h) ∙ up_bit l ∙ mid_bit k ∙ low_bit i in
    record {
      decided = pick mask bit after of_zeroth of_first of_second of_third;
      stays = λ none. left c.m4 c.x4 before after c.end
          (up_mask (none 3 (omega arith)) ∙ mid_mask (none 2 (omega arith)) ∙ low_mask (none 1 (omega arith)) ∙ none 0 (omega arith));
    }

-- ---- the four machines

-- in a cycle of a machine its own mask decides of a pin, for the mask and for the bits
abbrev IsDeciding : ℕ → Seen → (Done → ℕ) → (Done → ℕ) → Type 0
IsDeciding pin seen mask bits =
    (number : ℕ) (m : Machine1) (d : Done)
    → (bit_at (mask (written_in_cycle number seen m d)) pin
    ≡ decided (bit_at (mask (written_in_cycle number seen m nothing_done)) pin) 1 (bit_at (mask d) pin))
    × (bit_at (bits (written_in_cycle number seen m d)) pin
    ≡ decided (bit_at (mask (written_in_cycle number seen m nothing_done)) pin) (bit_at (bits (written_in_cycle number seen m nothing_done)) pin) (bit_at (bits d) pin))

four_decide : (pin : ℕ) (seen : Seen) (mask bits : Done → ℕ) → IsDeciding pin seen mask bits → (a b c d : Machine1) (before : ℕ)
    → Chain (λ k. bit_at (mask (own k seen (a ∷ b ∷ c ∷ d ∷ []))) pin) (λ k. bit_at (bits (own k seen (a ∷ b ∷ c ∷ d ∷ []))) pin) before
    (decided (bit_at (mask (written_from 0 seen (a ∷ b ∷ c ∷ d ∷ []) nothing_done)) pin) (bit_at (bits (written_from 0 seen (a ∷ b ∷ c ∷ d ∷ []) nothing_done)) pin) before)
four_decide pin seen mask bits h a b c d before =
    let d1 = written_in_cycle 0 seen a nothing_done in
    let d2 = written_in_cycle 1 seen b d1 in
    let d3 = written_in_cycle 2 seen c d2 in
    let d4 = written_in_cycle 3 seen d d3 in
    record {
      m2 = bit_at (mask d2) pin;
      m3 = bit_at (mask d3) pin;
      m4 = bit_at (mask d4) pin;
      x2 = bit_at (bits d2) pin;
      x3 = bit_at (bits d3) pin;
      x4 = bit_at (bits d4) pin;
      second_mask = (h 1 b d1).0;
      second_bit = (h 1 b d1).1;
      third_mask = (h 2 c d2).0;
      third_bit = (h 2 c d2).1;
      fourth_mask = (h 3 d d3).0;
      fourth_bit = (h 3 d d3).1;
      end = refl;
    }

-- a pin is decided as this list of machines says
of_four : (pin : ℕ) (seen : Seen) (mask bits : Done → ℕ) → IsDeciding pin seen mask bits → (ms : List Machine1) (before : ℕ) → length ms ≡ 4
    → IsOfTheHighest (λ k. bit_at (mask (own k seen ms)) pin) (λ k. bit_at (bits (own k seen ms)) pin) before
    (decided (bit_at (mask (written_from 0 seen ms nothing_done)) pin) (bit_at (bits (written_from 0 seen ms nothing_done)) pin) before)
of_four pin seen mask bits h (a ∷ b ∷ c ∷ d ∷ []) before four = chain _ _ _ _ (four_decide pin seen mask bits h a b c d before)
of_four pin seen mask bits h _ before four = absurd (omega (arith, four))

all_fit : (mask : Done → ℕ) (seen : Seen) → ((number : ℕ) (m : Machine1) (d : Done) → mask d < 2 ^ 32 → mask (written_in_cycle number seen m d) < 2 ^ 32)
    → (number : ℕ) (ms : List Machine1) (d : Done) → mask d < 2 ^ 32 → mask (written_from number seen ms d) < 2 ^ 32
all_fit mask seen keeps number [] d h = h
all_fit mask seen keeps number (m ∷ ms) d h =
    all_fit mask seen keeps (number + 1) ms (written_in_cycle number seen m d) (keeps number m d h)

-- what holds of the decided bit holds of the one that is left
of_the_same : (mask bit : ℕ → ℕ) (before after other : ℕ) → other ≡ after → IsOfTheHighest mask bit before after → IsOfTheHighest mask bit before other
of_the_same mask bit before after other e h =
    record { decided = λ k low m others. e ∙ h.decided k low m others; stays = λ none. e ∙ h.stays none }

pub the_highest_machine_decides : TheHighestMachineDecides
unfolding after_cycle all_written joined
the_highest_machine_decides now second pin s four low =
    let seen = seen_by now second s in
    let d = written_from 0 seen s.machines nothing_done in
    let levels : IsDeciding pin seen (λ e. e.level_mask) (λ e. e.levels) =
    λ number m e. let o = the_later_machine_decides number pin seen m e low in (o.level_mask, o.level) in
    let enables : IsDeciding pin seen (λ e. e.enable_mask) (λ e. e.enables) =
    λ number m e. let o = the_later_machine_decides number pin seen m e low in (o.enable_mask, o.enable) in
    let level_fits = all_fit (λ e. e.level_mask) seen (λ number m e h. mask_fits number seen m e h) 0 s.machines nothing_done (omega arith) in
    let enable_fits = all_fit (λ e. e.enable_mask) seen (λ number m e h. enable_mask_fits number seen m e h) 0 s.machines nothing_done (omega arith) in
    record {
      level = of_the_same _ _ _ _ _ (bit_overlaid d.level_mask d.levels s.levels pin level_fits low)
          (of_four pin seen (λ e. e.level_mask) (λ e. e.levels) levels s.machines (bit_at s.levels pin) four);
      enable = of_the_same _ _ _ _ _ (bit_overlaid d.enable_mask d.enables s.enables pin enable_fits low)
          (of_four pin seen (λ e. e.enable_mask) (λ e. e.enables) enables s.machines (bit_at s.enables pin) four);
    }
