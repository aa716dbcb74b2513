-- The 68 words that hold the PWM block: eight for each slice, and after them the outputs of all pins, the slices that are enabled
-- with the interrupt line, the last levels of the pads, and the interrupts.
use Rattle.std.specs.Prelude.{ℕ, zero, suc, ◌+◌, ◌*◌, ◌/◌, ◌%◌, ◌^◌, List, [], ◌∷◌, ◌++◌, take, drop, slice_index}
use Rattle.rp_base.specs.Word.{has_bit, bit_number}
use Rattle.pwm_block.specs.State.{Slice, State}
use Rattle.pwm_block.specs.Outputs.{pins_of, line_of, enabled_of}

-- ---- the eight words of a slice

abbrev pub slice_of : List ℕ → Slice
slice_of ws =
    record {
      csr = slice_index ws 0 % 2 ^ 6;
      div = slice_index ws 1;
      ctr = slice_index ws 2;
      cc = slice_index ws 3;
      top = slice_index ws 4;
      live_cc = slice_index ws 5;
      live_top = slice_index ws 6;
      down = has_bit (slice_index ws 0) 6;
      acc = slice_index ws 7;
    }

abbrev pub slice_words : Slice → List ℕ
slice_words s =
    (s.csr % 2 ^ 6 + bit_number s.down * 2 ^ 6)
    ∷ s.div ∷ s.ctr ∷ s.cc ∷ s.top ∷ s.live_cc ∷ s.live_top ∷ s.acc ∷ []

-- so many slices
unfoldable pub slices_in : ℕ → List ℕ → List Slice
slices_in zero ws = []
slices_in (suc n) ws = slice_of (take 8 ws) ∷ slices_in n (drop 8 ws)

abbrev pub all_words : List Slice → List ℕ
all_words [] = []
all_words (s ∷ ss) = slice_words s ++ all_words ss

-- ---- the block

-- the enabled slices, and above them the interrupt line
abbrev pub signs_of : State → ℕ
signs_of b = enabled_of b + line_of b * 2 ^ 8

abbrev pub interrupt_word : State → ℕ
interrupt_word b = b.raised % 2 ^ 8 + b.enabled % 2 ^ 8 * 2 ^ 8 + b.forced % 2 ^ 8 * 2 ^ 16

abbrev pub words_of : State → List ℕ
words_of b = all_words b.slices ++ pins_of b ∷ signs_of b ∷ b.last ∷ interrupt_word b ∷ []

abbrev pub block_of : List ℕ → State
block_of ws =
    record {
      slices = slices_in 8 ws;
      last = slice_index ws 66;
      raised = slice_index ws 67 % 2 ^ 8;
      enabled = slice_index ws 67 / 2 ^ 8 % 2 ^ 8;
      forced = slice_index ws 67 / 2 ^ 16 % 2 ^ 8;
    }
