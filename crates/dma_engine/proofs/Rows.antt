-- The rows of the channels, by numbers and indices, and those of the block.
use Rattle.std.proofs.Common.{◌≡◌, refl, sym, ap, ◌∙◌, ℕ, ◌/◌, ◌%◌, ◌<◌, true, false, cond, Some, None, arith, rules}
use Rattle.std.specs.Prelude.{◌≤◌, nat_lt, is_some, ⊤}
use Rattle.std.proofs.lemmas.Grind.{common_steps}
use Rattle.std.proofs.lemmas.Bool.Decides.{nat_tests}
use Rattle.rp_base.specs.Rows.{IsListed, Row, at_row, word_at, effect_at}
use Rattle.rp_base.proofs.Rows.{listed, cut, in_stride, strided, still}
use Rattle.dma_engine.specs.State.{State}
use Rattle.dma_engine.specs.Words.{channel_rows, block_rows, dma_rows, word_of, is_word, effect_of}

pub registers : IsListed dma_rows
registers = listed dma_rows refl

low : {A : Type 0} (none : A) (found : Row ⊤ State → ℕ → A) (at : ℕ) → at < 0x300
    → at_row none found dma_rows at ≡ in_stride 0 none (λ row. found row (at / 64)) channel_rows (at % 64)
low none found at h =
    let is : nat_lt at 0x300 ≡ true = grind (arith, nat_tests, common_steps) in
    cut none found 0x300 channel_rows block_rows at refl
    ∙ ap (λ b. cond b (at_row none found channel_rows at) (at_row none found block_rows at)) is
    ∙ strided none found 0 12 64 channel_rows (at / 64) (at % 64) at refl (omega (arith, h)) (omega arith) (omega arith)

high : {A : Type 0} (none : A) (found : Row ⊤ State → ℕ → A) (at : ℕ) → 0x300 ≤ at → at_row none found dma_rows at ≡ at_row none found block_rows at
high none found at h =
    let is : nat_lt at 0x300 ≡ false = grind (arith, nat_tests, common_steps) in
    cut none found 0x300 channel_rows block_rows at refl
    ∙ ap (λ b. cond b (at_row none found channel_rows at) (at_row none found block_rows at)) is

pub low_word : (s : State) (at : ℕ) → at < 0x300
    → word_of at s ≡ in_stride 0 None (λ row. Some (row.reads (at / 64) tt s)) (channel_rows {V = ⊤}) (at % 64)
unfolding word_of
low_word s at h = low None (λ row n. Some (row.reads n tt s)) at h

pub high_word : (s : State) (at : ℕ) → 0x300 ≤ at → word_of at s ≡ word_at (block_rows {V = ⊤}) tt at s
unfolding word_of
high_word s at h = high None (λ row n. Some (row.reads n tt s)) at h

pub low_write : (at w : ℕ) (s : State) → at < 0x300
    → effect_of at (Some w) s ≡ in_stride 0 s (λ row. row.write_does (at / 64) w s) (channel_rows {V = ⊤}) (at % 64)
unfolding effect_of
low_write at w s h = low s (λ row n. row.write_does n w s) at h

pub high_write : (at w : ℕ) (s : State) → 0x300 ≤ at → effect_of at (Some w) s ≡ effect_at (block_rows {V = ⊤}) at (Some w) s
unfolding effect_of
high_write at w s h = high s (λ row n. row.write_does n w s) at h

-- a read does nothing
pub reads : (at : ℕ) (s : State) → effect_of at None s ≡ s
unfolding effect_of
reads at s = still dma_rows at s (search rules)

pub there : (s : State) (at : ℕ) → is_some (word_of at s) ≡ is_word at
unfolding word_of is_word
there s at = sym (registers.is_word at tt s)
