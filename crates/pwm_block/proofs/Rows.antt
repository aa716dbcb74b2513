-- The rows of the slices, and those of the block; the words of a slice.
use Rattle.std.proofs.Common.{sym, ◌≡◌, ◌≢◌, ℕ, zero, suc, ◌+◌, ◌*◌, ◌/◌, ◌%◌, ◌^◌, ◌<◌, false, refl, ap, ◌∙◌, arith, Some, None, List, take, drop, get_or}
use Rattle.std.specs.Prelude.{◌==◌, nat_lt, if◌then◌else◌, slice_index_or, ⊤}
use Rattle.std.proofs.lemmas.Grind.{common_steps}
use Rattle.std.proofs.lemmas.Bool.Decides.{nat_tests}
use Rattle.std.proofs.lemmas.List.{get_or-drop, get_or-take, drop-drop}
use Rattle.rp_base.specs.Rows.{IsListed, Row, at_row, word_at, effect_at}
use Rattle.rp_base.proofs.Rows.{listed, cut, in_stride, strided}
use Rattle.pwm_block.specs.State.{Slice, State, slice_at_reset, slice_at}
use Rattle.pwm_block.specs.Words.{with_csr, with_div, with_ctr, with_cc, with_top, only, with_slices, slice_rows, block_rows, pwm_rows}
use Rattle.pwm_block.specs.Packing.{slice_of, slices_in, block_of}
use Rattle.pwm_block.proofs.Slices.{one_more}

pub registers : IsListed pwm_rows
registers = listed pwm_rows refl

pub words : (at : ℕ) (b : State) → word_at pwm_rows tt at b
    ≡ (if nat_lt at 0xa0 then word_at slice_rows tt at b else word_at block_rows tt at b)
words at b = cut None (λ row n. Some (row.reads n tt b)) 0xa0 slice_rows block_rows at refl

pub writes : (at w : ℕ) (b : State) → effect_at pwm_rows at (Some w) b
    ≡ (if nat_lt at 0xa0 then effect_at slice_rows at (Some w) b else effect_at block_rows at (Some w) b)
writes at w b = cut b (λ row n. row.write_does n w b) 0xa0 slice_rows block_rows at refl

-- ---- the rows of the slices

by-slice : {A : Type 0} (none : A) (found : Row ⊤ State → ℕ → A) (at j : ℕ) → at < 160 → at % 20 ≡ j
    → at_row none found slice_rows at ≡ in_stride 0 none (λ row. found row (at / 20)) slice_rows j
by-slice none found at j h e = strided none found 0 8 20 slice_rows (at / 20) j at refl (omega arith) (omega (arith, e)) (omega (arith, e))

other : (j k : ℕ) → j ≢ k → (0 + j == k) ≡ false
other j k h = grind (arith, nat_tests, common_steps)

at-none : {A : Type 0} (none : A) (found : Row ⊤ State → ℕ → A) (at : ℕ) → at < 160
    → at % 20 ≢ 0 → at % 20 ≢ 4 → at % 20 ≢ 8 → at % 20 ≢ 12 → at % 20 ≢ 16 → at_row none found slice_rows at ≡ none
at-none none found at low e f g h i =
    by-slice none found at (at % 20) low refl
    ∙ rw (other (at % 20) 0 e, other (at % 20) 4 f, other (at % 20) 8 g, other (at % 20) 12 h, other (at % 20) 16 i) refl

-- ---- what is written there

pub csr_write : (at w : ℕ) (b : State) → at < 160 → at % 20 ≡ 0
    → effect_at slice_rows at (Some w) b ≡ with_slices (only (at / 20) (with_csr w)) b
csr_write at w b h e = by-slice b (λ row n. row.write_does n w b) at 0 h e

pub div_write : (at w : ℕ) (b : State) → at < 160 → at % 20 ≡ 4
    → effect_at slice_rows at (Some w) b ≡ with_slices (only (at / 20) (with_div w)) b
div_write at w b h e = by-slice b (λ row n. row.write_does n w b) at 4 h e

pub ctr_write : (at w : ℕ) (b : State) → at < 160 → at % 20 ≡ 8
    → effect_at slice_rows at (Some w) b ≡ with_slices (only (at / 20) (with_ctr w)) b
ctr_write at w b h e = by-slice b (λ row n. row.write_does n w b) at 8 h e

pub cc_write : (at w : ℕ) (b : State) → at < 160 → at % 20 ≡ 12
    → effect_at slice_rows at (Some w) b ≡ with_slices (only (at / 20) (with_cc w)) b
cc_write at w b h e = by-slice b (λ row n. row.write_does n w b) at 12 h e

pub top_write : (at w : ℕ) (b : State) → at < 160 → at % 20 ≡ 16
    → effect_at slice_rows at (Some w) b ≡ with_slices (only (at / 20) (with_top w)) b
top_write at w b h e = by-slice b (λ row n. row.write_does n w b) at 16 h e

pub no_write : (at w : ℕ) (b : State) → at < 160 → at % 20 ≢ 0 → at % 20 ≢ 4 → at % 20 ≢ 8 → at % 20 ≢ 12 → at % 20 ≢ 16
    → effect_at slice_rows at (Some w) b ≡ b
no_write at w b low e f g h i = at-none b (λ row n. row.write_does n w b) at low e f g h i

-- ---- what is read there

-- slice k of so many
pub slice_in : (n k : ℕ) (ws : List ℕ) → k < n → slice_index_or (slices_in n ws) k slice_at_reset ≡ slice_of (take 8 (drop (k * 8) ws))
slice_in zero k ws h = absurd (omega arith)
slice_in (suc n) zero ws h = ap (λ (ss : List Slice). slice_index_or ss 0 slice_at_reset) (one_more n ws)
slice_in (suc n) (suc k) ws h =
    ap (λ (ss : List Slice). slice_index_or ss (suc k) slice_at_reset) (one_more n ws)
    ∙ slice_in n k (drop 8 ws) (omega arith)
    ∙ ap (λ (xs : List ℕ). slice_of (take 8 xs)) (later (k * 8) (suc k * 8) ws (omega arith))
  where
    later : (i j : ℕ) (xs : List ℕ) → j ≡ 8 + i → drop i (drop 8 xs) ≡ drop j xs
    later i j xs e = drop-drop i 8 xs ∙ ap (λ (m : ℕ). drop m xs) (sym e)

-- word j of slice k
pub word_in : (j k : ℕ) (ws : List ℕ) → j < 8 → get_or (take 8 (drop (k * 8) ws)) j 0 ≡ get_or ws (k * 8 + j) 0
word_in j k ws h = get_or-take 8 (drop (k * 8) ws) j 0 h ∙ get_or-drop (k * 8) ws j 0

abbrev slice_read : List ℕ → ℕ → Slice
slice_read ws at = slice_at (block_of ws) (at / 20)

read_of : (at : ℕ) (ws : List ℕ) → at < 160 → slice_read ws at ≡ slice_of (take 8 (drop (at / 20 * 8) ws))
read_of at ws h = slice_in 8 (at / 20) ws (omega arith)

pub csr_word : (at : ℕ) (ws : List ℕ) → at < 160 → at % 20 ≡ 0
    → word_at slice_rows tt at (block_of ws) ≡ Some (get_or ws (at / 20 * 8) 0 % 2 ^ 6)
csr_word at ws h e =
    by-slice None (λ row n. Some (row.reads n tt (block_of ws))) at 0 h e
    ∙ ap (λ (s : Slice). Some s.csr) (read_of at ws h)
    ∙ ap (λ (x : ℕ). Some (x % 2 ^ 6)) (word_in 0 (at / 20) ws (omega arith) ∙ ap (λ (i : ℕ). get_or ws i 0) (omega arith))

pub div_word : (at : ℕ) (ws : List ℕ) → at < 160 → at % 20 ≡ 4
    → word_at slice_rows tt at (block_of ws) ≡ Some (get_or ws (at / 20 * 8 + 1) 0)
div_word at ws h e =
    by-slice None (λ row n. Some (row.reads n tt (block_of ws))) at 4 h e
    ∙ ap (λ (s : Slice). Some s.div) (read_of at ws h)
    ∙ ap (λ (x : ℕ). Some x) (word_in 1 (at / 20) ws (omega arith))

pub ctr_word : (at : ℕ) (ws : List ℕ) → at < 160 → at % 20 ≡ 8
    → word_at slice_rows tt at (block_of ws) ≡ Some (get_or ws (at / 20 * 8 + 2) 0)
ctr_word at ws h e =
    by-slice None (λ row n. Some (row.reads n tt (block_of ws))) at 8 h e
    ∙ ap (λ (s : Slice). Some s.ctr) (read_of at ws h)
    ∙ ap (λ (x : ℕ). Some x) (word_in 2 (at / 20) ws (omega arith))

pub cc_word : (at : ℕ) (ws : List ℕ) → at < 160 → at % 20 ≡ 12
    → word_at slice_rows tt at (block_of ws) ≡ Some (get_or ws (at / 20 * 8 + 3) 0)
cc_word at ws h e =
    by-slice None (λ row n. Some (row.reads n tt (block_of ws))) at 12 h e
    ∙ ap (λ (s : Slice). Some s.cc) (read_of at ws h)
    ∙ ap (λ (x : ℕ). Some x) (word_in 3 (at / 20) ws (omega arith))

pub top_word : (at : ℕ) (ws : List ℕ) → at < 160 → at % 20 ≡ 16
    → word_at slice_rows tt at (block_of ws) ≡ Some (get_or ws (at / 20 * 8 + 4) 0)
top_word at ws h e =
    by-slice None (λ row n. Some (row.reads n tt (block_of ws))) at 16 h e
    ∙ ap (λ (s : Slice). Some s.top) (read_of at ws h)
    ∙ ap (λ (x : ℕ). Some x) (word_in 4 (at / 20) ws (omega arith))

pub no_word : (at : ℕ) (ws : List ℕ) → at < 160 → at % 20 ≢ 0 → at % 20 ≢ 4 → at % 20 ≢ 8 → at % 20 ≢ 12 → at % 20 ≢ 16
    → word_at slice_rows tt at (block_of ws) ≡ None
no_word at ws low e f g h i = at-none None (λ row n. Some (row.reads n tt (block_of ws))) at low e f g h i
