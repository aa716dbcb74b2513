-- The rows of IO_BANK0 and PADS_BANK0 in their three parts.
use Rattle.std.proofs.Common.{◌≡◌, refl, ap, ◌∙◌, ℕ, ◌/◌, ◌%◌, ◌<◌, Bool, true, false, ◌&&◌, ◌||◌, Some, None, ◌++◌, arith}
use Rattle.std.specs.Prelude.{◌==◌, nat_le, nat_lt, if◌then◌else◌}
use Rattle.std.proofs.lemmas.Grind.{common_steps}
use Rattle.std.proofs.lemmas.Bool.Decides.{nat_tests}
use Rattle.rp_base.specs.Rows.{IsListed, Each, is_at, number_at, Row, at_row, word_at, has_row, effect_at}
use Rattle.rp_base.proofs.Rows.{listed, cut, told}
use Rattle.io_bank.specs.declared.outputs.Outs.{Outs}
use Rattle.io_bank.specs.State.{State}
use Rattle.io_bank.specs.Words.{pin_rows, event_rows, pad_rows, bank_rows}

pub registers : IsListed bank_rows
registers = listed bank_rows refl

parts : {A : Type 0} (none : A) (found : Row Outs State → ℕ → A) (at : ℕ)
    → at_row none found bank_rows at
    ≡ (if nat_lt at 0x0f0 then at_row none found pin_rows at else
    if nat_lt at 0x1000 then at_row none found event_rows at else at_row none found pad_rows at)
parts none found at =
    cut none found 0x0f0 pin_rows (event_rows ++ pad_rows) at refl
    ∙ ap (λ x. if nat_lt at 0x0f0 then at_row none found pin_rows at else x) (cut none found 0x1000 event_rows pad_rows at refl)

pub words : (outs : Outs) (at : ℕ) (s : State) → word_at bank_rows outs at s
    ≡ (if nat_lt at 0x0f0 then word_at pin_rows outs at s else if nat_lt at 0x1000 then word_at event_rows outs at s else word_at pad_rows outs at s)
words outs at s = parts None (λ row n. Some (row.reads n outs s)) at

pub writes : (at w : ℕ) (s : State) → effect_at bank_rows at (Some w) s
    ≡ (if nat_lt at 0x0f0 then effect_at pin_rows at (Some w) s else if nat_lt at 0x1000 then effect_at (event_rows {V = Outs}) at (Some w) s else effect_at (pad_rows {V = Outs}) at (Some w) s)
writes at w s = parts s (λ row n. row.write_does n w s) at

-- the offsets of the words
abbrev test : ℕ → Bool
test at = at % 4 == 0 && (nat_lt at 0x160 || (nat_le 0x1000 at && nat_le at 0x1078))

high : (at : ℕ) → nat_lt at 0x1080 ≡ false → test at ≡ false
high at h = grind (arith, nat_tests, common_steps)

pub words_there : (at : ℕ) → (at % 4 == 0 && (nat_lt at 0x160 || (nat_le 0x1000 at && nat_le at 0x1078))) ≡ has_row bank_rows at
words_there at = told test 0x1080 bank_rows at refl refl (high at)

-- the offset of a STATUS
pub is_status : (at : ℕ) → at < 240 → at % 8 ≡ 0 → is_at (Each 0 30 8) at ≡ true
is_status at h e = grind (arith, nat_tests, common_steps)

pub pin_of : (at : ℕ) → number_at (Each 0 30 8) at ≡ at / 8
pin_of at = ap (λ n. n / 8) (omega arith)
