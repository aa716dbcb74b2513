-- PADS_BANK0 has 31 words.
use Rattle.std.proofs.Common.{◌≡◌, ℕ, ◌+◌, ◌-◌, ◌<◌, true, false, Some, None, refl, ap, arith}
use Rattle.std.specs.Prelude.{nat_lt}
use Rattle.rp_base.proofs.Rows.{none_above}
use Rattle.std.proofs.lemmas.Bool.Decides.{nat_tests}
use Rattle.io_bank.specs.Offsets.{PADS_BANK0, PAD_GPIO29}
use Rattle.rp_base.specs.Held.{unless_held}
use Rattle.io_bank.specs.Words.{is_word, is_held, bank_rows}
use Rattle.outer_lane.specs.declared.world.SeenOutputs.{SeenOutputs}
use Rattle.outer_lane.specs.Setting.{Setting}
use Rattle.outer_lane.specs.State.{State}
use Rattle.outer_lane.specs.Words.{outs_now, pads_word}

above : (offset : ℕ) → PAD_GPIO29 - PADS_BANK0 < offset → nat_lt (PADS_BANK0 + offset) 0x1079 ≡ false
above offset h = grind (arith, nat_tests)

pub no_pad_word : (offset : ℕ) → PAD_GPIO29 - PADS_BANK0 < offset → is_word (PADS_BANK0 + offset) ≡ false
no_pad_word offset h = none_above false (λ row n. true) 0x1079 bank_rows (PADS_BANK0 + offset) refl (above offset h)

pub none_there : (offset : ℕ) (w : Setting) (seen : SeenOutputs) (o : State) → PAD_GPIO29 - PADS_BANK0 < offset →
    pads_word (PADS_BANK0 + offset) w seen o ≡ None
unfolding pads_word
none_there offset w seen o h =
    ap (unless_held (is_held (PADS_BANK0 + offset) o.pads))
    (none_above None (λ row n. Some (row.reads n (outs_now w seen o) o.pads))
    0x1079 bank_rows (PADS_BANK0 + offset) refl (above offset h))
