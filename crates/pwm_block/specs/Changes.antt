-- What a change of the code does to each slice, and of which slices it makes wraps.
use Rattle.std.specs.Prelude.{ℕ, Bool, false}
use Rattle.pwm_block.specs.declared.change.Change.{Change}
use Rattle.pwm_block.specs.declared.change.Change.TheVariants as change
use Rattle.pwm_block.specs.State.{Slice, slice_at_reset}
use Rattle.pwm_block.specs.Step.{after_slice, has_wrap, input_of}
use Rattle.pwm_block.specs.Words.{with_csr, with_div, with_ctr, with_cc, with_top, with_enable, only}

abbrev pub by : Change → ℕ → Slice → Slice
by (change.Step pads last) = λ n s. after_slice (input_of pads n) (input_of last n) s
by (change.Csr number word) = only number (with_csr word)
by (change.Div number word) = only number (with_div word)
by (change.Ctr number word) = only number (with_ctr word)
by (change.Cc number word) = only number (with_cc word)
by (change.Top number word) = only number (with_top word)
by (change.Enable word) = with_enable word
by change.Reset = λ n s. slice_at_reset
by change.Nothing = λ n s. s

abbrev pub wraps_by : Change → ℕ → Slice → Bool
wraps_by (change.Step pads last) = λ n s. has_wrap (input_of pads n) (input_of last n) s
wraps_by (change.Csr number word) = λ n s. false
wraps_by (change.Div number word) = λ n s. false
wraps_by (change.Ctr number word) = λ n s. false
wraps_by (change.Cc number word) = λ n s. false
wraps_by (change.Top number word) = λ n s. false
wraps_by (change.Enable word) = λ n s. false
wraps_by change.Reset = λ n s. false
wraps_by change.Nothing = λ n s. false
