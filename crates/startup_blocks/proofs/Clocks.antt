-- Where CLOCKS has words.
use Rattle.std.proofs.Common.{◌≡◌, ℕ, ◌%◌, Bool, false, refl, ap}
use Rattle.std.specs.Prelude.{◌==◌, ◌&&◌, nat_lt}
use Rattle.rp_base.specs.Rows.{has_row}
use Rattle.rp_base.proofs.Rows.{told}
use Rattle.startup_blocks.specs.Words.{clocks_rows}

test : ℕ → Bool
test at = nat_lt at 0x80 && at % 4 == 0

high : (at : ℕ) → nat_lt at 0x80 ≡ false → test at ≡ false
unfolding test
high at h = ap (λ b. b && at % 4 == 0) h

pub has_clocks : (at : ℕ) → (nat_lt at 0x80 && at % 4 == 0) ≡ has_row clocks_rows at
unfolding test
has_clocks at = told test 0x80 clocks_rows at refl refl (high at)
