-- Reads that change nothing.
use Rattle.std.proofs.Common.{◌≡◌, ℕ, Bool, true, false, None, refl, sym, rules}
use Rattle.std.specs.Prelude.{◌==◌, not, drop}
use Rattle.rp_base.proofs.Rows.{still, either-way}
use Rattle.rp_timer.specs.State.{State}
use Rattle.rp_timer.specs.Words.{timer_rows, effect_of, is_pure_read}

is_other : (b : Bool) → not b ≡ true → b ≡ false
is_other true e = sym e
is_other false e = refl

pub read_still : (offset : ℕ) (s : State) → is_pure_read offset ≡ true → effect_of offset None s ≡ s
read_still offset s e =
    rw (is_other (offset == 12) e)
    (either-way (λ (x : State). x ≡ s) (offset == 0) refl
    (either-way (λ (x : State). x ≡ s) (offset == 4) refl
    (either-way (λ (x : State). x ≡ s) (offset == 8) refl
    (still (drop 4 timer_rows) offset s (search rules)))))
