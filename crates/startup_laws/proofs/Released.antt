-- What is written to RESET is what RESET_DONE is the complement of.
use Rattle.std.proofs.Common.{◌≡◌, ◌<◌, ◌-◌, ◌%◌, ◌^◌, ℕ, List, [], ◌∷◌, length, Some, refl, ap, arith}
use Rattle.std.specs.Prelude.{slice_index, slice_set}
use Rattle.rp_machine.specs.Registers.{with_reset}
use Rattle.startup_laws.specs.Waits.{WhatIsReleasedIsDone}

set_first : (words : List ℕ) (w : ℕ) → 0 < length words → slice_index (slice_set words 0 w) 0 ≡ w
set_first [] w some = absurd (omega (arith, some))
set_first (word ∷ words) w some = refl

pub released : WhatIsReleasedIsDone
unfolding with_reset
released s w some = ap (λ held. Some (2 ^ 25 - 1 - held)) (set_first s.resets (w % 2 ^ 25) some)
