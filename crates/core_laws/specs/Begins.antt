-- The instruction that a core begins is the one whose first halfword it fetches (ARMv6-M Architecture Reference Manual, A5.1).
use Rattle.std.specs.Prelude.{◌≡◌, ℕ, Option, Some, None}
use Rattle.lane_look.specs.declared.lane.Ask.{Ask}
use Rattle.lane_look.specs.declared.lane.Ask.TheVariants.{Half}
use Rattle.lane_look.specs.Asking.{Asking}
use Rattle.lane_look.specs.Asking.Asking.{Ready, Question}
use Rattle.m0_core.specs.Begins.{begins}
use Rattle.m0_core.specs.Fetch.{asks}
use Rattle.m0_core.specs.State.{State}

-- the first halfword that is asked for, where these are the answers
abbrev pub first_half : {B : Type 0} → (Ask → ℕ) → Asking B → Option ℕ
first_half f (Ready begun) = None
first_half f (Question (Half address) next) = Some address
first_half f (Question ask next) = first_half f (next (f ask))

-- in every cycle that is the one that the core asks for, whatever it is answered
abbrev pub WhatBeginsIsFetchedFirst : Type 0
WhatBeginsIsFetchedFirst = (s : State) (cycle : ℕ) (f : Ask → ℕ) → begins s ≡ first_half f (asks s cycle)
