-- Cycles in which a core is quiet: it is asleep, or stands in WFI or WFE and nothing wakes it (ARMv6-M Architecture Reference Manual, A6.7.75,
-- WFE, A6.7.76, WFI, and B1.5.18, the event register).
use Rattle.std.specs.Prelude.{◌≡◌, ℕ, ◌+◌, ◌<◌, ◌≤◌, ◌==◌, ◌&&◌, ◌||◌, Bool, false, [], ◌∷◌, Option, None, Some}
use Rattle.lane_look.specs.declared.lane.Ask.{Ask}
use Rattle.lane_look.specs.declared.lane.Ask.TheVariants.{Lines}
use Rattle.lane_look.specs.declared.lane.Want.TheVariants as want
use Rattle.lane_look.specs.declared.lane.Turn.TheVariants as turn
use Rattle.lane_look.specs.Asking.{answered}
use Rattle.lane_look.specs.Times.{times}
use Rattle.m0_core.specs.declared.doing.Work.{Work}
use Rattle.m0_core.specs.declared.doing.Work.TheVariants as works
use Rattle.m0_core.specs.Kinds.{awaits_event, awaits_interrupt}
use Rattle.m0_core.specs.Fetch.{asks}
use Rattle.m0_core.specs.Cycle.{want_of, next, is_paused}
use Rattle.m0_core.specs.State.{State}

-- a cycle with these interrupt lines, in which nothing is given for a want
abbrev pub rested : ℕ → ℕ → State → State
rested lines cycle s = next s (answered (λ ask. lines) (asks s cycle)) (turn.Nothing ∷ turn.Nothing ∷ [])

-- in each of so many cycles with these lines the core reads no other answer and wants nothing, and its offer stays
pub record IsQuiet (lines : ℕ) (s : State) (cycle n : ℕ) : Type 0 where
  pub begins : (k : ℕ) → k < n → (answer : Ask → ℕ) → answer Lines ≡ lines
      → answered answer (asks (times (rested lines) cycle k s) (cycle + k))
      ≡ answered (λ ask. lines) (asks (times (rested lines) cycle k s) (cycle + k))
  pub wants : (k : ℕ) → k < n → want_of (answered (λ ask. lines) (asks (times (rested lines) cycle k s) (cycle + k))) ≡ want.Nothing
  pub offer : (k : ℕ) → k ≤ n → (times (rested lines) cycle k s).offer ≡ s.offer

-- WFI or WFE is in progress
abbrev pub is_wait : Option Work → Bool
is_wait (Some (works.Instruction op)) = awaits_interrupt op || awaits_event op
is_wait _ = false

-- the core is asleep, or in the second beat of WFI or WFE
abbrev pub is_waiting : State → Bool
is_waiting s = s.asleep || ((s.beats_done == 1) && is_wait s.work)

-- the second beat of WFI or WFE lasts on
abbrev pub is_lasting : Option Work → State → Bool
is_lasting None s = false
is_lasting (Some work) s = is_paused work s
