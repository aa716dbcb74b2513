-- The execution priority as a least element (ARMv6-M Architecture Reference Manual, B1.5.4), and what a line that is held high
-- leaves (B3.4.1).
use Rattle.std.specs.Prelude.{◌≡◌, ℕ, ◌+◌, ◌^◌, ◌<◌, Bool, true, false, ◌⊎◌, ℤ, pos, int_lt, List, [], ◌∷◌, length}
use Rattle.rp_base.specs.Word.{has_bit}
use Rattle.m0_nvic.specs.Exceptions.{INTERRUPT_0}
use Rattle.m0_nvic.specs.State.{State}
use Rattle.m0_nvic.specs.Numbers.{is_member}
use Rattle.m0_nvic.specs.Priority.{rank_of, priority_of}
use Rattle.m0_nvic.specs.Changes.{entered, left}
use Rattle.m0_nvic.specs.Cycle.{after_cycle}

-- an active exception has this priority; or PRIMASK is set, which has the priority 0; or no exception is active, PRIMASK is
-- clear, and the priority is 256
abbrev pub IsOfSome : State → Bool → ℤ → Type 0
IsOfSome s primask p =
    ((n : ℕ) × (is_member n s.active ≡ true) × (p ≡ rank_of s n))
    ⊎ (((primask ≡ true) × (p ≡ pos 0))
    ⊎ (((n : ℕ) → is_member n s.active ≡ false) × (primask ≡ false) × (p ≡ pos 256)))

-- it is the least of these
pub record IsLeastInForce (s : State) (primask : Bool) (p : ℤ) : Type 0 where
  pub of_some : IsOfSome s primask p
  pub of_active : (n : ℕ) → is_member n s.active ≡ true → int_lt (rank_of s n) p ≡ false
  pub of_mask : primask ≡ true → int_lt (pos 0) p ≡ false

abbrev pub ThePriorityIsTheLeast : Type 0
ThePriorityIsTheLeast = (s : State) (primask : Bool) → IsLeastInForce s primask (priority_of s primask)

-- ---- a line that is held high

-- the exceptions after one cycle for each of these words of lines, the first of that number
abbrev pub after_cycles : ℕ → List ℕ → State → State
after_cycles cycle [] s = s
after_cycles cycle (lines ∷ more) s = after_cycles (cycle + 1) more (after_cycle lines cycle s)

-- line i is high in each of these cycles
abbrev pub IsHeld : ℕ → List ℕ → Type 0
IsHeld i [] = Unit {0}
IsHeld i (lines ∷ more) = (has_bit lines i ≡ true) × IsHeld i more

-- after these cycles of its handler interrupt i is not pending. Behind a return in the cycle that follows them it is pending
-- exactly where its line is still high in that cycle
pub record PendsAgain (i cycle : ℕ) (held : List ℕ) (last : ℕ) (s : State) : Type 0 where
  pub silent : is_member (INTERRUPT_0 + i) (after_cycles cycle held (entered (INTERRUPT_0 + i) s)).pending ≡ false
  pub again : is_member (INTERRUPT_0 + i) (after_cycle last (cycle + length held)
      (left (INTERRUPT_0 + i) (after_cycles cycle held (entered (INTERRUPT_0 + i) s)))).pending ≡ has_bit last i

-- an interrupt is taken whose line is high, and the line is held high through its handler
abbrev pub AHeldLinePendsAgain : Type 0
AHeldLinePendsAgain =
    (i : ℕ) (s : State) (cycle : ℕ) (held : List ℕ) (last : ℕ)
    → i < 32
    → s.active < 2 ^ 64
    → has_bit s.lines i ≡ true
    → IsHeld i held
    → PendsAgain i cycle held last s
