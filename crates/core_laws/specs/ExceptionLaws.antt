-- What exceptions do to a core, over its cycles (ARMv6-M Architecture Reference Manual, B1.5.4, priorities, B1.5.15, lockup and
-- faults, and A6.7.76, WFI).
use Rattle.std.specs.Prelude.{◌≡◌, ◌⊎◌, ℕ, Bool, true, false, ◌||◌, [], Some, None, bit_and, int_lt}
use Rattle.rp_base.specs.declared.op.Op.{Op}
use Rattle.rp_base.specs.declared.op.Op.TheVariants as op
use Rattle.m0_beats.specs.Instructions.{effect_of}
use Rattle.m0_nvic.specs.Exceptions.{NMI, HARDFAULT}
use Rattle.m0_nvic.specs.Numbers.{is_member}
use Rattle.m0_nvic.specs.Changes.{pended}
use Rattle.m0_nvic.specs.Priority.{IsLeast, rank_of, priority_of, wakes_of}
use Rattle.m0_nvic.specs.Cycle as nvic
use Rattle.m0_core.specs.declared.doing.Work.TheVariants as works
use Rattle.m0_core.specs.Kinds.{is_breakpoint}
use Rattle.m0_core.specs.Fetch.{is_faulty, is_locked, taken_of}
use Rattle.m0_core.specs.State.{State}
use Rattle.core_laws.specs.Laws.{Given, lines_in, after_cycle, IsAtBoundary, IsFetched}

-- ---- what is taken

-- the exceptions that are pending and enabled
abbrev pub candidates : State → ℕ
candidates s = bit_and s.nvic.pending s.nvic.enabled

-- an exception comes before the execution priority
abbrev pub comes_in : State → ℕ → Bool
comes_in s n = int_lt (rank_of s.nvic n) (priority_of s.nvic s.regs.primask)

-- what a core takes at a boundary is the least pair of priority and number among the exceptions that are pending and enabled,
-- and comes before the execution priority; where it takes none, none of them does
pub record TakesTheLeast (s : State) : Type 0 where
  pub taken : (n : ℕ) → taken_of s ≡ Some n → IsLeast s.nvic (candidates s) (Some n) × (comes_in s n ≡ true)
  pub untaken : taken_of s ≡ None → (n : ℕ) → is_member n (candidates s) ≡ true → comes_in s n ≡ false

abbrev pub WhatIsTakenIsTheLeast : Type 0
WhatIsTakenIsTheLeast = (s : State) → TakesTheLeast s

-- ---- faults

-- the instruction finds a fault that does not lock the core up
pub record Faults (op : Op) (s : State) : Type 0 where
  pub unbroken : is_breakpoint op ≡ false
  pub faulty : is_faulty op s ≡ true
  pub unlocked : is_locked s ≡ false

-- the core is at a boundary again, with HardFault pending; all else is as it was, but for what the timer and the interrupt lines
-- do in each cycle. HardFault's entry begins in the next cycle, unless NMI's does
pub record OnlyPendsHardFault (cycle : ℕ) (g : Given) (s t : State) : Type 0 where
  pub awake : t.asleep ≡ false
  pub kept : t.regs ≡ s.regs
  pub between : t.work ≡ None
  pub first : t.beats_done ≡ 0
  pub fresh : t.read ≡ []
  pub exceptions : t.nvic ≡ nvic.after_cycle (lines_in g) cycle (pended HARDFAULT s.nvic)
  pub event : t.event ≡ (s.event || nvic.is_event (lines_in g) cycle (pended HARDFAULT s.nvic))
  pub then_taken : is_member HARDFAULT s.nvic.enabled ≡ true → (taken_of t ≡ Some HARDFAULT) ⊎ (taken_of t ≡ Some NMI)

abbrev pub AFaultPendsHardFaultAlone : Type 0
AFaultPendsHardFaultAlone =
    (op : Op) (s : State) (cycle : ℕ) (g : Given)
    → IsAtBoundary s
    → IsFetched g.answers s.regs.pc op
    → Faults op s
    → OnlyPendsHardFault cycle g s (after_cycle cycle g s)

-- ---- WFI

-- the core is in the second beat of WFI
pub record IsInWfi (s : State) : Type 0 where
  pub awake : s.asleep ≡ false
  pub waits : s.work ≡ Some (works.Instruction op.Wfi)
  pub second : s.beats_done ≡ 1

-- it stays there, and the timer and the interrupt lines have their turn
pub record StaysInWfi (cycle : ℕ) (g : Given) (s t : State) : Type 0 where
  pub in_wfi : IsInWfi t
  pub kept : t.regs ≡ s.regs
  pub exceptions : t.nvic ≡ nvic.after_cycle (lines_in g) cycle s.nvic

-- WFI is over, and the core at a boundary
pub record LeavesWfi (cycle : ℕ) (g : Given) (s t : State) : Type 0 where
  pub awake : t.asleep ≡ false
  pub moved : t.regs ≡ effect_of op.Wfi s.regs s.read
  pub between : t.work ≡ None
  pub first : t.beats_done ≡ 0
  pub fresh : t.read ≡ []
  pub exceptions : t.nvic ≡ nvic.after_cycle (lines_in g) cycle s.nvic

-- WFI moves on exactly in a cycle at whose start an exception wakes
abbrev pub AWfiMovesOnWhereAnExceptionWakes : Type 0
AWfiMovesOnWhereAnExceptionWakes =
    (s : State) (cycle : ℕ) (g : Given) → IsInWfi s
    → (wakes_of s.nvic ≡ true → LeavesWfi cycle g s (after_cycle cycle g s))
    × (wakes_of s.nvic ≡ false → StaysInWfi cycle g s (after_cycle cycle g s))
