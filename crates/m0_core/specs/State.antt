-- What a core is between two cycles (ARMv6-M Architecture Reference Manual, B1.4).
use Rattle.std.specs.Prelude.{ℕ, Bool, List, Option}
use Rattle.m0_beats.specs.declared.registers.Regs.{Regs}
use Rattle.m0_nvic.specs.State.{State as Exceptions}
use Rattle.m0_core.specs.declared.doing.Work.{Work}

pub record State : Type 0 where
  -- 0 or 1
  pub number : ℕ
  -- it was not started
  pub asleep : Bool
  pub regs : Regs
  pub nvic : Exceptions
  -- the event register (B1.5.18)
  pub event : Bool
  -- the launcher has a word for it
  pub offer : Bool
  -- the instruction, entry or return in progress; none at a boundary between two instructions
  pub work : Option Work
  -- how many of its beats are over
  pub beats_done : ℕ
  -- the values that these read, a narrow one zero-extended
  pub read : List ℕ
