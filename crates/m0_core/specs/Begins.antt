-- Which instruction a core begins in a cycle: the one whose first halfword it fetches then (ARMv6-M Architecture Reference Manual, A5.1, and
-- B1.5.4, an exception that is taken in its place).
use Rattle.std.specs.Prelude.{ℕ, if◌then◌else◌, Option, Some, None}
use Rattle.m0_core.specs.declared.doing.Work.{Work}
use Rattle.m0_core.specs.Fetch.{is_ram, taken_of}
use Rattle.m0_core.specs.State.{State}

-- no exception is taken; an address outside SRAM is not fetched
abbrev pub begins_untaken : Option ℕ → State → Option ℕ
begins_untaken None s = if is_ram s.regs.pc then Some s.regs.pc else None
begins_untaken (Some n) s = None

-- nothing is in progress
abbrev pub begins_between : Option Work → State → Option ℕ
begins_between None s = begins_untaken (taken_of s) s
begins_between (Some work) s = None

-- the address of the instruction that a core in this state begins
unfoldable pub begins : State → Option ℕ
begins s = if s.asleep then None else begins_between s.work s
