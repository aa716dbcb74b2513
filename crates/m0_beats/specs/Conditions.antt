-- When a conditional branch is taken (ARMv6-M Architecture Reference Manual, A6.3, ConditionHolds), and which values begin
-- an exception return (B1.5.8).
use Rattle.std.specs.Prelude.{ℕ, ◌/◌, ◌%◌, ◌^◌, Bool, not, ◌&&◌, ◌==◌, if◌then◌else◌}
use Rattle.std.specs.Bool.{beq}
use Rattle.m0_beats.specs.declared.registers.Regs.{Regs}

-- the condition of an even number: EQ, CS, MI, VS, HI, GE, GT
abbrev pub even_condition : ℕ → Regs → Bool
even_condition half s =
    if half == 0 then s.z else
    if half == 1 then s.c else
    if half == 2 then s.n else
    if half == 3 then s.v else
    if half == 4 then s.c && not s.z else
    if half == 5 then beq s.n s.v else beq s.n s.v && not s.z

-- an odd number is the opposite of the number below: NE, CC, PL, VC, LS, LT, LE
abbrev pub condition_holds : ℕ → Regs → Bool
condition_holds condition s =
    if condition % 2 == 1 then not (even_condition (condition / 2) s) else even_condition (condition / 2) s

-- in Handler mode, a value whose top four bits are set stands for no address: it begins an exception return
abbrev pub is_exception_return : ℕ → ℕ → Bool
is_exception_return ipsr value = not (ipsr == 0) && (value / 2 ^ 28 == 15)
