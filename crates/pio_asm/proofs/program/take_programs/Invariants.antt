use Rattle.std.proofs.Common.{◌≡◌, List, ℕ, [], drop}
use Rattle.pio_asm.proofs.Shared.{SourceProgram, Program, Names, ArePrograms, Plan, programs_from}
use Rattle.pio_asm.proofs.program.take_programs.Given as goal

-- the programs of the whole go on from here, after these plans
pub record IsMaking (globals taken : Names) (index : ℕ) (programs : List SourceProgram) (made : List Program) : Type 0 where
  pub plans : List Plan
  pub are : ArePrograms plans made
  pub rest : programs_from globals [] [] programs ≡ programs_from globals taken plans (drop index programs)

abbrev pub invariant-loop-program : goal.invariant-loop-program
invariant-loop-program l = IsMaking l.globals l.taken l.program-index l.programs l.made.items
