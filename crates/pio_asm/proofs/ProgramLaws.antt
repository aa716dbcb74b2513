use Rattle.std.proofs.Common.{◌≡◌, ℕ, ◌+◌, ◌<◌, List, [], ◌∷◌, ◌++◌, length, get_or, drop, None, refl, drop-cons, add-one}
use Rattle.pio_asm.proofs.Shared.{Result, Ok, Err, IsOkAnd, PioFault, SourceProgram, Program, put, Names, ArePrograms, IsProgram, Plan, program_plan, programs_from}

-- one more program with its plan
pub programs-push : (plans : List Plan) (programs : List Program) (plan : Plan) (program : Program) → ArePrograms plans programs → IsProgram plan program → ArePrograms (plans ++ plan ∷ []) (programs ++ program ∷ [])
programs-push [] [] plan program h s = (s, tt)
programs-push [] (q ∷ qs) plan program h s = absurd h
programs-push (p ∷ ps) [] plan program h s = absurd h
programs-push (p ∷ ps) (q ∷ qs) plan program h s = (h.0, programs-push ps qs plan program h.1 s)

-- after a program, the others go on with its plan
pub record GoesOn (globals taken : Names) (plans : List Plan) (made : List Program) (program : SourceProgram) (rest : List SourceProgram) (next : Program) : Type 0 where
  pub after : List Plan
  pub are : ArePrograms after (made ++ next ∷ [])
  pub goes : programs_from globals taken plans (program ∷ rest) ≡ programs_from globals (put program.name None taken) after rest

goes_by : (globals taken : Names) (plans : List Plan) (made : List Program) (program : SourceProgram) (rest : List SourceProgram) (next : Program) (outcome : Result Plan PioFault) → program_plan globals taken program ≡ outcome → ArePrograms plans made → IsOkAnd outcome (λ plan. IsProgram plan next) → GoesOn globals taken plans made program rest next
goes_by globals taken plans made program rest next (Ok plan) e are is = record { after = plans ++ plan ∷ []; are = programs-push plans made plan next are is; goes = rw e refl }
goes_by globals taken plans made program rest next (Err fault) e are is = absurd is

pub goes_on : (globals taken : Names) (plans : List Plan) (made : List Program) (program : SourceProgram) (rest : List SourceProgram) (next : Program) → ArePrograms plans made → IsOkAnd (program_plan globals taken program) (λ plan. IsProgram plan next) → GoesOn globals taken plans made program rest next
goes_on globals taken plans made program rest next are is = goes_by globals taken plans made program rest next (program_plan globals taken program) refl are is

pub drop_next : (programs : List SourceProgram) (index : ℕ) (d : SourceProgram) → index < length programs → drop index programs ≡ get_or programs index d ∷ drop (index + 1) programs
drop_next programs index d lt = rw add-one (drop-cons programs index d lt)
