use Rattle.pico_top.proofs.Walking.{leads_out}
use Rattle.pico_top.proofs.Shared.{Err, Memory, refl}
use Rattle.pico_top.proofs.open.linked_image.Goals as goal

pub returns-in-Err-Memory-clause-answer : goal.returns-in-Err-Memory-clause-answer
returns-in-Err-Memory-clause-answer c files failed next = leads_out (Err Memory) refl
