-- The first fault of a source file.
use Rattle.std.proofs.Common.{◌≡◌, List, ℕ, Ok, Err, ap}
use Rattle.pio_asm.proofs.Shared.{Source, PioFault, Char, Syntax, Memory, IsFault, IsSource, one_answer, reader, IsFaultOf, assembled, plans_in, plans_of}
use Rattle.pio_parse.specs.Files.EarlyFault.{CharAt, SyntaxAt}

-- a fault of the characters or tokens is the file's
pub early_fault_of : (bytes : List ℕ) (fault : PioFault) → IsFault bytes fault → IsFaultOf (plans_of bytes) fault
unfolding plans_of
early_fault_of bytes (Char line column) h = ap plans_in (one_answer bytes (reader.read bytes) (Err (CharAt (record { line = line; column = column }))) (reader.reads bytes) h)
early_fault_of bytes (Syntax line column) h = ap plans_in (one_answer bytes (reader.read bytes) (Err (SyntaxAt (record { line = line; column = column }))) (reader.reads bytes) h)
early_fault_of bytes Memory h = tt
early_fault_of bytes fault h = absurd h

-- the programs of a source that is read are the file's
pub plans_of_source : (bytes : List ℕ) (source : Source) → IsSource bytes source → plans_of bytes ≡ assembled source
unfolding plans_of
plans_of_source bytes source is = ap plans_in (one_answer bytes (reader.read bytes) (Ok source) (reader.reads bytes) is)
