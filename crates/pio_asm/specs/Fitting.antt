-- The first program of a file, and what holds of it: its wrap lies in its words, and its side-set has at most five bits.
use Rattle.std.specs.Prelude.{◌≡◌, ◌+◌, ◌<◌, ◌≤◌, List, [], ◌∷◌, length, Option, None, IsSomeAnd, Result, Ok, Err}
use Rattle.rp_base.specs.Word.{bit_number}
use Rattle.pio_parse.specs.declared.fault.PioFault.{PioFault}
use Rattle.pio_asm.specs.Assembly.{Plan, IsProgram}
use Rattle.pio_program.specs.declared.program.Program.{Program}

pub record IsRunnable (program : Program) : Type 0 where
  pub target : program.target < length program.words.items
  pub wrap : program.wrap < length program.words.items
  pub side : program.side.count + bit_number program.side.opt ≤ 5

-- the first of some programs, with its words, or none where there is none
abbrev pub IsFirst : Option Program → Result (List Plan) PioFault → Type 0
IsFirst found (Ok []) = found ≡ None
IsFirst found (Ok (plan ∷ plans)) = IsSomeAnd found (λ program. IsProgram plan program × IsRunnable program)
IsFirst found (Err fault) = ⊥
