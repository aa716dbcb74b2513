-- The programs of a file are whole.
use Rattle.std.proofs.Common.{◌≡◌, ℕ, List, Result, Ok, Err}
use Rattle.pio_asm.proofs.Shared.{Source, EarlyFault, reader, Plan, AreWhole, plans_in, plans_of}
use Rattle.pio_asm.proofs.Wholeness.{source_whole}

read_whole : (outcome : Result Source EarlyFault) (all : List Plan) → plans_in outcome ≡ Ok all → AreWhole all
read_whole (Ok source) all e = source_whole source all e
read_whole (Err fault) all e = absurd (cc e)

-- the programs of a file
pub plans_whole : (bytes : List ℕ) (all : List Plan) → plans_of bytes ≡ Ok all → AreWhole all
unfolding plans_of
plans_whole bytes all e = read_whole (reader.read bytes) all e
