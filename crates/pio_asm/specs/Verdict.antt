-- The faults that a line has, and the one that is told: the project's own.
use Rattle.std.specs.Prelude.{ℕ, false, if◌then◌else◌, Result, Ok, Err}
use Rattle.pio_parse.specs.declared.fault.PioFault.{PioFault}
use Rattle.pio_parse.specs.declared.fault.PioFault.TheVariants.{Unknown, Twice, Range, Delay, Side, TooLong, Wrap, Origin}
use Rattle.pio_asm.specs.declared.building.Verdict.{Verdict}

-- the first fault of a line, by its number
abbrev pub verdict_result : ℕ → Verdict → Result (Unit {0}) PioFault
verdict_result line verdict =
    if verdict.unknown then Err (Unknown line)
    else if verdict.twice then Err (Twice line)
    else if verdict.range then Err (Range line)
    else if verdict.delay then Err (Delay line)
    else if verdict.side then Err (Side line)
    else if verdict.too_long then Err (TooLong line)
    else if verdict.wrap then Err (Wrap line)
    else if verdict.origin then Err (Origin line)
    else Ok tt

abbrev pub no_fault : Verdict
no_fault = record { unknown = false; twice = false; range = false; delay = false; side = false; too_long = false; wrap = false; origin = false }
