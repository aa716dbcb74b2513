-- What is read next, unless there is a fault: the project's own.
use Rattle.std.specs.Prelude.{Result, Ok, Err}

-- what is made of a value, unless there is a fault
abbrev pub map_ok : {X Y E : Type 0} → (X → Y) → Result X E → Result Y E
map_ok f (Ok x) = Ok (f x)
map_ok f (Err e) = Err e

-- what comes next, unless there is a fault
abbrev pub and_then : {X Y E : Type 0} → (X → Result Y E) → Result X E → Result Y E
and_then f (Ok x) = f x
and_then f (Err e) = Err e
