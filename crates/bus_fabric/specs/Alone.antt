-- A cycle in which nobody asks, and one in which core 0 alone may.
use Rattle.std.specs.Prelude.{List, [], ◌∷◌, Option, None}
use Rattle.bus_fabric.specs.Masters.{Access}

-- what the masters ask for where nobody asks
abbrev pub nobody : List (Option Access)
nobody = None ∷ None ∷ None ∷ None ∷ []

-- and where no master but core 0 may ask
abbrev pub at_most_core0 : Option Access → List (Option Access)
at_most_core0 access = access ∷ None ∷ None ∷ None ∷ []
