-- The masters of the bus fabric and what they ask for in a cycle (RP2040 Datasheet, 2.1 "Bus Fabric": the two cores and the
-- DMA engine's read and write ports).
use Rattle.std.specs.Prelude.{◌<◌, ℕ, ◌+◌, ◌-◌, ◌%◌, Bool, false, ◌==◌, List, [], ◌∷◌, Option, Some, None, slice_index_or}
use Rattle.rp_base.specs.declared.Master.{Master}
use Rattle.rp_base.specs.declared.Master.TheVariants.{Core0, Core1, DmaRead, DmaWrite}

abbrev pub masters : List Master
masters = Core0 ∷ Core1 ∷ DmaRead ∷ DmaWrite ∷ []

-- the number of a master in their order
abbrev pub number_of : Master → ℕ
number_of Core0 = 0
number_of Core1 = 1
number_of DmaRead = 2
number_of DmaWrite = 3

-- the round: core 0, core 1, DMA read, DMA write, core 0; the distance of a master is the number from 1 to 4 of steps in
-- the round from `last` to it
abbrev pub distance : Master → Master → ℕ
distance last m = (number_of m + 3 - number_of last) % 4 + 1

-- an access: the number of its port, and whether it writes; ports 0 to 5 are the banks of SRAM, 6 is APB and 7 AHB-Lite
abbrev pub Access : Type 0
Access = ℕ × Bool

-- what a master asks for, where the accesses stand in the order of the masters
abbrev pub access_of : List (Option Access) → Master → Option Access
access_of asked m = slice_index_or asked (number_of m) None

abbrev pub is_on : ℕ → Option Access → Bool
is_on port None = false
is_on port (Some access) = access.0 == port

-- a master asks for an access on a port
abbrev pub asks_on : List (Option Access) → ℕ → Master → Bool
asks_on asked port m = is_on port (access_of asked m)

-- the port of an access is one of the eight
abbrev pub HasPort : Option Access → Type 0
HasPort None = Unit {0}
HasPort (Some access) = access.0 < 8

abbrev pub HavePorts : List (Option Access) → Type 0
HavePorts [] = Unit {0}
HavePorts (access ∷ accesses) = HasPort access × HavePorts accesses
