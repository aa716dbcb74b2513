-- Who is served in a cycle (RP2040 Datasheet, 2.1.1.1 "Bus Priority": on each port a master of high priority before one of
-- low priority, and masters of one priority in turn; 2.1.3 "APB Bridge": an access takes several cycles). The order of turns
-- and the cycles are this project's own: on APB a read takes 3 cycles and a write 4.
use Rattle.std.specs.Prelude.{ℕ, suc, ◌-◌, ◌*◌, Bool, false, not, ◌&&◌, ◌||◌, ◌==◌, nat_lt, nat_le, if◌then◌else◌, List, [], ◌∷◌, map, Option, Some, None, is_none, unwrap_or}
use Rattle.std.specs.List.{list_all, find}
use Rattle.rp_base.specs.declared.Master.{Master}
use Rattle.rp_base.specs.Word.{has_bit}
use Rattle.bus_fabric.specs.declared.Hold.{Hold}
use Rattle.bus_fabric.specs.Masters.{masters, number_of, distance, Access, access_of, asks_on}
use Rattle.bus_fabric.specs.State.{State, last_on}

-- ---- one port

-- BUS_PRIORITY has one bit for each master: 0 for core 0, 4 for core 1, 8 for the DMA engine's reads, 12 for its writes
abbrev pub is_high : ℕ → Master → Bool
is_high priority m = has_bit priority (4 * number_of m)

-- a master of high priority has rank 0, one of low priority rank 1; `high` tells whose priority is high
abbrev pub rank_of : (Master → Bool) → Master → ℕ
rank_of high m = if high m then 0 else 1

-- of two requests on one port one beats the other: by rank, then by its distance from the master that won the port last
abbrev pub beats : (Master → Bool) → Master → Master → Master → Bool
beats high last m n =
    nat_lt (rank_of high m) (rank_of high n) || (rank_of high m == rank_of high n && nat_lt (distance last m) (distance last n))

-- the winner of a port is the request that no request on it beats; `asks` tells who asks for the port
abbrev pub wins : (Master → Bool) → Master → (Master → Bool) → Master → Bool
wins high last asks m = asks m && list_all (λ n. not (asks n && beats high last n m)) masters

abbrev pub winner_of : (Master → Bool) → Master → (Master → Bool) → Option Master
winner_of high last asks = find (wins high last asks) masters

-- ---- the hold of APB

abbrev pub apb : ℕ
apb = 6

-- a hold ends in the cycle in which it has one left
abbrev pub is_last : Hold → Bool
is_last hold = nat_le hold.left 1

abbrev pub is_master : Master → Option Master → Bool
is_master m None = false
is_master m (Some n) = number_of m == number_of n

-- the access of a hold is done in its last cycle
abbrev pub is_served : Option Hold → Master → Bool
is_served None m = false
is_served (Some hold) m = is_last hold && is_master m hold.holder

-- the cycles that are left after the first one of an access
abbrev pub cycles_left : Option Access → ℕ
cycles_left None = 0
cycles_left (Some access) = if access.1 then 3 else 2

-- the winner takes the hold
abbrev pub hold_of : List (Option Access) → Option Master → Option Hold
hold_of asked None = None
hold_of asked (Some m) = Some (record { holder = Some m; left = cycles_left (access_of asked m) })

-- a hold is for its master as long as that asks for the port; after that it runs out for nobody
abbrev pub kept_holder : (Master → Bool) → Option Master → Option Master
kept_holder asks None = None
kept_holder asks (Some m) = if asks m then Some m else None

abbrev pub shortened : (Master → Bool) → Hold → Hold
shortened asks hold = record { holder = kept_holder asks hold.holder; left = hold.left - 1 }

-- ---- the winner of a port in a cycle

-- a port with a hold has no winner
abbrev pub is_free : Option Hold → ℕ → Bool
is_free hold port = not (port == apb) || is_none hold

-- the winner of a port that remembers `last`
abbrev pub winner_after : Master → List (Option Access) → State → ℕ → Option Master
winner_after last asked s port =
    if is_free s.hold port then winner_of (is_high s.priority) last (asks_on asked port) else None

abbrev pub winner_on : List (Option Access) → State → ℕ → Option Master
winner_on asked s port = winner_after (last_on port s) asked s port

-- ---- a cycle

abbrev pub hold_after : List (Option Access) → State → Option Hold → Option Hold
hold_after asked s None = hold_of asked (winner_on asked s apb)
hold_after asked s (Some hold) = if is_last hold then None else Some (shortened (asks_on asked apb) hold)

-- a port that has a winner remembers it, from this port on
abbrev pub last_from : List (Option Access) → State → ℕ → List Master → List Master
last_from asked s port [] = []
last_from asked s port (last ∷ others) =
    unwrap_or (winner_after last asked s port) last ∷ last_from asked s (suc port) others

-- the access of a master is done: on APB at the end of its hold, on every other port where it wins
abbrev pub is_access_done : List (Option Access) → State → Master → Option Access → Bool
is_access_done asked s m None = false
is_access_done asked s m (Some access) =
    if access.0 == apb then is_served s.hold m else
    wins (is_high s.priority) (last_on access.0 s) (asks_on asked access.0) m

abbrev pub is_done : List (Option Access) → State → Master → Bool
is_done asked s m = is_access_done asked s m (access_of asked m)

-- whose access is done, in the order of the masters
abbrev pub done_of : List (Option Access) → State → List Bool
done_of asked s = map (is_done asked s) masters

abbrev pub after_grant : List (Option Access) → State → State
after_grant asked s = record s { hold = hold_after asked s s.hold; last = last_from asked s 0 s.last }
