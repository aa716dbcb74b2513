-- How long a master waits: for its own access on APB, and for the wins of others on a port.
use Rattle.std.specs.Prelude.{◌≡◌, ◌≢◌, ℕ, zero, suc, ◌<◌, Bool, true, false, if◌then◌else◌, List, Option, Some}
use Rattle.rp_base.specs.declared.Master.{Master}
use Rattle.bus_fabric.specs.Masters.{Access, access_of, asks_on}
use Rattle.bus_fabric.specs.State.{State, has_hold}
use Rattle.bus_fabric.specs.Grant.{wins, is_done, after_grant}

-- ---- an access on APB (port 6)

-- the fabric n cycles later, where `asked` has what the masters ask for in each of them
abbrev pub fabric_at : (ℕ → List (Option Access)) → State → ℕ → State
fabric_at asked s zero = s
fabric_at asked s (suc n) = after_grant (asked n) (fabric_at asked s n)

abbrev pub is_done_in : (ℕ → List (Option Access)) → State → Master → ℕ → Bool
is_done_in asked s m n = is_done (asked n) (fabric_at asked s n) m

-- the access of a master is done in cycle k, the first of which is cycle 0, and in none before
pub record IsDoneFirstIn (asked : ℕ → List (Option Access)) (s : State) (m : Master) (k : ℕ) : Type 0 where
  pub before : (n : ℕ) → n < k → is_done_in asked s m n ≡ false
  pub done : is_done_in asked s m k ≡ true

-- a master that asks for APB, where no other one does in its first cycle and no access lasts there, is served in its third
-- cycle where it reads, and in its fourth where it writes
abbrev pub ApbLaw : Type 0
ApbLaw =
    (asked : ℕ → List (Option Access)) (s : State) (m : Master) (writes : Bool) → has_hold s ≡ false →
    ((n : ℕ) → access_of (asked n) m ≡ Some (6, writes)) → ((other : Master) → other ≢ m → asks_on (asked 0) 6 other ≡ false) →
    IsDoneFirstIn asked s m (if writes then 3 else 2)

-- ---- the wins of others

-- a port is won again and again: the winner of each time is the one that won last at the next
abbrev pub AreWinners : (Master → Bool) → (ℕ → Master → Bool) → (ℕ → Master) → Type 0
AreWinners high asks last = (k : ℕ) → wins high (last k) (asks k) (last (suc k)) ≡ true

-- of four wins in a row, at each of which a master asks and none of another priority does, one is its own: it waits for at
-- most three wins of others
abbrev pub WaitLaw : Type 0
WaitLaw =
    (high : Master → Bool) (asks : ℕ → Master → Bool) (last : ℕ → Master) (m : Master) → AreWinners high asks last →
    ((k : ℕ) → asks k m ≡ true) → ((k : ℕ) (other : Master) → asks k other ≡ true → high other ≡ high m) →
    (k : ℕ) × (k < 4 × (last (suc k) ≡ m))
