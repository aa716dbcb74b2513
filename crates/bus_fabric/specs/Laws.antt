-- What holds of the round, of the winner of a port, and of two cycles, whatever the priorities and the requests are.
use Rattle.std.specs.Prelude.{◌≡◌, ◌≢◌, ℕ, zero, suc, ◌<◌, ◌≤◌, Bool, true, false, List, Option, unwrap_or, length}
use Rattle.rp_base.specs.declared.Master.{Master}
use Rattle.rp_base.specs.declared.Master.TheVariants.{Core0, Core1, DmaRead, DmaWrite}
use Rattle.bus_fabric.specs.Masters.{distance, Access, asks_on}
use Rattle.bus_fabric.specs.State.{State, last_on}
use Rattle.bus_fabric.specs.Grant.{apb, is_high, beats, wins, winner_on, is_done, after_grant}

-- ---- the round

abbrev pub next_in_round : Master → Master
next_in_round Core0 = Core1
next_in_round Core1 = DmaRead
next_in_round DmaRead = DmaWrite
next_in_round DmaWrite = Core0

abbrev pub steps_from : ℕ → Master → Master
steps_from zero m = m
steps_from (suc n) m = next_in_round (steps_from n m)

-- the distance of a master is from 1 to 4, and so many steps arrive at it
pub record IsDistance (last m : Master) : Type 0 where
  pub low : 1 ≤ distance last m
  pub high : distance last m ≤ 4
  pub arrives : steps_from (distance last m) last ≡ m

abbrev pub RoundLaw : Type 0
RoundLaw = (last m : Master) → IsDistance last m

-- ---- one port

pub record IsArbitrated (high : Master → Bool) (last : Master) (asks : Master → Bool) : Type 0 where
  -- at most one master wins
  pub one : (m n : Master) → wins high last asks m ≡ true → wins high last asks n ≡ true → m ≡ n
  -- a winner asks, and is beaten by no master that asks
  pub asks_itself : (m : Master) → wins high last asks m ≡ true → asks m ≡ true
  pub unbeaten : (m n : Master) → wins high last asks m ≡ true → asks n ≡ true → beats high last n m ≡ false
  -- where a master asks, one wins
  pub some : (m : Master) → asks m ≡ true → (n : Master) × (wins high last asks n ≡ true)
  -- a master that asks alone wins
  pub alone : (m : Master) → asks m ≡ true → ((n : Master) → n ≢ m → asks n ≡ false) → wins high last asks m ≡ true
  -- the master that won last does not win again where another one of its priority asks
  pub in_turn : (n : Master) → n ≢ last → asks n ≡ true → high n ≡ high last → wins high last asks last ≡ false

abbrev pub ArbitrationLaw : Type 0
ArbitrationLaw = (high : Master → Bool) (last : Master) (asks : Master → Bool) → IsArbitrated high last asks

-- ---- two cycles

-- a port that has a winner remembers it, and one that has none what it remembered
abbrev pub Remembers : List (Option Access) → State → ℕ → Type 0
Remembers asked s port = last_on port (after_grant asked s) ≡ unwrap_or (winner_on asked s port) (last_on port s)

-- on a port of SRAM or AHB-Lite a master whose access was done is not served in the next cycle, where another one of its
-- priority waits then
abbrev pub TakesTurns : List (Option Access) → List (Option Access) → State → ℕ → Type 0
TakesTurns asked next s port =
    (m n : Master) → n ≢ m → asks_on asked port m ≡ true → is_done asked s m ≡ true → asks_on next port m ≡ true →
    asks_on next port n ≡ true → is_high s.priority n ≡ is_high s.priority m → is_done next (after_grant asked s) m ≡ false

pub record IsFair (asked next : List (Option Access)) (s : State) (port : ℕ) : Type 0 where
  pub remembers : Remembers asked s port
  pub in_turn : port ≢ apb → TakesTurns asked next s port

abbrev pub FairnessLaw : Type 0
FairnessLaw =
    (asked next : List (Option Access)) (s : State) (port : ℕ) → port < length s.last → IsFair asked next s port
