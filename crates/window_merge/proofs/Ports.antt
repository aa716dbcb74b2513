-- Where no two accesses to SRAM name one port, and no access lasts, each of them is done.
use Rattle.std.proofs.Common.{◌≡◌, ◌≢◌, ℕ, ◌<◌, Bool, true, false, nat_eq, List, [], ◌∷◌, Option, Some, None, refl, ap, ◌∙◌}
use Rattle.window_merge.proofs.Shared.{Core0, Core1, DmaRead, DmaWrite, Master, arith, eqb-false, is_port_of, is_some, ne_eqb}
use Rattle.bus_fabric.specs.declared.Hold.{Hold}
use Rattle.bus_fabric.specs.Masters.{Access, access_of, is_on, asks_on}
use Rattle.bus_fabric.specs.State.{State as Crossbar, last_on, has_hold}
use Rattle.bus_fabric.specs.Grant.{apb, is_high, winner_of, is_done, done_of, hold_after, after_grant}
use Rattle.bus_fabric.proofs.Arbitration.{arbitrated}
use Rattle.window_merge.proofs.Agree.{itself}

-- an access to SRAM, or none
abbrev pub InBank : Option Access → Type 0
InBank None = Unit {0}
InBank (Some access) = access.0 < 6

-- no two of four accesses name one port
pub record Apart (a0 a1 a2 a3 : Option Access) : Type 0 where
  pub apart01 : is_port_of a0 a1 ≡ false
  pub apart02 : is_port_of a0 a2 ≡ false
  pub apart03 : is_port_of a0 a3 ≡ false
  pub apart12 : is_port_of a1 a2 ≡ false
  pub apart13 : is_port_of a1 a3 ≡ false
  pub apart23 : is_port_of a2 a3 ≡ false

turned : (a b : Option Access) → is_port_of a b ≡ false → is_port_of b a ≡ false
turned a b h1 = search (arith, ne_eqb, eqb-false)

-- a bank of SRAM is not APB
not_apb : (port : ℕ) → port < 6 → nat_eq port apb ≡ false
not_apb port lt = ne_eqb port apb (λ same. let six : port ≡ 6 = same in omega arith)

-- ---- each access is done

done_at : (asked : List (Option Access)) (s : Crossbar) (m : Master) (a : Option Access) → access_of asked m ≡ a → InBank a →
    ((n : Master) → n ≢ m → is_port_of a (access_of asked n) ≡ false) → is_done asked s m ≡ is_some a
done_at asked s m None e bank others = rw e refl
done_at asked s m (Some access) e bank others =
    let asks : asks_on asked access.0 m ≡ true = ap (is_on access.0) e ∙ itself access.0 in
    rw (e, not_apb access.0 bank) ((arbitrated (is_high s.priority) (last_on access.0 s) (asks_on asked access.0)).alone m asks others)

abbrev pub four : Option Access → Option Access → Option Access → Option Access → List (Option Access)
four a0 a1 a2 a3 = a0 ∷ a1 ∷ a2 ∷ a3 ∷ []

pub free_done : (a0 a1 a2 a3 : Option Access) (s : Crossbar) → Apart a0 a1 a2 a3 → InBank a0 → InBank a1 → InBank a2 → InBank a3 →
    done_of (four a0 a1 a2 a3) s ≡ is_some a0 ∷ is_some a1 ∷ is_some a2 ∷ is_some a3 ∷ []
free_done a0 a1 a2 a3 s h b0 b1 b2 b3 =
    rw (done_at (four a0 a1 a2 a3) s Core0 a0 refl b0 elim [
      | Core0 ↦ λ ne. absurd (ne refl)
      | Core1 ↦ λ ne. h.apart01
      | DmaRead ↦ λ ne. h.apart02
      | DmaWrite ↦ λ ne. h.apart03
    ])
    (rw (done_at (four a0 a1 a2 a3) s Core1 a1 refl b1 elim [
      | Core0 ↦ λ ne. turned a0 a1 h.apart01
      | Core1 ↦ λ ne. absurd (ne refl)
      | DmaRead ↦ λ ne. h.apart12
      | DmaWrite ↦ λ ne. h.apart13
    ])
    (rw (done_at (four a0 a1 a2 a3) s DmaRead a2 refl b2 elim [
      | Core0 ↦ λ ne. turned a0 a2 h.apart02
      | Core1 ↦ λ ne. turned a1 a2 h.apart12
      | DmaRead ↦ λ ne. absurd (ne refl)
      | DmaWrite ↦ λ ne. h.apart23
    ])
    (rw (done_at (four a0 a1 a2 a3) s DmaWrite a3 refl b3 elim [
      | Core0 ↦ λ ne. turned a0 a3 h.apart03
      | Core1 ↦ λ ne. turned a1 a3 h.apart13
      | DmaRead ↦ λ ne. turned a2 a3 h.apart23
      | DmaWrite ↦ λ ne. absurd (ne refl)
    ]) refl)))

-- ---- and none lasts

no_winner : (asked : List (Option Access)) (high : Master → Bool) (last : Master) → ((m : Master) → asks_on asked apb m ≡ false) → winner_of high last (asks_on asked apb) ≡ None
no_winner asked high last h = rw (h Core0) (rw (h Core1) (rw (h DmaRead) (rw (h DmaWrite) refl)))

hold_none : (asked : List (Option Access)) (s : Crossbar) (hold : Option Hold) → s.hold ≡ hold → is_some hold ≡ false → ((m : Master) → asks_on asked apb m ≡ false) → is_some (hold_after asked s hold) ≡ false
hold_none asked s None e free h = rw (e, no_winner asked (is_high s.priority) (last_on apb s) h) refl
hold_none asked s (Some hold) e free h = absurd (cc free)

pub free_after : (a0 a1 a2 a3 : Option Access) (s : Crossbar) → has_hold s ≡ false → InBank a0 → InBank a1 → InBank a2 → InBank a3 →
    has_hold (after_grant (four a0 a1 a2 a3) s) ≡ false
free_after a0 a1 a2 a3 s free b0 b1 b2 b3 = search (arith, not_apb, hold_none)
