-- A master whose access was done lets another one of its priority go first.
use Rattle.std.proofs.Common.{◌≡◌, ◌≢◌, ℕ, ◌<◌, ◌==◌, Bool, true, false, not, ◌||◌, cond, inl, inr, List, Option, Some, None, length, refl, sym, ap, ◌∙◌, arith}
use Rattle.std.specs.Prelude.{is_none, unwrap_or}
use Rattle.std.specs.List.{find}
use Rattle.std.proofs.lemmas.Bool.{eqb-true}
use Rattle.std.proofs.lemmas.Bool.Decides.{eqb_tells}
use Rattle.rp_base.specs.declared.Master.{Master}
use Rattle.rp_base.specs.declared.Master.TheVariants.{Core0, Core1, DmaRead, DmaWrite}
use Rattle.bus_fabric.specs.Masters.{masters, Access, access_of, is_on, asks_on}
use Rattle.bus_fabric.specs.State.{State, last_on}
use Rattle.bus_fabric.specs.Grant.{apb, is_high, wins, winner_after, is_free, is_access_done, is_done, after_grant}
use Rattle.bus_fabric.specs.Laws.{Remembers, TakesTurns, FairnessLaw}
use Rattle.bus_fabric.proofs.Arbitration.{arbitrated}
use Rattle.bus_fabric.proofs.Remembering.{last_from-at}

remembers : (asked : List (Option Access)) (s : State) (port : ℕ) → port < length s.last → Remembers asked s port
remembers asked s port low = last_from-at asked s 0 s.last port port (omega arith) low

-- ---- the winner

off : (b : Bool) → (b ≡ true → ⊥) → b ≡ false
off true h = absurd (h refl)
off false h = refl

-- the one master that passes a test is found
pub find_one : (test : Master → Bool) (m : Master) → test m ≡ true → ((n : Master) → test n ≡ true → n ≡ m) → find test masters ≡ Some m
find_one test Core0 is only = rw is refl
find_one test Core1 is only =
    let e0 : test Core0 ≡ false = off (test Core0) (λ h. let e = only Core0 h in cc) in
    rw e0 (rw is refl)
find_one test DmaRead is only =
    let e0 : test Core0 ≡ false = off (test Core0) (λ h. let e = only Core0 h in cc) in
    let e1 : test Core1 ≡ false = off (test Core1) (λ h. let e = only Core1 h in cc) in
    rw e0 (rw e1 (rw is refl))
find_one test DmaWrite is only =
    let e0 : test Core0 ≡ false = off (test Core0) (λ h. let e = only Core0 h in cc) in
    let e1 : test Core1 ≡ false = off (test Core1) (λ h. let e = only Core1 h in cc) in
    let e2 : test DmaRead ≡ false = off (test DmaRead) (λ h. let e = only DmaRead h in cc) in
    rw e0 (rw e1 (rw e2 (rw is refl)))

pub other_port : (hold : Bool) (port : ℕ) → port ≢ apb → (not (port == apb) || hold) ≡ true
other_port hold port ne = elim (eqb_tells port apb) [ inl same ↦ absurd (ne same.1) | inr other ↦ rw other.0 refl ]

pub winner_by : (last : Master) (asked : List (Option Access)) (s : State) (port : ℕ) (m : Master) → port ≢ apb →
    wins (is_high s.priority) last (asks_on asked port) m ≡ true → winner_after last asked s port ≡ Some m
winner_by last asked s port m ne won =
    let one = (arbitrated (is_high s.priority) last (asks_on asked port)).one in
    let free : is_free s.hold port ≡ true = other_port (is_none s.hold) port ne in
    ap (λ b. cond b (find (wins (is_high s.priority) last (asks_on asked port)) masters) None) free
    ∙ find_one (wins (is_high s.priority) last (asks_on asked port)) m won (λ n h. one n m h won)

-- ---- what is done

-- on a port without holds an access is done where it wins
done_by : (asked : List (Option Access)) (s : State) (m : Master) (port : ℕ) (a : Option Access) → port ≢ apb → is_on port a ≡ true →
    is_access_done asked s m a ≡ wins (is_high s.priority) (last_on port s) (asks_on asked port) m
done_by asked s m port None ne is = cc
done_by asked s m port (Some access) ne is =
    let same : access.0 ≡ port = eqb-true access.0 port is in
    elim (eqb_tells access.0 apb) [
      | inl e ↦ absurd (ne (sym same ∙ e.1))
      | inr e ↦ rw e.0 (ap (λ k. wins (is_high s.priority) (last_on k s) (asks_on asked k) m) same)
    ]

pub done_is : (asked : List (Option Access)) (s : State) (m : Master) (port : ℕ) → port ≢ apb → asks_on asked port m ≡ true →
    is_done asked s m ≡ wins (is_high s.priority) (last_on port s) (asks_on asked port) m
done_is asked s m port ne is = done_by asked s m port (access_of asked m) ne is

takes_turns : (asked next : List (Option Access)) (s : State) (port : ℕ) → port < length s.last → port ≢ apb → TakesTurns asked next s port
takes_turns asked next s port low other m n ne is done again waits same =
    let won : wins (is_high s.priority) (last_on port s) (asks_on asked port) m ≡ true =
    sym (done_is asked s m port other is) ∙ done in
    let last : last_on port (after_grant asked s) ≡ m =
    remembers asked s port low ∙ ap (λ w. unwrap_or w (last_on port s)) (winner_by (last_on port s) asked s port m other won) in
    done_is next (after_grant asked s) m port other again
    ∙ ap (λ k. wins (is_high s.priority) k (asks_on next port) m) last
    ∙ (arbitrated (is_high s.priority) m (asks_on next port)).in_turn n ne waits same

pub fair : FairnessLaw
fair asked next s port low = record {
  remembers = remembers asked s port low;
  in_turn = takes_turns asked next s port low;
}
