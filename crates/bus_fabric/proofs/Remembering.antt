-- What the ports remember after a cycle, port by port and master by master.
use Rattle.std.proofs.Common.{◌≡◌, ◌≢◌, ℕ, zero, suc, ◌+◌, ◌<◌, Bool, true, false, ◌&&◌, cond, inl, inr, List, [], ◌∷◌, Option, Some, None, length, get_or, refl, sym, ap, ◌∙◌, arith}
use Rattle.std.specs.Prelude.{unwrap_or, slice_set}
use Rattle.std.proofs.lemmas.Grind.{get_or-set_at}
use Rattle.std.proofs.lemmas.List.{get_or-set_other, ext_get_or}
use Rattle.std.proofs.Math.ListN.{length-set}
use Rattle.std.proofs.lemmas.Bool.Decides.{eqb_tells}
use Rattle.rp_base.specs.declared.Master.{Master}
use Rattle.rp_base.specs.declared.Master.TheVariants.{Core0, Core1, DmaRead, DmaWrite}
use Rattle.bus_fabric.specs.Masters.{Access, access_of, is_on, asks_on}
use Rattle.bus_fabric.specs.State.{State, last_on}
use Rattle.bus_fabric.specs.Grant.{is_free, winner_after, last_from}
use Rattle.bus_fabric.specs.Winners.{wins_on, has_won_by, has_won, remembered}

-- ---- the list that a cycle leaves

pub length-last_from : (asked : List (Option Access)) (s : State) (port : ℕ) (ms : List Master) →
    length (last_from asked s port ms) ≡ length ms
length-last_from asked s port [] = refl
length-last_from asked s port (m ∷ ms) = ap suc (length-last_from asked s (suc port) ms)

pub last_from-at : (asked : List (Option Access)) (s : State) (first : ℕ) (ms : List Master) (p port : ℕ) → port ≡ first + p → p < length ms →
    get_or (last_from asked s first ms) p DmaWrite
    ≡ unwrap_or (winner_after (get_or ms p DmaWrite) asked s port) (get_or ms p DmaWrite)
last_from-at asked s first [] p port is low = absurd (omega arith)
last_from-at asked s first (m ∷ ms) zero port is low =
    let same : first ≡ port = omega arith in ap (λ k. unwrap_or (winner_after m asked s k) m) same
last_from-at asked s first (m ∷ ms) (suc p) port is low =
    last_from-at asked s (suc first) ms p port (omega arith) (omega arith)

-- ---- one master

same_port : (w : Bool) (l : List Master) (q p : ℕ) (m : Master) → q ≡ p → p < length l →
    get_or (cond w (slice_set l q m) l) p DmaWrite ≡ cond w m (get_or l p DmaWrite)
same_port true l q p m is low = get_or-set_at l q p m DmaWrite (sym is) (omega arith)
same_port false l q p m is low = refl

other_port : (w : Bool) (l : List Master) (q p : ℕ) (m : Master) → p ≢ q →
    get_or (cond w (slice_set l q m) l) p DmaWrite ≡ get_or l p DmaWrite
other_port true l q p m ne = get_or-set_other l q p m DmaWrite ne
other_port false l q p m ne = refl

not_asking : (free asks unbeaten : Bool) → asks ≡ false → (free && (asks && unbeaten)) ≡ false
not_asking true true b h = cc
not_asking true false b h = refl
not_asking false a b h = refl

wins_on-not_asking : (asked : List (Option Access)) (s : State) (p : ℕ) (m : Master) → asks_on asked p m ≡ false →
    wins_on asked s p m ≡ false
wins_on-not_asking asked s p m none = not_asking (is_free s.hold p) (asks_on asked p m) _ none

by_access : (asked : List (Option Access)) (s : State) (m : Master) (l : List Master) (p : ℕ) (a : Option Access) →
    access_of asked m ≡ a → p < length l →
    get_or (remembered (has_won_by asked s m a) a m l) p DmaWrite ≡ cond (wins_on asked s p m) m (get_or l p DmaWrite)
by_access asked s m l p None is low =
    ap (λ w. cond w m (get_or l p DmaWrite)) (sym (wins_on-not_asking asked s p m (ap (is_on p) is)))
by_access asked s m l p (Some access) is low =
    elim (eqb_tells access.0 p) [
      | inl same ↦
          same_port (wins_on asked s access.0 m) l access.0 p m same.1 low
          ∙ ap (λ k. cond (wins_on asked s k m) m (get_or l p DmaWrite)) same.1
      | inr other ↦
          other_port (wins_on asked s access.0 m) l access.0 p m (λ e. other.1 (sym e))
          ∙ ap (λ w. cond w m (get_or l p DmaWrite))
          (sym (wins_on-not_asking asked s p m (ap (is_on p) is ∙ other.0)))
    ]

-- what the ports remember once this master has been looked at
abbrev looked_at : List (Option Access) → State → Master → List Master → List Master
looked_at asked s m l = remembered (has_won asked s m) (access_of asked m) m l

looked_at-at : (asked : List (Option Access)) (s : State) (m : Master) (l : List Master) (p : ℕ) → p < length l →
    get_or (looked_at asked s m l) p DmaWrite ≡ cond (wins_on asked s p m) m (get_or l p DmaWrite)
looked_at-at asked s m l p low = by_access asked s m l p (access_of asked m) refl low

length-remembered : (won : Bool) (a : Option Access) (m : Master) (l : List Master) → length (remembered won a m l) ≡ length l
length-remembered true None m l = refl
length-remembered true (Some access) m l = length-set l access.0 m
length-remembered false a m l = refl

-- ---- all masters

-- the first of the masters that has won the port, or what it remembered
by_find : (free a b c d : Bool) (last : Master) →
    cond (free && a) Core0 (cond (free && b) Core1 (cond (free && c) DmaRead (cond (free && d) DmaWrite last)))
    ≡ unwrap_or (cond free (cond a (Some Core0) (cond b (Some Core1) (cond c (Some DmaRead) (cond d (Some DmaWrite) None)))) None) last
by_find false a b c d last = refl
by_find true true b c d last = refl
by_find true false true c d last = refl
by_find true false false true d last = refl
by_find true false false false true last = refl
by_find true false false false false last = refl

pub all_remembered : (asked : List (Option Access)) (s : State) →
    remembered (has_won asked s Core0) (access_of asked Core0) Core0
    (remembered (has_won asked s Core1) (access_of asked Core1) Core1
    (remembered (has_won asked s DmaRead) (access_of asked DmaRead) DmaRead
    (remembered (has_won asked s DmaWrite) (access_of asked DmaWrite) DmaWrite s.last)))
    ≡ last_from asked s 0 s.last
all_remembered asked s =
    let third = looked_at asked s DmaWrite s.last in
    let second = looked_at asked s DmaRead third in
    let first = looked_at asked s Core1 second in
    let size3 : length third ≡ length s.last = length-remembered (has_won asked s DmaWrite) (access_of asked DmaWrite) DmaWrite s.last in
    let size2 : length second ≡ length s.last = length-remembered (has_won asked s DmaRead) (access_of asked DmaRead) DmaRead third ∙ size3 in
    let size1 : length first ≡ length s.last = length-remembered (has_won asked s Core1) (access_of asked Core1) Core1 second ∙ size2 in
    let size0 : length (looked_at asked s Core0 first) ≡ length s.last =
    length-remembered (has_won asked s Core0) (access_of asked Core0) Core0 first ∙ size1 in
    ext_get_or DmaWrite (looked_at asked s Core0 first) (last_from asked s 0 s.last)
    (size0 ∙ sym (length-last_from asked s 0 s.last))
    (λ p h.
    let low : p < length s.last = omega arith in
    let at3 = looked_at-at asked s DmaWrite s.last p low in
    let at2 = looked_at-at asked s DmaRead third p (omega arith) in
    let at1 = looked_at-at asked s Core1 second p (omega arith) in
    let at0 = looked_at-at asked s Core0 first p (omega arith) in
    at0 ∙ ap (cond (wins_on asked s p Core0) Core0) (at1 ∙ ap (cond (wins_on asked s p Core1) Core1)
    (at2 ∙ ap (cond (wins_on asked s p DmaRead) DmaRead) at3))
    ∙ by_find (is_free s.hold p) _ _ _ _ (last_on p s)
    ∙ sym (last_from-at asked s 0 s.last p p (omega arith) low))
