-- Where no port has a hold, a cycle in which nobody asks does nothing; and what a cycle leaves in which core 0 alone may ask.
use Rattle.std.proofs.Common.{◌≡◌, ◌≢◌, ℕ, zero, suc, ◌+◌, ◌≤◌, ◌==◌, Bool, true, false, cond, inl, inr, List, [], ◌∷◌, Option, Some, None, refl, sym, ap, ◌∙◌, arith}
use Rattle.std.specs.Prelude.{slice_set, unwrap_or, is_none, is_some}
use Rattle.std.specs.List.{find}
use Rattle.std.proofs.lemmas.Bool.{eq-eqb}
use Rattle.std.proofs.lemmas.Bool.Decides.{eqb_tells}
use Rattle.rp_base.specs.declared.Master.{Master}
use Rattle.rp_base.specs.declared.Master.TheVariants.{Core0, Core1, DmaRead, DmaWrite}
use Rattle.bus_fabric.specs.declared.Hold.{Hold}
use Rattle.bus_fabric.specs.Masters.{masters, Access, asks_on}
use Rattle.bus_fabric.specs.State.{State, has_hold, last_on}
use Rattle.bus_fabric.specs.Grant.{apb, is_high, wins, is_free, winner_after, winner_on, hold_of, hold_after, last_from, after_grant}
use Rattle.bus_fabric.specs.Alone.{nobody, at_most_core0}
use Rattle.bus_fabric.proofs.Arbitration.{arbitrated}
use Rattle.bus_fabric.proofs.Fairness.{other_port}

-- ---- ports without a winner

find_none : (test : Master → Bool) → ((m : Master) → test m ≡ false) → find test masters ≡ None
find_none test h = rw (h Core0) (rw (h Core1) (rw (h DmaRead) (rw (h DmaWrite) refl)))

either_none : (free : Bool) (o : Option Master) → o ≡ None → cond free o None ≡ None
either_none true o h = h
either_none false o h = refl

not_asking : (high : Master → Bool) (last : Master) (asks : Master → Bool) (m : Master) → asks m ≡ false → wins high last asks m ≡ false
not_asking high last asks m h = rw h refl

no_winner : (last : Master) (asked : List (Option Access)) (s : State) (port : ℕ) → ((m : Master) → asks_on asked port m ≡ false) →
    winner_after last asked s port ≡ None
no_winner last asked s port h =
    either_none (is_free s.hold port) _
    (find_none _ (λ m. not_asking (is_high s.priority) last (asks_on asked port) m (h m)))

hold_stays : (asked : List (Option Access)) (s : State) (hold : Option Hold) → is_some hold ≡ false → winner_on asked s apb ≡ None →
    hold_after asked s hold ≡ hold
hold_stays asked s None e h = ap (hold_of asked) h
hold_stays asked s (Some hold) e h = cc

last_from-none : (asked : List (Option Access)) (s : State) (first : ℕ) (ms : List Master) →
    ((last : Master) (port : ℕ) → first ≤ port → winner_after last asked s port ≡ None) → last_from asked s first ms ≡ ms
last_from-none asked s first [] h = refl
last_from-none asked s first (m ∷ ms) h =
    ap (λ w. unwrap_or w m ∷ last_from asked s (suc first) ms) (h m first (omega arith))
    ∙ ap (λ l. m ∷ l) (last_from-none asked s (suc first) ms (λ last port low. h last port (omega arith)))

-- ---- nobody asks

nobody_on : (port : ℕ) (m : Master) → asks_on nobody port m ≡ false
nobody_on port Core0 = refl
nobody_on port _ = refl

pub nobody-after : (s : State) → has_hold s ≡ false → after_grant nobody s ≡ s
nobody-after s free =
    ap (λ h. record s { hold = h; last = last_from nobody s 0 s.last })
    (hold_stays nobody s s.hold free (no_winner (last_on apb s) nobody s apb (nobody_on apb)))
    ∙ ap (λ l. record s { last = l })
    (last_from-none nobody s 0 s.last (λ last port low. no_winner last nobody s port (nobody_on port)))

-- ---- no master but core 0 may ask, and an access may last

abbrev core0 : Access → List (Option Access)
core0 a = at_most_core0 (Some a)

others_do_not : (a : Access) (port : ℕ) (n : Master) → n ≢ Core0 → asks_on (core0 a) port n ≡ false
others_do_not a port Core0 ne = absurd (ne refl)
others_do_not a port _ ne = refl

none_elsewhere : (a : Access) (port : ℕ) (n : Master) → a.0 == port ≡ false → asks_on (core0 a) port n ≡ false
none_elsewhere a port Core0 e = e
none_elsewhere a port _ e = refl

wins_there : (last : Master) (a : Access) (s : State) → wins (is_high s.priority) last (asks_on (core0 a) a.0) Core0 ≡ true
wins_there last a s =
    (arbitrated (is_high s.priority) last (asks_on (core0 a) a.0)).alone Core0 (eq-eqb a.0 a.0 refl) (others_do_not a a.0)

none_at : (last : Master) (a : Access) (s : State) (port : ℕ) → a.0 ≢ port → winner_after last (core0 a) s port ≡ None
none_at last a s port ne =
    elim (eqb_tells a.0 port) [
      | inl same ↦ absurd (ne same.1)
      | inr other ↦ no_winner last (core0 a) s port (λ n. none_elsewhere a port n other.0)
    ]

found_first : (test : Master → Bool) → test Core0 ≡ true → find test masters ≡ Some Core0
found_first test h = rw h refl

core0_wins : (last : Master) (a : Access) (s : State) → is_free s.hold a.0 ≡ true → winner_after last (core0 a) s a.0 ≡ Some Core0
core0_wins last a s free =
    ap (λ b. cond b (find (wins (is_high s.priority) last (asks_on (core0 a) a.0)) masters) None) free
    ∙ found_first (wins (is_high s.priority) last (asks_on (core0 a) a.0)) (wins_there last a s)

none_on : (last : Master) (a : Access) (s : State) (port : ℕ) → is_free s.hold a.0 ≡ false → winner_after last (core0 a) s port ≡ None
none_on last a s port held =
    elim (eqb_tells a.0 port) [
      | inl same ↦ ap (λ k. winner_after last (core0 a) s k) (sym same.1) ∙ ap (λ b. cond b (find (wins (is_high s.priority) last (asks_on (core0 a) a.0)) masters) None) held
      | inr other ↦ no_winner last (core0 a) s port (λ n. none_elsewhere a port n other.0)
    ]

last_from-core0 : (a : Access) (s : State) (first p : ℕ) (ms : List Master) → is_free s.hold a.0 ≡ true → a.0 ≡ first + p →
    last_from (core0 a) s first ms ≡ slice_set ms p Core0
last_from-core0 a s first zero [] free is = refl
last_from-core0 a s first (suc p) [] free is = refl
last_from-core0 a s first zero (x ∷ ms) free is =
    let here : a.0 ≡ first = omega arith in
    ap (λ port. unwrap_or (winner_after x (core0 a) s port) x ∷ last_from (core0 a) s (suc first) ms) (sym here)
    ∙ ap (λ w. unwrap_or w x ∷ last_from (core0 a) s (suc first) ms) (core0_wins x a s free)
    ∙ ap (λ l. Core0 ∷ l) (last_from-none (core0 a) s (suc first) ms
    (λ last port low. none_at last a s port (let away : a.0 ≢ port = omega arith in away)))
last_from-core0 a s first (suc p) (x ∷ ms) free is =
    ap (λ w. unwrap_or w x ∷ last_from (core0 a) s (suc first) ms)
    (none_at x a s first (let away : a.0 ≢ first = omega arith in away))
    ∙ ap (λ l. x ∷ l) (last_from-core0 a s (suc first) p ms free (omega arith))

-- nobody asks: the hold alone goes on
pub after_none : (access : Option Access) (hold : Option Hold) (s : State) → access ≡ None → hold ≡ hold_after (at_most_core0 access) s s.hold →
    record s { hold = hold } ≡ after_grant (at_most_core0 access) s
after_none access hold s none is =
    rw (is, none) (sym (ap (λ l. record s { hold = hold_after nobody s s.hold; last = l })
    (last_from-none nobody s 0 s.last (λ last port low. no_winner last nobody s port (nobody_on port)))))

-- core 0 has the port that it asks for
pub after_won : (access : Option Access) (port : ℕ) (writes : Bool) (hold : Option Hold) (s : State) → access ≡ Some (port, writes) →
    hold ≡ hold_after (at_most_core0 access) s s.hold → is_free s.hold port ≡ true →
    record s { hold = hold; last = slice_set s.last port Core0 } ≡ after_grant (at_most_core0 access) s
after_won access port writes hold s asks is free =
    rw (is, asks) (sym (ap (λ l. record s { hold = hold_after (core0 (port, writes)) s s.hold; last = l })
    (last_from-core0 (port, writes) s 0 port s.last free (omega arith))))

-- the port is held
pub after_held : (access : Option Access) (port : ℕ) (writes : Bool) (hold : Option Hold) (s : State) → access ≡ Some (port, writes) →
    hold ≡ hold_after (at_most_core0 access) s s.hold → is_free s.hold port ≡ false →
    record s { hold = hold } ≡ after_grant (at_most_core0 access) s
after_held access port writes hold s asks is held =
    rw (is, asks) (sym (ap (λ l. record s { hold = hold_after (core0 (port, writes)) s s.hold; last = l })
    (last_from-none (core0 (port, writes)) s 0 s.last (λ last port' low. none_on last (port, writes) s port' held))))

-- the same where no access lasts, on a port on which none does
pub after_short : (access : Option Access) (port : ℕ) (writes : Bool) (s : State) → access ≡ Some (port, writes) → has_hold s ≡ false → port ≢ apb →
    record s { last = slice_set s.last port Core0 } ≡ after_grant (at_most_core0 access) s
after_short access port writes s asks free ne =
    let a : Access = (port, writes) in
    rw asks (
    ap (λ h. record s { hold = h; last = slice_set s.last port Core0 })
    (sym (hold_stays (core0 a) s s.hold free (none_at (last_on apb s) a s apb ne)))
    ∙ sym (ap (λ l. record s { hold = hold_after (core0 a) s s.hold; last = l })
    (last_from-core0 a s 0 port s.last (other_port (is_none s.hold) port ne) (omega arith)))
    )
