-- What the events of a run leave in a sink, and with the probes that hear its pins. The project's own.
use Rattle.std.specs.Prelude.{◌≡◌, ℕ, List, [], ◌∷◌, ◌++◌, Option, None, Some, flat_map, map}
use Rattle.std.proofs.Common.{refl, sym, ap, ap₂, ◌∙◌}
use Rattle.std.proofs.lemmas.List.{append-nil, map-id}
use Rattle.std.proofs.lemmas.List.Concat.{flat_map-append}
use Rattle.rp_ports.specs.Sink.{Appends}
use Rattle.rp_ports.proofs.Pieces.{appends_both}
use Rattle.trace_text.specs.declared.event.Event.{Event}
use Rattle.trace_text.specs.Line.{event_text}
use Rattle.board_parts.specs.Hearing.{Aim, after_hearing}
use Rattle.board_parts.specs.declared.change.PinChange.{PinChange}
use Rattle.board_parts.proofs.Hearing.{hears_in_turn}
use Rattle.pico_top.specs.Dialogue.{Sunk}
use Rattle.pico_top.specs.RunText.{event_lines, change_in, after_events}

-- Their lines stand behind what was written before, no put failed, and the probes heard the changes of pins among them.
pub record HasTold (a b : Sunk) (before after : List Aim) (events : List Event) : Type 0 where
  pub written : Appends a.written b.written (event_lines events)
  pub steady : b.faults ≡ a.faults
  pub heard : after ≡ after_events events before

-- ---- no events, and some behind others

pub after_none : (aims : List Aim) → after_events [] aims ≡ aims
unfolding after_hearing
after_none aims = map-id aims

heard_both : (first second : List PinChange) (aims : List Aim) → map (after_hearing (first ++ second)) aims ≡ map (after_hearing second) (map (after_hearing first) aims)
heard_both first second [] = refl
heard_both first second (a ∷ aims) = ap₂ (λ (x : Aim) (xs : List Aim). x ∷ xs) (sym (hears_in_turn a first second)) (heard_both first second aims)

after_both : (xs ys : List Event) (aims : List Aim) → after_events (xs ++ ys) aims ≡ after_events ys (after_events xs aims)
after_both xs ys aims = ap (λ c. map (after_hearing c) aims) (flat_map-append change_in xs ys) ∙ heard_both (flat_map change_in xs) (flat_map change_in ys) aims

pub appends_none : (a : Option (List ℕ)) → Appends a a []
appends_none None = refl
appends_none (Some w) = ap Some (sym (append-nil w))

pub told_none : (a : Sunk) (x : List Aim) → HasTold a a x x []
told_none a x = record { written = appends_none a.written; steady = refl; heard = sym (after_none x) }

pub told_both : (a b c : Sunk) (x y z : List Aim) (first second : List Event) → HasTold a b x y first → HasTold b c y z second → HasTold a c x z (first ++ second)
told_both a b c x y z first second h k = record {
  written = rw (flat_map-append event_text first second) (appends_both a.written b.written c.written (event_lines first) (event_lines second) h.written k.written);
  steady = k.steady ∙ h.steady;
  heard = k.heard ∙ ap (after_events second) h.heard ∙ sym (after_both first second x);
}

-- one event
pub told_one : (a b : Sunk) (x y : List Aim) (event : Event) → Appends a.written b.written (event_text event) → b.faults ≡ a.faults → y ≡ after_events (event ∷ []) x → HasTold a b x y (event ∷ [])
told_one a b x y event h s k = record { written = rw (append-nil (event_text event)) h; steady = s; heard = k }
