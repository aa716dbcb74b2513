-- A cycle in which the pads stay, and any other one, by what drives the pads from outside.
use Rattle.std.proofs.Common.{◌≡◌, ◌<◌, ℕ, ◌-◌, ◌^◌, List, [], ◌∷◌, length, Option, refl, sym, ap, ◌∙◌}
use Rattle.std.proofs.lemmas.List.{nil_from_length}
use Rattle.io_bank.specs.declared.outputs.Outs.{Outs}
use Rattle.io_bank.specs.State.{State as Bank}
use Rattle.io_bank.specs.Edges.{edges_of}
use Rattle.io_bank.specs.Levels.{by_sets, levels_of}
use Rattle.io_bank.specs.Step.{after_step, with_edges, with_levels}
use Rattle.lane_look.specs.declared.device.Wires.{Wires}
use Rattle.lane_look.specs.declared.marks.Mark.{Mark}
use Rattle.pin_script.specs.declared.entry.Entry.{Entry}
use Rattle.pin_script.specs.declared.script.Drives.{Drives}
use Rattle.pin_script.specs.Levels.{drive_at}
use Rattle.outer_lane.specs.declared.drivers.Drivers.{Drivers}
use Rattle.outer_lane.specs.declared.world.SeenOutputs.{SeenOutputs}
use Rattle.outer_lane.specs.BroughtUp.{blocks_of, blocks_stepped}
use Rattle.outer_lane.specs.Rest.{Stays, outs_by, pads_after, pads_driven, next_driven, marked_driven}
use Rattle.outer_lane.specs.State.{State}
use Rattle.outer_lane.specs.Step.{outs_of, outside_of, levels_by, pads_by, next_by, marked_by, byte_of}
use Rattle.io_bank.proofs.Routed.{levels_same}

-- ---- an empty script

free : (wires : Wires) (cycle pin : ℕ) → by_sets wires.mask wires.level pin ≡ outside_of [] wires cycle pin
unfolding outside_of drive_at
free wires cycle pin = refl

pub empty_outside : (script : List Entry) (wires : Wires) (cycle : ℕ) → length script ≡ 0 → (pin : ℕ) → pin < 30 →
    by_sets wires.mask wires.level pin ≡ outside_of script wires cycle pin
empty_outside script wires cycle e pin lt =
    free wires cycle pin ∙ ap (λ (xs : List Entry). outside_of xs wires cycle pin) (sym (nil_from_length script e))

-- ---- the pads stay

abbrev pub by_pwm : Outs → ℕ → ℕ → Outs
by_pwm outs levels enables = record outs { pwm = levels ∷ enables ∷ [] }

-- the pads have the same levels by the levels of PWM that are put out, whatever the other parts put out
abbrev pub SamePwm : ℕ → ℕ → Bank → Type 0
SamePwm first next b =
    (outs : Outs) → (enables driven high : ℕ) →
    levels_of (by_pwm outs first enables) (by_sets driven high) b ≡ levels_of (by_pwm outs next enables) (by_sets driven high) b

pub pads_stay : (wires : Wires) (seen : SeenOutputs) (drives : Drives) (s : State) (d : Drivers) → Stays s.sio d s.pads (blocks_of s) →
    seen.pio0 ≡ d.pio0_levels ∷ d.pio0_enables ∷ [] → seen.pio1 ≡ d.pio1_levels ∷ d.pio1_enables ∷ [] → SamePwm d.pwm wires.pwm s.pads →
    drives.driven ≡ d.driven → drives.high ≡ d.high → pads_driven wires seen drives s ≡ s.pads
unfolding pads_driven pads_after
pads_stay wires seen drives s d stays pio0 pio1 pwm driven high =
    let pwm_outs : Outs = by_pwm (outs_by s.sio d) wires.pwm (2 ^ 30 - 1) in
    let outs : outs_of wires seen s ≡ pwm_outs = rw (pio0, pio1, stays.1.1) refl in
    ap (λ (o : Outs). after_step o (by_sets drives.driven drives.high) s.pads) outs
    ∙ ap (λ (n : ℕ). after_step pwm_outs (by_sets n drives.high) s.pads) driven
    ∙ ap (λ (n : ℕ). after_step pwm_outs (by_sets d.driven n) s.pads) high
    ∙ ap (λ (n : ℕ). with_levels n (with_edges (edges_of s.pads) s.pads)) (sym (pwm (outs_by s.sio d) (2 ^ 30 - 1) d.driven d.high))
    ∙ stays.0

-- ---- any cycle, part by part

pads-any : (wires : Wires) (seen : SeenOutputs) (drives : Drives) (s : State) (d : Drivers) → outs_by s.sio d ≡ outs_of wires seen s →
    d.driven ≡ drives.driven → d.high ≡ drives.high → pads_after s.sio d s.pads ≡ pads_driven wires seen drives s
unfolding pads_driven pads_after
pads-any wires seen drives s d outs driven high =
    ap (λ (o : Outs). after_step o (by_sets d.driven d.high) s.pads) outs
    ∙ ap (λ (n : ℕ). after_step (outs_of wires seen s) (by_sets n d.high) s.pads) driven
    ∙ ap (λ (n : ℕ). after_step (outs_of wires seen s) (by_sets drives.driven n) s.pads) high

pub any_next : (wires : Wires) (seen : SeenOutputs) (drives : Drives) (s a b : State) (d : Drivers) → outs_by s.sio d ≡ outs_of wires seen s →
    d.driven ≡ drives.driven → d.high ≡ drives.high → a ≡ blocks_stepped seen.cycle s → b ≡ record a { pads = pads_after a.sio d a.pads } →
    record b { irq = wires.irq } ≡ next_driven wires seen drives s
any_next wires seen drives s a b d outs driven high ea eb =
    ap (λ (x : State). record x { irq = wires.irq }) eb
    ∙ ap (λ (x : State). record x { pads = pads_after x.sio d x.pads; irq = wires.irq }) ea
    ∙ ap (λ (p : Bank). record (blocks_stepped seen.cycle s) { pads = p; irq = wires.irq }) (pads-any wires seen drives s d outs driven high)

abbrev pub mark_by : List (Option ℕ) → ℕ → Mark
mark_by uart levels = record { uart = uart; pads = levels }

mark-go : (s : State) (uart : List (Option ℕ)) (n m : ℕ) → uart ≡ byte_of s.uart0 ∷ byte_of s.uart1 ∷ [] → n ≡ m →
    mark_by uart n ≡ mark_by (byte_of s.uart0 ∷ byte_of s.uart1 ∷ []) m
mark-go s uart n m e f = rw (e, f) refl

pub any_marked : (wires : Wires) (seen : SeenOutputs) (drives : Drives) (s a : State) (d : Drivers) (uart : List (Option ℕ)) (levels : ℕ) →
    outs_by s.sio d ≡ outs_of wires seen s → d.driven ≡ drives.driven → d.high ≡ drives.high → a ≡ blocks_stepped seen.cycle s →
    uart ≡ byte_of s.uart0 ∷ byte_of s.uart1 ∷ [] → levels ≡ (pads_after a.sio d a.pads).current →
    mark_by uart levels ≡ marked_driven wires seen drives s
any_marked wires seen drives s a d uart levels outs driven high ea bytes is =
    mark-go s uart levels (pads_driven wires seen drives s).current bytes
    (is ∙ ap (λ (x : State). (pads_after x.sio d x.pads).current) ea
    ∙ ap (λ (p : Bank). p.current) (pads-any wires seen drives s d outs driven high))

-- ---- by the definition of a cycle

pub driven_next : (script : List Entry) (wires : Wires) (seen : SeenOutputs) (drives : Drives) (s : State) →
    ((pin : ℕ) → pin < 30 → by_sets drives.driven drives.high pin ≡ outside_of script wires seen.cycle pin) →
    next_driven wires seen drives s ≡ next_by script wires seen s
unfolding pads_driven pads_by next_by
driven_next script wires seen drives s outside =
    ap (λ (n : ℕ). record (blocks_stepped seen.cycle s) { pads = with_levels n (with_edges (edges_of s.pads) s.pads); irq = wires.irq })
    (levels_same (outs_of wires seen s) (by_sets drives.driven drives.high) (outside_of script wires seen.cycle) s.pads outside)

pub driven_marked : (script : List Entry) (wires : Wires) (seen : SeenOutputs) (drives : Drives) (s : State) →
    ((pin : ℕ) → pin < 30 → by_sets drives.driven drives.high pin ≡ outside_of script wires seen.cycle pin) →
    marked_driven wires seen drives s ≡ marked_by script wires seen s
unfolding pads_driven levels_by marked_by
driven_marked script wires seen drives s outside =
    mark-go s (byte_of s.uart0 ∷ byte_of s.uart1 ∷ []) _ _ refl
    (levels_same (outs_of wires seen s) (by_sets drives.driven drives.high) (outside_of script wires seen.cycle) s.pads outside)
