-- The device's words do not matter to what the other parts do in a cycle.
use Rattle.std.proofs.Common.{◌≡◌, ℕ, List, length, drop, refl}
use Rattle.std.specs.List.{refill}
use Rattle.std.proofs.Math.Seq.{take-append_seam}
use Rattle.lane_look.specs.Device.{no_wires}
use Rattle.lane_look.specs.declared.device.Wires.{Wires}
use Rattle.outer_lane.specs.declared.world.SeenOutputs.{SeenOutputs}
use Rattle.outer_lane.specs.Setting.{Setting}
use Rattle.outer_lane.specs.State.{State}
use Rattle.outer_lane.specs.Step.{levels_by, pads_by, next_by, next, marked_by, marked, wires_by, words_by}

pub next-stepped : (w : Setting) (seen : SeenOutputs) (s : State) →
    next_by w.script (wires_by w.device s.device seen.cycle s.pads.current) seen
    (record s { device = words_by w.device s.device seen.cycle s.pads.current })
    ≡ next w s seen
unfolding pads_by next_by next
next-stepped w seen s = refl

pub marked-stepped : (w : Setting) (seen : SeenOutputs) (s : State) (words : List ℕ) →
    marked_by w.script (wires_by w.device s.device seen.cycle s.pads.current) seen (record s { device = words }) ≡ marked w s seen
unfolding levels_by marked_by marked
marked-stepped w seen s words = refl

pub ruleset stepped = (next-stepped, marked-stepped)

-- a slice that keeps its length is all of what it was lent from
pub refilled : (xs ws : List ℕ) → length ws ≡ length xs → refill (length xs) xs ws ≡ ws
refilled xs ws e = rw (← e) (take-append_seam ws (drop (length ws) xs))

no_wires_go : (m l p i : ℕ) → m ≡ 0 → l ≡ 0 → p ≡ 0 → i ≡ 0 → record { mask = m; level = l; pwm = p; irq = i } ≡ no_wires
no_wires_go m l p i em el ep ei = rw (em, el, ep, ei) refl

-- the wires of nothing, field by field
pub no_wires_by : (r : Wires) → r.mask ≡ 0 × (r.level ≡ 0 × (r.pwm ≡ 0 × r.irq ≡ 0)) → r ≡ no_wires
no_wires_by r h = no_wires_go r.mask r.level r.pwm r.irq h.0 h.1.0 h.1.1.0 h.1.1.1
