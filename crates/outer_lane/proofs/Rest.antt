-- A step of the pads that changes nothing, and any other one.
use Rattle.std.proofs.Common.{◌≡◌, ℕ, ◌==◌, Bool, true, false, cond, List, [], ◌∷◌, refl, sym, ap, ◌∙◌}
use Rattle.io_bank.specs.State.{State as Bank}
use Rattle.io_bank.specs.Edges.{edges_of}
use Rattle.io_bank.specs.Interrupts.{line_of}
use Rattle.io_bank.specs.Levels.{levels_of, by_sets}
use Rattle.io_bank.specs.Step.{after_step, is_quiet, with_edges, with_levels}
use Rattle.io_bank.proofs.Quietly.{rest_step}
use Rattle.outer_lane.specs.declared.blocks.Blocks.{Blocks}
use Rattle.outer_lane.specs.declared.drivers.Drivers.{Drivers}
use Rattle.outer_lane.specs.BroughtUp.{blocks_outs}
use Rattle.outer_lane.specs.Lines.{bank_line}
use Rattle.outer_lane.specs.Rest.{Stays, outs_by, pads_after}

-- the same levels again
pub same_levels : (sio : List ℕ) (kept now : Drivers) (b : Bank) (levels : ℕ) → pads_after sio kept b ≡ b →
    levels ≡ levels_of (outs_by sio now) (by_sets now.driven now.high) b → levels ≡ b.current → pads_after sio now b ≡ b
unfolding pads_after
same_levels sio kept now b levels stays is current =
    let before : levels_of (outs_by sio kept) (by_sets kept.driven kept.high) b ≡ b.current = ap (λ (x : Bank). x.current) stays in
    ap (λ n. with_levels n (with_edges (edges_of b) b)) (sym is ∙ current ∙ sym before) ∙ stays

-- the levels are those that the step leaves
pub levels_left : (sio : List ℕ) (d : Drivers) (b : Bank) → (pads_after sio d b).current ≡ levels_of (outs_by sio d) (by_sets d.driven d.high) b
unfolding pads_after
levels_left sio d b = refl

at_rest-again : (sio : List ℕ) (d : Drivers) (b : Bank) → is_quiet (pads_after sio d b) ≡ true → pads_after sio d (pads_after sio d b) ≡ pads_after sio d b
unfolding pads_after
at_rest-again sio d b h = rest_step (outs_by sio d) (by_sets d.driven d.high) (after_step (outs_by sio d) (by_sets d.driven d.high) b) h refl

both_low : (first : Bool) (x y : Bool) → x ≡ false → y ≡ false → cond first x y ≡ false
both_low true x y h k = h
both_low false x y h k = k

neither : (b : Bank) → line_of b b.core0 ≡ false → line_of b b.core1 ≡ false → (core : ℕ) → bank_line core b ≡ false
neither b h k core = both_low (core == 0) (line_of b b.core0) (line_of b b.core1) h k

pub stays_again : (sio : List ℕ) (d : Drivers) (b after : Bank) (blocks : Blocks) → after ≡ pads_after sio d b → is_quiet after ≡ true →
    line_of after after.core0 ≡ false → line_of after after.core1 ≡ false → blocks_outs blocks ≡ d.uart_levels ∷ d.uart_enables ∷ [] →
    Stays sio d after blocks
stays_again sio d b after blocks e h core0 core1 outs =
    let rests : pads_after sio d after ≡ after = rw e (at_rest-again sio d b (rw e at h)) in
    (rests, (neither after core0 core1, outs))
