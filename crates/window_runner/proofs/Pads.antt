-- The levels that a cycle marks are those of the pads after it: what is done in the cycle leaves them.
use Rattle.window_runner.proofs.Shared.{Setting, State, after_deeds, begun, deeds_in, ended, mark, next, next_by, refl, stepped, wanted, with_sio, with_turns, ℕ, ◌∙◌, ◌≡◌}
use Rattle.bus_fabric.specs.Masters.{masters}
use Rattle.outer_lane.specs.Step as outer
use Rattle.rp_machine.proofs.Kept.{masters_leave}

-- the levels now
abbrev pub levels : State → ℕ
levels s = s.outer.pads.current

stepped_levels : (w : Setting) (s : State) → levels (stepped w (begun s) (wanted (begun s)) s) ≡ (mark w s).pads
unfolding stepped with_turns mark outer.next outer.next_by outer.pads_by outer.marked outer.marked_by outer.levels_by
stepped_levels w s = refl

pub next_levels : (w : Setting) (s : State) → levels (next w s) ≡ (mark w s).pads
unfolding next next_by after_deeds ended with_sio
next_levels w s =
    let after = stepped w (begun s) (wanted (begun s)) s in
    (masters_leave w after.sio masters (deeds_in w s) after).levels ∙ stepped_levels w s
