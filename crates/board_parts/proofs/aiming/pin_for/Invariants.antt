use Rattle.std.proofs.Common.{◌≡◌, drop}
use Rattle.board_parts.specs.Aiming.{pin_for}
use Rattle.board_parts.proofs.aiming.pin_for.Given as goal

-- none of the targets so far names the probe
abbrev pub invariant-loop-target : goal.invariant-loop-target
invariant-loop-target l = pin_for l.index (drop l.target-index l.targets) ≡ pin_for l.index l.targets
