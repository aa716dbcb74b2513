use Rattle.std.proofs.Common.{◌≡◌, drop, map}
use Rattle.board_parts.specs.Wiring.{pins_for, wired_in}
use Rattle.board_parts.proofs.attaching.pins_for.Given as goal

-- none of the wirings so far names the part
abbrev pub invariant-loop-wiring : goal.invariant-loop-wiring
invariant-loop-wiring l = pins_for l.index (map wired_in (drop l.wiring-index l.wirings)) ≡ pins_for l.index (map wired_in l.wirings)
