use Rattle.pico_top.proofs.Shared.{◌≡◌, map, take, counts_of}
use Rattle.pico_top.proofs.pins_of.Given as goal

-- the numbers of the first parts
abbrev pub invariant-loop-part : goal.invariant-loop-part
invariant-loop-part g l = l.pins.items ≡ counts_of (map g.P.Part.meaning (take l.part-index l.parts))
