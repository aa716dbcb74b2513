use Rattle.std.proofs.Common.{◌≡◌, ◌+◌, ◌++◌, true, length, map}
use Rattle.std.specs.Vec.Iter.{into_iter_items, into_iter_len}
use Rattle.board_parts.specs.Parts.{placed_at}
use Rattle.board_parts.specs.Wiring.{counts_of, placed_from, wired_in}
use Rattle.board_parts.proofs.Placing.{fit_from}
use Rattle.board_parts.proofs.attaching.attach_all.Given as goal

-- the parts that were attached, and those that are left from an index on, are all; the wirings of those that are left fit them
abbrev pub invariant-loop-part : goal.invariant-loop-part
invariant-loop-part g l =
    (map (λ p. placed_at (g.P.Part.attached p) (g.P.Part.meaning p)) l.placed.items
    ++ placed_from l.index (map (λ p. g.P.Part.meaning p) (into_iter_items l.part-iterator)) (map wired_in l.wirings)
    ≡ placed_from 0 (map (λ p. g.P.Part.meaning p) (into_iter_items l.initial.part-iterator)) (map wired_in l.wirings))
    × (fit_from l.index (counts_of (map (λ p. g.P.Part.meaning p) (into_iter_items l.part-iterator))) (map wired_in l.wirings) ≡ true)
    × (into_iter_len l.part-iterator ≡ length (into_iter_items l.part-iterator))
    × (l.index + length (into_iter_items l.part-iterator) ≡ length (into_iter_items l.initial.part-iterator))
