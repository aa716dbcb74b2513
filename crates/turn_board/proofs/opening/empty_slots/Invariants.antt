use Rattle.std.proofs.Common.{◌≡◌, replicate}
use Rattle.std.specs.Vec.{vec_capacity, vec_len}
use Rattle.turn_board.specs.declared.slot.Slot.TheVariants.{Empty}
use Rattle.turn_board.proofs.opening.empty_slots.Given as goal

abbrev pub invariant-loop : goal.invariant-loop
invariant-loop g l = (l.slots.items ≡ replicate l.counter Empty) × (vec_len l.slots ≡ l.counter) × (vec_capacity l.slots ≡ 12)
