use Rattle.std.proofs.Common.{◌≡◌, [], replicate}
use Rattle.std.specs.Vec.{vec_capacity, vec_len}
use Rattle.turn_board.specs.Rule.{master_view, idle}
use Rattle.turn_board.specs.Shown.{new_seat}
use Rattle.turn_board.proofs.opening.seat_workers.Given as goal

abbrev pub invariant-loop : goal.invariant-loop
invariant-loop g l = (l.seats.items ≡ replicate l.counter (new_seat l.words.table_id l.initial.master.me.0.made_for)) × (vec_len l.seats ≡ l.counter) × (vec_capacity l.seats ≡ l.count)
    × (l.master.table_id ≡ l.initial.master.table_id) × (l.master.me ≡ (master_view l.initial.master.me.0.made_for idle l.counter, []))
