use Rattle.reverse_debug.proofs.Shared.{array_vec_len, flat_map, has_bit, level_digit, range_with_len, ◌++◌, ◌+◌, ◌-◌, ◌≡◌, ◌≤◌}
use Rattle.reverse_debug.proofs.reply.push_levels.Given as goal

abbrev pub invariant-loop-pin : goal.invariant-loop-pin
invariant-loop-pin l = record {
  text : l.reply.items ++ flat_map (λ pin. level_digit (has_bit l.pads pin)) (range_with_len l.pin (30 - l.pin)) ≡ l.fn.reply.items ++ flat_map (λ pin. level_digit (has_bit l.pads pin)) (range_with_len 0 30);
  room : array_vec_len l.reply ≤ 100 + l.pin;
}
