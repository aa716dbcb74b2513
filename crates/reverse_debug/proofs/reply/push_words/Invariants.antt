use Rattle.reverse_debug.proofs.Shared.{addresses, array_vec_len, flat_map, spaced_word, word_at, ◌*◌, ◌++◌, ◌+◌, ◌≡◌, ◌≤◌}
use Rattle.reverse_debug.proofs.reply.push_words.Given as goal

abbrev pub invariant-words : goal.invariant-words
invariant-words l = record {
  text : l.reply.items ++ flat_map (λ a. spaced_word (word_at l.machine a)) (addresses l.next l.left) ≡ l.fn.reply.items ++ flat_map (λ a. spaced_word (word_at l.machine a)) (addresses l.address l.count);
  reach : l.next + 4 * l.left ≡ l.address + 4 * l.count;
  room : array_vec_len l.reply + 9 * l.left ≤ 100 + 9 * l.count;
}

abbrev pub decreases-words : goal.decreases-words
decreases-words l = l.left
