use Rattle.rp_machine.proofs.Shared.{map, range_with_len, vec_len, word_at, ◌≡◌}
use Rattle.rp_machine.proofs.loading.first_words.Given as goal

abbrev pub invariant-loop-index : goal.invariant-loop-index
invariant-loop-index l = (l.words.items ≡ map (word_at l.bytes) (range_with_len 0 l.index)) × (vec_len l.words ≡ l.index)
