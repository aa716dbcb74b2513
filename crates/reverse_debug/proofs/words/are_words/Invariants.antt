use Rattle.reverse_debug.proofs.Shared.{addresses, is_ram, list_all, place_of, ◌*◌, ◌+◌, ◌<◌, ◌≡◌, ◌≤◌}
use Rattle.reverse_debug.proofs.words.are_words.Given as goal

abbrev pub invariant-words : goal.invariant-words
invariant-words l = record {
  rest : list_all (λ a. is_ram (place_of a)) (addresses l.address l.count) ≡ list_all (λ a. is_ram (place_of a)) (addresses l.next l.left);
  reach : l.next + 4 * l.left ≡ l.address + 4 * l.count;
  low : l.left < l.count → l.next < 0x22000004;
  fewer : l.left ≤ l.count;
}

abbrev pub decreases-words : goal.decreases-words
decreases-words l = l.left
