use Rattle.rp_machine.proofs.Shared.{drop, words_loaded, ◌+◌, ◌≡◌}
use Rattle.rp_machine.proofs.boot.load_words.Given as goal

-- what is still to be loaded leads to the same block
abbrev pub invariant-loop-word : goal.invariant-loop-word
invariant-loop-word l =
    (l.at ≡ l.offset + l.word-index)
    × (words_loaded l.offset l.at (drop l.word-index l.words) l.pio ≡ words_loaded l.offset l.offset l.words l.initial.pio)
