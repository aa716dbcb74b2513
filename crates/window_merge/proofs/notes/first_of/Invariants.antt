use Rattle.window_merge.proofs.Shared.{drop, first_of, ◌≡◌}
use Rattle.window_merge.proofs.notes.first_of.Given as goal

abbrev pub invariant-loop-noted : goal.invariant-loop-noted
invariant-loop-noted l = first_of (drop l.noted-index l.words) l.index l.word ≡ first_of l.words l.index l.word
