use Rattle.std.proofs.Common.{◌≡◌, ◌+◌, ◌*◌, ◌++◌, take}
use Rattle.std.specs.List.{flat_map}
use Rattle.arrayvec.specs.ArrayVec.{array_vec_len}
use Rattle.trace_text.specs.Line.{spaced_word}
use Rattle.trace_text.proofs.line.push_words.Given as goal

abbrev pub invariant-loop-word : goal.invariant-loop-word
invariant-loop-word g l = (l.out.items ≡ l.initial.out.items ++ flat_map spaced_word (take l.word-index l.words)) × (array_vec_len l.out ≡ array_vec_len l.initial.out + 9 * l.word-index)
