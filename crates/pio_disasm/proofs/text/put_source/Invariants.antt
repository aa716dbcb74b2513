use Rattle.std.proofs.Common.{◌≡◌, ◌++◌, drop}
use Rattle.std.specs.Prelude.{flat_map}
use Rattle.pio_disasm.specs.Text.{line_text, source_text}
use Rattle.pio_disasm.proofs.text.put_source.Given as goal

abbrev pub invariant-loop-word : goal.invariant-loop-word
invariant-loop-word l = l.fn.out.items ++ source_text l.side l.words ≡ l.out.items ++ flat_map (line_text l.side) (drop l.word-index l.words)
