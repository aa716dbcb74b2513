use Rattle.std.proofs.Common.{◌≡◌, ◌≤◌, List, ℕ, drop}
use Rattle.pio_parse.proofs.Shared.{slice_range, Token, Groups, source_of, source_from}
use Rattle.pio_parse.proofs.parser.read_lines.Given as goal

-- the source of the whole goes on from here
pub record IsReading (text : List ℕ) (tokens : List Token) (index start : ℕ) (groups : Groups) : Type 0 where
  pub here : start ≤ index
  pub whole : source_of text tokens ≡ source_from text groups (slice_range tokens start index) (drop index tokens)

abbrev pub invariant-loop-index : goal.invariant-loop-index
invariant-loop-index l = IsReading l.file.text.now l.tokens l.index l.start l.groups
