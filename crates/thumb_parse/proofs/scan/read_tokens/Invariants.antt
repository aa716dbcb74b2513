use Rattle.std.proofs.Common.{◌≡◌, ◌≤◌, ◌++◌, drop}
use Rattle.thumb_parse.specs.descent.Tokens.{tokens_from, tokens_of}
use Rattle.thumb_parse.proofs.scan.read_tokens.Given as goal

abbrev pub invariant-loop-at : goal.invariant-loop-at
invariant-loop-at l = (tokens_of l.line ≡ l.tokens.items ++ tokens_from l.line l.start l.at (drop l.at l.line)) × (l.start ≤ l.at)
