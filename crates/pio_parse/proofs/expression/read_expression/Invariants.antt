use Rattle.std.proofs.Common.{◌≡◌, ◌≤◌, List, ℕ, drop}
use Rattle.pio_parse.proofs.Shared.{Token, Reading, expression_at, expression_from}
use Rattle.pio_parse.proofs.expression.read_expression.Given as goal

-- the reading of the whole goes on from here
pub record IsReading (text : List ℕ) (tokens : List Token) (index : ℕ) (reading : Reading) (rest : List Token) : Type 0 where
  pub here : rest ≡ drop index tokens
  pub shallow : reading.depth ≤ index
  pub whole : expression_at text tokens ≡ expression_from text reading (drop index tokens)

abbrev pub invariant-loop-token : goal.invariant-loop-token
invariant-loop-token l = IsReading l.file.text.now l.fn.cursor.rest.now l.token-index l.reading l.cursor.rest.now
