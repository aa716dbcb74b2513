use Rattle.std.proofs.Common.{◌≡◌, ℕ, List, take, ◌==◌, Option, Some, None, ap, sym, ◌∙◌}
use Rattle.std.specs.Prelude.{position}
use Rattle.std.specs.Option.{option_map_or}
use Rattle.thumb_parse.specs.Tokens.{code_part}
use Rattle.thumb_parse.proofs.scan.code_part.Goals as goal

code_by : (line : List ℕ) (end : Option ℕ) → position (λ c. c == 59) line ≡ end → option_map_or (λ end. take end line) end line ≡ code_part line
unfolding code_part
code_by line end h = ap (λ end. option_map_or (λ end. take end line) end line) (sym h)

pub returns-in-Some : goal.returns-in-Some
returns-in-Some c = code_by c.args.line.now (Some c.in-Some.end) (sym c.find.ensures ∙ c.in-Some.is)

pub returns-in-None : goal.returns-in-None
returns-in-None c = code_by c.args.line.now None (sym c.find.ensures ∙ c.in-None.is)
