-- What a line of a source says: `[name:] [item]` (the project's own).
use Rattle.std.specs.Prelude.{ℕ, Bool, not, List, Option, None, is_none}
use Rattle.std.specs.Option.{unwrap_or}
use Rattle.std.specs.List.{list_all}
use Rattle.thumb_parse.specs.declared.item.Item.TheVariants.{Empty}
use Rattle.thumb_parse.specs.declared.statement.Statement.{Statement}
use Rattle.thumb_parse.specs.Tokens.{code_part, is_allowed}
use Rattle.thumb_parse.proofs.ReadLines.{reader}

-- the statement of a line without its comment, if it has a form. Of the reader its type alone counts: it reads what the grammar says, of
-- each line whose characters may all stand there
abbrev pub statement_of : List ℕ → Option Statement
statement_of code = reader.read code

-- a line has a character that may not stand before a comment
unfoldable pub has_other_char : List ℕ → Bool
has_other_char line = not (list_all is_allowed (code_part line))

-- a line has no form
unfoldable pub is_misfit : List ℕ → Bool
is_misfit line = is_none (statement_of (code_part line))

-- the statement of a line that has a form
unfoldable pub statement_at : List ℕ → Statement
statement_at code = unwrap_or (statement_of code) (record { label = None; item = Empty })
