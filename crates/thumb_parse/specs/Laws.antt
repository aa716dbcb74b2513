-- What a reader of the lines of a Thumb source is: what it reads is what the grammar says (the project's own).
use Rattle.std.specs.Prelude.{◌≡◌, ℕ, List, true, Option, Some}
use Rattle.std.specs.List.{list_all}
use Rattle.thumb_parse.specs.declared.statement.Statement.{Statement}
use Rattle.thumb_parse.specs.Grammar.{Says}
use Rattle.thumb_parse.specs.Tokens.{is_allowed}

-- what is read of a line without its comment, whose characters may all stand there, is what it says by the grammar, and what a line says by
-- the grammar is read
abbrev pub ReadsForms : (List ℕ → Option Statement) → Type 0
ReadsForms read = (code : List ℕ) (statement : Statement) → list_all is_allowed code ≡ true →
    (read code ≡ Some statement → Says code statement) × (Says code statement → read code ≡ Some statement)

-- a reader of lines
pub record Reader : Type 0 where
  pub read : List ℕ → Option Statement
  pub reads : ReadsForms read
