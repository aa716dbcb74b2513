-- How a line is read.
use Rattle.std.specs.Prelude.{ℕ, List, [], ◌∷◌, Option, None, Some, option_and_then}
use Rattle.std.specs.Option.{option_map}
use Rattle.thumb_parse.specs.declared.token.Token.{Token}
use Rattle.thumb_parse.specs.declared.token.Token.TheVariants.{Name, Mnemonic, Colon}
use Rattle.thumb_parse.specs.declared.token.Span.{Span}
use Rattle.thumb_parse.specs.declared.item.Item.{Item}
use Rattle.thumb_parse.specs.declared.item.Item.TheVariants.{Empty}
use Rattle.thumb_parse.specs.declared.statement.Statement.{Statement}
use Rattle.thumb_parse.specs.descent.Tokens.{tokens_of}
use Rattle.thumb_parse.specs.descent.Operands.{operands_of}
use Rattle.thumb_parse.specs.descent.Forms.{form_of}

abbrev pub item_of : List ℕ → List Token → Option Item
item_of code [] = Some Empty
item_of code (Mnemonic mnemonic ∷ tokens) = option_and_then (form_of code mnemonic) (operands_of tokens)
item_of code tokens = None

abbrev pub statement_with : Option Span → Item → Statement
statement_with label item = record { label = label; item = item }

-- the statement of some tokens: a name with a colon is a label
abbrev pub statement_in : List ℕ → List Token → Option Statement
statement_in code (Name name ∷ Colon ∷ tokens) = option_map (statement_with (Some name)) (item_of code tokens)
statement_in code tokens = option_map (statement_with None) (item_of code tokens)

-- the statement of a line without its comment, if it has a form
unfoldable pub statement_of : List ℕ → Option Statement
statement_of code = statement_in code (tokens_of code)
