-- How the calls of the program stand to the definitions of what they read. It is the body's, and stands in no definition.
use Rattle.std.specs.Prelude.{◌≡◌, Bool, true, false, List, Option, None, Some, Result, Ok, Err, ⊤}
use Rattle.source_text.specs.declared.position.SourcePosition.{SourcePosition}
use Rattle.pio_parse.specs.declared.token.Token.{Token}
use Rattle.pio_parse.specs.declared.cursor.Stop.{Stop}
use Rattle.pio_parse.specs.declared.cursor.Stop.TheVariants.{Syntax, Memory}
use Rattle.pio_parse.specs.declared.expression.Reading.{Reading}
use Rattle.pio_parse.specs.descent.Cursor.{Outcome}

-- a call read this; memory may run out at any time
abbrev pub Reads : {X : Type 0} → Result X Stop → List Token → Outcome X → Type 0
Reads (Ok x) rest outcome = outcome ≡ Ok (x, rest)
Reads (Err (Syntax position)) rest outcome = outcome ≡ Err position
Reads (Err Memory) rest outcome = ⊤

-- how a call that reads this stops; memory may run out at any time
abbrev pub IsStopOf : {X : Type 0} → Result X SourcePosition → Stop → Type 0
IsStopOf outcome (Syntax position) = outcome ≡ Err position
IsStopOf outcome Memory = ⊤

-- what a call made of one token
abbrev pub ReadsOperand : Result (Unit {0}) Stop → Reading → Result Reading SourcePosition → Type 0
ReadsOperand (Ok x) new expected = expected ≡ Ok new
ReadsOperand (Err (Syntax position)) new expected = expected ≡ Err position
ReadsOperand (Err Memory) new expected = ⊤

abbrev pub ReadsOperator : Result Bool Stop → Reading → Reading → Result (Option Reading) SourcePosition → Type 0
ReadsOperator (Ok true) old new expected = expected ≡ Ok (Some new)
ReadsOperator (Ok false) old new expected = (expected ≡ Ok None) × (new ≡ old)
ReadsOperator (Err (Syntax position)) old new expected = expected ≡ Err position
ReadsOperator (Err Memory) old new expected = ⊤
