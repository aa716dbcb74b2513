-- The commands of a command line and their options, row by row: the project's own. The normal form, the commands that `clap` is given
-- and the way back from what it finds are made of these rows.
use Rattle.std.specs.Prelude.{ℕ, List, [], ◌∷◌, ◌++◌, codes}
use Prim.Native.String.{String}
use Rattle.std.specs.Borrow.{Bor}
pub use Rattle.command_words.specs.declared.rows.Way.{Way}
pub use Rattle.command_words.specs.declared.rows.Way.TheVariants.{Needed, Valued, Alone}

-- an option of a command, by its name without the dashes
pub record Row : Type 0 where
  pub command : List ℕ
  pub name : List ℕ
  pub way : Way

-- a row as the code has it
abbrev pub row_in : Bor (List ℕ) × Bor (List ℕ) × Way → Row
row_in r = record { command = r.0.now; name = r.1.now; way = r.2 }

abbrev pub row : String → String → Way → Row
row command name way = record { command = codes command; name = codes name; way = way }

unfoldable pub commands : List (List ℕ)
commands = codes "run" ∷ codes "debug" ∷ codes "asm" ∷ codes "thumb" ∷ codes "dis" ∷ codes "gen" ∷ []

unfoldable pub options : List Row
options =
    row "run" "cycles" Needed
    ∷ row "run" "script" Valued
    ∷ row "run" "pio" Valued
    ∷ row "run" "probe" Valued
    ∷ row "run" "part" Valued
    ∷ row "run" "workers" Valued
    ∷ row "run" "stats" Alone
    ∷ row "run" "table" Alone
    ∷ row "debug" "cycles" Needed
    ∷ row "debug" "script" Valued
    ∷ row "debug" "pio" Valued
    ∷ row "debug" "part" Valued
    ∷ row "debug" "table" Alone
    ∷ row "dis" "side" Valued
    ∷ row "dis" "opt" Valued
    ∷ row "gen" "cycles" Needed
    ∷ row "gen" "workers" Valued
    ∷ row "gen" "stats" Alone
    ∷ []

-- the name of an option as it is written
abbrev pub dashed : List ℕ → List ℕ
dashed name = codes "--" ++ name
