use Rattle.std.proofs.Common.{◌≡◌, ◌+◌, ℕ, List, drop}
use Rattle.pio_parse.proofs.Shared.{SourcePosition, Token, Mode, IsStarted, scanned, scanned_from, IsPositionBelow}
use Rattle.pio_parse.proofs.scan.scan.Given as goal

-- the scan of the whole goes on from here
pub record IsScanning (text : List ℕ) (index : ℕ) (mode : Mode) (here after : SourcePosition) (tokens : List Token) : Type 0 where
  pub started : IsStarted mode index
  pub inside : IsPositionBelow here (index + 2)
  pub scan : scanned text ≡ scanned_from text (drop index text) index mode here after tokens

abbrev pub invariant-loop-index : goal.invariant-loop-index
invariant-loop-index l = IsScanning l.text l.index l.mode l.here l.after l.tokens.items
