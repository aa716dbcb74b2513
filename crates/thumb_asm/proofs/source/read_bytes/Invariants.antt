use Rattle.std.proofs.Common.{◌≡◌, ◌≤◌, ◌+◌, ℕ, List, [], length}
use Rattle.std.specs.Str.Lines.{lines}
use Rattle.thumb_asm.specs.Source.{Names, bytes_from}
use Rattle.thumb_asm.proofs.source.read_bytes.Given as goal

-- the lines up to here have no fault and give these bytes
pub record IsReading (names : Names) (text rest : List ℕ) (number address : ℕ) (bytes : List ℕ) : Type 0 where
  pub left : bytes_from names 1 0x2000_0000 [] (lines text) ≡ bytes_from names (number + 1) address bytes (lines rest)
  pub short : number + length rest ≤ length text
  pub low : address ≤ 0x2004_2000
  pub held : 0x2000_0000 + length bytes ≤ address

abbrev pub invariant-loop-rest : goal.invariant-loop-rest
invariant-loop-rest l = IsReading l.names l.text l.rest l.number l.address l.bytes.items

abbrev pub decreases-loop-rest : goal.decreases-loop-rest
decreases-loop-rest l = length l.rest
