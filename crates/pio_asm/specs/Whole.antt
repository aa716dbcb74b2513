-- What holds of every program of a source: its wrap lies in its members, and its side-set has at most five bits.
use Rattle.std.specs.Prelude.{◌+◌, ◌<◌, ◌≤◌, List, [], ◌∷◌, length}
use Rattle.rp_base.specs.Word.{bit_number}
use Rattle.pio_asm.specs.Assembly.{Plan}

pub record IsWhole (plan : Plan) : Type 0 where
  pub target : plan.target < length plan.members
  pub wrap : plan.wrap < length plan.members
  pub side : plan.side.count + bit_number plan.side.opt ≤ 5

abbrev pub AreWhole : List Plan → Type 0
AreWhole [] = Unit {0}
AreWhole (plan ∷ plans) = IsWhole plan × AreWhole plans
