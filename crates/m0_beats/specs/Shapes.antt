-- What a row of the body's table of beats stands for, and what it asks of lists and instructions. No other definition stands on
-- these.
use Rattle.std.specs.Prelude.{◌≡◌, ℕ, Bool, true, false, List, ◌∷◌, Option, map}
use Rattle.std.specs.List.{list_any}
use Rattle.rp_base.specs.declared.op.Op.{Op}
use Rattle.rp_base.specs.declared.op.Op.TheVariants.{LdrLit, StrReg, StrhReg, StrbReg, LdrsbReg, LdrReg, LdrhReg, LdrbReg, LdrshReg, StrImm, LdrImm, StrbImm, LdrbImm, StrhImm, LdrhImm, StrSp, LdrSp}
use Rattle.m0_beats.specs.declared.registers.Regs.{Regs}
use Rattle.m0_beats.specs.declared.table.Shape.{Shape}
use Rattle.m0_beats.specs.declared.table.Shape.TheVariants.{Once, Twice, Thrice, Single, Reads, Writes, Pop}
use Rattle.m0_beats.specs.declared.timing.Beat.{Beat}
use Rattle.m0_beats.specs.declared.timing.Beat.TheVariants.{Inner}
use Rattle.m0_beats.specs.Beats.{access, accesses, registers_of, reads, writes, single, inner, pop_beats, is_unaligned_beat}

abbrev pub beats_of_shape : Shape → Regs → List Beat
beats_of_shape Once s = inner 1
beats_of_shape Twice s = inner 2
beats_of_shape Thrice s = inner 3
beats_of_shape (Single address size write) s = single address (access address size write)
beats_of_shape (Reads from list) s = Inner ∷ reads from (registers_of list)
beats_of_shape (Writes from list) s = Inner ∷ writes from (registers_of list) s
beats_of_shape (Pop list) s = pop_beats list s

-- the answer for the words of a list at ascending addresses, whatever they write
abbrev pub TellsUnaligned : Bool → ℕ → ℕ → Type 0
TellsUnaligned answer address list =
    (write : ℕ → Option ℕ) → answer ≡ list_any is_unaligned_beat (accesses address (map write (registers_of list)))

-- a load or a store of one register, which has one access and no beat behind it
abbrev pub is_one_access : Op → Bool
is_one_access (LdrLit t i) = true
is_one_access (StrReg m n t) = true
is_one_access (StrhReg m n t) = true
is_one_access (StrbReg m n t) = true
is_one_access (LdrsbReg m n t) = true
is_one_access (LdrReg m n t) = true
is_one_access (LdrhReg m n t) = true
is_one_access (LdrbReg m n t) = true
is_one_access (LdrshReg m n t) = true
is_one_access (StrImm i n t) = true
is_one_access (LdrImm i n t) = true
is_one_access (StrbImm i n t) = true
is_one_access (LdrbImm i n t) = true
is_one_access (StrhImm i n t) = true
is_one_access (LdrhImm i n t) = true
is_one_access (StrSp t i) = true
is_one_access (LdrSp t i) = true
is_one_access _ = false
