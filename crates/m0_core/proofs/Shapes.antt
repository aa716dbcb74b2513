-- Whether an instruction has an unaligned access, by a list of its beats.
use Rattle.std.proofs.Common.{◌≡◌, ap}
use Rattle.std.specs.List.{list_any}
use Rattle.rp_base.specs.declared.op.Op.{Op}
use Rattle.m0_beats.specs.declared.registers.Regs.{Regs}
use Rattle.m0_beats.specs.declared.table.Shape.{Shape}
use Rattle.m0_beats.specs.Beats.{is_unaligned_beat}
use Rattle.m0_beats.specs.Instructions.{beats_of, is_unaligned_of}
use Rattle.m0_beats.specs.Shapes.{beats_of_shape}

pub unaligned_shape : (shape : Shape) (op : Op) (r : Regs) → beats_of_shape shape r ≡ beats_of op r → list_any is_unaligned_beat (beats_of_shape shape r) ≡ is_unaligned_of op r
unfolding is_unaligned_of beats_of
unaligned_shape shape op r e = ap (list_any is_unaligned_beat) e

pub ruleset unaligned = (unaligned_shape)
