-- The access that a core keeps from the beat before, so that it is found once however long it waits.
use Rattle.std.specs.Prelude.{◌≡◌, ℕ, Bool, true, false, List, [], Option, Some, None, slice_get}
use Rattle.rp_base.specs.declared.Request.{Request}
use Rattle.m0_beats.specs.declared.registers.Regs.{Regs}
use Rattle.m0_beats.specs.declared.timing.Beat.{Beat}
use Rattle.m0_beats.specs.declared.timing.Beat.TheVariants.{Access}
use Rattle.m0_beats.specs.Instructions.{beats_of}
use Rattle.m0_core.specs.declared.doing.Work.{Work}
use Rattle.m0_core.specs.declared.doing.Work.TheVariants as works

-- the beats of an instruction in progress
abbrev pub beats_in : Work → Regs → List Beat
beats_in (works.Instruction op) r = beats_of op r
beats_in (works.Entry n) r = []
beats_in (works.Return value) r = []

-- where something is in progress and an access is kept, it is that of the beat that is next
abbrev pub IsKept : Option Work → Bool → Request → Regs → ℕ → Type 0
IsKept None is_kept kept r done = Unit {0}
IsKept (Some work) false kept r done = Unit {0}
IsKept (Some work) true kept r done = slice_get (beats_in work r) done ≡ Some (Access kept)
