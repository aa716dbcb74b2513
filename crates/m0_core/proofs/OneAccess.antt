-- A load or a store of one register has its access last, in its first beat or its second.
use Rattle.std.proofs.Common.{◌≡◌, ◌∙◌, ◌≢◌, not, ◌||◌, if◌then◌else◌, refl, ◌+◌, true, false, ap, cond, arith, length, nat_lt, Some, sym}
use Rattle.std.proofs.Math.Bool.{or-false, or-true}
use Rattle.std.proofs.lemmas.Bool.Decides.{nat_tests}
use Rattle.rp_base.specs.declared.op.Op.{Op}
use Rattle.m0_beats.specs.Instructions.{beats_of, is_unaligned_of}
use Rattle.std.specs.Prelude.{slice_get, unwrap_or}
use Rattle.std.specs.List.{list_any}
use Rattle.m0_beats.specs.declared.table.Shape.{Shape}
use Rattle.m0_beats.specs.Beats.{is_unaligned_beat}
use Rattle.m0_core.proofs.Shapes.{unaligned_shape}
use Rattle.m0_core.specs.Cycle.{ended, followed, passed_instruction}
use Rattle.m0_beats.specs.declared.timing.Beat.TheVariants.{Inner}
use Rattle.lane_look.specs.Asking.Asking.{Ready}
use Rattle.m0_core.specs.Fetch.{asks_beat, asks_decoded, asks_fault, beat_of, in_beat}
use Rattle.m0_beats.specs.Shapes.{is_one_access, beats_of_shape}
use Rattle.m0_core.proofs.Plain.{accessing, ordinary}
use Rattle.m0_core.specs.Shortcuts.{is_plain}
use Rattle.m0_core.specs.State.{State}
use Rattle.m0_core.specs.declared.doing.Act.TheVariants as act
use Rattle.m0_core.specs.declared.doing.Work.TheVariants as works

-- no beat comes behind the second
pub last_over : (o : Op) (s : State) → is_one_access o ≡ true → s.beats_done ≢ 0 → passed_instruction o s ≡ ended o s
unfolding passed_instruction
last_over o s h begun =
    let two = accessing o s.regs h in
    let last : nat_lt (s.beats_done + 1) (length (beats_of o s.regs)) ≡ false = grind (arith, nat_tests) in
    ap (λ more. cond more (followed (works.Instruction o) s) (ended o s)) last

pub ruleset second_over = (last_over)

-- it faults without T, and where its access is unaligned
asked_one : (o : Op) (s : State) → is_one_access o ≡ true
    → asks_decoded o s ≡ (if not s.regs.t || is_unaligned_of o s.regs then asks_fault s else asks_beat (works.Instruction o) s)
unfolding asks_decoded
asked_one o s h =
    let k = ordinary o (ap (λ b. is_plain o || b) h ∙ or-true (is_plain o)) in
    rw (k.breakpoint, k.undefined, k.call, or-false (is_unaligned_of o s.regs)) refl

-- by its shape: an inner beat and the access behind it
pub kept : (shape : Shape) (o : Op) (s : State) → is_one_access o ≡ true → beats_of_shape shape s.regs ≡ beats_of o s.regs → s.beats_done ≡ 0
    → list_any is_unaligned_beat (beats_of_shape shape s.regs) ≡ false → slice_get (beats_of_shape shape s.regs) 0 ≡ Some Inner
    → s.regs.t ≡ true → asks_decoded o s ≡ Ready (act.Inner (works.Instruction o))
unfolding asks_beat beat_of
kept shape o s h e zero aligned first t =
    let same = unaligned_shape shape o s.regs e in
    asked_one o s h
    ∙ ap (λ faulty. if faulty then asks_fault s else asks_beat (works.Instruction o) s) (ap (λ x. not x || is_unaligned_of o s.regs) t ∙ sym same ∙ aligned)
    ∙ ap (λ k. in_beat (works.Instruction o) s (unwrap_or (slice_get (beats_of o s.regs) k) Inner)) zero
    ∙ ap (λ list. in_beat (works.Instruction o) s (unwrap_or (slice_get list 0) Inner)) (sym e)
    ∙ ap (λ x. in_beat (works.Instruction o) s (unwrap_or x Inner)) first
