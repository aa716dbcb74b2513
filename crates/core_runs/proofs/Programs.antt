-- A program's instructions.
use Rattle.std.proofs.Common.{◌≡◌, ℕ, ◌<◌, true, false, List, length, sym, ap, subst, ◌∙◌}
use Rattle.std.specs.List.{list_any}
use Rattle.rp_base.specs.declared.op.Op.{Op}
use Rattle.thumb_rows.specs.Rows.{begins_long, operation_of}
use Rattle.m0_beats.specs.declared.registers.Regs.{Regs}
use Rattle.m0_beats.specs.declared.timing.Beat.{Beat}
use Rattle.m0_beats.specs.Beats.{is_unaligned_beat}
use Rattle.m0_beats.specs.Instructions.{beats_of, is_unaligned_of, effect_of, return_of}
use Rattle.m0_core.specs.Fetch.{is_ram}
use Rattle.core_laws.specs.Laws.{half_at, IsEncoded, IsFetched}
use Rattle.core_runs.specs.Bytes.{answer}
use Rattle.core_runs.specs.Runs.{Steps}
use Rattle.core_runs.specs.Instructions.{is_elsewhere, after_beats, values_of, AnInstructionSteps}
use Rattle.core_runs.specs.Programs.{AHalfwordSteps}

pub fetched_short : (m : List ℕ) (pc h : ℕ) (op : Op) → is_ram pc ≡ true → half_at (answer m) pc ≡ h → begins_long h ≡ false → operation_of h 0 ≡ op → IsFetched (answer m) pc op
fetched_short m pc h op ram half short decoded =
    (ram, subst (λ b. IsEncoded b (answer m) pc op) (sym (ap begins_long half ∙ short)) (ap (λ x. operation_of x 0) half ∙ decoded))

aligned_by : (op : Op) (r : Regs) (beats : List Beat) → beats_of op r ≡ beats → list_any is_unaligned_beat beats ≡ false → is_unaligned_of op r ≡ false
unfolding is_unaligned_of beats_of
aligned_by op r beats e aligned = ap (list_any is_unaligned_beat) e ∙ aligned

pub a_halfword_steps : AnInstructionSteps → AHalfwordSteps
a_halfword_steps law op h beats r m r' m' step =
    let e = step.beats_are in
    let all : Steps (length (beats_of op r)) r m (effect_of op r (values_of (beats_of op r) m)) (after_beats (beats_of op r) m) =
    law op r m (record {
      fetched = fetched_short m r.pc h op step.code step.half step.short step.decoded;
      ordinary = step.ordinary;
      thumb = step.thumb;
      beats = subst (λ bs. 0 < length bs) (sym e) step.some;
      aligned = aligned_by op r beats e step.aligned;
      inside = ap (list_any is_elsewhere) e ∙ step.inside;
      stays = ap (λ bs. return_of op r (values_of bs m)) e ∙ step.stays;
    }) in
    let there : Steps (length beats) r m (effect_of op r (values_of beats m)) (after_beats beats m) =
    subst (λ bs. Steps (length bs) r m (effect_of op r (values_of bs m)) (after_beats bs m)) e all in
    let left : Steps (length beats) r m r' (after_beats beats m) = subst (λ x. Steps (length beats) r m x (after_beats beats m)) step.effect there in
    subst (λ x. Steps (length beats) r m r' x) step.memory left
