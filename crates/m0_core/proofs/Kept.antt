-- What the access that a core keeps is good for.
use Rattle.std.proofs.Common.{◌≡◌, Bool, subst, true, Some, sym, ap, ◌∙◌}
use Rattle.std.specs.Prelude.{slice_get, unwrap_or}
use Rattle.rp_base.specs.declared.Request.{Request}
use Rattle.rp_base.specs.declared.op.Op.{Op}
use Rattle.rp_base.specs.Map.{place_of}
use Rattle.m0_beats.specs.declared.timing.Beat.TheVariants.{Inner, Access}
use Rattle.m0_beats.specs.Instructions.{beats_of}
use Rattle.m0_core.specs.declared.doing.Work.{Work}
use Rattle.m0_core.specs.declared.doing.Work.TheVariants as works
use Rattle.m0_core.specs.Cycle.{waiting}
use Rattle.m0_core.specs.Fetch.{asks_work, asks_beat, beat_of, in_beat, at_spot}
use Rattle.m0_core.specs.Kept.{IsKept}
use Rattle.m0_core.specs.State.{State}

-- what the core asks is the access
pub kept_begins : (op : Op) (s : State) (kept : Request) → slice_get (beats_of op s.regs) s.beats_done ≡ Some (Access kept)
    → asks_work (works.Instruction op) s ≡ at_spot (works.Instruction op) kept s (place_of kept.address)
unfolding asks_beat beat_of
kept_begins op s kept e = ap (λ beat. in_beat (works.Instruction op) s (unwrap_or beat Inner)) e

-- so it is where the core keeps one
pub kept_in : {t s : State} (k : Bool) (kept : Request) (work : Work) (op : Op) → t ≡ s → s.work ≡ Some work → work ≡ works.Instruction op → k ≡ true
    → IsKept t.work k kept t.regs t.beats_done → asks_work work s ≡ at_spot work kept s (place_of kept.address)
kept_in {s = s} k kept work op same at is q h =
    let here = subst (λ (u : State). IsKept u.work k kept u.regs u.beats_done) same h in
    let instruction = subst (λ w. IsKept w k kept s.regs s.beats_done) (at ∙ ap Some is) here in
    let next = subst (λ b. IsKept (Some (works.Instruction op)) b kept s.regs s.beats_done) q instruction in
    subst (λ w. asks_work w s ≡ at_spot w kept s (place_of kept.address)) (sym is) (kept_begins op s kept next)

-- what is in progress goes on
pub goes_on_at : (work : Work) (s : State) → s.work ≡ Some work → s ≡ waiting work s
goes_on_at work s e = ap (λ w. record s { work = w }) e

pub ruleset at_work = (goes_on_at)
