-- When WFE moves on, and where a return faults.
use Rattle.std.proofs.Common.{◌≡◌, ℕ, ◌^◌, ◌%◌, ◌==◌, ◌&&◌, ◌||◌, not, Bool, true, false, cond, List, [], ◌∷◌, refl, sym, ap, ap₂, subst, ◌∙◌, Some, None}
use Rattle.core_laws.proofs.Shared.{slice_index, Why, Regs, Inner, beats_of, return_of, wakes_of, Lines, answered, Ready, Work, stopped, asks_awake, asks_next, asks_fault, asks_beat, asks_return, locks_last, ends_with, is_locked, want_of, waiting, ended, passed, after_inner, closed, returning, OnlyPendsHardFault, is_bad, is_misfit, State, Given, lines_in, wanted_in, or_parts}
use Rattle.rp_base.specs.declared.op.Op.TheVariants as op
use Rattle.rp_base.specs.declared.Why.TheVariants as why
use Rattle.m0_nvic.specs.Cycle as nvic
use Rattle.lane_look.specs.declared.lane.Want.TheVariants as want
use Rattle.m0_core.specs.declared.doing.Act.TheVariants as act
use Rattle.m0_core.specs.declared.doing.Work.TheVariants as works
use Rattle.core_laws.specs.EventLaws.{IsInWfe, StaysInWfe, LeavesWfe, AWfeMovesOnAtAnEvent, AReturnFaults}
use Rattle.core_laws.proofs.Cycles.{begun_awake, after_begun}
use Rattle.core_laws.proofs.Taken.{fault_leaves, cycle_in_second, passed_second}

-- ---- WFE

abbrev wfe : Work
wfe = works.Instruction op.Wfe

wfe_beats : (r : Regs) → beats_of op.Wfe r ≡ Inner ∷ Inner ∷ []
unfolding beats_of
wfe_beats r = refl

no_return : (r : Regs) (read : List ℕ) → return_of op.Wfe r read ≡ None
unfolding return_of
no_return r read = refl

neither : (event woken : Bool) → (not event && not woken) ≡ not (event || woken)
neither true woken = refl
neither false woken = refl

paused_by : (s : State) (b : Bool) → IsInWfe s → (s.event || wakes_of s.nvic) ≡ b → after_inner wfe s ≡ cond (not b) (waiting wfe s) (passed wfe None s)
unfolding after_inner
paused_by s b in_wfe e =
    ap (λ (k : ℕ). cond ((k == 1) && (not s.event && not (wakes_of s.nvic))) (waiting wfe s) (passed wfe None s)) in_wfe.second
    ∙ ap (λ p. cond p (waiting wfe s) (passed wfe None s)) (neither s.event (wakes_of s.nvic) ∙ ap not e)

cleared : (b c : Bool) → ((b && false) || c) ≡ c
cleared true c = refl
cleared false c = refl

leaves : (g : Given) (cycle : ℕ) (s : State) → IsInWfe s → LeavesWfe cycle g s (closed (lines_in g) cycle (ended op.Wfe s))
unfolding closed ended
leaves g cycle s in_wfe = record {
  awake = in_wfe.awake;
  moved = refl;
  between = ap returning (no_return s.regs s.read);
  first = refl;
  fresh = refl;
  exceptions = refl;
  event = cleared s.event (nvic.is_event (lines_in g) cycle s.nvic);
}

stays : (g : Given) (cycle : ℕ) (s : State) → IsInWfe s → s.event ≡ false → StaysInWfe cycle g s (closed (lines_in g) cycle (waiting wfe s))
unfolding closed
stays g cycle s in_wfe clear = record {
  in_wfe = record { awake = in_wfe.awake; waits = refl; second = in_wfe.second };
  kept = refl;
  exceptions = refl;
  event = ap (λ b. b || nvic.is_event (lines_in g) cycle s.nvic) clear;
}

pub a_wfe_moves_on_at_an_event : AWfeMovesOnAtAnEvent
a_wfe_moves_on_at_an_event s cycle g in_wfe =
    let path = cycle_in_second op.Wfe wfe_beats g cycle s in_wfe.awake in_wfe.waits in_wfe.second in (
      λ woken. subst (λ t. LeavesWfe cycle g s t)
          (sym (path ∙ ap (closed (lines_in g) cycle) (paused_by s true in_wfe woken ∙ passed_second op.Wfe wfe_beats s in_wfe.second))) (leaves g cycle s in_wfe),
      λ none. subst (λ t. StaysInWfe cycle g s t)
          (sym (path ∙ ap (closed (lines_in g) cycle) (paused_by s false in_wfe none))) (stays g cycle s in_wfe (or_parts s.event (wakes_of s.nvic) none).0),
    )

-- ---- a return that faults

begins_return : (value : ℕ) (g : Given) (s : State) → s.work ≡ Some (works.Return value) → answered g.answers (asks_awake s) ≡ answered g.answers (asks_return value s)
unfolding asks_awake
begins_return value g s h = ap (λ w. answered g.answers (asks_next w s)) h

bad_first : (value : ℕ) (g : Given) (s : State) → s.beats_done ≡ 0 → is_bad value s ≡ true → answered g.answers (asks_return value s) ≡ answered g.answers (asks_fault s)
unfolding asks_return
bad_first value g s first bad =
    ap₂ (λ (k : ℕ) b. answered g.answers (cond ((k == 0) && b) (asks_fault s)
    (cond (locks_last value s) (stopped (why.Lockup s.number)) (asks_beat (works.Return value) s)))) first bad

fault_by : (g : Given) (s : State) (locked : Bool) → is_locked s ≡ locked
    → answered g.answers (asks_fault s) ≡ answered g.answers (cond locked (stopped (why.Lockup s.number)) (Ready act.Fault))
fault_by g s locked h = ap (λ b. answered g.answers (cond b (stopped (why.Lockup s.number)) (Ready act.Fault))) h

misfit_last : (value : ℕ) (g : Given) (s : State) → s.beats_done ≡ 12 → is_misfit value (slice_index s.read 7) ≡ true → is_locked s ≡ true
    → answered g.answers (asks_return value s) ≡ act.Stopped (why.Lockup s.number)
unfolding asks_return
misfit_last value g s last misfit locked =
    ap (λ (k : ℕ). answered g.answers (cond ((k == 0) && is_bad value s) (asks_fault s)
    (cond ((k == 12) && (is_misfit value (slice_index s.read 7) && is_locked s)) (stopped (why.Lockup s.number)) (asks_beat (works.Return value) s)))) last
    ∙ ap₂ (λ m l. answered g.answers (cond (m && l) (stopped (why.Lockup s.number)) (asks_beat (works.Return value) s))) misfit locked

stops_awake : (g : Given) (cycle : ℕ) (s : State) (cause : Why) → s.asleep ≡ false → answered g.answers (asks_awake s) ≡ act.Stopped cause
    → wanted_in cycle g s ≡ want.Stopped cause
stops_awake g cycle s cause awake h = ap want_of (begun_awake g cycle s awake ∙ ap (ends_with (g.answers Lines % 2 ^ 32) cycle) h)

pub a_return_faults : AReturnFaults
a_return_faults value s cycle g awake returns =
    let begins = begins_return value g s returns in
    record {
      bad = λ first bad unlocked.
          let begun = begun_awake g cycle s awake ∙ ap (ends_with (lines_in g) cycle) (begins ∙ bad_first value g s first bad ∙ fault_by g s false unlocked) in
          subst (λ t. OnlyPendsHardFault cycle g s t) (sym (after_begun g cycle s act.Fault begun)) (fault_leaves g cycle s awake unlocked);
      bad_locked = λ first bad locked.
          stops_awake g cycle s (why.Lockup s.number) awake (begins ∙ bad_first value g s first bad ∙ fault_by g s true locked);
      misfit_locked = λ last misfit locked.
          stops_awake g cycle s (why.Lockup s.number) awake (begins ∙ misfit_last value g s last misfit locked);
    }
