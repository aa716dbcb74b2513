-- Core 0 has gone on by itself, and the other lanes, which are quiet, are brought up behind it.
use Rattle.std.proofs.Common.{◌≡◌, ℕ, ◌+◌, ◌<◌, ◌≤◌, Bool, false, sym, ap, subst, ◌∙◌, arith}
use Rattle.rp_base.specs.declared.resettable.Resettable.{Resettable}
use Rattle.lane_look.specs.Times.{times}
use Rattle.m0_core.specs.State.{State as Core}
use Rattle.m0_core.specs.Begins.{begins}
use Rattle.dma_engine.specs.State.{State as Engine}
use Rattle.dma_engine.specs.Quiet.{GivesNone}
use Rattle.sio_block.specs.Launcher.{offers_of}
use Rattle.outer_lane.specs.Setting.{Setting}
use Rattle.outer_lane.specs.State.{State as OuterState}
use Rattle.outer_lane.specs.declared.world.SeenOutputs.{SeenOutputs}
use Rattle.outer_lane.specs.Quiet as outer
use Rattle.outer_lane.specs.Quiet.{outer_after}
use Rattle.rp_machine.specs.State.{State}
use Rattle.rp_machine.specs.Copies.{CopiesAgree}
use Rattle.rp_machine.specs.Answers.{lines_of}
use Rattle.rp_machine.specs.Cycle.{begun}
use Rattle.rp_machine.specs.Run.{states}
use Rattle.rp_machine.specs.Alone.{Blocks, AreBlocksQuiet, blocks_after, IsCore1Quiet, core1_after}
use Rattle.rp_machine.specs.Inward.{with_beside, inward_after, StaysInward, GoesOnward}
use Rattle.rp_machine.proofs.Going.{fewer_cycles, core_fewer}
use Rattle.rp_machine.proofs.Inward.{stays_after, core0_goes_on_alone, went_onward}
use Rattle.rp_machine.proofs.Quietly.{seen_number}
use Rattle.quiet_run.specs.Parts.{MayBringUp, MayGoAlone}
use Rattle.quiet_run.proofs.Passing.{fewer}
use Rattle.quiet_run.proofs.NoWork.{begins_none}

-- what the tests and the calls have shown
pub may_go : (w : Setting) (i s : State) (seen : SeenOutputs) (offered : Bool) (r c q n : ℕ) → i ≡ s → CopiesAgree i → offered ≡ offers_of i.sio → offered ≡ false
    → AreBlocksQuiet s r → IsCore1Quiet s c → seen ≡ (begun s).outer → outer.IsQuiet w seen i.outer q → n ≤ r → n ≤ c → n ≤ q → s.cycle + n ≤ w.limit → MayGoAlone w seen s n
may_go w i s seen offered r c q n e agree offers none blocks core1 same quiet low few fits limit =
    let known = subst CopiesAgree e agree in
    record {
      goes = record { offers = ap (λ (x : State). offers_of x.sio) (sym e) ∙ sym offers ∙ none; told = known.offer; pins = known.pins };
      blocks = fewer_cycles s r n blocks low;
      core1 = core_fewer (lines_of 1 s) s.core1 s.cycle c n core1 few;
      same = same;
      quiet = fewer w seen s.outer q n (subst (λ (x : State). outer.IsQuiet w seen x.outer q) e quiet) fits;
      limit = limit;
    }

-- the law, for what core 0 has gone
pub goes_onward : (w : Setting) (s : State) (seen : SeenOutputs) (most done : ℕ) → MayGoAlone w seen s most → done ≤ most → StaysInward s done → GoesOnward w s done
goes_onward w s seen most done h le inward =
    let limit = h.limit in
    core0_goes_on_alone w s done h.goes (fewer_cycles s most done h.blocks le) (core_fewer (lines_of 1 s) s.core1 s.cycle most done h.core1 le)
    (fewer w (begun s).outer s.outer most done (subst (λ (x : SeenOutputs). outer.IsQuiet w x s.outer most) h.same h.quiet) le) inward (omega arith)

-- core 1 begins no instruction meanwhile
begins_same : (w : Setting) (s : State) (seen : SeenOutputs) (most k : ℕ) → MayGoAlone w seen s most → k < most → begins (core1_after s.cycle k s) ≡ begins (inward_after k s).core1
unfolding times
begins_same w s seen most k h lt =
    begins_none (lines_of 1 s) s.cycle most k s.core1 h.core1 lt ∙ sym (begins_none (lines_of 1 s) s.cycle most 0 s.core1 h.core1 (omega arith))
    ∙ ap begins (sym (stays_after s k h.goes).core1)

-- a test that looks at no more of the other lanes is false in each state of the run, where it is for core 0 by itself
pub goes_unstopped : (w : Setting) (s : State) (seen : SeenOutputs) (most done : ℕ) → MayGoAlone w seen s most → done ≤ most → StaysInward s done
    → (stops : State → Bool) → ((p : Blocks) (c : Core) (o : OuterState) (t : State) → begins c ≡ begins t.core1 → stops (with_beside p c o t) ≡ stops t)
    → ((k : ℕ) → k + 1 < done → stops (inward_after (k + 1) s) ≡ false) → (k : ℕ) → k + 1 < done → stops (states w s (k + 1)) ≡ false
goes_unstopped w s seen most done h le inward stops same none k lt =
    let on = goes_onward w s seen most (k + 1) h (omega arith) (λ i below. inward i (omega arith)) in
    ap stops on.state
    ∙ same (blocks_after (k + 1) s) (core1_after s.cycle (k + 1) s) (outer_after w (begun s).outer (k + 1) s.outer) (inward_after (k + 1) s)
    (begins_same w s seen most (k + 1) h (omega arith))
    ∙ none k lt

-- the others may be brought up
seen_at : (w : Setting) (s : State) (seen : SeenOutputs) (most : ℕ) → MayGoAlone w seen s most → seen.cycle ≡ s.cycle
seen_at w s seen most h = ap (λ (x : SeenOutputs). x.cycle) h.same ∙ seen_number s

pub number_fits : (w : Setting) (s : State) (seen : SeenOutputs) (most done to bound : ℕ) → MayGoAlone w seen s most → done ≤ most → s.cycle + most ≤ to → to < bound → seen.cycle + done < bound
number_fits w s seen most done to bound h le room fits =
    let number = seen_at w s seen most h in
    omega (arith, number, le, room, fits)

pub may_bring_up : (w : Setting) (s t : State) (seen : SeenOutputs) (most done : ℕ) → MayGoAlone w seen s most → done ≤ most → t ≡ inward_after done s → MayBringUp w seen t done
may_bring_up w s t seen most done h le went =
    let stays = stays_after s done h.goes in
    let blocks = fewer_cycles s most done h.blocks le in
    rw went record {
      dma = subst (λ (d : Resettable Engine). GivesNone d.block done) (sym stays.dma) blocks.dma.credits;
      core1 = rw (stays.lines1, stays.core1, seen_at w s seen most h) (core_fewer (lines_of 1 s) s.core1 s.cycle most done h.core1 le);
      peripherals = subst (λ (o : OuterState). outer.IsQuiet w seen o done) (sym stays.outer) (fewer w seen s.outer most done h.quiet le);
    }

-- and then it is the state of the run
pub brought_up : (w : Setting) (s t u : State) (seen : SeenOutputs) (most done : ℕ) → MayGoAlone w seen s most → done ≤ most → StaysInward s done → t ≡ inward_after done s
    → u ≡ with_beside (blocks_after done t) (core1_after seen.cycle done t) (outer_after w seen done t.outer) t → u ≡ states w s done
brought_up w s t u seen most done h le inward went up = up ∙ went_onward w s t seen done h.goes h.same went (goes_onward w s seen most done h le inward)
