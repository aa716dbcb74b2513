-- A cycle leaves a block that is held in its reset state, and an access leaves it as it is.
use Rattle.std.proofs.Common.{◌≡◌, ◌∙◌, ℕ, Bool, true, false, if◌then◌else◌, List, [], ◌∷◌, Option, Some, None, refl, ap, sym, true≢false, ◌%◌, ◌^◌}
use Rattle.rp_base.specs.declared.Master.{Master}
use Rattle.rp_base.specs.declared.Master.TheVariants as master
use Rattle.rp_base.specs.declared.resettable.Resettable.{Resettable}
use Rattle.rp_base.specs.Resettable.{with_held, unless_held_becomes}
use Rattle.rp_base.specs.Word.{has_bit}
use Rattle.rp_base.specs.ResetBits.{DMA, PIO0, PIO1}
use Rattle.rp_base.specs.Held.{unless_held}
use Rattle.rp_base.proofs.Rows.{keeps, held}
use Rattle.lane_look.specs.declared.lane.Ask.{Ask}
use Rattle.lane_look.specs.declared.lane.Turn.{Turn}
use Rattle.lane_look.specs.declared.lane.Want.{Want}
use Rattle.lane_look.specs.Asking.{Asking, answered}
use Rattle.lane_look.specs.Steps.{NeverActs}
use Rattle.dma_engine.specs.Asks as dma_asks
use Rattle.dma_engine.specs.Cycle as dma_steps
use Rattle.dma_engine.specs.State as dma
use Rattle.dma_engine.specs.Words as dma_words
use Rattle.dma_engine.specs.Awaited.{AnEngineAtResetNeverActs}
use Rattle.pio_block.specs.Cycle as pio_steps
use Rattle.pio_block.specs.State as pio
use Rattle.pio_block.specs.Words as pio_words
use Rattle.pio_block.specs.Laws.{ABlockAtResetNeverActs}
use Rattle.bus_fabric.specs.Masters.{masters}
use Rattle.sio_block.specs.declared.Launch.{Launch}
use Rattle.sio_block.specs.State.{State as SioState}
use Rattle.sio_block.specs.Launcher.{launch_of, after_turn, offers_of}
use Rattle.outer_lane.specs.Setting.{Setting}
use Rattle.rp_machine.specs.declared.deed.Deed.{Deed}
use Rattle.rp_machine.specs.declared.deed.Deed.TheVariants as deed
use Rattle.rp_machine.specs.State.{State, first_state}
use Rattle.rp_machine.specs.Registers.{Part, part_of, with_reset, resets_rows, part_word, part_accessed}
use Rattle.rp_machine.specs.Registers.Part.{Resets, Fabric, Dma, Pio0, Pio1, Outer}
use Rattle.rp_machine.specs.Answers.{answer_of}
use Rattle.rp_machine.specs.Cycle.{begun, wanted, granted, turns, turn_for, with_sio, found_by, sio_accessed, after_deed, started_by, after_launcher, launched_where, after_master, after_masters, ended, after_deeds, with_turns, stepped, next_by, next}
use Rattle.startup_laws.specs.Held.{HeldAreReset, IsStill, AHeldBlockStays}

-- ---- a block

abbrev IsReset : {S : Type 0} → S → Resettable S → Type 0
IsReset first r = r.held ≡ true → r.block ≡ first

set : {S : Type 0} (first : S) (held : Bool) (r : Resettable S) → IsReset first (with_held held first r)
set first true r = λ e. refl
set first false r = λ e. absurd (true≢false (sym e))

accessed : {S : Type 0} (first after : S) (r : Resettable S) → IsReset first r → IsReset first (unless_held_becomes r after)
accessed first after r h = λ e. ap (λ (held : Bool). if held then r.block else after) e ∙ h e

-- what a lane that never acts in its reset state has begun leaves it there
rests : {S B : Type 0} (asks : S → ℕ → Asking B) (wants : B → List Want) (steps : S → B → List Turn → S) (first s : S) (answer : Ask → ℕ) (turns : List Turn)
    → NeverActs asks wants steps first → s ≡ first → steps s (answered answer (asks s 0)) turns ≡ first
rests {S} asks wants steps first s answer turns law e =
    let rest = law 0 in
    ap (λ (x : S). steps x (answered answer (asks x 0)) turns) e ∙ ap (λ tree. steps first (answered answer tree) turns) rest.1 ∙ rest.3 turns

-- ---- the deeds

same : (s t : State) → t.dma ≡ s.dma → t.pio0 ≡ s.pio0 → t.pio1 ≡ s.pio1 → HeldAreReset s → HeldAreReset t
same s t d p q h = record { engine = rw d h.engine; block0 = rw p h.block0; block1 = rw q h.block1 }

reset : (w : ℕ) (s : State) → HeldAreReset (with_reset w s)
unfolding with_reset
reset w s = record {
  engine = set dma.at_reset (has_bit w DMA) s.dma;
  block0 = set pio.at_reset (has_bit w PIO0) s.pio0;
  block1 = set pio.at_reset (has_bit w PIO1) s.pio1;
}

part : (p : Part) (offset : ℕ) (write : Option ℕ) (s : State) → HeldAreReset s → HeldAreReset (part_accessed p offset write s)
unfolding part_accessed
part Resets offset write s h =
    keeps HeldAreReset resets_rows offset write s h (λ n. (h, λ w. reset (w % 2 ^ 25) s), (λ n. (h, λ w. same s _ refl refl refl h), (λ n. (h, λ w. h), tt)))
part Fabric offset write s h = same s _ refl refl refl h
part Dma offset write s h = record { engine = accessed dma.at_reset _ s.dma h.engine; block0 = h.block0; block1 = h.block1 }
part Pio0 offset write s h = record { engine = h.engine; block0 = accessed pio.at_reset _ s.pio0 h.block0; block1 = h.block1 }
part Pio1 offset write s h = record { engine = h.engine; block0 = h.block0; block1 = accessed pio.at_reset _ s.pio1 h.block1 }
part (Outer block) offset write s h = same s _ refl refl refl h

sio : (o : SioState) (s : State) → HeldAreReset s → HeldAreReset (with_sio o s)
unfolding with_sio
sio o s h = same s _ refl refl refl h

sio_access : (found : Bool) (m : Master) (offset : ℕ) (write : Option ℕ) (s : State) → HeldAreReset s → HeldAreReset (sio_accessed found m offset write s)
sio_access found master.Core0 offset write s h = sio _ s h
sio_access found master.Core1 offset write s h = sio _ s h
sio_access found m offset write s h = h

done : (w : Setting) (found : Bool) (m : Master) (d : Deed) (s : State) → HeldAreReset s → HeldAreReset (after_deed w found m d s)
unfolding after_deed
done w found m deed.Signal s h = same s _ refl refl refl h
done w found m (deed.Register block offset write) s h = part (part_of block) offset write s h
done w found m (deed.SingleCycle offset write) s h = sio_access found m offset write s h
done w found m (deed.Device address write) s h = same s _ refl refl refl h
done w found m d s h = h

launched : (l : Option Launch) (s : State) → HeldAreReset s → HeldAreReset (started_by l s)
launched None s h = h
launched (Some l) s h = same s _ refl refl refl h

launcher : (offered : Bool) (s : State) → HeldAreReset s → HeldAreReset (launched_where offered s)
unfolding after_launcher
launcher true s h = launched (launch_of s.sio) (with_sio (after_turn s.sio) s) (sio (after_turn s.sio) s h)
launcher false s h = h

either : (b : Bool) (s t : State) → HeldAreReset s → HeldAreReset t → HeldAreReset (if b then s else t)
either true s t h k = h
either false s t h k = k

by_master : (w : Setting) (start : SioState) (m : Master) (d : Deed) (s : State) → HeldAreReset s → HeldAreReset (after_master w start m d s)
by_master w start master.Core1 d s h =
    either s.core1.asleep (launched_where (offers_of start) s) _ (launcher (offers_of start) s h) (done w (found_by master.Core1 d start) master.Core1 d s h)
by_master w start m d s h = done w (found_by m d start) m d s h

by_masters : (w : Setting) (start : SioState) (ms : List Master) (ds : List Deed) (s : State) → HeldAreReset s → HeldAreReset (after_masters w start ms ds s)
by_masters w start [] ds s h = h
by_masters w start (m ∷ ms) [] s h = h
by_masters w start (m ∷ ms) (d ∷ ds) s h = by_masters w start ms ds (after_master w start m d s) (by_master w start m d s h)

-- ---- the cycle

all_deeds : (w : Setting) (ds : List Deed) (s : State) → HeldAreReset s → HeldAreReset (after_deeds w ds s)
unfolding after_deeds ended
all_deeds w ds s h =
    let after = after_masters w s.sio masters ds s in
    sio _ _ (same after _ refl refl refl (by_masters w s.sio masters ds s h))

steps : (w : Setting) (s : State) → AnEngineAtResetNeverActs → ABlockAtResetNeverActs → HeldAreReset s → HeldAreReset (stepped w (begun s) (wanted (begun s)) s)
unfolding stepped with_turns begun
steps w s engine block h =
    let ts = turns w (begun s) (wanted (begun s)) s (granted (wanted (begun s)) s) in
    let given = turn_for ts master.DmaRead ∷ turn_for ts master.DmaWrite ∷ [] in
    record {
      engine = λ e. rests (λ x cycle. dma_asks.asks x) _ dma_steps.next _ s.dma.block (answer_of 2 s) given engine (h.engine e);
      block0 = λ e. rests (λ x cycle. pio_steps.asks x) _ (λ x b ts. pio_steps.next b x) _ s.pio0.block (answer_of 3 s) [] block (h.block0 e);
      block1 = λ e. rests (λ x cycle. pio_steps.asks x) _ (λ x b ts. pio_steps.next b x) _ s.pio1.block (answer_of 4 s) [] block (h.block1 e);
    }

-- ---- an access to a part that is held

unchanged : {S : Type 0} (after : S) (r : Resettable S) → r.held ≡ true → unless_held_becomes r after ≡ r
unchanged after r e = rw e refl

engine_still : (s : State) → s.dma.held ≡ true → IsStill Dma dma_words.is_word s
unfolding part_word part_accessed dma_words.word_of dma_words.is_word
engine_still s e = record {
  reads = λ offset w seen. ap (λ h. unless_held h (dma_words.word_of offset s.dma.block)) e ∙ (held dma_words.dma_rows).reads offset tt s.dma.block;
  accesses = λ offset write. ap (λ d. record s { dma = d }) (unchanged _ s.dma e);
}

block0_still : (s : State) → s.pio0.held ≡ true → IsStill Pio0 pio_words.is_word s
unfolding part_word part_accessed pio_words.word_of pio_words.is_word
block0_still s e = record {
  reads = λ offset w seen. ap (λ h. unless_held h (pio_words.word_of offset s.pio0.block)) e ∙ (held pio_words.pio_rows).reads offset tt s.pio0.block;
  accesses = λ offset write. ap (λ p. record s { pio0 = p }) (unchanged _ s.pio0 e);
}

block1_still : (s : State) → s.pio1.held ≡ true → IsStill Pio1 pio_words.is_word s
unfolding part_word part_accessed pio_words.word_of pio_words.is_word
block1_still s e = record {
  reads = λ offset w seen. ap (λ h. unless_held h (pio_words.word_of offset s.pio1.block)) e ∙ (held pio_words.pio_rows).reads offset tt s.pio1.block;
  accesses = λ offset write. ap (λ p. record s { pio1 = p }) (unchanged _ s.pio1 e);
}

pub held_stays : AnEngineAtResetNeverActs → ABlockAtResetNeverActs → AHeldBlockStays
unfolding first_state next next_by
held_stays engine block = record {
  first = λ device image. record {
    engine = λ e. absurd (true≢false (sym e));
    block0 = λ e. absurd (true≢false (sym e));
    block1 = λ e. absurd (true≢false (sym e));
  };
  next = λ w s h. same (after_deeds w _ (stepped w (begun s) (wanted (begun s)) s)) _ refl refl refl
      (all_deeds w _ (stepped w (begun s) (wanted (begun s)) s) (steps w s engine block h));
  engine = engine_still;
  block0 = block0_still;
  block1 = block1_still;
}
