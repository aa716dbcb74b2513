-- What the deeds of a cycle leave as it was: SRAM, core 0 but for its event register, core 1 while it is awake, the levels of the pads, and each
-- part for which none of them is.
use Rattle.rp_machine.proofs.Shared.{Deed, Dma, EffectsComeAfterTheSteps, Fabric, Launch, Master, Outer, Pio0, Pio1, Resets, Setting, SramChangesByTheWritesAlone, State, after_deed, after_deeds, after_launcher, after_master, after_masters, after_turn, all_stored, begun, core_alone, deeds_in, ended, eqb_tells, found_by, is_dma, is_for, is_for_outer, is_outer, is_pio0, is_pio1, keeps, launch_of, launched_where, list_any, next, next_by, offers_of, outer_alone, reaches, sio_accessed, slice_index, started_by, stepped, stored, wanted, with_event, with_sio, with_turns, word_after, word_with}
use Rattle.std.proofs.lemmas.List.{get_or-set_same, get_or-set_other, length-set}
use Rattle.std.proofs.Common.{inl, inr, ◌≢◌, ◌≡◌, ℕ, ◌<◌, Bool, true, false, ◌||◌, if◌then◌else◌, List, [], ◌∷◌, length, Option, Some, None, refl, sym, ap, arith, ◌∙◌, ◌%◌, ◌^◌, true≢false}
use Rattle.rp_base.specs.declared.Master.TheVariants as master
use Rattle.m0_core.specs.State.{State as Core}
use Rattle.ram_banks.specs.Lanes.{with_lanes}
use Rattle.sio_block.specs.State.{State as SioState}
use Rattle.outer_lane.proofs.Accesses as outer_accesses
use Rattle.rp_machine.specs.declared.deed.Deed.TheVariants as deed
use Rattle.rp_machine.specs.Registers.{Part, part_of, with_reset, resets_rows, part_accessed}
use Rattle.bus_fabric.specs.Masters.{masters}

-- ---- what deeds leave that are for the DMA engine, for the PIO blocks or for the peripherals, or not

pub record Leaves (to_dma to_pio0 to_pio1 to_outer : Bool) (s t : State) : Type 0 where
  pub sram : t.sram ≡ s.sram
  pub core0 : with_event t.core0 ≡ with_event s.core0
  pub core1 : s.core1.asleep ≡ false → core_alone t.core1 ≡ core_alone s.core1
  pub levels : t.outer.pads.current ≡ s.outer.pads.current
  pub dma : to_dma ≡ false → t.dma ≡ s.dma
  pub pio0 : to_pio0 ≡ false → t.pio0 ≡ s.pio0
  pub pio1 : to_pio1 ≡ false → t.pio1 ≡ s.pio1
  pub outer : to_outer ≡ false → outer_alone t.outer ≡ outer_alone s.outer

same : {d p q o : Bool} (s : State) → Leaves d p q o s s
same s = record { sram = refl; core0 = refl; core1 = λ awake. refl; levels = refl; dma = λ none. refl; pio0 = λ none. refl; pio1 = λ none. refl; outer = λ none. refl }

-- ---- an access to a word

reset_leaves : (w : ℕ) (s : State) → Leaves true true true true s (with_reset w s)
unfolding with_reset
reset_leaves w s = record {
  sram = refl;
  core0 = refl;
  core1 = λ awake. refl;
  levels = outer_accesses.reset_levels w s.outer;
  dma = λ none. absurd (true≢false none);
  pio0 = λ none. absurd (true≢false none);
  pio1 = λ none. absurd (true≢false none);
  outer = λ none. absurd (true≢false none);
}

watchdog_leaves : (words : List ℕ) (s : State) → Leaves true true true true s (record s { resets = words })
watchdog_leaves words s = record { sram = refl; core0 = refl; core1 = λ awake. refl; levels = refl; dma = λ none. refl; pio0 = λ none. refl; pio1 = λ none. refl; outer = λ none. refl }

part_leaves : (part : Part) (offset : ℕ) (write : Option ℕ) (s : State)
    → Leaves (reaches is_dma part) (reaches is_pio0 part) (reaches is_pio1 part) (reaches is_outer part) s (part_accessed part offset write s)
unfolding part_accessed
part_leaves Resets offset write s =
    keeps (Leaves true true true true s) resets_rows offset write s (same s)
    (λ n. (same s, λ w. reset_leaves (w % 2 ^ 25) s), (λ n. (same s, λ w. watchdog_leaves _ s), (λ n. (same s, λ w. same s), tt)))
part_leaves Fabric offset write s = record { sram = refl; core0 = refl; core1 = λ awake. refl; levels = refl; dma = λ none. refl; pio0 = λ none. refl; pio1 = λ none. refl; outer = λ none. refl }
part_leaves Dma offset write s = record { sram = refl; core0 = refl; core1 = λ awake. refl; levels = refl; dma = λ none. absurd (true≢false none); pio0 = λ none. refl; pio1 = λ none. refl; outer = λ none. refl }
part_leaves Pio0 offset write s = record { sram = refl; core0 = refl; core1 = λ awake. refl; levels = refl; dma = λ none. refl; pio0 = λ none. absurd (true≢false none); pio1 = λ none. refl; outer = λ none. refl }
part_leaves Pio1 offset write s = record { sram = refl; core0 = refl; core1 = λ awake. refl; levels = refl; dma = λ none. refl; pio0 = λ none. refl; pio1 = λ none. absurd (true≢false none); outer = λ none. refl }
part_leaves (Outer block) offset write s = record {
  sram = refl;
  core0 = refl;
  core1 = λ awake. refl;
  levels = (outer_accesses.access_leaves block offset write s.outer).levels;
  dma = λ none. refl;
  pio0 = λ none. refl;
  pio1 = λ none. refl;
  outer = λ none. absurd (true≢false none);
}

-- ---- a deed

sio_leaves : {d p q o : Bool} (sio : SioState) (s : State) → Leaves d p q o s (with_sio sio s)
unfolding with_sio
sio_leaves sio s = record { sram = refl; core0 = refl; core1 = λ awake. refl; levels = refl; dma = λ none. refl; pio0 = λ none. refl; pio1 = λ none. refl; outer = λ none. refl }

access_leaves : {d p q o : Bool} (found : Bool) (m : Master) (offset : ℕ) (write : Option ℕ) (s : State) → Leaves d p q o s (sio_accessed found m offset write s)
access_leaves found master.Core0 offset write s = sio_leaves _ s
access_leaves found master.Core1 offset write s = sio_leaves _ s
access_leaves found m offset write s = same s

-- by what it is for
abbrev By : Deed → State → State → Type 0
By d s t = Leaves (is_for is_dma d) (is_for is_pio0 d) (is_for is_pio1 d) (is_for_outer d) s t

deed_leaves : (w : Setting) (found : Bool) (m : Master) (d : Deed) (s : State) → By d s (after_deed w found m d s)
unfolding after_deed
deed_leaves w found m deed.Signal s = record { sram = refl; core0 = refl; core1 = λ awake. refl; levels = refl; dma = λ none. refl; pio0 = λ none. refl; pio1 = λ none. refl; outer = λ none. refl }
deed_leaves w found m (deed.Register block offset write) s = part_leaves (part_of block) offset write s
deed_leaves w found m (deed.SingleCycle offset write) s = access_leaves found m offset write s
deed_leaves w found m (deed.Device address write) s = record {
  sram = refl;
  core0 = refl;
  core1 = λ awake. refl;
  levels = (outer_accesses.device_leaves w address write s.outer).levels;
  dma = λ none. refl;
  pio0 = λ none. refl;
  pio1 = λ none. refl;
  outer = λ none. absurd (true≢false none);
}
deed_leaves w found m d s = same s

-- ---- the launcher, while core 1 sleeps

started_leaves : {d p q o : Bool} (l : Option Launch) (s t : State) → s.core1.asleep ≡ true → Leaves d p q o s t → Leaves d p q o s (started_by l t)
started_leaves None s t asleep h = h
started_leaves (Some l) s t asleep h = record {
  sram = h.sram;
  core0 = h.core0;
  core1 = λ awake. absurd (true≢false (sym asleep ∙ awake));
  levels = h.levels;
  dma = h.dma;
  pio0 = h.pio0;
  pio1 = h.pio1;
  outer = h.outer;
}

launcher_leaves : {d p q o : Bool} (offered : Bool) (s : State) → s.core1.asleep ≡ true → Leaves d p q o s (launched_where offered s)
unfolding after_launcher
launcher_leaves true s asleep = started_leaves (launch_of s.sio) s (with_sio (after_turn s.sio) s) asleep (sio_leaves (after_turn s.sio) s)
launcher_leaves false s asleep = same s

by_sleep : {d p q o : Bool} (s t u : State) (asleep : Bool) → s.core1.asleep ≡ asleep → (s.core1.asleep ≡ true → Leaves d p q o s t) → Leaves d p q o s u
    → Leaves d p q o s (if asleep then t else u)
by_sleep s t u true e h k = h e
by_sleep s t u false e h k = k

-- ---- the masters

master_leaves : (w : Setting) (start : SioState) (m : Master) (d : Deed) (s : State) → By d s (after_master w start m d s)
master_leaves w start master.Core1 d s =
    by_sleep s (launched_where (offers_of start) s) _ s.core1.asleep refl (launcher_leaves (offers_of start) s) (deed_leaves w (found_by master.Core1 d start) master.Core1 d s)
master_leaves w start m d s = deed_leaves w (found_by m d start) m d s

-- what some of the deeds are for
abbrev pub AllBy : List Deed → State → State → Type 0
AllBy ds s t = Leaves (list_any (is_for is_dma) ds) (list_any (is_for is_pio0) ds) (list_any (is_for is_pio1) ds) (list_any is_for_outer ds) s t

neither : (a b : Bool) → (a || b) ≡ false → (a ≡ false) × (b ≡ false)
neither true b h = absurd (true≢false h)
neither false b h = (refl, h)

then_leaves : (d : Deed) (ds : List Deed) (s t u : State) → By d s t → AllBy ds t u → AllBy (d ∷ ds) s u
then_leaves d ds s t u a b = record {
  sram = b.sram ∙ a.sram;
  core0 = b.core0 ∙ a.core0;
  core1 = λ awake. b.core1 (ap (λ (c : Core). c.asleep) (a.core1 awake) ∙ awake) ∙ a.core1 awake;
  levels = b.levels ∙ a.levels;
  dma = λ none. let each = neither (is_for is_dma d) _ none in b.dma each.1 ∙ a.dma each.0;
  pio0 = λ none. let each = neither (is_for is_pio0 d) _ none in b.pio0 each.1 ∙ a.pio0 each.0;
  pio1 = λ none. let each = neither (is_for is_pio1 d) _ none in b.pio1 each.1 ∙ a.pio1 each.0;
  outer = λ none. let each = neither (is_for_outer d) _ none in b.outer each.1 ∙ a.outer each.0;
}

pub masters_leave : (w : Setting) (start : SioState) (ms : List Master) (ds : List Deed) (s : State) → AllBy ds s (after_masters w start ms ds s)
masters_leave w start [] ds s = same s
masters_leave w start (m ∷ ms) [] s = same s
masters_leave w start (m ∷ ms) (d ∷ ds) s =
    then_leaves d ds s (after_master w start m d s) _ (master_leaves w start m d s) (masters_leave w start ms ds (after_master w start m d s))

pub effects_after : EffectsComeAfterTheSteps
unfolding next next_by stepped with_turns after_deeds ended with_sio
effects_after w s =
    let after = stepped w (begun s) (wanted (begun s)) s in
    let h = masters_leave w after.sio masters (deeds_in w s) after in
    record { core0 = h.core0; core1 = h.core1; dma = h.dma; pio0 = h.pio0; pio1 = h.pio1; outer = h.outer }

-- ---- SRAM word by word

length_stored : (d : Deed) (sram : List ℕ) → length (stored d sram) ≡ length sram
length_stored (deed.Store index lanes value) sram = length-set sram index _
length_stored d sram = refl

written_at : (sram : List ℕ) (at lanes value index : ℕ) → index < length sram → slice_index (stored (deed.Store at lanes value) sram) index ≡ word_with index (deed.Store at lanes value) (slice_index sram index)
written_at sram at lanes value index lt = elim (eqb_tells at index) [
  | inl e ↦ rw (e.0, e.1) (get_or-set_same sram index (with_lanes lanes value (slice_index sram index)) 0 lt)
  | inr e ↦ let other : index ≢ at = λ same. e.1 (sym same) in rw e.0 (get_or-set_other sram at index (with_lanes lanes value (slice_index sram at)) 0 other)
]

stored_at : (d : Deed) (sram : List ℕ) (index : ℕ) → index < length sram → slice_index (stored d sram) index ≡ word_with index d (slice_index sram index)
stored_at (deed.Store at lanes value) sram index lt = written_at sram at lanes value index lt
stored_at d sram index lt = refl

all_stored_at : (ds : List Deed) (sram : List ℕ) (index : ℕ) → index < length sram → slice_index (all_stored ds sram) index ≡ word_after index ds (slice_index sram index)
all_stored_at [] sram index lt = refl
all_stored_at (d ∷ ds) sram index lt =
    let there : index < length (stored d sram) = omega (arith, length_stored d sram) in
    all_stored_at ds (stored d sram) index there ∙ ap (word_after index ds) (stored_at d sram index lt)

-- ---- the cycle

deeds_sram : (w : Setting) (ds : List Deed) (s : State) → (after_deeds w ds s).sram ≡ all_stored ds s.sram
unfolding after_deeds ended with_sio
deeds_sram w ds s = ap (all_stored ds) (masters_leave w s.sio masters ds s).sram

pub sram_by_writes : SramChangesByTheWritesAlone
unfolding next next_by stepped with_turns
sram_by_writes w s index lt =
    ap (λ sram. slice_index sram index) (deeds_sram w (deeds_in w s) (stepped w (begun s) (wanted (begun s)) s))
    ∙ all_stored_at (deeds_in w s) s.sram index lt
