-- A window in one pass: in each cycle the lanes begin what their runs alone begin, and the pass ends where the window closes.
use Rattle.std.proofs.Common.{◌≡◌, ◌≢◌, ℕ, zero, suc, ◌+◌, ◌-◌, ◌*◌, ◌<◌, ◌≤◌, ◌||◌, ◌&&◌, ◌⊎◌, Bool, true, false, not, if◌then◌else◌, inl, inr, List, [], ◌∷◌, ◌++◌, length, refl, ap, sym, ◌∙◌, subst, add-one, arith}
use Rattle.window_merge.proofs.Shared.{Ask, Begun, BegunTransfer, Deed, GoesAsAlone, GoneOver, IsWindow, KnowsSio, Mark, Notes, Setting, Start, Want, and_parts, answer_of, answered, around, begun_by, clash, core1_bound, core_lane, differs_by, dma_lane, ends_in, eqb_tells, fits, has_hold, is_launching, left_by, longest, marks_in, noted_in, or_cases, or_left, or_parts, patched, peripheral_lane, pio_lane, runs_follow, runs_of, slice_index, sram_after, states, wants_of, window_length}
use Rattle.std.proofs.lemmas.List.{append-nil, append_assoc}
use Rattle.lane_look.specs.declared.lane.Want.TheVariants as want
use Rattle.lane_look.specs.Replay.{Meaning}
use Rattle.lane_look.specs.Alone.{all_stored, alone, alone_length, ends_wants, ends_at, wanted_in, least}
use Rattle.m0_core.specs.Cycle as core
use Rattle.dma_engine.specs.Cycle as dma
use Rattle.outer_lane.specs.Step as outer
use Rattle.rp_machine.specs.declared.deed.Deed.TheVariants as deed
use Rattle.rp_machine.specs.State.{State}
use Rattle.rp_machine.specs.Cycle.{wanted, stored, next_by, mark}
use Rattle.window_merge.specs.declared.runs.Rests.{Rests}
use Rattle.window_merge.specs.Notes.{is_none, seen_of, seen_word, write_of, original_word, with_word, no_notes, noted, noted_by, HasRoom}
use Rattle.window_merge.specs.Start.{start_of, guess, begun_from, differs_from, ends_wanted, goes_by, goes_on}
use Rattle.window_merge.proofs.Separate.{IsSeparate, separate_sram}
use Rattle.window_merge.proofs.Copying.{SameBy, same_by}
use Rattle.window_merge.proofs.Meeting.{least_meets}
use Rattle.window_merge.proofs.Lanes.{whole_talk, Lane, run, cycles_of, tree, LaneStands, below_least, ends_is, no_cycles, Each}
use Rattle.window_merge.proofs.Lanes.{every, on_each}
use Rattle.window_merge.proofs.Noting.{Restores, undoes_on, own_on, still, sight, no_word, with_word-length, in_sram, after_want}
use Rattle.window_merge.proofs.Reading.{read_only}
use Rattle.window_merge.proofs.Starting.{guess_is, around_over, stored_sram}
use Rattle.window_merge.proofs.Windows.{AreOn, Stands, AreTold, Tries, all_told, stands_first, fitted, stands_next, ends_tried}
use Rattle.window_merge.proofs.Windows.{ends_run, ends_full, is_window, they_end}

-- ---- one lane

-- it begins what its run alone begins in cycle k
abbrev LaneBegins : {S B : Type 0} → Lane S B → State → ℕ → State → Begun → Type 0
LaneBegins l s k now b = l.did b ≡ answered (answer_of l.number (run l s k).around) (tree l now)

lane_wants : {S B : Type 0} (l : Lane S B) (w : Setting) (s : State) (k : ℕ) (now : State) (rests : Rests) (b : Begun)
    → LaneStands l w s k now rests → now.cycle ≡ s.cycle + k → LaneBegins l s k now b
    → l.m.wanted (l.did b) ≡ wanted_in l.m (around l.number) tt (l.of s) s.cycle s k
unfolding wanted_in
lane_wants {S} l w s k now rests b t at h = search (arith, run)

lane_test : {S B : Type 0} (l : Lane S B) (w : Setting) (s : State) (k : ℕ) (now : State) (rests : Rests) (b : Begun)
    → LaneStands l w s k now rests → now.cycle ≡ s.cycle + k → LaneBegins l s k now b
    → ends_at l.m (around l.number) tt (l.of s) s.cycle s k ≡ ends_wants (l.m.wanted (l.did b))
lane_test l w s k now rests b t at h = ends_is l s k ∙ ap ends_wants (sym (lane_wants l w s k now rests b t at h))

-- where a want ends its run, the run has so many cycles
lane_end : {S B : Type 0} (l : Lane S B) (w : Setting) (s : State) (k : ℕ) (now : State) (rests : Rests) (b : Begun)
    → LaneStands l w s k now rests → now.cycle ≡ s.cycle + k → LaneBegins l s k now b → ends_wants (l.m.wanted (l.did b)) ≡ true
    → k ≡ cycles_of l w s
unfolding alone_length
lane_end l w s k now rests b t at h ends =
    let test = ends_at l.m (around l.number) tt (l.of s) s.cycle s in
    let met : test k ≡ true = lane_test l w s k now rests b t at h ∙ ends in
    let n = least test (l.bound s (longest w s)) in
    let le : k ≤ n = t.within in
    elim (eqb_tells k n) [
      | inl same ↦ same.1
      | inr other ↦
          let unmet = below_least test (l.bound s (longest w s)) k (omega (arith, le, other.1)) in absurd (cc (unmet, met))
    ]

-- and else it goes on
lane_on : {S B : Type 0} (l : Lane S B) (w : Setting) (s : State) (k : ℕ) (now : State) (rests : Rests) (b : Begun)
    → LaneStands l w s k now rests → now.cycle ≡ s.cycle + k → LaneBegins l s k now b → k < l.bound s (longest w s)
    → ends_wants (l.m.wanted (l.did b)) ≡ false → k ≢ cycles_of l w s
unfolding alone_length
lane_on l w s k now rests b t at h lt goes same = search (arith, lane_test, least_meets)

-- ---- six lanes

-- each begins what its run alone begins
abbrev Begins : Setting → State → ℕ → State → Begun → Type 0
Begins w s k now b = Each w (λ S B l. LaneBegins l s k now b)

-- core 0, core 1 or the DMA engine has a want that ends its run
wants_end : (b : Begun) → ends_wanted (wanted b) ≡ true
    → (ends_wants (core.wanted b.core0) ≡ true) ⊎ ((ends_wants (core.wanted b.core1) ≡ true) ⊎ (ends_wants (dma.wanted b.dma) ≡ true))
unfolding wanted
wants_end b e = search (arith, or_cases, or_left)

-- or none of them has one
none_ends : (w : Setting) (b : Begun) → ends_wanted (wanted b) ≡ false
    → Each w (λ S B l. ends_wants (l.m.wanted (l.did b)) ≡ false)
unfolding wanted
none_ends w b e = search (arith, or_parts)

run_ends : (w : Setting) (s : State) (k : ℕ) (now : State) (rests : Rests) (marks : List Mark) (b : Begun)
    → Stands w s k now rests marks → Begins w s k now b → ends_wanted (wanted b) ≡ true
    → ends_in (runs_of w s (longest w s)) k ≡ true
run_ends w s k now rests marks b t h e =
    let runs = runs_of w s (longest w s) in
    let end : Each w (λ S B l. ends_wants (l.m.wanted (l.did b)) ≡ true → ends_in runs k ≡ true) =
    on_each (they_end w s) (on_each h (on_each t.lanes (every (λ S B l stands h end ends.
    subst (λ j. ends_in runs j ≡ true) (sym (lane_end l w s k now rests b stands t.at h ends)) end)))) in
    elim (wants_end b e) [
      | inl h0 ↦ end.core0 h0
      | inr h1 ↦ elim h1 [
        | inl h2 ↦ end.core1 h2
        | inr h2 ↦ end.dma h2
      ]
    ]

runs_go_on : (w : Setting) (s : State) (k : ℕ) (now : State) (rests : Rests) (marks : List Mark) (b : Begun)
    → Stands w s k now rests marks → Begins w s k now b → is_launching s.core1 ≡ false → k < longest w s
    → ends_wanted (wanted b) ≡ false
    → AreOn w s k
runs_go_on w s k now rests marks b t h unlaunched lt e =
    let n = longest w s in
    let lt1 : k < core1_bound s n = subst (λ (c : Bool). k < (if c then 0 else n)) (sym unlaunched) lt in
    let below : Each w (λ S B l. k < l.bound s n) =
    record { core0 = lt; core1 = lt1; dma = lt; pio0 = lt; pio1 = lt; outer = lt } in
    on_each (none_ends w b e) (on_each below (on_each h (on_each t.lanes (every (λ S B l stands h lt goes.
    lane_on l w s k now rests b stands t.at h lt goes)))))

-- the logs of the whole runs would tell the lanes the same
told_same : (w : Setting) (s : State) (k : ℕ) (now : State) (rests : Rests) (b : Begun) → AreTold w s k now rests
    → Begins w s k now b → begun_by rests now ≡ b
told_same w s k now rests b t h = search (arith, tree, on_each, every)

-- ---- whether the cycle is kept

-- the cycle is tried, in which no run ends
record Tried (w : Setting) (s : State) (k : ℕ) (now : State) (rests : Rests) (marks : List Mark) (b : Begun) (d : Bool) : Type 0 where
  goes : Tries w s k now rests marks
  same : begun_by rests now ≡ b
  fitting : fits rests now ≡ not (d || clash (wants_of b))

tried : (w : Setting) (s : State) (k : ℕ) (now : State) (rests : Rests) (marks : List Mark) (b : Begun) (d : Bool)
    → Stands w s k now rests marks → Begins w s k now b → (AreTold w s k now rests → differs_by rests now ≡ d)
    → is_launching s.core1 ≡ false → k < longest w s → ends_wanted (wanted b) ≡ false → Tried w s k now rests marks b d
tried w s k now rests marks b d t h differ unlaunched lt e = search (arith, runs_go_on, all_told, told_same)

kept_by : (d ends c : Bool) → ends ≡ false → not (d || not (not (ends || c))) ≡ not (d || c)
kept_by d ends c h1 = grind arith

never_by : (d ends c : Bool) → not (d || not (not (ends || c))) ≡ true → ends ≡ false
never_by d ends c h1 = grind arith

-- where it is not, the window closes there
closed : (w : Setting) (s : State) (k : ℕ) (now : State) (rests : Rests) (marks : List Mark) (b : Begun) (d : Bool)
    → Stands w s k now rests marks → Begins w s k now b → (AreTold w s k now rests → differs_by rests now ≡ d)
    → is_launching s.core1 ≡ false → k < longest w s → not (d || not (goes_by b)) ≡ false → k ≡ window_length w s
closed w s k now rests marks b d t h differ unlaunched lt e = search (arith, ends_run, run_ends, tried, ends_tried, kept_by)

-- where it is, the machine goes on
record GoneOn (w : Setting) (s : State) (k : ℕ) (now : State) (b : Begun) (now' : State) (marks' : List Mark) : Type 0 where
  rests : Rests
  stands : Stands w s (k + 1) now' rests marks'
  separate : IsSeparate b now

gone_on : (w : Setting) (s : State) (k : ℕ) (now : State) (rests : Rests) (marks : List Mark) (b : Begun) (d : Bool) (now' : State)
    (marks' : List Mark) → Stands w s k now rests marks → Begins w s k now b
    → (AreTold w s k now rests → differs_by rests now ≡ d) → is_launching s.core1 ≡ false → k < longest w s
    → not (d || not (goes_by b)) ≡ true → now' ≡ next_by w b (wanted b) now
    → marks' ≡ marks ++ outer.marked w now.outer b.outer ∷ [] → GoneOn w s k now b now' marks'
gone_on w s k now rests marks b d now' marks' t h differ unlaunched lt e e_now e_marks =
    let none = never_by d (ends_wanted (wanted b)) (clash (wants_of b)) e in
    let r = tried w s k now rests marks b d t h differ unlaunched lt none in
    let fitting : fits rests now ≡ true = r.fitting ∙ sym (kept_by d (ends_wanted (wanted b)) (clash (wants_of b)) none) ∙ e in
    let f = fitted w s k now rests marks r.goes fitting in
    record {
      rests = left_by rests now;
      stands = stands_next w s k now rests marks now' (left_by rests now) marks' r.goes fitting
          (subst (λ (x : Begun). now' ≡ next_by w x (wanted x) now) (sym r.same) e_now) refl
          (subst (λ (x : Begun). marks' ≡ marks ++ outer.marked w now.outer x.outer ∷ []) (sym r.same) e_marks);
      separate = subst (λ (x : Begun). IsSeparate x now) (sym f.same ∙ r.same) f.separate;
    }

-- ---- what is kept of the start

abbrev sram_alone : {S B : Type 0} → Meaning (Unit {0}) S B → ℕ → S → State → ℕ → List ℕ
sram_alone m lane before s k = (alone m (around lane) tt before s.cycle s k).around.sram

-- after k cycles
pub record Follows (s : State) (k : ℕ) (now : State) (start : Start) (notes : Notes) : Type 0 where
  pub is_start : start ≡ start_of s
  pub long : length s.sram ≡ 67584
  pub restores : Restores notes.originals now.sram s.sram
  pub core0 : patched notes.core0 s.sram ≡ sram_alone core_lane 0 s.core0 s k
  pub core1 : patched notes.core1 s.sram ≡ sram_alone core_lane 1 s.core1 s k
  pub dma : patched notes.dma s.sram ≡ sram_alone dma_lane 2 s.dma.block s k
  pub clean0 : notes.core1 ≡ [] → notes.dma ≡ [] → sram_alone core_lane 0 s.core0 s k ≡ now.sram
  pub clean1 : notes.core0 ≡ [] → notes.dma ≡ [] → sram_alone core_lane 1 s.core1 s k ≡ now.sram
  pub clean2 : notes.core0 ≡ [] → notes.core1 ≡ [] → sram_alone dma_lane 2 s.dma.block s k ≡ now.sram
  pub clean : notes.core0 ≡ [] → notes.core1 ≡ [] → notes.dma ≡ [] → s.sram ≡ now.sram
  pub room : k ≤ 256 → HasRoom notes (3 * (256 - k))

pub follows_first : (s : State) → length s.sram ≡ 67584 → Follows s 0 s (start_of s) no_notes
unfolding patched alone
follows_first s long = grind arith

-- ---- what a lane sees

-- where each lane sees what its run alone sees
abbrev Sees : (ℕ → ℕ) → List ℕ → Type 0
Sees seen sees = (i : ℕ) → i < 67584 → seen i ≡ slice_index sees i

sees0 : (s : State) (k : ℕ) (now : State) (start : Start) (notes : Notes) → Follows s k now start notes → Sees (seen_of 0 notes now.sram) (sram_alone core_lane 0 s.core0 s k)
sees0 s k now start notes f i lt = search (arith, sight, and_parts, no_word)

sees1 : (s : State) (k : ℕ) (now : State) (start : Start) (notes : Notes) → Follows s k now start notes → Sees (seen_of 1 notes now.sram) (sram_alone core_lane 1 s.core1 s k)
sees1 s k now start notes f i lt = search (arith, sight, and_parts, no_word)

sees2 : (s : State) (k : ℕ) (now : State) (start : Start) (notes : Notes) → Follows s k now start notes → Sees (seen_of 2 notes now.sram) (sram_alone dma_lane 2 s.dma.block s k)
sees2 s k now start notes f i lt = search (arith, sight, and_parts, no_word)

-- a lane that wants nothing leaves what is around it
still_around : {S B : Type 0} (m : Meaning (Unit {0}) S B) (lane : ℕ) (before : S) (s : State) (k : ℕ)
    → ((t : State) (did : B) → all_stored (around lane) t (m.wanted did) ≡ t) → (alone m (around lane) tt before s.cycle s k).around ≡ s
unfolding alone
still_around m lane before s zero h = refl
still_around m lane before s (suc k) h = h _ _ ∙ still_around m lane before s k h

-- such a lane sees SRAM as it was at the start
sees_start : {S B : Type 0} (m : Meaning (Unit {0}) S B) (lane : ℕ) (before : S) (s : State) (k : ℕ) (now : State) (start : Start) (notes : Notes) → Follows s k now start notes
    → ((t : State) (did : B) → all_stored (around lane) t (m.wanted did) ≡ t)
    → Sees (seen_word (is_none notes.core0 && (is_none notes.core1 && is_none notes.dma)) [] notes.originals now.sram) (sram_alone m lane before s k)
unfolding patched
sees_start m lane before s k now start notes f stores_none i lt =
    sight (is_none notes.core0 && (is_none notes.core1 && is_none notes.dma)) [] notes.originals now.sram s.sram s.sram i
    (λ c.
    let p = and_parts (is_none notes.core0) _ c in
    let q = and_parts (is_none notes.core1) (is_none notes.dma) p.1 in
    f.clean (no_word notes.core0 p.0) (no_word notes.core1 q.0) (no_word notes.dma q.1)) f.restores refl f.long lt
    ∙ ap (λ (t : State). slice_index t.sram i) (sym (still_around m lane before s k stores_none))

-- what the start answers is what the run alone is answered
answers_alone : {S B : Type 0} (l : Lane S B) (s : State) (k : ℕ) (start : Start) (seen : ℕ → ℕ) → start ≡ start_of s
    → Sees seen (run l s k).around.sram → (question : Ask)
    → guess l.number start seen question ≡ answer_of l.number (run l s k).around question
answers_alone l s k start seen e sees question = search (arith, guess_is, run, around_over)

-- each lane begins and asks the same
abbrev AnswerAlone : Setting → State → ℕ → State → Start → Notes → Type 0
AnswerAlone w s k now start notes =
    Each w (λ S B l. SameBy (guess l.number start (seen_of l.number notes now.sram)) (answer_of l.number (run l s k).around)
    (tree l now))

all_alone : (w : Setting) (s : State) (k : ℕ) (now : State) (start : Start) (notes : Notes) → Follows s k now start notes
    → AnswerAlone w s k now start notes
all_alone w s k now start notes f =
    let sees : Each w (λ S B l. Sees (seen_of l.number notes now.sram) (run l s k).around.sram) = record {
      core0 = sees0 s k now start notes f;
      core1 = sees1 s k now start notes f;
      dma = sees2 s k now start notes f;
      pio0 = sees_start pio_lane 3 s.pio0.block s k now start notes f (λ t did. refl);
      pio1 = sees_start pio_lane 4 s.pio1.block s k now start notes f (λ t did. refl);
      outer = sees_start (peripheral_lane w) 5 s.outer s k now start notes f (λ t did. refl);
    } in
    on_each sees (every (λ S B l sees.
    same_by _ _ (answers_alone l s k start (seen_of l.number notes now.sram) f.is_start sees) (tree l now)))

begins_later : (w : Setting) (s : State) (k : ℕ) (now : State) (start : Start) (notes : Notes) → AnswerAlone w s k now start notes
    → Begins w s k now (begun_from start notes now)
begins_later w s k now start notes a = grind arith

-- the logs of the whole runs would tell the same answers
differs_later : (w : Setting) (s : State) (k : ℕ) (now : State) (rests : Rests) (start : Start) (notes : Notes)
    → AnswerAlone w s k now start notes → AreTold w s k now rests → differs_by rests now ≡ differs_from start notes now
differs_later w s k now rests start notes a t = search (arith, tree, on_each, every)

-- ---- the next cycle

alone_around : {S B : Type 0} (m : Meaning (Unit {0}) S B) (lane : ℕ) (before : S) (s : State) (k : ℕ)
    → (alone m (around lane) tt before s.cycle s (suc k)).around ≡ all_stored (around lane) (alone m (around lane) tt before s.cycle s k).around (wanted_in m (around lane) tt before s.cycle s k)
unfolding alone wanted_in
alone_around m lane before s k = refl

-- what its accesses leave of SRAM
lane_stores : {S B : Type 0} (l : Lane S B) (w : Setting) (s : State) (k : ℕ) (now : State) (rests : Rests) (b : Begun)
    → LaneStands l w s k now rests → now.cycle ≡ s.cycle + k → LaneBegins l s k now b
    → (run l s (k + 1)).around.sram ≡ (all_stored (around l.number) (run l s k).around (l.m.wanted (l.did b))).sram
lane_stores l w s k now rests b t at h =
    ap (λ j. (run l s j).around.sram) (add-one k) ∙ ap (λ (x : State). x.sram) (alone_around l.m l.number (l.of s) s k)
    ∙ ap (λ (vs : List Want). (all_stored (around l.number) (run l s k).around vs).sram)
    (sym (lane_wants l w s k now rests b t at h))

core_stores : (lane : ℕ) (v : Want) (t : State)
    → (all_stored (around lane) t (v ∷ want.Nothing ∷ [])).sram ≡ stored (write_of v) t.sram
core_stores lane v t = stored_sram v t ∙ sym (after_want v t.sram)

read_rests : (v : Want) (sram : List ℕ) → write_of v ≡ deed.Nothing → sram_after v sram ≡ sram
read_rests v sram e = sym (after_want v sram) ∙ ap (λ (d : Deed). stored d sram) e

dma_stores : (lane : ℕ) (read v : Want) (t : State) → write_of read ≡ deed.Nothing
    → (all_stored (around lane) t (read ∷ v ∷ [])).sram ≡ stored (write_of v) t.sram
dma_stores lane read v t reads = search (arith, stored_sram, read_rests, after_want)

-- the DMA engine's read writes nothing
dma_reads : (w : Setting) (s : State) (k : ℕ) (now : State) (b : Begun) → Begins w s k now b
    → write_of (dma.want_of b.dma.read) ≡ deed.Nothing
dma_reads w s k now b h = ap (λ (x : BegunTransfer). write_of (dma.want_of x.read)) h.dma ∙ read_only _ now.dma.block

-- a cycle notes at most three words
pub room_on : (v0 v1 v : Want) (sram : List ℕ) (notes : Notes) (room more : ℕ) → HasRoom notes room → more + 3 ≤ room → HasRoom (noted v0 v1 v sram notes) more
room_on v0 v1 v sram notes room more h le = search (arith, with_word-length)

-- what the machine's SRAM is then
sram_next : (w : Setting) (s : State) (k : ℕ) (now : State) (b : Begun) (now' : State) → Begins w s k now b → IsSeparate b now → now' ≡ next_by w b (wanted b) now
    → now'.sram ≡ stored (write_of (dma.want_of b.dma.write)) (stored (write_of (core.want_of b.core1)) (stored (write_of (core.want_of b.core0)) now.sram))
sram_next w s k now b now' h separate e =
    let v0 = core.want_of b.core0 in
    let v1 = core.want_of b.core1 in
    let read = dma.want_of b.dma.read in
    let write = dma.want_of b.dma.write in
    let reads = dma_reads w s k now b h in
    ap (λ (t : State). t.sram) e ∙ separate_sram w b now separate
    ∙ ap (sram_after write) (read_rests read (sram_after v1 (sram_after v0 now.sram)) reads)
    ∙ sym (after_want write (sram_after v1 (sram_after v0 now.sram)))
    ∙ ap (stored (write_of write)) (sym (after_want v1 (sram_after v0 now.sram)) ∙ ap (stored (write_of v1)) (sym (after_want v0 now.sram)))

follows_by : (w : Setting) (s : State) (k : ℕ) (now : State) (rests : Rests) (marks : List Mark) (start : Start) (notes : Notes) (b : Begun) (now' : State)
    → Stands w s k now rests marks → Begins w s k now b → Follows s k now start notes → IsSeparate b now
    → now' ≡ next_by w b (wanted b) now
    → Follows s (k + 1) now' start (noted (core.want_of b.core0) (core.want_of b.core1) (dma.want_of b.dma.write) now.sram notes)
follows_by w s k now rests marks start notes b now' t h f separate e =
    let v0 = core.want_of b.core0 in
    let v1 = core.want_of b.core1 in
    let v = dma.want_of b.dma.write in
    let d0 = write_of v0 in
    let d1 = write_of v1 in
    let d = write_of v in
    let left = sram_next w s k now b now' h separate e in
    let u0 = undoes_on notes.originals now.sram now.sram s.sram d0 (record { at_start = f.restores; here = f.restores }) in
    let u1 = undoes_on (with_word (original_word now.sram d0) notes.originals) now.sram (stored d0 now.sram) s.sram d1 u0 in
    let u2 = undoes_on (with_word (original_word now.sram d1) (with_word (original_word now.sram d0) notes.originals)) now.sram (stored d1 (stored d0 now.sram)) s.sram d u1 in
    let left_alone : Each w (λ S B l. (run l s (k + 1)).around.sram ≡ (all_stored (around l.number) (run l s k).around
    (l.m.wanted (l.did b))).sram) =
    on_each h (on_each t.lanes (every (λ S B l stands h. lane_stores l w s k now rests b stands t.at h))) in
    let next0 = left_alone.core0 ∙ core_stores 0 v0 _ in
    let next1 = left_alone.core1 ∙ core_stores 1 v1 _ in
    let next2 = left_alone.dma ∙ dma_stores 2 _ v _ (dma_reads w s k now b h) in
    record {
      is_start = f.is_start;
      long = f.long;
      restores = λ i. subst (λ (l : List ℕ). Restores (noted v0 v1 v now.sram notes).originals l s.sram) (sym left) u2.here i;
      core0 = own_on notes.core0 s.sram _ (seen_of 0 notes now.sram) d0 f.core0 (sees0 s k now start notes f) (in_sram v0) ∙ sym next0;
      core1 = own_on notes.core1 s.sram _ (seen_of 1 notes now.sram) d1 f.core1 (sees1 s k now start notes f) (in_sram v1) ∙ sym next1;
      dma = own_on notes.dma s.sram _ (seen_of 2 notes now.sram) d f.dma (sees2 s k now start notes f) (in_sram v) ∙ sym next2;
      clean0 = λ e1 e2.
          let s1 = still notes.core1 (seen_of 1 notes now.sram) d1 e1 in
          let s2 = still notes.dma (seen_of 2 notes now.sram) d e2 in
          next0 ∙ ap (stored d0) (f.clean0 s1.before s2.before) ∙ sym (left ∙ s2.same (stored d1 (stored d0 now.sram)) ∙ s1.same (stored d0 now.sram));
      clean1 = λ e0 e2.
          let s0 = still notes.core0 (seen_of 0 notes now.sram) d0 e0 in
          let s2 = still notes.dma (seen_of 2 notes now.sram) d e2 in
          next1 ∙ ap (stored d1) (f.clean1 s0.before s2.before) ∙ sym (left ∙ s2.same (stored d1 (stored d0 now.sram)) ∙ ap (stored d1) (s0.same now.sram));
      clean2 = λ e0 e1.
          let s0 = still notes.core0 (seen_of 0 notes now.sram) d0 e0 in
          let s1 = still notes.core1 (seen_of 1 notes now.sram) d1 e1 in
          next2 ∙ ap (stored d) (f.clean2 s0.before s1.before) ∙ sym (left ∙ ap (stored d) (s1.same (stored d0 now.sram) ∙ s0.same now.sram));
      clean = λ e0 e1 e2.
          let s0 = still notes.core0 (seen_of 0 notes now.sram) d0 e0 in
          let s1 = still notes.core1 (seen_of 1 notes now.sram) d1 e1 in
          let s2 = still notes.dma (seen_of 2 notes now.sram) d e2 in
          f.clean s0.before s1.before s2.before ∙ sym (left ∙ s2.same (stored d1 (stored d0 now.sram)) ∙ s1.same (stored d0 now.sram) ∙ s0.same now.sram);
      room = λ le. room_on v0 v1 v now.sram notes (3 * (256 - k)) (3 * (256 - (k + 1))) (f.room (omega (arith, le))) (omega (arith, le));
    }

noted_all : (b : Begun) (sram : List ℕ) (notes : Notes) → noted_by (wanted b) sram notes ≡ noted (core.want_of b.core0) (core.want_of b.core1) (dma.want_of b.dma.write) sram notes
unfolding wanted
noted_all b sram notes = refl

-- ---- the loop

-- the logs of the whole runs
abbrev whole_talks : Setting → State → Rests
whole_talks w s = record {
  core0 = whole_talk core_lane 0 s.core0 s (longest w s);
  core1 = whole_talk core_lane 1 s.core1 s (core1_bound s (longest w s));
  dma = whole_talk dma_lane 2 s.dma.block s (longest w s);
  pio0 = whole_talk pio_lane 3 s.pio0.block s (longest w s);
  pio1 = whole_talk pio_lane 4 s.pio1.block s (longest w s);
  outer = whole_talk (peripheral_lane w) 5 s.outer s (longest w s);
}

-- where the pass stands after k cycles, which takes no word of a launcher
pub record Passes (w : Setting) (s : State) (k : ℕ) (now : State) (start : Start) (notes : Notes) (marks : List Mark) : Type 0 where
  pub rests : Rests
  pub stands : Stands w s k now rests marks
  pub follows : Follows s k now start notes
  pub launching : is_launching s.core1 ≡ false
  pub first : k ≡ 0 → notes ≡ no_notes

-- what is known at the window's start
pub record First (s : State) : Type 0 where
  pub free : has_hold s.fabric ≡ false
  pub knows : KnowsSio s
  pub long : length s.sram ≡ 67584

stands_none : (w : Setting) (s : State) → First s → Stands w s 0 s (whole_talks w s) []
stands_none w s h = search (arith, stands_first)

pub passes_none : (w : Setting) (s : State) → First s → is_launching s.core1 ≡ false → Passes w s 0 s (start_of s) no_notes []
passes_none w s h launching = record {
  rests = whole_talks w s;
  stands = stands_none w s h;
  follows = follows_first s h.long;
  launching = launching;
  first = λ e. refl;
}

-- it stands at the limit
pub closed_at_once : (w : Setting) (s : State) → First s → longest w s ≡ 0 → 0 ≡ window_length w s
closed_at_once w s h e = ends_full w s 0 s _ [] (stands_none w s h) (sym e)

-- core 1 has a word of its launcher to take
pub closed_launching : (w : Setting) (s : State) → First s → 0 < longest w s → is_launching s.core1 ≡ true → 0 ≡ window_length w s
closed_launching w s h lt e =
    let none : alone_length core_lane (around 1) tt s.core1 s.cycle s (core1_bound s (longest w s)) ≡ 0 =
    ap (λ (c : Bool). alone_length core_lane (around 1) tt s.core1 s.cycle s (if c then 0 else longest w s)) e
    ∙ no_cycles core_lane 1 s.core1 s in
    ends_run w s 0 s _ [] (stands_none w s h) lt
    (subst (λ j. ends_in (runs_of w s (longest w s)) j ≡ true) none (they_end w s).core1)

pub passes_later : (w : Setting) (s : State) (k : ℕ) (now : State) (start : Start) (notes : Notes) (marks : List Mark) (now' : State)
    (notes' : Notes) (marks' : List Mark) → Passes w s k now start notes marks → k < longest w s → goes_on start notes now ≡ true
    → now' ≡ next_by w (begun_from start notes now) (wanted (begun_from start notes now)) now
    → marks' ≡ marks ++ outer.marked w now.outer (begun_from start notes now).outer ∷ []
    → notes' ≡ noted_by (wanted (begun_from start notes now)) now.sram notes
    → Passes w s (k + 1) now' start notes' marks'
passes_later w s k now start notes marks now' notes' marks' p lt goes e_now e_marks e_notes =
    let a = all_alone w s k now start notes p.follows in
    let b = begun_from start notes now in
    let h = begins_later w s k now start notes a in
    let g = gone_on w s k now p.rests marks b (differs_from start notes now) now' marks' p.stands h (differs_later w s k now p.rests start notes a) p.launching lt goes e_now e_marks in
    let f = follows_by w s k now p.rests marks start notes b now' p.stands h p.follows g.separate e_now in
    record {
      rests = g.rests;
      stands = g.stands;
      follows = subst (λ (x : Notes). Follows s (k + 1) now' start x) (sym (e_notes ∙ noted_all b now.sram notes)) f;
      launching = p.launching;
      first = λ e. absurd (omega (arith, e));
    }

passes_at : (w : Setting) (s : State) (k k' : ℕ) (now now' : State) (start : Start) (notes : Notes) (marks marks' : List Mark) → Passes w s k now start notes marks → k ≡ k' → now ≡ now' → marks ≡ marks'
    → Passes w s k' now' start notes marks'
passes_at w s k k' now now' start notes marks marks' p e_k e_now e_marks = grind arith

states_follow : (w : Setting) (s now : State) (k n : ℕ) → now ≡ states w s k → states w s (k + n) ≡ states w now n
states_follow w s now k n e = (runs_follow w s k n).state ∙ ap (λ (x : State). states w x n) (sym e)

marks_follow : (w : Setting) (s now : State) (k n : ℕ) (marks : List Mark) → now ≡ states w s k → marks ≡ marks_in w s k → marks_in w s (k + n) ≡ marks ++ marks_in w now n
unfolding marks_in
marks_follow w s now k zero marks e e_marks = let none : k + 0 ≡ k = omega arith in ap (marks_in w s) none ∙ sym e_marks ∙ sym (append-nil marks)
marks_follow w s now k (suc n) marks e e_marks =
    let more : k + suc n ≡ suc (k + n) = omega arith in
    ap (marks_in w s) more
    ∙ ap (λ (ms : List Mark). ms ++ mark w (states w s (k + n)) ∷ []) (marks_follow w s now k n marks e e_marks)
    ∙ ap (λ (x : State). (marks ++ marks_in w now n) ++ mark w x ∷ []) (states_follow w s now k n e)
    ∙ append_assoc marks (marks_in w now n) (mark w (states w now n) ∷ [])

-- as far as each of them goes as the lanes go alone
passes_along : (w : Setting) (s : State) (k : ℕ) (now : State) (start : Start) (notes : Notes) (marks : List Mark) (n j : ℕ)
    → Passes w s k now start notes marks → k + n ≤ longest w s → GoesAsAlone w start notes now n → j ≤ n
    → Passes w s (k + j) (states w now j) start (noted_in w start notes now j) (marks ++ marks_in w now j)
unfolding states noted_in marks_in
passes_along w s k now start notes marks n zero h within goes le =
    let none : k ≡ k + 0 = omega arith in passes_at w s k (k + 0) now now start notes marks _ h none refl (sym (append-nil marks))
passes_along w s k now start notes marks n (suc j) h within goes le =
    let p = passes_along w s k now start notes marks n j h within goes (omega arith) in
    let here = states w now j in
    let before = noted_in w start notes now j in
    let b = begun_from start before here in
    let q = passes_later w s (k + j) here start before (marks ++ marks_in w now j) (next_by w b (wanted b) here)
    (noted_by (wanted b) here.sram before) ((marks ++ marks_in w now j) ++ outer.marked w here.outer b.outer ∷ []) p
    (omega (arith, le, within)) (goes j (omega arith)) refl refl refl in
    let more : k + j + 1 ≡ k + suc j = omega arith in
    passes_at w s (k + j + 1) (k + suc j) _ (states w now (suc j)) start (noted_by (wanted b) here.sram before) _ (marks ++ marks_in w now (suc j)) q more
    (q.stands.is_states ∙ ap (states w s) more ∙ states_follow w s now k (suc j) h.stands.is_states)
    (q.stands.is_marks ∙ ap (marks_in w s) more ∙ marks_follow w s now k (suc j) marks h.stands.is_states h.stands.is_marks)

-- behind cycles that were gone over at once
pub along : {w : Setting} {s : State} {k : ℕ} {now : State} {start : Start} {notes : Notes} {marks : List Mark} {n : ℕ}
    {now' : State}
    {notes' : Notes} {marks' : List Mark} → Passes w s k now start notes marks
    → GoneOver w start now notes marks n now' notes' marks' → k + n ≤ longest w s
    → Passes w s (k + n) now' start notes' marks'
along {w} {s} {k} {now} {start} {notes} {marks} {n} p h within = search (arith, passes_along)

-- of which there were none
pub along_none : {w : Setting} {s : State} {k most : ℕ} {now : State} {start : Start} {notes : Notes} {marks : List Mark} {n : ℕ}
    {now' : State} {notes' : Notes} {marks' : List Mark} → Passes w s k now start notes marks
    → GoneOver w start now notes marks n now' notes' marks' → k < most → most ≡ longest w s → n ≤ 0
    → Passes w s k now' start notes' marks'
along_none {w} {s} {k} {most} {now} {start} {notes} {marks} {n} {now'} {notes'} {marks'} p h lt e none =
    let same : k + n ≡ k = omega (arith, none) in
    subst (λ (j : ℕ). Passes w s j now' start notes' marks') same (along p h (omega (arith, none, lt, e)))

-- from the window's start
pub along_first : {w : Setting} {s : State} {n : ℕ} {now : State} {notes : Notes} {marks : List Mark} → First s
    → GoneOver w (start_of s) s no_notes [] n now notes marks → is_launching s.core1 ≡ false → n ≤ longest w s
    → Passes w s n now (start_of s) notes marks
along_first {w} {s} {n} {now} {notes} {marks} first gone launching le =
    let all : 0 + n ≡ n = omega arith in
    subst (λ (k : ℕ). Passes w s k now (start_of s) notes marks) all
    (along (passes_none w s first launching) gone (omega (arith, le)))

pub closed_later : (w : Setting) (s : State) (k : ℕ) (now : State) (start : Start) (notes : Notes) (marks : List Mark)
    → Passes w s k now start notes marks → k < longest w s → goes_on start notes now ≡ false → k ≡ window_length w s
closed_later w s k now start notes marks p lt e = search (arith, all_alone, closed, begins_later, differs_later)

pub closed_full : {w : Setting} {s : State} {k : ℕ} {now : State} {start : Start} {notes : Notes} {marks : List Mark}
    → Passes w s k now start notes marks → k ≡ longest w s → IsWindow w s k now marks
closed_full {w} {s} {k} {now} {start} {notes} {marks} p e = is_window p.stands (ends_full w s k now p.rests marks p.stands e)

-- there is room for the notes of so many more cycles
pub has_room : (s : State) (k : ℕ) (now : State) (start : Start) (notes : Notes) (n more : ℕ) → Follows s k now start notes → k + n ≤ 256 → more ≤ 3 * n → HasRoom notes more
has_room s k now start notes n more f le few = grind arith

-- no cycle
pub gone_none : (w : Setting) (start : Start) (s : State) (notes : Notes) (marks : List Mark)
    → GoneOver w start s notes marks 0 s notes marks
unfolding states noted_in marks_in
gone_none w start s notes marks = search (arith, append-nil)
