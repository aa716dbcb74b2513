-- Cycles of a window as long as core 0 alone is at work in SRAM beside lanes that are quiet: the start answers each lane as the machine does.
use Rattle.std.proofs.Common.{◌≡◌, ℕ, zero, suc, ◌+◌, ◌<◌, ◌≤◌, ◌==◌, ◌||◌, nat_eq, not, add-one, Bool, true, false, if◌then◌else◌, List, [], ◌∷◌, ◌++◌, length, length-append, Option, None, refl, sym, ap, subst, ◌∙◌, below_more, arith}
use Rattle.window_merge.proofs.Shared.{AreBlocksQuiet, Ask, Asking, Begun, Blocks, GoesAsAlone, HasRoom, IsCore0Alone, IsCore1Quiet, KeepsInward, Mark, MayGoAlone, Notes, Question, Ready, Request, SeenOutputs, Setting, Start, Want, Wanted, alone_by, and_parts, answer_of, answered, begun, begun_same, beside, beside_after, blocks_after, clash, core0_goes_on_alone, core1_after, differs, ends_want, fewer, inputs_of, is_clean, is_first_alone, lines_of, lines_on, lines_stay, mark, marks_in, no_notes, not-not, noted_by, noted_core0, noted_in, noted_inward, or-true, outs_on, pacing_on, packed_pair, same_marks, seen_later, seen_number, seen_of, slice_index, states, stayed, stays_after, tell_on, told_both, wanted, wants_of}
use Rattle.std.proofs.lemmas.List.{append-nil, append_assoc}
use Rattle.lane_look.specs.declared.lane.Ask.TheVariants as ask
use Rattle.lane_look.specs.declared.lane.Want.TheVariants as want
use Rattle.lane_look.specs.Replay.{asked}
use Rattle.m0_core.specs.State.{State as Core}
use Rattle.m0_core.specs.Fetch as core_asks
use Rattle.m0_core.specs.Cycle as core
use Rattle.dma_engine.specs.State.{State as Engine}
use Rattle.dma_engine.specs.declared.begun.Access.{Access}
use Rattle.dma_engine.specs.Asks as dma_asks
use Rattle.dma_engine.specs.Asks.{asks_for, asks_read, next_request}
use Rattle.dma_engine.specs.Cycle as dma
use Rattle.pio_block.specs.State.{State as Pio, is_busy}
use Rattle.pio_block.specs.Cycle as pio
use Rattle.io_bank.specs.State.{State as Bank}
use Rattle.io_bank.specs.Levels.{inputs_of as inputs_of_pads}
use Rattle.outer_lane.specs.State.{State as OuterState}
use Rattle.outer_lane.specs.Step as outer
use Rattle.outer_lane.specs.Quiet.{IsQuiet, seen_in, outer_after}
use Rattle.rp_machine.specs.State.{State}
use Rattle.rp_machine.specs.Inward.{TellsSame, GoesAlone, StaysInward, core0_want, inward_after, onward_after}
use Rattle.rp_machine.proofs.Going.{fewer_cycles, core_fewer}
use Rattle.rp_machine.proofs.OneCore.{first_want, wanted_alone}
use Rattle.rp_machine.proofs.Wantless.{nothing}
use Rattle.window_merge.specs.Start.{start_of, guess, begun_from, differs_from, ends_wanted, goes_by, goes_first, goes_on}
use Rattle.window_merge.proofs.Agree.{itself}
use Rattle.window_merge.proofs.Comparing.{shares_none, clash_four}
use Rattle.window_merge.proofs.Lanes.{tree, Each, every, on_each}
use Rattle.window_merge.proofs.Later.{same_begun}
use Rattle.window_merge.proofs.Passing.{room_on, Passes}
use Rattle.window_merge.proofs.Starting.{guess_is}
use Rattle.window_merge.proofs.Resting.{IsReady, Rests, ready_awake, quiet_rests}

-- ---- what is asked is answered alike

abbrev pub AsksAlike : {B : Type 0} → (Ask → ℕ) → (Ask → ℕ) → Asking B → Type 0
AsksAlike f g (Ready begun) = Unit {0}
AsksAlike f g (Question question next) = (f question ≡ g question) × ((x : ℕ) → AsksAlike f g (next x))

never_differs : {B : Type 0} (f g : Ask → ℕ) (tree : Asking B) → AsksAlike f g tree → differs g (asked f tree) ≡ false
never_differs f g (Ready begun) h = refl
never_differs {B} f g (Question question next) h =
    ap (λ (x : ℕ). not (nat_eq (g question) x) || differs g (asked f (next x))) h.0
    ∙ ap (λ (b : Bool). not b || differs g (asked f (next (g question)))) (itself (g question))
    ∙ never_differs f g (next (g question)) (h.1 (g question))

all_asked : {B : Type 0} (f g : Ask → ℕ) (tree : Asking B) → ((question : Ask) → f question ≡ g question) → AsksAlike f g tree
all_asked f g (Ready begun) h = tt
all_asked {B} f g (Question question next) h = (h question, λ x. all_asked f g (next x) h)

either_way : {B : Type 0} (f g : Ask → ℕ) (c : Bool) (one other : Asking B) → AsksAlike f g one → AsksAlike f g other → AsksAlike f g (if c then one else other)
either_way f g c one other h1 h2 = grind arith

-- ---- lanes that do not ask for SRAM

-- a core that asks for its interrupt lines alone
lines_asks : (f g : Ask → ℕ) (s : Core) (cycle : ℕ) → f ask.Lines ≡ g ask.Lines → (s.asleep ≡ false → IsReady (core_asks.asks_awake s)) → AsksAlike f g (core_asks.asks s cycle)
unfolding core_asks.asks core_asks.carried
lines_asks f g s cycle e ready = search (arith, tree)

rests_asks : (f g : Ask → ℕ) (lines : ℕ) (s : Core) (cycle : ℕ) → f ask.Lines ≡ g ask.Lines → Rests lines s cycle → AsksAlike f g (core_asks.asks s cycle)
rests_asks f g lines s cycle e rests = lines_asks f g s cycle e (λ awake. ready_awake lines s cycle awake rests)

pio_asks : (f g : Ask → ℕ) (s : Pio) → f ask.Inputs ≡ g ask.Inputs → AsksAlike f g (pio.asks s)
unfolding pio.asks
pio_asks f g s e = either_way f g (is_busy s) _ _ (e, λ x. tt) tt

outer_asks : (f g : Ask → ℕ) (s : OuterState) (cycle : ℕ) → f (ask.Outs 0) ≡ g (ask.Outs 0) → f (ask.Outs 1) ≡ g (ask.Outs 1) → AsksAlike f g (outer.asks s cycle)
unfolding outer.asks outer.asks_second
outer_asks f g s cycle e0 e1 = search (arith, either_way)

no_request : (answer : Ask → ℕ) (counts : ℕ) (write : Access) (next : Option Request) → dma.want_of (answered answer (asks_for counts write next)).read ≡ want.Nothing → next ≡ None
no_request answer counts write next h1 = grind arith

requests_none : (answer : Ask → ℕ) (s : Engine) → dma.want_of (answered answer (dma_asks.asks s)).read ≡ want.Nothing → next_request s ≡ None
unfolding dma_asks.asks asks_read
requests_none answer s e = search (arith, no_request)

pub reads_none : (s : State) → dma.want_of (begun s).dma.read ≡ want.Nothing → next_request s.dma.block ≡ None
unfolding begun
reads_none s e = requests_none (answer_of 2 s) s.dma.block e

dma_asks_alike : (f g : Ask → ℕ) (s : Engine) → next_request s ≡ None → f ask.Pacing ≡ g ask.Pacing → AsksAlike f g (dma_asks.asks s)
unfolding dma_asks.asks asks_read
dma_asks_alike f g s none e = search (arith, either_way)

-- ---- six lanes

abbrev pub AreAlike : Setting → Start → Notes → State → Type 0
AreAlike w start notes s =
    Each w (λ S B l. AsksAlike (guess l.number start (seen_of l.number notes s.sram)) (answer_of l.number s) (tree l s))

differs_none : (w : Setting) (start : Start) (notes : Notes) (s : State) → AreAlike w start notes s
    → differs_from start notes s ≡ false
differs_none w start notes s h = search (arith, tree, on_each, every, never_differs)

pub begun_alike : (w : Setting) (start : Start) (notes : Notes) (s : State) → AreAlike w start notes s
    → begun_from start notes s ≡ begun s
begun_alike w start notes s h = sym (same_begun start notes s (differs_none w start notes s h))

pub goes_alike : (w : Setting) (start : Start) (notes : Notes) (s : State) → AreAlike w start notes s
    → goes_on start notes s ≡ goes_by (begun s)
goes_alike w start notes s h =
    ap (λ (d : Bool). not (d || not (goes_by (begun_from start notes s)))) (differs_none w start notes s h)
    ∙ not-not (goes_by (begun_from start notes s)) ∙ ap goes_by (begun_alike w start notes s h)

sees_clean : (lane : ℕ) (notes : Notes) (sram : List ℕ) (i : ℕ) → is_clean lane notes ≡ true → seen_of lane notes sram i ≡ slice_index sram i
sees_clean lane notes sram i e = rw e refl

-- in the first cycle
clean_first : (lane : ℕ) → is_clean lane no_notes ≡ true
clean_first lane = rw (or-true (lane == 0), or-true (lane == 1), or-true (lane == 2)) refl

pub alike_first : (w : Setting) (s : State) → AreAlike w (start_of s) no_notes s
alike_first w s = every (λ S B l. all_asked _ _ _ (λ q. guess_is l.number s (seen_of l.number no_notes s.sram) s.sram q
    (λ i lt. sees_clean l.number no_notes s.sram i (clean_first l.number))))

pub goes_first_on : (w : Setting) (s : State) → goes_on (start_of s) no_notes s ≡ goes_first s
goes_first_on w s = goes_alike w (start_of s) no_notes s (alike_first w s)

pub same_first : {w : Setting} {s : State} {k : ℕ} {now : State} {start : Start} {notes : Notes} {marks : List Mark}
    → Passes w s k now start notes marks → k ≡ 0 → differs_from start notes now ≡ false
unfolding states
same_first {w} {s} p none = rw (p.follows.is_start, p.first none, p.stands.is_states, none) (differs_none w (start_of s) no_notes s (alike_first w s))

pub start_first : {w : Setting} {s : State} {k : ℕ} {now : State} {start : Start} {notes : Notes} {marks : List Mark}
    → Passes w s k now start notes marks → k ≡ 0 → start ≡ start_of now
unfolding states
start_first {w} {s} p none = p.follows.is_start ∙ ap start_of (sym (p.stands.is_states ∙ ap (states w s) none))

-- where core 0 sees SRAM as it is, core 1 asks for no more than its lines, and the DMA engine reads nothing
pub alike_by : (w : Setting) (notes : Notes) (s : State) (lines : ℕ) → is_clean 0 notes ≡ true → Rests lines s.core1 s.cycle → next_request s.dma.block ≡ None
    → AreAlike w (start_of s) notes s
alike_by w notes s lines clean rests none =
    let same : (lane : ℕ) (question : Ask) → guess lane (start_of s) (slice_index s.sram) question ≡ answer_of lane s question =
    λ lane question. guess_is lane s (slice_index s.sram) s.sram question (λ i lt. refl) in
    record {
      core0 = all_asked _ _ _ (λ q. guess_is 0 s (seen_of 0 notes s.sram) s.sram q (λ i lt. sees_clean 0 notes s.sram i clean));
      core1 = rests_asks _ _ lines s.core1 s.cycle (same 1 ask.Lines) rests;
      dma = dma_asks_alike _ _ s.dma.block none (same 2 ask.Pacing);
      pio0 = pio_asks _ _ s.pio0.block (same 3 ask.Inputs);
      pio1 = pio_asks _ _ s.pio1.block (same 4 ask.Inputs);
      outer = outer_asks _ _ s.outer s.cycle (same 5 (ask.Outs 0)) (same 5 (ask.Outs 1));
    }

-- ---- core 0 alone wants anything

-- no other master wants anything
pub apart_alone : (b : Begun) → is_first_alone (wanted b) ≡ true → clash (wants_of b) ≡ false
unfolding wanted
apart_alone b e = search (arith, and_parts, nothing, clash_four, shares_none)

pub goes_first_alone : (b : Begun) (xs : List Wanted) (ends alone : Bool) → xs ≡ wanted b → ends ≡ ends_wanted xs → ends ≡ false → alone ≡ is_first_alone (wanted b) → alone ≡ true → alone ≡ goes_by b
goes_first_alone b xs ends alone e e_ends none e_alone first = search (arith, apart_alone)

goes_by_alone : (s : State) (p : Blocks) (c : Core) → IsCore0Alone s p c → ends_want (core.want_of (begun s).core0) ≡ false → goes_by (begun s) ≡ true
goes_by_alone s p c h keeps =
    ap (λ (xs : List Wanted). not (ends_wanted xs || clash (wants_of (begun s)))) (wanted_alone s p c h)
    ∙ ap (λ (b : Bool). not (ends_wanted (beside (core.want_of (begun s).core0)) || b)) (apart_alone (begun s) (ap is_first_alone (wanted_alone s p c h)))
    ∙ ap (λ (b : Bool). not ((b || false) || false)) keeps

-- ---- cycle after cycle

-- core 0 has gone on alone for so many cycles from a state of a window on, before which this was noted
pub record IsOnward (w : Setting) (m : Notes) (s : State) (n : ℕ) : Type 0 where
  pub sees : is_clean 0 m ≡ true
  pub goes : GoesAlone s
  pub blocks : AreBlocksQuiet s n
  pub core1 : IsCore1Quiet s n
  pub quiet : IsQuiet w (begun s).outer s.outer n
  pub inward : StaysInward s n
  pub keeps : KeepsInward s n
  pub limit : s.cycle + n ≤ w.limit

at_onward : (w : Setting) (m : Notes) (s : State) (n k : ℕ) → IsOnward w m s n → k ≤ n → states w s k ≡ onward_after w s k
at_onward w m s n k h le =
    let limit = h.limit in
    (core0_goes_on_alone w s k h.goes (fewer_cycles s n k h.blocks le) (core_fewer (lines_of 1 s) s.core1 s.cycle n k h.core1 le) (fewer w (begun s).outer s.outer n k h.quiet le) (λ j lt. h.inward j (omega arith)) (omega arith)).state

lines_inward : (s : State) (k : ℕ) → lines_of 0 (inward_after k s) ≡ lines_of 0 s
unfolding inward_after
lines_inward s zero = refl
lines_inward s (suc k) = lines_stay _ _ _ 0 ∙ lines_inward s k

-- no frame ends, and the pads have these levels
abbrev pub mark_with : ℕ → Mark
mark_with pads = record { uart = None ∷ None ∷ []; pads = pads }

-- what is known in one of the cycles
record StandsOnward (w : Setting) (s : State) (k : ℕ) : Type 0 where
  start : start_of (onward_after w s k) ≡ start_of s
  rests : Rests (lines_of 1 s) (onward_after w s k).core1 (onward_after w s k).cycle
  reads : next_request (onward_after w s k).dma.block ≡ None
  alone : IsCore0Alone (onward_after w s k) (blocks_after (suc k) s) (core1_after s.cycle (suc k) s)
  wants : core.want_of (begun (onward_after w s k)).core0 ≡ core0_want (inward_after k s)
  mark : mark w (onward_after w s k) ≡ mark_with s.outer.pads.current

pub starts_by : (a b : Start) → a.lines0 ≡ b.lines0 → a.lines1 ≡ b.lines1 → a.pacing ≡ b.pacing → a.inputs ≡ b.inputs → a.pio0 ≡ b.pio0 → a.pio1 ≡ b.pio1 → a ≡ b
starts_by a b e0 e1 e2 e3 e4 e5 = rw (← e0, ← e1, ← e2, ← e3, ← e4, ← e5) refl

stands_onward : (w : Setting) (m : Notes) (s : State) (n k : ℕ) → IsOnward w m s n → k < n → StandsOnward w s k
unfolding mark inputs_of
stands_onward w m s n k h lt =
    let le : k ≤ n = omega arith in
    let t = inward_after k s in
    let p = blocks_after k s in
    let c = core1_after s.cycle k s in
    let o = outer_after w (begun s).outer k s.outer in
    let u = beside_after w s k t in
    let stays = stays_after s k h.goes in
    let number = seen_number s in
    let cycle = stays.cycle in
    let on = tell_on w s t n k le h.blocks h.quiet in
    let here = told_both s u t on (stayed s t k stays) in
    let pads = h.quiet.pads k le in
    let inputs = ap (λ (b : Bank). inputs_of_pads b b.current ∷ inputs_of_pads b b.second ∷ []) pads in
    let seen : (begun u).outer ≡ seen_in (begun s).outer ((begun s).outer.cycle + k) =
    seen_later s u pads (λ block. outs_on s u block on) ∙ ap (λ (c : ℕ). seen_in (begun s).outer c) (omega arith) in
    let tells : TellsSame p c o t = record {
      lines = lines_on t u 0 refl here;
      pacing = pacing_on t u here;
      inputs = inputs ∙ ap outer_inputs_of (sym stays.outer);
      outs = λ block. outs_on t u block here;
    } in
    let alone = alone_by w s t n k lt stays h.blocks h.core1 on here in
    record {
      start = starts_by (start_of u) (start_of s) (lines_on t u 0 refl here ∙ lines_inward s k) (lines_on t u 1 refl here ∙ stays.lines1) (pacing_on s u on)
          (ap packed_pair inputs) (outs_on s u 0 on) (outs_on s u 1 on);
      rests = subst (λ (x : ℕ). Rests (lines_of 1 s) c x) (sym stays.cycle) (quiet_rests (lines_of 1 s) s.cycle n k s.core1 h.core1 lt);
      reads = reads_none u (first_want _ _ alone.wants);
      alone = alone;
      wants = ap core.want_of (begun_same p c o t tells);
      mark = ap (λ (x : SeenOutputs). outer.marked w o x) seen ∙ h.quiet.mark k lt;
    }
  where
    outer_inputs_of : OuterState → List ℕ
    outer_inputs_of x = inputs_of_pads x.pads x.pads.current ∷ inputs_of_pads x.pads x.pads.second ∷ []

-- core 0 alone writes
own_notes : (m : Notes) (s : State) (k : ℕ) → ((noted_inward m k s).core1 ≡ m.core1) × ((noted_inward m k s).dma ≡ m.dma)
unfolding noted_inward
own_notes m s zero = (refl, refl)
own_notes m s (suc k) = own_notes m s k

sees_onward : (m : Notes) (s : State) (k : ℕ) → is_clean 0 m ≡ true → is_clean 0 (noted_inward m k s) ≡ true
sees_onward m s k sees = search (arith, own_notes)

alike_onward : (w : Setting) (m : Notes) (s : State) (n k : ℕ) → IsOnward w m s n → k < n → AreAlike w (start_of s)
    (noted_inward m k s) (onward_after w s k)
alike_onward w m s n k h lt =
    let x = stands_onward w m s n k h lt in
    subst (λ (start : Start). AreAlike w start (noted_inward m k s) (onward_after w s k)) x.start
    (alike_by w (noted_inward m k s) (onward_after w s k) (lines_of 1 s) (sees_onward m s k h.sees) x.rests x.reads)

begun_onward : (w : Setting) (m : Notes) (s : State) (n k : ℕ) (notes : Notes) (now : State) → IsOnward w m s n → k < n → notes ≡ noted_inward m k s → now ≡ onward_after w s k
    → wanted (begun_from (start_of s) notes now) ≡ beside (core0_want (inward_after k s))
begun_onward w m s n k notes now h lt en es =
    let x = stands_onward w m s n k h lt in
    ap (λ (m : Notes). wanted (begun_from (start_of s) m now)) en
    ∙ ap (λ (u : State). wanted (begun_from (start_of s) (noted_inward m k s) u)) es
    ∙ ap wanted (begun_alike w (start_of s) (noted_inward m k s) (onward_after w s k) (alike_onward w m s n k h lt))
    ∙ wanted_alone (onward_after w s k) (blocks_after (suc k) s) (core1_after s.cycle (suc k) s) x.alone
    ∙ ap beside x.wants

pub notes_onward : (w : Setting) (m : Notes) (s : State) (n k : ℕ) → IsOnward w m s n → k ≤ n → noted_in w (start_of s) m s k ≡ noted_inward m k s
unfolding noted_in noted_inward
notes_onward w m s n zero h le = refl
notes_onward w m s n (suc k) h le =
    let lt : k < n = omega arith in
    let same = notes_onward w m s n k h (omega arith) in
    let here = at_onward w m s n k h (omega arith) in
    let noted = noted_in w (start_of s) m s k in
    ap (λ (xs : List Wanted). noted_by xs (states w s k).sram noted) (begun_onward w m s n k noted (states w s k) h lt same here)
    ∙ ap (λ (u : State). noted_by (beside (core0_want (inward_after k s))) u.sram noted) here
    ∙ ap (noted_by (beside (core0_want (inward_after k s))) (inward_after k s).sram) same

pub goes_as_alone : (w : Setting) (m : Notes) (s : State) (n : ℕ) → IsOnward w m s n → GoesAsAlone w (start_of s) m s n
goes_as_alone w m s n h k lt =
    let x = stands_onward w m s n k h lt in
    let u = onward_after w s k in
    ap (λ (m : Notes). goes_on (start_of s) m (states w s k)) (notes_onward w m s n k h (omega arith))
    ∙ ap (goes_on (start_of s) (noted_inward m k s)) (at_onward w m s n k h (omega arith))
    ∙ goes_alike w (start_of s) (noted_inward m k s) u (alike_onward w m s n k h lt)
    ∙ goes_by_alone u (blocks_after (suc k) s) (core1_after s.cycle (suc k) s) x.alone (ap ends_want x.wants ∙ h.keeps k lt)

-- cycles that leave the same mark
pub same_mark : (w : Setting) (s : State) (m : Mark) (n k : ℕ) → ((j : ℕ) → j < n → mark w (states w s j) ≡ m) → k ≤ n → marks_in w s k ≡ same_marks k m
unfolding marks_in same_marks
same_mark w s m n zero h le = refl
same_mark w s m n (suc k) h le = search (arith, (same_mark w s m n k h (omega arith)))

-- with the levels of the pads, which stay
pub marked_same : (w : Setting) (s t : State) (n pads : ℕ) (marks marks' : List Mark) → ((k : ℕ) → k < n → mark w (states w s k) ≡ mark_with s.outer.pads.current)
    → t.outer.pads.current ≡ s.outer.pads.current → pads ≡ t.outer.pads.current → marks' ≡ marks ++ same_marks n (mark_with pads) → marks' ≡ marks ++ marks_in w s n
marked_same w s t n pads marks marks' each stay e_pads e = search (arith, same_mark)

pub marked_onward : (w : Setting) (m : Notes) (s t : State) (n pads : ℕ) (marks marks' : List Mark) → IsOnward w m s n → t ≡ states w s n → pads ≡ t.outer.pads.current
    → marks' ≡ marks ++ same_marks n (mark_with pads) → marks' ≡ marks ++ marks_in w s n
marked_onward w m s t n pads marks marks' h e_state e_pads e =
    marked_same w s t n pads marks marks' (λ k lt. ap (mark w) (at_onward w m s n k h (omega arith)) ∙ (stands_onward w m s n k h lt).mark)
    (ap (λ (x : State). x.outer.pads.current) (e_state ∙ at_onward w m s n n h (omega arith)) ∙ ap (λ (b : Bank). b.current) (h.quiet.pads n (omega arith))) e_pads e

-- ---- what is noted of core 0 on the way

pub keeps_none : (s : State) → KeepsInward s 0
keeps_none s k lt = absurd (omega arith)

pub keeps_on : (s t : State) (n : ℕ) → KeepsInward s n → t ≡ inward_after n s → ends_want (core0_want t) ≡ false → KeepsInward s (n + 1)
keeps_on s t n h e ends = below_more (λ k. ends_want (core0_want (inward_after k s)) ≡ false) n h
    (ap (λ (x : State). ends_want (core0_want x)) (sym e) ∙ ends)

pub noted_on : (m : Notes) (s t : State) (n : ℕ) (notes notes' : Notes) → notes ≡ noted_inward m n s → t ≡ inward_after n s → notes' ≡ noted_core0 (core0_want t) t.sram notes → notes' ≡ noted_inward m (n + 1) s
unfolding noted_inward
noted_on m s t n notes notes' e_notes e more =
    more ∙ ap (λ (m : Notes). noted_core0 (core0_want t) t.sram m) e_notes
    ∙ ap (λ (x : State). noted_core0 (core0_want x) x.sram (noted_inward m n s)) e ∙ ap (λ (k : ℕ). noted_inward m k s) (sym (add-one n))

pub noted_none : (m : Notes) (s : State) → m ≡ noted_inward m 0 s
unfolding noted_inward
noted_none m s = refl

pub room_fewer : (notes : Notes) (room more : ℕ) → HasRoom notes room → more ≤ room → HasRoom notes more
room_fewer notes room more h le = grind arith

pub room_noted : (x : Want) (sram : List ℕ) (notes notes' : Notes) (room more : ℕ) → HasRoom notes room → more + 3 ≤ room → notes' ≡ noted_core0 x sram notes → HasRoom notes' more
room_noted x sram notes notes' room more h le e = subst (λ (n : Notes). HasRoom n more) (sym e) (room_on x want.Nothing want.Nothing sram notes room more h le)

-- ---- the same mark again and again

-- so many are behind these
pub record AreSame (mark : Mark) (k : ℕ) (first marks : List Mark) : Type 0 where
  pub same : marks ≡ first ++ same_marks k mark
  pub count : length marks ≡ length first + k

pub same_none : (mark : Mark) (marks : List Mark) → AreSame mark 0 marks marks
unfolding same_marks
same_none mark marks = record { same = sym (append-nil marks); count = omega arith }

pub same_more : (mark : Mark) (k : ℕ) (first marks marks' : List Mark) → AreSame mark k first marks → marks' ≡ marks ++ mark ∷ [] → AreSame mark (k + 1) first marks'
unfolding same_marks
same_more mark k first marks marks' h e = search (arith, append_assoc, add-one, length-append)

-- ---- what the calls leave

pub is_onward : (w : Setting) (m : Notes) (s : State) (seen : SeenOutputs) (most done : ℕ) → is_clean 0 m ≡ true → MayGoAlone w seen s most → done ≤ most → StaysInward s done → KeepsInward s done → IsOnward w m s done
is_onward w m s seen most done sees h le inward keeps =
    let limit = h.limit in
    record {
      sees = sees;
      goes = h.goes;
      blocks = fewer_cycles s most done h.blocks le;
      core1 = core_fewer (lines_of 1 s) s.core1 s.cycle most done h.core1 le;
      quiet = fewer w (begun s).outer s.outer most done (subst (λ (x : SeenOutputs). IsQuiet w x s.outer most) h.same h.quiet) le;
      inward = inward;
      keeps = keeps;
      limit = omega arith;
    }
