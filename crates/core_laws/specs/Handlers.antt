-- An exception entry, its handler and the return: how long entry and return last, and that the return gives back what the entry
-- found (ARMv6-M Architecture Reference Manual, B1.5.6, ExceptionEntry and PushStack, and B1.5.8, ExceptionReturn and PopStack).
-- The frame and the vector lie in SRAM.
use Rattle.std.specs.Prelude.{◌≡◌, ℕ, ◌+◌, ◌*◌, ◌%◌, ◌^◌, ◌<◌, ◌≤◌, Bool, true, false, if◌then◌else◌, List, [], ◌∷◌, length, map, Option, Some, None, slice_index}
use Rattle.rp_base.specs.Word.{has_bit}
use Rattle.m0_beats.specs.declared.registers.Regs.{Regs}
use Rattle.m0_beats.specs.declared.timing.Beat.{Beat}
use Rattle.m0_beats.specs.declared.timing.Beat.TheVariants.{Inner, Access}
use Rattle.m0_beats.specs.Registers.{sp_of}
use Rattle.m0_nvic.specs.Exceptions.{INTERRUPT_0}
use Rattle.m0_nvic.specs.State.{State as Exceptions}
use Rattle.m0_nvic.specs.Numbers.{numbers_from, is_member}
use Rattle.m0_nvic.specs.Changes.{entered, left}
use Rattle.m0_nvic.specs.Cycle as nvic
use Rattle.m0_nvic.specs.Laws.{after_cycles}
use Rattle.lane_look.specs.declared.lane.Ask.TheVariants.{Word}
use Rattle.lane_look.specs.declared.lane.Want.{Want}
use Rattle.lane_look.specs.declared.lane.Want.TheVariants as want
use Rattle.m0_core.specs.declared.doing.Work.{Work}
use Rattle.m0_core.specs.declared.doing.Work.TheVariants as works
use Rattle.m0_core.specs.ExcReturn.{ENTRY_BEATS, RETURN_BEATS}
use Rattle.m0_core.specs.Entry.{entry_frame, vector_address, entry_beat, with_entry}
use Rattle.m0_core.specs.Return.{return_frame, return_beat, is_bad, is_misfit, with_return}
use Rattle.m0_core.specs.Fetch.{is_ram, taken_of}
use Rattle.m0_core.specs.State.{State}
use Rattle.core_laws.specs.Laws.{lines_in}
use Rattle.core_laws.specs.Waiting.{Served, after_all_served, wants_served}
use Rattle.core_laws.specs.Sound.{IsSound}

-- ---- beats over cycles

-- a beat with an access lasts until that is done, another one a cycle
abbrev pub ends_in : Beat → Served → Bool
ends_in Inner x = true
ends_in (Access request) x = x.done

-- the beats that are left of these after these cycles; None where the cycles go on past the last beat
abbrev pub left_of : List Beat → List Served → Option (List Beat)
left_of beats [] = Some beats
left_of [] (x ∷ xs) = None
left_of (beat ∷ beats) (x ∷ xs) = if ends_in beat x then left_of beats xs else left_of (beat ∷ beats) xs

-- an access to SRAM is wanted in each cycle until it is done
abbrev pub want_in : Beat → Want
want_in Inner = want.Nothing
want_in (Access request) = want.Ram request

abbrev pub wants_through : List Beat → List Served → List Want
wants_through [] xs = []
wants_through (beat ∷ beats) [] = []
wants_through (beat ∷ beats) (x ∷ xs) =
    want_in beat ∷ (if ends_in beat x then wants_through beats xs else wants_through (beat ∷ beats) xs)

-- each access is done in the cycle in which it is asked for
abbrev pub AllDone : List Served → Type 0
AllDone [] = Unit {0}
AllDone (x ∷ xs) = (x.done ≡ true) × AllDone xs

-- ---- what the cycles bring

-- the interrupt lines in each cycle
abbrev pub lines_of : List Served → List ℕ
lines_of [] = []
lines_of (x ∷ xs) = lines_in x.given ∷ lines_of xs

-- SRAM has this word at that address at the start of each cycle
abbrev pub Stays : ℕ → ℕ → List Served → Type 0
Stays address word [] = Unit {0}
Stays address word (x ∷ xs) = (x.given.answers (Word address) % 2 ^ 32 ≡ word) × Stays address word xs

-- ---- entry

-- the beats of an entry, the state being that at its start
abbrev pub entry_beats : ℕ → State → List Beat
entry_beats n s = map (λ k. entry_beat n (record s { beats_done = k })) (numbers_from 0 ENTRY_BEATS)

-- an awake core is at a boundary, and takes exception n there
pub record Takes (n : ℕ) (s : State) : Type 0 where
  pub awake : s.asleep ≡ false
  pub between : s.work ≡ None
  pub first : s.beats_done ≡ 0
  pub fresh : s.read ≡ []
  pub taken : taken_of s ≡ Some n

-- the eight words of the frame lie in SRAM, and so does the vector, which is this word in each of these cycles
pub record HasRoom (n vector : ℕ) (xs : List Served) (s : State) : Type 0 where
  pub frame : (k : ℕ) → k < 8 → is_ram ((entry_frame s.regs + 4 * k) % 2 ^ 32) ≡ true
  pub table : is_ram (vector_address n s.nvic) ≡ true
  pub stays : Stays (vector_address n s.nvic) vector xs

-- an entry or a return is in progress: registers and flags are as they were, and the timer and the lines had their turns
pub record IsOnItsWay (work : Work) (cycle : ℕ) (xs : List Served) (e : Exceptions) (s t : State) : Type 0 where
  pub awake : t.asleep ≡ false
  pub kept : t.regs ≡ s.regs
  pub in_progress : t.work ≡ Some work
  pub exceptions : t.nvic ≡ after_cycles cycle (lines_of xs) e

-- a core is at a boundary, with the event register set
pub record IsBetween (t : State) : Type 0 where
  pub awake : t.asleep ≡ false
  pub between : t.work ≡ None
  pub first : t.beats_done ≡ 0
  pub fresh : t.read ≡ []
  pub event : t.event ≡ true

-- the handler begins: the exception is active
pub record HandlerBegins (n vector cycle : ℕ) (xs : List Served) (s t : State) : Type 0 where
  pub at_boundary : IsBetween t
  pub registers : t.regs ≡ with_entry n vector s.regs
  pub exceptions : t.nvic ≡ after_cycles cycle (lines_of xs) (entered n s.nvic)

-- while beats are left the entry is in progress, and when none is left the handler begins
pub record Enters (n vector cycle : ℕ) (xs : List Served) (s : State) : Type 0 where
  pub in_progress : (beat : Beat) (beats : List Beat) → left_of (entry_beats n s) xs ≡ Some (beat ∷ beats)
      → IsOnItsWay (works.Entry n) cycle xs (entered n s.nvic) s (after_all_served cycle xs s)
  pub over : left_of (entry_beats n s) xs ≡ Some [] → HandlerBegins n vector cycle xs s (after_all_served cycle xs s)
  pub wants : (beats : List Beat) → left_of (entry_beats n s) xs ≡ Some beats
      → wants_served cycle xs s ≡ wants_through (entry_beats n s) xs
  pub count : AllDone xs → length xs ≡ ENTRY_BEATS → left_of (entry_beats n s) xs ≡ Some []

abbrev pub AnEntryTakesItsBeats : Type 0
AnEntryTakesItsBeats =
    (n vector : ℕ) (s : State) (cycle : ℕ) (x : Served) (xs : List Served)
    → Takes n s
    → HasRoom n vector (x ∷ xs) s
    → Enters n vector cycle (x ∷ xs) s

-- ---- return

abbrev pub return_beats : ℕ → State → List Beat
return_beats value s = map (λ k. return_beat value (record s { beats_done = k })) (numbers_from 0 RETURN_BEATS)

-- an awake core begins a return with that value, which fits the exceptions that are active
pub record BeginsReturn (value : ℕ) (s : State) : Type 0 where
  pub awake : s.asleep ≡ false
  pub returns : s.work ≡ Some (works.Return value)
  pub first : s.beats_done ≡ 0
  pub fresh : s.read ≡ []
  pub good : is_bad value s ≡ false

-- these eight words are the frame's in SRAM, in each of these cycles, and the exception number of the last one fits the mode
pub record HasFrame (value : ℕ) (words : List ℕ) (xs : List Served) (s : State) : Type 0 where
  pub eight : length words ≡ 8
  pub frame : (k : ℕ) → k < 8 → is_ram ((return_frame value s.regs + 4 * k) % 2 ^ 32) ≡ true
  pub stays : (k : ℕ) → k < 8 → Stays ((return_frame value s.regs + 4 * k) % 2 ^ 32) (slice_index words k) xs
  pub fits : is_misfit value (slice_index words 7) ≡ false

-- the exceptions after cycles of a return: in the last one the exception becomes inactive, and then the timer and the lines have
-- their turn
abbrev pub after_leaving : ℕ → ℕ → List ℕ → Exceptions → Exceptions
after_leaving n cycle [] e = e
after_leaving n cycle (lines ∷ []) e = nvic.after_cycle lines cycle (left n e)
after_leaving n cycle (lines ∷ another ∷ more) e =
    after_leaving n (cycle + 1) (another ∷ more) (nvic.after_cycle lines cycle e)

-- the return is over
pub record IsBack (value : ℕ) (words : List ℕ) (cycle : ℕ) (xs : List Served) (s t : State) : Type 0 where
  pub at_boundary : IsBetween t
  pub registers : t.regs ≡ with_return value words s.regs
  pub exceptions : t.nvic ≡ after_leaving s.regs.ipsr cycle (lines_of xs) s.nvic

pub record Returns (value : ℕ) (words : List ℕ) (cycle : ℕ) (xs : List Served) (s : State) : Type 0 where
  pub in_progress : (beat : Beat) (beats : List Beat) → left_of (return_beats value s) xs ≡ Some (beat ∷ beats)
      → IsOnItsWay (works.Return value) cycle xs s.nvic s (after_all_served cycle xs s)
  pub over : left_of (return_beats value s) xs ≡ Some [] → IsBack value words cycle xs s (after_all_served cycle xs s)
  pub wants : (beats : List Beat) → left_of (return_beats value s) xs ≡ Some beats
      → wants_served cycle xs s ≡ wants_through (return_beats value s) xs
  pub count : AllDone xs → length xs ≡ RETURN_BEATS → left_of (return_beats value s) xs ≡ Some []

abbrev pub AReturnTakesItsBeats : Type 0
AReturnTakesItsBeats =
    (value : ℕ) (words : List ℕ) (s : State) (cycle : ℕ) (x : Served) (xs : List Served)
    → BeginsReturn value s
    → HasFrame value words (x ∷ xs) s
    → Returns value words cycle (x ∷ xs) s

-- ---- both

-- the lines in the last of these cycles
abbrev pub last_lines : List Served → ℕ
last_lines [] = 0
last_lines (x ∷ []) = lines_in x.given
last_lines (x ∷ another ∷ more) = last_lines (another ∷ more)

-- each word that was to be written to SRAM is there at the start of each of these cycles
abbrev pub IsThere : Want → Option ℕ → List Served → Type 0
IsThere (want.Ram request) (Some value) xs = Stays request.address value xs
IsThere _ _ xs = Unit {0}

abbrev pub written : Want → Option ℕ
written (want.Ram request) = request.write
written _ = None

abbrev pub AreThere : List Want → List Served → Type 0
AreThere [] xs = Unit {0}
AreThere (wanted ∷ more) xs = IsThere wanted (written wanted) xs × AreThere more xs

-- a handler that began with the state u has come to the return with the state t: the value is that of LR at its start, and the
-- exception number, the active exceptions and the stack pointer that the return takes are as at its start
pub record HandlerEnds (u t : State) : Type 0 where
  pub awake : t.asleep ≡ false
  pub returns : t.work ≡ Some (works.Return u.regs.lr)
  pub first : t.beats_done ≡ 0
  pub fresh : t.read ≡ []
  pub number : t.regs.ipsr ≡ u.regs.ipsr
  pub active : t.nvic.active ≡ u.nvic.active
  pub stack : return_frame u.regs.lr t.regs ≡ return_frame u.regs.lr u.regs
  pub thirteen : length t.regs.r ≡ 13

-- what an entry stacks, and mode and stack pointer, are as they were
pub record IsGivenBack (s v : Regs) : Type 0 where
  pub r0 : slice_index v.r 0 ≡ slice_index s.r 0
  pub r1 : slice_index v.r 1 ≡ slice_index s.r 1
  pub r2 : slice_index v.r 2 ≡ slice_index s.r 2
  pub r3 : slice_index v.r 3 ≡ slice_index s.r 3
  pub r12 : slice_index v.r 12 ≡ slice_index s.r 12
  pub lr : v.lr ≡ s.lr
  pub pc : v.pc ≡ s.pc
  pub flag_n : v.n ≡ s.n
  pub flag_z : v.z ≡ s.z
  pub flag_c : v.c ≡ s.c
  pub flag_v : v.v ≡ s.v
  pub thumb : v.t ≡ s.t
  pub mode : v.ipsr ≡ s.ipsr
  pub selection : v.spsel ≡ s.spsel
  pub stack : sp_of v ≡ sp_of s

-- the handler left R4 to R11, PRIMASK and the stack pointers as it found them
pub record KeepsTheRest (u t : Regs) : Type 0 where
  pub others : (k : ℕ) → 4 ≤ k → k < 12 → slice_index t.r k ≡ slice_index u.r k
  pub mask : t.primask ≡ u.primask
  pub main : t.msp ≡ u.msp
  pub process : t.psp ≡ u.psp

-- v is the state after the return
pub record ComesBack (cycle : ℕ) (ys : List Served) (s u t v : State) : Type 0 where
  pub at_boundary : IsBetween v
  pub given_back : IsGivenBack s.regs v.regs
  pub others : (k : ℕ) → 4 ≤ k → k < 12 → slice_index v.regs.r k ≡ slice_index t.regs.r k
  pub mask : v.regs.primask ≡ t.regs.primask
  pub whole : KeepsTheRest u.regs t.regs → v.regs ≡ s.regs
  pub active : v.nvic.active ≡ s.nvic.active
  -- interrupt i is pending again where its line is high in the last cycle of its return
  pub again : (i : ℕ) → i < 32 → u.regs.ipsr ≡ INTERRUPT_0 + i → has_bit (last_lines ys) i ≡ true
      → is_member (INTERRUPT_0 + i) v.nvic.pending ≡ true
  pub exceptions : v.nvic ≡ after_leaving u.regs.ipsr cycle (lines_of ys) t.nvic

-- a sound core, whose stack pointer is a word, takes an exception, some handler runs, and returns while SRAM still has what the entry
-- wrote. The entry has the cycles xs and the return the cycles ys, just as many as their beats take
abbrev pub AReturnGivesBackWhatAnEntryFound : Type 0
AReturnGivesBackWhatAnEntryFound =
    (n vector : ℕ) (s t : State) (cycle later : ℕ) (x y : Served) (xs ys : List Served)
    → IsSound s
    → sp_of s.regs < 2 ^ 32
    → Takes n s
    → HasRoom n vector (x ∷ xs) s
    → left_of (entry_beats n s) (x ∷ xs) ≡ Some []
    → HandlerEnds (after_all_served cycle (x ∷ xs) s) t
    → AreThere (wants_served cycle (x ∷ xs) s) (y ∷ ys)
    → left_of (return_beats (after_all_served cycle (x ∷ xs) s).regs.lr t) (y ∷ ys) ≡ Some []
    → ComesBack later (y ∷ ys) s (after_all_served cycle (x ∷ xs) s) t (after_all_served later (y ∷ ys) t)
