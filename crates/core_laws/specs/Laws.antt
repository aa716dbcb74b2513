-- An instruction takes its beats: what the cycles of a core come to, instruction by instruction (ARMv6-M Architecture Reference
-- Manual, A6.7, Operation, for registers and flags, and B1.5.8, ExceptionReturn, for what BX and POP begin; ARM Cortex-M0+
-- Technical Reference Manual, 3.3, for the number of cycles).
use Rattle.std.specs.List.{list_any}
use Rattle.std.specs.Prelude.{◌≡◌, ℕ, ◌+◌, ◌%◌, ◌^◌, ◌<◌, ◌≤◌, Bool, true, false, not, ◌||◌, List, [], ◌∷◌, ◌++◌, length, map, if◌then◌else◌, Option, Some, None, option_to_list}
use Rattle.rp_base.specs.declared.Request.{Request}
use Rattle.rp_base.specs.declared.map.Spot.{Spot}
use Rattle.rp_base.specs.declared.map.Spot.TheVariants as spot
use Rattle.rp_base.specs.declared.op.Op.{Op}
use Rattle.rp_base.specs.Map.{place_of}
use Rattle.thumb_rows.specs.Rows.{begins_long, operation_of}
use Rattle.m0_beats.specs.declared.timing.Beat.{Beat}
use Rattle.m0_beats.specs.declared.timing.Beat.TheVariants.{Inner, Access}
use Rattle.m0_beats.specs.Instructions.{beats_of, effect_of, return_of}
use Rattle.m0_nvic.specs.State.{State as Exceptions}
use Rattle.m0_nvic.specs.Words as words
use Rattle.m0_nvic.specs.Cycle as nvic
use Rattle.lane_look.specs.declared.lane.Ask.{Ask}
use Rattle.lane_look.specs.declared.lane.Ask.TheVariants.{Lines, Half, Word}
use Rattle.lane_look.specs.declared.lane.Want.{Want}
use Rattle.lane_look.specs.declared.lane.Want.TheVariants as want
use Rattle.lane_look.specs.declared.lane.Turn.{Turn}
use Rattle.lane_look.specs.declared.lane.Turn.TheVariants as turn
use Rattle.lane_look.specs.Asking.{answered}
use Rattle.m0_core.specs.declared.doing.Act.{Act}
use Rattle.m0_core.specs.declared.doing.Act.TheVariants as act
use Rattle.m0_core.specs.declared.doing.Doing.{Doing}
use Rattle.m0_core.specs.declared.doing.Work.{Work}
use Rattle.m0_core.specs.declared.doing.Work.TheVariants as works
use Rattle.m0_core.specs.Kinds.{is_breakpoint, is_signal, awaits_event, awaits_interrupt}
use Rattle.rp_base.specs.Access.{lanes_of, word_written}
use Rattle.m0_core.specs.Private.{private_word}
use Rattle.m0_core.specs.Fetch.{asks, is_ram, is_faulty, taken_of}
use Rattle.m0_core.specs.Cycle.{want_of, next, returning, called}
use Rattle.m0_core.specs.State.{State}

-- ---- cycles in which each access is done at once

-- what a cycle brings: the answers to the core's questions (its interrupt lines, halfwords and words of SRAM), and the word
-- of an access outside SRAM
pub record Given : Type 0 where
  pub answers : Ask → ℕ
  pub word : ℕ

-- an access is done in the cycle in which the core asks for it
abbrev pub turn_of : Want → ℕ → Turn
turn_of (want.Ram request) word = turn.Done word
turn_of (want.Outward request) word = turn.Done word
turn_of _ word = turn.Nothing

-- what the core begins in a cycle of that number
abbrev pub begun_in : ℕ → Given → State → Doing
begun_in cycle g s = answered g.answers (asks s cycle)

-- what it wants there
abbrev pub wanted_in : ℕ → Given → State → Want
wanted_in cycle g s = want_of (begun_in cycle g s)

-- the core after the cycle
abbrev pub after_cycle : ℕ → Given → State → State
after_cycle cycle g s =
    next s (begun_in cycle g s) (turn_of (wanted_in cycle g s) g.word ∷ turn.Nothing ∷ [])

-- the core after one cycle for each that is given, the first of that number
abbrev pub after_cycles : ℕ → List Given → State → State
after_cycles cycle [] s = s
after_cycles cycle (g ∷ gs) s = after_cycles (cycle + 1) gs (after_cycle cycle g s)

abbrev pub is_stop : Want → Bool
is_stop (want.Stopped cause) = true
is_stop _ = false

-- the machine stops in none of these cycles
abbrev pub GoesOn : ℕ → List Given → State → Type 0
GoesOn cycle [] s = Unit {0}
GoesOn cycle (g ∷ gs) s =
    (is_stop (wanted_in cycle g s) ≡ false) × GoesOn (cycle + 1) gs (after_cycle cycle g s)

-- ---- what is read

-- the word at an address in that cycle
abbrev pub word_at : Spot → ℕ → Given → State → ℕ
word_at (spot.Ram index bank) address g s = g.answers (Word address) % 2 ^ 32
word_at (spot.Ppb offset) address g s = private_word offset s
word_at _ address g s = g.word

-- a read has its lanes of the word, and a write has no value
abbrev pub read_at : Spot → Request → Option ℕ → Given → State → Option ℕ
read_at place request None g s =
    Some (lanes_of request.size request.address (word_at place request.address g s))
read_at place request (Some write) g s = None

abbrev pub read_in : Beat → Given → State → Option ℕ
read_in Inner g s = None
read_in (Access request) g s = read_at (place_of request.address) request request.write g s

-- the values that these beats read, one beat a cycle
abbrev pub reads_in : ℕ → List Beat → List Given → State → List ℕ
reads_in cycle (beat ∷ beats) (g ∷ gs) s =
    option_to_list (read_in beat g s) ++ reads_in (cycle + 1) beats gs (after_cycle cycle g s)
reads_in cycle _ _ s = []

-- ---- what is wanted

-- an access goes to SRAM or outwards; one of the private bus is the core's own
abbrev pub want_at : Spot → Request → Want
want_at (spot.Ram index bank) request = want.Ram request
want_at (spot.Ppb offset) request = want.Nothing
want_at _ request = want.Outward request

-- a beat wants its access, and that of SEV signals
abbrev pub want_of_beat : Op → Beat → Want
want_of_beat op Inner = if is_signal op then want.Signal else want.Nothing
want_of_beat op (Access request) = want_at (place_of request.address) request

-- what the core wants in these cycles
abbrev pub wants_in : ℕ → List Given → State → List Want
wants_in cycle [] s = []
wants_in cycle (g ∷ gs) s = wanted_in cycle g s ∷ wants_in (cycle + 1) gs (after_cycle cycle g s)

-- ---- exceptions and the event register

-- the interrupt lines in a cycle
abbrev pub lines_in : Given → ℕ
lines_in g = g.answers Lines % 2 ^ 32

-- what a beat does to the exceptions: an access to the private bus
abbrev pub touched_at : Spot → Request → Exceptions → Exceptions
touched_at (spot.Ppb offset) request e = words.effect_of offset (word_written request.size request.write) e
touched_at place request e = e

abbrev pub touched_by : Beat → Exceptions → Exceptions
touched_by Inner e = e
touched_by (Access request) e = touched_at (place_of request.address) request e

-- the same where these beats follow: with its last one SVC makes its exception pending
abbrev pub changed_by : Op → Beat → List Beat → Exceptions → Exceptions
changed_by op beat [] e = called op (touched_by beat e)
changed_by op beat (another ∷ beats) e = touched_by beat e

-- the exceptions after these beats, one a cycle: after each the timer and the interrupt lines have their turn
abbrev pub exceptions_in : Op → ℕ → List Beat → List Given → Exceptions → Exceptions
exceptions_in op cycle [] gs e = e
exceptions_in op cycle (beat ∷ beats) [] e = e
exceptions_in op cycle (beat ∷ beats) (g ∷ gs) e =
    exceptions_in op (cycle + 1) beats gs (nvic.after_cycle (lines_in g) cycle (changed_by op beat beats e))

-- the event register after these beats, by the exceptions and the register before: SEVONPEND may set it at the end of each
abbrev pub event_in : Op → ℕ → List Beat → List Given → Exceptions → Bool → Bool
event_in op cycle [] gs e event = event
event_in op cycle (beat ∷ beats) [] e event = event
event_in op cycle (beat ∷ beats) (g ∷ gs) e event =
    event_in op (cycle + 1) beats gs (nvic.after_cycle (lines_in g) cycle (changed_by op beat beats e))
    (event || nvic.is_event (lines_in g) cycle (changed_by op beat beats e))

-- ---- the beginning

-- an awake core is at a boundary between two instructions, and takes no exception there
pub record IsAtBoundary (s : State) : Type 0 where
  pub awake : s.asleep ≡ false
  pub between : s.work ≡ None
  pub first : s.beats_done ≡ 0
  pub fresh : s.read ≡ []
  pub untaken : taken_of s ≡ None

-- a halfword of SRAM
abbrev pub half_at : (Ask → ℕ) → ℕ → ℕ
half_at answers address = answers (Half address) % 2 ^ 16

-- one halfword, or two where the first begins a long instruction
abbrev pub IsEncoded : Bool → (Ask → ℕ) → ℕ → Op → Type 0
IsEncoded false answers pc op = operation_of (half_at answers pc) 0 ≡ op
IsEncoded true answers pc op =
    (is_ram ((pc + 2) % 2 ^ 32) ≡ true)
    × (operation_of (half_at answers pc) (half_at answers ((pc + 2) % 2 ^ 32)) ≡ op)

-- the instruction at PC, which lies in SRAM
abbrev pub IsFetched : (Ask → ℕ) → ℕ → Op → Type 0
IsFetched answers pc op =
    (is_ram pc ≡ true) × IsEncoded (begins_long (half_at answers pc)) answers pc op

-- the instruction finds no fault, and is none of BKPT, WFE and WFI
pub record IsPlain (op : Op) (s : State) : Type 0 where
  pub unfaulted : is_faulty op s ≡ false
  pub unbroken : is_breakpoint op ≡ false
  pub no_event : awaits_event op ≡ false
  pub no_interrupt : awaits_interrupt op ≡ false

-- ---- the law

-- the instruction is in progress: registers and flags are as they were
abbrev pub IsInProgress : Op → State → State → Type 0
IsInProgress op s t = (t.regs ≡ s.regs) × (t.work ≡ Some (works.Instruction op))

-- it is over: registers and flags are what it leaves, and the core is at a boundary, or begins the return that BX or POP asks
-- for
pub record IsOver (op : Op) (reads : List ℕ) (s t : State) : Type 0 where
  pub awake : t.asleep ≡ false
  pub effect : t.regs ≡ effect_of op s.regs reads
  pub then_returns : t.work ≡ returning (return_of op s.regs reads)
  pub first : t.beats_done ≡ 0
  pub fresh : t.read ≡ []

-- after these cycles: where they are no more than the beats, nothing stops; where they are fewer, the instruction is in progress;
-- where they are as many, each wanted what its beat wants, and the instruction is over. Exceptions and the event register are what
-- its beats, the timer and the lines make of them, so that it is known whether the next instruction begins
pub record TakesItsBeats (op : Op) (cycle : ℕ) (gs : List Given) (s : State) : Type 0 where
  pub goes_on : length gs ≤ length (beats_of op s.regs) → GoesOn cycle gs s
  pub in_progress : length gs < length (beats_of op s.regs) → IsInProgress op s (after_cycles cycle gs s)
  pub wants : length gs ≡ length (beats_of op s.regs) → wants_in cycle gs s ≡ map (want_of_beat op) (beats_of op s.regs)
  pub exceptions : length gs ≤ length (beats_of op s.regs)
      → (after_cycles cycle gs s).nvic ≡ exceptions_in op cycle (beats_of op s.regs) gs s.nvic
  pub event : length gs ≤ length (beats_of op s.regs)
      → (after_cycles cycle gs s).event ≡ event_in op cycle (beats_of op s.regs) gs s.nvic s.event
  pub over : length gs ≡ length (beats_of op s.regs) → IsOver op (reads_in cycle (beats_of op s.regs) gs s) s (after_cycles cycle gs s)

-- an access that the core's private bus refuses: there is no such word, or it is a write that asks for a reset of the system
abbrev pub is_refused_at : Request → Spot → Bool
is_refused_at request (spot.Ppb offset) = not (words.is_allowed offset (word_written request.size request.write))
is_refused_at request place = false

abbrev pub is_refused : Beat → Bool
is_refused Inner = false
is_refused (Access request) = is_refused_at request (place_of request.address)

-- no beat is one that the private bus refuses
abbrev pub IsGranted : Op → State → Type 0
IsGranted op s = list_any is_refused (beats_of op s.regs) ≡ false

-- an instruction that a core begins at a boundary takes its beats, one a cycle where each access is done in the cycle in which
-- it is asked for. This holds whatever the interrupt lines and the system timer do
abbrev pub AnInstructionTakesItsBeats : Type 0
AnInstructionTakesItsBeats =
    (op : Op) (s : State) (cycle : ℕ) (g : Given) (gs : List Given)
    → IsAtBoundary s
    → IsFetched g.answers s.regs.pc op
    → IsPlain op s
    → IsGranted op s
    → TakesItsBeats op cycle (g ∷ gs) s

-- ---- accesses that wait

abbrev pub is_access : Want → Bool
is_access (want.Ram request) = true
is_access (want.Outward request) = true
is_access _ = false

-- the instruction, entry or return whose access goes over the bus
abbrev pub accessing : Act → Option Work
accessing (act.Read work request word) = Some work
accessing (act.Write work request) = Some work
accessing (act.Outward work request) = Some work
accessing _ = None

-- a core has an access that is not done in the cycle: what has the access is in progress, as far as before, and registers and
-- flags are as they were; the timer and the interrupt lines had their turn
pub record LastsOn (s : State) (begun : Doing) (t : State) : Type 0 where
  pub awake : t.asleep ≡ s.asleep
  pub kept : t.regs ≡ s.regs
  pub in_progress : t.work ≡ accessing begun.act
  pub so_far : t.beats_done ≡ s.beats_done
  pub values : t.read ≡ s.read
  pub exceptions : t.nvic ≡ nvic.after_cycle begun.lines begun.cycle s.nvic
  pub event : t.event ≡ (s.event || nvic.is_event begun.lines begun.cycle s.nvic)

abbrev pub AnAccessLastsUntilItIsDone : Type 0
AnAccessLastsUntilItIsDone =
    (s : State) (begun : Doing)
    → is_access (want_of begun) ≡ true
    → LastsOn s begun (next s begun (turn.Wait ∷ turn.Nothing ∷ []))
