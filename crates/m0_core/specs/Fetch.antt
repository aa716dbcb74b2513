-- What a core asks in a cycle, and what it has begun then. A core that is not asleep asks for its interrupt lines. At a
-- boundary between two instructions it takes an exception or fetches and decodes the next instruction, which begins with
-- its first beat; elsewhere the next beat of what is in progress begins (ARMv6-M Architecture Reference Manual, A5.1,
-- instruction set encoding, A6.7, BKPT, SVC and UDF, B1.5.4, which exception is taken, and B1.5.15, lockup).
use Rattle.std.specs.Prelude.{ℕ, ◌+◌, ◌-◌, ◌%◌, ◌^◌, ◌==◌, ◌||◌, ◌&&◌, Bool, true, false, not, if◌then◌else◌, slice_get, slice_index, Option, Some, None, unwrap_or, pos, int_lt}
use Rattle.rp_base.specs.declared.Request.{Request}
use Rattle.rp_base.specs.declared.Why.{Why}
use Rattle.rp_base.specs.declared.Why.TheVariants as why
use Rattle.rp_base.specs.declared.map.Spot.{Spot}
use Rattle.rp_base.specs.declared.map.Spot.TheVariants as spot
use Rattle.rp_base.specs.declared.op.Op.{Op}
use Rattle.rp_base.specs.Access.{master_of, word_written}
use Rattle.rp_base.specs.Map.{place_of}
use Rattle.thumb_rows.specs.Rows.{begins_long, operation_of}
use Rattle.m0_beats.specs.declared.timing.Beat.{Beat}
use Rattle.m0_beats.specs.declared.timing.Beat.TheVariants.{Inner, Access}
use Rattle.m0_beats.specs.Instructions.{beats_of, is_unaligned_of}
use Rattle.m0_nvic.specs.Exceptions.{SVCALL}
use Rattle.m0_nvic.specs.Priority.{best_of, priority_of, comes_before, rank_of}
use Rattle.m0_nvic.specs.Words.{is_allowed}
use Rattle.lane_look.specs.declared.lane.Ask.TheVariants.{Lines, Half, Word}
use Rattle.lane_look.specs.Asking.{Asking}
use Rattle.lane_look.specs.Asking.Asking.{Ready, Question}
use Rattle.m0_core.specs.declared.doing.Act.{Act}
use Rattle.m0_core.specs.declared.doing.Act.TheVariants as act
use Rattle.m0_core.specs.declared.doing.Work.{Work}
use Rattle.m0_core.specs.declared.doing.Work.TheVariants as works
use Rattle.m0_core.specs.declared.doing.Doing.{Doing}
use Rattle.m0_core.specs.ExcReturn.{RETURN_BEATS}
use Rattle.m0_core.specs.Kinds.{is_breakpoint, is_call, is_undefined}
use Rattle.m0_core.specs.Entry.{entry_beat}
use Rattle.m0_core.specs.Return.{return_beat, is_bad, is_misfit}
use Rattle.m0_core.specs.State.{State}

-- the cycle does not happen
abbrev pub stopped : Why → Asking Act
stopped cause = Ready (act.Stopped cause)

abbrev pub is_ram_spot : Spot → Bool
is_ram_spot (spot.Ram index bank) = true
is_ram_spot _ = false

-- an address of SRAM
unfoldable pub is_ram : ℕ → Bool
is_ram address = is_ram_spot (place_of address)

-- ---- faults

-- the execution priority is -1 or lower: a fault locks the core up (B1.5.15)
unfoldable pub is_locked : State → Bool
is_locked s = int_lt (priority_of s.nvic s.regs.primask) (pos 0)

abbrev pub asks_fault : State → Asking Act
asks_fault s = if is_locked s then stopped (why.Lockup s.number) else Ready act.Fault

-- SVC has an exception that can be taken at once (B1.5.4)
unfoldable pub is_callable : State → Bool
is_callable s = int_lt (rank_of s.nvic SVCALL) (priority_of s.nvic s.regs.primask)

-- no instruction, one without T, one with an unaligned access, and SVC where its exception would wait
abbrev pub is_faulty : Op → State → Bool
is_faulty op s =
    is_undefined op || (not s.regs.t || (is_unaligned_of op s.regs || (is_call op && not (is_callable s))))

-- ---- beats

-- the beat of an instruction that is next
unfoldable pub beat_of : Op → State → Beat
beat_of op s = unwrap_or (slice_get (beats_of op s.regs) s.beats_done) Inner

abbrev pub beat_of_work : Work → State → Beat
beat_of_work (works.Instruction op) s = beat_of op s
beat_of_work (works.Entry n) s = entry_beat n s
beat_of_work (works.Return value) s = return_beat value s

-- a read of SRAM asks for the word as it is at the start of the cycle
abbrev pub in_ram : Work → Request → Option ℕ → Asking Act
in_ram work request None = Question (Word request.address) (λ word. Ready (act.Read work request (word % 2 ^ 32)))
in_ram work request (Some value) = Ready (act.Write work request)

-- the private bus has words that can be accessed; a write that asks for a reset of the system is none of them
abbrev pub in_private : Work → Request → ℕ → State → Asking Act
in_private work request offset s =
    if is_allowed offset (word_written request.size request.write)
    then Ready (act.Private work request offset)
    else stopped (why.Outside (master_of s.number) request.address)

-- an access goes to SRAM, to the core's private bus, or outwards
abbrev pub at_spot : Work → Request → State → Spot → Asking Act
at_spot work request s (spot.Ram index bank) = in_ram work request request.write
at_spot work request s (spot.Ppb offset) = in_private work request offset s
at_spot work request s _ = Ready (act.Outward work request)

abbrev pub in_beat : Work → State → Beat → Asking Act
in_beat work s Inner = Ready (act.Inner work)
in_beat work s (Access request) = at_spot work request s (place_of request.address)

unfoldable pub asks_beat : Work → State → Asking Act
asks_beat work s = in_beat work s (beat_of_work work s)

-- a return with a bad value faults in its first beat, and one whose stacked exception number does not fit the mode at its
-- end
abbrev pub locks_last : ℕ → State → Bool
locks_last value s = (s.beats_done == RETURN_BEATS - 1) && (is_misfit value (slice_index s.read 7) && is_locked s)

unfoldable pub asks_return : ℕ → State → Asking Act
asks_return value s =
    if s.beats_done == 0 && is_bad value s then asks_fault s else
    if locks_last value s then stopped (why.Lockup s.number) else asks_beat (works.Return value) s

-- ---- fetches

-- BKPT stops
unfoldable pub asks_decoded : Op → State → Asking Act
asks_decoded op s =
    if is_breakpoint op then stopped (why.Bkpt s.number) else
    if is_faulty op s then asks_fault s else asks_beat (works.Instruction op) s

-- a halfword of the program, or the stop of a fetch outside SRAM
abbrev pub asks_half : ℕ → State → (ℕ → Asking Act) → Asking Act
asks_half address s next =
    if is_ram address then Question (Half address) (λ half. next (half % 2 ^ 16)) else
    stopped (why.Outside (master_of s.number) address)

-- an instruction of two halfwords has its second one behind the first
unfoldable pub asks_second : ℕ → State → Asking Act
asks_second first s =
    if begins_long first
    then asks_half ((s.regs.pc + 2) % 2 ^ 32) s (λ second. asks_decoded (operation_of first second) s)
    else asks_decoded (operation_of first 0) s

unfoldable pub asks_first : State → Asking Act
asks_first s = asks_half s.regs.pc s (λ first. asks_second first s)

-- ---- boundaries

-- the exception that is taken: the best one, where it comes before the execution priority
unfoldable pub taken_of : State → Option ℕ
taken_of s = if comes_before s.nvic (priority_of s.nvic s.regs.primask) (best_of s.nvic) then best_of s.nvic else None

abbrev pub asks_taken : Option ℕ → State → Asking Act
asks_taken None s = asks_first s
asks_taken (Some n) s = asks_beat (works.Entry n) s

unfoldable pub asks_boundary : State → Asking Act
asks_boundary s = asks_taken (taken_of s) s

-- ---- the cycle

abbrev pub asks_work : Work → State → Asking Act
asks_work (works.Instruction op) s = asks_beat (works.Instruction op) s
asks_work (works.Entry n) s = asks_beat (works.Entry n) s
asks_work (works.Return value) s = asks_return value s

abbrev pub asks_next : Option Work → State → Asking Act
asks_next None s = asks_boundary s
asks_next (Some work) s = asks_work work s

unfoldable pub asks_awake : State → Asking Act
asks_awake s = asks_next s.work s

-- the lines and the cycle go with what was begun, for its end
abbrev pub ends_with : ℕ → ℕ → Act → Doing
ends_with lines cycle begun = record { act = begun; lines = lines; cycle = cycle }

unfoldable pub carried : ℕ → ℕ → Asking Act → Asking Doing
carried lines cycle (Ready begun) = Ready (ends_with lines cycle begun)
carried lines cycle (Question ask next) = Question ask (λ answer. carried lines cycle (next answer))

unfoldable pub asks : State → ℕ → Asking Doing
asks s cycle =
    if s.asleep then Ready (ends_with 0 cycle act.Asleep) else
    Question Lines (λ lines. carried (lines % 2 ^ 32) cycle (asks_awake s))
