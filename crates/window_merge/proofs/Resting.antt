-- A core that wants nothing, whatever it is answered beside its interrupt lines, asks for these alone.
use Rattle.window_merge.proofs.Shared.{Act, Ask, Asking, Beat, Bool, Half, Lines, None, Option, Question, Ready, Request, Some, Spot, Work, answered, ap, false, if◌then◌else◌, place_of, refl, sym, ℕ, ◌%◌, ◌+◌, ◌<◌, ◌^◌, ◌∙◌, ◌≡◌, arith}
use Rattle.rp_base.specs.declared.Why.TheVariants as why
use Rattle.rp_base.specs.declared.map.Spot.TheVariants as spot
use Rattle.rp_base.specs.Access.{master_of}
use Rattle.lane_look.specs.declared.lane.Want.TheVariants as want
use Rattle.lane_look.specs.Times.{times}
use Rattle.m0_beats.specs.declared.timing.Beat.TheVariants as beat
use Rattle.m0_core.specs.declared.doing.Act.TheVariants as act
use Rattle.m0_core.specs.declared.doing.Work.TheVariants as works
use Rattle.m0_core.specs.State.{State as Core}
use Rattle.m0_core.specs.Cycle as core
use Rattle.m0_core.specs.Fetch.{stopped, is_ram, beat_of_work, in_ram, at_spot, in_beat, asks_beat, asks_return, asks_second, asks_first, taken_of, asks_taken, asks_boundary, asks_work, asks_next, asks_awake, ends_with, carried, asks}
use Rattle.m0_core.specs.Quiet.{rested, IsQuiet}
use Rattle.quiet_run.proofs.NoWork.{breaks, stops_second}

-- no question
abbrev pub IsReady : {B : Type 0} → Asking B → Type 0
IsReady (Ready begun) = Unit {0}
IsReady (Question ask next) = ⊥

abbrev WantsNothing : ℕ → Asking Act → Type 0
WantsNothing lines tree = (answer : Ask → ℕ) → answer Lines ≡ lines → core.want_of_act (answered answer tree) ≡ want.Nothing

ready_if : (lines : ℕ) (c : Bool) (one other : Asking Act) → (WantsNothing lines one → IsReady one) → (WantsNothing lines other → IsReady other)
    → WantsNothing lines (if c then one else other) → IsReady (if c then one else other)
ready_if lines c one other h1 h2 h3 = grind arith

ready_either : (c : Bool) (one other : Act) → IsReady (if c then Ready one else Ready other)
ready_either c one other = grind arith

-- ---- beats

ready_ram : (lines : ℕ) (work : Work) (request : Request) (write : Option ℕ) → WantsNothing lines (in_ram work request write) → IsReady (in_ram work request write)
ready_ram lines work request None h = let bad : want.Ram request ≡ want.Nothing = h (breaks lines) refl in absurd (cc bad)
ready_ram lines work request (Some value) h = tt

ready_at : (lines : ℕ) (work : Work) (request : Request) (s : Core) (at : Spot) → WantsNothing lines (at_spot work request s at) → IsReady (at_spot work request s at)
ready_at lines work request s (spot.Ram index bank) h = ready_ram lines work request request.write h
ready_at lines work request s (spot.Ppb offset) h = search (arith, ready_either)
ready_at lines work request s (spot.Reg block offset alias) h = tt
ready_at lines work request s _ h = tt

ready_in : (lines : ℕ) (work : Work) (s : Core) (b : Beat) → WantsNothing lines (in_beat work s b) → IsReady (in_beat work s b)
ready_in lines work s beat.Inner h = tt
ready_in lines work s (beat.Access request) h = ready_at lines work request s (place_of request.address) h

ready_beat : (lines : ℕ) (work : Work) (s : Core) → WantsNothing lines (asks_beat work s) → IsReady (asks_beat work s)
unfolding asks_beat
ready_beat lines work s h = ready_in lines work s (beat_of_work work s) h

-- ---- the cycle

-- one that begins an instruction asks for its first halfword, and stops where that is BKPT
ready_first : (lines : ℕ) (s : Core) → WantsNothing lines (asks_first s) → IsReady (asks_first s)
unfolding asks_first
ready_first lines s h =
    ready_if lines (is_ram s.regs.pc) (Question (Half s.regs.pc) (λ half. asks_second (half % 2 ^ 16) s)) (stopped (why.Outside (master_of s.number) s.regs.pc))
    (λ half.
    let nothing : core.want_of_act (answered (breaks lines) (asks_second 48640 s)) ≡ want.Nothing = half (breaks lines) refl in
    let bad : want.Stopped (why.Bkpt s.number) ≡ want.Nothing =
    sym (ap (λ (t : Asking Act). core.want_of_act (answered (breaks lines) t)) (stops_second s)) ∙ nothing in
    absurd (cc bad))
    (λ stop. tt) h

ready_taken : (lines : ℕ) (taken : Option ℕ) (s : Core) → WantsNothing lines (asks_taken taken s) → IsReady (asks_taken taken s)
ready_taken lines None s h = ready_first lines s h
ready_taken lines (Some n) s h = ready_beat lines (works.Entry n) s h

ready_work : (lines : ℕ) (work : Work) (s : Core) → WantsNothing lines (asks_work work s) → IsReady (asks_work work s)
unfolding asks_return
ready_work lines (works.Instruction op) s h = ready_beat lines (works.Instruction op) s h
ready_work lines (works.Entry n) s h = ready_beat lines (works.Entry n) s h
ready_work lines (works.Return value) s h = search (arith, ready_if, ready_either, ready_beat)

ready_next : (lines : ℕ) (work : Option Work) (s : Core) → WantsNothing lines (asks_next work s) → IsReady (asks_next work s)
unfolding asks_boundary
ready_next lines None s h = ready_taken lines (taken_of s) s h
ready_next lines (Some work) s h = ready_work lines work s h

wants_carried : (answer : Ask → ℕ) (lines cycle : ℕ) (tree : Asking Act) → core.want_of (answered answer (carried lines cycle tree)) ≡ core.want_of_act (answered answer tree)
unfolding carried
wants_carried answer lines cycle (Ready begun) = refl
wants_carried answer lines cycle (Question ask next) = wants_carried answer lines cycle (next (answer ask))

-- in a cycle the core wants nothing, whatever it is answered beside these lines
abbrev pub Rests : ℕ → Core → ℕ → Type 0
Rests lines s cycle = (answer : Ask → ℕ) → answer Lines ≡ lines → core.want_of (answered answer (asks s cycle)) ≡ want.Nothing

pub ready_awake : (lines : ℕ) (s : Core) (cycle : ℕ) → s.asleep ≡ false → Rests lines s cycle → IsReady (asks_awake s)
unfolding asks asks_awake
ready_awake lines s cycle awake h =
    ready_next lines s.work s (λ answer told.
    sym (wants_carried answer (answer Lines % 2 ^ 32) cycle (asks_awake s))
    ∙ sym (ap (λ b. core.want_of (answered answer (if b then Ready (ends_with 0 cycle act.Asleep) else Question Lines (λ l. carried (l % 2 ^ 32) cycle (asks_awake s))))) awake)
    ∙ h answer told)

-- as in each cycle in which it is quiet
pub quiet_rests : (lines first n k : ℕ) (s : Core) → IsQuiet lines s first n → k < n → Rests lines (times (rested lines) first k s) (first + k)
quiet_rests lines first n k s q lt answer told = ap core.want_of (q.begins k lt answer told) ∙ q.wants k lt
