-- What stops a core, and that nothing else does (ARMv6-M Architecture Reference Manual, A6.7, BKPT, B1.5.15, lockup, A5.1, fetches of one
-- or two halfwords, B1.5.6 and B1.5.8, entry and return, and B3.1, the private bus).
use Rattle.std.specs.Prelude.{◌≡◌, ℕ, ◌+◌, ◌%◌, ◌^◌, true, false, Some, None, slice_index}
use Rattle.rp_base.specs.declared.Request.{Request}
use Rattle.rp_base.specs.declared.Why.{Why}
use Rattle.rp_base.specs.declared.Why.TheVariants as why
use Rattle.rp_base.specs.declared.map.Spot.TheVariants as spot
use Rattle.rp_base.specs.declared.op.Op.{Op}
use Rattle.rp_base.specs.Access.{master_of, word_written}
use Rattle.rp_base.specs.Map.{place_of}
use Rattle.thumb_rows.specs.Rows.{begins_long}
use Rattle.m0_beats.specs.declared.timing.Beat.TheVariants.{Access}
use Rattle.m0_nvic.specs.Words.{is_allowed}
use Rattle.lane_look.specs.declared.lane.Ask.{Ask}
use Rattle.lane_look.specs.declared.lane.Want.TheVariants as want
use Rattle.m0_core.specs.declared.doing.Work.{Work}
use Rattle.m0_core.specs.declared.doing.Work.TheVariants as works
use Rattle.m0_core.specs.Kinds.{is_breakpoint}
use Rattle.m0_core.specs.Fetch.{is_ram, is_faulty, is_locked, taken_of, beat_of_work}
use Rattle.m0_core.specs.Return.{is_bad, is_misfit}
use Rattle.m0_core.specs.State.{State}
use Rattle.core_laws.specs.Laws.{Given, wanted_in, half_at, IsFetched}

-- ---- what a cycle begins

-- nothing is in progress, and no exception is taken
abbrev pub IsBetween : State → Type 0
IsBetween s = (s.work ≡ None) × (taken_of s ≡ None)

-- there the core decodes this instruction
abbrev pub IsDecoded : (Ask → ℕ) → State → Op → Type 0
IsDecoded answers s op = IsBetween s × IsFetched answers s.regs.pc op

-- this has its next beat in the cycle: an instruction or an entry that begins, or what is in progress
pub data HasBeat : (Ask → ℕ) → State → Work → Type 0 where
  begins : {answers : Ask → ℕ} {s : State} (op : Op) → IsDecoded answers s op → is_breakpoint op ≡ false → is_faulty op s ≡ false
      → HasBeat answers s (works.Instruction op)
  enters : {answers : Ask → ℕ} {s : State} (n : ℕ) → s.work ≡ None → taken_of s ≡ Some n → HasBeat answers s (works.Entry n)
  goes_on : {answers : Ask → ℕ} {s : State} (work : Work) → s.work ≡ Some work → HasBeat answers s work

-- that beat has this access
abbrev pub HasAccess : (Ask → ℕ) → State → Request → Type 0
HasAccess answers s request = (work : Work) × HasBeat answers s work × (beat_of_work work s ≡ Access request)

-- ---- causes

pub data StopsBy : (Ask → ℕ) → State → Why → Type 0 where
  -- a BKPT is decoded
  breakpoint : {answers : Ask → ℕ} {s : State} (op : Op) → IsDecoded answers s op → is_breakpoint op ≡ true
      → StopsBy answers s (why.Bkpt s.number)
  -- an instruction faults where the execution priority is -1 or lower
  fault : {answers : Ask → ℕ} {s : State} (op : Op) → IsDecoded answers s op → is_breakpoint op ≡ false → is_faulty op s ≡ true
      → is_locked s ≡ true → StopsBy answers s (why.Lockup s.number)
  -- there a return begins with a bad value
  bad_return : {answers : Ask → ℕ} {s : State} (value : ℕ) → s.work ≡ Some (works.Return value) → s.beats_done ≡ 0 → is_bad value s ≡ true
      → is_locked s ≡ true → StopsBy answers s (why.Lockup s.number)
  -- and there the last beat of a return has a frame whose exception number does not fit the mode
  misfit_return : {answers : Ask → ℕ} {s : State} (value : ℕ) → s.work ≡ Some (works.Return value) → s.beats_done ≡ 12
      → is_misfit value (slice_index s.read 7) ≡ true → is_locked s ≡ true → StopsBy answers s (why.Lockup s.number)
  -- the instruction at PC is not in SRAM
  fetch : {answers : Ask → ℕ} {s : State} → IsBetween s → is_ram s.regs.pc ≡ false
      → StopsBy answers s (why.Outside (master_of s.number) s.regs.pc)
  -- nor is the second halfword of a long one
  second_fetch : {answers : Ask → ℕ} {s : State} → IsBetween s → is_ram s.regs.pc ≡ true → begins_long (half_at answers s.regs.pc) ≡ true
      → is_ram ((s.regs.pc + 2) % 2 ^ 32) ≡ false → StopsBy answers s (why.Outside (master_of s.number) ((s.regs.pc + 2) % 2 ^ 32))
  -- an access of any beat is to a word that the private bus does not have, or that it refuses
  refused : {answers : Ask → ℕ} {s : State} (request : Request) (offset : ℕ) → HasAccess answers s request
      → place_of request.address ≡ spot.Ppb offset → is_allowed offset (word_written request.size request.write) ≡ false
      → StopsBy answers s (why.Outside (master_of s.number) request.address)

-- ---- the law

-- in a cycle an awake core stops where there is a cause, with it; where it stops it is awake and that is its cause. An access to what is
-- neither SRAM nor a register goes outwards as it is, whatever beat has it: who answers there, or that nobody does, the machine finds
pub record StopsAtCauses (s : State) (cycle : ℕ) (g : Given) : Type 0 where
  pub stops : s.asleep ≡ false → (cause : Why) → StopsBy g.answers s cause → wanted_in cycle g s ≡ want.Stopped cause
  pub awake : (cause : Why) → wanted_in cycle g s ≡ want.Stopped cause → s.asleep ≡ false
  pub nothing_else : (cause : Why) → wanted_in cycle g s ≡ want.Stopped cause → StopsBy g.answers s cause
  pub outwards : s.asleep ≡ false → (request : Request) → HasAccess g.answers s request → place_of request.address ≡ spot.Outside
      → wanted_in cycle g s ≡ want.Outward request

abbrev pub ACoreStopsAtItsCauses : Type 0
ACoreStopsAtItsCauses = (s : State) (cycle : ℕ) (g : Given) → StopsAtCauses s cycle g
