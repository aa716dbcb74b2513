-- What one instruction comes to that a core runs alone over SRAM (ARMv6-M Architecture Reference Manual, A6.7).
use Rattle.std.specs.List.{list_any}
use Rattle.std.specs.Prelude.{◌≡◌, ℕ, ◌%◌, ◌^◌, ◌<◌, Bool, true, false, not, ◌||◌, List, [], ◌∷◌, ◌++◌, length, Option, Some, None, option_to_list}
use Rattle.rp_base.specs.declared.Request.{Request}
use Rattle.rp_base.specs.declared.op.Op.{Op}
use Rattle.rp_base.specs.Access.{lanes_of}
use Rattle.rp_base.specs.Map.{place_of}
use Rattle.m0_beats.specs.declared.registers.Regs.{Regs}
use Rattle.m0_beats.specs.declared.timing.Beat.{Beat}
use Rattle.m0_beats.specs.declared.timing.Beat.TheVariants.{Inner, Access}
use Rattle.m0_beats.specs.Instructions.{beats_of, is_unaligned_of, effect_of, return_of}
use Rattle.m0_core.specs.Fetch.{is_ram_spot}
use Rattle.m0_core.specs.Kinds.{is_breakpoint, is_signal, is_undefined, is_call, awaits_event, awaits_interrupt}
use Rattle.core_laws.specs.Laws.{IsFetched}
use Rattle.core_runs.specs.Bytes.{answer, word_at, stored_by}
use Rattle.core_runs.specs.Runs.{Steps}

-- ---- beats over SRAM

-- an access outside SRAM
abbrev pub is_elsewhere : Beat → Bool
is_elsewhere Inner = false
is_elsewhere (Access request) = not (is_ram_spot (place_of request.address))

-- what a beat leaves
abbrev pub after_beat : Beat → List ℕ → List ℕ
after_beat Inner m = m
after_beat (Access request) m = stored_by request m

abbrev pub after_beats : List Beat → List ℕ → List ℕ
after_beats [] m = m
after_beats (beat ∷ beats) m = after_beats beats (after_beat beat m)

-- what a beat reads, a narrow value zero-extended
abbrev pub value_at : Request → Option ℕ → List ℕ → Option ℕ
value_at request None m = Some (lanes_of request.size request.address (word_at m (place_of request.address) % 2 ^ 32))
value_at request (Some write) m = None

abbrev pub value_of : Beat → List ℕ → Option ℕ
value_of Inner m = None
value_of (Access request) m = value_at request request.write m

abbrev pub values_of : List Beat → List ℕ → List ℕ
values_of [] m = []
values_of (beat ∷ beats) m = option_to_list (value_of beat m) ++ values_of beats (after_beat beat m)

-- ---- an instruction

-- BKPT, UDF, SVC, SEV, WFE and WFI are not, nor is what is no instruction
abbrev pub is_ordinary : Op → Bool
is_ordinary op =
    not (is_undefined op || (is_breakpoint op || (is_call op || (is_signal op || (awaits_event op || awaits_interrupt op)))))

-- the instruction at PC in SRAM can be run there: it neither faults nor stops, its accesses are to SRAM, and it begins no
-- exception return
pub record IsRunnable (op : Op) (r : Regs) (m : List ℕ) : Type 0 where
  pub fetched : IsFetched (answer m) r.pc op
  pub ordinary : is_ordinary op ≡ true
  pub thumb : r.t ≡ true
  pub beats : 0 < length (beats_of op r)
  pub aligned : is_unaligned_of op r ≡ false
  pub inside : list_any is_elsewhere (beats_of op r) ≡ false
  pub stays : return_of op r (values_of (beats_of op r) m) ≡ None

-- it takes as many cycles as it has beats, and leaves what its operation says
abbrev pub AnInstructionSteps : Type 0
AnInstructionSteps =
    (op : Op) (r : Regs) (m : List ℕ)
    → IsRunnable op r m
    → Steps (length (beats_of op r)) r m (effect_of op r (values_of (beats_of op r) m)) (after_beats (beats_of op r) m)
