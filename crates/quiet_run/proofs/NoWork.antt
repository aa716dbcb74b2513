-- In quiet cycles no core begins an instruction: one that begins one asks for its first halfword, and stops where that is BKPT.
use Rattle.std.proofs.Common.{◌≡◌, ℕ, ◌+◌, ◌<◌, ◌%◌, ◌^◌, if◌then◌else◌, Bool, true, false, Option, Some, None, refl, sym, ap, ◌∙◌, arith}
use Rattle.rp_base.specs.Access.{master_of}
use Rattle.rp_base.specs.declared.Why.TheVariants as why
use Rattle.lane_look.specs.declared.lane.Ask.{Ask}
use Rattle.lane_look.specs.declared.lane.Ask.TheVariants.{Lines, Half}
use Rattle.lane_look.specs.declared.lane.Want.TheVariants as want
use Rattle.lane_look.specs.Asking.{Asking, answered}
use Rattle.lane_look.specs.Asking.Asking.{Ready, Question}
use Rattle.lane_look.specs.Times.{times}
use Rattle.thumb_rows.specs.Rows.{rows, operation_of}
use Rattle.m0_core.specs.declared.doing.Act.{Act}
use Rattle.m0_core.specs.declared.doing.Act.TheVariants as act
use Rattle.m0_core.specs.declared.doing.Work.{Work}
use Rattle.m0_core.specs.State.{State as Core}
use Rattle.m0_core.specs.Begins.{begins, begins_between, begins_untaken}
use Rattle.m0_core.specs.Cycle.{want_of}
use Rattle.m0_core.specs.Fetch.{stopped, ends_with, asks, carried, asks_awake, asks_next, asks_boundary, asks_taken, asks_first, asks_second, asks_decoded, taken_of, is_ram}
use Rattle.m0_core.specs.Kinds.{is_breakpoint}
use Rattle.m0_core.specs.Quiet.{rested, IsQuiet}
use Rattle.outer_lane.specs.Setting.{Setting}
use Rattle.rp_machine.specs.State.{State}
use Rattle.rp_machine.specs.Answers.{lines_of}
use Rattle.rp_machine.specs.Copies.{CopiesAgree}
use Rattle.rp_machine.specs.Run.{states}
use Rattle.quiet_run.specs.Parts.{ArePartsQuiet, HasNoWork, passed}
use Rattle.quiet_run.proofs.Passing.{states_passed}

-- every halfword is BKPT
abbrev pub breaks : ℕ → Ask → ℕ
breaks lines Lines = lines
breaks lines _ = 48640

decoded : is_breakpoint (operation_of 48640 0) ≡ true
unfolding operation_of rows
decoded = refl

pub stops_second : (s : Core) → asks_second 48640 s ≡ stopped (why.Bkpt s.number)
unfolding asks_second asks_decoded
stops_second s = rw decoded refl

asks_half_first : (s : Core) → taken_of s ≡ None → is_ram s.regs.pc ≡ true → asks_boundary s ≡ Question (Half s.regs.pc) (λ half. asks_second (half % 2 ^ 16) s)
unfolding asks_boundary asks_first
asks_half_first s untaken ram =
    ap (λ t. asks_taken t s) untaken
    ∙ ap (λ b. if b then Question (Half s.regs.pc) (λ half. asks_second (half % 2 ^ 16) s) else stopped (why.Outside (master_of s.number) s.regs.pc)) ram

stops_half : (s : Core) (told lines cycle : ℕ) (tree : Asking Act) → tree ≡ Question (Half s.regs.pc) (λ half. asks_second (half % 2 ^ 16) s)
    → want_of (answered (breaks told) (carried lines cycle tree)) ≡ want.Stopped (why.Bkpt s.number)
unfolding carried
stops_half s told lines cycle tree e =
    ap (λ (t : Asking Act). want_of (answered (breaks told) (carried lines cycle t))) e
    ∙ ap (λ (t : Asking Act). want_of (answered (breaks told) (carried lines cycle t))) (stops_second s)

stops_first : (s : Core) (cycle lines : ℕ) → s.asleep ≡ false → s.work ≡ None → taken_of s ≡ None → is_ram s.regs.pc ≡ true → want_of (answered (breaks lines) (asks s cycle)) ≡ want.Stopped (why.Bkpt s.number)
unfolding asks asks_awake
stops_first s cycle lines awake none untaken ram =
    ap (λ b. want_of (answered (breaks lines) (if b then Ready (ends_with 0 cycle act.Asleep) else Question Lines (λ l. carried (l % 2 ^ 32) cycle (asks_awake s))))) awake
    ∙ stops_half s lines (lines % 2 ^ 32) cycle (asks_awake s) (ap (λ (work : Option Work). asks_next work s) none ∙ asks_half_first s untaken ram)

begins_between_is : (s : Core) → s.asleep ≡ false → s.work ≡ None → begins s ≡ begins_untaken (taken_of s) s
unfolding begins
begins_between_is s awake none = ap (λ b. if b then None else begins_between s.work s) awake ∙ ap (λ (work : Option Work). begins_between work s) none

begins_by : (asleep : Bool) (work : Option Work) (taken : Option ℕ) (ram : Bool) (s : Core) → s.asleep ≡ asleep → s.work ≡ work → taken_of s ≡ taken → is_ram s.regs.pc ≡ ram
    → (s.asleep ≡ false → s.work ≡ None → taken_of s ≡ None → is_ram s.regs.pc ≡ true → ⊥) → begins s ≡ None
unfolding begins
begins_by true work taken ram s a b c d never = rw a refl
begins_by false (Some work) taken ram s a b c d never = rw (a, b) refl
begins_by false None (Some n) ram s a b c d never = begins_between_is s a b ∙ ap (λ t. begins_untaken t s) c
begins_by false None None false s a b c d never =
    begins_between_is s a b ∙ ap (λ t. begins_untaken t s) c ∙ ap (λ r. if r then Some s.regs.pc else None) d
begins_by false None None true s a b c d never = absurd (never a b c d)

pub begins_none : (lines first n k : ℕ) (s : Core) → IsQuiet lines s first n → k < n → begins (times (rested lines) first k s) ≡ None
begins_none lines first n k s q lt =
    let u = times (rested lines) first k s in
    begins_by _ _ _ _ u refl refl refl refl (λ awake none untaken ram.
    let stops = stops_first u (first + k) lines awake none untaken ram in
    let same = ap want_of (q.begins k lt (breaks lines) refl) ∙ q.wants k lt in
    let bad : want.Stopped (why.Bkpt u.number) ≡ want.Nothing = sym stops ∙ same in
    cc bad)

pub no_work_within : (w : Setting) (s : State) (n : ℕ) → CopiesAgree s → ArePartsQuiet w s n → (k : ℕ) → k < n → HasNoWork s (states w s k)
no_work_within w s n agree q k lt =
    let at : states w s k ≡ passed w s k = states_passed w s n k agree q (omega arith) in
    record {
      sram = ap (λ (x : State). x.sram) at;
      core0 = ap (λ (x : State). begins x.core0) at ∙ begins_none (lines_of 0 s) s.cycle n k s.core0 q.core0 lt;
      core1 = ap (λ (x : State). begins x.core1) at ∙ begins_none (lines_of 1 s) s.cycle n k s.core1 q.core1 lt;
    }
