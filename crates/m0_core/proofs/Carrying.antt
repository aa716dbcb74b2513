-- What was begun is carried to the end of the cycle with the lines and the cycle's number.
use Rattle.std.proofs.Common.{◌≡◌, ◌∙◌, ℕ, ◌%◌, ◌^◌, Bool, true, false, cond, Option, Some, None, refl, ap}
use Rattle.std.specs.Prelude.{slice_get, unwrap_or}
use Rattle.rp_base.specs.Access.{master_of}
use Rattle.rp_base.specs.declared.Why.TheVariants as why
use Rattle.rp_base.specs.declared.op.Op.{Op}
use Rattle.m0_beats.specs.declared.timing.Beat.{Beat}
use Rattle.m0_beats.specs.declared.timing.Beat.TheVariants.{Inner}
use Rattle.m0_beats.specs.Instructions.{beats_of}
use Rattle.lane_look.specs.declared.lane.Ask.{Ask}
use Rattle.lane_look.specs.declared.lane.Ask.TheVariants.{Lines, Half}
use Rattle.lane_look.specs.Asking.{Asking, Runs, answered}
use Rattle.lane_look.specs.Asking.Asking.{Ready, Question}
use Rattle.m0_core.specs.declared.doing.Act.{Act}
use Rattle.m0_core.specs.declared.doing.Act.TheVariants as act
use Rattle.m0_core.specs.declared.doing.Work.TheVariants as works
use Rattle.m0_core.specs.Fetch.{asks, asks_awake, asks_next, asks_boundary, asks_taken, asks_first, asks_second, asks_beat, beat_of, in_beat, carried, ends_with, is_ram, stopped, taken_of}
use Rattle.m0_core.specs.declared.doing.Work.{Work}
use Rattle.m0_core.specs.Begins.{begins}
use Rattle.m0_core.specs.State.{State}

pub runs_carried : {K : Type 0} (answers : K → Ask → ℕ → K → Type 0) (lines cycle : ℕ) (tree : Asking Act) (old new : K) (begun : Act) → Runs answers old tree begun new → Runs answers old (carried lines cycle tree) (ends_with lines cycle begun) new
unfolding carried
runs_carried answers lines cycle (Ready b) old new begun h = (h.0, ap (ends_with lines cycle) h.1)
runs_carried answers lines cycle (Question ask next) old new begun h =
    (h.0, h.1, h.2, runs_carried answers lines cycle (next h.0) h.1 new begun h.3)

pub ruleset carrying = (runs_carried)

-- ---- where a function answers

answered_carried : (f : Ask → ℕ) (lines cycle : ℕ) (tree : Asking Act) → answered f (carried lines cycle tree) ≡ ends_with lines cycle (answered f tree)
unfolding carried
answered_carried f lines cycle (Ready a) = refl
answered_carried f lines cycle (Question ask rest) = answered_carried f lines cycle (rest (f ask))

pub begun_from : (f : Ask → ℕ) (cycle : ℕ) (s : State) → s.asleep ≡ false → answered f (asks s cycle) ≡ ends_with (f Lines % 2 ^ 32) cycle (answered f (asks_awake s))
unfolding asks
begun_from f cycle s awake =
    ap (λ b. answered f (cond b (Ready (ends_with 0 cycle act.Asleep)) (Question Lines (λ lines. carried (lines % 2 ^ 32) cycle (asks_awake s))))) awake
    ∙ answered_carried f (f Lines % 2 ^ 32) cycle (asks_awake s)

-- the next beat of an instruction in progress
pub begun_on : (f : Ask → ℕ) (cycle : ℕ) (s : State) (op : Op) (b : Beat) → s.asleep ≡ false → s.work ≡ Some (works.Instruction op) → slice_get (beats_of op s.regs) s.beats_done ≡ Some b
    → answered f (asks s cycle) ≡ ends_with (f Lines % 2 ^ 32) cycle (answered f (in_beat (works.Instruction op) s b))
unfolding asks_awake asks_beat beat_of
begun_on f cycle s op b awake going at =
    begun_from f cycle s awake
    ∙ ap (ends_with (f Lines % 2 ^ 32) cycle) (ap (λ w. answered f (asks_next w s)) going ∙ ap (λ o. answered f (in_beat (works.Instruction op) s (unwrap_or o Inner))) at)

-- the instruction of a halfword, between two instructions
parts : (s : State) (pc : ℕ) (asleep : Bool) (work : Option Work) (taken : Option ℕ) (ram : Bool) → s.asleep ≡ asleep → s.work ≡ work → taken_of s ≡ taken → is_ram s.regs.pc ≡ ram
    → begins s ≡ Some pc → (s.asleep ≡ false) × (s.work ≡ None) × (taken_of s ≡ None) × (is_ram s.regs.pc ≡ true) × (s.regs.pc ≡ pc)
unfolding begins
parts s pc true work taken ram a w t r h = absurd (cc (a, h))
parts s pc false (Some x) taken ram a w t r h = absurd (cc (a, w, h))
parts s pc false None (Some n) ram a w t r h = absurd (cc (a, w, t, h))
parts s pc false None None false a w t r h = absurd (cc (a, w, t, r, h))
parts s pc false None None true a w t r h = (a, w, t, r, cc)

pub begun_short : (f : Ask → ℕ) (cycle : ℕ) (s : State) (pc : ℕ) (a : Act) → begins s ≡ Some pc → asks_second (f (Half pc) % 2 ^ 16) s ≡ Ready a
    → answered f (asks s cycle) ≡ ends_with (f Lines % 2 ^ 32) cycle a
unfolding asks_awake asks_boundary asks_first
begun_short f cycle s pc a here short =
    let p = parts s pc s.asleep s.work (taken_of s) (is_ram s.regs.pc) refl refl refl refl here in
    begun_from f cycle s p.0
    ∙ ap (ends_with (f Lines % 2 ^ 32) cycle)
    (ap (λ w. answered f (asks_next w s)) p.1 ∙ ap (λ t. answered f (asks_taken t s)) p.2 ∙ ap (λ r. answered f (cond r (Question (Half s.regs.pc) (λ half. asks_second (half % 2 ^ 16) s)) (stopped (why.Outside (master_of s.number) s.regs.pc)))) p.3
    ∙ ap (λ pc. answered f (asks_second (f (Half pc) % 2 ^ 16) s)) p.4 ∙ ap (answered f) short)
