-- One instruction of a core that runs alone over SRAM, and steps that are chained.
use Rattle.std.proofs.Common.{◌≡◌, ℕ, zero, suc, ◌+◌, ◌-◌, ◌<◌, ◌≤◌, Bool, true, false, cond, not, ◌&&◌, ◌||◌, List, [], ◌∷◌, ◌++◌, map, length, refl, sym, ap, ap₂, subst, ◌∙◌, arith, true≢false, Option, Some, None, option_to_list, ltb, ltb-true, ltb-false}
use Rattle.std.specs.List.{list_any}
use Rattle.std.proofs.lemmas.Bool.{or_parts}
use Rattle.rp_base.specs.declared.Request.{Request}
use Rattle.rp_base.specs.declared.map.Spot.{Spot}
use Rattle.rp_base.specs.declared.map.Spot.TheVariants as spot
use Rattle.rp_base.specs.declared.op.Op.{Op}
use Rattle.rp_base.specs.Map.{place_of}
use Rattle.m0_beats.specs.declared.timing.Beat.{Beat}
use Rattle.m0_beats.specs.declared.timing.Beat.TheVariants.{Inner, Access}
use Rattle.m0_beats.specs.Instructions.{beats_of, effect_of, return_of}
use Rattle.m0_nvic.specs.State.{State as Exceptions}
use Rattle.m0_nvic.specs.Cycle as nvic
use Rattle.m0_nvic.specs.Priority.{comes_before, priority_of}
use Rattle.lane_look.specs.declared.lane.Want.{Want}
use Rattle.lane_look.specs.declared.lane.Want.TheVariants as want
use Rattle.lane_look.specs.Alone.{Alone, all_stored, ends_want}
use Rattle.m0_core.specs.State.{State}
use Rattle.m0_core.specs.Kinds.{is_breakpoint, is_signal, is_undefined, is_call, awaits_event, awaits_interrupt}
use Rattle.m0_core.specs.Fetch.{taken_of, is_faulty, is_callable, is_ram_spot}
use Rattle.m0_core.specs.Cycle.{returning, called}
use Rattle.core_laws.specs.Laws.{after_cycle, after_cycles, wanted_in, wants_in, want_of_beat, want_at, reads_in, read_in, read_at, touched_at, touched_by, changed_by, exceptions_in, is_refused_at, is_refused, IsAtBoundary, IsPlain, TakesItsBeats, AnInstructionTakesItsBeats}
use Rattle.core_runs.specs.Bytes.{stored, stored_by, around}
use Rattle.core_runs.specs.Runs.{run, ends_in, given_by, givens, IsSilent, IsReady, Leads, StepsChain}
use Rattle.core_runs.specs.Instructions.{is_elsewhere, after_beat, after_beats, value_at, value_of, values_of, is_ordinary, IsRunnable, AnInstructionSteps}
use Rattle.core_runs.proofs.Silent.{a_silent_cycle_stays_silent}
use Rattle.core_runs.proofs.Chains.{a_run_alone_chains, stepped}

-- ---- steps are chained

both_go_on : (cycle n k : ℕ) (s : State) (m : List ℕ) → let r = run cycle n s m in ((i : ℕ) → i < n → ends_in cycle i s m ≡ false)
    → ((i : ℕ) → i < k → ends_in (cycle + n) i r.state r.around ≡ false) → (i : ℕ) → i < n + k → ends_in cycle i s m ≡ false
both_go_on cycle n k s m first second i h = go (ltb i n) refl
  where
    go : (b : Bool) → ltb i n ≡ b → ends_in cycle i s m ≡ false
    go true e = first i (ltb-true i n e)
    go false e =
        let le : n ≤ i = ltb-false i n e in
        let split : i ≡ n + (i - n) = omega (arith, le) in
        ap (λ j. ends_in cycle j s m) split ∙ (a_run_alone_chains cycle n (i - n) s m).ends ∙ second (i - n) (omega (arith, le, h))

pub steps_chain : StepsChain
steps_chain n k r r' r'' m m' m'' first second cycle s ready e =
    let p = first cycle s ready e in
    let q = run cycle n s m in
    let both = (a_run_alone_chains cycle n k s m).both in
    let next : Leads (cycle + n) k q.state q.around r'' m'' = subst (λ x. Leads (cycle + n) k q.state x r'' m'') (sym p.memory) (second (cycle + n) q.state p.ready p.registers) in
    record {
      goes_on = both_go_on cycle n k s m p.goes_on next.goes_on;
      ready = subst (λ (x : Alone State (List ℕ)). IsReady x.state) (sym both) next.ready;
      registers = ap (λ (x : Alone State (List ℕ)). x.state.regs) both ∙ next.registers;
      memory = ap (λ (x : Alone State (List ℕ)). x.around) both ∙ next.memory;
    }

-- ---- what is ordinary

pub record IsOrdinary (op : Op) : Type 0 where
  pub defined : is_undefined op ≡ false
  pub unbroken : is_breakpoint op ≡ false
  pub uncalled : is_call op ≡ false
  pub unsignalled : is_signal op ≡ false
  pub no_event : awaits_event op ≡ false
  pub no_interrupt : awaits_interrupt op ≡ false

not_true : (b : Bool) → not b ≡ true → b ≡ false
not_true true e = sym e
not_true false e = refl

ordinary_parts : (op : Op) → is_ordinary op ≡ true → IsOrdinary op
ordinary_parts op e =
    let a = or_parts _ _ (not_true _ e) in
    let b = or_parts _ _ a.1 in
    let c = or_parts _ _ b.1 in
    let d = or_parts _ _ c.1 in
    let f = or_parts _ _ d.1 in
    record { defined = a.0; unbroken = b.0; uncalled = c.0; unsignalled = d.0; no_event = f.0; no_interrupt = f.1 }

-- ---- beats over SRAM

granted_spot : (request : Request) (p : Spot) → not (is_ram_spot p) ≡ false → is_refused_at request p ≡ false
granted_spot request (spot.Ram index bank) h = refl
granted_spot request (spot.Ppb offset) h = absurd (true≢false h)
granted_spot request _ h = refl

granted_beat : (b : Beat) → is_elsewhere b ≡ false → is_refused b ≡ false
granted_beat Inner h = refl
granted_beat (Access request) h = granted_spot request (place_of request.address) h

all_granted : (bs : List Beat) → list_any is_elsewhere bs ≡ false → list_any is_refused bs ≡ false
all_granted [] h = refl
all_granted (b ∷ bs) h = let parts = or_parts _ _ h in ap₂ (λ x y. x || y) (granted_beat b parts.0) (all_granted bs parts.1)

ends_at_spot : (request : Request) (p : Spot) → not (is_ram_spot p) ≡ false → ends_want (want_at p request) ≡ false
ends_at_spot request (spot.Ram index bank) e = refl
ends_at_spot request _ e = absurd (true≢false e)

ends_beat : (op : Op) (b : Beat) → is_signal op ≡ false → is_elsewhere b ≡ false → ends_want (want_of_beat op b) ≡ false
ends_beat op Inner sig e = ap (λ x. ends_want (cond x want.Signal want.Nothing)) sig
ends_beat op (Access request) sig e = ends_at_spot request (place_of request.address) e

none_ends : (op : Op) (bs : List Beat) → is_signal op ≡ false → list_any is_elsewhere bs ≡ false → list_any ends_want (map (want_of_beat op) bs) ≡ false
none_ends op [] sig e = refl
none_ends op (b ∷ bs) sig e = let parts = or_parts _ _ e in ap₂ (λ x y. x || y) (ends_beat op b sig parts.0) (none_ends op bs sig parts.1)

stored_spot : (request : Request) (m : List ℕ) (p : Spot) → not (is_ram_spot p) ≡ false → stored m (want_at p request) ≡ stored_by request m
stored_spot request m (spot.Ram index bank) e = refl
stored_spot request m _ e = absurd (true≢false e)

stored_beat : (op : Op) (b : Beat) (m : List ℕ) → is_signal op ≡ false → is_elsewhere b ≡ false → stored m (want_of_beat op b) ≡ after_beat b m
stored_beat op Inner m sig e = ap (λ x. stored m (cond x want.Signal want.Nothing)) sig
stored_beat op (Access request) m sig e = stored_spot request m (place_of request.address) e

stored_beats : (op : Op) (bs : List Beat) (m : List ℕ) → is_signal op ≡ false → list_any is_elsewhere bs ≡ false → all_stored around m (map (want_of_beat op) bs) ≡ after_beats bs m
stored_beats op [] m sig e = refl
stored_beats op (b ∷ bs) m sig e =
    let parts = or_parts _ _ e in
    ap (λ x. all_stored around x (map (want_of_beat op) bs)) (stored_beat op b m sig parts.0) ∙ stored_beats op bs (after_beat b m) sig parts.1

-- ---- what is read

abbrev head_of : List Want → Want
head_of [] = want.Nothing
head_of (w ∷ ws) = w

abbrev tail_of : List Want → List Want
tail_of [] = []
tail_of (w ∷ ws) = ws

read_spot : (request : Request) (w : Option ℕ) (s : State) (m : List ℕ) (p : Spot) → not (is_ram_spot p) ≡ false → read_at p request w (given_by m) s ≡ value_at request w m
read_spot request None s m (spot.Ram index bank) e = refl
read_spot request (Some write) s m (spot.Ram index bank) e = refl
read_spot request w s m (spot.Ppb offset) e = absurd (true≢false e)
read_spot request w s m _ e = absurd (true≢false e)

read_beat : (b : Beat) (s : State) (m : List ℕ) → is_elsewhere b ≡ false → read_in b (given_by m) s ≡ value_of b m
read_beat Inner s m e = refl
read_beat (Access request) s m e = read_spot request request.write s m (place_of request.address) e

read_beats : (op : Op) (bs : List Beat) (cycle : ℕ) (s : State) (m : List ℕ) → is_signal op ≡ false → list_any is_elsewhere bs ≡ false
    → wants_in cycle (givens cycle (length bs) s m) s ≡ map (want_of_beat op) bs → reads_in cycle bs (givens cycle (length bs) s m) s ≡ values_of bs m
read_beats op [] cycle s m sig e wants = refl
read_beats op (b ∷ bs) cycle s m sig e wants =
    let parts = or_parts _ _ e in
    let u = after_cycle cycle (given_by m) s in
    let m1 = stored m (wanted_in cycle (given_by m) s) in
    let left : m1 ≡ after_beat b m = ap (λ ws. stored m (head_of ws)) wants ∙ stored_beat op b m sig parts.0 in
    ap₂ (λ v vs. option_to_list v ++ vs) (read_beat b s m parts.0) (read_beats op bs (cycle + 1) u m1 sig parts.1 (ap tail_of wants) ∙ ap (values_of bs) left)

-- ---- exceptions

touched_same : (request : Request) (e : Exceptions) (p : Spot) → not (is_ram_spot p) ≡ false → touched_at p request e ≡ e
touched_same request e (spot.Ram index bank) h = refl
touched_same request e (spot.Ppb offset) h = absurd (true≢false h)
touched_same request e _ h = refl

touched_beat : (b : Beat) (e : Exceptions) → is_elsewhere b ≡ false → touched_by b e ≡ e
touched_beat Inner e h = refl
touched_beat (Access request) e h = touched_same request e (place_of request.address) h

called_same : (op : Op) (e : Exceptions) → is_call op ≡ false → called op e ≡ e
called_same op e h = rw h refl

changed_same : (op : Op) (b : Beat) (bs : List Beat) (e : Exceptions) → is_call op ≡ false → is_elsewhere b ≡ false → changed_by op b bs e ≡ e
changed_same op b [] e call h = ap (called op) (touched_beat b e h) ∙ called_same op e call
changed_same op b (c ∷ bs) e call h = touched_beat b e h

silent_beats : (op : Op) (bs : List Beat) (cycle : ℕ) (s : State) (m : List ℕ) (e : Exceptions) → is_call op ≡ false → list_any is_elsewhere bs ≡ false → IsSilent e
    → IsSilent (exceptions_in op cycle bs (givens cycle (length bs) s m) e)
silent_beats op [] cycle s m e call h silent = silent
silent_beats op (b ∷ bs) cycle s m e call h silent =
    let parts = or_parts _ _ h in
    let after : IsSilent (nvic.after_cycle 0 cycle (changed_by op b bs e)) = subst (λ x. IsSilent (nvic.after_cycle 0 cycle x)) (sym (changed_same op b bs e call parts.0)) (a_silent_cycle_stays_silent e cycle silent).silent in
    silent_beats op bs (cycle + 1) (after_cycle cycle (given_by m) s) (stored m (wanted_in cycle (given_by m) s)) (nvic.after_cycle 0 cycle (changed_by op b bs e)) call parts.1 after

-- ---- the instruction

untaken : (s : State) → IsReady s → taken_of s ≡ None
unfolding taken_of
untaken s ready = ap (λ (b : Option ℕ). cond (comes_before s.nvic (priority_of s.nvic s.regs.primask) b) b None) ready.silent.none

at_boundary : (s : State) → IsReady s → IsAtBoundary s
at_boundary s ready = record { awake = ready.awake; between = ready.between; first = ready.first; fresh = ready.fresh; untaken = untaken s ready }

unfaulted : (op : Op) (s : State) (m : List ℕ) → IsOrdinary op → IsRunnable op s.regs m → is_faulty op s ≡ false
unfaulted op s m o can =
    ap₂ (λ x y. x || (not s.regs.t || (y || (is_call op && not (is_callable s))))) o.defined can.aligned
    ∙ ap₂ (λ x y. not x || (y && not (is_callable s))) can.thumb o.uncalled

plain : (op : Op) (s : State) (m : List ℕ) → IsRunnable op s.regs m → IsPlain op s
plain op s m can =
    let o = ordinary_parts op can.ordinary in
    record { unfaulted = unfaulted op s m o can; unbroken = o.unbroken; no_event = o.no_event; no_interrupt = o.no_interrupt }

givens_length : (cycle n : ℕ) (s : State) (m : List ℕ) → length (givens cycle n s m) ≡ n
givens_length cycle zero s m = refl
givens_length cycle (suc n) s m = ap suc (givens_length (cycle + 1) n (after_cycle cycle (given_by m) s) (stored m (wanted_in cycle (given_by m) s)))

takes : AnInstructionTakesItsBeats → (op : Op) (s : State) (m : List ℕ) (cycle n : ℕ) → IsReady s → IsRunnable op s.regs m → n ≡ length (beats_of op s.regs) → TakesItsBeats op cycle (givens cycle n s m) s
takes law op s m cycle zero ready can e = absurd (omega (arith, e, can.beats))
takes law op s m cycle (suc n) ready can e =
    let u = after_cycle cycle (given_by m) s in
    let m1 = stored m (wanted_in cycle (given_by m) s) in
    let gs = givens (cycle + 1) n u m1 in
    let at = at_boundary s ready in
    let easy = plain op s m can in
    law op s cycle (given_by m) gs at can.fetched easy (all_granted (beats_of op s.regs) can.inside)

one : AnInstructionTakesItsBeats → (op : Op) (s : State) (m : List ℕ) (cycle : ℕ) → IsReady s → IsRunnable op s.regs m
    → Leads cycle (length (beats_of op s.regs)) s m (effect_of op s.regs (values_of (beats_of op s.regs) m)) (after_beats (beats_of op s.regs) m)
one law op s m cycle ready can =
    let bs = beats_of op s.regs in
    let o = ordinary_parts op can.ordinary in
    let gs = givens cycle (length bs) s m in
    let count = givens_length cycle (length bs) s m in
    let all = takes law op s m cycle (length bs) ready can refl in
    let wants = all.wants count in
    let ends : list_any ends_want (wants_in cycle gs s) ≡ false = ap (list_any ends_want) wants ∙ none_ends op bs o.unsignalled can.inside in
    let runs = stepped cycle (length bs) s m ends in
    let over = all.over count in
    let reads : reads_in cycle bs gs s ≡ values_of bs m = read_beats op bs cycle s m o.unsignalled can.inside wants in
    let few : length gs ≤ length bs = omega (arith, count) in
    let silent : IsSilent (after_cycles cycle gs s).nvic = subst IsSilent (sym (all.exceptions few)) (silent_beats op bs cycle s m s.nvic o.uncalled can.inside ready.silent) in
    let between = over.then_returns ∙ ap (λ vs. returning (return_of op s.regs vs)) reads ∙ ap returning can.stays in
    record {
      goes_on = runs.goes_on;
      ready = subst IsReady (sym runs.core) (record { awake = over.awake; between = between; first = over.first; fresh = over.fresh; silent = silent });
      registers = ap (λ (t : State). t.regs) runs.core ∙ over.effect ∙ ap (effect_of op s.regs) reads;
      memory = runs.memory ∙ ap (all_stored around m) wants ∙ stored_beats op bs m o.unsignalled can.inside;
    }

pub an_instruction_steps : AnInstructionTakesItsBeats → AnInstructionSteps
an_instruction_steps law op r m can cycle s ready e =
    subst (λ x. IsRunnable op x m → Leads cycle (length (beats_of op x)) s m (effect_of op x (values_of (beats_of op x) m)) (after_beats (beats_of op x) m)) e (one law op s m cycle ready) can
