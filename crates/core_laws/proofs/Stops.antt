-- A core stops at its causes, and where it stops there is one.
use Rattle.std.proofs.Common.{◌≡◌, ℕ, ◌+◌, ◌-◌, ◌%◌, ◌^◌, ◌==◌, ◌&&◌, Bool, true, false, cond, refl, sym, ap, ap₂, subst, ◌∙◌, true≢false, Option, Some, None}
use Rattle.core_laws.proofs.Shared.{slice_index, nat_lt, Request, Why, Spot, Op, master_of, word_written, place_of, begins_long, operation_of, Beat, Inner, Access, is_allowed, Ask, Lines, Half, Want, Asking, answered, Ready, Question, Act, Work, is_breakpoint, stopped, asks, asks_awake, asks_next, asks_boundary, asks_taken, asks_first, asks_half, asks_second, asks_decoded, asks_fault, asks_beat, asks_return, asks_work, beat_of_work, in_beat, in_ram, at_spot, locks_last, carried, ends_with, is_ram, is_faulty, is_locked, taken_of, signals, want_of, want_of_act, is_bad, is_misfit, return_beat, unstacking, State, Given, wanted_in, is_stop, half_at, IsEncoded, and_parts, eqb-true}
use Rattle.rp_base.specs.declared.Why.TheVariants as why
use Rattle.rp_base.specs.declared.map.Spot.TheVariants as spot
use Rattle.lane_look.specs.declared.lane.Want.TheVariants as want
use Rattle.m0_core.specs.declared.doing.Act.TheVariants as act
use Rattle.m0_core.specs.declared.doing.Work.TheVariants as works
use Rattle.core_laws.specs.Stops.{IsBetween, IsDecoded, HasBeat, HasAccess, StopsBy, ACoreStopsAtItsCauses}
use Rattle.core_laws.specs.Stops.HasBeat.{begins, enters, goes_on}
use Rattle.core_laws.specs.Stops.StopsBy.{breakpoint, fault, bad_return, misfit_return, fetch, second_fetch, refused}
use Rattle.core_laws.proofs.Cycles.{begun_awake}
use Rattle.core_laws.proofs.TakesBeats.{begins_first}

-- what a tree of questions comes to, where these are the answers
abbrev wants : (Ask → ℕ) → Asking Act → Want
wants f tree = want_of_act (answered f tree)

-- what stops is no other want
otherwise : {A : Type 0} (w : Want) (c : Why) → is_stop w ≡ false → w ≡ want.Stopped c → A
otherwise w c e h = absurd (true≢false (sym (ap is_stop h) ∙ e))

abbrev cause_in : Want → Why
cause_in (want.Stopped c) = c
cause_in _ = why.Bkpt 0

-- a stop has one cause
is_by : (f : Ask → ℕ) (s : State) (a b : Why) → want.Stopped a ≡ want.Stopped b → StopsBy f s a → StopsBy f s b
is_by f s a b h by = subst (λ c. StopsBy f s c) (ap cause_in h) by

-- ---- where a core stops, there is a cause

spot_by : (f : Ask → ℕ) (s : State) (c : Why) (work : Work) (request : Request) (p : Spot) → HasAccess f s request → place_of request.address ≡ p
    → wants f (at_spot work request s p) ≡ want.Stopped c → StopsBy f s c
spot_by f s c work request (spot.Ram index bank) has at h = go request.write h
  where
    go : (w : Option ℕ) → wants f (in_ram work request w) ≡ want.Stopped c → StopsBy f s c
    go None h = otherwise _ c refl h
    go (Some v) h = otherwise _ c refl h
spot_by f s c work request (spot.Ppb offset) has at h = go (is_allowed offset (word_written request.size request.write)) refl h
  where
    go : (b : Bool) → is_allowed offset (word_written request.size request.write) ≡ b
        → wants f (cond b (Ready (act.Private work request offset)) (stopped (why.Outside (master_of s.number) request.address))) ≡ want.Stopped c → StopsBy f s c
    go true e h = otherwise _ c refl h
    go false e h = is_by f s _ c h (refused request offset has at e)
spot_by f s c work request _ has at h = otherwise _ c refl h

signal_goes : (b : Bool) → is_stop (cond b want.Signal want.Nothing) ≡ false
signal_goes true = refl
signal_goes false = refl

beat_by : (f : Ask → ℕ) (s : State) (c : Why) (work : Work) (b : Beat) → HasBeat f s work → beat_of_work work s ≡ b
    → wants f (in_beat work s b) ≡ want.Stopped c → StopsBy f s c
beat_by f s c work Inner has at h = otherwise _ c (signal_goes (signals work)) h
beat_by f s c work (Access request) has at h = spot_by f s c work request (place_of request.address) (work, has, at) refl h

work_by : (f : Ask → ℕ) (s : State) (c : Why) (work : Work) → HasBeat f s work → wants f (asks_beat work s) ≡ want.Stopped c → StopsBy f s c
unfolding asks_beat
work_by f s c work has h = beat_by f s c work (beat_of_work work s) has refl h

fault_by : (f : Ask → ℕ) (s : State) (c : Why) → (is_locked s ≡ true → StopsBy f s (why.Lockup s.number)) → wants f (asks_fault s) ≡ want.Stopped c → StopsBy f s c
fault_by f s c by h = go (is_locked s) refl h
  where
    go : (b : Bool) → is_locked s ≡ b → wants f (cond b (stopped (why.Lockup s.number)) (Ready act.Fault)) ≡ want.Stopped c → StopsBy f s c
    go true e h = is_by f s _ c h (by e)
    go false e h = otherwise _ c refl h

decoded_by : (f : Ask → ℕ) (s : State) (c : Why) (op : Op) → IsDecoded f s op → wants f (asks_decoded op s) ≡ want.Stopped c → StopsBy f s c
unfolding asks_decoded
decoded_by f s c op is h = go (is_breakpoint op) refl h
  where
    faulty : (b : Bool) → is_breakpoint op ≡ false → is_faulty op s ≡ b → wants f (cond b (asks_fault s) (asks_beat (works.Instruction op) s)) ≡ want.Stopped c → StopsBy f s c
    faulty true n e h = fault_by f s c (λ locked. fault op is n e locked) h
    faulty false n e h = work_by f s c (works.Instruction op) (begins op is n e) h

    go : (b : Bool) → is_breakpoint op ≡ b → wants f (cond b (stopped (why.Bkpt s.number)) (cond (is_faulty op s) (asks_fault s) (asks_beat (works.Instruction op) s))) ≡ want.Stopped c → StopsBy f s c
    go true e h = is_by f s _ c h (breakpoint op is e)
    go false e h = faulty (is_faulty op s) e refl h

long_by : (f : Ask → ℕ) (s : State) (c : Why) (b : Bool) → IsBetween s → is_ram s.regs.pc ≡ true → begins_long (half_at f s.regs.pc) ≡ true
    → is_ram ((s.regs.pc + 2) % 2 ^ 32) ≡ b
    → wants f (cond b (Question (Half ((s.regs.pc + 2) % 2 ^ 32)) (λ half. asks_decoded (operation_of (half_at f s.regs.pc) (half % 2 ^ 16)) s))
    (stopped (why.Outside (master_of s.number) ((s.regs.pc + 2) % 2 ^ 32)))) ≡ want.Stopped c → StopsBy f s c
long_by f s c true between ram long e h =
    decoded_by f s c (operation_of (half_at f s.regs.pc) (half_at f ((s.regs.pc + 2) % 2 ^ 32)))
    (between, (ram, subst (λ b. IsEncoded b f s.regs.pc (operation_of (half_at f s.regs.pc) (half_at f ((s.regs.pc + 2) % 2 ^ 32)))) (sym long) (e, refl))) h
long_by f s c false between ram long e h = is_by f s _ c h (second_fetch between ram long e)

second_by : (f : Ask → ℕ) (s : State) (c : Why) → IsBetween s → is_ram s.regs.pc ≡ true → wants f (asks_second (half_at f s.regs.pc) s) ≡ want.Stopped c → StopsBy f s c
unfolding asks_second
second_by f s c between ram h = go (begins_long (half_at f s.regs.pc)) refl h
  where
    go : (b : Bool) → begins_long (half_at f s.regs.pc) ≡ b
        → wants f (cond b (asks_half ((s.regs.pc + 2) % 2 ^ 32) s (λ second. asks_decoded (operation_of (half_at f s.regs.pc) second) s))
        (asks_decoded (operation_of (half_at f s.regs.pc) 0) s)) ≡ want.Stopped c → StopsBy f s c
    go true e h = long_by f s c (is_ram ((s.regs.pc + 2) % 2 ^ 32)) between ram e refl h
    go false e h =
        decoded_by f s c (operation_of (half_at f s.regs.pc) 0)
        (between, (ram, subst (λ b. IsEncoded b f s.regs.pc (operation_of (half_at f s.regs.pc) 0)) (sym e) refl)) h

first_by : (f : Ask → ℕ) (s : State) (c : Why) → IsBetween s → wants f (asks_first s) ≡ want.Stopped c → StopsBy f s c
unfolding asks_first
first_by f s c between h = go (is_ram s.regs.pc) refl h
  where
    go : (b : Bool) → is_ram s.regs.pc ≡ b
        → wants f (cond b (Question (Half s.regs.pc) (λ half. asks_second (half % 2 ^ 16) s)) (stopped (why.Outside (master_of s.number) s.regs.pc))) ≡ want.Stopped c
        → StopsBy f s c
    go true e h = second_by f s c between e h
    go false e h = is_by f s _ c h (fetch between e)

taken_by : (f : Ask → ℕ) (s : State) (c : Why) (t : Option ℕ) → s.work ≡ None → taken_of s ≡ t → wants f (asks_taken t s) ≡ want.Stopped c → StopsBy f s c
taken_by f s c None none e h = first_by f s c (none, e) h
taken_by f s c (Some n) none e h = work_by f s c (works.Entry n) (enters n none e) h

return_by : (f : Ask → ℕ) (s : State) (c : Why) (value : ℕ) → s.work ≡ Some (works.Return value) → wants f (asks_return value s) ≡ want.Stopped c → StopsBy f s c
unfolding asks_return
return_by f s c value e h = go (s.beats_done == 0 && is_bad value s) refl h
  where
    last : (b : Bool) → locks_last value s ≡ b → wants f (cond b (stopped (why.Lockup s.number)) (asks_beat (works.Return value) s)) ≡ want.Stopped c → StopsBy f s c
    last true l h =
        is_by f s _ c h
        (misfit_return value e (eqb-true s.beats_done 12 (and_parts (s.beats_done == 12) _ l).0)
        (and_parts (is_misfit value (slice_index s.read 7)) (is_locked s) (and_parts (s.beats_done == 12) _ l).1).0
        (and_parts (is_misfit value (slice_index s.read 7)) (is_locked s) (and_parts (s.beats_done == 12) _ l).1).1)
    last false l h = work_by f s c (works.Return value) (goes_on (works.Return value) e) h

    go : (b : Bool) → (s.beats_done == 0 && is_bad value s) ≡ b
        → wants f (cond b (asks_fault s) (cond (locks_last value s) (stopped (why.Lockup s.number)) (asks_beat (works.Return value) s))) ≡ want.Stopped c
        → StopsBy f s c
    go true b h =
        fault_by f s c
        (λ locked. bad_return value e (eqb-true s.beats_done 0 (and_parts (s.beats_done == 0) _ b).0) (and_parts (s.beats_done == 0) _ b).1 locked) h
    go false b h = last (locks_last value s) refl h

next_by : (f : Ask → ℕ) (s : State) (c : Why) (w : Option Work) → s.work ≡ w → wants f (asks_next w s) ≡ want.Stopped c → StopsBy f s c
unfolding asks_boundary
next_by f s c None e h = taken_by f s c (taken_of s) e refl h
next_by f s c (Some (works.Return value)) e h = return_by f s c value e h
next_by f s c (Some work) e h = work_by f s c work (goes_on work e) h

awake_by : (f : Ask → ℕ) (s : State) (c : Why) → wants f (asks_awake s) ≡ want.Stopped c → StopsBy f s c
unfolding asks_awake
awake_by f s c h = next_by f s c s.work refl h

wanted_awake : (g : Given) (cycle : ℕ) (s : State) → s.asleep ≡ false → wanted_in cycle g s ≡ wants g.answers (asks_awake s)
wanted_awake g cycle s awake = ap want_of (begun_awake g cycle s awake)

asleep_wants : (g : Given) (cycle : ℕ) (s : State) → s.asleep ≡ true → wanted_in cycle g s ≡ want.Nothing
unfolding asks
asleep_wants g cycle s e =
    ap (λ b. want_of (answered g.answers (cond b (Ready (ends_with 0 cycle act.Asleep)) (Question Lines (λ lines. carried (lines % 2 ^ 32) cycle (asks_awake s)))))) e

is_awake : (g : Given) (cycle : ℕ) (s : State) (c : Why) (b : Bool) → s.asleep ≡ b → wanted_in cycle g s ≡ want.Stopped c → s.asleep ≡ false
is_awake g cycle s c true e h = otherwise (wanted_in cycle g s) c (ap is_stop (asleep_wants g cycle s e)) h
is_awake g cycle s c false e h = e

-- ---- where there is a cause, a core stops

on_boundary : (f : Ask → ℕ) (s : State) → IsBetween s → wants f (asks_awake s) ≡ wants f (asks_first s)
unfolding asks_awake asks_boundary
on_boundary f s between = ap (λ w. wants f (asks_next w s)) between.0 ∙ ap (λ t. wants f (asks_taken t s)) between.1

on_taken : (f : Ask → ℕ) (s : State) (n : ℕ) → s.work ≡ None → taken_of s ≡ Some n → wants f (asks_awake s) ≡ wants f (asks_beat (works.Entry n) s)
unfolding asks_awake asks_boundary
on_taken f s n none e = ap (λ w. wants f (asks_next w s)) none ∙ ap (λ t. wants f (asks_taken t s)) e

on_work : (f : Ask → ℕ) (s : State) (work : Work) → s.work ≡ Some work → wants f (asks_awake s) ≡ wants f (asks_work work s)
unfolding asks_awake
on_work f s work e = ap (λ w. wants f (asks_next w s)) e

abbrev given : (Ask → ℕ) → Given
given f = record { answers = f; word = 0 }

on_decoded : (f : Ask → ℕ) (s : State) (op : Op) → IsDecoded f s op → wants f (asks_awake s) ≡ wants f (asks_decoded op s)
on_decoded f s op is = on_boundary f s is.0 ∙ ap want_of_act (begins_first op (given f) s is.1)

on_break : (f : Ask → ℕ) (s : State) (op : Op) (b : Bool) → is_breakpoint op ≡ b
    → wants f (asks_decoded op s) ≡ wants f (cond b (stopped (why.Bkpt s.number)) (cond (is_faulty op s) (asks_fault s) (asks_beat (works.Instruction op) s)))
unfolding asks_decoded
on_break f s op b e =
    ap (λ x. wants f (cond x (stopped (why.Bkpt s.number)) (cond (is_faulty op s) (asks_fault s) (asks_beat (works.Instruction op) s)))) e

on_faulty : (f : Ask → ℕ) (s : State) (op : Op) (b : Bool) → is_breakpoint op ≡ false → is_faulty op s ≡ b
    → wants f (asks_decoded op s) ≡ wants f (cond b (asks_fault s) (asks_beat (works.Instruction op) s))
on_faulty f s op b n e = on_break f s op false n ∙ ap (λ x. wants f (cond x (asks_fault s) (asks_beat (works.Instruction op) s))) e

on_locked : (f : Ask → ℕ) (s : State) → is_locked s ≡ true → wants f (asks_fault s) ≡ want.Stopped (why.Lockup s.number)
on_locked f s e = ap (λ b. wants f (cond b (stopped (why.Lockup s.number)) (Ready act.Fault))) e

on_first : (f : Ask → ℕ) (s : State) (b : Bool) → is_ram s.regs.pc ≡ b
    → wants f (asks_first s) ≡ wants f (cond b (Question (Half s.regs.pc) (λ half. asks_second (half % 2 ^ 16) s)) (stopped (why.Outside (master_of s.number) s.regs.pc)))
unfolding asks_first
on_first f s b e =
    ap (λ x. wants f (cond x (Question (Half s.regs.pc) (λ half. asks_second (half % 2 ^ 16) s)) (stopped (why.Outside (master_of s.number) s.regs.pc)))) e

on_second : (f : Ask → ℕ) (s : State) → begins_long (half_at f s.regs.pc) ≡ true → is_ram ((s.regs.pc + 2) % 2 ^ 32) ≡ false
    → wants f (asks_second (half_at f s.regs.pc) s) ≡ want.Stopped (why.Outside (master_of s.number) ((s.regs.pc + 2) % 2 ^ 32))
unfolding asks_second
on_second f s long e =
    ap (λ b. wants f (cond b (asks_half ((s.regs.pc + 2) % 2 ^ 32) s (λ second. asks_decoded (operation_of (half_at f s.regs.pc) second) s))
    (asks_decoded (operation_of (half_at f s.regs.pc) 0) s))) long
    ∙ ap (λ b. wants f (cond b (Question (Half ((s.regs.pc + 2) % 2 ^ 32)) (λ half. asks_decoded (operation_of (half_at f s.regs.pc) (half % 2 ^ 16)) s))
    (stopped (why.Outside (master_of s.number) ((s.regs.pc + 2) % 2 ^ 32))))) e

on_return : (f : Ask → ℕ) (s : State) (value : ℕ) (b l : Bool) → (s.beats_done == 0 && is_bad value s) ≡ b → locks_last value s ≡ l
    → wants f (asks_return value s) ≡ wants f (cond b (asks_fault s) (cond l (stopped (why.Lockup s.number)) (asks_beat (works.Return value) s)))
unfolding asks_return
on_return f s value b l e h =
    ap₂ (λ x y. wants f (cond x (asks_fault s) (cond y (stopped (why.Lockup s.number)) (asks_beat (works.Return value) s)))) e h

-- a beat of a return with an access is neither the first nor the last
no_access : {A : Type 0} (request : Request) → Inner ≡ Access request → A
no_access request h = absurd (cc)

not_first : (s : State) (value : ℕ) (request : Request) (b : Bool) → (s.beats_done == 0) ≡ b → return_beat value s ≡ Access request → (b && is_bad value s) ≡ false
unfolding return_beat
not_first s value request true e h =
    no_access request (sym (ap (λ x. cond x Inner (cond (nat_lt s.beats_done 9) (unstacking value (s.beats_done - 1) s.regs) Inner)) e) ∙ h)
not_first s value request false e h = refl

not_last : (s : State) (value : ℕ) (request : Request) (b : Bool) → (s.beats_done == 12) ≡ b → return_beat value s ≡ Access request
    → (b && (is_misfit value (slice_index s.read 7) && is_locked s)) ≡ false
unfolding return_beat
not_last s value request true e h =
    no_access request (sym (ap (λ (k : ℕ). cond (k == 0) Inner (cond (nat_lt k 9) (unstacking value (k - 1) s.regs) Inner)) (eqb-true s.beats_done 12 e)) ∙ h)
not_last s value request false e h = refl

on_any : (f : Ask → ℕ) (s : State) (work : Work) (request : Request) → s.work ≡ Some work → beat_of_work work s ≡ Access request
    → wants f (asks_awake s) ≡ wants f (asks_beat work s)
on_any f s (works.Return value) request e at =
    on_work f s (works.Return value) e
    ∙ on_return f s value false false (not_first s value request (s.beats_done == 0) refl at) (not_last s value request (s.beats_done == 12) refl at)
on_any f s work request e at = on_work f s work e

on_beat : (f : Ask → ℕ) (s : State) (work : Work) (request : Request) → HasBeat f s work → beat_of_work work s ≡ Access request
    → wants f (asks_awake s) ≡ wants f (asks_beat work s)
on_beat f s work request (begins op is n e) at = on_decoded f s op is ∙ on_faulty f s op false n e
on_beat f s work request (enters n none e) at = on_taken f s n none e
on_beat f s work request (goes_on w e) at = on_any f s w request e at

to_spot : (f : Ask → ℕ) (s : State) (work : Work) (request : Request) (p : Spot) → beat_of_work work s ≡ Access request → place_of request.address ≡ p
    → wants f (asks_beat work s) ≡ wants f (at_spot work request s p)
unfolding asks_beat
to_spot f s work request p at e = ap (λ b. wants f (in_beat work s b)) at ∙ ap (λ q. wants f (at_spot work request s q)) e

on_access : (f : Ask → ℕ) (s : State) (request : Request) (p : Spot) (has : HasAccess f s request) → place_of request.address ≡ p
    → wants f (asks_awake s) ≡ wants f (at_spot has.0 request s p)
on_access f s request p has e = on_beat f s has.0 request has.1 has.2 ∙ to_spot f s has.0 request p has.2 e

stops_by : (f : Ask → ℕ) (s : State) (c : Why) → StopsBy f s c → wants f (asks_awake s) ≡ want.Stopped c
stops_by f s c (breakpoint op is e) = on_decoded f s op is ∙ on_break f s op true e
stops_by f s c (fault op is n e locked) = on_decoded f s op is ∙ on_faulty f s op true n e ∙ on_locked f s locked
stops_by f s c (bad_return value e first bad locked) =
    on_work f s (works.Return value) e
    ∙ on_return f s value true (locks_last value s) (ap₂ (λ (k : ℕ) b. (k == 0) && b) first bad) refl
    ∙ on_locked f s locked
stops_by f s c (misfit_return value e last misfit locked) =
    on_work f s (works.Return value) e
    ∙ on_return f s value false true (ap (λ (k : ℕ). (k == 0) && is_bad value s) last)
    (ap (λ (k : ℕ). (k == 12) && (is_misfit value (slice_index s.read 7) && is_locked s)) last ∙ ap₂ (λ x y. x && y) misfit locked)
stops_by f s c (fetch between e) = on_boundary f s between ∙ on_first f s false e
stops_by f s c (second_fetch between ram long e) = on_boundary f s between ∙ on_first f s true ram ∙ on_second f s long e
stops_by f s c (refused request offset has at e) =
    on_access f s request (spot.Ppb offset) has at
    ∙ ap (λ b. wants f (cond b (Ready (act.Private has.0 request offset)) (stopped (why.Outside (master_of s.number) request.address)))) e

pub a_core_stops_at_its_causes : ACoreStopsAtItsCauses
a_core_stops_at_its_causes s cycle g = record {
  stops = λ awake c by. wanted_awake g cycle s awake ∙ stops_by g.answers s c by;
  awake = λ c h. is_awake g cycle s c s.asleep refl h;
  nothing_else = λ c h. awake_by g.answers s c (sym (wanted_awake g cycle s (is_awake g cycle s c s.asleep refl h)) ∙ h);
  outwards = λ awake request has e. wanted_awake g cycle s awake ∙ on_access g.answers s request spot.Outside has e;
}
