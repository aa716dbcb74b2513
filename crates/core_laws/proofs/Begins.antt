-- The first halfword that a core asks for is that of the instruction that it begins.
use Rattle.std.proofs.Common.{◌≡◌, ℕ, Bool, true, false, cond, refl, Some, None}
use Rattle.core_laws.proofs.Shared.{Option, ◌%◌, ◌^◌, Request, Spot, place_of, is_allowed, word_written, Beat, Inner, Access, Ask, Lines, Half, Asking, Ready, Question, Act, Work, in_ram, at_spot, in_beat, beat_of_work, asks_beat, is_locked, asks_fault, locks_last, asks_return, is_ram, asks_second, asks_first, taken_of, asks_taken, asks_boundary, asks_work, asks_next, asks_awake, asks, carried, State}
use Rattle.rp_base.specs.declared.map.Spot.TheVariants as spot
use Rattle.m0_core.specs.declared.doing.Doing.{Doing}
use Rattle.m0_core.specs.declared.doing.Work.TheVariants as works
use Rattle.m0_core.specs.Begins.{begins, begins_untaken, begins_between}
use Rattle.core_laws.specs.Begins.{first_half, WhatBeginsIsFetchedFirst}

-- nothing that is asked is a halfword
abbrev NoHalf : (Ask → ℕ) → Asking Act → Type 0
NoHalf f tree = (lines cycle : ℕ) → None ≡ first_half f (carried lines cycle tree)

either_none : (f : Ask → ℕ) (b : Bool) (x y : Asking Act) → NoHalf f x → NoHalf f y → NoHalf f (cond b x y)
either_none f true x y h k = h
either_none f false x y h k = k

ready_none : (f : Ask → ℕ) (a : Act) → NoHalf f (Ready a)
unfolding carried
ready_none f a lines cycle = refl

ram_none : (f : Ask → ℕ) (work : Work) (request : Request) (write : Option ℕ) → NoHalf f (in_ram work request write)
unfolding carried
ram_none f work request None lines cycle = refl
ram_none f work request (Some value) lines cycle = refl

spot_none : (f : Ask → ℕ) (work : Work) (request : Request) (s : State) (p : Spot) → NoHalf f (at_spot work request s p)
spot_none f work request s (spot.Ram index bank) = ram_none f work request request.write
spot_none f work request s (spot.Ppb offset) = either_none f (is_allowed offset (word_written request.size request.write)) _ _ (ready_none f _) (ready_none f _)
spot_none f work request s _ = ready_none f _

beat_none : (f : Ask → ℕ) (work : Work) (s : State) (b : Beat) → NoHalf f (in_beat work s b)
beat_none f work s Inner = ready_none f _
beat_none f work s (Access request) = spot_none f work request s (place_of request.address)

next_none : (f : Ask → ℕ) (work : Work) (s : State) → NoHalf f (asks_beat work s)
unfolding asks_beat
next_none f work s = beat_none f work s (beat_of_work work s)

fault_none : (f : Ask → ℕ) (s : State) → NoHalf f (asks_fault s)
fault_none f s = either_none f (is_locked s) _ _ (ready_none f _) (ready_none f _)

return_none : (f : Ask → ℕ) (value : ℕ) (s : State) → NoHalf f (asks_return value s)
unfolding asks_return
return_none f value s =
    either_none f _ _ _ (fault_none f s) (either_none f (locks_last value s) _ _ (ready_none f _) (next_none f (works.Return value) s))

work_none : (f : Ask → ℕ) (work : Work) (s : State) → NoHalf f (asks_work work s)
work_none f (works.Return value) s = return_none f value s
work_none f work s = next_none f work s

half_first : (f : Ask → ℕ) (address lines cycle : ℕ) (s : State) (then : ℕ → Asking Act) (b : Bool) (cause : Act)
    → cond b (Some address) None ≡ first_half f (carried lines cycle (cond b (Question (Half address) (λ half. then (half % 2 ^ 16))) (Ready cause)))
unfolding carried
half_first f address lines cycle s then true cause = refl
half_first f address lines cycle s then false cause = refl

fetch_first : (f : Ask → ℕ) (lines cycle : ℕ) (s : State) → begins_untaken None s ≡ first_half f (carried lines cycle (asks_first s))
unfolding asks_first
fetch_first f lines cycle s = half_first f s.regs.pc lines cycle s (λ first. asks_second first s) (is_ram s.regs.pc) _

taken_first : (f : Ask → ℕ) (lines cycle : ℕ) (s : State) (taken : Option ℕ) → begins_untaken taken s ≡ first_half f (carried lines cycle (asks_taken taken s))
taken_first f lines cycle s None = fetch_first f lines cycle s
taken_first f lines cycle s (Some n) = next_none f (works.Entry n) s lines cycle

boundary_first : (f : Ask → ℕ) (lines cycle : ℕ) (s : State) → begins_between None s ≡ first_half f (carried lines cycle (asks_boundary s))
unfolding asks_boundary
boundary_first f lines cycle s = taken_first f lines cycle s (taken_of s)

work_first : (f : Ask → ℕ) (lines cycle : ℕ) (s : State) (work : Option Work) → begins_between work s ≡ first_half f (carried lines cycle (asks_next work s))
work_first f lines cycle s None = boundary_first f lines cycle s
work_first f lines cycle s (Some work) = work_none f work s lines cycle

awake_first : (f : Ask → ℕ) (lines cycle : ℕ) (s : State) → begins_between s.work s ≡ first_half f (carried lines cycle (asks_awake s))
unfolding asks_awake
awake_first f lines cycle s = work_first f lines cycle s s.work

asleep_or : (f : Ask → ℕ) (x : Option ℕ) (b : Bool) (tree : ℕ → Asking Doing) (begun : Doing) → x ≡ first_half f (tree (f Lines)) → cond b None x ≡ first_half f (cond b (Ready begun) (Question Lines tree))
asleep_or f x true tree begun h = refl
asleep_or f x false tree begun h = h

pub what_begins_is_fetched_first : WhatBeginsIsFetchedFirst
unfolding asks begins
what_begins_is_fetched_first s cycle f = asleep_or f (begins_between s.work s) s.asleep _ _ (awake_first f (f Lines % 2 ^ 32) cycle s)
