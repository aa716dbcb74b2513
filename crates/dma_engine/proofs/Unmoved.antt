-- Where no channel can be chosen or is over, and nothing is read or written, the timers alone step; so they do in an engine that awaits
-- credits.
use Rattle.std.proofs.Common.{◌≡◌, ℕ, zero, suc, Bool, true, false, not, ◌&&◌, ◌||◌, List, [], ◌∷◌, length, map, drop, nat_eq, nat_lt, get_or, refl, ap, sym, subst, ◌∙◌, arith, Option, Some, None}
use Rattle.std.specs.Prelude.{is_none, is_some, slice_get}
use Rattle.std.specs.List.{list_all, list_any}
use Rattle.std.proofs.lemmas.Grind.{common_steps}
use Rattle.std.proofs.lemmas.Bool.{and_parts, and_right, or_parts, not-true, cond_both}
use Rattle.std.proofs.lemmas.Bool.Decides.{nat_tests}
use Rattle.lane_look.specs.declared.lane.Turn.{Turn}
use Rattle.lane_look.specs.Asking.Asking.{Ready}
use Rattle.dma_engine.specs.declared.awaited.Awaited.{Awaited}
use Rattle.dma_engine.specs.declared.awaited.Awaited.TheVariants as awaited
use Rattle.dma_engine.specs.declared.channel.Channel.{Channel}
use Rattle.dma_engine.specs.declared.begun.BegunTransfer.{BegunTransfer}
use Rattle.dma_engine.specs.declared.begun.Access.TheVariants as access
use Rattle.dma_engine.specs.declared.waiting.WaitingWrite.{WaitingWrite}
use Rattle.dma_engine.specs.declared.timer.PacingTimer.{PacingTimer}
use Rattle.dma_engine.specs.State.{State, idle_channel, channel_at}
use Rattle.dma_engine.specs.Control.{treq_of}
use Rattle.dma_engine.specs.Asks.{waits_for_counts, write_begun, next_request, asks_read, asks, begun_with, idle_begun}
use Rattle.dma_engine.specs.Choice.{is_ready_by, is_ready, choice_of}
use Rattle.dma_engine.specs.Requests.{Pace, pace_of}
use Rattle.dma_engine.specs.Requests.Pace.{Timer}
use Rattle.dma_engine.specs.Timer.{runs, gives, stepped, given_by, is_given, gets_credit, with_credit, with_stepped_timers, after_timers}
use Rattle.dma_engine.specs.Cycle.{uses_credits, word_of, word_read, is_written, after_read, after_read_of, with_read_by, with_read, after_write, after_write_of, choice_where_none, after_choice, after_transfers, next}
use Rattle.dma_engine.specs.Awaited.{lacks_credit, awaits_credit, awaits_credits, NoneMoves, Awaits}
use Rattle.dma_engine.proofs.InTurn.{after_ends-none, in_turn-all_failing}
use Rattle.dma_engine.proofs.Search.{no_choice}

-- ---- timers that give no credit

pub stands : (t : PacingTimer) → runs t ≡ false → stepped t ≡ t
stands t h = rw h refl

pub gives_off : (t : PacingTimer) → runs t ≡ false → gives t ≡ false
gives_off t h = rw h refl

pub all_stand : (ts : List PacingTimer) (f : PacingTimer → PacingTimer) → ((t : PacingTimer) → runs t ≡ false → f t ≡ t) → list_any runs ts ≡ false → map f ts ≡ ts
all_stand [] f each h = refl
all_stand (t ∷ ts) f each h =
    let both = or_parts (runs t) _ h in rw (all_stand ts f each both.1) (ap (λ x. x ∷ ts) (each t both.0))

pub none_give : (ts : List PacingTimer) → list_any runs ts ≡ false → list_any gives ts ≡ false
none_give [] h = refl
none_give (t ∷ ts) h = let both = or_parts (runs t) _ h in rw (gives_off t both.0, none_give ts both.1) refl

given_at : (ts : List PacingTimer) (k : ℕ) → list_any gives ts ≡ false → get_or (given_by ts) k false ≡ false
given_at [] k h = refl
given_at (t ∷ ts) zero h = (or_parts (gives t) _ h).0
given_at (t ∷ ts) (suc k) h = given_at ts k (or_parts (gives t) _ h).1

is_given-none : (given : List Bool) (p : Pace) → ((k : ℕ) → get_or given k false ≡ false) → is_given given p ≡ false
is_given-none given (Timer k) h = h k
is_given-none given _ h = refl

-- no channel gets one
gets_none : (s : State) → list_any gives s.timers ≡ false → (n : ℕ) → gets_credit s n ≡ false
gets_none s h n =
    and_right (channel_at n s).busy _
    (is_given-none (given_by s.timers) (pace_of (treq_of (channel_at n s))) (λ k. given_at s.timers k h))

pub next-without : (s : State) (begun : BegunTransfer) (turns : List Turn) → list_any gives s.timers ≡ false →
    next s begun turns ≡ with_stepped_timers (after_transfers s begun turns)
unfolding next after_timers
next-without s begun turns none =
    in_turn-all_failing (gets_credit s) with_credit 12 (with_stepped_timers (after_transfers s begun turns)) (λ k low. gets_none s none k)

-- a cycle that moves no transfer, where no timer runs
unmoved_by : (s : State) (begun : BegunTransfer) (turns : List Turn) → list_any runs s.timers ≡ false → after_transfers s begun turns ≡ s
    → next s begun turns ≡ s
unmoved_by s begun turns off same =
    next-without s begun turns (none_give s.timers off) ∙ ap with_stepped_timers same
    ∙ ap (λ ts. record s { timers = ts }) (all_stand s.timers stepped stands off)

-- ---- a cycle in which nothing is read or written

none_chosen : (chosen : Option ℕ) (s : State) → choice_where_none chosen None s ≡ s
none_chosen None s = refl
none_chosen (Some n) s = refl

moves_none : (s : State) (begun : BegunTransfer) (turns : List Turn) → NoneMoves begun.counts s 12 →
    after_read_of begun turns s ≡ s → after_write_of begun turns s ≡ s → after_transfers s begun turns ≡ s
unfolding after_transfers
moves_none s begun turns idle read write =
    ap (λ e. after_choice (choice_of begun.counts s) (after_write_of begun turns (after_read_of begun turns e))) (after_ends-none s idle.ends)
    ∙ ap (λ e. after_choice (choice_of begun.counts s) (after_write_of begun turns e)) read
    ∙ ap (λ e. after_choice (choice_of begun.counts s) e) write
    ∙ ap (λ o. after_choice o s) (no_choice begun.counts s idle.choice) ∙ none_chosen s.chosen s

nothing_done : (word : Option ℕ) → (word_read access.Nothing word ≡ None) × (is_written access.Nothing word ≡ false)
nothing_done None = (refl, refl)
nothing_done (Some word) = (refl, refl)

pub nothing_moves : (s : State) (begun : BegunTransfer) (turns : List Turn) →
    begun.read ≡ access.Nothing → begun.write ≡ access.Nothing → NoneMoves begun.counts s 12 → after_transfers s begun turns ≡ s
nothing_moves s begun turns read write idle =
    let told = word_of (slice_get turns 0) in
    let done = word_of (slice_get turns 1) in
    moves_none s begun turns idle
    (ap (λ a. after_read (word_read a told) s) read ∙ ap (λ w. after_read w s) (nothing_done told).0)
    (ap (λ a. after_write (is_written a done) s) write ∙ ap (λ b. after_write b s) (nothing_done done).1)

pub unmoved_cycle : (s : State) (begun : BegunTransfer) (turns : List Turn) → NoneMoves begun.counts s 12 → list_any runs s.timers ≡ false
    → begun.read ≡ access.Nothing → begun.write ≡ access.Nothing → next s begun turns ≡ s
unmoved_cycle s begun turns none off read write = unmoved_by s begun turns off (nothing_moves s begun turns read write none)

-- ---- an engine that awaits credits

record AwaitsCredits (s : State) : Type 0 where
  chosen : s.chosen ≡ None
  waiting : s.waiting ≡ []
  channels : list_all awaits_credit s.channels ≡ true

none_is : (o : Option ℕ) → is_some o ≡ false → o ≡ None
none_is None h = refl
none_is (Some n) h = absurd (cc)

empty_is : (ws : List WaitingWrite) → nat_eq (length ws) 0 ≡ true → ws ≡ []
empty_is [] h = refl
empty_is (w ∷ ws) h = absurd (grind (arith, nat_tests, common_steps))

parts : (s : State) → awaits_credits s ≡ true → AwaitsCredits s
unfolding awaits_credits
parts s h =
    let first = and_parts (is_none s.chosen) _ h in
    let others = and_parts (nat_eq (length s.waiting) 0) _ first.1 in
    record { chosen = none_is s.chosen (not-true _ first.0); waiting = empty_is s.waiting others.0; channels = others.1 }

awaits_at : (cs : List Channel) (n : ℕ) → list_all awaits_credit cs ≡ true → awaits_credit (get_or cs n idle_channel) ≡ true
awaits_at [] n h = refl
awaits_at (c ∷ cs) zero h = (and_parts (awaits_credit c) _ h).0
awaits_at (c ∷ cs) (suc n) h = awaits_at cs n (and_parts (awaits_credit c) _ h).1

none_left : (n : ℕ) → nat_eq n 0 ≡ true → nat_lt 0 n ≡ false
none_left zero h = refl
none_left (suc n) h = absurd (grind (arith, nat_tests, common_steps))

not_ready_by : (p : Pace) (treq counts : ℕ) (c : Channel) (s : State) → uses_credits p ≡ true → nat_eq c.credits 0 ≡ true →
    is_ready_by p treq counts c s ≡ false
not_ready_by (Timer k) treq counts c s h e = none_left c.credits e
not_ready_by _ treq counts c s h e = absurd (cc)

not_ready : (c : Channel) (counts : ℕ) (s : State) → lacks_credit c ≡ true → is_ready counts c s ≡ false
unfolding is_ready
not_ready c counts s h =
    let both = and_parts (uses_credits (pace_of (treq_of c))) _ h in
    not_ready_by (pace_of (treq_of c)) (treq_of c) counts c s both.0 (and_parts (not (nat_lt (treq_of c) 0x3B)) _ both.1).1

no_candidate_by : (busy left lacks ready : Bool) → (not busy || (left && lacks)) ≡ true → (lacks ≡ true → ready ≡ false) →
    (busy && (left && (true && ready))) ≡ false
no_candidate_by false left lacks ready h f = refl
no_candidate_by true false lacks ready h f = refl
no_candidate_by true true lacks ready h f = f h

not_over_by : (busy empty lacks flies : Bool) → (not busy || (not empty && lacks)) ≡ true → ((busy && empty) && not flies) ≡ false
not_over_by false empty lacks flies h = refl
not_over_by true false lacks flies h = refl
not_over_by true true lacks flies h = absurd (cc)

no_wait_by : (busy left uses fifo none : Bool) → (not busy || (left && (uses && (not fifo && none)))) ≡ true → (busy && fifo) ≡ false
no_wait_by false left uses fifo none h = refl
no_wait_by true left uses false none h = refl
no_wait_by true false uses true none h = absurd (cc)
no_wait_by true true false true none h = absurd (cc)
no_wait_by true true true true none h = absurd (cc)

none_moves : (s : State) (counts : ℕ) → AwaitsCredits s → NoneMoves counts s 12
none_moves s counts p = record {
  choice = λ n low.
      no_candidate_by (channel_at n s).busy (not (nat_eq (channel_at n s).count 0)) (lacks_credit (channel_at n s))
      (is_ready counts (channel_at n s) s) (awaits_at s.channels n p.channels) (not_ready (channel_at n s) counts s);
  ends = λ n low.
      not_over_by (channel_at n s).busy (nat_eq (channel_at n s).count 0) (lacks_credit (channel_at n s)) _ (awaits_at s.channels n p.channels);
}

none_waits : (cs : List Channel) → list_all awaits_credit cs ≡ true → list_any waits_for_counts cs ≡ false
none_waits [] h = refl
none_waits (c ∷ cs) h =
    let both = and_parts (awaits_credit c) _ h in
    let waits : waits_for_counts c ≡ false =
    no_wait_by c.busy (not (nat_eq c.count 0)) (uses_credits (pace_of (treq_of c))) (nat_lt (treq_of c) 0x3B) (nat_eq c.credits 0) both.0 in
    rw waits (none_waits cs both.1)

-- ---- what it asks

reads_none : (s : State) (counts : ℕ) → s.chosen ≡ None → s.waiting ≡ [] →
    asks_read counts s ≡ Ready (begun_with counts access.Nothing access.Nothing)
unfolding asks_read write_begun next_request
reads_none s counts chosen waiting = rw (chosen, waiting) refl

pub begins_nothing : (s : State) (counts : ℕ) → is_some s.chosen ≡ false → nat_eq (length s.waiting) 0 ≡ true →
    asks_read counts s ≡ Ready (begun_with counts access.Nothing access.Nothing)
begins_nothing s counts h e = reads_none s counts (none_is s.chosen h) (empty_is s.waiting e)

pub asks_nothing : (s : State) → awaits_credits s ≡ true → asks s ≡ Ready idle_begun
unfolding asks
asks_nothing s h = let p = parts s h in rw (none_waits s.channels p.channels) (reads_none s 0 p.chosen p.waiting)

-- ---- its cycle

none_read : (word : Option ℕ) (s : State) → s.chosen ≡ None → after_read word s ≡ s
unfolding with_read
none_read None s h = refl
none_read (Some word) s h =
    cond_both (nat_lt (length s.waiting) 2) (with_read_by word s.chosen s) s (λ x. x ≡ s) (λ e. ap (λ o. with_read_by word o s) h) (λ e. refl)

none_written : (done : Bool) (s : State) → s.waiting ≡ [] → after_write done s ≡ s
none_written true s h = ap (λ ws. record s { waiting = drop 1 ws }) h ∙ sym (ap (λ ws. record s { waiting = ws }) h)
none_written false s h = refl

no_transfer : (s : State) (begun : BegunTransfer) (turns : List Turn) → awaits_credits s ≡ true → after_transfers s begun turns ≡ s
no_transfer s begun turns h =
    let p = parts s h in
    moves_none s begun turns (none_moves s begun.counts p) (none_read _ s p.chosen) (none_written _ s p.waiting)

pub next-credits : (s : State) (begun : BegunTransfer) (turns : List Turn) → awaits_credits s ≡ true → list_any gives s.timers ≡ false →
    next s begun turns ≡ with_stepped_timers s
next-credits s begun turns h none = next-without s begun turns none ∙ ap with_stepped_timers (no_transfer s begun turns h)

pub stays-credits : (s : State) (begun : BegunTransfer) (turns : List Turn) → awaits_credits s ≡ true → list_any runs s.timers ≡ false →
    next s begun turns ≡ s
stays-credits s begun turns h off = unmoved_by s begun turns off (no_transfer s begun turns h)

-- ---- the timers alone step

-- what it awaits is the same
pub kept : (w : Awaited) (s : State) (f : PacingTimer → PacingTimer) → ((t : PacingTimer) → runs t ≡ false → f t ≡ t) → Awaits w s
    → Awaits w (record s { timers = map f s.timers })
unfolding awaits_credits
kept awaited.Nothing s f each h = tt
kept awaited.RegisterWrite s f each h = (h.0, rw (all_stand s.timers f each h.1) h.1)
kept awaited.Credit s f each h = h
kept (awaited.OtherCounts counts) s f each h =
    subst (λ ts. Awaits (awaited.OtherCounts counts) (record s { timers = ts })) (sym (all_stand s.timers f each h.1)) h

pub kept_stepped : (w : Awaited) (s : State) → Awaits w s → Awaits w (with_stepped_timers s)
kept_stepped w s h = kept w s stepped stands h

pub ruleset unmoved = (unmoved_cycle, stays-credits)

pub ruleset stepping = (next-without, next-credits, kept_stepped)
