-- Cycles without a stop and without events, one after another.
use Rattle.std.proofs.Common.{◌≡◌, ℕ, zero, suc, ◌+◌, ◌<◌, ◌≤◌, Bool, true, false, List, [], ◌∷◌, if◌then◌else◌, None, refl, sym, ap, ◌∙◌, arith}
use Rattle.std.specs.Int.Bits.{xor_self}
use Rattle.rp_machine.proofs.Shared.{Ask, Asking, Mark, Question, Ready, SeenOutputs, Setting, State, answer_of, answered, begun, events, events_of, next, outs_of, seen_in, states, stop}
use Rattle.lane_look.specs.declared.lane.Ask.TheVariants as ask
use Rattle.io_bank.specs.Levels.{is_used}
use Rattle.outer_lane.specs.State.{State as OuterState}
use Rattle.outer_lane.specs.Step.{asks, asks_second, seen_of, pins_in, no_pins}
use Rattle.rp_machine.proofs.Runs.{states_on}

-- ---- states that follow each other without a stop and without events

pub record RunsThrough (w : Setting) (at : ℕ → State) (n : ℕ) : Type 0 where
  pub stop : (k : ℕ) → k < n → stop w (at k) ≡ None
  pub next : (k : ℕ) → k < n → next w (at k) ≡ at (suc k)
  pub events : (k : ℕ) → k < n → events w (at k) ≡ []

pub fewer : (w : Setting) (at : ℕ → State) (n k : ℕ) → k ≤ n → RunsThrough w at n → RunsThrough w at k
fewer w at n k le h = record {
  stop = λ i lt. h.stop i (omega arith);
  next = λ i lt. h.next i (omega arith);
  events = λ i lt. h.events i (omega arith);
}

states_from : (w : Setting) (at : ℕ → State) (m c n : ℕ) → RunsThrough w at m → c + n ≤ m → states w (at c) n ≡ at (c + n)
unfolding states
states_from w at m c zero h le = ap at (omega arith)
states_from w at m c (suc n) h le =
    states_on w (at c) n (h.stop c (omega arith))
    ∙ ap (λ (s : State). states w s n) (h.next c (omega arith))
    ∙ states_from w at m (suc c) n h (omega arith)
    ∙ ap at (omega arith)

pub states_through : (w : Setting) (at : ℕ → State) (n : ℕ) → RunsThrough w at n → states w (at 0) n ≡ at n
states_through w at n h = states_from w at n 0 n h (omega arith) ∙ ap at (omega arith)

-- ---- a mark of no byte and of the levels before it tells no event

pub no_events : (cycle before : ℕ) (mark : Mark) → mark ≡ record { uart = None ∷ None ∷ []; pads = before } → events_of cycle before mark ≡ []
unfolding events_of
no_events cycle before mark h = rw (h, xor_self before) refl

-- ---- what the peripherals begin, where the pads and the outputs of PIO stay

abbrev second_by : Bool → ℕ → List ℕ → Asking SeenOutputs
second_by second cycle first =
    if second then Question (ask.Outs 1) (λ answer. Ready (seen_of cycle first (pins_in answer))) else Ready (seen_of cycle first no_pins)

abbrev asks_by : Bool → Bool → ℕ → Asking SeenOutputs
asks_by first second cycle =
    if first then Question (ask.Outs 0) (λ answer. second_by second cycle (pins_in answer)) else second_by second cycle no_pins

asks_are : (o : OuterState) (cycle : ℕ) → asks o cycle ≡ asks_by (is_used 6 o.pads) (is_used 7 o.pads) cycle
unfolding asks asks_second
asks_are o cycle = refl

answered_later : (f g : Ask → ℕ) (first second : Bool) (c d : ℕ) → g (ask.Outs 0) ≡ f (ask.Outs 0) → g (ask.Outs 1) ≡ f (ask.Outs 1)
    → answered g (asks_by first second d) ≡ seen_in (answered f (asks_by first second c)) d
answered_later f g true true c d e0 e1 = ap (λ (x : ℕ). seen_of d (pins_in x) (pins_in (g (ask.Outs 1)))) e0 ∙ ap (λ (x : ℕ). seen_of d (pins_in (f (ask.Outs 0))) (pins_in x)) e1
answered_later f g true false c d e0 e1 = ap (λ (x : ℕ). seen_of d (pins_in x) no_pins) e0
answered_later f g false true c d e0 e1 = ap (λ (x : ℕ). seen_of d no_pins (pins_in x)) e1
answered_later f g false false c d e0 e1 = refl

-- what is begun in a state is what was begun in another, but for the number of the cycle
pub seen_later : (s t : State) → t.outer.pads ≡ s.outer.pads → ((block : ℕ) → outs_of block t ≡ outs_of block s) → (begun t).outer ≡ seen_in (begun s).outer t.cycle
unfolding begun
seen_later s t pads outs =
    ap (λ tree. answered (answer_of 5 t) tree) (asks_are t.outer t.cycle)
    ∙ ap (λ p. answered (answer_of 5 t) (asks_by (is_used 6 p) (is_used 7 p) t.cycle)) pads
    ∙ answered_later (answer_of 5 s) (answer_of 5 t) (is_used 6 s.outer.pads) (is_used 7 s.outer.pads) s.cycle t.cycle
    (outs 0) (outs 1)
    ∙ ap (λ tree. seen_in (answered (answer_of 5 s) tree) t.cycle) (sym (asks_are s.outer s.cycle))

seen_first : (f : Ask → ℕ) (first second : Bool) (c : ℕ) (tree : Asking SeenOutputs) → tree ≡ asks_by first second c → (answered f tree).cycle ≡ c
seen_first f true true c tree e = rw e refl
seen_first f true false c tree e = rw e refl
seen_first f false true c tree e = rw e refl
seen_first f false false c tree e = rw e refl

pub seen_number : (s : State) → (begun s).outer.cycle ≡ s.cycle
unfolding begun
seen_number s = seen_first (answer_of 5 s) (is_used 6 s.outer.pads) (is_used 7 s.outer.pads) s.cycle (asks s.outer s.cycle) (asks_are s.outer s.cycle)
