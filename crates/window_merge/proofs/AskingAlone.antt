-- The peripherals that run alone ask the same in each cycle, and their run never ends early.
use Rattle.window_merge.proofs.Shared.{Ask, List, Questions, SeenOutputs, Setting, alone, alone_length, answer_of, ap, around, asking_lane, begun_alone, ends_at, least, peripheral_lane, questions, questions_of, refl, suc, sym, zero, ℕ, ◌++◌, ◌+◌, ◌∙◌, ◌≡◌, arith}
use Rattle.lane_look.specs.Replay.{Entry, asked}
use Rattle.outer_lane.specs.State.{State as OuterState}
use Rattle.outer_lane.specs.Step.{next_by, next, pads_by, asks_second, asks}
use Rattle.rp_machine.specs.State.{State}

-- a cycle changes no function of a pin
uses_same : (w : Setting) (s : OuterState) (seen : SeenOutputs) → questions_of (next w s seen) ≡ questions_of s
unfolding next next_by pads_by
uses_same w s seen = refl

asked_same : (f : Ask → ℕ) (s : OuterState) (cycle : ℕ) → asked f (asks s cycle) ≡ asked f (questions (questions_of s))
unfolding asks asks_second
asked_same f s cycle = grind arith

-- after so many cycles
record AsksSame (w : Setting) (lane : ℕ) (before : OuterState) (start : ℕ) (s : State) (k : ℕ) : Type 0 where
  uses : questions_of (alone (peripheral_lane w) (around lane) tt before start s k).state ≡ questions_of before
  round : (alone (peripheral_lane w) (around lane) tt before start s k).around ≡ s
  asking : (alone asking_lane (around lane) tt (questions_of before) start s k).state ≡ questions_of before
  asking_round : (alone asking_lane (around lane) tt (questions_of before) start s k).around ≡ s
  same_talk : (alone (peripheral_lane w) (around lane) tt before start s k).talk ≡ (alone asking_lane (around lane) tt (questions_of before) start s k).talk

asks_same : (w : Setting) (lane : ℕ) (before : OuterState) (start : ℕ) (s : State) (k : ℕ) → AsksSame w lane before start s k
unfolding alone
asks_same w lane before start s zero = record { uses = refl; round = refl; asking = refl; asking_round = refl; same_talk = refl }
asks_same w lane before start s (suc k) =
    let h = asks_same w lane before start s k in
    let a = alone (peripheral_lane w) (around lane) tt before start s k in
    let b = alone asking_lane (around lane) tt (questions_of before) start s k in
    let more : asked (answer_of lane a.around) (asks a.state (start + k)) ≡ asked (answer_of lane b.around) (questions b.state) =
    ap (λ (x : State). asked (answer_of lane x) (asks a.state (start + k))) (h.round ∙ sym h.asking_round)
    ∙ asked_same (answer_of lane b.around) a.state (start + k)
    ∙ ap (λ (q : Questions). asked (answer_of lane b.around) (questions q)) (h.uses ∙ sym h.asking) in
    record {
      uses = uses_same w a.state (begun_alone (peripheral_lane w) (around lane) tt (start + k) a.state a.around) ∙ h.uses;
      round = h.round;
      asking = h.asking;
      asking_round = h.asking_round;
      same_talk = ap (λ (l : List Entry). l ++ asked (answer_of lane a.around) (asks a.state (start + k))) h.same_talk
          ∙ ap (λ (l : List Entry). b.talk ++ l) more;
    }

pub talk_same : (w : Setting) (lane : ℕ) (before : OuterState) (start : ℕ) (s : State) (k : ℕ)
    → (alone asking_lane (around lane) tt (questions_of before) start s k).talk ≡ (alone (peripheral_lane w) (around lane) tt before start s k).talk
talk_same w lane before start s k = sym (asks_same w lane before start s k).same_talk

pub length_asking : (w : Setting) (lane : ℕ) (before : OuterState) (start : ℕ) (s : State) (bound : ℕ)
    → alone_length asking_lane (around lane) tt (questions_of before) start s bound ≡ alone_length (peripheral_lane w) (around lane) tt before start s bound
unfolding alone_length least ends_at
length_asking w lane before start s bound = search arith
