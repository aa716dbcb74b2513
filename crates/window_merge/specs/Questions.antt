-- What the peripherals ask in each cycle of their run alone, whatever the script and the device do. The project's own.
use Rattle.std.specs.Prelude.{ℕ, suc, if◌then◌else◌, List, [], ◌∷◌, None}
use Rattle.lane_look.specs.declared.lane.Ask.TheVariants as ask
use Rattle.lane_look.specs.declared.lane.Want.{Want}
use Rattle.lane_look.specs.declared.lane.Want.TheVariants as want
use Rattle.lane_look.specs.Asking.{Asking, AsksAtMost}
use Rattle.lane_look.specs.Bounds.{Few, few_ready, few_ask, few_if}
use Rattle.lane_look.specs.Asking.Asking.{Ready, Question}
use Rattle.lane_look.specs.Replay.{Meaning, meaning}
use Rattle.io_bank.specs.Levels.{is_used}
use Rattle.outer_lane.specs.State.{State as OuterState}
use Rattle.window_merge.specs.declared.questions.Questions.{Questions}

-- they ask for the outputs of a PIO block where some pin has its function
abbrev pub questions_of : OuterState → Questions
questions_of s = record { pio0 = is_used 6 s.pads; pio1 = is_used 7 s.pads }

abbrev pub second_question : Questions → Asking (Unit {0})
second_question q = if q.pio1 then Question (ask.Outs 1) (λ answer. Ready tt) else Ready tt

abbrev pub questions : Questions → Asking (Unit {0})
questions q = if q.pio0 then Question (ask.Outs 0) (λ answer. second_question q) else second_question q

-- they want nothing
abbrev pub no_wants : List Want
no_wants = want.Nothing ∷ want.Nothing ∷ []

-- a lane that only asks
abbrev pub asking_lane : Meaning (Unit {0}) Questions (Unit {0})
asking_lane = meaning (λ _ q cycle. questions q) (λ begun. no_wants) (λ _ q begun turns. q) (λ _ q begun turns. None)

-- at most the outputs of the two PIO blocks
few_second : (n : ℕ) (q : Questions) → Few (suc n) (second_question q)
few_second n q = few_if (suc n) _ _ _ (few_ask n (ask.Outs 1) _ (λ answer. few_ready n _)) (few_ready _ _)

few_questions : (q : Questions) → Few 2 (questions q)
few_questions q =
    few_if 2 _ _ _ (few_ask 1 (ask.Outs 0) (λ answer. second_question q) (λ answer. few_second 0 q)) (few_second 1 q)

pub two_questions : (q : Questions) → AsksAtMost 2 (questions q)
two_questions q = (few_questions q).few
