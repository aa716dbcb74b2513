-- What a lane does that is answered by functions; and a run alone, in which what it is answered depends on what it stored.
use Rattle.std.specs.Prelude.{ℕ, zero, suc, ◌+◌, Bool, true, false, not, ◌||◌, nat_eq, if◌then◌else◌, nat_lt, List, [], ◌∷◌, ◌++◌, length}
use Rattle.lane_look.specs.Asking.{Asking, answered}
use Rattle.lane_look.specs.declared.lane.Ask.{Ask}
use Rattle.lane_look.specs.declared.lane.Want.{Want}
use Rattle.lane_look.specs.declared.lane.Want.TheVariants as want
use Rattle.lane_look.specs.declared.marks.Mark.{Mark}
use Rattle.lane_look.specs.Replay.{Meaning, Entry, asked, after_begun, marks_with}

-- ---- a function for each cycle answers

pub record Driven (S : Type 0) : Type 0 where
  pub state : S
  -- the questions of all cycles with their answers
  pub talk : List Entry
  pub marks : List Mark

abbrev pub driven_by : {E S B : Type 0} → Meaning E S B → E → (Ask → ℕ) → Asking B → Driven S → Driven S
driven_by m env f tree d = record {
  state = after_begun m env d.state (answered f tree);
  talk = d.talk ++ asked f tree;
  marks = marks_with m env d.state (answered f tree) d.marks;
}

unfoldable pub driven : {E S B : Type 0} → Meaning E S B → E → S → ℕ → (ℕ → Ask → ℕ) → ℕ → Driven S
driven m env before start f zero = record { state = before; talk = []; marks = [] }
driven m env before start f (suc n) =
    let d = driven m env before start f n in driven_by m env (f n) (m.asks env d.state (start + n)) d

-- ---- the run alone

-- what is around a lane that runs alone: how it answers, and what an access leaves of it
pub record Surroundings (W : Type 0) : Type 0 where
  pub answer : W → Ask → ℕ
  pub stored : W → Want → W

abbrev pub surroundings : {W : Type 0} → (W → Ask → ℕ) → (W → Want → W) → Surroundings W
surroundings answer stored = record { answer = answer; stored = stored }

pub record Alone (S W : Type 0) : Type 0 where
  pub state : S
  pub around : W
  pub talk : List Entry
  pub marks : List Mark

-- what is left around a lane once its accesses are done
abbrev pub all_stored : {W : Type 0} → Surroundings W → W → List Want → W
all_stored a around [] = around
all_stored a around (w ∷ wants) = all_stored a (a.stored around w) wants

-- what the lane begins in a cycle of that number
abbrev pub begun_alone : {E S B W : Type 0} → Meaning E S B → Surroundings W → E → ℕ → S → W → B
begun_alone m a env cycle state around = answered (a.answer around) (m.asks env state cycle)

abbrev pub alone_cycle : {E S B W : Type 0} → Meaning E S B → Surroundings W → E → ℕ → Alone S W → Alone S W
alone_cycle m a env cycle r = record {
  state = after_begun m env r.state (begun_alone m a env cycle r.state r.around);
  around = all_stored a r.around (m.wanted (begun_alone m a env cycle r.state r.around));
  talk = r.talk ++ asked (a.answer r.around) (m.asks env r.state cycle);
  marks = marks_with m env r.state (begun_alone m a env cycle r.state r.around) r.marks;
}

unfoldable pub alone : {E S B W : Type 0} → Meaning E S B → Surroundings W → E → S → ℕ → W → ℕ → Alone S W
alone m a env before start around zero = record { state = before; around = around; talk = []; marks = [] }
alone m a env before start around (suc n) = alone_cycle m a env (start + n) (alone m a env before start around n)

-- ---- its length

-- the run ends before a cycle with such a want
abbrev pub ends_want : Want → Bool
ends_want want.Nothing = false
ends_want (want.Ram request) = false
ends_want _ = true

abbrev pub ends_wants : List Want → Bool
ends_wants [] = false
ends_wants (w ∷ wants) = ends_want w || ends_wants wants

abbrev pub ends_now : {E S B W : Type 0} → Meaning E S B → Surroundings W → E → ℕ → S → W → Bool
ends_now m a env cycle state around = ends_wants (m.wanted (begun_alone m a env cycle state around))

unfoldable pub ends_at : {E S B W : Type 0} → Meaning E S B → Surroundings W → E → S → ℕ → W → ℕ → Bool
ends_at m a env before start around k =
    let r = alone m a env before start around k in ends_now m a env (start + k) r.state r.around

-- the first number from one on that meets a test, of so many; else the one after them
abbrev pub first_from : (ℕ → Bool) → ℕ → ℕ → ℕ
first_from test from zero = from
first_from test from (suc count) = if test from then from else first_from test (suc from) count

-- the least number below a bound that meets a test; else the bound
unfoldable pub least : (ℕ → Bool) → ℕ → ℕ
least test bound = first_from test 0 bound

-- how many cycles the run alone has, where it has at most so many
unfoldable pub alone_length : {E S B W : Type 0} → Meaning E S B → Surroundings W → E → S → ℕ → W → ℕ → ℕ
alone_length m a env before start around bound = least (ends_at m a env before start around) bound

-- ---- a log that is written

-- a log with one entry more, where there is room
abbrev pub recorded : List Entry → Entry → List Entry
recorded log entry = if nat_lt (length log) 2048 then log ++ entry ∷ [] else log

-- what a lane, a log and marks stand for
abbrev pub standing : {S W : Type 0} → S → W → List Entry → List Mark → Alone S W
standing state around talk marks = record { state = state; around = around; talk = talk; marks = marks }

-- ---- what a run alone asks and wants in its cycle k

unfoldable pub asked_in : {E S B W : Type 0} → Meaning E S B → Surroundings W → E → S → ℕ → W → ℕ → List Entry
asked_in m a env before start around k =
    let r = alone m a env before start around k in asked (a.answer r.around) (m.asks env r.state (start + k))

unfoldable pub wanted_in : {E S B W : Type 0} → Meaning E S B → Surroundings W → E → S → ℕ → W → ℕ → List Want
wanted_in m a env before start around k =
    let r = alone m a env before start around k in m.wanted (begun_alone m a env (start + k) r.state r.around)

-- some answer is not the one that a function gives
abbrev pub differs : (Ask → ℕ) → List Entry → Bool
differs f [] = false
differs f (entry ∷ entries) = not (nat_eq (f entry.0) entry.1) || differs f entries
