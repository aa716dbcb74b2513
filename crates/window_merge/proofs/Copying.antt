-- A lane that runs alone by copies goes the way of one that runs alone in the state that was copied.
use Rattle.window_merge.proofs.Shared.{Ask, Asking, Bool, Copies, IsRunAlone, List, Mark, Question, RanIn, Ready, Report, Setting, Want, [], answered, answered_same, ap, around, asks_sram, block_lines, copied, copied_store, copies_of, if◌then◌else◌, inputs_of, is_some, lines_of, outs_of, pacing_of, peripheral_lane, pio_lane, refl, stored_by, suc, true, zero, ℕ, ◌+◌, ◌==◌, ◌∙◌, ◌∷◌, ◌≡◌, arith}
use Rattle.lane_look.specs.Replay.{Meaning, Entry, asked, after_begun, marks_with}
use Rattle.lane_look.specs.Alone.{Surroundings, Alone, all_stored, begun_alone, alone, ends_at, first_from, least, alone_length}
use Rattle.rp_machine.specs.State.{State}
use Rattle.outer_lane.specs.Step as outer
use Rattle.pio_block.specs.Cycle as pio_cycle

-- ---- two functions that answer the same

pub asked_same : {B : Type 0} (f g : Ask → ℕ) (tree : Asking B) → ((ask : Ask) → f ask ≡ g ask) → asked f tree ≡ asked g tree
asked_same f g (Ready begun) h = refl
asked_same {B} f g (Question ask next) h = ap (λ (x : ℕ). (ask, x) ∷ asked f (next x)) (h ask) ∙ ap (λ (es : List Entry). (ask, g ask) ∷ es) (asked_same f g (next (g ask)) h)

-- ---- surroundings of two kinds: one is what the other comes to

-- two functions give what is asked the same answers
pub record SameBy {B : Type 0} (f g : Ask → ℕ) (tree : Asking B) : Type 0 where
  pub begun : answered f tree ≡ answered g tree
  pub talk : asked f tree ≡ asked g tree

pub same_by : {B : Type 0} (f g : Ask → ℕ) → ((ask : Ask) → f ask ≡ g ask) → (tree : Asking B) → SameBy f g tree
same_by f g h tree = record { begun = answered_same f g h tree; talk = asked_same f g tree h }

-- each answer to the lane is the same, and each access leaves the same
pub record Copied {E S B V W : Type 0} (a : Surroundings V) (b : Surroundings W) (h : W → V) (n : Meaning E S B) (env : E) : Type 0 where
  pub answers : (w : W) (s : S) (cycle : ℕ) → SameBy (a.answer (h w)) (b.answer w) (n.asks env s cycle)
  pub stores : (w : W) (v : Want) → a.stored (h w) v ≡ h (b.stored w v)

all_copied : {V W : Type 0} (a : Surroundings V) (b : Surroundings W) (h : W → V) → ((w : W) (v : Want) → a.stored (h w) v ≡ h (b.stored w v))
    → (w : W) (wants : List Want) → all_stored a (h w) wants ≡ h (all_stored b w wants)
all_copied a b h stores w [] = refl
all_copied a b h stores w (v ∷ wants) = ap (λ x. all_stored a x wants) (stores w v) ∙ all_copied a b h stores (b.stored w v) wants

-- a run alone that stands where another one stands
abbrev pub as_copied : {S V W : Type 0} → (W → V) → Alone S W → Alone S V
as_copied h r = record { state = r.state; around = h r.around; talk = r.talk; marks = r.marks }

-- two environments in which a lane does the same
pub record SameLane {E F S B : Type 0} (m : Meaning E S B) (env : E) (n : Meaning F S B) (env' : F) : Type 0 where
  pub asks : (s : S) (cycle : ℕ) → m.asks env s cycle ≡ n.asks env' s cycle
  pub wanted : (b : B) → m.wanted b ≡ n.wanted b
  pub next : (s : S) (b : B) → after_begun m env s b ≡ after_begun n env' s b
  pub marked : (s : S) (b : B) (marks : List Mark) → marks_with m env s b marks ≡ marks_with n env' s b marks

begun_same : {E F S B V W : Type 0} (m : Meaning E S B) (env : E) (n : Meaning F S B) (env' : F) (a : Surroundings V) (b : Surroundings W) (h : W → V)
    → SameLane m env n env' → Copied a b h n env' → (cycle : ℕ) (s : S) (w : W) → begun_alone m a env cycle s (h w) ≡ begun_alone n b env' cycle s w
begun_same m env n env' a b h same alike cycle s w = grind arith

pub alone_same : {E F S B V W : Type 0} (m : Meaning E S B) (env : E) (n : Meaning F S B) (env' : F) (a : Surroundings V) (b : Surroundings W) (h : W → V)
    → SameLane m env n env' → Copied a b h n env' → (before : S) (start : ℕ) (w : W) (k : ℕ) → alone m a env before start (h w) k ≡ as_copied h (alone n b env' before start w k)
unfolding alone
alone_same m env n env' a b h same alike before start w zero = refl
alone_same m env n env' a b h same alike before start w (suc k) = search (arith, begun_same, all_copied, (alone_same m env n env' a b h same alike before start w k))

pub first_same : (t u : ℕ → Bool) (from count : ℕ) → ((k : ℕ) → t k ≡ u k) → first_from t from count ≡ first_from u from count
first_same t u from zero h = refl
first_same t u from (suc count) h = rw (h from, first_same t u (suc from) count h) refl

pub length_same : {E F S B V W : Type 0} (m : Meaning E S B) (env : E) (n : Meaning F S B) (env' : F) (a : Surroundings V) (b : Surroundings W) (h : W → V)
    → SameLane m env n env' → Copied a b h n env' → (before : S) (start : ℕ) (w : W) (bound : ℕ) → alone_length m a env before start (h w) bound ≡ alone_length n b env' before start w bound
unfolding alone_length least ends_at
length_same m env n env' a b h same alike before start w bound = search (arith, first_same, alone_same, begun_same)

-- ---- the copies of a state

pub outs_same : (block : ℕ) (s : State) → (if block == 0 then outs_of 0 s else outs_of 1 s) ≡ outs_of block s
unfolding outs_of
outs_same block s = grind arith

stores_copied : (lane : ℕ) (s : State) (v : Want) → copied_store (copies_of lane s) v ≡ copies_of lane (stored_by v s)
unfolding lines_of block_lines pacing_of inputs_of outs_of
stores_copied lane s v = grind arith

-- a lane that asks for words of SRAM has a copy of it
pub with_sram : {S B : Type 0} (m : Meaning (Unit {0}) S B) (lane : ℕ) → asks_sram lane ≡ true → Copied copied (around lane) (copies_of lane) m tt
with_sram m lane e = search (arith, same_by, stores_copied, outs_same)

pub pio_copied : (lane : ℕ) → Copied copied (around lane) (copies_of lane) pio_lane tt
unfolding pio_cycle.asks
pio_copied lane = search (arith, stores_copied)

pub outer_copied : (w : Setting) (lane : ℕ) → Copied copied (around lane) (copies_of lane) (peripheral_lane w) tt
unfolding outer.asks outer.asks_second
outer_copied w lane = search (arith, stores_copied)

-- a report of a run by copies of a state is the run alone
pub as_run_alone : {S B : Type 0} (m : Meaning (Unit {0}) S B) (lane : ℕ) (before room : S) (s : State) (start : ℕ) (copies : Copies) (bound bound' : ℕ) (report : Report S)
    → Copied copied (around lane) (copies_of lane) m tt → start ≡ s.cycle → copies ≡ copies_of lane s → room ≡ before → bound ≡ bound' → RanIn m tt room start copies bound report
    → IsRunAlone m lane before s bound' report
as_run_alone {S} m lane before room s start copies bound bound' report alike e_start e_copies e_lane e_bound h =
    let same : SameLane m tt m tt = record { asks = λ s cycle. refl; wanted = λ b. refl; next = λ s b. refl; marked = λ s b marks. refl } in
    record {
      same_start = h.same_start ∙ e_start;
      same_lane = h.same_lane ∙ e_lane;
      same_length = rw (← e_copies, ← e_start, ← e_lane, ← e_bound) h.same_length ∙ length_same m tt m tt copied (around lane) (copies_of lane) same alike before s.cycle s bound';
      same_log = rw (← e_copies, ← e_start, ← e_lane) h.same_log ∙ ap (λ (r : Alone S Copies). r.talk) (alone_same m tt m tt copied (around lane) (copies_of lane) same alike before s.cycle s report.length);
    }

-- ---- a copy of SRAM stays where there is one

store_kept : (c : Copies) (v : Want) → is_some (copied_store c v).ram ≡ is_some c.ram
store_kept c v = grind arith

wants_kept : (c : Copies) (wants : List Want) → is_some (all_stored copied c wants).ram ≡ is_some c.ram
wants_kept c [] = refl
wants_kept c (v ∷ wants) = wants_kept (copied_store c v) wants ∙ store_kept c v

pub sram_kept : {E S B : Type 0} (m : Meaning E S B) (env : E) (before : S) (start : ℕ) (c : Copies) (k : ℕ) → is_some (alone m copied env before start c k).around.ram ≡ is_some c.ram
unfolding alone
sram_kept m env before start c zero = refl
sram_kept m env before start c (suc k) =
    let r = alone m copied env before start c k in
    wants_kept r.around (m.wanted (begun_alone m copied env (start + k) r.state r.around)) ∙ sram_kept m env before start c k
