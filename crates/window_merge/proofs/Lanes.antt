-- One lane of a window: where it stands after k cycles, and what its run alone makes of the next one; what holds of each of six.
use Rattle.std.proofs.Common.{◌≡◌, ◌≢◌, ℕ, zero, suc, ◌+◌, ◌<◌, ◌≤◌, Bool, false, if◌then◌else◌, List, ◌++◌, refl, ap, sym, ◌∙◌, arith}
use Rattle.window_merge.proofs.Shared.{Alone, Ask, Asking, Begun, IsRunAlone, Report, Setting, alone, alone_length, answered, around, core1_bound, core_lane, differs, dma_lane, ends_at, ends_wants, eqb_tells, first_from, least, longest, peripheral_lane, pio_lane, wanted_in}
use Rattle.lane_look.specs.Replay.{Meaning, Entry, told, left, talk, after_begun}
use Rattle.rp_machine.specs.State.{State}
use Rattle.window_merge.specs.declared.runs.Rests.{Rests}
use Rattle.window_merge.proofs.Agree.{agree}
use Rattle.window_merge.proofs.Told.{Told, told_at}

-- ---- a number below the least that meets a test does not meet it

first_below_by : (test : ℕ → Bool) (from count k : ℕ) (b : Bool) → test from ≡ b → from ≤ k
    → ((low : suc from ≤ k) → k < first_from test (suc from) count → test k ≡ false)
    → k < (if b then from else first_from test (suc from) count) → test k ≡ false
first_below_by test from count k b h1 h2 h3 h4 = search (arith, eqb_tells)

first_below : (test : ℕ → Bool) (from count k : ℕ) → from ≤ k → k < first_from test from count → test k ≡ false
first_below test from zero k low lt = absurd (omega arith)
first_below test from (suc count) k low lt =
    first_below_by test from count k (test from) refl low (λ low2 lt2. first_below test (suc from) count k low2 lt2) lt

pub below_least : (test : ℕ → Bool) (bound k : ℕ) → k < least test bound → test k ≡ false
unfolding least
below_least test bound k lt = first_below test 0 bound k (omega arith) lt

-- ---- the lane

-- how it runs, its number, where its state stands in the machine's, what it begins in what all begin, where what is left of its
-- log stands, and how many cycles its run has at most where that of another lane has so many
pub record Lane (S B : Type 0) : Type 0 where
  pub m : Meaning (Unit {0}) S B
  pub number : ℕ
  pub of : State → S
  pub did : Begun → B
  pub log : Rests → List Entry
  pub bound : State → ℕ → ℕ

abbrev pub lane : {S B : Type 0} → Meaning (Unit {0}) S B → ℕ → (State → S) → (Begun → B) → (Rests → List Entry) → (State → ℕ → ℕ)
    → Lane S B
lane m number of did log bound = record { m = m; number = number; of = of; did = did; log = log; bound = bound }

-- its run alone from a state, in so many cycles; how many it has; and what it asks in a cycle
abbrev pub run : {S B : Type 0} → Lane S B → State → ℕ → Alone S State
run l s k = alone l.m (around l.number) tt (l.of s) s.cycle s k

abbrev pub cycles_of : {S B : Type 0} → Lane S B → Setting → State → ℕ
cycles_of l w s = alone_length l.m (around l.number) tt (l.of s) s.cycle s (l.bound s (longest w s))

abbrev pub tree : {S B : Type 0} → Lane S B → State → Asking B
tree l now = l.m.asks tt (l.of now) now.cycle

-- it stands where its run alone stands after k cycles, with what is left of its log
pub record LaneStands {S B : Type 0} (l : Lane S B) (w : Setting) (s : State) (k : ℕ) (now : State) (rests : Rests) : Type 0 where
  pub is_alone : l.of now ≡ (run l s k).state
  pub is_log : (run l s k).talk ++ l.log rests ≡ (run l s (cycles_of l w s)).talk
  pub within : k ≤ cycles_of l w s

pub lane_first : {S B : Type 0} (l : Lane S B) (w : Setting) (s : State) (rests : Rests)
    → l.log rests ≡ (run l s (cycles_of l w s)).talk
    → LaneStands l w s 0 s rests
unfolding alone
lane_first l w s rests e = record { is_alone = refl; is_log = e; within = omega arith }

-- the log of a report that is the run alone
abbrev pub whole_talk : {S B : Type 0} → Meaning (Unit {0}) S B → ℕ → S → State → ℕ → List Entry
whole_talk m number before s bound =
    (alone m (around number) tt before s.cycle s (alone_length m (around number) tt before s.cycle s bound)).talk

pub log_alone : {S B : Type 0} {m : Meaning (Unit {0}) S B} {number : ℕ} {before : S} {s : State} {bound : ℕ} {report : Report S}
    → IsRunAlone m number before s bound report
    → report.log ≡ whole_talk m number before s bound
log_alone {S} {B} {m} {number} {before} {s} h = cc

-- what the log tells the lane in the next cycle
abbrev pub LaneTold : {S B : Type 0} → Lane S B → Setting → State → ℕ → State → Rests → Type 0
LaneTold l w s k now rests = Told l.m (around l.number) tt (l.of s) s.cycle s (cycles_of l w s) k (l.of now) now.cycle
    (l.log rests)

pub lane_told : {S B : Type 0} (l : Lane S B) (w : Setting) (s : State) (k : ℕ) (now : State) (rests : Rests)
    → LaneStands l w s k now rests → k ≢ cycles_of l w s → now.cycle ≡ s.cycle + k → LaneTold l w s k now rests
lane_told l w s k now rests h on e =
    let within = h.within in
    told_at l.m (around l.number) tt (l.of s) s.cycle s (cycles_of l w s) k (l.of now) now.cycle (l.log rests) h.is_log
    (omega arith) h.is_alone e

pub lane_next : {S B : Type 0} (l : Lane S B) (w : Setting) (s : State) (k : ℕ) (now : State) (rests : Rests) (now' : State)
    (rests' : Rests)
    → LaneStands l w s k now rests → k ≢ cycles_of l w s → LaneTold l w s k now rests
    → l.of now' ≡ after_begun l.m tt (l.of now) (told (l.log rests) (tree l now)) → l.log rests' ≡ left (l.log rests) (tree l now)
    → LaneStands l w s (k + 1) now' rests'
lane_next l w s k now rests now' rests' h on t e_state e_rest = grind arith

-- its run goes on, so it wants nothing, or an access to SRAM
pub ends_is : {S B : Type 0} (l : Lane S B) (s : State) (k : ℕ)
    → ends_at l.m (around l.number) tt (l.of s) s.cycle s k ≡ ends_wants (wanted_in l.m (around l.number) tt (l.of s) s.cycle s k)
unfolding ends_at wanted_in
ends_is l s k = refl

pub lane_goes_on : {S B : Type 0} (l : Lane S B) (w : Setting) (s : State) (k : ℕ) (now : State) (rests : Rests)
    → LaneStands l w s k now rests → k ≢ cycles_of l w s → LaneTold l w s k now rests
    → ends_wants (l.m.wanted (told (l.log rests) (tree l now))) ≡ false
unfolding alone_length
lane_goes_on l w s k now rests h on t =
    let within = h.within in
    ap ends_wants t.wanted_here ∙ sym (ends_is l s k)
    ∙ below_least (ends_at l.m (around l.number) tt (l.of s) s.cycle s) (l.bound s (longest w s)) k (omega arith)

-- where no answer differs from what a function gives, the lane begins what it begins by that function
pub lane_agrees : {S B : Type 0} (l : Lane S B) (w : Setting) (s : State) (k : ℕ) (now : State) (rests : Rests) (f : Ask → ℕ)
    → LaneTold l w s k now rests → differs f (talk (l.log rests) (tree l now)) ≡ false
    → told (l.log rests) (tree l now) ≡ answered f (tree l now)
lane_agrees l w s k now rests f t e = search (arith, agree)

-- a run of no cycle
pub no_cycles : {S B : Type 0} (m : Meaning (Unit {0}) S B) (lane : ℕ) (before : S) (s : State)
    → alone_length m (around lane) tt before s.cycle s 0 ≡ 0
unfolding alone_length least
no_cycles m lane before s = refl

-- ---- six lanes

-- what is said of a lane holds of each
pub record Each (w : Setting) (P : (S B : Type 0) → Lane S B → Type 0) : Type 0 where
  pub core0 : P _ _ (lane core_lane 0 (λ s. s.core0) (λ b. b.core0) (λ r. r.core0) (λ s n. n))
  pub core1 : P _ _ (lane core_lane 1 (λ s. s.core1) (λ b. b.core1) (λ r. r.core1) core1_bound)
  pub dma : P _ _ (lane dma_lane 2 (λ s. s.dma.block) (λ b. b.dma) (λ r. r.dma) (λ s n. n))
  pub pio0 : P _ _ (lane pio_lane 3 (λ s. s.pio0.block) (λ b. b.pio0) (λ r. r.pio0) (λ s n. n))
  pub pio1 : P _ _ (lane pio_lane 4 (λ s. s.pio1.block) (λ b. b.pio1) (λ r. r.pio1) (λ s n. n))
  pub outer : P _ _ (lane (peripheral_lane w) 5 (λ s. s.outer) (λ b. b.outer) (λ r. r.outer) (λ s n. n))

pub every : {w : Setting} {P : (S B : Type 0) → Lane S B → Type 0} → ((S B : Type 0) (l : Lane S B) → P S B l) → Each w P
every f = record { core0 = f _ _ _; core1 = f _ _ _; dma = f _ _ _; pio0 = f _ _ _; pio1 = f _ _ _; outer = f _ _ _ }

-- what follows of each from what holds of it
pub on_each : {w : Setting} {P Q : (S B : Type 0) → Lane S B → Type 0} → Each w P → Each w (λ S B l. P S B l → Q S B l) → Each w Q
on_each h f = grind arith
