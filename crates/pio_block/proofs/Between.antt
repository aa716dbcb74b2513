-- A block whose machines only wait.
use Rattle.std.proofs.Common.{◌≡◌, ℕ, zero, suc, ◌+◌, ◌-◌, ◌%◌, ◌^◌, ◌<◌, ◌≤◌, min, Bool, true, false, if◌then◌else◌, List, [], ◌∷◌, map, Some, None, refl, sym, ap, ◌∙◌, arith}
use Rattle.std.specs.Prelude.{bit_and, bit_or}
use Rattle.std.specs.Int.Bits.{and_zero_r, or_zero_r}
use Rattle.std.specs.List.{list_any}
use Rattle.std.proofs.lemmas.Bool.{or_parts}
use Rattle.std.proofs.lemmas.Nat.{and_mask}
use Rattle.lane_look.specs.declared.lane.Ask.{Ask}
use Rattle.lane_look.specs.declared.lane.Ask.TheVariants as ask
use Rattle.lane_look.specs.Asking.{answered}
use Rattle.lane_look.specs.Asking.Asking.{Ready, Question}
use Rattle.pio_machine.specs.declared.machine.Machine1.{Machine1}
use Rattle.pio_machine.specs.declared.machine.Seen.{Seen}
use Rattle.pio_machine.specs.declared.machine.Done.{Done}
use Rattle.pio_machine.specs.Start.{nothing_done}
use Rattle.pio_machine.specs.Cycle as machine
use Rattle.pio_machine.specs.Quiet.{waited, LeavesPins}
use Rattle.pio_machine.specs.Quiet as machine_quiet
use Rattle.pio_machine.proofs.Waits.{once_off, waited_off, none, off, keeps, LooksOutside}
use Rattle.pio_block.specs.declared.inputs.Inputs.{Inputs}
use Rattle.pio_block.specs.State.{State, is_running, is_busy, each_from, machine_of}
use Rattle.pio_machine.specs.Quiet.{is_forced}
use Rattle.pio_block.specs.Cycle.{seen_by, written_from, all_written, all_stepped, joined, after_cycle, inputs_of, asks, next}
use Rattle.pio_block.specs.Queues.{bits_of}
use Rattle.pio_block.specs.Words.{has_room, has_words, intr_of, lines_of, room_left, words_held, pacing_of}
use Rattle.pio_block.specs.Quiet.{AreMachinesQuiet, HasWords, IsQuiet, block_after, AQuietBlockShowsTheSame}

-- ---- fewer cycles

pub fewer_machine : (i : ℕ) (seen : Seen) (level enable : ℕ) (m : Machine1) (n k : ℕ) → machine_quiet.IsQuiet i seen level enable m n → k ≤ n → machine_quiet.IsQuiet i seen level enable m k
fewer_machine i seen level enable m n k h le = record { steps = λ j lt. h.steps j (omega arith); leaves = λ j lt. h.leaves j (omega arith) }

pub fewer_machines : (i : ℕ) (seen : Seen) (level enable : ℕ) (ms : List Machine1) (n k : ℕ) → AreMachinesQuiet i seen level enable ms n → k ≤ n → AreMachinesQuiet i seen level enable ms k
fewer_machines i seen level enable [] n k h le = h
fewer_machines i seen level enable (m ∷ ms) n k h le = (fewer_machine i seen level enable m n k h.0 le, fewer_machines (i + 1) seen level enable ms n k h.1 le)

pub none_machines : (i : ℕ) (seen : Seen) (level enable : ℕ) (ms : List Machine1) → AreMachinesQuiet i seen level enable ms 0
none_machines i seen level enable [] = tt
none_machines i seen level enable (m ∷ ms) = (none m i seen level enable, none_machines (i + 1) seen level enable ms)

pub four_machines : (seen : Seen) (level enable : ℕ) (a b c d : Machine1) (p q r s n : ℕ) → machine_quiet.IsQuiet 0 seen level enable a p → machine_quiet.IsQuiet 1 seen level enable b q
    → machine_quiet.IsQuiet 2 seen level enable c r → machine_quiet.IsQuiet 3 seen level enable d s → n ≡ min (min p q) (min r s) → AreMachinesQuiet 0 seen level enable (a ∷ b ∷ c ∷ d ∷ []) n
four_machines seen level enable a b c d p q r s n h i j k e = (
  fewer_machine 0 seen level enable a p n h (omega (arith, e)),
  (
    fewer_machine 1 seen level enable b q n i (omega (arith, e)),
    (fewer_machine 2 seen level enable c r n j (omega (arith, e)), (fewer_machine 3 seen level enable d s n k (omega (arith, e)), tt)),
  ),
)

pub fewer : (x : Inputs) (s : State) (n k : ℕ) → IsQuiet x s n → k ≤ n → IsQuiet x s k
fewer x s n k h le = record { words = h.words; machines = fewer_machines 0 (seen_by x.now x.second s) s.levels s.enables s.machines n k h.machines le }

-- ---- a block in which no machine runs

none_runs : (i : ℕ) (seen : Seen) (level enable : ℕ) (ms : List Machine1) (n : ℕ) → list_any is_running ms ≡ false → AreMachinesQuiet i seen level enable ms n
none_runs i seen level enable [] n h = tt
none_runs i seen level enable (m ∷ ms) n h =
    let here = or_parts (is_running m) (list_any is_running ms) h in
    let stays = or_parts m.enabled (is_forced m.waiting) here.0 in
    (off m n stays.1 stays.0 i seen level enable, none_runs (i + 1) seen level enable ms n here.1)

pub idle_quiet : (x : Inputs) (s : State) (n : ℕ) → HasWords s → is_busy s ≡ false → IsQuiet x s n
idle_quiet x s n words h = record { words = words; machines = none_runs 0 (seen_by x.now x.second s) s.levels s.enables s.machines n h }

-- ---- a cycle of the block

all_wait : (i k n : ℕ) (seen : Seen) (level enable : ℕ) (ms : List Machine1) → AreMachinesQuiet i seen level enable ms n → k < n
    → each_from i (λ j m. machine.after_cycle j seen m) (map (waited k) ms) ≡ map (waited (suc k)) ms
all_wait i k n seen level enable [] h lt = refl
all_wait i k n seen level enable (m ∷ ms) h lt =
    ap (λ x. x ∷ each_from (i + 1) (λ j m. machine.after_cycle j seen m) (map (waited k) ms)) (h.0.steps k lt)
    ∙ ap (λ xs. waited (suc k) m ∷ xs) (all_wait (i + 1) k n seen level enable ms h.1 lt)

all_leave : (i k n : ℕ) (seen : Seen) (level enable : ℕ) (ms : List Machine1) (d : Done) → AreMachinesQuiet i seen level enable ms n → k < n
    → LeavesPins level enable d → LeavesPins level enable (written_from i seen (map (waited k) ms) d)
all_leave i k n seen level enable [] d h lt leaves = leaves
all_leave i k n seen level enable (m ∷ ms) d h lt leaves =
    all_leave (i + 1) k n seen level enable ms (machine.written_in_cycle i seen (waited k m) d) h.1 lt (h.0.leaves k lt d leaves)

-- a word that nothing is laid over, and flags that nothing clears or sets
same_word : (x bits : ℕ) → x < 2 ^ 32 → bit_or (bit_and x (2 ^ 32 - 1 - 0)) (bit_and bits 0) ≡ x
same_word x bits small =
    let whole : x % 2 ^ 32 ≡ x = omega arith in
    ap (λ y. bit_or (bit_and x (2 ^ 32 - 1)) y) (and_zero_r bits) ∙ or_zero_r _ ∙ and_mask x 32 ∙ whole

same_flags : (x : ℕ) → x < 2 ^ 8 → bit_or (bit_and x (2 ^ 8 - 1 - 0)) 0 ≡ x
same_flags x small =
    let whole : x % 2 ^ 8 ≡ x = omega arith in
    or_zero_r _ ∙ and_mask x 8 ∙ whole

nothing_leaves : (s : State) → HasWords s → LeavesPins s.levels s.enables nothing_done
nothing_leaves s h = record {
  levels = same_word s.levels 0 h.levels;
  enables = same_word s.enables 0 h.enables;
  level_mask = omega arith;
  enable_mask = omega arith;
  set = refl;
  clear = refl;
}

joined_same : (d : Done) (s : State) → HasWords s → LeavesPins s.levels s.enables d → joined d s ≡ s
unfolding joined
joined_same d s words h = rw (h.set, h.clear, same_flags s.flags words.flags, h.levels, h.enables) refl

cycle_quiet : (x : Inputs) (s : State) (n k : ℕ) → IsQuiet x s n → k < n → after_cycle x.now x.second (block_after k s) ≡ block_after (suc k) s
unfolding after_cycle all_written all_stepped
cycle_quiet x s n k h lt =
    let seen = seen_by x.now x.second s in
    let d = written_from 0 seen (map (waited k) s.machines) nothing_done in
    let next = block_after (suc k) s in
    ap (λ (ms : List Machine1). joined d (record s { machines = ms })) (all_wait 0 k n seen s.levels s.enables s.machines h.machines lt)
    ∙ joined_same d next (record { flags = h.words.flags; levels = h.words.levels; enables = h.words.enables })
    (all_leave 0 k n seen s.levels s.enables s.machines nothing_done h.machines lt (nothing_leaves s h.words))

-- where none of the machines runs, nothing goes on
stays_idle : (ms : List Machine1) (k : ℕ) → list_any is_running (map (waited k) ms) ≡ false → map (waited (suc k)) ms ≡ map (waited k) ms
unfolding waited
stays_idle [] k h = refl
stays_idle (m ∷ ms) k h =
    let here = or_parts (is_running (waited k m)) (list_any is_running (map (waited k) ms)) h in
    let stays = or_parts (waited k m).enabled (is_forced (waited k m).waiting) here.0 in
    ap (λ x. x ∷ map (waited (suc k)) ms) (once_off (waited k m) stays.0) ∙ ap (λ xs. waited k m ∷ xs) (stays_idle ms k here.1)

step_by : (busy : Bool) (answer : Ask → ℕ) (x : Inputs) (s : State) (n k : ℕ) → is_busy (block_after k s) ≡ busy → IsQuiet x s n → k < n → inputs_of (answer ask.Inputs) ≡ x
    → next (answered answer (if busy then Question ask.Inputs (λ a. Ready (Some (inputs_of a))) else Ready None)) (block_after k s) ≡ block_after (suc k) s
unfolding next
step_by true answer x s n k e h lt told = ap (λ (i : Inputs). after_cycle i.now i.second (block_after k s)) told ∙ cycle_quiet x s n k h lt
step_by false answer x s n k e h lt told = sym (ap (λ ms. record s { machines = ms }) (stays_idle s.machines k e))

steps : (answer : Ask → ℕ) (x : Inputs) (s : State) (n k : ℕ) → IsQuiet x s n → k < n → inputs_of (answer ask.Inputs) ≡ x
    → next (answered answer (asks (block_after k s))) (block_after k s) ≡ block_after (suc k) s
unfolding asks
steps answer x s n k h lt told = step_by (is_busy (block_after k s)) answer x s n k refl h lt told

-- ---- what it shows

same_at : {A : Type 0} (f : Machine1 → A) → LooksOutside f → (n i : ℕ) (ms : List Machine1) → f (machine_of i (map (waited n) ms)) ≡ f (machine_of i ms)
same_at f h n i [] = refl
same_at f h n zero (m ∷ ms) = keeps f h n m
same_at f h n (suc i) (m ∷ ms) = same_at f h n i ms

bits_stay : (p : Machine1 → Bool) → LooksOutside p → (ms : List Machine1) (n : ℕ) → bits_of p (map (waited n) ms) ≡ bits_of p ms
bits_stay p h ms n = rw (same_at p h n 0 ms, same_at p h n 1 ms, same_at p h n 2 ms, same_at p h n 3 ms) refl

raised_stay : (s : State) (n : ℕ) → intr_of (block_after n s) ≡ intr_of s
unfolding intr_of
raised_stay s n = rw (bits_stay has_room (λ m a d. refl) s.machines n, bits_stay has_words (λ m a d. refl) s.machines n) refl

lines_stay : (s : State) (n : ℕ) → lines_of (block_after n s) ≡ lines_of s
lines_stay s n = rw (raised_stay s n) refl

pacing_stays : (s : State) (n : ℕ) → pacing_of (block_after n s).machines ≡ pacing_of s.machines
unfolding pacing_of
pacing_stays s n =
    let room = λ (i : ℕ). same_at room_left (λ m a d. refl) n i s.machines in
    let words = λ (i : ℕ). same_at words_held (λ m a d. refl) n i s.machines in
    rw (room 0, room 1, room 2, room 3, words 0, words 1, words 2, words 3) refl

pub a_quiet_block_shows_the_same : AQuietBlockShowsTheSame
a_quiet_block_shows_the_same x s n h = record {
  steps = λ k lt answer told. steps answer x s n k h lt told;
  outs = λ k. refl;
  lines = λ k. lines_stay s k;
  pacing = λ k. pacing_stays s k;
}

-- where it is idle, it stays; and it is busy as before
pub idle_stays : (s : State) (n : ℕ) → is_busy s ≡ false → block_after n s ≡ s
idle_stays s n h = ap (λ ms. record s { machines = ms }) (none_go s.machines n h)
  where
    none_go : (ms : List Machine1) (n : ℕ) → list_any is_running ms ≡ false → map (waited n) ms ≡ ms
    none_go [] n h = refl
    none_go (m ∷ ms) n h =
        let here = or_parts (is_running m) (list_any is_running ms) h in
        rw (waited_off n m (or_parts m.enabled (is_forced m.waiting) here.0).0, none_go ms n here.1) refl

pub busy_stays : (s : State) (n : ℕ) → is_busy (block_after n s) ≡ is_busy s
busy_stays s n = any_stays s.machines n
  where
    any_stays : (ms : List Machine1) (n : ℕ) → list_any is_running (map (waited n) ms) ≡ list_any is_running ms
    any_stays [] n = refl
    any_stays (m ∷ ms) n = rw (keeps is_running (λ m a d. refl) n m, any_stays ms n) refl

-- in no cycle it goes on
pub block_none : (s : State) → block_after 0 s ≡ s
unfolding waited
block_none s = ap (λ ms. record s { machines = ms }) (none_go s.machines)
  where
    none_go : (ms : List Machine1) → map (waited 0) ms ≡ ms
    none_go [] = refl
    none_go (m ∷ ms) = ap (λ xs. m ∷ xs) (none_go ms)
