-- A word from its first try to its last.
use Rattle.pio_machine.proofs.Shared.{Bool, Completed, In, InSource, Irq, Jmp, Jumped, List, Machine1, Mov, MovDestination, None, Option, Out, OutDestination, PioOp, Progress, Pull, Push, Seen, Some, Stalled, Try, Wait, Waiting, [], add_comm, ap, arith, completed, cond_both, delay_of, div-mul-add, ended, ending_of_mov, ending_of_out, entered, false, flag_of, if◌then◌else◌, is_pull_void, is_rx_full, is_taken, kept_in, loaded_from, loads_osr, lt_of_mul-lt-mul_left, mod-lt, mod-mul-add, mod-pow-add, mov_value, mul-div-le, mul_comm, nat_lt, out_done, out_stalls, out_value, pow-add, pow_pos, progress_in, progress_of, pulled_from, push_threshold, pushed, refilled, refl, shifted_in, shifted_once, stalled, starved, stepped_past, subst, sym, tried, true, try_in, try_out, try_pull, try_push, try_push_now, untried, waits_for_clear, with_isr_cleared, with_raised, with_rx_stall, with_shifted, word_tried, worked, ℕ, ◌%◌, ◌&&◌, ◌*◌, ◌+◌, ◌-◌, ◌/◌, ◌<◌, ◌^◌, ◌∙◌, ◌∷◌, ◌≡◌, ◌≤◌}
use Rattle.pio_words.specs.declared.op.OutDestination.TheVariants as out
use Rattle.pio_words.specs.declared.op.MovDestination.TheVariants as moved
use Rattle.pio_machine.specs.WordLaws.{IsUntried, AWordBeginsUntried, AWrittenWordComesNext, TheBitsInStandAtTheirEnd, IsKept, AStallKeepsTheRest}
use Rattle.pio_machine.proofs.Changes.{refill}
use Rattle.pio_machine.proofs.Refills.{ended-stalled}

-- ---- a word begins untried

is_untried : (m : Machine1) → progress_of m ≡ untried → IsUntried m
is_untried m h = record { raised = ap (λ p. p.raised) h; shifted = ap (λ p. p.shifted) h }

past_none : (w : Option Waiting) (delay : ℕ) (m : Machine1) → m.waiting ≡ w → w ≡ None →
    progress_of (record (stepped_past w m) { delay = delay }) ≡ untried
past_none None delay m h i = ap (λ x. progress_in x (record (stepped_past None m) { delay = delay })) h
past_none (Some w) delay m h i = cc

past_some : (w : Option Waiting) (v : Waiting) (delay : ℕ) (m : Machine1) → w ≡ Some v →
    progress_of (record (stepped_past w m) { delay = delay }) ≡ m.progress
past_some None v delay m h = cc
past_some (Some w) v delay m h = refl

pub begins_untried : AWordBeginsUntried
unfolding ended
begins_untried m = record {
  at_reset = record { raised = refl; shifted = refl };
  restarts = record { raised = refl; shifted = refl };
  completes = λ delay h. is_untried (ended delay Completed m) (past_none m.waiting delay m refl h);
  jumps = λ delay address. record { raised = refl; shifted = refl };
  executes = λ delay word. record { raised = refl; shifted = refl };
  written = λ word. record { raised = refl; shifted = refl };
  resumes = λ delay w h. past_some m.waiting w delay m h;
}

pub comes_next : AWrittenWordComesNext
unfolding word_tried
comes_next m seen word = refl

-- ---- a stall

stays : (m : Machine1) → IsKept m m
stays m = record { pc = refl; delay = refl; x = refl; y = refl; rx = refl }

then_kept : {a b c : Machine1} → IsKept a b → IsKept b c → IsKept a c
then_kept h k = record { pc = k.pc ∙ h.pc; delay = k.delay ∙ h.delay; x = k.x ∙ h.x; y = k.y ∙ h.y; rx = k.rx ∙ h.rx }

kept : (m t : Machine1) → t.pc ≡ m.pc → t.delay ≡ m.delay → t.x ≡ m.x → t.y ≡ m.y → t.rx ≡ m.rx → IsKept m t
kept m t a b c d e = record { pc = a; delay = b; x = c; y = d; rx = e }

kept-load : (ws : List ℕ) (m : Machine1) → IsKept m (loaded_from ws m)
kept-load [] m = stays m
kept-load (w ∷ rest) m = kept m _ refl refl refl refl refl

kept-keep : (w : Option Waiting) (p : Progress) (m : Machine1) → IsKept m (kept_in w p m)
kept-keep None p m = kept m _ refl refl refl refl refl
kept-keep (Some w) p m = kept m _ refl refl refl refl refl

-- what a try leaves where it stalls
abbrev StallsKept : Machine1 → Try → Type 0
StallsKept m t = t.ending ≡ Stalled → IsKept m t.machine

kept-jmp : (taken : Bool) (address : ℕ) (m t : Machine1) → StallsKept m (record { machine = t; ending = if taken then Jumped (address % 32) else Completed })
kept-jmp true address m t h = absurd (cc)
kept-jmp false address m t h = absurd (cc)

kept-shift : (before : Bool) (value count : ℕ) (m : Machine1) → IsKept m (if before then m else shifted_in value count m)
kept-shift true v c m = stays m
kept-shift false v c m = kept m _ refl refl refl refl refl

kept-autopush : (pushes full : Bool) (m : Machine1) →
    StallsKept m (if pushes then (if full then stalled (with_rx_stall (with_shifted m)) else completed (pushed m)) else completed m)
kept-autopush true true m h = then_kept (kept-keep m.waiting _ m) (kept _ _ refl refl refl refl refl)
kept-autopush true false m h = absurd (cc)
kept-autopush false full m h = absurd (cc)

kept-in : (source : InSource) (count : ℕ) (seen : Seen) (m : Machine1) → StallsKept m (try_in source count seen m)
unfolding try_in
kept-in source count seen m h =
    then_kept (kept-shift (progress_of m).shifted _ _ m) (kept-autopush _ _ (shifted_once source count seen m) h)

kept-starve : (ws : List ℕ) (m : Machine1) → IsKept m (starved ws m)
kept-starve [] m = kept m _ refl refl refl refl refl
kept-starve (w ∷ rest) m = kept-load m.tx m

ends_out : (destination : OutDestination) (value : ℕ) → ending_of_out destination value ≡ Stalled → ⊥
ends_out out.Pins v h = cc
ends_out _ v h = cc

kept-out : (destination : OutDestination) (count : ℕ) (m : Machine1) → StallsKept m (try_out destination count m)
unfolding try_out
kept-out destination count m =
    cond_both (out_stalls m) (stalled (starved m.tx m)) (out_done destination _ m) (StallsKept m) (λ e h. kept-starve m.tx m)
    (λ e h. absurd (ends_out destination (out_value _ m) h))

kept-push-now : (full block : Bool) (m : Machine1) →
    StallsKept m (if full then (if block then stalled (with_rx_stall m) else completed (with_isr_cleared (with_rx_stall m))) else completed (pushed m))
kept-push-now true true m h = kept m _ refl refl refl refl refl
kept-push-now true false m h = absurd (cc)
kept-push-now false block m h = absurd (cc)

kept-push : (if_full block : Bool) (m : Machine1) → StallsKept m (try_push if_full block m)
unfolding try_push
kept-push if_full block m =
    cond_both (if_full && nat_lt m.isr_count (push_threshold m)) (completed m) (try_push_now block m) (StallsKept m) (λ e h. stays m)
    (λ e. kept-push-now (is_rx_full m) block m)

kept-pull-from : (ws : List ℕ) (block : Bool) (m : Machine1) → StallsKept m (pulled_from ws block m)
kept-pull-from [] true m h = kept m _ refl refl refl refl refl
kept-pull-from [] false m h = absurd (cc)
kept-pull-from (w ∷ rest) block m h = absurd (cc)

kept-pull : (if_empty block : Bool) (m : Machine1) → StallsKept m (try_pull if_empty block m)
unfolding try_pull
kept-pull if_empty block m =
    cond_both (is_pull_void if_empty m) (completed m) (pulled_from m.tx block m) (StallsKept m) (λ e h. stays m) (λ e. kept-pull-from m.tx block m)

ends_mov : (destination : MovDestination) (value : ℕ) → ending_of_mov destination value ≡ Stalled → ⊥
ends_mov moved.Pins v h = cc
ends_mov _ v h = cc

kept-op : (op : PioOp) (number : ℕ) (seen : Seen) (m : Machine1) → StallsKept m (tried op number seen m)
kept-op (Jmp condition address) number seen m h = kept-jmp (is_taken condition seen m) address m _ h
kept-op (Wait polarity source) number seen m h = stays m
kept-op (In source count) number seen m h = kept-in source count seen m h
kept-op (Out destination count) number seen m h = kept-out destination count m h
kept-op (Push if_full block) number seen m h = kept-push if_full block m h
kept-op (Pull if_empty block) number seen m h = kept-pull if_empty block m h
kept-op (Mov destination operation source) number seen m h = absurd (ends_mov destination (mov_value operation source seen m) h)
kept-op (Irq clear wait index) number seen m h =
    cond_both (waits_for_clear clear wait (flag_of index number) seen m) (with_raised m) m (IsKept m) (λ e. kept-keep m.waiting _ m) (λ e. stays m)
kept-op _ number seen m h = absurd (cc)

pub stall_keeps : AStallKeepsTheRest
stall_keeps word op number seen m h =
    let t = (tried op number seen m).machine in
    subst (IsKept m)
    (sym (ended-stalled (delay_of word (worked op number seen m)) (tried op number seen m).ending (worked op number seen m) h))
    (then_kept (kept-op op number seen m h)
    (cond_both (loads_osr op) t (refilled t) (IsKept t) (λ e. stays t)
    (λ e. refill IsKept stays (λ x w rest i. kept x _ refl refl refl refl refl) t)))

-- ---- the bits of an IN

-- so many bits behind others, in a word of 32 bits
joined : (a b j k : ℕ) → j + k ≡ 32 → b < 2 ^ k → (a * 2 ^ k + b) % 2 ^ 32 ≡ a % 2 ^ j * 2 ^ k + b
joined a b j k whole low =
    ap (λ n. (a * 2 ^ k + b) % 2 ^ n) (sym whole) ∙ mod-pow-add (a * 2 ^ k + b) j k
    ∙ ap (λ x. x % 2 ^ j * 2 ^ k + (a * 2 ^ k + b) % 2 ^ k) (div-mul-add a (2 ^ k) b low)
    ∙ ap (λ x. a % 2 ^ j * 2 ^ k + x) (mod-mul-add a (2 ^ k) b low)

fits : (w j k : ℕ) → j + k ≡ 32 → w < 2 ^ 32 → w / 2 ^ k < 2 ^ j
fits w j k whole small =
    let all : 2 ^ k * 2 ^ j ≡ 2 ^ 32 = mul_comm (2 ^ k) (2 ^ j) ∙ sym (pow-add 2 j k) ∙ ap (λ n. 2 ^ n) whole in
    let below : 2 ^ k * (w / 2 ^ k) ≤ w = mul-div-le w (2 ^ k) in
    lt_of_mul-lt-mul_left (2 ^ k) (subst (λ x. 2 ^ k * (w / 2 ^ k) < x) (sym all) (omega (arith, below, small)))

pub bits_in : TheBitsInStandAtTheirEnd
bits_in count value word few many small =
    let there : (32 - count) + count ≡ 32 = omega arith in
    let back : count + (32 - count) ≡ 32 = omega arith in
    let v = value % 2 ^ count in
    let within : v < 2 ^ count = mod-lt value (pow_pos count) in
    let rest = word / 2 ^ count in
    let under : rest < 2 ^ (32 - count) = fits word (32 - count) count there small in
    let left : entered false count value word ≡ word % 2 ^ (32 - count) * 2 ^ count + v = joined word v (32 - count) count there within in
    let right : entered true count value word ≡ v * 2 ^ (32 - count) + rest =
    ap (λ x. x % 2 ^ 32) (add_comm rest (value * 2 ^ (32 - count))) ∙ joined value rest count (32 - count) back under in
    record {
      low = ap (λ x. x % 2 ^ count) left ∙ mod-mul-add (word % 2 ^ (32 - count)) (2 ^ count) v within;
      above = ap (λ x. x / 2 ^ count) left ∙ div-mul-add (word % 2 ^ (32 - count)) (2 ^ count) v within;
      high = ap (λ x. x / 2 ^ (32 - count)) right ∙ div-mul-add v (2 ^ (32 - count)) rest under;
      below = ap (λ x. x % 2 ^ (32 - count)) right ∙ mod-mul-add v (2 ^ (32 - count)) rest under;
    }
