-- What holds of the small changes of a machine holds of its operations.
use Rattle.pio_machine.proofs.Shared.{Bool, Completed, Ending, Executes, InSource, Jumped, List, Machine1, MovDestination, None, Option, OutDestination, Progress, Seen, SetDestination, Some, Stalled, Waiting, [], after_irq, after_jmp, after_set, autopull, completed, cond_both, ended, false, if◌then◌else◌, is_pull_void, is_rx_full, is_spent, kept_in, loaded, loaded_from, nat_lt, out_done, out_stalls, progress_of, pulled_from, push_threshold, pushed, refilled, refl, shifted_in, shifted_once, shifted_out, stalled, starved, stepped, stepped_past, true, try_in, try_out, try_pull, try_push, try_push_now, waits_for_clear, with_isr_cleared, with_moved, with_out, with_raised, with_rx_stall, with_shifted, ℕ, ◌&&◌, ◌∷◌, ◌≡◌}
use Rattle.pio_words.specs.declared.op.JmpCondition.{JmpCondition}
use Rattle.pio_words.specs.declared.op.JmpCondition.TheVariants as jump
use Rattle.pio_words.specs.declared.op.OutDestination.TheVariants as out
use Rattle.pio_words.specs.declared.op.SetDestination.TheVariants as set
use Rattle.pio_words.specs.declared.op.MovDestination.TheVariants as moved

-- it holds where neither the registers, the divider, the shift registers nor the FIFOs change,
-- and of two changes where it holds of each
pub record Holds (R : Machine1 → Machine1 → Type 0) : Type 0 where
  pub none : (m : Machine1) → R m m
  pub beside : (m : Machine1) (x y pc delay : ℕ) (w : Option Waiting) (p : Progress) (t r : Bool)
      → R m (record m { x = x; y = y; pc = pc; delay = delay; waiting = w; progress = p; tx_stall = t; rx_stall = r })
  pub both : {a b c : Machine1} → R a b → R b c → R a c

-- where a shift register changes, where the OSR is loaded from TX, and where the ISR goes to RX
abbrev pub OfIsr : (Machine1 → Machine1 → Type 0) → Type 0
OfIsr R = (m : Machine1) (isr count : ℕ) → R m (record m { isr = isr; isr_count = count })

abbrev pub OfOsr : (Machine1 → Machine1 → Type 0) → Type 0
OfOsr R = (m : Machine1) (osr count : ℕ) → R m (record m { osr = osr; osr_count = count })

abbrev pub OfLoad : (Machine1 → Machine1 → Type 0) → Type 0
OfLoad R =
    (m : Machine1) (word : ℕ) (rest : List ℕ) → m.tx ≡ word ∷ rest → R m (record m { osr = word; osr_count = 0; tx = rest })

abbrev pub OfPush : (Machine1 → Machine1 → Type 0) → Type 0
OfPush R = (m : Machine1) → is_rx_full m ≡ false → R m (pushed m)

-- ---- the OSR from the TX FIFO

load : (R : Machine1 → Machine1 → Type 0) → ((m : Machine1) → R m m) → OfLoad R → (words : List ℕ) (m : Machine1) → m.tx ≡ words
    → R m (loaded_from words m)
load R none loads [] m e = none m
load R none loads (word ∷ rest) m e = loads m word rest e

pub refill : (R : Machine1 → Machine1 → Type 0) → ((m : Machine1) → R m m) → OfLoad R → (m : Machine1) → R m (refilled m)
unfolding refilled
refill R none loads m =
    cond_both (autopull m) (if is_spent m then loaded m else m) m (R m)
    (λ e. cond_both (is_spent m) (loaded m) m (R m) (λ i. load R none loads m.tx m refl) (λ i. none m)) (λ e. none m)

-- ---- the operations

pub jmp : {R : Machine1 → Machine1 → Type 0} → Holds R → (condition : JmpCondition) (m : Machine1) → R m (after_jmp condition m)
jmp h jump.XDecrement m = h.beside m _ _ _ _ _ _ _ _
jmp h jump.YDecrement m = h.beside m _ _ _ _ _ _ _ _
jmp h _ m = h.none m

pub keep : {R : Machine1 → Machine1 → Type 0} → Holds R → (w : Option Waiting) (p : Progress) (m : Machine1) → R m (kept_in w p m)
keep h None p m = h.beside m _ _ _ _ _ _ _ _
keep h (Some w) p m = h.beside m _ _ _ _ _ _ _ _

pub irq : {R : Machine1 → Machine1 → Type 0} → Holds R → (clear wait : Bool) (flag : ℕ) (seen : Seen) (m : Machine1)
    → R m (after_irq clear wait flag seen m)
irq {R} h clear wait flag seen m =
    cond_both (waits_for_clear clear wait flag seen m) (with_raised m) m (R m) (λ e. keep h m.waiting _ m) (λ e. h.none m)

shift : {R : Machine1 → Machine1 → Type 0} → Holds R → OfIsr R → (before : Bool) (value count : ℕ) (m : Machine1)
    → R m (if before then m else shifted_in value count m)
shift h isr true v c m = h.none m
shift h isr false v c m = isr m _ _

autopush : {R : Machine1 → Machine1 → Type 0} → Holds R → OfPush R → (pushes full : Bool) (m : Machine1) → is_rx_full m ≡ full
    → R m (if pushes then (if full then stalled (with_rx_stall (with_shifted m)) else completed (pushed m))
    else completed m).machine
autopush h push true true m e = h.both (keep h m.waiting _ m) (h.beside _ _ _ _ _ _ _ _ _)
autopush h push true false m e = push m e
autopush h push false full m e = h.none m

pub in_ : {R : Machine1 → Machine1 → Type 0} → Holds R → OfIsr R → OfPush R
    → (source : InSource) (count : ℕ) (seen : Seen) (m : Machine1)
    → R m (try_in source count seen m).machine
unfolding try_in
in_ h isr push source count seen m =
    h.both (shift h isr (progress_of m).shifted _ _ m) (autopush h push _ _ (shifted_once source count seen m) refl)

push_now : {R : Machine1 → Machine1 → Type 0} → Holds R → OfIsr R → OfPush R
    → (full block : Bool) (m : Machine1) → is_rx_full m ≡ full
    → R m (if full then (if block then stalled (with_rx_stall m) else completed (with_isr_cleared (with_rx_stall m)))
    else completed (pushed m)).machine
push_now h isr push true true m e = h.beside m _ _ _ _ _ _ _ _
push_now h isr push true false m e = h.both (h.beside m _ _ _ _ _ _ _ _) (isr (with_rx_stall m) _ _)
push_now h isr push false block m e = push m e

pub push : {R : Machine1 → Machine1 → Type 0} → Holds R → OfIsr R → OfPush R → (if_full block : Bool) (m : Machine1)
    → R m (try_push if_full block m).machine
unfolding try_push
push {R} h isr pushes if_full block m =
    cond_both (if_full && nat_lt m.isr_count (push_threshold m)) (completed m) (try_push_now block m) (λ t. R m t.machine)
    (λ e. h.none m) (λ e. push_now h isr pushes (is_rx_full m) block m refl)

starve : {R : Machine1 → Machine1 → Type 0} → Holds R → OfLoad R → (words : List ℕ) (m : Machine1) → R m (starved words m)
starve {R} h loads [] m = h.beside m _ _ _ _ _ _ _ _
starve {R} h loads (word ∷ rest) m = load R h.none loads m.tx m refl

pub put : {R : Machine1 → Machine1 → Type 0} → Holds R → (destination : OutDestination) → (destination ≡ out.Isr → OfIsr R)
    → (value count : ℕ) (m : Machine1) → R m (with_out destination value count m)
put h out.X isr v c m = h.beside m _ _ _ _ _ _ _ _
put h out.Y isr v c m = h.beside m _ _ _ _ _ _ _ _
put h out.Isr isr v c m = isr refl m _ _
put h _ isr v c m = h.none m

pub out_ : {R : Machine1 → Machine1 → Type 0} → Holds R → OfOsr R → OfLoad R
    → (destination : OutDestination) → (destination ≡ out.Isr → OfIsr R)
    → (count : ℕ) (m : Machine1) → R m (try_out destination count m).machine
unfolding try_out
out_ {R} h osr loads destination isr count m =
    cond_both (out_stalls m) (stalled (starved m.tx m)) (out_done destination _ m) (λ t. R m t.machine)
    (λ e. starve h loads m.tx m)
    (λ e. h.both (osr m _ _) (h.both (put h destination isr _ _ (shifted_out _ m)) (refill R h.none loads _)))

pull_from : {R : Machine1 → Machine1 → Type 0} → Holds R → OfOsr R → OfLoad R → (words : List ℕ) (block : Bool) (m : Machine1)
    → R m (pulled_from words block m).machine
pull_from {R} h osr loads [] true m = h.beside m _ _ _ _ _ _ _ _
pull_from {R} h osr loads [] false m = osr m _ _
pull_from {R} h osr loads (word ∷ rest) block m = load R h.none loads m.tx m refl

pub pull : {R : Machine1 → Machine1 → Type 0} → Holds R → OfOsr R → OfLoad R → (if_empty block : Bool) (m : Machine1)
    → R m (try_pull if_empty block m).machine
unfolding try_pull
pull {R} h osr loads if_empty block m =
    cond_both (is_pull_void if_empty m) (completed m) (pulled_from m.tx block m) (λ t. R m t.machine) (λ e. h.none m)
    (λ e. pull_from h osr loads m.tx block m)

pub mov : {R : Machine1 → Machine1 → Type 0} → Holds R → (destination : MovDestination) → (destination ≡ moved.Isr → OfIsr R)
    → (destination ≡ moved.Osr → OfOsr R) → (value : ℕ) (m : Machine1) → R m (with_moved destination value m)
mov h moved.X isr osr v m = h.beside m _ _ _ _ _ _ _ _
mov h moved.Y isr osr v m = h.beside m _ _ _ _ _ _ _ _
mov h moved.Isr isr osr v m = isr refl m _ _
mov h moved.Osr isr osr v m = osr refl m _ _
mov h _ isr osr v m = h.none m

pub set_ : {R : Machine1 → Machine1 → Type 0} → Holds R
    → (destination : SetDestination) (value : ℕ) (m : Machine1) → R m (after_set destination value m)
set_ h set.X v m = h.beside m _ _ _ _ _ _ _ _
set_ h set.Y v m = h.beside m _ _ _ _ _ _ _ _
set_ h _ v m = h.none m

-- ---- the end of a try

past : {R : Machine1 → Machine1 → Type 0} → Holds R → (w : Option Waiting) (m : Machine1) → R m (stepped_past w m)
past h None m = h.beside m _ _ _ _ _ _ _ _
past h (Some w) m = h.beside m _ _ _ _ _ _ _ _

pub end : {R : Machine1 → Machine1 → Type 0} → Holds R → (delay : ℕ) (e : Ending) (m : Machine1) → R m (ended delay e m)
unfolding ended
end h delay Stalled m = h.none m
end h delay Completed m = h.both (past h m.waiting m) (h.beside (stepped m) _ _ _ _ _ _ _ _)
end h delay (Jumped address) m = h.beside m _ _ _ _ _ _ _ _
end h delay (Executes word) m = h.both (past h m.waiting m) (h.beside (stepped m) _ _ _ _ _ _ _ _)
