-- What words that stall do once, they do once.
use Rattle.std.specs.Int.Bits.{or_zero_l}
use Rattle.pio_machine.proofs.Shared.{Bool, Completed, In, InSource, Irq, IrqIndex, List, Machine1, None, Option, PioOp, Progress, Seen, Some, Stalled, Try, Waiting, [], after_op, ap, completed, false, flag_of, has_bit, if◌then◌else◌, in_value, is_rx_full, kept_in, length, map, min, nothing_done, progress_in, progress_of, pushed, refilled, refl, replicate, shifted_in, shifted_once, stalled, subst, suc, sym, tried, true, try_in, untried, waits_for_clear, with_raised, with_rx_stall, with_set, with_shifted, ℕ, ◌++◌, ◌^◌, ◌∙◌, ◌∷◌, ◌≡◌}
use Rattle.pio_machine.specs.Once.{Attempt, AreTries, last_of, LeavesTheIsr, once_shifted, once_counted, reaches, IsShiftedOnce, AnInShiftsOnce, LeavesTheMemory, set_by, AnIrqRaisesOnce}
use Rattle.pio_machine.proofs.Refills.{Ignores, refilled-keeps, ended-completed, ended-stalled}

-- ---- a try of IN

-- how an autopush ends, by whether it pushes and whether the RX FIFO is full
abbrev pushed_by : Bool → Bool → Machine1 → Try
pushed_by pushes full m =
    if pushes then (if full then stalled (with_rx_stall (with_shifted m)) else completed (pushed m)) else completed m

stalled_leaves : (pushes full : Bool) (m : Machine1) → (pushed_by pushes full m).ending ≡ Stalled → (pushed_by pushes full m).machine ≡ with_rx_stall (with_shifted m)
stalled_leaves true true m h = refl
stalled_leaves true false m h = absurd (cc)
stalled_leaves false full m h = absurd (cc)

completed_leaves : (pushes full : Bool) (m : Machine1) → (pushed_by pushes full m).ending ≡ Completed → (pushed_by pushes full m).machine ≡ (if pushes then pushed m else m)
completed_leaves true true m h = absurd (cc)
completed_leaves true false m h = refl
completed_leaves false full m h = refl

-- what an IN changes besides its memory
abbrev told : Machine1 → ℕ × (ℕ × List ℕ)
told m = (m.isr, (m.isr_count, m.rx))

told-ignored : Ignores told
told-ignored = record { load = λ m w r. refl; pc = λ m p q. refl; waiting = λ m w. refl; delay = λ m d. refl }

-- the machine whose bits have entered, by whether they had before
abbrev entered_by : Bool → ℕ → ℕ → Machine1 → Machine1
entered_by before value count m = if before then m else shifted_in value count m

entered-shiftctrl : (b : Bool) (v c : ℕ) (m : Machine1) → (entered_by b v c m).shiftctrl ≡ m.shiftctrl
entered-shiftctrl true v c m = refl
entered-shiftctrl false v c m = refl

entered-rx : (b : Bool) (v c : ℕ) (m : Machine1) → (entered_by b v c m).rx ≡ m.rx
entered-rx true v c m = refl
entered-rx false v c m = refl

kept-told : (w : Option Waiting) (p : Progress) (m : Machine1) → told (kept_in w p m) ≡ told m
kept-told None p m = refl
kept-told (Some w) p m = refl

-- the memory of the word that is tried stays where both memories do
same-progress : (w : Option Waiting) (m n : Machine1) → n.progress ≡ m.progress → progress_in w n ≡ progress_in w m
same-progress None m n h = h
same-progress (Some w) m n h = refl

kept-progress : (w : Option Waiting) (p : Progress) (m : Machine1) → m.waiting ≡ w → progress_of (kept_in w p m) ≡ p
kept-progress None p m h = ap (λ x. progress_in x (kept_in None p m)) h
kept-progress (Some w) p m h = refl

-- ---- an IN that stalls

record IsKept (s after : Machine1) : Type 0 where
  isr : after.isr ≡ s.isr
  isr_count : after.isr_count ≡ s.isr_count
  shifted : (progress_of after).shifted ≡ true

stall-progress : (s : Machine1) → (progress_of (with_rx_stall (with_shifted s))).shifted ≡ true
stall-progress s =
    ap (λ p. p.shifted) (same-progress (with_shifted s).waiting (with_shifted s) (with_rx_stall (with_shifted s)) refl)
    ∙ ap (λ p. p.shifted) (kept-progress s.waiting (record (progress_of s) { shifted = true }) s refl)

stalled_in : (source : InSource) (count word number : ℕ) (seen : Seen) (m : Machine1)
    → (tried (In source count) number seen m).ending ≡ Stalled
    → IsKept (shifted_once source count seen m) (after_op word (In source count) number seen m)
unfolding try_in
stalled_in source count word number seen m h =
    let s = shifted_once source count seen m in
    let tried_machine : (try_in source count seen m).machine ≡ with_rx_stall (with_shifted s) = stalled_leaves (reaches s.isr_count s) (is_rx_full s) s h in
    let stays : after_op word (In source count) number seen m ≡ refilled (try_in source count seen m).machine = ended-stalled _ _ _ h in
    let is : after_op word (In source count) number seen m ≡ refilled (with_rx_stall (with_shifted s)) = stays ∙ ap refilled tried_machine in
    let kept = ap told is ∙ refilled-keeps told told-ignored.load (with_rx_stall (with_shifted s)) ∙ kept-told s.waiting _ s in
    record {
      isr = ap (λ (p : ℕ × (ℕ × List ℕ)). p.0) kept;
      isr_count = ap (λ (p : ℕ × (ℕ × List ℕ)). p.1.0) kept;
      shifted = ap (λ x. (progress_of x).shifted) is
          ∙ refilled-keeps (λ x. (progress_of x).shifted) (λ x w r. ap (λ p. p.shifted) (same-progress x.waiting x _ refl)) (with_rx_stall (with_shifted s))
          ∙ stall-progress s;
    }

-- ---- an IN that completes

completed_in : {A : Type 0} (f : Machine1 → A) → Ignores f → (source : InSource) (count word number : ℕ) (seen : Seen) (m : Machine1)
    → (tried (In source count) number seen m).ending ≡ Completed
    → f (after_op word (In source count) number seen m)
    ≡ f (if reaches (shifted_once source count seen m).isr_count (shifted_once source count seen m) then pushed (shifted_once source count seen m) else shifted_once source count seen m)
unfolding try_in
completed_in f i source count word number seen m h =
    let s = shifted_once source count seen m in
    let tried_machine : (try_in source count seen m).machine ≡ (if reaches s.isr_count s then pushed s else s) = completed_leaves (reaches s.isr_count s) (is_rx_full s) s h in
    ended-completed f i _ _ _ h ∙ refilled-keeps f i.load _ ∙ ap f tried_machine

-- where it is pushed and where it is not
pushed-told : (b : Bool) (s : Machine1) → told (if b then pushed s else s) ≡ (if b then 0 else s.isr, (if b then 0 else s.isr_count, if b then s.rx ++ s.isr ∷ [] else s.rx))
pushed-told true s = refl
pushed-told false s = refl

-- a machine with the same SHIFTCTRL reaches its threshold at the same counts
same_reach : (s m : Machine1) (count : ℕ) → s.shiftctrl ≡ m.shiftctrl → reaches count s ≡ reaches count m
same_reach s m count h = rw h refl

ends_once : (source : InSource) (count word number : ℕ) (seen : Seen) (m : Machine1)
    → (tried (In source count) number seen m).ending ≡ Completed
    → IsShiftedOnce (shifted_once source count seen m).isr (shifted_once source count seen m).isr_count m (after_op word (In source count) number seen m)
ends_once source count word number seen m h =
    let s = shifted_once source count seen m in
    let same : reaches s.isr_count s ≡ reaches s.isr_count m = same_reach s m s.isr_count (entered-shiftctrl (progress_of m).shifted (in_value source seen m) (min count 32) m) in
    let rx : s.rx ≡ m.rx = entered-rx (progress_of m).shifted (in_value source seen m) (min count 32) m in
    let all = completed_in told told-ignored source count word number seen m h ∙ pushed-told _ s in
    record {
      isr = ap (λ (p : ℕ × (ℕ × List ℕ)). p.0) all ∙ ap (λ b. if b then 0 else s.isr) same;
      isr_count = ap (λ (p : ℕ × (ℕ × List ℕ)). p.1.0) all ∙ ap (λ b. if b then 0 else s.isr_count) same;
      rx = ap (λ (p : ℕ × (ℕ × List ℕ)). p.1.1) all
          ∙ ap (λ b. if b then s.rx ++ s.isr ∷ [] else s.rx) same ∙ ap (λ r. if reaches s.isr_count m then r ++ s.isr ∷ [] else r) rx;
    }

-- ---- all tries of an IN

-- from a try of an IN that has shifted already
later : (source : InSource) (count word number : ℕ) (t : Attempt) (ts : List Attempt)
    → (progress_of t.machine).shifted ≡ true
    → AreTries LeavesTheIsr word (In source count) number t ts
    → IsShiftedOnce t.machine.isr t.machine.isr_count (last_of t ts).machine
    (after_op word (In source count) number (last_of t ts).seen (last_of t ts).machine)
later source count word number t [] h tries =
    let is : shifted_once source count t.seen t.machine ≡ t.machine = ap (λ b. entered_by b (in_value source t.seen t.machine) (min count 32) t.machine) h in
    subst (λ (s : Machine1). IsShiftedOnce s.isr s.isr_count t.machine (after_op word (In source count) number t.seen t.machine)) is
    (ends_once source count word number t.seen t.machine tries)
later source count word number t (u ∷ us) h tries =
    let is : shifted_once source count t.seen t.machine ≡ t.machine = ap (λ b. entered_by b (in_value source t.seen t.machine) (min count 32) t.machine) h in
    let kept = stalled_in source count word number t.seen t.machine tries.0 in
    let isr : u.machine.isr ≡ t.machine.isr = tries.1.isr ∙ kept.isr ∙ ap (λ s. s.isr) is in
    let isr_count : u.machine.isr_count ≡ t.machine.isr_count = tries.1.isr_count ∙ kept.isr_count ∙ ap (λ s. s.isr_count) is in
    let shifted : (progress_of u.machine).shifted ≡ true = ap (λ p. p.shifted) tries.1.progress ∙ kept.shifted in
    let rest = later source count word number u us shifted tries.2 in
    rw (sym isr, sym isr_count) rest

pub an_in_shifts_once : AnInShiftsOnce
an_in_shifts_once source count word number t [] h tries =
    let is : shifted_once source count t.seen t.machine ≡ shifted_in (in_value source t.seen t.machine) (min count 32) t.machine = ap (λ p. entered_by p.shifted (in_value source t.seen t.machine) (min count 32) t.machine) h in
    subst (λ (s : Machine1). IsShiftedOnce s.isr s.isr_count t.machine (after_op word (In source count) number t.seen t.machine)) is
    (ends_once source count word number t.seen t.machine tries)
an_in_shifts_once source count word number t (u ∷ us) h tries =
    let is : shifted_once source count t.seen t.machine ≡ shifted_in (in_value source t.seen t.machine) (min count 32) t.machine = ap (λ p. entered_by p.shifted (in_value source t.seen t.machine) (min count 32) t.machine) h in
    let kept = stalled_in source count word number t.seen t.machine tries.0 in
    let isr : u.machine.isr ≡ once_shifted source count t = tries.1.isr ∙ kept.isr ∙ ap (λ s. s.isr) is in
    let isr_count : u.machine.isr_count ≡ once_counted count t = tries.1.isr_count ∙ kept.isr_count ∙ ap (λ s. s.isr_count) is in
    let shifted : (progress_of u.machine).shifted ≡ true = ap (λ p. p.shifted) tries.1.progress ∙ kept.shifted in
    let rest = later source count word number u us shifted tries.2 in
    rw (sym isr, sym isr_count) rest

-- ---- an IRQ with Wait

irq_leaves : (waits : Bool) (m : Machine1) → (if waits then Stalled else Completed) ≡ Stalled → (if waits then with_raised m else m) ≡ with_raised m
irq_leaves true m h = refl
irq_leaves false m h = absurd (cc)

irq_ends : (waits : Bool) → (if waits then Stalled else Completed) ≡ Completed → waits ≡ false
irq_ends true h = absurd (cc)
irq_ends false h = refl

waits-raised : (raised : Bool) (flag : ℕ) (seen : Seen) → (if raised then has_bit seen.flags flag else true) ≡ false → has_bit seen.flags flag ≡ false
waits-raised true flag seen h = h
waits-raised false flag seen h = absurd (cc)

stalled_irq : (index : IrqIndex) (word number : ℕ) (seen : Seen) (m : Machine1)
    → (tried (Irq false true index) number seen m).ending ≡ Stalled
    → (progress_of (after_op word (Irq false true index) number seen m)).raised ≡ true
stalled_irq index word number seen m h =
    let waits = waits_for_clear false true (flag_of index number) seen m in
    let is : after_op word (Irq false true index) number seen m ≡ refilled (with_raised m) = ended-stalled _ _ _ h ∙ ap refilled (irq_leaves waits m h) in
    ap (λ x. (progress_of x).raised) is ∙ refilled-keeps (λ x. (progress_of x).raised) (λ x w r. ap (λ p. p.raised) (same-progress x.waiting x _ refl)) _
    ∙ ap (λ p. p.raised) (kept-progress m.waiting _ m refl)

sets_later : (index : IrqIndex) (number : ℕ) (t : Attempt) → (progress_of t.machine).raised ≡ true → set_by (Irq false true index) number t ≡ 0
sets_later index number t h = ap (λ b. (if b then nothing_done else with_set (flag_of index number) nothing_done).set) h

-- from a try of one that has raised already
record IsLater (op : PioOp) (number flag : ℕ) (t : Attempt) (ts : List Attempt) : Type 0 where
  none : map (set_by op number) (t ∷ ts) ≡ replicate (suc (length ts)) 0
  clear : has_bit (last_of t ts).seen.flags flag ≡ false

later_irq : (index : IrqIndex) (word number : ℕ) (t : Attempt) (ts : List Attempt)
    → (progress_of t.machine).raised ≡ true
    → AreTries LeavesTheMemory word (Irq false true index) number t ts
    → IsLater (Irq false true index) number (flag_of index number) t ts
later_irq index word number t [] h tries =
    record {
      none = ap (λ x. x ∷ []) (sets_later index number t h);
      clear = waits-raised (progress_of t.machine).raised (flag_of index number) t.seen (irq_ends _ tries);
    }
later_irq index word number t (u ∷ us) h tries =
    let raised : (progress_of u.machine).raised ≡ true = ap (λ p. p.raised) tries.1.progress ∙ stalled_irq index word number t.seen t.machine tries.0 in
    let rest = later_irq index word number u us raised tries.2 in
    record {
      none = ap (λ x. x ∷ map (set_by (Irq false true index) number) (u ∷ us)) (sets_later index number t h) ∙ ap (λ xs. 0 ∷ xs) rest.none;
      clear = rest.clear;
    }

sets_first : (index : IrqIndex) (number : ℕ) (t : Attempt) → progress_of t.machine ≡ untried → set_by (Irq false true index) number t ≡ 2 ^ flag_of index number
sets_first index number t h =
    ap (λ p. (if p.raised then nothing_done else with_set (flag_of index number) nothing_done).set) h ∙ or_zero_l (2 ^ flag_of index number)

first_waits : (raised waits : Bool) → raised ≡ false → (if raised then waits else true) ≡ true
first_waits true w h = absurd (cc)
first_waits false w h = refl

pub an_irq_raises_once : AnIrqRaisesOnce
an_irq_raises_once index word number t [] h tries =
    let clear : waits_for_clear false true (flag_of index number) t.seen t.machine ≡ false = irq_ends _ tries in
    let waits : waits_for_clear false true (flag_of index number) t.seen t.machine ≡ true = first_waits (progress_of t.machine).raised _ (ap (λ p. p.raised) h) in
    absurd (cc)
an_irq_raises_once index word number t (u ∷ us) h tries =
    let raised : (progress_of u.machine).raised ≡ true = ap (λ p. p.raised) tries.1.progress ∙ stalled_irq index word number t.seen t.machine tries.0 in
    let rest = later_irq index word number u us raised tries.2 in
    record { first = sets_first index number t h; others = rest.none; clear = rest.clear }
