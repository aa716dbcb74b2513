-- A machine that stalls on the word at PC, to which nothing happens when it is tried again.
use Rattle.pio_machine.proofs.Shared.{Bool, In, InSource, Irq, IrqIndex, List, Machine1, None, Out, OutDestination, Pull, Push, Seen, Wait, WaitSource, [], ap, autopull, false, flag_of, has_bit, if◌then◌else◌, is_autopush_due, is_high, is_met, is_pull_void, is_push_void, is_rx_full, is_spent, not, out_stalls, refilled, refl, sym, true, try_in, try_out, try_pull, try_push, written_by_out, ℕ, ◌&&◌, ◌∙◌, ◌∷◌, ◌≡◌}
use Rattle.pio_words.specs.declared.op.WaitSource.TheVariants as source
use Rattle.pio_machine.specs.Quiet.{loads, IsStuck}

-- ---- autopull

none_due-by : (due spent : Bool) (x y : Machine1) → due && spent ≡ false → (if due then (if spent then y else x) else x) ≡ x
none_due-by true true x y h = absurd (cc)
none_due-by true false x y h = refl
none_due-by false spent x y h = refl

none_loaded : (due spent : Bool) (x : Machine1) → (if due then (if spent then x else x) else x) ≡ x
none_loaded true true x = refl
none_loaded true false x = refl
none_loaded false spent x = refl

stays-by : (tx : List ℕ) (m : Machine1) → m.tx ≡ tx → loads tx m ≡ false → (a d : ℕ) → refilled (record m { acc = a; delay = d }) ≡ record m { acc = a; delay = d }
unfolding refilled
stays-by [] m e h a d = rw e (none_loaded (autopull m) (is_spent m) (record m { acc = a; delay = d; tx = [] }))
stays-by (word ∷ rest) m e h a d = none_due-by (autopull m) (is_spent m) (record m { acc = a; delay = d }) _ h

pub stays : (m : Machine1) → loads m.tx m ≡ false → (a d : ℕ) → refilled (record m { acc = a; delay = d }) ≡ record m { acc = a; delay = d }
stays m h a d = stays-by m.tx m refl h a d

-- ---- the operations that stall

high_beside : (source : WaitSource) (number : ℕ) (seen : Seen) (m : Machine1) (a d : ℕ) → is_high source number seen (record m { acc = a; delay = d }) ≡ is_high source number seen m
high_beside (source.Gpio pin) number seen m a d = refl
high_beside _ number seen m a d = refl

pub stuck_wait : (polarity : Bool) (source : WaitSource) (number : ℕ) (seen : Seen) (m : Machine1)
    → is_met polarity source number seen m ≡ false → loads m.tx m ≡ false → IsStuck (Wait polarity source) number seen m
stuck_wait polarity source number seen m unmet none =
    let same = λ (a d : ℕ). ap (λ high. if polarity then high else not high) (high_beside source number seen m a d) ∙ unmet in
    record {
      ending = λ a d. rw (same a d) refl;
      machine = λ a d. refl;
      osr = λ a d. stays m none a d;
      written = λ a d done. unwritten polarity (is_high source number seen (record m { acc = a; delay = d })) _ done (same a d);
    }
  where
    unwritten : {D : Type 0} (polarity high : Bool) (x done : D) → (if polarity then high else not high) ≡ false
        → (if polarity then (if high then x else done) else done) ≡ done
    unwritten true true x done h = absurd (cc)
    unwritten true false x done h = refl
    unwritten false high x done h = refl

pub stuck_out : (destination : OutDestination) (count number : ℕ) (seen : Seen) (m : Machine1)
    → m.tx_stall ≡ true → m.tx ≡ [] → out_stalls m ≡ true → IsStuck (Out destination count) number seen m
unfolding try_out written_by_out
stuck_out destination count number seen m stall e due = record {
  ending = λ a d. rw due refl;
  machine = λ a d. rw (due, e) (ap (λ t. record m { acc = a; delay = d; tx = []; tx_stall = t }) (sym stall));
  osr = λ a d. refl;
  written = λ a d done. rw due refl;
}

pub stuck_pull : (if_empty : Bool) (number : ℕ) (seen : Seen) (m : Machine1)
    → m.tx_stall ≡ true → m.tx ≡ [] → is_pull_void if_empty m ≡ false → IsStuck (Pull if_empty true) number seen m
unfolding try_pull
stuck_pull if_empty number seen m stall e void = record {
  ending = λ a d. rw (void, e) refl;
  machine = λ a d. rw (void, e) (ap (λ t. record m { acc = a; delay = d; tx = []; tx_stall = t }) (sym stall));
  osr = λ a d. refl;
  written = λ a d done. refl;
}

pub stuck_push : (if_full : Bool) (number : ℕ) (seen : Seen) (m : Machine1)
    → m.rx_stall ≡ true → is_rx_full m ≡ true → is_push_void if_full m ≡ false → loads m.tx m ≡ false → IsStuck (Push if_full true) number seen m
unfolding try_push
stuck_push if_full number seen m stall full void none = record {
  ending = λ a d. rw (void, full) refl;
  machine = λ a d. rw (void, full) (ap (λ t. record m { acc = a; delay = d; rx_stall = t }) (sym stall));
  osr = λ a d. stays m none a d;
  written = λ a d done. refl;
}

pub stuck_in : (source : InSource) (count number : ℕ) (seen : Seen) (m : Machine1) → m.waiting ≡ None → m.progress.shifted ≡ true
    → m.rx_stall ≡ true → is_rx_full m ≡ true → is_autopush_due m ≡ true → loads m.tx m ≡ false → IsStuck (In source count) number seen m
unfolding try_in
stuck_in source count number seen m word shifted stall full due none = record {
  ending = λ a d. rw (word, shifted, due, full) refl;
  machine = λ a d.
      rw (word, shifted, due, full) (ap (λ t. record m { acc = a; delay = d; waiting = None; progress = record m.progress { shifted = true }; rx_stall = t }) (sym stall));
  osr = λ a d. stays m none a d;
  written = λ a d done. refl;
}

pub stuck_irq : (index : IrqIndex) (number : ℕ) (seen : Seen) (m : Machine1) → m.waiting ≡ None → m.progress.raised ≡ true
    → has_bit seen.flags (flag_of index number) ≡ true → loads m.tx m ≡ false → IsStuck (Irq false true index) number seen m
stuck_irq index number seen m word raised flag none = record {
  ending = λ a d. rw (word, raised, flag) refl;
  machine = λ a d. rw (word, raised, flag) refl;
  osr = λ a d. stays m none a d;
  written = λ a d done. rw (word, raised) refl;
}
