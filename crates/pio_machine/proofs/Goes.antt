-- What no try of a word changes: the divider and the registers; and how far it changes the FIFOs.
use Rattle.pio_machine.proofs.Shared.{In, Irq, Jmp, List, Machine1, Mov, Out, PioOp, Pull, Push, Seen, Set, [], after_try, ap, arith, common_steps, cond_both, false, flag_of, length, length-append, loads_osr, max, mov_value, nat_le, nat_tests, operation_of, refilled, refl, rx_depth, tried, worked, ℕ, ◌++◌, ◌+◌, ◌∙◌, ◌∷◌, ◌≡◌, ◌≤◌}
use Rattle.pio_machine.proofs.Changes.{Holds, OfIsr, OfOsr, OfLoad, OfPush, refill}
use Rattle.pio_machine.proofs.Changes as change

-- the enable, the registers and the divider stay; TX loses words at most, and RX grows to its depth at most
pub record Goes (m next : Machine1) : Type 0 where
  pub enabled : next.enabled ≡ m.enabled
  pub clkdiv : next.clkdiv ≡ m.clkdiv
  pub execctrl : next.execctrl ≡ m.execctrl
  pub shiftctrl : next.shiftctrl ≡ m.shiftctrl
  pub pinctrl : next.pinctrl ≡ m.pinctrl
  pub acc : next.acc ≡ m.acc
  pub tx : length next.tx ≤ length m.tx
  pub rx : length next.rx ≤ max (length m.rx) (rx_depth m)

same_length : (xs ys : List ℕ) → ys ≡ xs → length ys ≤ length xs
same_length xs ys h = omega (arith, ap (λ zs. length zs) h)

below_both : (xs ys : List ℕ) (d : ℕ) → ys ≡ xs → length ys ≤ max (length xs) d
below_both xs ys d h = omega (arith, ap (λ zs. length zs) h)

pub goes : (m next : Machine1) → next.enabled ≡ m.enabled → next.clkdiv ≡ m.clkdiv → next.execctrl ≡ m.execctrl → next.shiftctrl ≡ m.shiftctrl → next.pinctrl ≡ m.pinctrl → next.acc ≡ m.acc → next.tx ≡ m.tx → next.rx ≡ m.rx → Goes m next
goes m next e c x s p a t r =
    record { enabled = e; clkdiv = c; execctrl = x; shiftctrl = s; pinctrl = p; acc = a; tx = same_length m.tx next.tx t; rx = below_both m.rx next.rx (rx_depth m) r }

pub same_depth : (m next : Machine1) → next.shiftctrl ≡ m.shiftctrl → rx_depth next ≡ rx_depth m
same_depth m next h = rw h refl

pub next_goes : {a b c : Machine1} → Goes a b → Goes b c → Goes a c
next_goes {a} {b} {c} g h =
    record {
      enabled = h.enabled ∙ g.enabled;
      clkdiv = h.clkdiv ∙ g.clkdiv;
      execctrl = h.execctrl ∙ g.execctrl;
      shiftctrl = h.shiftctrl ∙ g.shiftctrl;
      pinctrl = h.pinctrl ∙ g.pinctrl;
      acc = h.acc ∙ g.acc;
      tx = omega (arith, h.tx, g.tx);
      rx = let same = same_depth a b g.shiftctrl in omega (arith, h.rx, g.rx, same);
    }

pub stays : (m : Machine1) → Goes m m
stays m = goes m m refl refl refl refl refl refl refl refl

-- ---- the changes

has_place : (d l k : ℕ) → nat_le d l ≡ false → k ≡ l + 1 → k ≤ max l d
has_place d l k h e = grind (arith, nat_tests, common_steps)

pub holds : Holds Goes
holds = record {
  none = stays;
  beside = λ m x y pc delay w p t r. goes m _ refl refl refl refl refl refl refl refl;
  both = next_goes;
}

isr : OfIsr Goes
isr m v c = goes m _ refl refl refl refl refl refl refl refl

osr : OfOsr Goes
osr m v c = goes m _ refl refl refl refl refl refl refl refl

pub load : OfLoad Goes
load m w rest h =
    record {
      enabled = refl;
      clkdiv = refl;
      execctrl = refl;
      shiftctrl = refl;
      pinctrl = refl;
      acc = refl;
      tx = omega (arith, ap (λ ws. length ws) h);
      rx = below_both m.rx m.rx (rx_depth m) refl;
    }

push : OfPush Goes
push m h =
    record {
      enabled = refl;
      clkdiv = refl;
      execctrl = refl;
      shiftctrl = refl;
      pinctrl = refl;
      acc = refl;
      tx = same_length m.tx m.tx refl;
      rx = has_place (rx_depth m) (length m.rx) (length (m.rx ++ m.isr ∷ [])) h (length-append m.rx (m.isr ∷ []));
    }

-- ---- a try

pub goes-op : (op : PioOp) (number : ℕ) (seen : Seen) (m : Machine1) → Goes m (tried op number seen m).machine
goes-op (Jmp condition address) number seen m = change.jmp holds condition m
goes-op (In source count) number seen m = change.in_ holds isr push source count seen m
goes-op (Out destination count) number seen m = change.out_ holds osr load destination (λ e. isr) count m
goes-op (Push if_full block) number seen m = change.push holds isr push if_full block m
goes-op (Pull if_empty block) number seen m = change.pull holds osr load if_empty block m
goes-op (Mov destination operation source) number seen m =
    change.mov holds destination (λ e. isr) (λ e. osr) (mov_value operation source seen m) m
goes-op (Irq clear wait index) number seen m = change.irq holds clear wait (flag_of index number) seen m
goes-op (Set destination value) number seen m = change.set_ holds destination value m
goes-op _ number seen m = stays m

pub goes-worked : (op : PioOp) (number : ℕ) (seen : Seen) (m : Machine1) → Goes m (worked op number seen m)
goes-worked op number seen m =
    let t = (tried op number seen m).machine in
    next_goes (goes-op op number seen m)
    (cond_both (loads_osr op) t (refilled t) (Goes t) (λ e. stays t) (λ e. refill Goes stays load t))

pub goes-try : (word number : ℕ) (seen : Seen) (m : Machine1) → Goes m (after_try word number seen m)
unfolding after_try
goes-try word number seen m =
    let op = operation_of word in next_goes (goes-worked op number seen m) (change.end holds _ _ (worked op number seen m))
