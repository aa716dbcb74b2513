-- What autopull and the end of a word leave.
use Rattle.pio_machine.proofs.Shared.{Completed, Ending, List, Machine1, None, Option, Progress, Some, Stalled, Waiting, ap, ended, next_address, refilled, refl, stepped, stepped_past, untried, with_delay, ℕ, ◌∙◌, ◌≡◌}
use Rattle.pio_machine.proofs.Changes.{refill}

-- it changes the OSR, its count and the TX FIFO alone
abbrev pub LooksElsewhere : {A : Type 0} → (Machine1 → A) → Type 0
LooksElsewhere f = (m : Machine1) (word : ℕ) (rest : List ℕ) → f (record m { osr = word; osr_count = 0; tx = rest }) ≡ f m

pub refilled-keeps : {A : Type 0} (f : Machine1 → A) → LooksElsewhere f → (m : Machine1) → f (refilled m) ≡ f m
refilled-keeps f h m = refill (λ a b. f b ≡ f a) (λ a. refl) (λ a word rest e. h a word rest) m

-- what neither autopull nor the end of a word changes
pub record Ignores {A : Type 0} (f : Machine1 → A) : Type 0 where
  pub load : LooksElsewhere f
  pub pc : (m : Machine1) (address : ℕ) (p : Progress) → f (record m { pc = address; progress = p }) ≡ f m
  pub waiting : (m : Machine1) (w : Option Waiting) → f (record m { waiting = w }) ≡ f m
  pub delay : (m : Machine1) (d : ℕ) → f (record m { delay = d }) ≡ f m

stepped-keeps : {A : Type 0} (f : Machine1 → A) → Ignores f → (w : Option Waiting) (m : Machine1) → f (stepped_past w m) ≡ f m
stepped-keeps f h None m = h.pc m (next_address m) untried
stepped-keeps f h (Some w) m = h.waiting m None

completed-keeps : {A : Type 0} (f : Machine1 → A) → Ignores f → (d : ℕ) (m : Machine1) → f (with_delay d (stepped m)) ≡ f m
completed-keeps f h d m = h.delay (stepped m) d ∙ stepped-keeps f h m.waiting m

pub ended-completed : {A : Type 0} (f : Machine1 → A) → Ignores f → (d : ℕ) (e : Ending) (m : Machine1) → e ≡ Completed → f (ended d e m) ≡ f m
unfolding ended
ended-completed f h d e m c = ap (λ x. f (ended d x m)) c ∙ completed-keeps f h d m

pub ended-stalled : (d : ℕ) (e : Ending) (m : Machine1) → e ≡ Stalled → ended d e m ≡ m
unfolding ended
ended-stalled d e m s = ap (λ x. ended d x m) s
