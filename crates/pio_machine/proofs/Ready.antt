-- No cycle changes what the registers say.
use Rattle.pio_machine.proofs.Shared.{Machine1, PioOp, Seen, advanced, after_cycle, refl, settings_of, tried, worked, ℕ, ◌∙◌, ◌≡◌}
use Rattle.pio_machine.proofs.Goes.{Goes, goes-op, goes-worked}
use Rattle.pio_machine.proofs.Clock.{goes-cycle, advanced-keeps}

goes-settings : (m next : Machine1) → Goes m next → settings_of next ≡ settings_of m
goes-settings m next g = rw g.clkdiv (rw g.execctrl (rw g.shiftctrl (rw g.pinctrl refl)))

pub settings_advanced : (m : Machine1) → settings_of (advanced m) ≡ settings_of m
settings_advanced m = advanced-keeps settings_of (λ x a. refl) m

pub settings_kept : (number : ℕ) (seen : Seen) (m : Machine1) → settings_of (after_cycle number seen m) ≡ settings_of m
settings_kept number seen m = goes-settings (advanced m) (after_cycle number seen m) (goes-cycle number seen m) ∙ settings_advanced m

pub settings_tried : (op : PioOp) (number : ℕ) (seen : Seen) (m : Machine1) → settings_of (tried op number seen m).machine ≡ settings_of m
settings_tried op number seen m = goes-settings m (tried op number seen m).machine (goes-op op number seen m)

pub settings_worked : (op : PioOp) (number : ℕ) (seen : Seen) (m : Machine1) → settings_of (worked op number seen m) ≡ settings_of m
settings_worked op number seen m = goes-settings m (worked op number seen m) (goes-worked op number seen m)
