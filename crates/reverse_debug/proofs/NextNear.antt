-- The near stretch begins at a multiple of the spacing.
use Rattle.reverse_debug.proofs.Shared.{arith, cases_lt, inl, inr, mod-lt, ℕ, ◌%◌, ◌*◌, ◌+◌, ◌-◌, ◌<◌, ◌≡◌, ◌≤◌}
use Rattle.reverse_debug.specs.Laws.{TheNextMoveBackIsNear}
use Rattle.reverse_debug.proofs.Rings.{next_multiple, multiple_below, within_of, low_within}

-- a multiple that is not above a cycle is not above the greatest one
not_above : (o n d : ℕ) → 0 < d → o % d ≡ 0 → o ≤ n → o ≤ n - n % d
not_above o n d some multiple le = elim (cases_lt (n - n % d) o) [
  | inr low ↦ low
  | inl lt ↦ absurd (
      let rest : n % d < d = mod-lt n some in
      let none : (n - n % d) % d ≡ 0 = multiple_below n d in
      let next : n - n % d - (n - n % d) % d + d ≤ o = next_multiple (n - n % d) d o some multiple lt in
      omega arith)
]

pub the_next_move_back_is_near : TheNextMoveBackIsNear
the_next_move_back_is_near w s k within target from to =
    let origin : s.near.origin ≤ s.now.cycle - s.now.cycle % s.ring.spacing = not_above s.near.origin s.now.cycle s.ring.spacing k.ring.some k.stretch k.behind in
    let low : s.now.cycle - s.near.origin < 64 * s.near.spacing = low_within s.near s.now.cycle within in
    within_of s.near target (omega arith) (omega arith)
