-- How many pages differ, page by page.
use Rattle.std.proofs.Common.{◌≡◌, ℕ, zero, suc, ◌+◌, ◌*◌, ◌≤◌, Bool, true, false, if◌then◌else◌, List, [], ◌∷◌, length, ap, arith, add-one}
use Rattle.rp_machine.specs.State.{State}
use Rattle.snap_ring.specs.Pages.{is_same_page, differing}
use Rattle.snap_ring.specs.Ring.{stored_for, stored_of}

pub differing-next : (page : ℕ) (before now : List ℕ) →
    differing (page + 1) before now ≡ differing page before now + (if is_same_page page before now then 0 else 1)
unfolding differing
differing-next page before now = ap (λ n. differing n before now) (add-one page)

at_most_one : (t : Bool) → (if t then 0 else 1) ≤ 1
at_most_one true = omega arith
at_most_one false = omega arith

pub differing-le : (n : ℕ) (before now : List ℕ) → differing n before now ≤ n
unfolding differing
differing-le zero before now = omega arith
differing-le (suc n) before now = omega (arith, differing-le n before now, at_most_one (is_same_page n before now))

stored_for-le : (s : State) (older : List State) → stored_for s older ≤ 264
stored_for-le s [] = omega arith
stored_for-le s (last ∷ older) = differing-le 264 last.sram s.sram

pub stored_of-le : (kept : List State) → stored_of kept ≤ 264 * length kept
stored_of-le [] = omega arith
stored_of-le (s ∷ older) = omega (arith, stored_of-le older, stored_for-le s older)
