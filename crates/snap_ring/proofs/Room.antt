-- Of 64 snapshots one is free where a state is to be kept.
use Rattle.std.proofs.Common.{◌≡◌, ◌≤◌, ◌<◌, ℕ, suc, ◌+◌, ◌-◌, ◌*◌, ◌/◌, ◌%◌, ◌==◌, true, false, not, ◌&&◌, nat_lt, nat_le, List, [], ◌∷◌, length, refl, ap, ◌∙◌, sym, arith, subst, inl, inr}
use Rattle.std.proofs.Math.Nat.{div-add-mod, div-lt_iff_lt-mul}
use Rattle.std.specs.List.{list_any, AllByRecursion, IsDistinct}
use Rattle.std.specs.Prelude.{map}
use Rattle.std.proofs.Math.Dec.{eqb}
use Rattle.std.proofs.lemmas.Bool.{and_parts, not-true, or_parts, or_cases, eqb-true, eqb-false, ltb-true, leb-true, false_from_ne_true}
use Rattle.std.proofs.lemmas.Map.Steps.{length-le_from_distinct_below}
use Rattle.rp_machine.specs.State.{State}
use Rattle.snap_ring.specs.Ring.{is_kept, is_within, is_due, WereDue}

-- a cycle within the stretch
pub record IsWithin (spacing origin cycle : ℕ) : Type 0 where
  pub after : origin ≤ cycle
  pub below : cycle - origin < 64 * spacing

pub within : (spacing origin cycle : ℕ) → is_within spacing origin cycle ≡ true → IsWithin spacing origin cycle
within spacing origin cycle h =
    let a = and_parts (nat_le origin cycle) (nat_lt (cycle - origin) (64 * spacing)) h in
    record {
      after = leb-true origin cycle a.0;
      below = ltb-true (cycle - origin) (64 * spacing) a.1;
    }

pub record IsDue (spacing origin : ℕ) (kept : List State) (cycle : ℕ) : Type 0 where
  pub place : IsWithin spacing origin cycle
  pub multiple : (cycle - origin) % spacing ≡ 0
  pub new : is_kept cycle kept ≡ false

pub due : (spacing origin : ℕ) (kept : List State) (cycle : ℕ) → is_due spacing origin kept cycle ≡ true → IsDue spacing origin kept cycle
due spacing origin kept cycle h =
    let a = and_parts (is_within spacing origin cycle) (((cycle - origin) % spacing == 0) && not (is_kept cycle kept)) h in
    let b = and_parts ((cycle - origin) % spacing == 0) (not (is_kept cycle kept)) a.1 in
    record {
      place = within spacing origin cycle a.0;
      multiple = eqb-true ((cycle - origin) % spacing) 0 b.0;
      new = not-true (is_kept cycle kept) b.1;
    }

-- the numbers of the snapshots
slots : ℕ → ℕ → List State → List ℕ
slots spacing origin kept = map (λ s. (s.cycle - origin) / spacing) kept

pub positive : (spacing origin : ℕ) (kept : List State) → WereDue spacing origin kept → 0 < spacing
positive spacing origin [] h = h
positive spacing origin (s ∷ older) h = positive spacing origin older h.1

two_apart : (spacing a b : ℕ) → 0 < spacing → a % spacing ≡ 0 → b % spacing ≡ 0 → a / spacing ≡ b / spacing → a ≡ b
two_apart spacing a b pos x y z =
    sym (div-add-mod a spacing) ∙ ap (λ q. spacing * q + a % spacing) z ∙ ap (λ r. spacing * (b / spacing) + r) (x ∙ sym y)
    ∙ div-add-mod b spacing

slot_below : (spacing a : ℕ) → 0 < spacing → a < 64 * spacing → a / spacing < 64
slot_below spacing a pos lt = (div-lt_iff_lt-mul pos).1 lt

-- two cycles that are as far from an origin
as_far : (origin a b : ℕ) → origin ≤ a → origin ≤ b → a - origin ≡ b - origin → a ≡ b
as_far origin a b x y same = omega (arith, x, y, same)

apart : (spacing origin cycle : ℕ) (older : List State) → WereDue spacing origin older → origin ≤ cycle → (cycle - origin) % spacing ≡ 0 →
    is_kept cycle older ≡ false → AllByRecursion (λ y. eqb ((cycle - origin) / spacing) y ≡ false) (slots spacing origin older)
unfolding slots
apart spacing origin cycle [] w after m h = tt
apart spacing origin cycle (s ∷ older) w after m h =
    let parts = or_parts (s.cycle == cycle) (is_kept cycle older) h in
    let was = due spacing origin older s.cycle w.0 in (
      false_from_ne_true (eqb ((cycle - origin) / spacing) ((s.cycle - origin) / spacing)) (λ same.
          eqb-false s.cycle cycle parts.0
          (as_far origin s.cycle cycle was.place.after after
          (sym (two_apart spacing (cycle - origin) (s.cycle - origin) (positive spacing origin older w.1) m was.multiple
          (eqb-true ((cycle - origin) / spacing) ((s.cycle - origin) / spacing) same))))),
      apart spacing origin cycle older w.1 after m parts.1,
    )

distinct : (spacing origin : ℕ) (kept : List State) → WereDue spacing origin kept → IsDistinct eqb (slots spacing origin kept)
unfolding slots IsDistinct
distinct spacing origin [] w = tt
distinct spacing origin (s ∷ older) w =
    let was = due spacing origin older s.cycle w.0 in
    (apart spacing origin s.cycle older w.1 was.place.after was.multiple was.new, distinct spacing origin older w.1)

below : (spacing origin : ℕ) (kept : List State) → WereDue spacing origin kept → (q : ℕ) → list_any (eqb q) (slots spacing origin kept) ≡ true → q < 64
unfolding slots
below spacing origin [] w q h = absurd (cc)
below spacing origin (s ∷ older) w q h =
    let was = due spacing origin older s.cycle w.0 in
    let low = slot_below spacing (s.cycle - origin) (positive spacing origin older w.1) was.place.below in
    elim (or_cases (eqb q ((s.cycle - origin) / spacing)) (list_any (eqb q) (slots spacing origin older)) h) as (λ _. q < 64) [
      | inl here ↦ omega (arith, low, eqb-true q ((s.cycle - origin) / spacing) here)
      | inr there ↦ below spacing origin older w.1 q there
    ]

slots-length : (spacing origin : ℕ) (kept : List State) → length (slots spacing origin kept) ≡ length kept
unfolding slots
slots-length spacing origin [] = refl
slots-length spacing origin (s ∷ older) = ap suc (slots-length spacing origin older)

pub at_most_64 : (spacing origin : ℕ) (kept : List State) → WereDue spacing origin kept → length kept ≤ 64
at_most_64 spacing origin kept w =
    subst (λ n. n ≤ 64) (slots-length spacing origin kept)
    (length-le_from_distinct_below (slots spacing origin kept) 64 (distinct spacing origin kept w) (below spacing origin kept w))

pub room : (spacing origin : ℕ) (kept : List State) (s : State) → WereDue spacing origin kept → is_due spacing origin kept s.cycle ≡ true → length kept < 64
room spacing origin kept s w h = omega (arith, at_most_64 spacing origin (s ∷ kept) (h, w))
