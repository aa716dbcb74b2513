-- A spot in SRAM has the index of a word and is in one of the six banks, and is reached through its port.
use Rattle.std.proofs.Common.{◌≡◌, ℕ, ◌<◌, ◌≤◌, ◌-◌, ◌&&◌, Bool, true, nat_le, if◌then◌else◌, List, [], ◌∷◌, arith}
use Rattle.window_merge.proofs.Shared.{Range, Spot, and_parts, leb-true, place_by, place_of, ranges}
use Rattle.rp_base.specs.declared.map.Spot.TheVariants as spot

abbrev pub HasBank : Spot → Type 0
HasBank (spot.Ram index bank) = (index < 67584) × (bank < 6)
HasBank _ = Unit {0}

-- what a range gives has a bank
record IsBanked (r : Range) : Type 0 where
  banked : (address : ℕ) → address ≤ r.last → HasBank (r.at (address - r.first))

abbrev AreBanked : List Range → Type 0
AreBanked [] = Unit {0}
AreBanked (r ∷ rs) = IsBanked r × AreBanked rs

either : (c : Bool) (t u : Spot) → (c ≡ true → HasBank t) → HasBank u → HasBank (if c then t else u)
either c t u h1 h2 = grind arith

placed : (rs : List Range) (address : ℕ) → AreBanked rs → HasBank (place_by rs address)
placed [] address h = tt
placed (r ∷ rs) address h =
    either (nat_le r.first address && nat_le address r.last) _ _
    (λ e. h.0.banked address (leb-true address r.last (and_parts _ _ e).1)) (placed rs address h.1)

-- the ranges in pairs from the right
infixr 5 ◌&◌
◌&◌ : {A B : Type 0} → A → B → A × B
x & y = (x, y)

all_banked : AreBanked ranges
all_banked = grind arith

pub has_bank : (address : ℕ) → HasBank (place_of address)
unfolding place_of
has_bank address = placed ranges address all_banked
