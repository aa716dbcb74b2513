-- Priorities (ARMv6-M Architecture Reference Manual, B1.5.4): a lower number comes first.
use Rattle.std.specs.Prelude.{◌≡◌, ℕ, Bool, true, false, ◌||◌, ◌&&◌, ◌==◌, nat_lt, ℤ, pos, negsuc, int_lt, if◌then◌else◌, List, [], ◌∷◌, Option, Some, None, bit_and, slice_index}
use Rattle.std.specs.Int.{int_min}
use Rattle.std.specs.Ordering.{int_eq}
use Rattle.m0_nvic.specs.Exceptions.{NMI, HARDFAULT}
use Rattle.m0_nvic.specs.State.{State}
use Rattle.m0_nvic.specs.Numbers.{members, is_member}

-- the priority of an exception: NMI and HardFault have fixed ones
abbrev pub rank_of : State → ℕ → ℤ
rank_of s n = if n == NMI then negsuc 1 else if n == HARDFAULT then negsuc 0 else pos (slice_index s.priorities n)

-- pairs of priority and number in their order
abbrev pub precedes : State → ℕ → ℕ → Bool
precedes s n m = int_lt (rank_of s n) (rank_of s m) || (int_eq (rank_of s n) (rank_of s m) && nat_lt n m)

-- the number whose pair is the least
abbrev pub nearer : State → ℕ → Option ℕ → Option ℕ
nearer s n None = Some n
nearer s n (Some m) = if precedes s m n then Some m else Some n

abbrev pub least : State → List ℕ → Option ℕ
least s [] = None
least s (n ∷ ns) = nearer s n (least s ns)

-- the least member of a set; IsLeast says that it is one
unfoldable pub least_of : State → ℕ → Option ℕ
least_of s set = least s (members set)

-- a member of a set that no member precedes, or none, where the set has no member
abbrev pub IsLeast : State → ℕ → Option ℕ → Type 0
IsLeast s set None = (n : ℕ) → is_member n set ≡ false
IsLeast s set (Some m) = (is_member m set ≡ true) × ((n : ℕ) → is_member n set ≡ true → precedes s n m ≡ false)

-- the best exception: the least one that is pending and enabled
abbrev pub best_of : State → Option ℕ
best_of s = least_of s (bit_and s.pending s.enabled)

-- the priority of the least active exception, 256 where none is active (B1.5.4)
abbrev pub rank_or_none : State → Option ℕ → ℤ
rank_or_none s None = pos 256
rank_or_none s (Some n) = rank_of s n

abbrev pub active_priority : State → ℤ
active_priority s = rank_or_none s (least_of s s.active)

-- PRIMASK raises it to 0
abbrev pub priority_of : State → Bool → ℤ
priority_of s primask = if primask then int_min (active_priority s) (pos 0) else active_priority s

-- the best exception comes before the execution priority
abbrev pub comes_before : State → ℤ → Option ℕ → Bool
comes_before s priority None = false
comes_before s priority (Some n) = int_lt (rank_of s n) priority

-- it wakes a sleeping core whatever PRIMASK is (A6.7.76, WFI)
abbrev pub wakes_of : State → Bool
wakes_of s = comes_before s (priority_of s false) (best_of s)
