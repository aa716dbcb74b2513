-- How the ring holds its snapshots: pages that are stored once, and for each snapshot the numbers of its pages (the project's own).
use Rattle.std.specs.Prelude.{◌≡◌, ◌≤◌, ◌<◌, ℕ, ◌==◌, Bool, false, if◌then◌else◌, List, [], ◌∷◌, ◌++◌, length, map, drop, slice_index, slice_index_or, nat_eq, Option, Some, None}
use Rattle.std.specs.List.{AllByRecursion}
use Rattle.std.specs.Cmp.Lexicographic.{pointwise}
use Rattle.rp_machine.specs.State.{State}
use Rattle.rp_machine.specs.Rest.{state_with}
use Rattle.snap_ring.specs.declared.snapshot.Snapshot.{Snapshot}
use Rattle.snap_ring.specs.Pages.{differing}
use Rattle.snap_ring.specs.Ring.{WereDue, stored_of}

-- the words of a stored page
abbrev pub page_at : List (List ℕ) → ℕ → List ℕ
page_at pages number = slice_index_or pages number []

-- SRAM by the numbers of its pages
abbrev pub sram_of : List (List ℕ) → List ℕ → List ℕ
sram_of pages [] = []
sram_of pages (number ∷ numbers) = page_at pages number ++ sram_of pages numbers

abbrev pub IsPage : List ℕ → Type 0
IsPage words = length words ≡ 256

-- each of the 264 numbers is that of a stored page
pub record AreStored (count : ℕ) (numbers : List ℕ) : Type 0 where
  pub long : length numbers ≡ 264
  pub below : AllByRecursion (λ n. n < count) numbers

-- the words are those of the page in force
abbrev pub is_in_force : List (List ℕ) → Option ℕ → List ℕ → Bool
is_in_force pages None words = false
is_in_force pages (Some number) words = pointwise nat_eq words (page_at pages number)

-- the stored pages after a page of these words came
abbrev pub pages_with : List (List ℕ) → Option ℕ → List ℕ → List (List ℕ)
pages_with pages in_force words = if is_in_force pages in_force words then pages else pages ++ words ∷ []

-- the number of a page in force
abbrev pub number_in : ℕ → Option (List ℕ) → Option ℕ
number_in page None = None
number_in page (Some numbers) = Some (slice_index numbers page)

-- how many of the first `n` pages are stored anew
abbrev pub stored_anew : ℕ → List (List ℕ) → Option (List ℕ) → List ℕ → ℕ
stored_anew n pages None sram = n
stored_anew n pages (Some numbers) sram = differing n (sram_of pages numbers) sram

-- the state that a snapshot keeps
abbrev pub state_in : List (List ℕ) → Snapshot → State
state_in pages snapshot = state_with (sram_of pages snapshot.numbers) snapshot.rest

abbrev pub states_in : List (List ℕ) → List Snapshot → List State
states_in pages snapshots = map (state_in pages) snapshots

-- the snapshot of a cycle
abbrev pub snapshot_at : ℕ → List Snapshot → Option Snapshot
snapshot_at cycle [] = None
snapshot_at cycle (p ∷ older) = if p.rest.cycle == cycle then Some p else snapshot_at cycle older

-- the numbers of the pages of the first snapshot
abbrev pub first_numbers : List Snapshot → Option (List ℕ)
first_numbers [] = None
first_numbers (p ∷ older) = Some p.numbers

-- of the snapshots those from `free` on are kept
pub record AreSound (spacing origin free : ℕ) (snapshots : List Snapshot) (pages : List (List ℕ)) : Type 0 where
  pub small : spacing ≤ 15625000
  pub long : length snapshots ≡ 64
  pub low : free ≤ 64
  pub whole : AllByRecursion IsPage pages
  pub stored : AllByRecursion (λ p. AreStored (length pages) p.numbers) (drop free snapshots)
  pub due : WereDue spacing origin (states_in pages (drop free snapshots))
  pub count : length pages ≡ stored_of (states_in pages (drop free snapshots))
