-- How many pages of SRAM a change of it touches (the project's own).
use Rattle.std.specs.Prelude.{ℕ, zero, suc, ◌+◌, Bool, nat_eq, if◌then◌else◌, List}
use Rattle.std.specs.Cmp.Lexicographic.{pointwise}
use Rattle.ram_banks.specs.Pages.{page_of}

-- a page is the same in both
abbrev pub is_same_page : ℕ → List ℕ → List ℕ → Bool
is_same_page page before now = pointwise nat_eq (page_of page now) (page_of page before)

-- how many of the first pages differ
unfoldable pub differing : ℕ → List ℕ → List ℕ → ℕ
differing zero before now = 0
differing (suc page) before now = differing page before now + (if is_same_page page before now then 0 else 1)
