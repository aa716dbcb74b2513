-- What is noted of the writes of a window: SRAM as it was before, and as each lane sees it.
use Rattle.std.proofs.Common.{◌≡◌, ℕ, ◌+◌, ◌<◌, ◌≤◌, ◌==◌, Bool, true, if◌then◌else◌, List, [], ◌∷◌, ◌++◌, length, Option, refl, ap, length-append, arith}
use Rattle.window_merge.proofs.Shared.{Deed, Request, Spot, Want, eqb_tells, get_or-set_other, patched, slice_index, sram_after, stored, stored_at}
use Rattle.rp_machine.specs.Stores.{StoresInSram}
use Rattle.window_merge.specs.Notes.{first_of, is_none, seen_word, write_of, original_word, own_word, with_word}
use Rattle.window_merge.proofs.Banks.{HasBank, has_bank}
use Rattle.window_merge.proofs.Patching.{patched-append, patched_last}

-- ---- words by their index

first_append : (words : List (ℕ × ℕ)) (at noted i word : ℕ) → first_of (words ++ (at, noted) ∷ []) i word ≡ first_of words i (if at == i then noted else word)
first_append [] at noted i word = refl
first_append (n ∷ ns) at noted i word = ap (λ x. if n.0 == i then n.1 else x) (first_append ns at noted i word)

append_some : (words : List (ℕ × ℕ)) (word : ℕ × ℕ) → words ++ word ∷ [] ≡ [] → ⊥
append_some [] word e = cc e
append_some (n ∷ ns) word e = cc e

pub no_word : (words : List (ℕ × ℕ)) → is_none words ≡ true → words ≡ []
no_word words h1 = grind arith

pub with_word-length : (word : Option (ℕ × ℕ)) (words : List (ℕ × ℕ)) → length (with_word word words) ≤ length words + 1
with_word-length word words = search (arith, length-append)

-- ---- a want

at_place : (request : Request) (write : Option ℕ) (spot : Spot) → HasBank spot → StoresInSram (stored_at request write spot)
at_place request write spot h1 = grind arith

pub in_sram : (v : Want) → StoresInSram (write_of v)
in_sram v = search (arith, at_place, has_bank)

pub after_want : (v : Want) (sram : List ℕ) → stored (write_of v) sram ≡ sram_after v sram
after_want v sram = grind arith

-- ---- the words as they were before

-- each word of SRAM as it was, where SRAM is this
abbrev pub Restores : List (ℕ × ℕ) → List ℕ → List ℕ → Type 0
Restores originals sram before = (i : ℕ) → first_of originals i (slice_index sram i) ≡ slice_index before i

-- in a cycle that begins with this SRAM, once some writes were done
pub record Undoes (originals : List (ℕ × ℕ)) (now sram before : List ℕ) : Type 0 where
  pub at_start : Restores originals now before
  pub here : Restores originals sram before

-- one more write
pub undoes_on : (originals : List (ℕ × ℕ)) (now sram before : List ℕ) (d : Deed) → Undoes originals now sram before
    → Undoes (with_word (original_word now d) originals) now (stored d sram) before
undoes_on originals now sram before d h1 = search (arith, first_append, eqb_tells, get_or-set_other)

-- ---- the words of a lane

pub own_on : (own : List (ℕ × ℕ)) (before sees : List ℕ) (seen : ℕ → ℕ) (d : Deed) → patched own before ≡ sees → ((i : ℕ) → i < 67584 → seen i ≡ slice_index sees i) → StoresInSram d
    → patched (with_word (own_word seen d) own) before ≡ stored d sees
own_on own before sees seen d h1 h2 h3 = search (arith, patched-append)

-- where a lane has written nothing it had not before, and does not write
pub record Still (own : List (ℕ × ℕ)) (d : Deed) : Type 0 where
  pub before : own ≡ []
  pub same : (sram : List ℕ) → stored d sram ≡ sram

pub still : (own : List (ℕ × ℕ)) (seen : ℕ → ℕ) (d : Deed) → with_word (own_word seen d) own ≡ [] → Still own d
still own seen d h1 = search (arith, append_some)

-- what a lane sees
pub sight : (clean : Bool) (own originals : List (ℕ × ℕ)) (sram before sees : List ℕ) (i : ℕ) → (clean ≡ true → sees ≡ sram) → Restores originals sram before → patched own before ≡ sees
    → length before ≡ 67584 → i < 67584 → seen_word clean own originals sram i ≡ slice_index sees i
sight clean own originals sram before sees i h1 h2 h3 h4 h5 = search (arith, patched_last)
