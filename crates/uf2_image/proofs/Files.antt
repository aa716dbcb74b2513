-- The blocks of a file, one after the other.
use Rattle.std.proofs.Common.{◌≡◌, ◌≤◌, ◌<◌, ◌⊎◌, inl, inr, ℕ, zero, suc, ◌+◌, ◌-◌, ◌*◌, ◌/◌, ◌%◌, List, [], ◌∷◌, ◌++◌, length, take, drop, Option, Some, None, Err, refl, sym, ap, ◌∙◌, arith}
use Rattle.std.proofs.lemmas.List.FromFn.{filter_of_map_range_with_len_more}
use Rattle.std.proofs.lemmas.Bool.{eq-eqb, ne_eqb}
use Rattle.std.specs.List.{filter}
use Rattle.uf2_image.specs.declared.fault.ImageFault.TheVariants.{Empty, Ragged}
use Rattle.uf2_image.specs.declared.fault.ImageFault.{ImageFault}
use Rattle.uf2_image.specs.Uf2.{block_at, block_fault, first_fault, first_of, image_of, is_kept, kept, unless_fault, whole}

-- one block more
pub kept_more : (bytes : List ℕ) (n : ℕ) → kept bytes (n + 1) ≡ kept bytes n ++ filter is_kept (block_at bytes n ∷ [])
unfolding kept
kept_more bytes n = filter_of_map_range_with_len_more is_kept (block_at bytes) 0 n n (omega arith)

-- the first fault of one block more
pub first_fault_suc : (bytes : List ℕ) (n : ℕ) → first_fault bytes (suc n) ≡ first_of (first_fault bytes n) (block_fault (kept bytes n) n (block_at bytes n))
unfolding first_fault
first_fault_suc bytes n = refl

pub no_fault_more : (bytes : List ℕ) (n : ℕ) → first_fault bytes n ≡ None → block_fault (kept bytes n) n (block_at bytes n) ≡ None → first_fault bytes (n + 1) ≡ None
no_fault_more bytes n before here =
    let more : n + 1 ≡ suc n = omega arith in
    ap (first_fault bytes) more ∙ first_fault_suc bytes n ∙ ap (λ o. first_of o (block_fault (kept bytes n) n (block_at bytes n))) before ∙ here

fault_here : (bytes : List ℕ) (k : ℕ) (fault : ImageFault) → first_fault bytes k ≡ None → block_fault (kept bytes k) k (block_at bytes k) ≡ Some fault → first_fault bytes (suc k) ≡ Some fault
fault_here bytes k fault before here = first_fault_suc bytes k ∙ ap (λ o. first_of o (block_fault (kept bytes k) k (block_at bytes k))) before ∙ here

fault_stays : (bytes : List ℕ) (k n : ℕ) (fault : ImageFault) → first_fault bytes (suc k) ≡ Some fault → k < n → first_fault bytes n ≡ Some fault
fault_stays bytes k zero fault h lt = absurd (omega arith)
fault_stays bytes k (suc m) fault h lt = elim (at_or_below k m (omega arith)) [
  | inl same ↦ ap (λ j. first_fault bytes (suc j)) (sym same) ∙ h
  | inr below ↦ first_fault_suc bytes m ∙ ap (λ o. first_of o (block_fault (kept bytes m) m (block_at bytes m))) (fault_stays bytes k m fault h below)
]
  where
    at_or_below : (k m : ℕ) → k ≤ m → (k ≡ m) ⊎ (k < m)
    at_or_below k m h = grind arith

-- the first fault is that of the first block that has one
pub fault_at : (bytes : List ℕ) (k n : ℕ) (fault : ImageFault) → first_fault bytes k ≡ None → block_fault (kept bytes k) k (block_at bytes k) ≡ Some fault → k < n → first_fault bytes n ≡ Some fault
fault_at bytes k n fault before here lt = fault_stays bytes k n fault (fault_here bytes k fault before here) lt

pub kept_start : (bytes : List ℕ) → kept bytes 0 ≡ []
unfolding kept
kept_start bytes = refl

pub no_fault_start : (bytes : List ℕ) → first_fault bytes 0 ≡ None
unfolding first_fault
no_fault_start bytes = refl

block_is : (bytes : List ℕ) (k : ℕ) → take (k * 512 + 512 - k * 512) (drop (k * 512) bytes) ≡ block_at bytes k
block_is bytes k =
    let count : k * 512 + 512 - k * 512 ≡ 512 = omega arith in
    ap (λ n. take n (drop (k * 512) bytes)) count

-- what a reader of block k says is so of the file
pub read_fault : (bytes : List ℕ) (k : ℕ) (bs : List (List ℕ)) (b : List ℕ) (o : Option ImageFault) → bs ≡ kept bytes k → b ≡ take (k * 512 + 512 - k * 512) (drop (k * 512) bytes)
    → block_fault bs k b ≡ o → block_fault (kept bytes k) k (block_at bytes k) ≡ o
read_fault bytes k bs b o before is h = sym (ap (λ xs. block_fault xs k b) before ∙ ap (block_fault (kept bytes k) k) (is ∙ block_is bytes k)) ∙ h

pub read_kept : (bytes : List ℕ) (k : ℕ) (bs new : List (List ℕ)) (b : List ℕ) → bs ≡ kept bytes k → b ≡ take (k * 512 + 512 - k * 512) (drop (k * 512) bytes)
    → new ≡ bs ++ filter is_kept (b ∷ []) → new ≡ kept bytes (k + 1)
read_kept bytes k bs new b before is h = h ∙ ap (λ xs. xs ++ filter is_kept (b ∷ [])) before ∙ ap (λ x. kept bytes k ++ filter is_kept (x ∷ [])) (is ∙ block_is bytes k) ∙ sym (kept_more bytes k)

-- ## The whole file

pub image_empty : (bytes : List ℕ) → length bytes ≡ 0 → image_of bytes ≡ Err Empty
unfolding image_of
image_empty bytes h = rw (eq-eqb (length bytes) 0 h) refl

pub image_ragged : (bytes : List ℕ) → (length bytes % 512 ≡ 0 → ⊥) → image_of bytes ≡ Err (Ragged (length bytes))
unfolding image_of
image_ragged bytes h =
    let full : length bytes ≡ 0 → ⊥ = λ none. h (ap (λ n. n % 512) none) in
    rw (ne_eqb (length bytes) 0 full, ne_eqb (length bytes % 512) 0 h) refl

image_rest : (bytes : List ℕ) → (length bytes ≡ 0 → ⊥) → length bytes % 512 ≡ 0 → image_of bytes ≡ unless_fault (first_fault bytes (length bytes / 512)) (whole (kept bytes (length bytes / 512)))
unfolding image_of
image_rest bytes full even = rw (ne_eqb (length bytes) 0 full, eq-eqb (length bytes % 512) 0 even) refl

pub image_fault : (bytes : List ℕ) (fault : ImageFault) → (length bytes ≡ 0 → ⊥) → length bytes % 512 ≡ 0 → first_fault bytes (length bytes / 512) ≡ Some fault → image_of bytes ≡ Err fault
image_fault bytes fault full even h = image_rest bytes full even ∙ ap (λ o. unless_fault o (whole (kept bytes (length bytes / 512)))) h

pub image_whole : (bytes : List ℕ) (blocks : List (List ℕ)) → (length bytes ≡ 0 → ⊥) → length bytes % 512 ≡ 0 → first_fault bytes (length bytes / 512) ≡ None → blocks ≡ kept bytes (length bytes / 512) → image_of bytes ≡ whole blocks
image_whole bytes blocks full even none is = image_rest bytes full even ∙ ap (λ o. unless_fault o (whole (kept bytes (length bytes / 512)))) none ∙ ap whole (sym is)
