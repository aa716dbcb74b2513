-- The parts of an image, put at their places one after another.
use Rattle.rp_machine.proofs.Shared.{List, [], add-one, ap, arith, bytes_with, drop, drop-cons, get_or, length, map, range_with_len, refl, subst, sym, take, with_part, word_at, zero-add, zeros, ℕ, ◌++◌, ◌+◌, ◌<◌, ◌∙◌, ◌∷◌, ◌≡◌, ◌≤◌}
use Rattle.std.proofs.lemmas.List.Sums.{fold_more}
use Rattle.std.proofs.lemmas.List.FromFn.{map-range_with_len_more}
use Rattle.uf2_image.specs.declared.parts.Part.{Part}
use Rattle.uf2_image.specs.Uf2.{LieFrom}

-- the parts so far are in place, and the others lie behind some address of SRAM
pub record Placed (bytes : List ℕ) (parts : List Part) (i : ℕ) : Type 0 where
  pub so_far : bytes ≡ bytes_with (take i parts)
  pub low : ℕ
  pub above : 0x20000000 ≤ low
  pub others : LieFrom low (drop i parts)

-- parts that lie from an address on begin before the end of SRAM
pub begin_inside : (low : ℕ) (parts : List Part) → LieFrom low parts → low ≤ 0x20042000
begin_inside low [] h = h
begin_inside low (p ∷ ps) h = let r = begin_inside (p.address + length p.bytes) ps h.1 in omega (arith, h.0)

-- the next part is the first of the others
pub next_part : (bytes : List ℕ) (parts : List Part) (i : ℕ) (part : Part) → Placed bytes parts i → i < length parts → part ≡ get_or parts i part → (low : ℕ) × (0x20000000 ≤ low) × LieFrom low (part ∷ drop (i + 1) parts)
next_part bytes parts i part h lt e =
    let cons : drop i parts ≡ part ∷ drop (i + 1) parts = drop-cons parts i part lt ∙ rw (← e) (rw add-one refl) in
    (h.low, h.above, subst (LieFrom h.low) cons h.others)

-- the next part lies in SRAM
pub next_part_inside : (bytes : List ℕ) (parts : List Part) (i : ℕ) (part : Part) → Placed bytes parts i → i < length parts → part ≡ get_or parts i part → (0x20000000 ≤ part.address) × (part.address + length part.bytes ≤ 0x20042000)
next_part_inside bytes parts i part h lt e =
    let n = next_part bytes parts i part h lt e in
    let r = begin_inside (part.address + length part.bytes) (drop (i + 1) parts) n.2.1 in
    (omega (arith, n.1, n.2.0), r)

-- the next part is put in its place
pub placed_next : (bytes bytes' : List ℕ) (parts : List Part) (i : ℕ) (part : Part) → Placed bytes parts i → i < length parts → part ≡ get_or parts i part → bytes' ≡ with_part bytes part → Placed bytes' parts (i + 1)
placed_next bytes bytes' parts i part h lt e put =
    let n = next_part bytes parts i part h lt e in
    let more = fold_more with_part (zeros 270336) parts i part lt in
    record {
      so_far = put ∙ ap (λ b. with_part b part) h.so_far ∙ ap (λ p. with_part (bytes_with (take i parts)) p) e ∙ sym more;
      low = part.address + length part.bytes;
      above = let inside = next_part_inside bytes parts i part h lt e in omega (arith, inside.0);
      others = n.2.1;
    }

-- one more word
pub words_more : (bytes words words' : List ℕ) (i w : ℕ) → words ≡ map (word_at bytes) (range_with_len 0 i) → words' ≡ words ++ w ∷ [] → w ≡ word_at bytes i → words' ≡ map (word_at bytes) (range_with_len 0 (i + 1))
words_more bytes words words' i w so_far push word =
    push ∙ ap (λ xs. xs ++ w ∷ []) so_far ∙ ap (λ x. map (word_at bytes) (range_with_len 0 i) ++ x ∷ []) word ∙ sym (map-range_with_len_more (word_at bytes) 0 i i (zero-add i))
