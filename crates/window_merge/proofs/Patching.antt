-- What a word of SRAM is where words were written into it.
use Rattle.std.proofs.Common.{◌≡◌, ℕ, suc, ◌-◌, ◌<◌, ◌==◌, if◌then◌else◌, List, [], ◌∷◌, ◌++◌, length, refl, ap, sym}
use Rattle.window_merge.proofs.Shared.{arith, eqb_tells, get_or-set_other, get_or-set_same, last_of, length-set, patched, subst, take-suc, with_lanes, ◌∙◌}
use Rattle.std.specs.Prelude.{◌≤◌, ◌≢◌, slice_index, slice_index_or, slice_set, take}
use Rattle.ram_banks.specs.Sram.{written}

pub patched-append : (words : List (ℕ × ℕ)) (word : ℕ × ℕ) (sram : List ℕ) → patched (words ++ word ∷ []) sram ≡ slice_set (patched words sram) word.0 word.1
unfolding patched
patched-append [] word sram = refl
patched-append (w ∷ words) word sram = patched-append words word (slice_set sram w.0 w.1)

-- what stands at an index once a word was put
set_at : (sram : List ℕ) (at word i : ℕ) → i < length sram → slice_index (slice_set sram at word) i ≡ (if at == i then word else slice_index sram i)
set_at sram at word i lt = search (arith, eqb_tells, get_or-set_same, get_or-set_other)

-- the last note is looked at first
pub last_end : (ns : List (ℕ × ℕ)) (n : ℕ × ℕ) (index word : ℕ) → last_of (ns ++ n ∷ []) index word ≡ (if n.0 == index then n.1 else last_of ns index word)
last_end [] n index word = refl
last_end (m ∷ ns) n index word = last_end ns n index (if m.0 == index then m.1 else word)

back : (words : List (ℕ × ℕ)) (left index word : ℕ) → 0 < left → left ≤ length words
    → last_of (take left words) index word
    ≡ (if (slice_index_or words (left - 1) (0, 0)).0 == index then (slice_index_or words (left - 1) (0, 0)).1 else last_of (take (left - 1) words) index word)
back words left index word some le =
    let one : left ≡ suc (left - 1) = omega (arith, some) in
    ap (λ k. last_of (take k words) index word) one
    ∙ ap (λ l. last_of l index word) (take-suc words (left - 1) (0, 0) (omega (arith, some, le)))
    ∙ last_end (take (left - 1) words) (slice_index_or words (left - 1) (0, 0)) index word

pub found_back : (words : List (ℕ × ℕ)) (left index word : ℕ) → 0 < left → left ≤ length words → last_of (take left words) index word ≡ last_of words index word
    → (slice_index_or words (left - 1) (0, 0)).0 ≡ index → (slice_index_or words (left - 1) (0, 0)).1 ≡ last_of words index word
found_back words left index word some le h is = search (arith, eqb_tells, back)

pub passed_back : (words : List (ℕ × ℕ)) (left index word : ℕ) → 0 < left → left ≤ length words → last_of (take left words) index word ≡ last_of words index word
    → (slice_index_or words (left - 1) (0, 0)).0 ≢ index → last_of (take (left - 1) words) index word ≡ last_of words index word
passed_back words left index word some le h other = search (arith, eqb_tells, back)

pub patched_last : (own : List (ℕ × ℕ)) (sram : List ℕ) (i : ℕ) → i < length sram → slice_index (patched own sram) i ≡ last_of own i (slice_index sram i)
unfolding patched
patched_last [] sram i lt = refl
patched_last (n ∷ ns) sram i lt =
    patched_last ns (slice_set sram n.0 n.1) i (subst (λ l. i < l) (sym (length-set sram n.0 n.1)) lt)
    ∙ ap (last_of ns i) (set_at sram n.0 n.1 i lt)

-- the last word of an index is the one that is read
pub read_last : (words shown : List (ℕ × ℕ)) (sram : List ℕ) (index word result : ℕ) → length sram ≡ 67584 → index < 67584 → shown ≡ words → word ≡ slice_index sram index
    → result ≡ last_of shown index word → result ≡ slice_index (patched words sram) index
read_last words shown sram index word result long lt e_words e_word e = search (arith, patched_last)

-- what a write leaves
pub write_more : (words new : List (ℕ × ℕ)) (sram : List ℕ) (index lanes value before word : ℕ) → before ≡ slice_index (patched words sram) index
    → word ≡ with_lanes lanes value before → new ≡ words ++ (index, word) ∷ [] → patched new sram ≡ written (patched words sram) index lanes value
write_more words new sram index lanes value before word e_before e_word e_new = search (arith, patched-append)
