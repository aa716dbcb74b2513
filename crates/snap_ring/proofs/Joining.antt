-- SRAM by the numbers of its pages, and its pages.
use Rattle.std.proofs.Common.{◌≡◌, ◌≤◌, ◌<◌, ℕ, zero, suc, ◌+◌, ◌*◌, List, [], ◌∷◌, ◌++◌, length, take, drop, get_or, refl, ap, ◌∙◌, sym, arith, length-append}
use Rattle.std.specs.List.{AllByRecursion}
use Rattle.std.proofs.Math.Seq.{take-append_seam, drop-append-add, take-add}
use Rattle.std.proofs.lemmas.List.{drop-drop, take_all, get_or-take, length-take-le}
use Rattle.ram_banks.specs.Pages.{page_of, with_page}
use Rattle.snap_ring.specs.Snapshot.{page_at, sram_of, IsPage}

pub below_more : (n m : ℕ) (ns : List ℕ) → n ≤ m → AllByRecursion (λ k. k < n) ns → AllByRecursion (λ k. k < m) ns
below_more n m [] le h = tt
below_more n m (k ∷ ns) le h = (omega (arith, le, h.0), below_more n m ns le h.1)

page_long : (pages : List (List ℕ)) (n : ℕ) → AllByRecursion IsPage pages → n < length pages → length (page_at pages n) ≡ 256
page_long [] n h lt = absurd (omega arith)
page_long (p ∷ pages) zero h lt = h.0
page_long (p ∷ pages) (suc n) h lt = page_long pages n h.1 (omega (arith, lt))

pub sram-length : (pages : List (List ℕ)) (ns : List ℕ) → AllByRecursion IsPage pages → AllByRecursion (λ k. k < length pages) ns →
    length (sram_of pages ns) ≡ length ns * 256
sram-length pages [] w h = refl
sram-length pages (n ∷ ns) w h =
    length-append (page_at pages n) (sram_of pages ns) ∙ omega (arith, page_long pages n w h.0, sram-length pages ns w h.1)

pub page_of-sram : (pages : List (List ℕ)) (ns : List ℕ) (k : ℕ) → AllByRecursion IsPage pages → AllByRecursion (λ j. j < length pages) ns →
    k < length ns → page_of k (sram_of pages ns) ≡ page_at pages (get_or ns k 0)
page_of-sram pages [] k w h lt = absurd (omega arith)
page_of-sram pages (n ∷ ns) zero w h lt =
    ap (λ m. take m (page_at pages n ++ sram_of pages ns)) (sym (page_long pages n w h.0)) ∙ take-append_seam (page_at pages n) (sram_of pages ns)
page_of-sram pages (n ∷ ns) (suc k) w h lt =
    ap (take 256) (ap (λ m. drop m (page_at pages n ++ sram_of pages ns)) (omega (arith, page_long pages n w h.0))
    ∙ drop-append-add (page_at pages n) (sram_of pages ns) (k * 256))
    ∙ page_of-sram pages ns k w h.1 (omega (arith, lt))

-- stored pages keep their numbers while others come
pub page_at-later : (old new : List (List ℕ)) (n : ℕ) → take (length old) new ≡ old → n < length old → page_at new n ≡ page_at old n
page_at-later old new n is lt = sym (get_or-take (length old) new n [] lt) ∙ ap (λ l. get_or l n []) is

pub sram-later : (old new : List (List ℕ)) (ns : List ℕ) → take (length old) new ≡ old → AllByRecursion (λ j. j < length old) ns →
    sram_of new ns ≡ sram_of old ns
sram-later old new [] is h = refl
sram-later old new (n ∷ ns) is h =
    ap (λ p. p ++ sram_of new ns) (page_at-later old new n is h.0) ∙ ap (λ s. page_at old n ++ s) (sram-later old new ns is h.1)

-- numbers of the pages of SRAM, one after another, make it
from_page : (pages : List (List ℕ)) (ns : List ℕ) (first : ℕ) (sram : List ℕ) →
    ((k : ℕ) → k < length ns → page_at pages (get_or ns k 0) ≡ page_of (first + k) sram) →
    sram_of pages ns ≡ take (length ns * 256) (drop (first * 256) sram)
from_page pages [] first sram h = refl
from_page pages (n ∷ ns) first sram h =
    ap (λ p. p ++ sram_of pages ns) (h 0 (omega arith) ∙ ap (λ m. page_of m sram) (omega arith))
    ∙ ap (λ s. page_of first sram ++ s)
    (from_page pages ns (first + 1) sram (λ k lt. h (suc k) (omega (arith, lt)) ∙ ap (λ m. page_of m sram) (omega arith))
    ∙ ap (take (length ns * 256)) (ap (λ m. drop m sram) (omega arith) ∙ sym (drop-drop 256 (first * 256) sram)))
    ∙ sym (take-add 256 (length ns * 256) (drop (first * 256) sram))
    ∙ ap (λ m. take m (drop (first * 256) sram)) (omega arith)

pub whole_sram : (pages : List (List ℕ)) (ns sram : List ℕ) → length ns ≡ 264 → length sram ≡ 67584 →
    ((k : ℕ) → k < length ns → page_at pages (get_or ns k 0) ≡ page_of k sram) → sram_of pages ns ≡ sram
whole_sram pages ns sram long is h =
    from_page pages ns 0 sram (λ k lt. h k lt ∙ ap (λ m. page_of m sram) (omega arith)) ∙ take_all (length ns * 256) sram (omega (arith, long, is))

-- ---- putting the pages of one list in the ones of another's

pub put_page : (page : ℕ) (target old : List ℕ) → (page + 1) * 256 ≤ length target →
    with_page page (page_of page target) (take (page * 256) target ++ drop (page * 256) old) ≡ take ((page + 1) * 256) target ++ drop ((page + 1) * 256) old
put_page page target old le =
    let long : length (take (page * 256) target) ≡ page * 256 = length-take-le (page * 256) target (omega (arith, le)) in
    let a = take (page * 256) target in
    let b = drop (page * 256) old in
    ap (λ l. (l ++ page_of page target) ++ drop (page * 256 + 256) (a ++ b))
    (ap (λ m. take m (a ++ b)) (sym long) ∙ take-append_seam a b)
    ∙ ap (λ l. (a ++ page_of page target) ++ l)
    (ap (λ m. drop m (a ++ b)) (omega (arith, long)) ∙ drop-append-add a b 256 ∙ drop-drop 256 (page * 256) old ∙ ap (λ m. drop m old) (omega arith))
    ∙ ap (λ l. l ++ drop ((page + 1) * 256) old) (sym (take-add (page * 256) 256 target) ∙ ap (λ m. take m target) (omega arith))

-- what is loaded in the end
pub all_put : (target old ram : List ℕ) → length target ≡ 67584 → length ram ≡ 67584 → ram ≡ take 67584 target ++ drop 67584 old → ram ≡ target
all_put target old ram long is h =
    let whole : take 67584 target ≡ target = take_all 67584 target (omega (arith, long)) in
    let joined : ram ≡ target ++ drop 67584 old = h ∙ ap (λ l. l ++ drop 67584 old) whole in
    sym (take_all 67584 ram (omega (arith, is))) ∙ ap (take 67584) joined ∙ ap (λ m. take m (target ++ drop 67584 old)) (sym long)
    ∙ take-append_seam target (drop 67584 old)
