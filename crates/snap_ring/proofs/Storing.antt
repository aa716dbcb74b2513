-- Storing the pages of SRAM, one after another.
use Rattle.std.proofs.Common.{◌≡◌, ◌≤◌, ◌<◌, ℕ, zero, suc, ◌+◌, ◌*◌, Bool, true, false, if◌then◌else◌, List, [], ◌∷◌, ◌++◌, length, take, drop, get_or, slice_set, refl, ap, ◌∙◌, sym, arith, subst, length-append, length-drop, inl, inr, IfSome, Option, Some, None, nat_eq}
use Rattle.std.specs.List.{AllByRecursion}
use Rattle.std.specs.Cmp.Lexicographic.{pointwise}
use Rattle.std.proofs.lemmas.Bool.{cases_eq}
use Rattle.std.proofs.lemmas.List.{get_or-set_other, get_or-set_same, take-append-le, length-take-le, take_all}
use Rattle.ram_banks.specs.Pages.{page_of}
use Rattle.snap_ring.specs.Pages.{differing}
use Rattle.snap_ring.specs.Snapshot.{page_at, sram_of, IsPage, AreStored, is_in_force, pages_with, number_in, stored_anew}
use Rattle.snap_ring.proofs.Counting.{differing-next, differing-le}
use Rattle.snap_ring.proofs.Joining.{page_of-sram, page_at-later, whole_sram}

pub record IsIn (pages : List (List ℕ)) (number : ℕ) (words : List ℕ) : Type 0 where
  pub below : number < length pages
  pub is : page_at pages number ≡ words

-- the first `n` pages of SRAM have their numbers
pub record Stores (n : ℕ) (in_force : Option (List ℕ)) (old pages : List (List ℕ)) (ram numbers : List ℕ) : Type 0 where
  pub stays : take (length old) pages ≡ old
  pub longer : length old ≤ length pages
  pub whole : AllByRecursion IsPage pages
  pub found : (k : ℕ) → k < n → IsIn pages (get_or numbers k 0) (page_of k ram)
  pub count : length pages ≡ length old + stored_anew n old in_force ram

-- ---- one page more

all_append : (pages : List (List ℕ)) (words : List ℕ) → AllByRecursion IsPage pages → length words ≡ 256 → AllByRecursion IsPage (pages ++ words ∷ [])
all_append [] words h is = (is, tt)
all_append (p ∷ pages) words h is = (h.0, all_append pages words h.1 is)

grown : Bool → List (List ℕ) → List ℕ → List (List ℕ)
grown b pages words = if b then pages else pages ++ words ∷ []

grown-stays : (b : Bool) (n : ℕ) (pages : List (List ℕ)) (words : List ℕ) → n ≤ length pages → take n (grown b pages words) ≡ take n pages
unfolding grown
grown-stays true n pages words le = refl
grown-stays false n pages words le = take-append-le n pages (words ∷ []) le

grown-length : (b : Bool) (pages : List (List ℕ)) (words : List ℕ) → length (grown b pages words) ≡ length pages + (if b then 0 else 1)
unfolding grown
grown-length true pages words = omega arith
grown-length false pages words = length-append pages (words ∷ [])

grown-whole : (b : Bool) (pages : List (List ℕ)) (words : List ℕ) → AllByRecursion IsPage pages → length words ≡ 256 → AllByRecursion IsPage (grown b pages words)
unfolding grown
grown-whole true pages words h is = h
grown-whole false pages words h is = all_append pages words h is

pub page-length : (page : ℕ) (ram : List ℕ) → page < 264 → length ram ≡ 67584 → length (page_of page ram) ≡ 256
page-length page ram lt is =
    length-take-le 256 (drop (page * 256) ram) (omega (arith, lt, is, length-drop (page * 256) ram))

at_least : (b : Bool) (n : ℕ) → n ≤ n + (if b then 0 else 1)
at_least true n = omega arith
at_least false n = omega arith

step_with : (b : Bool) (n : ℕ) (in_force : Option (List ℕ)) (old pages : List (List ℕ)) (ram numbers : List ℕ) (number : ℕ) → n < 264 → length ram ≡ 67584 →
    length numbers ≡ 264 → stored_anew (n + 1) old in_force ram ≡ stored_anew n old in_force ram + (if b then 0 else 1) → Stores n in_force old pages ram numbers →
    IsIn (grown b pages (page_of n ram)) number (page_of n ram) → Stores (n + 1) in_force old (grown b pages (page_of n ram)) ram (slice_set numbers n number)
step_with b n in_force old pages ram numbers number lt is long more s at =
    let after = grown b pages (page_of n ram) in
    let after_length : length after ≡ length pages + (if b then 0 else 1) = grown-length b pages (page_of n ram) in
    let later : length pages ≤ length after = omega (arith, after_length, at_least b (length pages)) in
    let same : take (length pages) after ≡ pages = grown-stays b (length pages) pages (page_of n ram) (omega arith) ∙ take_all (length pages) pages (omega arith) in
    record {
      stays = grown-stays b (length old) pages (page_of n ram) s.longer ∙ s.stays;
      longer = omega (arith, s.longer, later);
      whole = grown-whole b pages (page_of n ram) s.whole (page-length n ram lt is);
      found = λ k kn.
          elim (cases_eq k n) as (λ _. IsIn after (get_or (slice_set numbers n number) k 0) (page_of k ram)) [
            | inl e ↦
                subst (λ j. IsIn after (get_or (slice_set numbers n number) j 0) (page_of j ram)) (sym e)
                (subst (λ m. IsIn after m (page_of n ram)) (sym (get_or-set_same numbers n number 0 (omega (arith, lt, long)))) at)
            | inr ne ↦
                let was = s.found k (omega (arith, kn, ne)) in
                subst (λ m. IsIn after m (page_of k ram)) (sym (get_or-set_other numbers n k number 0 ne))
                (record {
                  below = omega (arith, was.below, later);
                  is = page_at-later pages after (get_or numbers k 0) same was.below ∙ was.is;
                })
          ];
      count = after_length ∙ omega (arith, s.count, more);
    }

pub below_at : (count n : ℕ) (ns : List ℕ) → AllByRecursion (λ m. m < count) ns → n < length ns → get_or ns n 0 < count
below_at count n [] h lt = absurd (omega arith)
below_at count zero (m ∷ ns) h lt = h.0
below_at count (suc n) (m ∷ ns) h lt = below_at count n ns h.1 (omega (arith, lt))

-- with no page in force, or with these
more_of : (n : ℕ) (in_force : Option (List ℕ)) (old pages : List (List ℕ)) (ram : List ℕ) → n < 264 → IfSome in_force (AreStored (length old)) →
    AllByRecursion IsPage old → take (length old) pages ≡ old →
    stored_anew (n + 1) old in_force ram ≡ stored_anew n old in_force ram + (if is_in_force pages (number_in n in_force) (page_of n ram) then 0 else 1)
more_of n None old pages ram lt known whole stays = refl
more_of n (Some numbers) old pages ram lt known whole stays =
    differing-next n (sram_of old numbers) ram
    ∙ ap (λ w. differing n (sram_of old numbers) ram + (if pointwise nat_eq (page_of n ram) w then 0 else 1))
    (page_of-sram old numbers n whole known.below (omega (arith, lt, known.long)) ∙ sym (page_at-later old pages (get_or numbers n 0) stays
    (below_at (length old) n numbers known.below (omega (arith, lt, known.long)))))

pub stores_step : (n : ℕ) (in_force : Option (List ℕ)) (old pages after : List (List ℕ)) (ram numbers : List ℕ) (number : ℕ) (before : Option ℕ) → n < 264 →
    length ram ≡ 67584 → length numbers ≡ 264 → IfSome in_force (AreStored (length old)) → AllByRecursion IsPage old → Stores n in_force old pages ram numbers →
    before ≡ number_in n in_force → after ≡ pages_with pages before (page_of n ram) → number < length after → page_at after number ≡ page_of n ram →
    Stores (n + 1) in_force old after ram (slice_set numbers n number)
unfolding grown
stores_step n in_force old pages after ram numbers number before lt is long known whole s was grew below at =
    let b = is_in_force pages (number_in n in_force) (page_of n ram) in
    let after_is : after ≡ grown b pages (page_of n ram) = grew ∙ ap (λ o. pages_with pages o (page_of n ram)) was in
    subst (λ l. Stores (n + 1) in_force old l ram (slice_set numbers n number)) (sym after_is)
    (step_with b n in_force old pages ram numbers number lt is long (more_of n in_force old pages ram lt known whole s.stays) s
    (subst (λ l. IsIn l number (page_of n ram)) after_is (record { below = below; is = at })))

-- ---- before the first page, and after the last one

pub stores_start : (in_force : Option (List ℕ)) (old : List (List ℕ)) (ram numbers : List ℕ) → AllByRecursion IsPage old → Stores 0 in_force old old ram numbers
unfolding differing
stores_start None old ram numbers whole = record {
  stays = take_all (length old) old (omega arith);
  longer = omega arith;
  whole = whole;
  found = λ k lt. absurd (omega (arith, lt));
  count = omega arith;
}
stores_start (Some f) old ram numbers whole = record {
  stays = take_all (length old) old (omega arith);
  longer = omega arith;
  whole = whole;
  found = λ k lt. absurd (omega (arith, lt));
  count = omega arith;
}

pub stored_anew_le : (n : ℕ) (pages : List (List ℕ)) (in_force : Option (List ℕ)) (ram : List ℕ) → stored_anew n pages in_force ram ≤ n
stored_anew_le n pages None ram = omega arith
stored_anew_le n pages (Some f) ram = differing-le n (sram_of pages f) ram

all_below : (count : ℕ) (ns : List ℕ) → ((k : ℕ) → k < length ns → get_or ns k 0 < count) → AllByRecursion (λ m. m < count) ns
all_below count [] h = tt
all_below count (n ∷ ns) h = (h 0 (omega arith), all_below count ns (λ k lt. h (suc k) (omega (arith, lt))))

pub all_stored : (in_force : Option (List ℕ)) (old pages : List (List ℕ)) (ram numbers : List ℕ) → length numbers ≡ 264 →
    Stores 264 in_force old pages ram numbers → AreStored (length pages) numbers
all_stored in_force old pages ram numbers long s =
    record { long = long; below = all_below (length pages) numbers (λ k lt. (s.found k (omega (arith, lt, long))).below) }

pub all_sram : (in_force : Option (List ℕ)) (old pages : List (List ℕ)) (ram numbers : List ℕ) → length numbers ≡ 264 → length ram ≡ 67584 →
    Stores 264 in_force old pages ram numbers → sram_of pages numbers ≡ ram
all_sram in_force old pages ram numbers long is s = whole_sram pages numbers ram long is (λ k lt. (s.found k (omega (arith, lt, long))).is)
