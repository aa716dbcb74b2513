-- The file of an image: its blocks, and what they load.
use Rattle.std.proofs.Common.{◌≡◌, ◌≤◌, ◌<◌, ℕ, zero, suc, ◌+◌, ◌-◌, ◌*◌, ◌/◌, ◌%◌, ◌^◌, Bool, true, false, cond, not, ◌&&◌, ◌||◌, ◌⊎◌, inl, inr, List, [], ◌∷◌, ◌++◌, length, take, drop, map, min, get_or, Option, Some, None, Ok, refl, sym, ap, ◌∙◌, subst, arith, append_assoc, length-append, ltb, leb, eqb}
use Rattle.std.specs.Prelude.{replicate}
use Rattle.std.specs.List.{concat, enumerate_from, fold, find, filter, range_with_len, AllByRecursion, list_any}
use Rattle.std.proofs.lemmas.Bool.{le-ltb, ne_eqb, eq-eqb}
use Rattle.std.proofs.lemmas.Bool.Decides.{nat_tests}
use Rattle.std.proofs.lemmas.List.{length-replicate, append-nil, drop_more}
use Rattle.std.proofs.Math.Seq.{drop-append_seam, take-append_seam}
use Rattle.std.proofs.lemmas.List.Elements.{All-from_recursion}
use Rattle.std.proofs.Math.ListN.{drop_of_length-le}
use Rattle.byteorder.specs.Endian.{little_bytes, little_number}
use Rattle.byteorder.specs.Numbers.{little_number-reads_back}
use Rattle.uf2_image.specs.declared.parts.Part.{Part}
use Rattle.uf2_image.specs.declared.parts.Image.{Image}
use Rattle.uf2_image.specs.declared.fault.ImageFault.{ImageFault}
use Rattle.uf2_image.specs.Uf2.{any_address, block_at, block_fault, count_of, family_of, first_fault, first_kept, flags_of, has_magic, has_number, image_of, in_order, insert_part, is_flash, is_kept, is_loaded, is_sram, kept, kept_fault, least_missing, number_of, part_of, payload_of, size_of, target_of, whole, word, LieFrom}
use Rattle.uf2_image.specs.Reading.{HasPayload}
use Rattle.uf2_image.specs.Writing.{block_of, blocks_from, file_of, first_address, words, IsSized, IsWritable}
use Rattle.uf2_image.proofs.Files.{image_whole, kept_more, kept_start, no_fault_more, no_fault_start}
use Rattle.uf2_image.proofs.Images.{whole_image}
use Rattle.uf2_image.proofs.Loading.{has_number-push, is_loaded-push}
use Rattle.uf2_image.proofs.Ranges.{any_in_flash, any_outside_sram}

-- ## The fields of a block

rest_of : Part → List ℕ
rest_of part = part.bytes ++ (replicate (476 - length part.bytes) 0 ++ words (0x0AB16F30 ∷ []))

length_rest : (part : Part) → length part.bytes ≤ 476 → length (rest_of part) ≡ 480
unfolding rest_of words
length_rest part room = simp (length-append, length-replicate) (omega arith)

length_block : (c n : ℕ) (part : Part) → length part.bytes ≤ 476 → length (block_of c n part) ≡ 512
unfolding words rest_of
length_block c n part room = omega (arith, length_rest part room)

reads : (x : ℕ) (rest : List ℕ) → x < 2 ^ 32 → little_number 4 (little_bytes 4 x ++ rest) ≡ x
reads x rest small = little_number-reads_back 4 x rest small

first_word : (c n : ℕ) (part : Part) → word (block_of c n part) 0 ≡ 0x0A324655
unfolding word words
first_word c n part = reads 0x0A324655 (drop 4 (block_of c n part)) (omega arith)

second_word : (c n : ℕ) (part : Part) → word (block_of c n part) 1 ≡ 0x9E5D5157
unfolding word words
second_word c n part = reads 0x9E5D5157 (drop 8 (block_of c n part)) (omega arith)

flags_is : (c n : ℕ) (part : Part) → flags_of (block_of c n part) ≡ 0x2000
unfolding word words
flags_is c n part = reads 0x2000 (drop 12 (block_of c n part)) (omega arith)

target_is : (c n : ℕ) (part : Part) → part.address < 2 ^ 32 → target_of (block_of c n part) ≡ part.address
unfolding word words
target_is c n part small = reads part.address (drop 16 (block_of c n part)) small

size_is : (c n : ℕ) (part : Part) → length part.bytes ≤ 476 → size_of (block_of c n part) ≡ length part.bytes
unfolding word words
size_is c n part room = reads (length part.bytes) (drop 20 (block_of c n part)) (omega arith)

number_is : (c n : ℕ) (part : Part) → n < 2 ^ 32 → number_of (block_of c n part) ≡ n
unfolding word words
number_is c n part small = reads n (drop 24 (block_of c n part)) small

count_is : (c n : ℕ) (part : Part) → c < 2 ^ 32 → count_of (block_of c n part) ≡ c
unfolding word words
count_is c n part small = reads c (drop 28 (block_of c n part)) small

family_is : (c n : ℕ) (part : Part) → family_of (block_of c n part) ≡ 0xE48BFF56
unfolding word words
family_is c n part = reads 0xE48BFF56 (drop 32 (block_of c n part)) (omega arith)

drop_rest : (part : Part) → length part.bytes ≤ 476 → drop 476 (rest_of part) ≡ words (0x0AB16F30 ∷ [])
unfolding rest_of words
drop_rest part room =
    let zeros : List ℕ = replicate (476 - length part.bytes) 0 in
    let long : length (part.bytes ++ zeros) ≡ 476 = simp (length-append, length-replicate) (omega arith) in
    ap (drop 476) (sym (append_assoc part.bytes zeros (words (0x0AB16F30 ∷ []))))
    ∙ ap (λ n. drop n ((part.bytes ++ zeros) ++ words (0x0AB16F30 ∷ []))) (sym long)
    ∙ drop-append_seam (part.bytes ++ zeros) (words (0x0AB16F30 ∷ []))

last_word : (c n : ℕ) (part : Part) → length part.bytes ≤ 476 → word (block_of c n part) 127 ≡ 0x0AB16F30
unfolding word words rest_of
last_word c n part room = ap (little_number 4) (drop_rest part room) ∙ reads 0x0AB16F30 [] (omega arith)

payload_is : (c n : ℕ) (part : Part) → length part.bytes ≤ 476 → payload_of (block_of c n part) ≡ part.bytes
unfolding words rest_of
payload_is c n part room = ap (λ m. take m (rest_of part)) (size_is c n part room) ∙ take-append_seam part.bytes _

has_magic_is : (c n : ℕ) (part : Part) → length part.bytes ≤ 476 → has_magic (block_of c n part) ≡ true
unfolding has_magic
has_magic_is c n part room = rw (first_word c n part, second_word c n part, last_word c n part room) refl

is_kept_is : (c n : ℕ) (part : Part) → is_kept (block_of c n part) ≡ true
unfolding is_kept
is_kept_is c n part = rw (flags_is c n part, family_is c n part) refl

-- ## A block of the file has no fault

-- blocks before one of so many: their numbers are below its own, the first of them has the same count, and they load nothing from
-- an address on
record AreBefore (c n low : ℕ) (done : List (List ℕ)) : Type 0 where
  numbers : (m : ℕ) → n ≤ m → has_number done m ≡ false
  counts : (x : List ℕ) → count_of x ≡ c → count_of (first_kept done x) ≡ c
  loads : (a : ℕ) → low ≤ a → is_loaded done a ≡ false

none_before : (c low : ℕ) → AreBefore c 0 low []
unfolding has_number is_loaded
none_before c low = record { numbers = λ m le. refl; counts = λ x h. h; loads = λ a le. refl }

-- a part that can stand as block n of c
record IsPlaced (c n low : ℕ) (part : Part) : Type 0 where
  within : n < c
  few : c ≤ 32768
  sized : IsSized part
  start : 0x20000000 ≤ low
  from : low ≤ part.address
  to : part.address + length part.bytes ≤ 0x20042000

has_payload : (c n low : ℕ) (part : Part) → IsPlaced c n low part → HasPayload (block_of c n part)
has_payload c n low part h = record {
  some = subst (λ m. 0 < m) (sym (size_is c n part h.sized.room)) h.sized.some;
  room = subst (λ m. m ≤ 476) (sym (size_is c n part h.sized.room)) h.sized.room;
  long = length_block c n part h.sized.room;
}

target_at : (c n low : ℕ) (part : Part) → IsPlaced c n low part → target_of (block_of c n part) ≡ part.address
target_at c n low part h = target_is c n part (omega (arith, h.to))

number_at : (c n low : ℕ) (part : Part) → IsPlaced c n low part → number_of (block_of c n part) ≡ n
number_at c n low part h = number_is c n part (omega (arith, h.within, h.few))

count_at : (c n low : ℕ) (part : Part) → IsPlaced c n low part → count_of (block_of c n part) ≡ c
count_at c n low part h = count_is c n part (omega (arith, h.few))

skip : (a : Bool) (fault : ImageFault) (rest : Option ImageFault) → a ≡ false → rest ≡ None → cond a (Some fault) rest ≡ None
skip true fault rest h none = cc
skip false fault rest h none = none

in_size : (m : ℕ) → 0 < m → m ≤ 476 → (eqb m 0 || ltb 476 m) ≡ false
in_size m some room = grind (arith, nat_tests)

same_count : (c : ℕ) → 0 < c → (eqb c 0 || not (eqb c c)) ≡ false
same_count c some = grind (arith, nat_tests)

not_le : (a b : ℕ) → b < a → leb a b ≡ false
not_le a b lt = grind (arith, nat_tests)

past : (t n a : ℕ) → t + n ≤ a → (leb t a && ltb a (t + n)) ≡ false
past t n a le = grind (arith, nat_tests)

no_flash : (t n : ℕ) → 0x20000000 ≤ t → (ltb t 0x14000000 && ltb 0x10000000 (t + n)) ≡ false
no_flash t n le = grind (arith, nat_tests)

in_sram : (t n : ℕ) → 0x20000000 ≤ t → t + n ≤ 0x20042000 → (ltb t 0x20000000 || ltb 0x20042000 (t + n)) ≡ false
in_sram t n from to = grind (arith, nat_tests)

none_from : (f : ℕ → Bool) (low t : ℕ) (xs : List ℕ) → low ≤ t → ((a : ℕ) → low ≤ a → f a ≡ false) → list_any (λ pair. f pair.0) (enumerate_from t xs) ≡ false
none_from f low t [] le h = refl
none_from f low t (x ∷ xs) le h = ap (λ y. y || list_any (λ pair. f pair.0) (enumerate_from (t + 1) xs)) (h t le) ∙ none_from f low (t + 1) xs (omega arith) h

no_flash_in : (c n low : ℕ) (part : Part) → IsPlaced c n low part → any_address is_flash (block_of c n part) ≡ false
no_flash_in c n low part h =
    let b : List ℕ = block_of c n part in
    any_in_flash b (has_payload c n low part h)
    ∙ ap (λ t. ltb t 0x14000000 && ltb 0x10000000 (t + size_of b)) (target_at c n low part h)
    ∙ no_flash part.address (size_of b) (omega (arith, h.start, h.from))

none_outside : (c n low : ℕ) (part : Part) → IsPlaced c n low part → any_address (λ a. not (is_sram a)) (block_of c n part) ≡ false
none_outside c n low part h =
    let b : List ℕ = block_of c n part in
    any_outside_sram b (has_payload c n low part h)
    ∙ ap (λ t. ltb t 0x20000000 || ltb 0x20042000 (t + size_of b)) (target_at c n low part h)
    ∙ ap (λ m. ltb part.address 0x20000000 || ltb 0x20042000 (part.address + m)) (size_is c n part h.sized.room)
    ∙ in_sram part.address (length part.bytes) (omega (arith, h.start, h.from)) h.to

none_twice : (c n low : ℕ) (done : List (List ℕ)) (part : Part) → IsPlaced c n low part → AreBefore c n low done → any_address (is_loaded done) (block_of c n part) ≡ false
unfolding any_address
none_twice c n low done part h before =
    let b : List ℕ = block_of c n part in
    none_from (is_loaded done) low (target_of b) (payload_of b) (subst (λ t. low ≤ t) (sym (target_at c n low part h)) h.from) before.loads

no_kept_fault : (c n low : ℕ) (done : List (List ℕ)) (part : Part) → IsPlaced c n low part → AreBefore c n low done → kept_fault done n (block_of c n part) ≡ None
unfolding kept_fault
no_kept_fault c n low done part h before =
    let b : List ℕ = block_of c n part in
    let size = size_is c n part h.sized.room in
    let count = count_at c n low part h in
    let number = number_at c n low part h in
    let sized : (eqb (size_of b) 0 || ltb 476 (size_of b)) ≡ false = ap (λ m. eqb m 0 || ltb 476 m) size ∙ in_size (length part.bytes) h.sized.some h.sized.room in
    let counted : (eqb (count_of b) 0 || not (eqb (count_of b) (count_of (first_kept done b)))) ≡ false =
    ap (λ x. eqb x 0 || not (eqb x (count_of (first_kept done b)))) count ∙ ap (λ x. eqb c 0 || not (eqb c x)) (before.counts b count) ∙ same_count c (omega (arith, h.within)) in
    let numbered : leb (count_of b) (number_of b) ≡ false = ap (λ x. leb x (number_of b)) count ∙ ap (leb c) number ∙ not_le c n h.within in
    let fresh : has_number done (number_of b) ≡ false = ap (has_number done) number ∙ before.numbers n (omega arith) in
    skip _ _ _ sized (skip _ _ _ counted (skip _ _ _ numbered (skip _ _ _ fresh
    (skip _ _ _ (no_flash_in c n low part h) (skip _ _ _ (none_outside c n low part h) (skip _ _ _ (none_twice c n low done part h before) refl))))))

no_block_fault : (c n low : ℕ) (done : List (List ℕ)) (part : Part) → IsPlaced c n low part → AreBefore c n low done → block_fault done n (block_of c n part) ≡ None
unfolding block_fault
no_block_fault c n low done part h before =
    skip _ _ _ (ap not (has_magic_is c n part h.sized.room))
    (ap (λ x. cond (not x) None (kept_fault done n (block_of c n part))) (is_kept_is c n part) ∙ no_kept_fault c n low done part h before)

-- ## One block more

counts_more : (c : ℕ) (done : List (List ℕ)) (b x : List ℕ) → count_of b ≡ c → ((y : List ℕ) → count_of y ≡ c → count_of (first_kept done y) ≡ c) → count_of (first_kept (done ++ b ∷ []) x) ≡ c
counts_more c [] b x is h = is
counts_more c (d ∷ ds) b x is h = h b is

before_more : (c n low : ℕ) (done : List (List ℕ)) (part : Part) → IsPlaced c n low part → AreBefore c n low done → AreBefore c (n + 1) (part.address + length part.bytes) (done ++ block_of c n part ∷ [])
before_more c n low done part h before =
    let b : List ℕ = block_of c n part in
    record {
      numbers = λ m le. (let other : n ≡ m → ⊥ = λ e. absurd (omega arith) in
          has_number-push done b m ∙ ap (λ x. x || eqb (number_of b) m) (before.numbers m (omega arith)) ∙ ap (λ x. eqb x m) (number_at c n low part h) ∙ ne_eqb n m other);
      counts = λ x e. counts_more c done b x (count_at c n low part h) before.counts;
      loads = λ a le. (
          is_loaded-push done b a (has_payload c n low part h)
          ∙ ap (λ x. x || (leb (target_of b) a && ltb a (target_of b + size_of b))) (before.loads a (omega (arith, h.from)))
          ∙ ap (λ t. leb t a && ltb a (t + size_of b)) (target_at c n low part h)
          ∙ ap (λ m. leb part.address a && ltb a (part.address + m)) (size_is c n part h.sized.room)
          ∙ past part.address (length part.bytes) a le);
    }

lie_end : (low : ℕ) (parts : List Part) → LieFrom low parts → low ≤ 0x20042000
lie_end low [] h = h
lie_end low (p ∷ ps) h = omega (arith, h.0, lie_end (p.address + length p.bytes) ps h.1)

block_here : (bytes pre b rest : List ℕ) (n : ℕ) → bytes ≡ pre ++ (b ++ rest) → length pre ≡ n * 512 → length b ≡ 512 → block_at bytes n ≡ b
block_here bytes pre b rest n is long size =
    ap (λ xs. take 512 (drop (n * 512) xs)) is
    ∙ ap (λ m. take 512 (drop m (pre ++ (b ++ rest)))) (sym long)
    ∙ ap (take 512) (drop-append_seam pre (b ++ rest))
    ∙ ap (λ m. take m (b ++ rest)) (sym size)
    ∙ take-append_seam b rest

-- the blocks from one on are kept, and have no fault
read_all : (bytes pre : List ℕ) (c n low : ℕ) (done : List (List ℕ)) (parts : List Part) → bytes ≡ pre ++ concat (blocks_from c n parts) → length pre ≡ n * 512 → n + length parts ≡ c → c ≤ 32768
    → 0x20000000 ≤ low → LieFrom low parts → AllByRecursion IsSized parts → AreBefore c n low done → kept bytes n ≡ done → first_fault bytes n ≡ None
    → (kept bytes c ≡ done ++ blocks_from c n parts) × (first_fault bytes c ≡ None)
read_all bytes pre c n low done [] is long all few start lies sizes before k f =
    let same : c ≡ n = omega (arith, all) in
    (ap (kept bytes) same ∙ k ∙ sym (append-nil done), ap (first_fault bytes) same ∙ f)
read_all bytes pre c n low done (p ∷ ps) is long all few start lies sizes before k f =
    let b : List ℕ = block_of c n p in
    let rest : List ℕ = concat (blocks_from c (n + 1) ps) in
    let placed : IsPlaced c n low p = record {
      within = omega (arith, all);
      few = few;
      sized = sizes.0;
      start = start;
      from = lies.0;
      to = lie_end (p.address + length p.bytes) ps lies.1;
    } in
    let size : length b ≡ 512 = length_block c n p sizes.0.room in
    let here : block_at bytes n ≡ b = block_here bytes pre b rest n is long size in
    let more : bytes ≡ (pre ++ b) ++ rest = is ∙ sym (append_assoc pre b rest) in
    let longer : length (pre ++ b) ≡ (n + 1) * 512 = length-append pre b ∙ omega (arith, long, size) in
    let keeps : kept bytes (n + 1) ≡ done ++ b ∷ [] =
    kept_more bytes n ∙ ap (λ xs. xs ++ filter is_kept (block_at bytes n ∷ [])) k
    ∙ ap (λ x. done ++ filter is_kept (x ∷ [])) here ∙ ap (λ t. done ++ cond t (b ∷ []) []) (is_kept_is c n p) in
    let none : first_fault bytes (n + 1) ≡ None =
    no_fault_more bytes n f (ap (λ xs. block_fault xs n (block_at bytes n)) k ∙ ap (block_fault done n) here ∙ no_block_fault c n low done p placed before) in
    let both = read_all bytes (pre ++ b) c (n + 1) (p.address + length p.bytes) (done ++ b ∷ []) ps more longer (omega (arith, all)) few
    (omega (arith, start, lies.0)) lies.1 sizes.1 (before_more c n low done p placed before) keeps none in
    (both.0 ∙ append_assoc done (b ∷ []) (blocks_from c (n + 1) ps), both.1)

length_file : (c n : ℕ) (parts : List Part) → AllByRecursion IsSized parts → length (concat (blocks_from c n parts)) ≡ length parts * 512
length_file c n [] sizes = refl
length_file c n (p ∷ ps) sizes =
    length-append (block_of c n p) (concat (blocks_from c (n + 1) ps)) ∙ omega (arith, length_block c n p sizes.0.room, length_file c (n + 1) ps sizes.1)

-- ## The whole

or_true : (x y : Bool) → y ≡ true → (x || y) ≡ true
or_true true y h = refl
or_true false y h = h

at_or_above : (n m : ℕ) → n ≤ m → (n ≡ m) ⊎ (n + 1 ≤ m)
at_or_above n m h = grind arith

has_number_in : (c n m : ℕ) (parts : List Part) → n + length parts ≤ 32768 → n ≤ m → m < n + length parts → has_number (blocks_from c n parts) m ≡ true
unfolding has_number
has_number_in c n m [] few le lt = absurd (omega arith)
has_number_in c n m (p ∷ ps) few le lt =
    let rest : Bool = list_any (λ block. eqb (number_of block) m) (blocks_from c (n + 1) ps) in
    elim (at_or_above n m le) [
      | inl same ↦ ap (λ x. eqb x m || rest) (number_is c n p (omega (arith, few))) ∙ ap (λ x. x || rest) (eq-eqb n m same)
      | inr above ↦ or_true (eqb (number_of (block_of c n p)) m) rest (has_number_in c (n + 1) m ps (omega (arith, few)) above (omega (arith, lt)))
    ]

find_none : (test : ℕ → Bool) (a n : ℕ) → ((m : ℕ) → a ≤ m → m < a + n → test m ≡ false) → find test (range_with_len a n) ≡ None
find_none test a zero h = refl
find_none test a (suc n) h =
    ap (λ x. cond x (Some a) (find test (range_with_len (a + 1) n))) (h a (omega arith) (omega arith))
    ∙ find_none test (a + 1) n (λ m le lt. h m (omega arith) (omega arith))

none_missing : (c : ℕ) (parts : List Part) → length parts ≡ c → c ≤ 32768 → least_missing (blocks_from c 0 parts) c ≡ None
unfolding least_missing
none_missing c parts all few =
    find_none (λ number. not (has_number (blocks_from c 0 parts) number)) 0 c
    (λ m le lt. ap not (has_number_in c 0 m parts (omega (arith, all, few)) le (omega (arith, all, lt))))

part_is : (a : ℕ) (xs : List ℕ) (p : Part) → a ≡ p.address → xs ≡ p.bytes → record { address = a; bytes = xs } ≡ p
part_is a xs p e f = ap (λ (t : ℕ). record { address = t; bytes = xs }) e ∙ ap (λ (ys : List ℕ). record { address = p.address; bytes = ys }) f

parts_back : (c n low : ℕ) (parts : List Part) → LieFrom low parts → AllByRecursion IsSized parts → map part_of (blocks_from c n parts) ≡ parts
parts_back c n low [] lies sizes = refl
parts_back c n low (p ∷ ps) lies sizes =
    let b : List ℕ = block_of c n p in
    let below : p.address < 2 ^ 32 = omega (arith, lie_end (p.address + length p.bytes) ps lies.1) in
    ap (λ (q : Part). q ∷ map part_of (blocks_from c (n + 1) ps)) (part_is (target_of b) (payload_of b) p (target_is c n p below) (payload_is c n p sizes.0.room))
    ∙ ap (λ (qs : List Part). p ∷ qs) (parts_back c (n + 1) (p.address + length p.bytes) ps lies.1 sizes.1)

insert_last : (placed : List Part) (p : Part) → AllByRecursion (λ q. q.address < p.address) placed → insert_part placed p ≡ placed ++ p ∷ []
insert_last [] p below = refl
insert_last (q ∷ qs) p below =
    ap (λ x. cond x (p ∷ q ∷ qs) (q ∷ insert_part qs p)) (le-ltb p.address q.address (omega (arith, below.0)))
    ∙ ap (λ (xs : List Part). q ∷ xs) (insert_last qs p below.1)

below_more : (low high : ℕ) (placed : List Part) → low ≤ high → AllByRecursion (λ q. q.address < low) placed → AllByRecursion (λ q. q.address < high) placed
below_more low high [] le h = tt
below_more low high (q ∷ qs) le h = (omega (arith, h.0), below_more low high qs le h.1)

below_push : (low : ℕ) (placed : List Part) (p : Part) → p.address < low → AllByRecursion (λ q. q.address < low) placed → AllByRecursion (λ q. q.address < low) (placed ++ p ∷ [])
below_push low [] p lt h = (lt, tt)
below_push low (q ∷ qs) p lt h = (h.0, below_push low qs p lt h.1)

-- parts that ascend stand in order
order_same : (low : ℕ) (placed parts : List Part) → AllByRecursion (λ q. q.address < low) placed → LieFrom low parts → AllByRecursion IsSized parts → fold insert_part placed parts ≡ placed ++ parts
order_same low placed [] below lies sizes = sym (append-nil placed)
order_same low placed (p ∷ ps) below lies sizes =
    let next : ℕ = p.address + length p.bytes in
    ap (λ (xs : List Part). fold insert_part xs ps) (insert_last placed p (below_more low p.address placed lies.0 below))
    ∙ order_same next (placed ++ p ∷ []) ps (below_push next placed p (omega (arith, sizes.0.some)) (below_more low next placed (omega (arith, lies.0)) below)) lies.1 sizes.1
    ∙ append_assoc placed (p ∷ []) ps

lowest_is : (c n low x : ℕ) (parts : List Part) → x ≤ low → LieFrom low parts → fold (λ a block. min a (target_of block)) x (blocks_from c n parts) ≡ x
lowest_is c n low x [] le lies = refl
lowest_is c n low x (p ∷ ps) le lies =
    let below : p.address < 2 ^ 32 = omega (arith, lie_end (p.address + length p.bytes) ps lies.1) in
    let least : min x p.address ≡ x = omega (arith, lies.0) in
    let same : min x (target_of (block_of c n p)) ≡ x = ap (min x) (target_is c n p below) ∙ least in
    ap (λ m. fold (λ a block. min a (target_of block)) m (blocks_from c (n + 1) ps)) same
    ∙ lowest_is c (n + 1) (p.address + length p.bytes) x ps (omega (arith, lies.0)) lies.1

payloads : (c n : ℕ) (parts : List Part) → AllByRecursion IsSized parts → AllByRecursion HasPayload (blocks_from c n parts)
payloads c n [] sizes = tt
payloads c n (p ∷ ps) sizes = (
  record {
    some = subst (λ m. 0 < m) (sym (size_is c n p sizes.0.room)) sizes.0.some;
    room = subst (λ m. m ≤ 476) (sym (size_is c n p sizes.0.room)) sizes.0.room;
    long = length_block c n p sizes.0.room;
  },
  payloads c (n + 1) ps sizes.1,
)

whole_blocks : (c : ℕ) (p : Part) (ps : List Part) → length (p ∷ ps) ≡ c → c ≤ 32768 → LieFrom 0x20000000 (p ∷ ps) → AllByRecursion IsSized (p ∷ ps)
    → whole (blocks_from c 0 (p ∷ ps)) ≡ Ok (record { parts = p ∷ ps; entry = p.address - p.address % 2 })
whole_blocks c p ps all few lies sizes =
    let blocks : List (List ℕ) = blocks_from c 0 (p ∷ ps) in
    let below : p.address < 2 ^ 32 = omega (arith, lie_end (p.address + length p.bytes) ps lies.1) in
    let count : count_of (block_of c 0 p) ≡ c = count_is c 0 p (omega (arith, few)) in
    let missing : least_missing blocks (count_of (block_of c 0 p)) ≡ None = ap (least_missing blocks) count ∙ none_missing c (p ∷ ps) all few in
    let order : in_order (map part_of blocks) ≡ p ∷ ps =
    ap in_order (parts_back c 0 0x20000000 (p ∷ ps) lies sizes) ∙ order_same 0x20000000 [] (p ∷ ps) tt lies sizes in
    let lowest : fold (λ a block. min a (target_of block)) (target_of (block_of c 0 p)) blocks ≡ p.address =
    ap (λ x. fold (λ a block. min a (target_of block)) x blocks) (target_is c 0 p below)
    ∙ lowest_is c 0 p.address p.address (p ∷ ps) (omega arith) (omega arith, lies.1) in
    whole_image blocks (block_of c 0 p) p.address (target_of (block_of c 0 p)) (p ∷ ps) refl (sym missing) (sym order) (sym lowest) refl
    (All-from_recursion HasPayload blocks (payloads c 0 (p ∷ ps) sizes))

file_of_parts : (parts : List Part) (entry : ℕ) → 0 < length parts → length parts ≤ 32768 → LieFrom 0x20000000 parts → AllByRecursion IsSized parts
    → entry ≡ first_address parts - first_address parts % 2 → image_of (concat (blocks_from (length parts) 0 parts)) ≡ Ok (record { parts = parts; entry = entry })
file_of_parts [] entry some few lies sizes is = absurd (omega arith)
file_of_parts (p ∷ ps) entry some few lies sizes is =
    let c : ℕ = length (p ∷ ps) in
    let blocks : List (List ℕ) = blocks_from c 0 (p ∷ ps) in
    let long : length (concat blocks) ≡ c * 512 = length_file c 0 (p ∷ ps) sizes in
    let count : length (concat blocks) / 512 ≡ c = omega (arith, long) in
    let both = read_all (concat blocks) [] c 0 0x20000000 [] (p ∷ ps) refl refl (omega arith) few (omega arith) lies sizes (none_before c 0x20000000) (kept_start (concat blocks)) (no_fault_start (concat blocks)) in
    image_whole (concat blocks) blocks (λ none. absurd (omega (arith, long, none))) (omega (arith, long))
    (ap (first_fault (concat blocks)) count ∙ both.1) (sym (ap (kept (concat blocks)) count ∙ both.0))
    ∙ whole_blocks c p ps refl few lies sizes
    ∙ ap (λ (e : ℕ). Ok (record { parts = p ∷ ps; entry = e })) (sym is)

-- the file of an image holds that image
pub what_is_written_is_read : (image : Image) → IsWritable image → image_of (file_of image) ≡ Ok image
unfolding file_of
what_is_written_is_read image h = file_of_parts image.parts image.entry h.some h.few h.lies h.sizes h.entry

-- ## One block after the other

-- what is written of a file before a part
pub record IsPart (parts : List Part) (count number index : ℕ) (items : List ℕ) : Type 0 where
  pub same : number ≡ index
  pub rest : items ++ concat (blocks_from count number (drop index parts)) ≡ concat (blocks_from count 0 parts)

pub part_more : (parts : List Part) (count number index next : ℕ) (items new : List ℕ) (part : Part) → index < length parts → part ≡ get_or parts index part → next ≡ number + 1
    → IsPart parts count number index items → new ≡ items ++ block_of count number part → IsPart parts count next (index + 1) new
part_more parts count number index next items new part lt is up was added =
    let rest : List ℕ = concat (blocks_from count (number + 1) (drop (index + 1) parts)) in
    let here : part ∷ drop (index + 1) parts ≡ drop index parts =
    ap (λ (p : Part). p ∷ drop (index + 1) parts) is ∙ sym (drop_more parts index part lt) in
    record {
      same = omega (arith, up, was.same);
      rest = ap (λ n. new ++ concat (blocks_from count n (drop (index + 1) parts))) up
          ∙ ap (λ xs. xs ++ rest) added ∙ append_assoc items (block_of count number part) rest
          ∙ ap (λ (ps : List Part). items ++ concat (blocks_from count number ps)) here ∙ was.rest;
    }

pub part_all : (image : Image) (parts : List Part) (count number index : ℕ) (items : List ℕ) → parts ≡ image.parts → count ≡ length parts → length parts ≤ index → IsPart parts count number index items → items ≡ file_of image
unfolding file_of
part_all image parts count number index items same all past was =
    let none : drop index parts ≡ [] = drop_of_length-le parts past in
    sym (append-nil items)
    ∙ ap (λ (ps : List Part). items ++ concat (blocks_from count number ps)) (sym none)
    ∙ was.rest ∙ ap (λ n. concat (blocks_from n 0 parts)) all ∙ ap (λ (ps : List Part). concat (blocks_from (length ps) 0 ps)) same
