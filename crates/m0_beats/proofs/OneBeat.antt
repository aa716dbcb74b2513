-- One beat of a list of accesses.
use Rattle.std.proofs.Common.{◌≡◌, ℕ, zero, suc, ◌+◌, ◌-◌, ◌*◌, ◌%◌, ◌^◌, ◌<◌, ◌≢◌, List, [], ◌∷◌, ◌++◌, length, refl, ap, ◌∙◌, arith}
use Rattle.std.specs.Prelude.{Option, Some, None, map, slice_get}
use Rattle.std.specs.Option.{option_map}
use Rattle.std.proofs.lemmas.Option.{slice_get-map}
use Rattle.std.proofs.lemmas.List.{length-map}
use Rattle.rp_base.specs.declared.Size.TheVariants as sizes
use Rattle.std.proofs.Common.{true, false, length-append}
use Rattle.rp_base.specs.Word.{has_bit}
use Rattle.m0_beats.specs.declared.registers.Regs.{Regs}
use Rattle.m0_beats.specs.declared.timing.Beat.TheVariants.{Inner}
use Rattle.m0_beats.specs.Beats.{access, accesses, reads, registers_of, pop_beats}
use Rattle.std.specs.Int.Count.{ones}
use Rattle.m0_beats.proofs.Lists.{registers_count}
use Rattle.m0_beats.specs.declared.timing.Beat.{Beat}

-- the access of a word at an index
abbrev pub word_access : ℕ → ℕ → Option ℕ → Beat
word_access from i write = access ((from + 4 * i) % 2 ^ 32) sizes.Word write

accesses_at : (from : ℕ) (writes : List (Option ℕ)) (i : ℕ) → from < 2 ^ 32 → slice_get (accesses from writes) i ≡ option_map (word_access from i) (slice_get writes i)
accesses_at from [] i fits = refl
accesses_at from (write ∷ writes) zero fits =
    let first : from ≡ (from + 4 * 0) % 2 ^ 32 = omega arith in
    ap (λ n. Some (access n sizes.Word write)) first
accesses_at from (write ∷ writes) (suc i) fits =
    let next : ((from + 4) % 2 ^ 32 + 4 * i) % 2 ^ 32 ≡ (from + 4 * suc i) % 2 ^ 32 = omega arith in
    accesses_at ((from + 4) % 2 ^ 32) writes i (omega arith)
    ∙ ap (λ (n : ℕ). option_map (access n sizes.Word) (slice_get writes i)) next

-- an index past the registers, and an index of a register
pub access_none : (f : ℕ → Option ℕ) (from : ℕ) (ks : List ℕ) (i : ℕ) → from < 2 ^ 32 → None ≡ slice_get ks i → None ≡ slice_get (accesses from (map f ks)) i
access_none f from ks i fits e = grind (arith, accesses_at from (map f ks) i fits, slice_get-map f ks i)

pub access_some : (f : ℕ → Option ℕ) (from : ℕ) (ks : List ℕ) (i k : ℕ) → from < 2 ^ 32 → Some k ≡ slice_get ks i → Some (word_access from i (f k)) ≡ slice_get (accesses from (map f ks)) i
access_some f from ks i k fits e = grind (arith, accesses_at from (map f ks) i fits, slice_get-map f ks i)

-- ---- a list and what follows

pub get_front : (xs ys : List Beat) (i : ℕ) → i < length xs → slice_get (xs ++ ys) i ≡ slice_get xs i
get_front [] ys i h = absurd (omega arith)
get_front (x ∷ xs) ys zero h = refl
get_front (x ∷ xs) ys (suc i) h = get_front xs ys i (omega arith)

pub get_back : (xs ys : List Beat) (i j : ℕ) → i ≡ length xs + j → slice_get (xs ++ ys) i ≡ slice_get ys j
get_back [] ys i j e = ap (slice_get ys) (omega arith)
get_back (x ∷ xs) ys zero j e = absurd (omega arith)
get_back (x ∷ xs) ys (suc i) j e = get_back xs ys i j (omega arith)

pub length_accesses : (from : ℕ) (writes : List (Option ℕ)) → length (accesses from writes) ≡ length writes
length_accesses from [] = refl
length_accesses from (write ∷ writes) =
    let rest = length_accesses ((from + 4) % 2 ^ 32) writes in
    omega (arith, rest)

pub get_rest : (x : Beat) (xs : List Beat) (i : ℕ) → i ≢ 0 → slice_get (x ∷ xs) i ≡ slice_get xs (i - 1)
get_rest x xs zero h = absurd (h refl)
get_rest x xs (suc i) h = ap (slice_get xs) (omega arith)

pub register_next : (k : ℕ) (ks : List ℕ) (i : ℕ) → i ≢ 0 → slice_get (k ∷ ks) i ≡ slice_get ks (i - 1)
register_next k ks zero h = absurd (h refl)
register_next k ks (suc i) h = ap (slice_get ks) (omega arith)

pub reads_count : (from list : ℕ) → list < 2 ^ 16 → length (reads from (registers_of list)) ≡ ones list
reads_count from list fits =
    grind (arith, length_accesses, length-map, registers_count list fits)

-- ---- how many beats

pub many_count : (f : ℕ → Option ℕ) (from list : ℕ) → 1 + length (registers_of list) ≡ length (Inner ∷ accesses from (map f (registers_of list)))
many_count f from list = grind (arith, length_accesses from (map f (registers_of list)), length-map (registers_of list) f)

pub pop_count_pc : (list : ℕ) (s : Regs) → has_bit list 15 ≡ true → 3 + length (registers_of list) ≡ length (pop_beats list s)
pop_count_pc list s is = grind (arith, length_accesses, length-map, length-append)

pub pop_count_low : (list : ℕ) (s : Regs) → has_bit list 15 ≡ false → 1 + length (registers_of list) ≡ length (pop_beats list s)
pop_count_low list s is = grind (arith, length_accesses, length-map, length-append)
