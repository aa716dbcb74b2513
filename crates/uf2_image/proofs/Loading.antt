-- What more is loaded and numbered with one block more.
use Rattle.std.proofs.Common.{◌≡◌, ◌≤◌, ◌<◌, ℕ, suc, ◌+◌, ◌-◌, Bool, true, false, ◌&&◌, ◌||◌, List, [], ◌∷◌, ◌++◌, length, take, drop, get_or, refl, sym, ap, ◌∙◌, arith, cond, ltb, leb, eqb}
use Rattle.std.proofs.lemmas.Bool.Decides.{nat_tests}
use Rattle.std.proofs.lemmas.List.{append-nil, drop_more}
use Rattle.std.proofs.lemmas.List.Folds.{list_any-append}
use Rattle.std.proofs.lemmas.Grind.{flat_map-append}
use Rattle.std.specs.List.{enumerate_from, list_any}
use Rattle.std.specs.Ordering.{nat_cmp, is_eq}
use native.Mathlib.Numerals.{unary_clauses}
use Rattle.std.specs.BTreeSet.{contains}
use Rattle.uf2_image.specs.declared.reading.KeptBlocks.{KeptBlocks}
use Rattle.uf2_image.specs.Uf2.{any_address, has_number, is_loaded, loaded, number_of, pairs, payload_of, size_of, target_of}
use Rattle.uf2_image.specs.Reading.{HasPayload, IsIndexed, LiesInSram}
use Rattle.uf2_image.proofs.Ranges.{length_payload}

row_has_none : (a t : ℕ) → false ≡ (leb t a && ltb a (t + 0))
row_has_none a t = grind (arith, nat_tests)

row_has_step : (a t n : ℕ) → (eqb t a || (leb (t + 1) a && ltb a (t + 1 + n))) ≡ (leb t a && ltb a (t + suc n))
row_has_step a t n = grind (arith, nat_tests)

-- an address is in a row of addresses
row_has : (a t : ℕ) (xs : List ℕ) → list_any (λ pair. eqb pair.0 a) (enumerate_from t xs) ≡ (leb t a && ltb a (t + length xs))
row_has a t [] = row_has_none a t
row_has a t (x ∷ xs) = ap (λ b. eqb t a || b) (row_has a (t + 1) xs) ∙ row_has_step a t (length xs)

-- the same, by the number of addresses
pub row_has_long : (a t n : ℕ) (xs : List ℕ) → length xs ≡ n → list_any (λ pair. eqb pair.0 a) (enumerate_from t xs) ≡ (leb t a && ltb a (t + n))
row_has_long a t n xs e = row_has a t xs ∙ ap (λ m. leb t a && ltb a (t + m)) e

pub is_loaded-push : (bs : List (List ℕ)) (b : List ℕ) (a : ℕ) → HasPayload b → is_loaded (bs ++ b ∷ []) a ≡ (is_loaded bs a || (leb (target_of b) a && ltb a (target_of b + size_of b)))
unfolding is_loaded
is_loaded-push bs b a h =
    ap (list_any (λ pair. eqb pair.0 a)) (flat_map-append pairs bs (b ∷ []))
    ∙ list_any-append (λ pair. eqb pair.0 a) (loaded bs) (pairs b ++ [])
    ∙ ap (λ x. is_loaded bs a || x) (ap (list_any (λ pair. eqb pair.0 a)) (append-nil (pairs b)) ∙ row_has_long a (target_of b) (size_of b) (payload_of b) (length_payload b h))

or_false : (x y : Bool) → (x || (y || false)) ≡ (x || y)
or_false x y = grind arith

pub has_number-push : (bs : List (List ℕ)) (b : List ℕ) (n : ℕ) → has_number (bs ++ b ∷ []) n ≡ (has_number bs n || eqb (number_of b) n)
unfolding has_number
has_number-push bs b n = list_any-append (λ block. eqb (number_of block) n) bs (b ∷ []) ∙ or_false (has_number bs n) (eqb (number_of b) n)

first_of_row : (flags : List Bool) (f : ℕ → Bool) (t s n : ℕ) → 0 < n → ((k : ℕ) → k < n → get_or flags (s + k) false ≡ f (t + k)) → get_or flags s false ≡ f t
first_of_row flags f t s n p h = simp unary_clauses at (h 0 p)

rest_of_row : (flags : List Bool) (f : ℕ → Bool) (t s n m : ℕ) → n ≡ suc m → ((k : ℕ) → k < n → get_or flags (s + k) false ≡ f (t + k)) → (k : ℕ) → k < m → get_or flags (s + 1 + k) false ≡ f (t + 1 + k)
rest_of_row flags f t s n m e h k lt =
    let a : s + 1 + k ≡ s + suc k = omega arith in
    let b : t + 1 + k ≡ t + suc k = omega arith in
    ap (λ i. get_or flags i false) a ∙ h (suc k) (omega arith) ∙ sym (ap f b)

shifted_row : (flags : List Bool) (f : ℕ → Bool) (t s n l : ℕ) → s + 0x20000000 ≡ t → s + n ≤ l → ((k : ℕ) → k < l → get_or flags k false ≡ f (0x20000000 + k)) → (k : ℕ) → k < n → get_or flags (s + k) false ≡ f (t + k)
shifted_row flags f t s n l e le h k lt =
    let a : 0x20000000 + (s + k) ≡ t + k = omega arith in
    h (s + k) (omega arith) ∙ ap f a

flags_step : (flags : List Bool) (f : ℕ → Bool) (s t n m : ℕ) (r : Bool) → n ≡ suc m → s < length flags → get_or flags s false ≡ f t
    → list_any (λ flag. flag) (take m (drop (s + 1) flags)) ≡ r → list_any (λ flag. flag) (take n (drop s flags)) ≡ (f t || r)
flags_step flags f s t n m r e lt here rest = rw (e, drop_more flags s false lt, here, rest) refl

shifted_test : (x : Bool) (s e k t n : ℕ) → s + 0x20000000 ≡ t → e ≡ s + n → (x || (leb t (0x20000000 + k) && ltb (0x20000000 + k) (t + n))) ≡ ((leb s k && ltb k e) || x)
shifted_test x s e k t n a b = grind (arith, nat_tests)

pub adds_number : (x : Bool) (m n : ℕ) → cond (is_eq (nat_cmp m n)) true x ≡ (x || eqb m n)
adds_number x m n = grind (arith, nat_tests)

-- the flags of a row of addresses
flags_of_row : (flags : List Bool) (f : ℕ → Bool) (t s n : ℕ) (xs : List ℕ) → length xs ≡ n → ((k : ℕ) → k < n → get_or flags (s + k) false ≡ f (t + k)) → s + n ≤ length flags → list_any (λ flag. flag) (take n (drop s flags)) ≡ list_any (λ pair. f pair.0) (enumerate_from t xs)
flags_of_row flags f t s n [] e h l = rw (← e) refl
flags_of_row flags f t s n (x ∷ xs) e h l =
    let here : get_or flags s false ≡ f t = first_of_row flags f t s n (omega arith) h in
    let rest : list_any (λ flag. flag) (take (length xs) (drop (s + 1) flags)) ≡ list_any (λ pair. f pair.0) (enumerate_from (t + 1) xs) =
    flags_of_row flags f (t + 1) (s + 1) (length xs) xs refl (rest_of_row flags f t s n (length xs) (omega arith) h) (omega arith) in
    flags_step flags f s t n (length xs) (list_any (λ pair. f pair.0) (enumerate_from (t + 1) xs)) (sym e) (omega arith) here rest

overlap_row : (flags : List Bool) (bs : List (List ℕ)) (b : List ℕ) (s n : ℕ) → HasPayload b → LiesInSram b → length flags ≡ 0x42000
    → ((k : ℕ) → k < 0x42000 → get_or flags k false ≡ is_loaded bs (0x20000000 + k)) → s + 0x20000000 ≡ target_of b → n ≡ size_of b
    → list_any (λ flag. flag) (take n (drop s flags)) ≡ any_address (is_loaded bs) b
unfolding any_address
overlap_row flags bs b s n h lies long each e same =
    flags_of_row flags (is_loaded bs) (target_of b) s n (payload_of b) (length_payload b h ∙ sym same)
    (shifted_row flags (is_loaded bs) (target_of b) s n 0x42000 e (omega (arith, lies.finish)) each) (omega (arith, lies.finish))

-- the flags of a block's bytes tell whether one of the bytes is loaded
pub overlap_flags : (flags slice : List Bool) (bs : List (List ℕ)) (b : List ℕ) (t n : ℕ) → HasPayload b → LiesInSram b → length flags ≡ 0x42000
    → ((k : ℕ) → k < 0x42000 → get_or flags k false ≡ is_loaded bs (0x20000000 + k)) → slice ≡ flags → t ≡ target_of b → n ≡ size_of b
    → list_any (λ flag. flag) (take (t - 0x20000000 + n - (t - 0x20000000)) (drop (t - 0x20000000) slice)) ≡ any_address (is_loaded bs) b
overlap_flags flags slice bs b t n h lies long each e et en =
    let count : t - 0x20000000 + n - (t - 0x20000000) ≡ n = omega arith in
    let start : t - 0x20000000 + 0x20000000 ≡ target_of b = omega (arith, lies.start) in
    rw (count, e) (overlap_row flags bs b (t - 0x20000000) n h lies long each start en)

flags_after : (new old : List Bool) (bs : List (List ℕ)) (b : List ℕ) (s e k : ℕ) → HasPayload b
    → get_or new k false ≡ ((leb s k && ltb k e) || get_or old k false) → get_or old k false ≡ is_loaded bs (0x20000000 + k)
    → s + 0x20000000 ≡ target_of b → e ≡ s + size_of b → get_or new k false ≡ is_loaded (bs ++ b ∷ []) (0x20000000 + k)
flags_after new old bs b s e k h is was start finish =
    is ∙ ap (λ x. (leb s k && ltb k e) || x) was ∙ sym (is_loaded-push bs b (0x20000000 + k) h ∙ shifted_test (is_loaded bs (0x20000000 + k)) s e k (target_of b) (size_of b) start finish)

-- one block more
pub IsIndexed-push : (old new : KeptBlocks) (b : List ℕ) (flags slice : List Bool) (t n m : ℕ) → IsIndexed old → HasPayload b → LiesInSram b
    → new.blocks.items ≡ old.blocks.items ++ b ∷ []
    → ((q : ℕ) → contains nat_cmp new.numbers q ≡ cond (is_eq (nat_cmp m q)) true (contains nat_cmp old.numbers q))
    → new.loaded.items ≡ flags → length flags ≡ length old.loaded.items → slice ≡ old.loaded.items
    → ((k : ℕ) → get_or flags k false ≡ ((leb (t - 0x20000000) k && ltb k (t - 0x20000000 + n)) || get_or slice k false))
    → t ≡ target_of b → n ≡ size_of b → m ≡ number_of b → IsIndexed new
IsIndexed-push old new b flags slice t n m ix h lies blocks numbers same long was each et en em = record {
  numbers = λ q. numbers q ∙ adds_number (contains nat_cmp old.numbers q) m q ∙ ap (λ x. x || eqb m q) (ix.numbers q) ∙ ap (λ j. has_number old.blocks.items q || eqb j q) em
      ∙ sym (ap (λ bs. has_number bs q) blocks ∙ has_number-push old.blocks.items b q);
  long = ap length same ∙ long ∙ ix.long;
  loaded = λ k lt. ap (λ xs. get_or xs k false) same ∙ flags_after flags old.loaded.items old.blocks.items b (t - 0x20000000) (t - 0x20000000 + n) k h
      (each k ∙ ap (λ xs. (leb (t - 0x20000000) k && ltb k (t - 0x20000000 + n)) || get_or xs k false) was) (ix.loaded k lt) (omega (arith, lies.start)) (ap (λ j. t - 0x20000000 + j) en)
      ∙ sym (ap (λ bs. is_loaded bs (0x20000000 + k)) blocks);
}
