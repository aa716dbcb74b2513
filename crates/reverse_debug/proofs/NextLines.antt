-- How a reader of lines goes over the bytes of a source.
use Rattle.reverse_debug.proofs.Shared.{Ahead, Bool, Consumes, Fills, HasNoEnd, List, None, Option, Passes, Reads, Some, [], ap, append_assoc, arith, cond, drop, false, given_bytes, length, length-append, min, nat_le, nat_lt, not, position, position_or_len, refl, subst, suc, sym, take, true, zero, ℕ, ◌++◌, ◌+◌, ◌-◌, ◌<◌, ◌==◌, ◌∙◌, ◌∷◌, ◌≡◌, ◌≤◌}
use Rattle.std.specs.Option.{option_map}
use Rattle.std.proofs.Math.Seq.{take-append-add}
use Rattle.std.proofs.lemmas.List.{append-nil, take_all, take-append-drop}
use Rattle.rp_ports.specs.declared.source.Taken.TheVariants as taken
use Rattle.reverse_debug.specs.declared.reader.Next.TheVariants.{Line}

-- ---- the first LF

abbrev is_end : ℕ → Bool
is_end byte = byte == 10

-- no byte before the first LF is one
before_end : (xs : List ℕ) → HasNoEnd (take (position_or_len is_end xs) xs)
before_end [] = tt
before_end (x ∷ xs) = elim (x == 10) as (λ b. (x == 10) ≡ b → HasNoEnd (take (cond (not b) (1 + position_or_len is_end xs) 0) (x ∷ xs))) [
  | true ↦ λ e. tt
  | false ↦ λ e. let one : 1 + position_or_len is_end xs ≡ suc (position_or_len is_end xs) = omega arith in subst (λ m. HasNoEnd (take m (x ∷ xs))) (sym one) (e, before_end xs)
] refl

-- and there it stands
at_end : (xs : List ℕ) → position_or_len is_end xs < length xs → drop (position_or_len is_end xs) xs ≡ 10 ∷ drop (position_or_len is_end xs + 1) xs
at_end [] lt = absurd (omega (arith, lt))
at_end (x ∷ xs) lt = elim (x == 10) as (λ b. (x == 10) ≡ b → cond (not b) (1 + position_or_len is_end xs) 0 < suc (length xs) → drop (cond (not b) (1 + position_or_len is_end xs) 0) (x ∷ xs) ≡ 10 ∷ drop (cond (not b) (1 + position_or_len is_end xs) 0 + 1) (x ∷ xs)) [
  | true ↦ λ e lt. let is : x ≡ 10 = grind (arith, e) in ap (λ b. b ∷ xs) is
  | false ↦ λ e lt.
      let one : 1 + position_or_len is_end xs ≡ suc (position_or_len is_end xs) = omega arith in
      let two : 1 + position_or_len is_end xs + 1 ≡ suc (position_or_len is_end xs + 1) = omega arith in
      ap (λ m. drop m (x ∷ xs)) one ∙ at_end xs (omega (arith, lt)) ∙ ap (λ m. 10 ∷ drop m (x ∷ xs)) (sym two)
] refl lt

-- the bytes before the first LF, and those behind it
pub first_end : (xs : List ℕ) (n : ℕ) → position (λ byte. byte == 10) xs ≡ Some n → HasNoEnd (take n xs) × (xs ≡ take n xs ++ 10 ∷ drop (n + 1) xs)
first_end xs n is = by (nat_lt (position_or_len is_end xs) (length xs)) refl is
  where
    by : (b : Bool) → nat_lt (position_or_len is_end xs) (length xs) ≡ b → ◌≡◌ {A = Option ℕ} (cond b (Some (position_or_len is_end xs)) None) (Some n) → HasNoEnd (take n xs) × (xs ≡ take n xs ++ 10 ∷ drop (n + 1) xs)
    by true lt e =
        let same : position_or_len is_end xs ≡ n = cc e in
        let there = at_end xs (grind (arith, lt)) in
        subst (λ m. HasNoEnd (take m xs) × (xs ≡ take m xs ++ 10 ∷ drop (m + 1) xs)) same (before_end xs, sym (take-append-drop (position_or_len is_end xs) xs) ∙ ap (λ x. take (position_or_len is_end xs) xs ++ x) there)
    by false lt e = absurd (cc e)

pub no_end : (xs : List ℕ) → position (λ byte. byte == 10) xs ≡ None → HasNoEnd xs
no_end xs is = by (nat_lt (position_or_len is_end xs) (length xs)) refl is
  where
    by : (b : Bool) → nat_lt (position_or_len is_end xs) (length xs) ≡ b → ◌≡◌ {A = Option ℕ} (cond b (Some (position_or_len is_end xs)) None) None → HasNoEnd xs
    by true lt e = absurd (cc e)
    by false lt e = subst HasNoEnd (take_all (position_or_len is_end xs) xs (grind (arith, lt))) (before_end xs)

-- ---- the bytes that are given

-- more bytes behind the first ones
pub given_both : (n : ℕ) (xs ys : List ℕ) → take n (take n xs ++ ys) ≡ take n (xs ++ ys)
given_both zero xs ys = refl
given_both (suc n) [] ys = refl
given_both (suc n) (x ∷ xs) ys = ap (λ l. x ∷ l) (given_both n xs ys)

-- so many of them as there is room for
pub given_room : (n count : ℕ) (xs ys : List ℕ) → count + length xs ≡ n → xs ++ take count ys ≡ take n (xs ++ ys)
given_room n count xs ys is = let far : length xs + count ≡ n = omega (arith, is) in sym (take-append-add xs ys count) ∙ ap (λ m. take m (xs ++ ys)) far

-- as many as there are, or as there is room for
pub given_some : (n count : ℕ) (xs ys : List ℕ) → length xs ≤ n → count ≡ min (length ys) (n - length xs) → xs ++ take count ys ≡ take n (xs ++ ys)
given_some n count xs ys le is = by (nat_le (length xs + length ys) n) refl
  where
    by : (b : Bool) → nat_le (length xs + length ys) n ≡ b → xs ++ take count ys ≡ take n (xs ++ ys)
    by true e =
        let fits : length xs + length ys ≤ n = grind (arith, e) in
        ap (λ y. xs ++ y) (take_all count ys (omega (arith, is, fits))) ∙ sym (take_all n (xs ++ ys) (omega (arith, fits, length-append xs ys)))
    by false e =
        let over : n < length xs + length ys = grind (arith, e) in
        given_room n count xs ys (omega (arith, is, over, le))

-- behind all that was taken nothing is left over
pub drop_taken : (n : ℕ) (xs : List ℕ) → drop n (take n xs) ≡ []
drop_taken zero xs = refl
drop_taken (suc n) [] = refl
drop_taken (suc n) (x ∷ xs) = drop_taken n xs

no_end_both : (xs ys : List ℕ) → HasNoEnd xs → HasNoEnd ys → HasNoEnd (xs ++ ys)
no_end_both [] ys h k = k
no_end_both (x ∷ xs) ys h k = (h.0, no_end_both xs ys h.1 k)

-- ---- a line

pub consumes_none : (left : Option (List ℕ)) → Consumes left left []
consumes_none None = refl
consumes_none (Some bytes) = refl

pub consumes_both : (a b c : Option (List ℕ)) (xs ys : List ℕ) → Consumes a b xs → Consumes b c ys → Consumes a c (xs ++ ys)
consumes_both a b None xs ys h k = h ∙ ap (λ (x : Option (List ℕ)). option_map (λ l. xs ++ l) x) k
consumes_both a b (Some l) xs ys h k = h ∙ ap (λ (x : Option (List ℕ)). option_map (λ r. xs ++ r) x) k ∙ ap Some (sym (append_assoc xs ys l))

-- no LF came so far, and no take failed
pub record Passed (limit : ℕ) (old new : Ahead) (left left' : Option (List ℕ)) (lost lost' : ℕ) (given : List ℕ) : Type 0 where
  pub bytes : List ℕ
  pub count : new.taken ≡ old.taken + length bytes
  pub within : new.taken ≤ limit
  pub consumed : Consumes left left' bytes
  pub steady : lost' ≡ lost
  pub unended : HasNoEnd (old.rest ++ bytes)
  pub gives : given ≡ take given_bytes (old.rest ++ bytes)
  pub none : new.rest ≡ []

-- a line that stands among what is left over
pub read_first : (limit : ℕ) (a b : Ahead) (left : Option (List ℕ)) (lost : ℕ) (before given : List ℕ) (was : Bool) → was ≡ true → before ≡ [] → a.taken ≤ limit → b.taken ≡ a.taken → Passes a.rest b.rest before given was → Reads limit a b left left lost lost given Line
read_first limit a b left lost before given false is none within same p = absurd (cc is)
read_first limit a b left lost before given true is none within same p = record {
  bytes = [];
  line = p.0;
  count = omega (arith, same);
  within = omega (arith, same, within);
  consumed = consumes_none left;
  unended = p.1;
  gives = p.3 ∙ ap (λ x. take given_bytes (x ++ p.0)) none;
  splits = append-nil a.rest ∙ p.2;
  ends = refl;
}

-- with one take more
given_on : (first more given given' : List ℕ) → given ≡ take given_bytes first → given' ≡ take given_bytes (given ++ more) → given' ≡ take given_bytes (first ++ more)
given_on first more given given' is next = next ∙ ap (λ x. take given_bytes (x ++ more)) is ∙ given_both given_bytes first more

pub read_more : (limit : ℕ) (a b c d : Ahead) (left left' left'' : Option (List ℕ)) (lost lost' lost'' : ℕ) (given given' : List ℕ) (n : ℕ) (was : Bool) → was ≡ true → Passed limit a b left left' lost lost' given → Fills limit b c left' left'' lost' lost'' (taken.Took n) → d.taken ≡ c.taken → Passes c.rest d.rest given given' was → Reads limit a d left left'' lost lost'' given' Line
read_more limit a b c d left left' left'' lost lost' lost'' given given' n false is k f same p = absurd (cc is)
read_more limit a b c d left left' left'' lost lost' lost'' given given' n true is k f same p = record {
  bytes = k.bytes ++ c.rest;
  line = (a.rest ++ k.bytes) ++ p.0;
  count = omega (arith, same, f.1, k.count, f.3, length-append k.bytes c.rest);
  within = omega (arith, same, f.2);
  consumed = consumes_both left left' left'' k.bytes c.rest k.consumed f.4;
  unended = no_end_both (a.rest ++ k.bytes) p.0 k.unended p.1;
  gives = given_on (a.rest ++ k.bytes) p.0 given given' k.gives p.3;
  splits = sym (append_assoc a.rest k.bytes c.rest) ∙ ap (λ x. (a.rest ++ k.bytes) ++ x) p.2 ∙ sym (append_assoc (a.rest ++ k.bytes) p.0 (10 ∷ d.rest));
  ends = f.5 ∙ k.steady;
}

pub passed_more : (limit : ℕ) (a b c d : Ahead) (left left' left'' : Option (List ℕ)) (lost lost' lost'' : ℕ) (given given' : List ℕ) (n : ℕ) (was : Bool) → was ≡ false → Passed limit a b left left' lost lost' given → Fills limit b c left' left'' lost' lost'' (taken.Took n) → d.taken ≡ c.taken → Passes c.rest d.rest given given' was → Passed limit a d left left'' lost lost'' given'
passed_more limit a b c d left left' left'' lost lost' lost'' given given' n true is k f same p = absurd (cc is)
passed_more limit a b c d left left' left'' lost lost' lost'' given given' n false is k f same p = record {
  bytes = k.bytes ++ c.rest;
  count = omega (arith, same, f.1, k.count, f.3, length-append k.bytes c.rest);
  within = omega (arith, same, f.2);
  consumed = consumes_both left left' left'' k.bytes c.rest k.consumed f.4;
  steady = f.5 ∙ k.steady;
  unended = subst HasNoEnd (append_assoc a.rest k.bytes c.rest) (no_end_both (a.rest ++ k.bytes) c.rest k.unended p.0);
  gives = given_on (a.rest ++ k.bytes) c.rest given given' k.gives p.2 ∙ ap (take given_bytes) (append_assoc a.rest k.bytes c.rest);
  none = p.1;
}

-- there is less to take
pub nearer : (limit : ℕ) (b c d : Ahead) (left left' : Option (List ℕ)) (lost lost' n : ℕ) → b.taken < limit → Fills limit b c left left' lost lost' (taken.Took n) → d.taken ≡ c.taken → limit - d.taken < limit - b.taken
nearer limit b c d left left' lost lost' n lt f same = omega (arith, lt, f.0, f.1, f.2, same)
