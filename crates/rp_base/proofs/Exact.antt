-- Comparisons that are true exactly where both values are one: of numbers and flags, and from those of the parts, of lists,
-- options, records and enums.
use Rattle.std.proofs.Common.{◌≡◌, refl, sym, ap, ◌∙◌, Bool, true, false, ◌&&◌, List, [], ◌∷◌, nat_eq, Some, None, inl, inr, true≢false}
use Rattle.std.specs.Prelude.{Option, Decides, ◌⊎◌, ⊤}
use Rattle.std.specs.Cmp.{unsigned_Decides, booleans_Decides}
use Rattle.std.specs.Cmp.Lexicographic.{pointwise}
use Rattle.std.specs.Option.{option_eq}
use Rattle.std.proofs.lemmas.Bool.Decides.{Decides-like, Decides-and, Decides-at}
use Rattle.std.proofs.lemmas.Slice.Eq.{slice_eq-Decides}
use mathlib.Core.Bool.{beq}
use denote.Struct.Field.{Field}
use denote.Enum.Declared.{Record, left_or, right_or, declared}
use denote.Enum.Bare.{Bare, sameb, same_true, true_same}
use denote.Enum.Compared.{Each, by}

-- E is true exactly where both are one value
abbrev pub IsExact : {T : Type 0} → (T → T → Bool) → Type 0
IsExact {T} E = (a b : T) → Decides (E a b) (a ≡ b)

pub numbers : IsExact nat_eq
numbers = unsigned_Decides

pub flags : IsExact beq
flags = booleans_Decides

pub lists : {A : Type 0} {E : A → A → Bool} → IsExact E → IsExact (pointwise E)
lists {E = E} exact xs ys = slice_eq-Decides exact xs ys (pointwise E xs ys) refl

abbrev is_none : {A : Type 0} → Option A → Bool
is_none None = true
is_none (Some x) = false

abbrev value_or : {A : Type 0} → A → Option A → A
value_or d None = d
value_or d (Some x) = x

pub options : {A : Type 0} {E : A → A → Bool} → IsExact E → IsExact (option_eq E)
options exact None None = ((λ _. refl), λ _. refl)
options exact None (Some y) = ((λ e. absurd (true≢false (sym e))), λ e. absurd (true≢false (ap is_none e)))
options exact (Some x) None = ((λ e. absurd (true≢false (sym e))), λ e. absurd (true≢false (sym (ap is_none e))))
options {E = E} exact (Some x) (Some y) = Decides-like (E x y) (λ e. ap Some e) (λ e. ap (value_or x) e) (exact x y)

-- two parts, side by side
pub pairs : {A B : Type 0} {E : A → A → Bool} {F : B → B → Bool} → IsExact E → IsExact F → IsExact (λ (p q : A × B). E p.0 q.0 && F p.1 q.1)
pairs {E = E} {F = F} one two p q =
    Decides-like (E p.0 q.0 && F p.1 q.1) (λ e i. (e.0 i, e.1 i)) (λ e. (ap (λ r. r.0) e, ap (λ r. r.1) e)) (Decides-and (E p.0 q.0) (F p.1 q.1) (one p.0 q.0) (two p.1 q.1))

-- a value that is made again from its parts
pub parts : {T P : Type 0} {E : P → P → Bool} (f : T → P) (g : P → T) → ((t : T) → g (f t) ≡ t) → IsExact E → IsExact (λ a b. E (f a) (f b))
parts {E = E} f g back exact a b = Decides-like (E (f a) (f b)) (λ e. sym (back a) ∙ ap g e ∙ back b) (λ e. ap f e) (exact (f a) (f b))

-- ---- answers about two values, of code that compares part by part

pub both : {A B : Type 0} {a x : A} {b y : B} (r s : Bool) → Decides r (a ≡ x) → Decides s (b ≡ y) → Decides (r && s) (◌≡◌ {A = A × B} (a, b) (x, y))
both r s first second =
    Decides-like (r && s) (λ e i. (e.0 i, e.1 i)) (λ e. (ap (λ p. p.0) e, ap (λ p. p.1) e)) (Decides-and r s first second)

-- a value that is made again from its parts
pub whole : {T P : Type 0} {a b : T} (r : Bool) (f : T → P) (g : P → T) → ((t : T) → g (f t) ≡ t) → Decides r (f a ≡ f b) → Decides r (a ≡ b)
whole {a = a} {b = b} r f g back d = Decides-like r (λ e. sym (back a) ∙ ap g e ∙ back b) (λ e. ap f e) d

-- both values as they are seen
pub seen : {T : Type 0} {a b x y : T} (r : Bool) → a ≡ x → b ≡ y → Decides r (a ≡ b) → Decides r (x ≡ y)
seen r left right d = Decides-like r (λ e. sym left ∙ e ∙ right) (λ e. left ∙ e ∙ sym right) d

-- an answer that a comparison gives
pub told : {T : Type 0} {a b : T} {E : T → T → Bool} (r : Bool) → IsExact E → r ≡ E a b → Decides r (a ≡ b)
told {a = a} {b = b} {E = E} r exact e = Decides-at r (E a b) e (exact a b)

-- ---- the fields of a variant

pub none : IsExact (λ (x y : ⊤). true)
none x y = ((λ _. refl), λ _. refl)

pub one : {A : Type 0} {E : A → A → Bool} → IsExact E → IsExact (λ (x y : A × ⊤). E x.0 y.0)
one first = parts (λ x. x.0) (λ v. (v, tt)) (λ _. refl) first

pub two : {A B : Type 0} {E : A → A → Bool} {F : B → B → Bool} → IsExact E → IsExact F → IsExact (λ (x y : A × (B × ⊤)). E x.0 y.0 && F x.1.0 y.1.0)
two first second = parts (λ x. (x.0, x.1.0)) (λ v. (v.0, (v.1, tt))) (λ _. refl) (pairs first second)

pub three : {A B C : Type 0} {E : A → A → Bool} {F : B → B → Bool} {G : C → C → Bool} → IsExact E → IsExact F → IsExact G
    → IsExact (λ (x y : A × (B × (C × ⊤))). E x.0 y.0 && (F x.1.0 y.1.0 && G x.1.1.0 y.1.1.0))
three first second third = parts (λ x. (x.0, (x.1.0, x.1.1.0))) (λ v. (v.0, (v.1.0, (v.1.1, tt)))) (λ _. refl) (pairs first (pairs second third))

-- ---- enums

abbrev pub Exacts : (Fss : List (List Field)) → Each Bool Fss → Type 0
Exacts [] es = ⊤
Exacts (Fs ∷ Fss) es = IsExact es.0 × Exacts Fss es.1

abbrev is_left : {A B : Type 0} → A ⊎ B → Bool
is_left (inl _) = true
is_left (inr _) = false

choices : (Fss : List (List Field)) (es : Each Bool Fss) → Exacts Fss es → IsExact (by false false Fss es)
choices [] es all c d = absurd c
choices (Fs ∷ Fss) es all (inl x) (inl y) = Decides-like (es.0 x y) (λ e. ap inl e) (λ e. ap (left_or x) e) (all.0 x y)
choices (Fs ∷ Fss) es all (inl x) (inr y) = ((λ e. absurd (true≢false (sym e))), λ e. absurd (true≢false (ap is_left e)))
choices (Fs ∷ Fss) es all (inr x) (inl y) = ((λ e. absurd (true≢false (sym e))), λ e. absurd (true≢false (sym (ap is_left e))))
choices (Fs ∷ Fss) es all (inr x) (inr y) =
    Decides-like (by false false Fss es.1 x y) (λ e. ap inr e) (λ e. ap (right_or x) e) (choices Fss es.1 all.1 x y)

-- an enum whose variants are told apart, each by its fields
pub enums : (N : Record) (es : Each Bool N.parts) → Exacts N.parts es → IsExact (λ (a b : N.D). by false false N.parts es (N.as_values a) (N.as_values b))
enums N es all = parts N.as_values N.make N.eta (choices N.parts es all)

-- an enum whose variants have no fields
pub bare : (N : Record) → Bare N.parts → IsExact (sameb (declared N))
bare N all a b = (same_true (declared N) all a b, true_same (declared N) a b)

-- ---- lists of four

abbrev head_or : {A : Type 0} → A → List A → A
head_or d [] = d
head_or d (x ∷ xs) = x

abbrev tail_of : {A : Type 0} → List A → List A
tail_of [] = []
tail_of (x ∷ xs) = xs

pub four : {A : Type 0} {a b c d w x y z : A} (r : Bool)
    → Decides r (◌≡◌ {A = ((A × A) × A) × A} (((a, b), c), d) (((w, x), y), z))
    → Decides r (a ∷ b ∷ c ∷ d ∷ [] ≡ w ∷ x ∷ y ∷ z ∷ [])
four {a = a} {b = b} {c = c} {d = d} r same = Decides-like r
    (λ e. ap (λ p. p.0.0.0 ∷ p.0.0.1 ∷ p.0.1 ∷ p.1 ∷ []) e)
    (λ e. ap (λ l. (((head_or a l, head_or b (tail_of l)), head_or c (tail_of (tail_of l))), head_or d (tail_of (tail_of (tail_of l))))) e)
    same
