use Rattle.std.proofs.Common.{◌≡◌, ℕ, ℤ, ◌∷◌, List, [], Bool, true, false, cond, Option, None, Some, refl, sym, ◌∙◌, inl, inr}
use Rattle.pio_asm.proofs.Shared.{is_some, ◌⊎◌, ⊤, Operator, Add, Subtract, Multiply, Negate, ReverseOperator as Reverse, Term, Number, Name, OperatorTerm, Evaluation, Evaluated, Field, Modifier, found, Names, AllValued, after_binary, after_unary, binary_step, evaluated, evaluation_of, name_step, one_operand, operator_step, rest_of, term_step, top_of, two_operands, unary_step, value_in, with_result, field_by, field_in, field_with, number_within, modifier_by, modifier_in, modifier_with, polarity_in}
use Rattle.std.specs.Str.{bytes_eq}

pub option_cases : {X : Type 0} (o : Option X) → (o ≡ None) ⊎ ((x : X) × (o ≡ Some x))
option_cases None = inl refl
option_cases (Some x) = inr (x, refl)

found_if : (b : Bool) (here v : Option ℤ) (rest : Option (Option ℤ)) → is_some here ≡ true → (rest ≡ Some v → is_some v ≡ true) → cond b (Some here) rest ≡ Some v → is_some v ≡ true
found_if true here v rest h r e = cc
found_if false here v rest h r e = r e

found-valued : (name : List ℕ) (names : Names) (v : Option ℤ) → AllValued names → found name names ≡ Some v → is_some v ≡ true
found-valued name [] v h e = cc
found-valued name (s ∷ ss) v h e = found_if (bytes_eq name s.0) s.1 v (found name ss) h.0 (λ r. found-valued name ss v h.1 r) e

value_in-valued : (locals globals : Names) (name : List ℕ) (v : Option ℤ) → AllValued locals → AllValued globals → value_in locals globals name ≡ Some v → is_some v ≡ true
value_in-valued locals globals name v lv gv e = elim (option_cases (found name locals)) [
  | inl none ↦ let g : value_in locals globals name ≡ found name globals = rw none refl in found-valued name globals v gv (sym g ∙ e)
  | inr some ↦ let g : value_in locals globals name ≡ Some some.0 = rw some.1 refl in found-valued name locals v lv (some.1 ∙ sym g ∙ e)
]

abbrev AllSome : List (Option ℤ) → Type 0
AllSome [] = ⊤
AllSome (value ∷ values) = (is_some value ≡ true) × AllSome values

-- without a fault, each operand has a value
abbrev Clean : Evaluation → Type 0
Clean evaluation = evaluation.unknown ≡ false → evaluation.outside ≡ false → AllSome evaluation.stack

top-some : (stack : List (Option ℤ)) → AllSome stack → is_some (top_of stack) ≡ true
top-some [] h = refl
top-some (v ∷ vs) h = h.0

rest-some : (stack : List (Option ℤ)) → AllSome stack → AllSome (rest_of stack)
rest-some [] h = tt
rest-some (v ∷ vs) h = h.1

with_result-clean : (r : Option ℤ) (e : Evaluation) → Clean e → Clean (with_result r e)
with_result-clean None e c u o = cc
with_result-clean (Some z) e c u o = (refl, c u o)

after_unary-clean : (op : Operator) (x : Option ℤ) (e : Evaluation) → (e.unknown ≡ false → e.outside ≡ false → (is_some x ≡ true) × AllSome e.stack) → Clean (after_unary op x e)
after_unary-clean op None e c u o = let h : false ≡ true = (c u o).0 in cc
after_unary-clean op (Some x) e c u o = with_result-clean (one_operand op x) e (λ a b. (c a b).1) u o

after_binary-clean : (op : Operator) (x y : Option ℤ) (e : Evaluation) → (e.unknown ≡ false → e.outside ≡ false → (is_some x ≡ true) × (is_some y ≡ true) × AllSome e.stack) → Clean (after_binary op x y e)
after_binary-clean op None y e c u o = let h : false ≡ true = (c u o).0 in cc
after_binary-clean op (Some x) None e c u o = let h : false ≡ true = (c u o).1 in cc
after_binary-clean op (Some x) (Some y) e c u o = with_result-clean (two_operands op x y) e (λ a b. (c a b).2) u o

unary-clean : (op : Operator) (e : Evaluation) → Clean e → Clean (unary_step op e)
unary-clean op e c = after_unary-clean op (top_of e.stack) (record e { stack = rest_of e.stack }) (λ u o. (top-some e.stack (c u o), rest-some e.stack (c u o)))

binary-clean : (op : Operator) (e : Evaluation) → Clean e → Clean (binary_step op e)
binary-clean op e c = after_binary-clean op (top_of (rest_of e.stack)) (top_of e.stack) (record e { stack = rest_of (rest_of e.stack) })
    (λ u o. (top-some (rest_of e.stack) (rest-some e.stack (c u o)), top-some e.stack (c u o), rest-some (rest_of e.stack) (rest-some e.stack (c u o))))

operator-clean : (op : Operator) (e : Evaluation) → Clean e → Clean (operator_step op e)
operator-clean Add e c = binary-clean Add e c
operator-clean Subtract e c = binary-clean Subtract e c
operator-clean Multiply e c = binary-clean Multiply e c
operator-clean Negate e c = unary-clean Negate e c
operator-clean Reverse e c = unary-clean Reverse e c

name-clean : (value : Option (Option ℤ)) (e : Evaluation) → ((v : Option ℤ) → value ≡ Some v → is_some v ≡ true) → Clean e → Clean (name_step value e)
name-clean None e s c u o = cc
name-clean (Some v) e s c u o = (s v refl, c u o)

term-clean : (locals globals : Names) (term : Term) (e : Evaluation) → AllValued locals → AllValued globals → Clean e → Clean (term_step locals globals term e)
term-clean locals globals (Number n) e lv gv c = with_result-clean _ e c
term-clean locals globals (Name name) e lv gv c = name-clean (value_in locals globals name) e (λ v h. value_in-valued locals globals name v lv gv h) c
term-clean locals globals (OperatorTerm op) e lv gv c = operator-clean op e c

all-clean : (locals globals : Names) (terms : List Term) (e : Evaluation) → AllValued locals → AllValued globals → Clean e → Clean (evaluation_of locals globals terms e)
all-clean locals globals [] e lv gv c = c
all-clean locals globals (t ∷ ts) e lv gv c = all-clean locals globals ts (term_step locals globals t e) lv gv (term-clean locals globals t e lv gv c)

-- without a fault there is a value
abbrev pub IsValued : Evaluated → Type 0
IsValued e = e.unknown ≡ false → e.outside ≡ false → is_some e.value ≡ true

abbrev start : Evaluation
start = record { stack = []; unknown = false; outside = false }

pub evaluated-valued : (locals globals : Names) (terms : List Term) → AllValued locals → AllValued globals → IsValued (evaluated locals globals terms)
evaluated-valued locals globals terms lv gv u o =
    let final : Evaluation = evaluation_of locals globals terms start in
    top-some final.stack (all-clean locals globals terms start lv gv (λ a b. tt) u o)

abbrev pub IsFieldValued : Field → Type 0
IsFieldValued f = f.unknown ≡ false → f.range ≡ false → is_some f.value ≡ true

field_with-valued : (u o : Bool) (n : Option ℕ) → IsFieldValued (field_with u o n)
field_with-valued u o None hu hr = cc
field_with-valued u o (Some n) hu hr = refl

field_by-valued : (low high : ℕ) (u o : Bool) (v : Option ℤ) → (u ≡ false → o ≡ false → is_some v ≡ true) → IsFieldValued (field_by low high u o v)
field_by-valued low high u o None h hu ho = h hu ho
field_by-valued low high u o (Some z) h hu ho = field_with-valued u o (number_within low high z) hu ho

pub field-valued : (locals globals : Names) (low high : ℕ) (terms : List Term) → AllValued locals → AllValued globals → IsFieldValued (field_in locals globals low high terms)
field-valued locals globals low high terms lv gv =
    let e : Evaluated = evaluated locals globals terms in field_by-valued low high e.unknown e.outside e.value (evaluated-valued locals globals terms lv gv)

pub polarity-valued : (locals globals : Names) (terms : Option (List Term)) → AllValued locals → AllValued globals → IsFieldValued (polarity_in locals globals terms)
polarity-valued locals globals None lv gv = λ u r. refl
polarity-valued locals globals (Some terms) lv gv = field-valued locals globals 0 1 terms lv gv

abbrev pub IsFound : Modifier → Type 0
IsFound p = p.unknown ≡ false → p.outside ≡ false → p.lost ≡ false

modifier_with-found : (u o : Bool) (n : Option ℕ) → IsFound (modifier_with u o n)
modifier_with-found u o None hu ho = refl
modifier_with-found u o (Some n) hu ho = refl

modifier_by-found : (greatest : ℕ) (u o : Bool) (v : Option ℤ) → (u ≡ false → o ≡ false → is_some v ≡ true) → IsFound (modifier_by greatest u o v)
modifier_by-found greatest u o None h hu ho = let e : false ≡ true = h hu ho in cc
modifier_by-found greatest u o (Some z) h hu ho = modifier_with-found u o (number_within 0 greatest z) hu ho

pub modifier-found : (locals globals : Names) (greatest : ℕ) (terms : List Term) → AllValued locals → AllValued globals → IsFound (modifier_in locals globals greatest terms)
modifier-found locals globals greatest terms lv gv =
    let e : Evaluated = evaluated locals globals terms in modifier_by-found greatest e.unknown e.outside e.value (evaluated-valued locals globals terms lv gv)
