-- The terms of a tree leave its value on the stack.
use Rattle.std.proofs.Common.{◌≡◌, ◌||◌, not, ℕ, ℤ, pos, ◌+ℤ◌, ◌-ℤ◌, ◌*ℤ◌, neg_ℤ, nat_le, Bool, true, false, if◌then◌else◌, List, [], ◌∷◌, ◌++◌, Option, None, Some, arith, refl, sym, ap, ◌∙◌, append_assoc, append-nil}
use Rattle.pio_asm.proofs.Shared.{option_map, ints, Operator, Add, Subtract, Multiply, Negate as NegateOperator, ReverseOperator, Term, OperatorTerm, Evaluation, Names, bounded, evaluation_of, is_in_bounds, name_step, number_step, operator_step, outcome_of, reversed_bits, value_in, with_result}
use Rattle.pio_parse.specs.Grammar.{Expr, postfix}
use Rattle.pio_parse.specs.Grammar.Expr.{Number, Name, Negate, Reverse, Sum, Difference, Product}
use Rattle.pio_asm.specs.Tree.{ValuesOfTrees, is_undefined, leaves_bounds, one_leaves, tree_value, two_leave, uses_undefined, value_of_name, value_of_one, value_of_two}

-- the outcome of a step, by the test of its bounds
tested : (test : Bool) (z : ℤ) (stack : List (Option ℤ)) (unknown outside : Bool)
    → with_result (if test then Some z else None) (record { stack = stack; unknown = unknown; outside = outside })
    ≡ record { stack = (if test then Some z else None) ∷ stack; unknown = unknown; outside = not test || outside }
tested true z stack unknown outside = refl
tested false z stack unknown outside = refl

number_in_bounds : (n : ℕ) → nat_le n 4294967295 ≡ is_in_bounds (pos n)
number_in_bounds n = grind (arith, ints)

numbers : (n : ℕ) (stack : List (Option ℤ)) (unknown outside : Bool)
    → number_step n (record { stack = stack; unknown = unknown; outside = outside })
    ≡ record { stack = bounded (pos n) ∷ stack; unknown = unknown; outside = not (is_in_bounds (pos n)) || outside }
numbers n stack unknown outside = rw (number_in_bounds n) (tested (is_in_bounds (pos n)) (pos n) stack unknown outside)

defined : (value : Option (Option ℤ)) (stack : List (Option ℤ)) (unknown outside : Bool)
    → name_step value (record { stack = stack; unknown = unknown; outside = outside })
    ≡ record { stack = value_of_name value ∷ stack; unknown = is_undefined value || unknown; outside = outside }
defined None stack unknown outside = refl
defined (Some value) stack unknown outside = refl

negated : (value : Option ℤ) (stack : List (Option ℤ)) (unknown outside : Bool)
    → operator_step NegateOperator (record { stack = value ∷ stack; unknown = unknown; outside = outside })
    ≡ record { stack = value_of_one neg_ℤ value ∷ stack; unknown = unknown; outside = one_leaves neg_ℤ value || outside }
negated None stack unknown outside = refl
negated (Some x) stack unknown outside = tested (is_in_bounds (neg_ℤ x)) (neg_ℤ x) stack unknown outside

reversed : (value : Option ℤ) (stack : List (Option ℤ)) (unknown outside : Bool)
    → operator_step ReverseOperator (record { stack = value ∷ stack; unknown = unknown; outside = outside })
    ≡ record { stack = option_map reversed_bits value ∷ stack; unknown = unknown; outside = outside }
reversed None stack unknown outside = refl
reversed (Some x) stack unknown outside = refl

-- the operations of two operands
abbrev operation_of : Operator → ℤ → ℤ → ℤ
operation_of Add = ◌+ℤ◌
operation_of Subtract = ◌-ℤ◌
operation_of operator = ◌*ℤ◌

data Binary : Operator → Type 0 where
  adds : Binary Add
  subtracts : Binary Subtract
  multiplies : Binary Multiply

combined : {operator : Operator} → Binary operator → (left right : Option ℤ) (stack : List (Option ℤ)) (unknown outside : Bool)
    → operator_step operator (record { stack = right ∷ left ∷ stack; unknown = unknown; outside = outside })
    ≡ record { stack = value_of_two (operation_of operator) left right ∷ stack; unknown = unknown; outside = two_leave (operation_of operator) left right || outside }
combined adds None None stack unknown outside = refl
combined adds None (Some y) stack unknown outside = refl
combined adds (Some x) None stack unknown outside = refl
combined adds (Some x) (Some y) stack unknown outside = tested (is_in_bounds (x +ℤ y)) (x +ℤ y) stack unknown outside
combined subtracts None None stack unknown outside = refl
combined subtracts None (Some y) stack unknown outside = refl
combined subtracts (Some x) None stack unknown outside = refl
combined subtracts (Some x) (Some y) stack unknown outside = tested (is_in_bounds (x -ℤ y)) (x -ℤ y) stack unknown outside
combined multiplies None None stack unknown outside = refl
combined multiplies None (Some y) stack unknown outside = refl
combined multiplies (Some x) None stack unknown outside = refl
combined multiplies (Some x) (Some y) stack unknown outside = tested (is_in_bounds (x *ℤ y)) (x *ℤ y) stack unknown outside

or_moved : (a b c : Bool) → (b || (a || c)) ≡ (a || b || c)
or_moved true true c = refl
or_moved true false c = refl
or_moved false true c = refl
or_moved false false c = refl

or_moved-twice : (a b d c : Bool) → (d || (b || (a || c))) ≡ (a || b || d || c)
or_moved-twice a b d c = ap (λ x. d || x) (or_moved a b c) ∙ or_moved (a || b) d c

module _ (locals globals : Names) where
  abbrev after : Expr → Evaluation → Evaluation
  after tree e = record {
    stack = tree_value locals globals tree ∷ e.stack;
    unknown = uses_undefined locals globals tree || e.unknown;
    outside = leaves_bounds locals globals tree || e.outside;
  }

  -- terms that leave the value of this tree, whatever comes after them
  abbrev Leaves : List Term → Expr → Type 0
  Leaves terms tree = (more : List Term) (e : Evaluation) → evaluation_of locals globals (terms ++ more) e ≡ evaluation_of locals globals more (after tree e)

  unary : (operator : Operator) (terms : List Term) (tree whole : Expr) → ((e : Evaluation) → operator_step operator (after tree e) ≡ after whole e)
      → Leaves terms tree → Leaves (terms ++ OperatorTerm operator ∷ []) whole
  unary operator terms tree whole step h more e =
      ap (λ terms. evaluation_of locals globals terms e) (append_assoc terms (OperatorTerm operator ∷ []) more)
      ∙ h (OperatorTerm operator ∷ more) e
      ∙ ap (evaluation_of locals globals more) (step e)

  binary : (operator : Operator) (terms others : List Term) (left right whole : Expr) → ((e : Evaluation) → operator_step operator (after right (after left e)) ≡ after whole e)
      → Leaves terms left → Leaves others right → Leaves (terms ++ others ++ OperatorTerm operator ∷ []) whole
  binary operator terms others left right whole step h i more e =
      ap (λ terms. evaluation_of locals globals terms e) (append_assoc (terms ++ others) (OperatorTerm operator ∷ []) more ∙ append_assoc terms others (OperatorTerm operator ∷ more))
      ∙ h (others ++ OperatorTerm operator ∷ more) e
      ∙ i (OperatorTerm operator ∷ more) (after left e)
      ∙ ap (evaluation_of locals globals more) (step e)

  flags : (left right : Expr) (value : Option ℤ) (out : Bool) (e : Evaluation)
      → Path Evaluation
      (record { stack = value ∷ e.stack; unknown = (after right (after left e)).unknown; outside = out || (after right (after left e)).outside })
      (record {
        stack = value ∷ e.stack;
        unknown = uses_undefined locals globals left || uses_undefined locals globals right || e.unknown;
        outside = leaves_bounds locals globals left || leaves_bounds locals globals right || out || e.outside;
      })
  flags left right value out e = λ i. record {
    stack = value ∷ e.stack;
    unknown = or_moved (uses_undefined locals globals left) (uses_undefined locals globals right) e.unknown i;
    outside = or_moved-twice (leaves_bounds locals globals left) (leaves_bounds locals globals right) out e.outside i;
  }

  joined : {operator : Operator} → Binary operator → (left right whole : Expr)
      → ((e : Evaluation) → Path Evaluation
      (record {
        stack = value_of_two (operation_of operator) (tree_value locals globals left) (tree_value locals globals right) ∷ e.stack;
        unknown = uses_undefined locals globals left || uses_undefined locals globals right || e.unknown;
        outside = leaves_bounds locals globals left || leaves_bounds locals globals right
            || two_leave (operation_of operator) (tree_value locals globals left) (tree_value locals globals right) || e.outside;
      })
      (after whole e))
      → (e : Evaluation) → operator_step operator (after right (after left e)) ≡ after whole e
  joined {operator} binary left right whole same e =
      let value = value_of_two (operation_of operator) (tree_value locals globals left) (tree_value locals globals right) in
      let out = two_leave (operation_of operator) (tree_value locals globals left) (tree_value locals globals right) in
      combined binary (tree_value locals globals left) (tree_value locals globals right) e.stack (after right (after left e)).unknown (after right (after left e)).outside
      ∙ flags left right value out e
      ∙ same e

  leaves : (tree : Expr) → Leaves (postfix tree) tree
  leaves (Number n) more e = ap (evaluation_of locals globals more) (numbers n e.stack e.unknown e.outside)
  leaves (Name name) more e = ap (evaluation_of locals globals more) (defined (value_in locals globals name) e.stack e.unknown e.outside)
  leaves (Negate tree) more e = unary NegateOperator (postfix tree) tree (Negate tree)
      (λ e. negated (tree_value locals globals tree) e.stack (after tree e).unknown (after tree e).outside
      ∙ (λ i. record { stack = (after (Negate tree) e).stack; unknown = (after tree e).unknown; outside = or_moved (leaves_bounds locals globals tree) (one_leaves neg_ℤ (tree_value locals globals tree)) e.outside i }))
      (leaves tree) more e
  leaves (Reverse tree) more e = unary ReverseOperator (postfix tree) tree (Reverse tree)
      (λ e. reversed (tree_value locals globals tree) e.stack (after tree e).unknown (after tree e).outside) (leaves tree) more e
  leaves (Sum left right) more e = binary Add (postfix left) (postfix right) left right (Sum left right) (joined adds left right (Sum left right) (λ e. refl)) (leaves left) (leaves right) more e
  leaves (Difference left right) more e = binary Subtract (postfix left) (postfix right) left right (Difference left right) (joined subtracts left right (Difference left right) (λ e. refl)) (leaves left) (leaves right) more e
  leaves (Product left right) more e = binary Multiply (postfix left) (postfix right) left right (Product left right) (joined multiplies left right (Product left right) (λ e. refl)) (leaves left) (leaves right) more e

or_false : (b : Bool) → (b || false) ≡ b
or_false true = refl
or_false false = refl

pub values_of_trees : ValuesOfTrees
values_of_trees locals globals tree =
    let nothing : Evaluation = record { stack = []; unknown = false; outside = false } in
    ap (λ terms. outcome_of (evaluation_of locals globals terms nothing)) (sym (append-nil (postfix tree)))
    ∙ ap outcome_of (leaves locals globals tree [] nothing)
    ∙ (λ i. record {
      value = tree_value locals globals tree;
      unknown = or_false (uses_undefined locals globals tree) i;
      outside = or_false (leaves_bounds locals globals tree) i;
    })
