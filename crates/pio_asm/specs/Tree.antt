-- The value of an expression by its tree (RP2040 Datasheet, 3.3, Expressions). The bounds of the values, -2^31 to 2^32 - 1, are the project's own.
use Rattle.std.specs.Prelude.{◌≡◌, ◌||◌, not, ℤ, pos, ◌+ℤ◌, ◌-ℤ◌, ◌*ℤ◌, neg_ℤ, Bool, true, false, Option, None, Some}
use Rattle.std.specs.Option.{option_map}
use Rattle.pio_parse.specs.Grammar.{Expr, postfix}
use Rattle.pio_parse.specs.Grammar.Expr.{Number, Name, Negate, Reverse, Sum, Difference, Product}
use Rattle.pio_asm.specs.Symbols.{Names}
use Rattle.pio_asm.specs.Value.{bounded, evaluated, is_in_bounds, reversed_bits, value_in}

-- the value that a name stands for, unless it is not defined or its definition has a fault
abbrev pub value_of_name : Option (Option ℤ) → Option ℤ
value_of_name None = None
value_of_name (Some value) = value

abbrev pub is_undefined : Option (Option ℤ) → Bool
is_undefined None = true
is_undefined (Some value) = false

-- what an operation gives, unless an operand has no value or the outcome is out of bounds
abbrev pub value_of_one : (ℤ → ℤ) → Option ℤ → Option ℤ
value_of_one operation None = None
value_of_one operation (Some x) = bounded (operation x)

abbrev pub value_of_two : (ℤ → ℤ → ℤ) → Option ℤ → Option ℤ → Option ℤ
value_of_two operation (Some x) (Some y) = bounded (operation x y)
value_of_two operation x y = None

-- the outcome of an operation on values is out of bounds
abbrev pub one_leaves : (ℤ → ℤ) → Option ℤ → Bool
one_leaves operation None = false
one_leaves operation (Some x) = not (is_in_bounds (operation x))

abbrev pub two_leave : (ℤ → ℤ → ℤ) → Option ℤ → Option ℤ → Bool
two_leave operation (Some x) (Some y) = not (is_in_bounds (operation x y))
two_leave operation x y = false

-- the value of a tree where a program's names and those before the first program are seen: `::` gives the 32 bits of its operand in reverse order
abbrev pub tree_value : Names → Names → Expr → Option ℤ
tree_value locals globals (Number n) = bounded (pos n)
tree_value locals globals (Name name) = value_of_name (value_in locals globals name)
tree_value locals globals (Negate tree) = value_of_one neg_ℤ (tree_value locals globals tree)
tree_value locals globals (Reverse tree) = option_map reversed_bits (tree_value locals globals tree)
tree_value locals globals (Sum left right) = value_of_two ◌+ℤ◌ (tree_value locals globals left) (tree_value locals globals right)
tree_value locals globals (Difference left right) = value_of_two ◌-ℤ◌ (tree_value locals globals left) (tree_value locals globals right)
tree_value locals globals (Product left right) = value_of_two ◌*ℤ◌ (tree_value locals globals left) (tree_value locals globals right)

-- a name in the tree is not defined
abbrev pub uses_undefined : Names → Names → Expr → Bool
uses_undefined locals globals (Number n) = false
uses_undefined locals globals (Name name) = is_undefined (value_in locals globals name)
uses_undefined locals globals (Negate tree) = uses_undefined locals globals tree
uses_undefined locals globals (Reverse tree) = uses_undefined locals globals tree
uses_undefined locals globals (Sum left right) = uses_undefined locals globals left || uses_undefined locals globals right
uses_undefined locals globals (Difference left right) = uses_undefined locals globals left || uses_undefined locals globals right
uses_undefined locals globals (Product left right) = uses_undefined locals globals left || uses_undefined locals globals right

-- a value at some step is out of bounds
abbrev pub leaves_bounds : Names → Names → Expr → Bool
leaves_bounds locals globals (Number n) = not (is_in_bounds (pos n))
leaves_bounds locals globals (Name name) = false
leaves_bounds locals globals (Negate tree) = leaves_bounds locals globals tree || one_leaves neg_ℤ (tree_value locals globals tree)
leaves_bounds locals globals (Reverse tree) = leaves_bounds locals globals tree
leaves_bounds locals globals (Sum left right) =
    leaves_bounds locals globals left || leaves_bounds locals globals right || two_leave ◌+ℤ◌ (tree_value locals globals left) (tree_value locals globals right)
leaves_bounds locals globals (Difference left right) =
    leaves_bounds locals globals left || leaves_bounds locals globals right || two_leave ◌-ℤ◌ (tree_value locals globals left) (tree_value locals globals right)
leaves_bounds locals globals (Product left right) =
    leaves_bounds locals globals left || leaves_bounds locals globals right || two_leave ◌*ℤ◌ (tree_value locals globals left) (tree_value locals globals right)

-- an expression's terms in postfix order come to what its tree comes to
abbrev pub ValuesOfTrees : Type 0
ValuesOfTrees = (locals globals : Names) (tree : Expr)
    → evaluated locals globals (postfix tree)
    ≡ record { value = tree_value locals globals tree; unknown = uses_undefined locals globals tree; outside = leaves_bounds locals globals tree }
