-- What an expression comes to (RP2040 Datasheet, 3.3, Values and Expressions). The bounds of its steps are the project's own.
use Rattle.std.specs.Prelude.{◌&&◌, not, ℕ, ◌%◌, nat_le, ℤ, pos, negsuc, ◌+ℤ◌, ◌-ℤ◌, ◌*ℤ◌, neg_ℤ, int_lt, Bool, true, false, if◌then◌else◌, List, [], ◌∷◌, Option, None, Some}
use Rattle.std.specs.Int.{cast_unsigned, reverse_bits, w32, w64}
use Rattle.pio_parse.specs.declared.expression.Operator.{Operator}
use Rattle.pio_parse.specs.declared.expression.Operator.TheVariants.{Add, Subtract, Negate, Reverse}
use Rattle.pio_parse.specs.declared.expression.Term.{Term}
use Rattle.pio_parse.specs.declared.expression.Term.TheVariants.{Number, Name, Operator as OperatorTerm}
use Rattle.pio_asm.specs.declared.value.Evaluation.{Evaluation}
use Rattle.pio_asm.specs.declared.value.Evaluated.{Evaluated}
use Rattle.source_text.specs.Symbols.{found}
use Rattle.pio_asm.specs.Symbols.{Names}

-- the values that an expression may have at any step: -2^31 to 2^32 - 1
abbrev pub is_in_bounds : ℤ → Bool
is_in_bounds z = not (int_lt z (negsuc 2147483647)) && not (int_lt (pos 4294967295) z)

abbrev pub bounded : ℤ → Option ℤ
bounded z = if is_in_bounds z then Some z else None

abbrev pub bounded_option : Option ℤ → Option ℤ
bounded_option None = None
bounded_option (Some z) = bounded z

-- the low 32 bits in reverse order
abbrev pub reversed_bits : ℤ → ℤ
reversed_bits z = pos (reverse_bits w32 (cast_unsigned w64 z % 4294967296))

-- the newest operand; the grammar makes no expression that lacks one, and one that is lacking would be 0
abbrev pub top_of : List (Option ℤ) → Option ℤ
top_of [] = Some (pos 0)
top_of (value ∷ stack) = value

abbrev pub rest_of : List (Option ℤ) → List (Option ℤ)
rest_of [] = []
rest_of (value ∷ stack) = stack

abbrev pub with_value : Option ℤ → Evaluation → Evaluation
with_value value evaluation = record evaluation { stack = value ∷ evaluation.stack }

-- the outcome of a step, where none is out of bounds
abbrev pub with_result : Option ℤ → Evaluation → Evaluation
with_result None evaluation = record evaluation { stack = None ∷ evaluation.stack; outside = true }
with_result (Some z) evaluation = with_value (Some z) evaluation

abbrev pub one_operand : Operator → ℤ → Option ℤ
one_operand Negate x = bounded (neg_ℤ x)
one_operand operator x = Some (reversed_bits x)

abbrev pub two_operands : Operator → ℤ → ℤ → Option ℤ
two_operands Add x y = bounded (x +ℤ y)
two_operands Subtract x y = bounded (x -ℤ y)
two_operands operator x y = bounded (x *ℤ y)

-- an operand without a value has a fault of its own, and gives no other
abbrev pub after_unary : Operator → Option ℤ → Evaluation → Evaluation
after_unary operator None evaluation = with_value None evaluation
after_unary operator (Some x) evaluation = with_result (one_operand operator x) evaluation

abbrev pub unary_step : Operator → Evaluation → Evaluation
unary_step operator evaluation = after_unary operator (top_of evaluation.stack) (record evaluation { stack = rest_of evaluation.stack })

abbrev pub after_binary : Operator → Option ℤ → Option ℤ → Evaluation → Evaluation
after_binary operator (Some x) (Some y) evaluation = with_result (two_operands operator x y) evaluation
after_binary operator x y evaluation = with_value None evaluation

abbrev pub binary_step : Operator → Evaluation → Evaluation
binary_step operator evaluation =
    after_binary operator (top_of (rest_of evaluation.stack)) (top_of evaluation.stack) (record evaluation { stack = rest_of (rest_of evaluation.stack) })

abbrev pub operator_step : Operator → Evaluation → Evaluation
operator_step Negate evaluation = unary_step Negate evaluation
operator_step Reverse evaluation = unary_step Reverse evaluation
operator_step operator evaluation = binary_step operator evaluation

abbrev pub number_step : ℕ → Evaluation → Evaluation
number_step number evaluation = with_result (if nat_le number 4294967295 then Some (pos number) else None) evaluation

-- the value of a name: a program's own names, and those before the first program
abbrev pub value_in : Names → Names → List ℕ → Option (Option ℤ)
value_in locals globals name = value_or (found name locals) (found name globals)
  where
    value_or : Option (Option ℤ) → Option (Option ℤ) → Option (Option ℤ)
    value_or None other = other
    value_or (Some value) other = Some value

abbrev pub name_step : Option (Option ℤ) → Evaluation → Evaluation
name_step None evaluation = record evaluation { stack = None ∷ evaluation.stack; unknown = true }
name_step (Some value) evaluation = with_value value evaluation

-- one term of an expression in postfix order
abbrev pub term_step : Names → Names → Term → Evaluation → Evaluation
term_step locals globals (Number number) evaluation = number_step number evaluation
term_step locals globals (Name name) evaluation = name_step (value_in locals globals name) evaluation
term_step locals globals (OperatorTerm operator) evaluation = operator_step operator evaluation

abbrev pub evaluation_of : Names → Names → List Term → Evaluation → Evaluation
evaluation_of locals globals [] evaluation = evaluation
evaluation_of locals globals (term ∷ terms) evaluation = evaluation_of locals globals terms (term_step locals globals term evaluation)

abbrev pub outcome_of : Evaluation → Evaluated
outcome_of evaluation = record { value = top_of evaluation.stack; unknown = evaluation.unknown; outside = evaluation.outside }

-- what an expression comes to
abbrev pub evaluated : Names → Names → List Term → Evaluated
evaluated locals globals terms = outcome_of (evaluation_of locals globals terms (record { stack = []; unknown = false; outside = false }))
