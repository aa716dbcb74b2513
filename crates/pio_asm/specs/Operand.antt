-- The operands of instructions: values within the range of their field (RP2040 Datasheet, 3.3, Values; the ranges: 3.4.2 to 3.4.10).
use Rattle.std.specs.Prelude.{◌&&◌, nat_le, ℕ, ℤ, pos, negsuc, Bool, true, false, if◌then◌else◌, List, Option, None, Some}
use Rattle.pio_parse.specs.declared.expression.Term.{Term}
use Rattle.pio_asm.specs.declared.value.Evaluated.{Evaluated}
use Rattle.pio_asm.specs.declared.operand.Field.{Field}
use Rattle.pio_asm.specs.declared.operand.Modifier.{Modifier}
use Rattle.pio_asm.specs.Symbols.{Names}
use Rattle.pio_asm.specs.Value.{evaluated}

-- the number that a value is, if it is in this range
abbrev pub number_within : ℕ → ℕ → ℤ → Option ℕ
number_within low high (pos n) = if nat_le low n && nat_le n high then Some n else None
number_within low high (negsuc n) = None

abbrev pub field_with : Bool → Bool → Option ℕ → Field
field_with unknown outside None = record { value = None; unknown = unknown; range = true }
field_with unknown outside (Some n) = record { value = Some n; unknown = unknown; range = outside }

abbrev pub field_by : ℕ → ℕ → Bool → Bool → Option ℤ → Field
field_by low high unknown outside None = record { value = None; unknown = unknown; range = outside }
field_by low high unknown outside (Some z) = field_with unknown outside (number_within low high z)

-- an operand whose value has to be in a range
abbrev pub field_of : ℕ → ℕ → Evaluated → Field
field_of low high e = field_by low high e.unknown e.outside e.value

abbrev pub field_in : Names → Names → ℕ → ℕ → List Term → Field
field_in locals globals low high terms = field_of low high (evaluated locals globals terms)

-- a polarity, which is 1 where none is written
abbrev pub polarity_in : Names → Names → Option (List Term) → Field
polarity_in locals globals None = record { value = Some 1; unknown = false; range = false }
polarity_in locals globals (Some terms) = field_in locals globals 0 1 terms

abbrev pub modifier_with : Bool → Bool → Option ℕ → Modifier
modifier_with unknown outside None = record { value = 0; lost = false; unknown = unknown; outside = outside; fault = true }
modifier_with unknown outside (Some n) = record { value = n; lost = false; unknown = unknown; outside = outside; fault = false }

abbrev pub modifier_by : ℕ → Bool → Bool → Option ℤ → Modifier
modifier_by greatest unknown outside None = record { value = 0; lost = true; unknown = unknown; outside = outside; fault = false }
modifier_by greatest unknown outside (Some z) = modifier_with unknown outside (number_within 0 greatest z)

-- a side-set value or a delay of at most `greatest`
abbrev pub modifier_of : ℕ → Evaluated → Modifier
modifier_of greatest e = modifier_by greatest e.unknown e.outside e.value

abbrev pub modifier_in : Names → Names → ℕ → List Term → Modifier
modifier_in locals globals greatest terms = modifier_of greatest (evaluated locals globals terms)
