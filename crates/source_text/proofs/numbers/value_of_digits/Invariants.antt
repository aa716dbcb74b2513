use Rattle.std.proofs.Common.{◌≡◌, ◌≤◌, min, drop}
use Rattle.std.specs.Option.{option_map}
use Rattle.source_text.specs.Numbers.{digits_value}
use Rattle.source_text.proofs.Capped.{cut_after}
use Rattle.source_text.proofs.numbers.value_of_digits.Given as goal

abbrev pub invariant-loop-byte : goal.invariant-loop-byte
invariant-loop-byte l = (l.value ≤ l.most) × (option_map (min l.most) (digits_value l.base l.digits) ≡ cut_after l.base l.most l.value (drop l.byte-index l.digits))
