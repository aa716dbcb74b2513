use Rattle.std.proofs.Common.{◌≡◌, ◌^◌, ◌<◌, drop}
use Rattle.command_words.specs.Numbers.{digits_from}
use Rattle.command_words.proofs.options.value_of.Given as goal

abbrev pub invariant-loop-digit : goal.invariant-loop-digit
invariant-loop-digit l = (digits_from 0 l.digits ≡ digits_from l.value (drop l.digit-index l.digits)) × (l.value < 10 ^ l.digit-index)
