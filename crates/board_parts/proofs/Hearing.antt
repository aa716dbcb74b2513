-- The laws of what a probe hears.
use Rattle.std.proofs.Common.{◌≡◌, ◌==◌, ◌++◌, arith, refl}
use Rattle.std.proofs.lemmas.Grind.{common_steps, fold-append}
use Rattle.std.proofs.lemmas.List.Elements.{filter-append}
use Rattle.board_parts.specs.Hearing.{after_hearing, changes_of}
use Rattle.board_parts.specs.HearingLaws.{HearsInTurn, HearsItsOwn}
use Rattle.board_parts.specs.declared.change.PinChange.{PinChange}

pub hears_in_turn : HearsInTurn
unfolding after_hearing
hears_in_turn a first second =
    let parts : changes_of a.pin (first ++ second) ≡ changes_of a.pin first ++ changes_of a.pin second =
    filter-append (λ change. change.pin == a.pin) first second in
    rw (parts, fold-append (λ s (change : PinChange). a.probe.next change.cycle change.level s) a.state (changes_of a.pin first) (changes_of a.pin second)) refl

pub hears_its_own_pin : HearsItsOwn
unfolding after_hearing
hears_its_own_pin a change other = grind (arith, common_steps, other)
