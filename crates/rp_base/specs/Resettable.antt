-- A block with its bit of RESETS.
use Rattle.std.specs.Prelude.{Bool, false}
use Rattle.rp_base.specs.declared.resettable.Resettable.{Resettable}
use Rattle.rp_base.specs.Held.{stays_if, reset_if}

-- out of reset
abbrev pub let_go : {S : Type 0} → S → Resettable S
let_go s = record { block = s; held = false }

abbrev pub with_block : {S : Type 0} → Resettable S → S → Resettable S
with_block r s = record r { block = s }

-- what happens to a block happens to one that is not held
abbrev pub unless_held_becomes : {S : Type 0} → Resettable S → S → Resettable S
unless_held_becomes r after = with_block r (stays_if r.held r.block after)

-- its bit is set or cleared
abbrev pub with_held : {S : Type 0} → Bool → S → Resettable S → Resettable S
with_held held first r = record { block = reset_if held first r.block; held = held }
