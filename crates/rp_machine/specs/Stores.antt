-- Deeds whose write to SRAM has the index of a word.
use Rattle.std.specs.Prelude.{◌<◌}
use Rattle.rp_machine.specs.declared.deed.Deed.{Deed}
use Rattle.rp_machine.specs.declared.deed.Deed.TheVariants.{Store}

abbrev pub StoresInSram : Deed → Type 0
StoresInSram (Store index lanes value) = index < 67584
StoresInSram _ = Unit {0}
