use Rattle.rp_machine.proofs.Shared.{listed, refl, resets_rows}
use Rattle.bus_fabric.specs.Words.{busctrl_rows}
use Rattle.rp_machine.proofs.laws.each_register_is_at_its_offset.Goals as goal

pub returns : goal.returns
returns c = record { resets = listed resets_rows refl; busctrl = listed busctrl_rows refl }
