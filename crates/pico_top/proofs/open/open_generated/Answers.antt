use Rattle.pico_top.proofs.Walking.{boots_leads}
use Rattle.pico_top.specs.declared.outcome.Purpose.TheVariants.{Run}
use Rattle.uf2_image.specs.Code.{image_of_number}
use Rattle.pico_top.proofs.Shared.{[], refl}
use Rattle.pico_top.proofs.open.open_generated.Goals as goal

pub returns : goal.returns
returns g c files failed aims =
    boots_leads aims (Run c.args.asked.now.stats) files failed _ [] c.args.asked.now.cycles (image_of_number c.args.asked.now.number) [] [] _ (record { programs = []; words = tt; are = refl }) (rw (c.in_ok-image.ensures.image, c.new-script.ensures) at c.boot.ensures.ok) c.boot.ensures.err
