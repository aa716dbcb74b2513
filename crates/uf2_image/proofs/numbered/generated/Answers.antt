use Rattle.std.proofs.Common.{◌≡◌, [], ◌∷◌, arith}
use Rattle.std.proofs.lemmas.Grind.{common_steps}
use Rattle.uf2_image.specs.Code.{program_of}
use Rattle.uf2_image.proofs.Steps.{fits}
use Rattle.uf2_image.proofs.numbered.generated.Goals as goal

pub returns-clause-fits : goal.returns-clause-fits
unfolding program_of
returns-clause-fits c =
    let same : c.from_vec-2.result ≡ record { address = 0x20000000; bytes = program_of c.args.number } ∷ [] = grind (arith, common_steps) in
    rw same (fits c.args.number)
