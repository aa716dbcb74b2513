use Rattle.std.proofs.Common.{◌≡◌, ◌++◌, ◌∷◌, [], take, drop, arith}
use Rattle.std.proofs.lemmas.Grind.{common_steps}
use Rattle.startup_blocks.specs.Table.{table}
use Rattle.startup_blocks.proofs.Linked.{put_image, put_fits}
use Rattle.startup_blocks.proofs.linking.put.Goals as goal

pub returns-clause-image : goal.returns-clause-image
returns-clause-image c =
    let parts = c.as_slice-parts.result.now in
    let k = c.before_table-at.result in
    let items : c.from_vec.result ≡ (take k parts ++ table ∷ []) ++ drop k parts = grind (arith, common_steps) in
    put_image c.args.image.now parts c.from_vec.result k c.as_slice-parts.ensures c.before_table-at.ensures.value items

pub returns-clause-fits : goal.returns-clause-fits
returns-clause-fits c = put_fits c.args.image.now (record { parts = c.from_vec.result; entry = c.args.image.now.entry }) (returns-clause-image c) c.requires.fits c.requires.free
