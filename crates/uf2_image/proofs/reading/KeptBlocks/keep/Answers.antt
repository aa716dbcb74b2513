use Rattle.std.proofs.Common.{◌≡◌, ap, arith, length}
use Rattle.std.proofs.lemmas.List.{with_items_is}
use Rattle.uf2_image.proofs.Loading.{IsIndexed-push}
use Rattle.uf2_image.proofs.reading.KeptBlocks.keep.Goals as goal

pub returns-clause-index : goal.returns-clause-index
returns-clause-index c =
    let long : length c.set_flags.new.flags ≡ c.args.self.now.loaded.len = omega (arith, ap length c.deref_mut.ensures.value) in
    let same : length c.set_flags.new.flags ≡ length c.args.self.now.loaded.items = omega (arith, ap length c.deref_mut.ensures.value) in
    IsIndexed-push c.args.self.now _ c.args.block c.set_flags.new.flags c.deref_mut.result.now c.target.result c.size.result c.number.result c.requires.index c.requires.payload c.requires.sram
    c.in_ok-push.ensures.items (λ q. c.in_ok-insert.ensures.updates.0 q) (with_items_is c.args.self.now.loaded c.set_flags.new.flags long) same c.deref_mut.ensures.value c.set_flags.ensures c.target.ensures c.size.ensures.value c.number.ensures
