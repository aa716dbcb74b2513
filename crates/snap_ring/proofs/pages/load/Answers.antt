use Rattle.std.proofs.Common.{◌≡◌, ◌*◌, length, take, drop, ◌++◌, sym, ap, ◌∙◌, arith}
use Rattle.ram_banks.specs.Pages.{page_of, with_page}
use Rattle.snap_ring.specs.Snapshot.{sram_of}
use Rattle.snap_ring.proofs.Joining.{sram-length, page_of-sram, put_page, all_put}
use Rattle.snap_ring.proofs.pages.load.Goals as goal

pub loop-page-preserved : goal.loop-page-preserved
loop-page-preserved c =
    let pages = c.args.pages.now in
    let numbers = c.args.numbers.now in
    let target = sram_of pages numbers in
    let page = c.loop-page.page in
    let long : length target ≡ 67584 = sram-length pages numbers c.requires.whole c.requires.stored.below ∙ ap (λ n. n * 256) c.requires.stored.long in
    record {
      ram = c.page_from.ensures.value
          ∙ ap (λ w. with_page page w c.loop-page.ram)
          (sym (page_of-sram pages numbers page c.requires.whole c.requires.stored.below (omega (arith, c.loop-page-test.true, c.requires.stored.long))))
          ∙ ap (with_page page (page_of page target)) c.loop-page.invariant.ram
          ∙ put_page page target c.args.ram.now (omega (arith, long, c.loop-page-test.true));
      long = λ lt. c.page_from.ensures.size;
    }

pub returns : goal.returns
returns c =
    let end : c.loop-page.page ≡ 264 = omega (arith, c.loop-page-test.false, c.loop-page.auto.page-end) in
    all_put (sram_of c.args.pages.now c.args.numbers.now) c.args.ram.now c.loop-page.ram
    (sram-length c.args.pages.now c.args.numbers.now c.requires.whole c.requires.stored.below ∙ ap (λ n. n * 256) c.requires.stored.long)
    (c.loop-page.invariant.long (omega (arith, end)))
    (c.loop-page.invariant.ram ∙ ap (λ n. take (n * 256) (sram_of c.args.pages.now c.args.numbers.now) ++ drop (n * 256) c.args.ram.now) end)
