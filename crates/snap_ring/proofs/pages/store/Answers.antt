use Rattle.std.proofs.Common.{ℕ, length-set, ◌∙◌, arith, subst}
use Rattle.std.proofs.lemmas.List.{length-replicate}
use Rattle.snap_ring.proofs.Storing.{Stores, stores_start, stores_step, all_stored, all_sram}
use Rattle.snap_ring.proofs.pages.store.Goals as goal

pub loop-page-init : goal.loop-page-init
loop-page-init c = record {
  stores = stores_start c.args.in_force c.args.pages.now.items c.args.ram.now _ c.requires.whole;
  long = length-replicate {A = ℕ} 264 0;
  room = omega arith;
}

pub loop-page-preserved : goal.loop-page-preserved
loop-page-preserved c = record {
  stores = stores_step c.loop-page.page c.args.in_force c.args.pages.now.items c.loop-page.pages.items c.number_of.new.pages.items c.args.ram.now
      c.loop-page.numbers c.number_of.result c.number_in-before.result c.loop-page-test.true c.fact_is_whole.ensures c.loop-page.invariant.long c.requires.stored
      c.requires.whole c.loop-page.invariant.stores c.number_in-before.ensures c.number_of.ensures.items c.number_of.ensures.stored c.number_of.ensures.words;
  long = length-set c.loop-page.numbers c.loop-page.page c.number_of.result ∙ c.loop-page.invariant.long;
  room = omega (arith, c.loop-page.invariant.room, c.number_of.ensures.room);
}

at_end : (c : goal.After-loop-page) → Stores 264 c.args.in_force c.args.pages.now.items c.loop-page.pages.items c.args.ram.now c.loop-page.numbers
at_end c =
    subst (λ n. Stores n c.args.in_force c.args.pages.now.items c.loop-page.pages.items c.args.ram.now c.loop-page.numbers)
    (omega (arith, c.loop-page-test.false, c.loop-page.auto.page-end)) c.loop-page.invariant.stores

pub returns-clause-stored : goal.returns-clause-stored
returns-clause-stored c =
    all_stored c.args.in_force c.args.pages.now.items c.loop-page.pages.items c.args.ram.now c.loop-page.numbers c.loop-page.invariant.long (at_end c)

pub returns-clause-sram : goal.returns-clause-sram
returns-clause-sram c =
    all_sram c.args.in_force c.args.pages.now.items c.loop-page.pages.items c.args.ram.now c.loop-page.numbers c.loop-page.invariant.long c.fact_is_whole.ensures
    (at_end c)
