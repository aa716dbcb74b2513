use Rattle.std.proofs.Common.{◌<◌, refl, arith}
use Rattle.reverse_debug.proofs.Stretches.{stretch_of, searching_on, found_there, found_again, spent_once, spent_twice, remembers_all, searched, zero_th}
use Rattle.reverse_debug.proofs.search.nth_before.Goals as goal

pub returns-then-count-eq0-clause-found : goal.returns-then-count-eq0-clause-found
returns-then-count-eq0-clause-found g c = zero_th _ _ _ _ _ c.if-count-eq0.true

pub scan-all-requires : goal.scan-all-requires
scan-all-requires g c =
    let k = stretch_of _ _ _ _ _ _ _ _ _ _ _ _ _ _ _ c.requires.kept c.requires.to c.stretches.invariant c.stretches-test.true refl c.in-Some.ensures c.restore_of.ensures in
    (c.type_bounds.sync-X, (c.requires.watched, (k.low, (k.ahead, k.reach))))

pub scan-requires : goal.scan-requires
scan-requires g c =
    let k = stretch_of _ _ _ _ _ _ _ _ _ _ _ _ _ _ _ c.requires.kept c.requires.to c.stretches.invariant c.stretches-test.true refl c.in-Some.ensures c.restore_of-then-left-all.ensures in
    (c.type_bounds.sync-X, (c.requires.watched, (k.low, (k.ahead, k.reach))))

pub returns-then-left-eq1-clause-found : goal.returns-then-left-eq1-clause-found
returns-then-left-eq1-clause-found g c =
    let k = stretch_of _ _ _ _ _ _ _ _ _ _ _ _ _ _ _ c.requires.kept c.requires.to c.stretches.invariant c.stretches-test.true refl c.in-Some.ensures c.restore_of.ensures in
    found_there _ _ _ _ _ _ _ _ _ _ _ _ _ _ _ c.stretches.invariant k c.scan-all.ensures.tally c.if-left-all.true
    (remembers_all _ _ _ _ _ _ _ _ _ _ _ _ k c.scan-all.ensures.tally c.if-left-eq1.true (omega (arith, c.stretches.auto.end-fits)))

pub returns-then-left-eq1-clause-spends : goal.returns-then-left-eq1-clause-spends
returns-then-left-eq1-clause-spends g c =
    let k = stretch_of _ _ _ _ _ _ _ _ _ _ _ _ _ _ _ c.requires.kept c.requires.to c.stretches.invariant c.stretches-test.true refl c.in-Some.ensures c.restore_of.ensures in
    spent_once _ _ _ _ _ _ _ _ _ _ _ _ _ _ _ c.stretches.invariant k (returns-then-left-eq1-clause-found g c) c.scan-all.ensures.steps

pub returns-then-left-all-clause-found : goal.returns-then-left-all-clause-found
returns-then-left-all-clause-found g c =
    found_again _ _ _ _ _ _ _ _ _ _ _ _ _ _ _ _ _ c.stretches.invariant
    (stretch_of _ _ _ _ _ _ _ _ _ _ _ _ _ _ _ c.requires.kept c.requires.to c.stretches.invariant c.stretches-test.true refl c.in-Some.ensures c.restore_of.ensures)
    (stretch_of _ _ _ _ _ _ _ _ _ _ _ _ _ _ _ c.requires.kept c.requires.to c.stretches.invariant c.stretches-test.true refl c.in-Some.ensures c.restore_of-then-left-all.ensures)
    c.scan-all.ensures.tally c.if-left-all.true c.scan.ensures.tally

pub returns-then-left-all-clause-spends : goal.returns-then-left-all-clause-spends
returns-then-left-all-clause-spends g c =
    let more : 1 < c.stretches.left = omega (arith, c.stretches.invariant.some) in
    spent_twice _ _ _ _ _ _ _ _ _ _ _ _ _ _ _ _ _ more c.stretches.invariant
    (stretch_of _ _ _ _ _ _ _ _ _ _ _ _ _ _ _ c.requires.kept c.requires.to c.stretches.invariant c.stretches-test.true refl c.in-Some.ensures c.restore_of.ensures)
    (stretch_of _ _ _ _ _ _ _ _ _ _ _ _ _ _ _ c.requires.kept c.requires.to c.stretches.invariant c.stretches-test.true refl c.in-Some.ensures c.restore_of-then-left-all.ensures)
    (returns-then-left-all-clause-found g c) c.scan-all.ensures.steps c.scan.ensures.steps

pub stretches-preserved : goal.stretches-preserved
stretches-preserved g c =
    let k = stretch_of _ _ _ _ _ _ _ _ _ _ _ _ _ _ _ c.requires.kept c.requires.to c.stretches.invariant c.stretches-test.true refl c.in-Some.ensures c.restore_of.ensures in
    searching_on _ _ _ _ _ _ _ _ _ _ _ _ _ _ _ _ c.stretches.invariant k c.scan-all.ensures.tally (omega arith) c.scan-all.ensures.steps

pub returns-clause-found : goal.returns-clause-found
returns-clause-found g c = searched _ _ _ _ _ _ _ _ _ c.stretches.invariant (omega arith)
