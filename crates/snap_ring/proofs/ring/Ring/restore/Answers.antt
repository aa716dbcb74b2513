use Rattle.std.proofs.Common.{◌≡◌, ℕ, List, drop, length, sym, ap, ◌∙◌, subst, Option, IfSome}
use Rattle.std.specs.Option.{is_some, option_map, option_copied}
use Rattle.rp_machine.specs.State.{State}
use Rattle.snap_ring.specs.declared.snapshot.Snapshot.{Snapshot}
use Rattle.snap_ring.specs.Ring.{Snapshots, is_kept, state_at, restored}
use Rattle.snap_ring.specs.Snapshot.{AreStored, state_in, snapshot_at}
use Rattle.snap_ring.proofs.Finding.{slice_from, kept_at, state_at-in, snapshot_at-has}
use Rattle.snap_ring.proofs.ring.Ring.restore.Goals.{After-find}
use Rattle.snap_ring.proofs.ring.Ring.restore.Goals as goal

-- what was found is the snapshot of the cycle among those that are kept
found : (c : After-find) → snapshot_at c.args.cycle (drop c.self.inside.free c.self.inside.snapshots.items) ≡ option_copied c.find.result
found c = ap (snapshot_at c.args.cycle) (sym (slice_from c.self.inside.free c.deref.result.now c.self.inside.snapshots.items c.deref.ensures.value)) ∙ sym c.find.ensures

-- so it is kept, and restored
kept : (c : After-find) → is_some (option_copied c.find.result) ≡ is_kept c.args.cycle c.args.self.now.kept
kept c = sym (ap is_some (found c)) ∙ kept_at c.self.inside.pages.items c.args.cycle (drop c.self.inside.free c.self.inside.snapshots.items) ∙ ap (λ (v : Snapshots). is_kept c.args.cycle v.kept) c.self.view_is

state : (c : After-find) → restored (option_map (state_in c.self.inside.pages.items) (option_copied c.find.result)) c.args.machine.now ≡ restored (state_at c.args.cycle c.args.self.now.kept) c.args.machine.now
state c =
    let i = c.self.inside in
    sym (ap (λ (o : Option State). restored o c.args.machine.now)
    (sym (ap (λ (v : Snapshots). state_at c.args.cycle v.kept) c.self.view_is) ∙ state_at-in i.pages.items c.args.cycle (drop i.free i.snapshots.items) ∙ ap (option_map (state_in i.pages.items)) (found c)))

pub set_to-requires-clause-stored : goal.set_to-requires-clause-stored
set_to-requires-clause-stored c =
    let i = c.self.inside in
    subst (λ (l : List (List ℕ)). AreStored (length l) c.in-Some.snapshot.now.numbers) (sym c.deref-in-Some.ensures.value)
    (subst (λ (o : Option Snapshot). IfSome o (λ p. AreStored (length i.pages.items) p.numbers)) (found (goal.at.set_to-requires-clause-stored c).After-find ∙ ap option_copied c.in-Some.is)
    (snapshot_at-has (λ p. AreStored (length i.pages.items) p.numbers) c.args.cycle (drop i.free i.snapshots.items) c.self.invariant.0.stored))

pub returns-in-Some-clause-answer : goal.returns-in-Some-clause-answer
returns-in-Some-clause-answer c = sym (ap (λ o. is_some (option_copied o)) c.in-Some.is) ∙ kept (goal.at.returns-in-Some-clause-answer c).After-find

pub returns-in-Some-clause-machine : goal.returns-in-Some-clause-machine
returns-in-Some-clause-machine c =
    c.set_to.ensures ∙ ap (λ (l : List (List ℕ)). state_in l c.in-Some.snapshot.now) c.deref-in-Some.ensures.value
    ∙ sym (ap (λ o. restored (option_map (state_in c.self.inside.pages.items) (option_copied o)) c.args.machine.now) c.in-Some.is) ∙ state (goal.at.returns-in-Some-clause-machine c).After-find

pub returns-in-None-clause-answer : goal.returns-in-None-clause-answer
returns-in-None-clause-answer c = sym (ap (λ o. is_some (option_copied o)) c.in-None.is) ∙ kept (goal.at.returns-in-None-clause-answer c).After-find

pub returns-in-None-clause-machine : goal.returns-in-None-clause-machine
returns-in-None-clause-machine c =
    sym (ap (λ o. restored (option_map (state_in c.self.inside.pages.items) (option_copied o)) c.args.machine.now) c.in-None.is) ∙ state (goal.at.returns-in-None-clause-machine c).After-find
