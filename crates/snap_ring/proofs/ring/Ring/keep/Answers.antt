use Rattle.std.proofs.Common.{◌≡◌, ℕ, ◌+◌, true, List, length, drop, sym, ap, ◌∙◌, arith, subst, Option}
use Rattle.rp_machine.specs.State.{State}
use Rattle.rp_machine.specs.Rest.{rest_of, state_with}
use Rattle.snap_ring.specs.declared.snapshot.Snapshot.{Snapshot}
use Rattle.snap_ring.specs.Ring.{is_due, stored_for}
use Rattle.snap_ring.specs.Snapshot.{AreStored, first_numbers, stored_anew, state_in, states_in}
use Rattle.snap_ring.proofs.Finding.{slice_from, anew_is}
use Rattle.snap_ring.proofs.Keeping.{HasRoom, due_of, has_room, sound_after, view_after}
use Rattle.snap_ring.proofs.ring.Ring.keep.Goals.{After-first_numbers-in_force, After-set}
use Rattle.snap_ring.proofs.ring.Ring.keep.Goals as goal

-- the state is to be kept, so there is room for it
is_so : (c : After-first_numbers-in_force) → is_due c.self.inside.spacing c.self.inside.origin (states_in c.self.inside.pages.items (drop c.self.inside.free c.self.inside.snapshots.items)) c.args.machine.now.cycle ≡ true
is_so c = due_of _ _ _ c.args.self.now c.number.result c.args.machine.now c.is_due.result c.self.view_is c.number.ensures c.is_due.ensures c.if-not-is_due.false

has : (c : After-first_numbers-in_force) → HasRoom c.self.inside.free c.self.inside.pages.items
has c = let i = c.self.inside in has_room i.spacing i.origin i.free i.snapshots.items i.pages.items c.args.machine.now c.self.invariant.0 (is_so c)

pub store-numbers-requires-clause-room : goal.store-numbers-requires-clause-room
store-numbers-requires-clause-room c = omega (arith, (has (goal.at.store-numbers-requires-clause-room c).After-first_numbers-in_force).low, c.self.invariant.1)

pub store-numbers-requires-clause-small : goal.store-numbers-requires-clause-small
store-numbers-requires-clause-small c = (has (goal.at.store-numbers-requires-clause-small c).After-first_numbers-in_force).low

pub overflow_sub-self : goal.overflow_sub-self
overflow_sub-self c = (has (goal.at.overflow_sub-self c).After-first_numbers-in_force).one_free

-- the snapshot that is kept holds the machine's state
same_state : (c : After-set) → state_in c.store-numbers.new.pages.items c.set.new.self ≡ c.args.machine.now
same_state c =
    ap (state_in c.store-numbers.new.pages.items) c.set.ensures ∙ ap (λ sram. state_with sram (rest_of c.args.machine.now)) (c.store-numbers.ensures.sram ∙ ap (λ (t : State). t.sram) c.machine.view_is)

pub invariant_of-self : goal.invariant_of-self
invariant_of-self c =
    let i = c.self.inside in
    let at = goal.at.invariant_of-self c in
    let s = c.args.machine.now in
    let ps = drop i.free i.snapshots.items in
    let new = c.store-numbers.new.pages.items in
    let force = c.first_numbers-in_force.ensures ∙ ap first_numbers (slice_from i.free c.deref.result.now i.snapshots.items c.deref.ensures.value) in
    let count : length new ≡ length i.pages.items + stored_for s (states_in i.pages.items ps) =
    c.store-numbers.ensures.count
    ∙ ap (λ n. length i.pages.items + n)
    (ap (λ (o : Option (List ℕ)). stored_anew 264 i.pages.items o c.machine.inside.ram) force
    ∙ ap (stored_anew 264 i.pages.items (first_numbers ps)) (ap (λ (t : State). t.sram) c.machine.view_is) ∙ anew_is i.pages.items ps s) in (
      sound_after i.spacing i.origin i.free i.snapshots.items i.pages.items new s c.set.new.self c.self.invariant.0 (has at.After-first_numbers-in_force).one_free (is_so at.After-first_numbers-in_force) c.store-numbers.ensures.stays
          (omega (arith, count)) c.store-numbers.ensures.whole
          (subst (AreStored (length new)) (sym (ap (λ (p : Snapshot). p.numbers) c.set.ensures)) c.store-numbers.ensures.stored) (same_state at.After-set) count,
      omega (arith, c.self.invariant.1, c.store-numbers.ensures.room),
    )

pub returns-clause-kept : goal.returns-clause-kept
returns-clause-kept c =
    let i = c.self.inside in
    let at = goal.at.returns-clause-kept c in
    view_after i.spacing i.origin i.free i.snapshots.items i.pages.items c.store-numbers.new.pages.items c.args.machine.now c.set.new.self c.args.self.now c.self.invariant.0 c.self.view_is (has at.After-first_numbers-in_force).one_free
    (is_so at.After-first_numbers-in_force) c.store-numbers.ensures.stays (same_state at.After-set)
