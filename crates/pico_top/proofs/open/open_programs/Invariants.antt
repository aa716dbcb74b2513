use Rattle.pico_top.proofs.Shared.{◌≡◌, Ok, [], map, drop, entry_in, with_programs, Places}
use Rattle.rp_machine.specs.Boot.{AreLoads}
use Rattle.pico_top.proofs.open.open_programs.Given as goal

-- the entries so far have their programs, and no load has failed
abbrev pub invariant-loop-entry : goal.invariant-loop-entry
invariant-loop-entry g l = record {
  kept : g.F.Shelf.files l.files ≡ g.F.Shelf.files l.initial.files;
  loads : AreLoads l.loads.items;
  placed :
      Places {V = Unit {0}} (g.F.Shelf.files l.initial.files) (g.F.Shelf.failed l.initial.files) (g.F.Shelf.failed l.files) (with_programs (map entry_in l.entries) [])
      (map entry_in (drop l.entry-index l.entries)) (λ done. l.loads.items) (Ok tt);
}
