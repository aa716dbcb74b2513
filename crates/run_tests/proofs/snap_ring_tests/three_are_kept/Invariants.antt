use Rattle.run_tests.proofs.snap_ring_tests.three_are_kept.Given as goal

abbrev pub ghosts-keeps_three : goal.ghosts-keeps_three
ghosts-keeps_three g a = record { name = a.blank.name; parts = a.blank.parts }
