use Rattle.run_tests.proofs.window_merge_tests.a_clash_closes_a_window.Given as goal

abbrev pub ghosts-windows_of : goal.ghosts-windows_of
ghosts-windows_of g a = record { name = a.blank.name; parts = a.blank.parts }
