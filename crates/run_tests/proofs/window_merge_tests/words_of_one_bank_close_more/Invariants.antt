use Rattle.run_tests.proofs.window_merge_tests.words_of_one_bank_close_more.Given as goal

abbrev pub ghosts-windows_of : goal.ghosts-windows_of
ghosts-windows_of g a = record { name = a.blank.name; parts = a.blank.parts }
