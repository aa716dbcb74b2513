use Rattle.run_tests.proofs.reverse_debug_tests.end_over.Given as goal

abbrev pub ghosts-session_of : goal.ghosts-session_of
ghosts-session_of a = record { name = a.blank.name; parts = a.blank.parts }
