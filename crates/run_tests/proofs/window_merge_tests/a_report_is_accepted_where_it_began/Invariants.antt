use Rattle.run_tests.proofs.window_merge_tests.a_report_is_accepted_where_it_began.Given as goal

abbrev pub ghosts-said_of : goal.ghosts-said_of
ghosts-said_of g a = record { name = a.blank.name; parts = a.blank.parts }
