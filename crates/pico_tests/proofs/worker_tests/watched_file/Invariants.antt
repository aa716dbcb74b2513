use Rattle.pico_tests.proofs.worker_tests.watched_file.Given as goal

abbrev pub ghosts-watched : goal.ghosts-watched
ghosts-watched g a = record { name = a.blank.name; parts = a.blank.parts }
