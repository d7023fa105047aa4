use Rattle.tests_of_threads.proofs.tests.beside.a_second_thread.Given as goal

-- the desk that is handed over
abbrev pub ghosts-run : goal.ghosts-run
ghosts-run g a = record { desk = a.desk.desk; bounds = a.desk.bounds }
