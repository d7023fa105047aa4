use Rattle.tests_of_threads.proofs.tests.refused.submit.Given as goal

-- the desk that is handed over
abbrev pub ghosts-submitted : goal.ghosts-submitted
ghosts-submitted g a = record { desk = a.desk.desk; bounds = a.desk.bounds }
