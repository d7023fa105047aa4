use Rattle.numa_stress.proofs.play.storm_once.Given as goal

-- the desk that is handed over, and its limits
abbrev pub ghosts-play_to_the_end : goal.ghosts-play_to_the_end
ghosts-play_to_the_end g a = record { desk = a.desk.desk; bounds = a.desk.bounds }
