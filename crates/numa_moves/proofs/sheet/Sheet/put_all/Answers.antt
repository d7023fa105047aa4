use Rattle.numa_moves.proofs.sheet.Sheet.put_all.Goals as goal

pub put_each-requires : goal.put_each-requires
put_each-requires c = record { whole = c.in_ok-all.ensures.whole }
