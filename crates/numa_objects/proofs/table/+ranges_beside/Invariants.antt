use Rattle.numa_objects.proofs.table.+ranges_beside.Given as goal

abbrev pub decreases-ranges_beside : goal.decreases-ranges_beside
decreases-ranges_beside l = l.slot
