use Rattle.std.specs.Prelude.{◌≡◌, drop, map}
use Rattle.numaplan_c.specs.Names.{name_in, row_of}
use Rattle.numaplan_c.proofs.names.name_in.Given as goal

-- the rows that are left have the name
abbrev pub invariant-loop-row : goal.invariant-loop-row
invariant-loop-row l = name_in (map row_of (drop l.row-index l.names)) l.code
    ≡ name_in (map row_of l.names) l.code
