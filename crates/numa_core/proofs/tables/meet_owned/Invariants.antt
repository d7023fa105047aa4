use Rattle.std.proofs.Common.{◌≡◌, vec_len}
use Rattle.numa_core.proofs.InARow.{MeetsOwned}
use Rattle.numa_core.proofs.tables.meet_owned.Given as goal

abbrev pub invariant-loop-place : goal.invariant-loop-place
invariant-loop-place l = record {
  met : MeetsOwned l.start l.place l.owners.items l.initial.met.items l.met.items;
  len : vec_len l.met ≡ vec_len l.initial.met;
}
