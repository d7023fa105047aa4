-- Whether two policies are one.
use Rattle.std.specs.Prelude.{Bool}
use Rattle.numa_mode.specs.Policy.{PolicyRecord}
use Rattle.numa_objects.specs.contracts.place_policy.PlacePolicyPartialEq.TheImpl as place_test

-- whether they are equal, as `==` says: in all their parts
abbrev pub same_policy : PolicyRecord → PolicyRecord → Bool
same_policy = place_test.ghosts.eq
