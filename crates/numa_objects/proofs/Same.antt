-- Equal policies are one policy.
use Rattle.std.proofs.Common.{◌≡◌, true}
use Rattle.numa_mode.specs.Policy.{PolicyRecord}
use Rattle.numa_objects.specs.Same.{same_policy}
use Rattle.numa_objects.specs.contracts.place_policy.PlacePolicyEq.TheImpl.Laws as place_law

pub same_policy-refl : (a : PolicyRecord) → same_policy a a ≡ true
same_policy-refl a = place_law.laws-law.refl a
