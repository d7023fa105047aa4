-- Spots that are equal are one spot.
use Rattle.std.specs.Prelude.{◌≡◌, true}
use Rattle.numa_huge.specs.declared.spot.HugeSpot.{HugeSpot}
use Rattle.numa_huge.specs.contracts.spot.HugeSpotPartialEq.TheImpl as spot_test
use Rattle.std.proofs.Common.{rules}
use Rattle.std.proofs.lemmas.Grind.{common_steps}

pub spot-exact : (a b : HugeSpot) → spot_test.ghosts.eq a b ≡ true → a ≡ b
spot-exact a b h = Prim.search (rules, common_steps)
