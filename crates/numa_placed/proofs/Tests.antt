-- The test by which a map of spots joins its ranges is `same_spot`.
use Rattle.std.proofs.Common.{◌≡◌, true, refl, ap}
use Rattle.std.proofs.lemmas.Bool.{eqb-true, eq-eqb}
use Rattle.numa_space.proofs.SameTest.{tests-agree}
use Rattle.numa_placed.specs.Exact.{spot-exact}
use Rattle.numa_placed.specs.Spots.{same_spot}
use Rattle.numa_placed.specs.declared.spot.Spot.{Spot}
use Rattle.numa_placed.specs.declared.spot.Spot.TheVariants.{Nowhere, Stated}
use Rattle.numa_placed.specs.contracts.spot.SpotPartialEq.TheImpl as spot_test
use Rattle.numa_placed.specs.contracts.spot.SpotEq.TheImpl.Laws as spot_law

pub same_spot-exact : (a b : Spot) → same_spot a b ≡ true → a ≡ b
same_spot-exact Nowhere Nowhere h = refl
same_spot-exact Nowhere (Stated b) h = absurd (cc)
same_spot-exact (Stated a) Nowhere h = absurd (cc)
same_spot-exact (Stated a) (Stated b) h = ap (λ n. Stated n) (eqb-true a b h)

pub same_spot-refl : (a : Spot) → same_spot a a ≡ true
same_spot-refl Nowhere = refl
same_spot-refl (Stated a) = eq-eqb a a refl

pub spot_test-same : spot_test.ghosts.eq ≡ same_spot
spot_test-same = λ i a b. tests-agree spot_test.ghosts.eq same_spot spot-exact
    spot_law.laws-law.refl same_spot-exact same_spot-refl a b i
