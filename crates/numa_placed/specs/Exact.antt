-- Spots that are equal are one spot, and slots that are equal one slot.
use Rattle.std.specs.Prelude.{◌≡◌, true}
use Rattle.numa_placed.specs.declared.spot.Spot.{Spot}
use Rattle.numa_placed.specs.contracts.spot.SpotPartialEq.TheImpl as spot_test
use Rattle.numa_placed.specs.declared.turn.Slot.{Slot}
use Rattle.numa_placed.specs.contracts.turn.SlotPartialEq.TheImpl as slot_test
use Rattle.std.proofs.Common.{rules}
use Rattle.std.proofs.lemmas.Grind.{common_steps}

pub spot-exact : (a b : Spot) → spot_test.ghosts.eq a b ≡ true → a ≡ b
spot-exact a b h = Prim.search (rules, common_steps)

pub slot-exact : (a b : Slot) → slot_test.ghosts.eq a b ≡ true → a ≡ b
slot-exact a b h = Prim.search (rules, common_steps)
