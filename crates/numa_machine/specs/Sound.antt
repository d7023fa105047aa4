-- What every machine keeps.
use Rattle.std.specs.Prelude.{◌≡◌, ℕ, List, None}
use Rattle.numa_machine.specs.Machine.{Hardware, all_orders}
use Rattle.numa_machine.specs.Faults.{hardware_fault, fallback_fault}

-- the description and the orders that it asks for have no fault, and the stored orders are those of
-- its nodes, one after the other
pub record IsSound (hardware : Hardware) (orders : List ℕ) : Type 0 where
  pub no_fault : hardware_fault hardware ≡ None
  pub no_fallback_fault : fallback_fault hardware.nodes hardware.fallback ≡ None
  pub orders_of_nodes : orders ≡ all_orders hardware
