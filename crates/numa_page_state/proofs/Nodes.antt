-- Nodes by any number.
use Rattle.std.proofs.Common.{◌≡◌, ℕ, ◌≤◌, Some, refl}
use Rattle.std.proofs.lemmas.Bool.{le-leb}
use Rattle.numa_pools.specs.Pools.{PoolCounts}
use Rattle.numa_pools.specs.Resize.{node_refusal}
use Rattle.numa_pools.specs.declared.refusal.PoolRefusal.TheVariants as pool

pub some-same : (one other : ℕ) → Some one ≡ Some other → one ≡ other
some-same one other is = cc

-- a machine has the nodes below their number
pub none-above : (pools : PoolCounts) (nodes node pages : ℕ) → nodes ≤ node
    → Some pool.NoSuchNode ≡ node_refusal nodes pools node pages
none-above pools nodes node pages far = rw (le-leb nodes node far) refl
