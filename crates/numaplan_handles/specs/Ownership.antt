-- What the place of a boxed value owns.
use base.Fml.{Fml}
use denote.RattleType.{RattleType}
use denote.RawPtr.{Ptr}
use Rattle.std.specs.Box.Ownership.{box_owns}
use Rattle.std.specs.contracts.impls.GlobalAllocator.TheImpl.{ghosts}

-- the memory of the value, and the right to give it back to the global allocator
abbrev pub owns_at : (R : RattleType) → Ptr → R.Denot → Fml
owns_at R p x = box_owns (ghosts.dealloc_token (record { memory = record { seal = tt } })) R p x
