use Rattle.std.proofs.Common.{◌<◌, ◌^◌, ℕ, subst}
use Rattle.numa_mask.proofs.Bits.{below_number}
use Rattle.numa_mask.proofs.mask.NodeMask.iter.Goals as goal

pub returns-clause-within : goal.returns-clause-within
returns-clause-within c = let P : ℕ → Type 0 = λ s. s < 2 ^ 256 in
    subst P c.self.view_is (below_number c.self.inside.words c.self.invariant)
