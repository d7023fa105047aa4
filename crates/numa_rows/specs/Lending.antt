-- What a block becomes that is lent to be written to.
use Rattle.std.specs.Prelude.{◌≡◌, Result}
use Rattle.std.specs.Borrow.{LendsSoOk, MutBor, Fml, RattleType}
use Rattle.std.specs.declared.alloc.Allocator.{Ghosts}
use Rattle.std.specs.declared.sync.Arc.{Arc}
use Rattle.std.specs.contracts.sync.Arc.{the_row}

-- a block is what was last written to what is lent of it; where nothing is lent, it stays
abbrev pub LendsBlock : (B A : RattleType) (g : Ghosts A.Denot) → MutBor (Arc B.Denot A.Denot)
    → {E : Type 0} → Result (MutBor B.Denot) E → Fml
LendsBlock B A g block result = LendsSoOk (the_row B A g) B block result
    (λ left items. left.value ≡ items) (λ left. left.value ≡ block.now.value)
