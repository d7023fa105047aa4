use Rattle.std.proofs.Common.{◌≡◌, ◌<◌, ℕ, List, Option, is_some, true, ◌∙◌, sym, refl, arith}
use Rattle.std.proofs.Common.{slice_index}
use Rattle.numa_core.specs.Hints.{AreTaken}
use Rattle.numa_core.specs.Standing.{owner_at, place_in}
use Rattle.numa_core.specs.declared.free_frames.Known.{Known}
use Rattle.numa_core.proofs.TouchFinds.{finds-none, finds-frame, free-there, owned-below}
use Rattle.numa_core.proofs.free_frames.lowest_free.Goals as goal

-- the frames of a node below the number that is known for it are owned
taken : (frames : List ℕ) (owners : List (Option ℕ)) (known : Known) (node from : ℕ)
    → AreTaken frames owners known → from ≡ slice_index known.lowest.items node
    → (k : ℕ) → k < from → k < slice_index frames node
    → is_some (owner_at owners (place_in frames node k)) ≡ true
taken frames owners known node from are is k below within =
    are.lowest.owned node k (omega (arith, is)) within

pub returns-in_err-number-clause-lowest : goal.returns-in_err-number-clause-lowest
returns-in_err-number-clause-lowest c s world shows =
    let known = taken c.args.places.now c.args.owners.now.items c.args.taken.now c.args.node
    c.lowest_known-from.result c.requires.taken c.lowest_known-from.ensures in
    let frames = c.args.places.now in
    let owners = c.args.owners.now.items in
    c.from_residual.ensures
    ∙ sym
    (finds-none s frames owners world c.args.node shows
    (owned-below frames owners c.args.node c.lowest_known-from.result (slice_index frames c.args.node)
    (omega arith) known (c.in_err-number.ensures.none refl)))

pub returns-clause-lowest : goal.returns-clause-lowest
returns-clause-lowest c s world shows =
    let known = taken c.args.places.now c.args.owners.now.items c.args.taken.now c.args.node
    c.lowest_known-from.result c.requires.taken c.lowest_known-from.ensures in
    let frames = c.args.places.now in
    let owners = c.args.owners.now.items in
    let number = c.in_ok-number.number in
    let free = c.in_ok-number.ensures.free in
    sym (finds-frame s frames owners world c.args.node number shows free.0
    (free-there frames owners c.args.node number free.0 free.1)
    (owned-below frames owners c.args.node c.lowest_known-from.result number (omega (arith, free.0))
    known c.in_ok-number.ensures.below))
