use Rattle.std.proofs.Common.{◌≡◌, ℕ, ◌*◌, ◌<◌, ◌≤◌, arith}
use Rattle.std.specs.Prelude.{slice_index}
use Rattle.numa_placed.proofs.Shared.{count-le}
use Rattle.numa_huge.specs.Huge.{huge_at, on_node}
use Rattle.numa_pages.proofs.questions.counts_with.Goals as goal

pub parts_on-requires : goal.parts_on-requires
parts_on-requires c node near =
    let few = count-le (λ page. on_node node (huge_at c.args.huge.now.runs page)) 0 67108864 in
    omega (arith, c.counts_in-large.ensures.on node near, few)

pub add-requires-clause-held : goal.add-requires-clause-held
add-requires-clause-held c node near =
    let few = count-le (λ page. on_node node (huge_at c.args.huge.now.runs page)) 0 67108864 in
    omega (arith, c.parts_on.ensures node near, c.counts_in-large.ensures.on node near, few)
