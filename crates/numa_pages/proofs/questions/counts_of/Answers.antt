use Rattle.std.proofs.Common.{◌≡◌, ℕ, ◌*◌, ◌+◌, ◌<◌, ◌≤◌, ◌∙◌, ap, arith}
use Rattle.std.specs.Prelude.{slice_index}
use Rattle.numa_placed.specs.Spots.{is_on, spot_at}
use Rattle.numa_placed.proofs.Shared.{count-le}
use Rattle.numa_huge.specs.Huge.{huge_at, on_node, pages_of}
use Rattle.numa_pages.proofs.questions.counts_of.Goals as goal

pub counts_with-requires : goal.counts_with-requires
counts_with-requires c node near =
    let few = count-le (λ page. is_on node (spot_at c.args.placed.now page)) 0 34359738368 in
    omega (arith, c.counts.ensures node near, few)

pub returns : goal.returns
returns c node near =
    c.counts_with.ensures node near
    ∙ ap (λ (n : ℕ). 512 * pages_of (on_node node) (huge_at c.args.huge.now.runs) + n)
    (c.counts.ensures node near)
