use Rattle.std.proofs.Common.{ℕ, ap, arith, slice_index, ◌∙◌}
use Rattle.numa_host_pages.specs.Summed.{both_pages}
use Rattle.numa_host_pages.proofs.Sums.{both-most, nodes-went, pages-went}
use Rattle.numa_host_pages.proofs.summing.add_last.Goals as goal

pub returns-in-Nodes-clause-sum : goal.returns-in-Nodes-clause-sum
returns-in-Nodes-clause-sum c = λ done tells to small.
    c.add_pages.ensures to small
    ∙ ap (λ (pages : ℕ). both_pages pages (slice_index c.args.flow.now to))
    (nodes-went c.in-Nodes.moved c.args.last.now done c.args.from to c.in-Nodes.is tells
    (omega arith))

pub returns-in-Nodes-clause-small : goal.returns-in-Nodes-clause-small
returns-in-Nodes-clause-small c = λ to small.
    rw (c.add_pages.ensures to small) (both-most _ _)

pub returns-in-Pages-clause-sum : goal.returns-in-Pages-clause-sum
returns-in-Pages-clause-sum c = λ done tells to small.
    c.add_row.ensures to small
    ∙ ap (λ (pages : ℕ). both_pages pages (slice_index c.args.flow.now to))
    (c.flow_from.ensures to small
    ∙ pages-went c.in-Pages.gone c.args.last.now done c.args.from to c.in-Pages.is tells)

pub returns-in-Pages-clause-small : goal.returns-in-Pages-clause-small
returns-in-Pages-clause-small c = λ to small.
    rw (c.add_row.ensures to small) (both-most _ _)
