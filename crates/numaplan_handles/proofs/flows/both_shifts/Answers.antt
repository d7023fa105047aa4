use Rattle.std.proofs.Common.{ℕ, ap, ◌∙◌}
use Rattle.numa_host_pages.specs.Summed.{both_pages}
use Rattle.numa_host_pages.proofs.Sums.{nodes-counted, pages-counted}
use Rattle.numa_huge.specs.Tallies.{left_of, moved_of}
use Rattle.numaplan_handles.proofs.flows.both_shifts.Goals as goal

pub returns-in-Nodes : goal.returns-in-Nodes
returns-in-Nodes c = λ done tells.
    let small = nodes-counted c.in-Nodes.moved c.args.last.now done c.in-Nodes.is tells in (
      c.shift_with.ensures.moved ∙ ap (λ (n : ℕ). both_pages n (moved_of c.args.huge.now)) small.0,
      c.shift_with.ensures.left ∙ ap (λ (n : ℕ). both_pages n (left_of c.args.huge.now)) small.1,
    )

pub returns-in-Pages : goal.returns-in-Pages
returns-in-Pages c = λ done tells.
    let small = pages-counted c.in-Pages.gone c.args.last.now done c.in-Pages.is tells in (
      c.shift_with-in-Pages.ensures.moved ∙ ap (λ (n : ℕ). both_pages n (moved_of c.args.huge.now)) small.0,
      c.shift_with-in-Pages.ensures.left ∙ ap (λ (n : ℕ). both_pages n (left_of c.args.huge.now)) small.1,
    )
