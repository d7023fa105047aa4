use Rattle.std.proofs.Common.{◌++◌, ◌∙◌, List, ap, slice_index}
use Rattle.numa_reports.specs.Mapped.{span_of}
use Rattle.numa_reports.specs.declared.outlook.PageSpan.{PageSpan}
use Rattle.numa_moves.specs.Shares.{shares_within, stated_in, touched_spot}
use Rattle.numa_moves.specs.declared.share.Share.{Share}
use Rattle.numa_moves.proofs.Lists.{within-same}
use Rattle.numa_moves.proofs.Touched.{touched-counted}
use Rattle.numa_moves.proofs.shares.push_touched.Goals as goal

pub returns-in-Ok-push_within-clause-ok : goal.returns-in-Ok-push_within-clause-ok
returns-in-Ok-push_within-clause-ok c history stands planned =
    let old = c.args.shares.now.items in
    let counts = slice_index c.in-Ok.said.counts in
    let span = span_of c.args.range.now in
    let machine = c.args.space.now.machine in
    let first = (c.in-Ok.ensures.ok history stands planned).counts in
    c.in-Ok-push_within.ensures
    ∙ ap (λ (s : PageSpan). old ++ shares_within counts s c.args.nodes) c.span_by.ensures
    ∙ ap (λ (l : List Share). old ++ l) (within-same counts
    (stated_in (touched_spot machine history c.args.touch.task c.args.touch.cpu) span) span
    c.args.nodes c.requires.few (λ node small. first node small
    ∙ touched-counted machine history c.args.touch.task c.args.touch.cpu span node))
