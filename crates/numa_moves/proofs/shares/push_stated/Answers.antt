use Rattle.std.proofs.Common.{◌++◌, ◌∙◌, List, ap, slice_index}
use Rattle.std.proofs.lemmas.Result.{on_ok_weaker}
use Rattle.numa_placed.specs.Spots.{spot_at}
use Rattle.numa_moves.specs.Shares.{stated_in}
use Rattle.numa_moves.specs.declared.share.Share.{Share}
use Rattle.numa_moves.proofs.Lists.{within-same}
use Rattle.numa_moves.proofs.shares.push_stated.Goals as goal

pub returns : goal.returns
returns c =
    on_ok_weaker c.push_within.result
    (λ so. so ∙ ap (λ (l : List Share). c.args.shares.now.items ++ l)
    (within-same (slice_index c.count_in-counts.result)
    (stated_in (spot_at c.args.placed.now) c.args.span) c.args.span c.args.nodes c.requires.few
    c.count_in-counts.ensures)) c.push_within.ensures
