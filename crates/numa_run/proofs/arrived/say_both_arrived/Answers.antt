use Rattle.std.proofs.Common.{codes, decimal, slice_index}
use Rattle.numa_lines.proofs.Adding.{said_both, said_same}
use Rattle.numa_requests.specs.NodeCounts.{nodes_text as counts_text}
use Rattle.numa_script.specs.PageTexts.{placed_words}
use Rattle.numa_run.proofs.Telling.{both-joined}
use Rattle.numa_run.proofs.arrived.say_both_arrived.Goals as goal

pub returns : goal.returns
returns g c =
    let done = c.args.done.now in
    let huge = c.args.huge.now in
    said_same g.W.Write.contents c.args.output.now c.say.new.self _ _
    (both-joined (codes "v") (decimal c.args.version) (codes ": ")
    (placed_words done.placed done.exhausted) (counts_text (slice_index done.on))
    (codes " huge ") (placed_words huge.placed huge.exhausted)
    (counts_text (slice_index huge.on)) (codes "\n"))
    (said_both g.W.Write.contents c.args.output.now c.say_huge_arrival.new.output
    c.say.new.self _ _
    (said_both g.W.Write.contents c.args.output.now c.say_arrival.new.output
    c.say_huge_arrival.new.output _ _ c.say_arrival.ensures c.say_huge_arrival.ensures)
    c.say.ensures)
