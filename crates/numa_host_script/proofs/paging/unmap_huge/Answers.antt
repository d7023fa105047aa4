use Rattle.numa_huge.specs.Huge.{places_of}
use Rattle.numa_host_huge.specs.Kept.{spots_in}
use Rattle.numa_host_script.proofs.Applied.{pages-stand}
use Rattle.numa_host_script.proofs.UnmappedBoth.{both-denied, both-lacks, both-serves, huge-lack}
use Rattle.numa_host_script.proofs.paging.unmap_huge.Goals as goal

pub unmap_both-requires : goal.unmap_both-requires
unmap_both-requires c = c.in-Ok.ensures.can

pub returns-in-Err-clause-host : goal.returns-in-Err-clause-host
returns-in-Err-clause-host c =
    rw c.pages_reply.ensures
    (pages-stand c.args.running.now.host c.args.process c.args.start c.args.length c.in-Err.why
    (huge-lack (spots_in c.args.process c.args.running.now.pages.huge.sharers) c.args.start
    c.args.length c.in-Err.why c.requires c.in-Err.ensures.err))

pub returns-in-Err-clause-runs : goal.returns-in-Err-clause-runs
returns-in-Err-clause-runs c =
    rw c.pages_reply.ensures
    (both-lacks c.args.running.now c.args.process c.args.start c.args.length c.requires
    c.unmapped.new.self c.in-Err.ensures.same c.in-Err.why c.in-Err.ensures.err)

pub returns-in-Err-without_span-clause-host : goal.returns-in-Err-without_span-clause-host
returns-in-Err-without_span-clause-host c =
    rw c.pages_reply-in-Err-without_span.ensures
    (pages-stand c.args.running.now.host c.args.process c.args.start c.args.length
    c.in-Err-without_span.why c.in-Err-without_span.ensures.lack)

pub returns-in-Err-without_span-clause-runs : goal.returns-in-Err-without_span-clause-runs
returns-in-Err-without_span-clause-runs c =
    rw c.pages_reply-in-Err-without_span.ensures
    (both-denied c.args.running.now c.args.process c.args.start c.args.length c.requires
    c.unmapped.new.self c.in-Ok.ensures.same (places_of c.in-Ok.huge) c.in-Ok.ensures.ok
    c.runs.ensures.few c.in-Err-without_span.why c.in-Err-without_span.ensures.forgets)

pub returns-clause-runs : goal.returns-clause-runs
returns-clause-runs c =
    both-serves c.args.running.now c.args.process c.args.start c.args.length c.requires
    c.unmapped.new.self c.in-Ok.ensures.same (places_of c.in-Ok.huge) c.in-Ok.ensures.ok
    c.runs.ensures.few c.unmap_both.new.running c.unmap_both.result c.in-Ok-without_span.small
    c.in-Ok-without_span.ensures.forgets c.unmap_both.ensures.runs
