use Rattle.numaplan_handles.specs.Hosts.{CountsRanges}
use Rattle.numaplan_handles.proofs.Hosted.{told-in}
use Rattle.numaplan_handles.proofs.host_questions.ranges_in.Goals as goal

pub returns : goal.returns
returns c history stands =
    told-in CountsRanges c.args.host.now history c.args.process c.in_ok-space.space.now
    c.ranges-2.result (c.in_ok-space.ensures history stands) c.ranges-2.ensures.meaning
