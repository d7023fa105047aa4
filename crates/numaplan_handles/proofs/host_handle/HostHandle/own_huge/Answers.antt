use Rattle.std.proofs.Common.{Some, ap, sym, ◌∙◌}
use Rattle.numaplan_handles.specs.Kinds.{host_of}
use Rattle.numaplan_handles.specs.Hosted.{DoesOwnHuge}
use Rattle.numaplan_handles.proofs.Called.{called}
use Rattle.numaplan_handles.proofs.host_handle.HostHandle.own_huge.Goals as goal

pub returns : goal.returns
returns c =
    called (DoesOwnHuge c.args.line.now) c.args.self.now.handle.held.kept
    c.put.new.self.held.kept c.deref_mut.result.now c.in-Host.running
    c.own_done-answer.new.running c.own_done-answer.result
    (c.in_ok-kept.ensures.taken ∙ ap Some (sym c.deref_mut.ensures.value)) c.in-Host.is
    (ap host_of c.put.ensures.kept) c.own_done-answer.ensures
