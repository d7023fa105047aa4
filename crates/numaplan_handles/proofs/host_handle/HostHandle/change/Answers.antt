use Rattle.std.proofs.Common.{Some, ap, sym, ◌∙◌}
use Rattle.numaplan_handles.specs.Kinds.{host_of}
use Rattle.numaplan_handles.specs.Hosted.{ChangesPages}
use Rattle.numaplan_handles.proofs.Called.{called}
use Rattle.numaplan_handles.proofs.host_handle.HostHandle.change.Goals as goal

pub returns : goal.returns
returns c =
    called (ChangesPages c.args.process c.args.line.now) c.args.self.now.handle.held.kept
    c.put.new.self.held.kept c.deref_mut.result.now c.in-Host.running
    c.changed-answer.new.running c.changed-answer.result
    (c.in_ok-kept.ensures.taken ∙ ap Some (sym c.deref_mut.ensures.value)) c.in-Host.is
    (ap host_of c.put.ensures.kept) c.changed-answer.ensures
