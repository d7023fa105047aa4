use Rattle.std.proofs.Common.{rules, Some, ap, sym, ◌∙◌}
use Rattle.numaplan_handles.specs.Kinds.{dialog_of}
use Rattle.numaplan_handles.proofs.Serving.{serves-same}
use Rattle.numaplan_handles.proofs.script_handle.ScriptHandle.line.Goals as goal

pub returns : goal.returns
returns c = (
  search rules,
  serves-same (dialog_of c.args.self.now.handle.held.kept) (dialog_of (Some c.deref_mut.result.now))
      (dialog_of c.put.new.self.held.kept) (dialog_of (Some c.line_kept-answer.new.kept))
      c.args.line.now c.line_kept-answer.result
      (ap dialog_of (c.in_ok-kept.ensures.taken ∙ ap Some (sym c.deref_mut.ensures.value)))
      (ap dialog_of c.put.ensures.kept) c.line_kept-answer.ensures.1,
)
