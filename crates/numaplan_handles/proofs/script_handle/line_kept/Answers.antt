use Rattle.std.proofs.Common.{refl, rules}
use Rattle.numaplan_handles.proofs.Serving.{serves-kept}
use Rattle.numaplan_handles.proofs.script_handle.line_kept.Goals as goal

pub returns : goal.returns
returns c = (
  search rules,
  λ before is. (
    c.line.new.self,
    refl,
    serves-kept c.args.kept.now c.in-Script.dialog before c.line.new.self
        c.args.line.now c.line.result c.in-Script.is is c.line.ensures,
  ),
)
