use Rattle.std.proofs.Common.{List, map, ap, ◌∙◌}
use Rattle.numa_mode.specs.Policy.{PolicyRecord, record_after}
use Rattle.numa_space.proofs.task_records.TaskRecords.rebind.Goals as goal

pub returns : goal.returns
returns c =
    let change : PolicyRecord → PolicyRecord =
    λ policy. record_after c.args.rules policy c.args.old.now c.args.new.now in
    c.update_items.ensures.made change (λ x r h. h.says.met ∙ ap change h.shows)
    ∙ ap (λ (l : List PolicyRecord). map change l) c.self.view_is
