use Rattle.std.proofs.Common.{ap, sym, ◌∙◌}
use Rattle.numa_page_state.specs.Outcomes.{is_astray_cause}
use Rattle.numa_page_state.proofs.binding.stated_astray.Goals as goal

pub returns-in-Ok : goal.returns-in-Ok
returns-in-Ok c = sym (ap is_astray_cause c.in-Ok.ensures)

pub returns-in-Err : goal.returns-in-Err
returns-in-Err c = c.is_astray.ensures ∙ sym (ap is_astray_cause c.in-Err.ensures)
