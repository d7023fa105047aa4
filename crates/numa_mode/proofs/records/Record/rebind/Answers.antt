use Rattle.std.proofs.Common.{ap, sym, ◌∙◌}
use Rattle.numa_mode.specs.Policy.{PolicyRecord, is_local, is_preferred}
use Rattle.numa_mode.proofs.records.Record.rebind.Goals as goal

pub invariant_of-result : goal.invariant_of-result
invariant_of-result c = record {
  policy = c.self.invariant.policy;
  preferred = λ here. c.set_after.ensures.preferred
      (ap (λ (r : PolicyRecord). is_preferred r.spec) (sym c.self.view_is) ∙ here);
  local = λ here. c.set_after.ensures.local
      (ap (λ (r : PolicyRecord). is_local r.spec) (sym c.self.view_is) ∙ here);
  home = c.self.invariant.home;
}
