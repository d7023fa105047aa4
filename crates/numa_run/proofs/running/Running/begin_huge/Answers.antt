use Rattle.std.proofs.Common.{ap, ◌∙◌}
use Rattle.numa_space.specs.Standing.{SpaceState}
use Rattle.numa_run.proofs.Begun.{begun-kept, begun-new}
use Rattle.numa_run.proofs.running.Running.begin_huge.Goals as goal

pub returns-in-Some-clause-runs : goal.returns-in-Some-clause-runs
returns-in-Some-clause-runs c = λ state stands.
    begun-kept c.args.self.now c.in-Some.field-0 c.in-Some.is state stands

pub returns-clause-runs : goal.returns-clause-runs
returns-clause-runs c = λ state stands.
    begun-new c.args.self.now c.new-begun.result c.machine.result.now c.in_default.is
    (c.machine.ensures ∙ ap (λ (s : SpaceState). s.machine) c.space.ensures.space)
    c.new-begun.ensures state stands
