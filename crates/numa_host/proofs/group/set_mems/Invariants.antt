use Rattle.std.proofs.Common.{◌≡◌}
use Rattle.numa_host.specs.declared.group.ControlGroup.{ControlGroup}
use Rattle.numa_host.specs.Groups.{with_mems}
use Rattle.numa_host.proofs.Following.{ArePartly}
use Rattle.numa_host.proofs.group.set_mems.Given as goal

abbrev pub invariant-loop-group : goal.invariant-loop-group
invariant-loop-group l =
    ArePartly (λ (p q : ControlGroup). q ≡ with_mems l.name l.mems p) l.group-index
    l.fn.groups l.groups
