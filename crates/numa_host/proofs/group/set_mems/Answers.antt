use Rattle.std.proofs.Common.{◌≡◌, ◌<◌, length, arith}
use Rattle.numa_host.specs.declared.group.ControlGroup.{ControlGroup}
use Rattle.numa_host.specs.Groups.{with_mems}
use Rattle.numa_host.proofs.Following.{partly-more, partly-whole, partly-map}
use Rattle.numa_host.proofs.group.set_mems.Goals as goal

pub loop-group-preserved : goal.loop-group-preserved
loop-group-preserved c =
    let inside : c.loop-group.group-index < length {A = ControlGroup} c.args.groups.now =
    omega (arith, c.loop-group-test.true, c.loop-group.invariant.count) in
    partly-more (λ (p q : ControlGroup). q ≡ with_mems c.args.name c.args.mems.now p)
    c.loop-group.group-index c.args.groups.now c.loop-group.groups c.group-item.result
    c.with_mems.result c.loop-group.invariant inside c.with_mems.ensures

pub returns : goal.returns
returns c = partly-map (with_mems c.args.name c.args.mems.now) c.args.groups.now
    c.loop-group.groups (partly-whole _ c.loop-group.group-index c.args.groups.now
    c.loop-group.groups c.loop-group.invariant
    (omega (arith, c.loop-group-test.false, c.loop-group.invariant.count)))
