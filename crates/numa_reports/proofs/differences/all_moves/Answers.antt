use Rattle.std.proofs.Common.{◌≡◌, ◌<◌, ◌∙◌, ap, map, sym}
use Rattle.std.proofs.lemmas.Bool.{ltb-true}
use Rattle.std.proofs.lemmas.Result.{IfErr-weaker, IfOk-weaker}
use Rattle.numa_machine.specs.Machine.{Hardware}
use Rattle.numa_reports.specs.Common.{AreCommon}
use Rattle.numa_reports.specs.Mapped.{span_of}
use Rattle.numa_reports.proofs.Differing.{common-refused, moves-told, space-common}
use Rattle.numa_reports.proofs.differences.all_moves.Goals as goal

pub returns-clause-ok : goal.returns-clause-ok
returns-clause-ok c history later stands planned stands' planned' =
    let common : AreCommon (map span_of c.args.before.now.ranges)
    (map span_of c.args.after.now.ranges) c.as_slice-3.result.now =
    space-common c.as_slice.result.now c.as_slice-2.result.now c.in_ok-spans.spans.items
    c.as_slice-3.result.now c.in_ok-ones.ones.items c.in_ok-others.others.items
    (map span_of c.args.before.now.ranges) (map span_of c.args.after.now.ranges)
    c.as_slice.ensures.value c.as_slice-2.ensures.value c.as_slice-3.ensures.value
    c.in_ok-ones.ensures.spans c.in_ok-others.ensures.spans c.in_ok-ones.ensures.rising
    c.in_ok-others.ensures.rising c.in_ok-spans.ensures.common in
    let here : c.args.touch.cpu < c.args.before.now.machine.nodes = ltb-true c.args.touch.cpu
    c.args.before.now.machine.nodes (sym c.has_node.ensures ∙ c.if-not-has_node.false) in
    let there : c.args.touch.cpu < c.args.after.now.machine.nodes = ltb-true c.args.touch.cpu
    c.args.after.now.machine.nodes (sym c.has_node-2.ensures ∙ c.if-not-has_node-2.false) in
    let nodes : c.nodes.result ≡ c.args.before.now.machine.nodes =
    c.nodes.ensures.nodes ∙ ap (λ (h : Hardware). h.nodes) c.machine.ensures in
    let nodes' : c.nodes-2.result ≡ c.args.after.now.machine.nodes =
    c.nodes-2.ensures.nodes ∙ ap (λ (h : Hardware). h.nodes) c.machine-2.ensures in
    IfOk-weaker c.moves_of.result _ _
    (λ moves told. record {
      spans = c.as_slice-3.result.now;
      common = common;
      told = moves-told c.args.before.now.machine c.args.after.now.machine c.args.old.now
          c.args.new.now history later c.args.touch.task c.args.touch.cpu c.nodes.result
          c.nodes-2.result c.as_slice-3.result.now moves.items planned planned' here there nodes
          nodes' c.nodes.ensures.at_most c.nodes-2.ensures.at_most told;
    })
    c.moves_of.ensures.moves

pub returns-clause-err : goal.returns-clause-err
returns-clause-err c history later stands planned stands' planned' =
    let common : AreCommon (map span_of c.args.before.now.ranges)
    (map span_of c.args.after.now.ranges) c.as_slice-3.result.now =
    space-common c.as_slice.result.now c.as_slice-2.result.now c.in_ok-spans.spans.items
    c.as_slice-3.result.now c.in_ok-ones.ones.items c.in_ok-others.others.items
    (map span_of c.args.before.now.ranges) (map span_of c.args.after.now.ranges)
    c.as_slice.ensures.value c.as_slice-2.ensures.value c.as_slice-3.ensures.value
    c.in_ok-ones.ensures.spans c.in_ok-others.ensures.spans c.in_ok-ones.ensures.rising
    c.in_ok-others.ensures.rising c.in_ok-spans.ensures.common in
    IfErr-weaker c.moves_of.result _ _
    (λ why fails. common-refused c.args.before.now c.args.after.now c.args.old.now c.args.new.now
    history later c.as_slice-3.result.now c.args.touch.cpu why stands planned stands' planned'
    common fails)
    c.moves_of.ensures.err
