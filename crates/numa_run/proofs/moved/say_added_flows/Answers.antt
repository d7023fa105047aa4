use Rattle.std.proofs.Common.{ℕ, ◌+◌, sym, arith}
use Rattle.numa_lines.proofs.Adding.{said_both, said_nothing, said_same}
use Rattle.numa_huge.specs.Tallies.{flow_of}
use Rattle.numa_run.specs.MovedTexts.{flow_of_last, last_of}
use Rattle.numa_run.proofs.Telling.{all-flows, flows_of, from-alike, texts-more}
use Rattle.numa_run.proofs.Telling.{texts-none}
use Rattle.numa_run.proofs.moved.say_added_flows.Goals as goal

pub loop-from-init : goal.loop-from-init
loop-from-init g c =
    let flow : ℕ → ℕ → ℕ = λ from to. flow_of_last (last_of c.args.last.now) from to
    + flow_of c.args.huge.now from to in
    said_same g.W.Write.contents c.args.output.now c.args.output.now _ _
    (sym (texts-none (flows_of flow)))
    (said_nothing g.W.Write.contents c.args.output.now)

pub loop-from-preserved : goal.loop-from-preserved
loop-from-preserved g c =
    let flow : ℕ → ℕ → ℕ = λ from to. flow_of_last (last_of c.args.last.now) from to
    + flow_of c.args.huge.now from to in
    said_same g.W.Write.contents c.args.output.now c.say_both_flows_from.new.output _ _
    (sym (texts-more (flows_of flow) c.loop-from.from))
    (said_both g.W.Write.contents c.args.output.now c.loop-from.output
    c.say_both_flows_from.new.output _ _ c.loop-from.invariant
    (said_same g.W.Write.contents c.loop-from.output c.say_both_flows_from.new.output _ _
    (from-alike c.loop-from.from _ (flow c.loop-from.from)
    (λ to small. λ i. c.small_flow-small.ensures to small i
    + c.flow_from-more.ensures to small i))
    c.say_both_flows_from.ensures))

pub returns : goal.returns
returns g c =
    let flow : ℕ → ℕ → ℕ = λ from to. flow_of_last (last_of c.args.last.now) from to
    + flow_of c.args.huge.now from to in
    said_same g.W.Write.contents c.args.output.now c.loop-from.output _ _
    (all-flows flow c.loop-from.from
    (omega (arith, c.loop-from.auto.from-end, c.loop-from-test.false))) c.loop-from.invariant
