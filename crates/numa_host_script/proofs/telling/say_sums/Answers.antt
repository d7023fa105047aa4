use Rattle.std.proofs.Common.{ℕ, sym, arith}
use Rattle.numa_lines.proofs.Adding.{said_both, said_nothing, said_same}
use Rattle.numa_host_pages.specs.Summed.{sum_in}
use Rattle.numa_run.proofs.Telling.{all-flows, flows_of, from-alike, texts-more}
use Rattle.numa_run.proofs.Telling.{texts-none}
use Rattle.numa_host_script.proofs.telling.say_sums.Goals as goal

pub loop-from-init : goal.loop-from-init
loop-from-init g c = λ at lies.
    said_same g.W.Write.contents c.args.output.now c.args.output.now _ _
    (sym (texts-none (flows_of (sum_in at).flow)))
    (said_nothing g.W.Write.contents c.args.output.now)

pub loop-from-preserved : goal.loop-from-preserved
loop-from-preserved g c = λ at lies.
    let flow : ℕ → ℕ → ℕ = (sum_in at).flow in
    said_same g.W.Write.contents c.args.output.now c.say_flows_from.new.output _ _
    (sym (texts-more (flows_of flow) c.loop-from.from))
    (said_both g.W.Write.contents c.args.output.now c.loop-from.output
    c.say_flows_from.new.output _ _ (c.loop-from.invariant at lies)
    (said_same g.W.Write.contents c.loop-from.output c.say_flows_from.new.output _ _
    (from-alike c.loop-from.from _ (flow c.loop-from.from)
    (λ to small. c.flow_from.ensures at lies to small))
    c.say_flows_from.ensures))

pub returns : goal.returns
returns g c = λ at lies.
    let flow : ℕ → ℕ → ℕ = (sum_in at).flow in
    said_same g.W.Write.contents c.args.output.now c.loop-from.output _ _
    (all-flows flow c.loop-from.from
    (omega (arith, c.loop-from.auto.from-end, c.loop-from-test.false)))
    (c.loop-from.invariant at lies)
