use Rattle.std.proofs.Common.{Option, subst}
use Rattle.numa_lines.proofs.Adding.{said_same}
use Rattle.numa_huge.specs.Tallies.{StandsForHuge}
use Rattle.numa_huge.specs.declared.pages.HugePages.{HugePages}
use Rattle.numa_run.proofs.Arriving.{both-arrived, none-arrived, small-arrived}
use Rattle.numa_run.proofs.running.say_arrivals.Goals as goal

pub returns-in-Some-arrived : goal.returns-in-Some-arrived
returns-in-Some-arrived g c = λ arrival memory so kept.
    said_same g.W.Write.contents c.args.output.now c.say_both_arrived.new.output _ _
    (both-arrived c.args.version c.args.done.now arrival c.in-Some.kept c.in-Some-arrived.arrived
    memory so c.in-Some-arrived.is
    (subst (λ (h : Option HugePages). StandsForHuge h memory) c.in-Some.is kept))
    c.say_both_arrived.ensures

pub returns-in-None-arrived : goal.returns-in-None-arrived
returns-in-None-arrived g c = λ arrival memory so kept.
    said_same g.W.Write.contents c.args.output.now c.say_arrived.new.output _ _
    (small-arrived c.args.version c.args.done.now arrival c.in-Some.kept memory so
    c.in-None-arrived.is
    (subst (λ (h : Option HugePages). StandsForHuge h memory) c.in-Some.is kept))
    c.say_arrived.ensures

pub returns-in-None : goal.returns-in-None
returns-in-None g c = λ arrival memory so kept.
    said_same g.W.Write.contents c.args.output.now c.say_arrived-in-None.new.output _ _
    (none-arrived c.args.version c.args.done.now arrival c.args.huge.now memory so c.in-None.is
    kept) c.say_arrived-in-None.ensures
