use Rattle.std.proofs.Common.{ap, sym, ◌∙◌}
use Rattle.numa_placed.specs.Astray.{strict_cause_by}
use Rattle.numa_ranges.specs.Runs.{page_at}
use Rattle.numa_page_state.specs.Lying.{Lying}
use Rattle.numa_page_state.specs.Outcomes.{is_astray_cause}
use Rattle.numa_page_state.proofs.Judging.{none-astray, same-astray}
use Rattle.numa_page_state.proofs.binding.lies_astray.Goals as goal

pub returns-in-None : goal.returns-in-None
returns-in-None c = rw c.in-None.is (λ lying none.
    sym (ap (λ (l : Lying). is_astray_cause (strict_cause_by c.args.space.now.machine.rules
    (page_at c.args.space.now.ranges) l.spots c.args.said.now.start c.args.said.now.length
    c.args.said.now.list)) none ∙ none-astray c.args.space.now.machine.rules
    (page_at c.args.space.now.ranges) c.args.said.now.start c.args.said.now.length
    c.args.said.now.list))

pub returns-in-Some : goal.returns-in-Some
returns-in-Some c = rw c.in-Some.is (λ lying lies.
    c.judged_astray.ensures ∙ same-astray c.args.space.now.machine.rules
    (page_at c.args.space.now.ranges) c.in-Some.kept lying c.args.said.now.start
    c.args.said.now.length c.args.said.now.list lies)
