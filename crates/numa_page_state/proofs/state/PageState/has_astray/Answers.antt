use Rattle.std.proofs.Common.{◌∙◌}
use Rattle.numa_ranges.specs.Runs.{page_at}
use Rattle.numa_page_state.proofs.Judging.{same-astray}
use Rattle.numa_page_state.proofs.state.PageState.has_astray.Goals as goal

pub returns : goal.returns
returns c = λ lying history lies stands.
    c.strays.ensures lying.spots history (c.judged_astray-stated.ensures
    ∙ same-astray c.args.space.now.machine.rules (page_at c.args.space.now.ranges) c.args.self.now
    lying c.args.said.now.start c.args.said.now.length c.args.said.now.list lies) stands
