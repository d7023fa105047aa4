use Rattle.std.proofs.Common.{◌≡◌, ap, sym, subst, ◌∙◌}
use Rattle.numa_lines.proofs.Adding.{said_same}
use Rattle.numa_core.specs.Standing.{CoreState}
use Rattle.numa_space.specs.History.{page_of}
use Rattle.numa_space.specs.Standing.{SpaceState, StandsFor}
use Rattle.numa_requests.specs.declared.request.Request.{Request}
use Rattle.numa_run.specs.Questions.{place_text}
use Rattle.numa_run.proofs.running.answered_by_space.Goals as goal

pub returns-clause-answer : goal.returns-clause-answer
returns-clause-answer g c =
    λ yes history stands.
    let same : c.space.result.now ≡ c.args.core.now.space =
    c.space.ensures.space
    ∙ ap (λ (core : CoreState). core.space) c.answers_without_plan.ensures in
    let there = subst (λ (s : SpaceState). StandsFor s history) (sym same) stands in
    let text = ap (λ (f : Request).
    place_text c.space.result.now.machine history f.task f.page f.cpu) c.fault_at.ensures
    ∙ ap (λ (s : SpaceState). place_text s.machine history c.in-Place.task
    (page_of c.in-Place.address) c.in-Place.cpu) same in
    rw c.in-Place.is (said_same g.W.Write.contents c.args.output.now c.say_place_in.new.output _ _
    text (c.say_place_in.ensures history there))
