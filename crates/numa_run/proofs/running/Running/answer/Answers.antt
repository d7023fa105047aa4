use Rattle.std.proofs.Common.{◌∙◌, ap, sym, refl, ℕ, subst, ◌++◌, codes, decimal}
use Rattle.numa_lines.proofs.Adding.{said_same}
use Rattle.numa_lines.specs.Written.{Said}
use Rattle.numa_space.specs.Refusals.{range_count_of}
use Rattle.numa_space.specs.Standing.{SpaceState, StandsFor}
use Rattle.numa_core.specs.Standing.{CoreState}
use Rattle.numa_run.specs.Questions.{question_text}
use Rattle.numa_run.proofs.Doing.{same-core}
use Rattle.numa_run.proofs.running.Running.answer.Goals as goal

pub returns-in-Ranges-clause-answer : goal.returns-in-Ranges-clause-answer
returns-in-Ranges-clause-answer g c =
    λ state stands.
    let there = subst (λ s. StandsFor s state.world.history) (sym c.space.ensures.space)
    stands.core.world.space in
    let count = c.ranges-ranges.ensures.meaning state.world.history there
    ∙ ap (λ (s : SpaceState). range_count_of s.machine state.world.history)
    c.space.ensures.space in
    rw c.in-Ranges.is (
      stands,
      said_same g.W.Write.contents c.args.output.now c.say_ranges.new.output _ _
          (ap (λ (n : ℕ). codes "ranges " ++ decimal n ++ codes "\n") count) c.say_ranges.ensures,
    )

pub returns-then-answered_by_space-clause-answer :
    goal.returns-then-answered_by_space-clause-answer
returns-then-answered_by_space-clause-answer g c =
    λ state stands. (
      same-core c.args.self.now
          (record c.args.self.now { core = c.answered_by_space.new.core })
          state c.answered_by_space.ensures.same refl (refl, refl) stands,
      c.answered_by_space.ensures.answer c.if-answered_by_space.true state.world.history
          stands.core.world.space,
    )

pub returns-clause-answer : goal.returns-clause-answer
returns-clause-answer g c =
    λ state stands.
    let same = c.prepare.ensures ∙ c.answered_by_space.ensures.same in
    let ready =
    same-core c.args.self.now (record c.args.self.now { core = c.prepare.new.core }) state same
    refl (refl, refl) stands in
    let history = state.world.history in
    let plan = c.in-Some.ensures.meaning state.world ready.core.world in
    let text = ap (λ (core : CoreState). question_text c.say_by_plan.result core.space.machine
    history c.args.question) same in (
      ready,
      subst (λ o. Said g.W.Write.contents o c.say_by_plan.new.output
          (question_text c.say_by_plan.result c.args.self.now.core.space.machine history
          c.args.question))
          (c.answered_by_space.ensures.unsaid c.if-answered_by_space.false)
          (said_same g.W.Write.contents c.answered_by_space.new.output c.say_by_plan.new.output
          _ _ text (c.say_by_plan.ensures c.prepare.new.core.space.machine history plan)),
    )
