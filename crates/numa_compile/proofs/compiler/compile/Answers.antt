use Rattle.std.proofs.lemmas.Result.{IfOk-weaker}
use Rattle.numa_compile.proofs.FollowLemmas.{follows-plan, follows-sound, follows-stands}
use Rattle.numa_compile.proofs.compiler.compile.Goals as goal

pub returns-clause-stands : goal.returns-clause-stands
returns-clause-stands c = λ history stands. IfOk-weaker c.compile_counted.result _ _
    (λ plan f. follows-stands c.args.space.now plan history f stands)
    c.compile_counted.ensures.follows

pub returns-clause-plan : goal.returns-clause-plan
returns-clause-plan c = IfOk-weaker c.compile_counted.result _ _
    (λ plan f. follows-plan c.args.space.now plan f) c.compile_counted.ensures.follows

pub returns-clause-sound : goal.returns-clause-sound
returns-clause-sound c = IfOk-weaker c.compile_counted.result _ _
    (λ plan f. follows-sound c.args.space.now plan c.survey.ensures.ready f)
    c.compile_counted.ensures.follows
