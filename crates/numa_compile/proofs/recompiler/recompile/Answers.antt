use Rattle.std.proofs.lemmas.Result.{IfOk-weaker}
use Rattle.numa_compile.proofs.FollowLemmas.{follows-sound, follows-stands}
use Rattle.numa_compile.proofs.recompiler.recompile.Goals as goal

pub returns-clause-stands : goal.returns-clause-stands
returns-clause-stands c = λ history stands. IfOk-weaker c.edit.result _ _
    (λ done f. follows-stands c.args.space.now c.edit.new.plan history f stands)
    c.edit.ensures.follows

pub returns-clause-sound : goal.returns-clause-sound
returns-clause-sound c =
    IfOk-weaker c.edit.result _ _
    (λ done f. follows-sound c.args.space.now c.edit.new.plan c.survey.ensures.ready f)
    c.edit.ensures.follows
