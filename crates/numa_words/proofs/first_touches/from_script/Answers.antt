use Rattle.numa_words.proofs.Scripted.{neither}
use Rattle.numa_words.proofs.first_touches.from_script.Goals as goal

pub returns-in_default : goal.returns-in_default
returns-in_default c = λ session stands.
    neither session c.args.process c.args.touch c.args.there.now c.from_alone.result
    (c.in_default.ensures session stands) (c.from_alone.ensures session c.args.process stands)

pub returns : goal.returns
returns c = λ session stands. c.in-Some.ensures session stands
