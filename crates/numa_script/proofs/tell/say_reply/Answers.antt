use Rattle.numa_script.specs.Texts.{text_of}
use Rattle.numa_script.proofs.tell.say_reply.Goals as goal

pub returns-in-BadLimits : goal.returns-in-BadLimits
unfolding text_of
returns-in-BadLimits g c = λ from said h.
    rw c.in-BadLimits.is (c.say-in-BadLimits.ensures from said h)

pub returns-in-BadMachine : goal.returns-in-BadMachine
unfolding text_of
returns-in-BadMachine g c = λ from said h. rw (c.in-BadMachine.is, ← c.name.ensures.text)
    (c.say_line.ensures from said h)

pub returns-in-Exhausted : goal.returns-in-Exhausted
unfolding text_of
returns-in-Exhausted g c = λ from said h.
    rw c.in-Exhausted.is (c.say_count-in-Exhausted.ensures from said h)
