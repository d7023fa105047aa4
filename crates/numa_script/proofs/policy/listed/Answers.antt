use Rattle.numa_script.proofs.Listed.{prefer_listed, bind_listed, interleave_listed}
use Rattle.numa_script.proofs.Listed.{weighted_listed, many_listed}
use Rattle.numa_script.proofs.policy.listed.Goals as goal

pub returns-in-Some : goal.returns-in-Some
returns-in-Some c = prefer_listed c.args.word.now c.in-Some.list.now c.in-Some.ensures

pub returns-in-Some-behind : goal.returns-in-Some-behind
returns-in-Some-behind c =
    bind_listed c.args.word.now c.in-Some-behind.list.now c.in-Some-behind.ensures

pub returns-in-Some-behind-2 : goal.returns-in-Some-behind-2
returns-in-Some-behind-2 c =
    interleave_listed c.args.word.now c.in-Some-behind-2.list.now c.in-Some-behind-2.ensures

pub returns-in-Some-behind-3 : goal.returns-in-Some-behind-3
returns-in-Some-behind-3 c =
    weighted_listed c.args.word.now c.in-Some-behind-3.list.now c.in-Some-behind-3.ensures

pub returns-in-Some-behind-4 : goal.returns-in-Some-behind-4
returns-in-Some-behind-4 c =
    many_listed c.args.word.now c.in-Some-behind-4.list.now c.in-Some-behind-4.ensures
