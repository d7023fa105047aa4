use Rattle.std.proofs.Common.{inl, inr}
use Rattle.numa_words.proofs.Scripted.{alone-bare, alone-few, alone-none, alone-some}
use Rattle.numa_words.proofs.first_touches.from_alone.Goals as goal

pub returns-in_default : goal.returns-in_default
returns-in_default c = λ session process stands. inl (c.in_default.ensures session stands)

pub returns-in_default-huge : goal.returns-in_default-huge
returns-in_default-huge c = λ session process stands.
    inr (alone-none c.in-Some.own.now session (c.in-Some.ensures session stands)
    c.in_default-huge.ensures)

pub returns-in_default-core : goal.returns-in_default-core
returns-in_default-core c = λ session process stands.
    inr (alone-bare c.in-Some.own.now session (c.in-Some.ensures session stands)
    c.in_default-core.ensures)

pub returns-then-has_no_runs : goal.returns-then-has_no_runs
returns-then-has_no_runs c = λ session process stands.
    inr (alone-few c.in-Some.own.now c.in-Some-huge.kept.now session c.has_no_runs.result
    (c.in-Some.ensures session stands) c.in-Some-huge.ensures c.has_no_runs.ensures
    c.if-has_no_runs.true)

pub returns : goal.returns
returns c = λ session process stands.
    alone-some c.in-Some.own.now c.in-Some-huge.kept.now c.in-Some-core.core.now
    c.space.result.now session process c.args.touch c.args.there.now c.from_own.result
    (c.in-Some.ensures session stands) c.in-Some-huge.ensures c.in-Some-core.ensures
    c.space.ensures.meaning c.from_own.ensures.said c.from_own.ensures.lying
