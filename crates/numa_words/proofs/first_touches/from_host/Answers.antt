use Rattle.std.proofs.Common.{inl, inr}
use Rattle.numa_words.proofs.Scripted.{host-none, host-some}
use Rattle.numa_words.proofs.first_touches.from_host.Goals as goal

pub returns-in_default : goal.returns-in_default
returns-in_default c = λ session stands. inl (c.in_default.ensures session stands)

pub returns-in_default-host : goal.returns-in_default-host
returns-in_default-host c = λ session stands. inl (c.in_default-host.ensures session stands)

pub returns-then-is_empty : goal.returns-then-is_empty
returns-then-is_empty c = λ session stands.
    inr (host-none c.in-Some.pages.now session c.is_empty.result (c.in-Some.ensures session stands)
    c.is_empty.ensures c.if-is_empty.true)

pub returns : goal.returns
returns c = λ session stands.
    host-some c.in-Some.pages.now c.in-Some-host.host.now session c.args.process c.args.touch
    c.args.there.now c.from_shared.result (c.in-Some.ensures session stands)
    (c.in-Some-host.ensures session stands) c.from_shared.ensures
