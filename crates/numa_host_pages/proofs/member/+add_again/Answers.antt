use Rattle.std.proofs.lemmas.Result.{on_ok_weaker}
use Rattle.std.proofs.Common.{List, ◌++◌, ◌∷◌, [], subst, sym}
use Rattle.numa_host_pages.specs.Homes.{Home}
use Rattle.numa_host_pages.specs.Standing.{AreHomes}
use Rattle.numa_host_pages.specs.declared.member.Member.{Member}
use Rattle.numa_host_pages.proofs.Copied.{first-home, nothing-more, one-again}
use Rattle.numa_host_pages.proofs.Places.{homes-joined}
use Rattle.numa_host_pages.proofs.member.+add_again.Goals as goal

pub returns-in_default-clause-added : goal.returns-in_default-clause-added
returns-in_default-clause-added t c = λ before homes old are.
    nothing-more c.args.copies.now.items c.args.members.now before homes
    c.in_default.ensures.cases old are

pub returns-clause-added : goal.returns-clause-added
returns-clause-added t c = λ before homes old are.
    let so = first-home c.in-Some.first.now c.in-Some.rest.now homes
    (rw (← c.in-Some.ensures.cases.0) are) in
    let copied = c.in-Ok.ensures so.0 so.3 in
    let more : AreHomes c.push.new.self.items (before ++ so.0 ∷ []) =
    subst (λ (ms : List Member). AreHomes ms (before ++ so.0 ∷ []))
    (sym c.in-Ok-push.ensures.items)
    (homes-joined c.args.copies.now.items before c.in-Ok.copy so.0 old copied) in
    on_ok_weaker c.add_again.result (λ now.
    one-again c.add_again.new.copies.items before so.1 homes so.0 so.2 now)
    (c.add_again.ensures.added (before ++ so.0 ∷ []) so.1 more so.4)
