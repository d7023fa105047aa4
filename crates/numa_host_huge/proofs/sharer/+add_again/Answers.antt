use Rattle.std.proofs.Common.{◌≡◌, List, ◌++◌, ◌∷◌, [], arith, length, subst, sym, ap}
use Rattle.std.proofs.lemmas.Result.{on_ok_weaker}
use Rattle.numa_host_huge.specs.Sharing.{HugeHome}
use Rattle.numa_host_huge.specs.Standing.{AreHomes}
use Rattle.numa_host_huge.specs.declared.sharer.Sharer.{Sharer}
use Rattle.numa_host_huge.proofs.Changed.{homes-behind}
use Rattle.numa_host_huge.proofs.Copied.{first-home, no-more, none-on, none-reserved, one-more}
use Rattle.numa_host_huge.proofs.Copied.{one-on, one-reserved}
use Rattle.numa_host_huge.proofs.Sums.{length-behind}
use Rattle.numa_host_huge.proofs.sharer.+add_again.Goals as goal

pub returns-in_default-clause-added : goal.returns-in_default-clause-added
returns-in_default-clause-added t c = λ before homes old are.
    no-more c.args.copies.now.items c.args.sharers.now before homes c.in_default.ensures.cases old
    are

pub returns-in_default-clause-on : goal.returns-in_default-clause-on
returns-in_default-clause-on t c = λ node.
    none-on c.args.copies.now.items c.args.sharers.now node c.in_default.ensures.cases

pub returns-in_default-clause-reserved : goal.returns-in_default-clause-reserved
returns-in_default-clause-reserved t c =
    none-reserved c.args.copies.now.items c.args.sharers.now c.in_default.ensures.cases

pub returns-in_default-clause-length : goal.returns-in_default-clause-length
returns-in_default-clause-length t c = omega (arith, c.in_default.ensures.cases)

pub returns-clause-added : goal.returns-clause-added
returns-clause-added t c = λ before homes old are.
    let so = first-home c.in-Some.first.now c.in-Some.rest.now homes
    (rw (← c.in-Some.ensures.cases.0) are) in
    let copied = c.in-Ok.ensures.home so.home so.stands in
    let more : AreHomes c.push.new.self.items (before ++ so.home ∷ []) =
    subst (λ (xs : List Sharer). AreHomes xs (before ++ so.home ∷ []))
    (sym c.in-Ok-push.ensures.items)
    (homes-behind c.args.copies.now.items before c.in-Ok.copy so.home old copied) in
    on_ok_weaker c.add_again.result (λ now.
    one-more c.add_again.new.copies.items before so.others homes so.home so.is now)
    (c.add_again.ensures.added (before ++ so.home ∷ []) so.others more so.are)

pub returns-clause-on : goal.returns-clause-on
returns-clause-on t c = λ node.
    on_ok_weaker c.add_again.result (λ now.
    one-on c.args.copies.now.items c.push.new.self.items c.add_again.new.copies.items
    c.args.sharers.now c.in-Some.rest.now c.in-Ok.copy c.in-Some.first.now node
    c.in-Ok-push.ensures.items c.in-Some.ensures.cases.0 c.in-Ok.ensures.spots now)
    (c.add_again.ensures.on node)

pub returns-clause-reserved : goal.returns-clause-reserved
returns-clause-reserved t c =
    on_ok_weaker c.add_again.result (λ now.
    one-reserved c.args.copies.now.items c.push.new.self.items c.add_again.new.copies.items
    c.args.sharers.now c.in-Some.rest.now c.in-Ok.copy c.in-Some.first.now
    c.in-Ok-push.ensures.items c.in-Some.ensures.cases.0 c.in-Ok.ensures.spots now)
    c.add_again.ensures.reserved
