use Rattle.std.proofs.Common.{◌≡◌, true, is_ok, arith}
use Rattle.numa_host_pages.proofs.Places.{homes-joined, homes-length}
use Rattle.numa_host_pages.proofs.member.add.Goals as goal

pub returns-clause-added : goal.returns-clause-added
returns-clause-added c = λ homes home are is small places.
    let len = homes-length c.args.members.now.items homes are in
    let done : is_ok c.push.result ≡ true =
    c.push.ensures.succeeds (omega (arith, len, small, places, c.args.members.now.ok.0)) in
    rw (c.push.ensures.items, done)
    (homes-joined c.args.members.now.items homes c.args.member home are is)
