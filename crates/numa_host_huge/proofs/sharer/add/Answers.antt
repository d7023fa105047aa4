use Rattle.std.proofs.Common.{◌≡◌, true, is_ok, arith, refl}
use Rattle.numa_host_huge.proofs.sharer.add.Goals as goal

pub returns-clause-items : goal.returns-clause-items
returns-clause-items c =
    let done : is_ok c.push.result ≡ true =
    c.push.ensures.succeeds
    (omega (arith, c.requires.few, c.requires.room, c.args.sharers.now.ok.0)) in
    rw (c.push.ensures.items, done) refl
