use Rattle.std.proofs.Common.{◌≡◌, rules, subst, slice_get, Some}
use Rattle.numa_compile.proofs.SeenLemmas.{stored-is}
use Rattle.numa_compile.proofs.numbers.place_of.Goals as goal

pub returns-clause-stored : goal.returns-clause-stored
returns-clause-stored c =
    let same : c.in_ok-place.place ≡ c.in-Ok.number = search rules in
    subst (λ place. slice_get c.insert_full.new.self.keys place ≡ Some c.args.policy) same
    (stored-is c.insert_full.new.self.keys c.in_ok-place.place c.args.policy
    c.in_ok-place.ensures.stored)
