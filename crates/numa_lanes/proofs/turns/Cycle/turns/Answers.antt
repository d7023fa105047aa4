use Rattle.std.proofs.Common.{◌+◌, ◌-◌, ◌<◌, ◌%◌, ℕ, List, length, get_or, take, drop, ap, subst}
use Rattle.std.proofs.Common.{◌∙◌}
use Rattle.numa_lanes.proofs.CycleLemmas.{turns_at}
use Rattle.numa_lanes.proofs.turns.Cycle.turns.Goals as goal

pub returns-clause-nodes : goal.returns-clause-nodes
returns-clause-nodes c k lt =
    let len : ℕ = c.self.inside.len in
    let table : List ℕ = c.self.inside.table.items in
    let at : ℕ = c.args.start % len in
    let lend : List ℕ → List ℕ = λ t. take (at + c.args.count - at) (drop at t) in
    ap (λ t. get_or (lend t) k 0) c.deref.ensures.value
    ∙ turns_at table c.args.self.now len c.args.start c.args.count c.self.invariant.some
    c.self.invariant.long c.self.invariant.again c.self.view_is c.requires k
    (subst (λ t. k < length (lend t)) c.deref.ensures.value lt)
