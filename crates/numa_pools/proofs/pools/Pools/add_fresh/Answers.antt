use Rattle.std.proofs.Common.{◌≡◌, ◌-◌, ◌+◌, ◌≤◌, ◌<◌, ◌^◌, ℕ, List, ap, arith, subst, sym, ◌∙◌}
use Rattle.std.specs.Prelude.{slice_index, sum}
use Rattle.numa_pools.specs.Turns.{in_turn, on}
use Rattle.numa_pools.specs.Pools.{PoolCounts, lasting, most}
use Rattle.numa_pools.specs.Resize.{add_fresh, left_of}
use Rattle.numa_pools.specs.Shown.{shown}
use Rattle.numa_pools.proofs.Resizing.{adding-is, fresh-fits, fresh-room, kept-adding}
use Rattle.numa_pools.proofs.pools.Pools.add_fresh.Goals as goal

room-is : (allowed : ℕ) (total left room : List ℕ) → room ≡ on allowed left → left ≡ left_of total
    → room ≡ on allowed (left_of total)
room-is allowed total left room r l = r ∙ ap (on allowed) l

pub in_turn-shares-requires-clause-mark : goal.in_turn-shares-requires-clause-mark
in_turn-shares-requires-clause-mark c = c.self.invariant.grow

pub in_turn-shares-requires-clause-fits : goal.in_turn-shares-requires-clause-fits
in_turn-shares-requires-clause-fits c =
    let p : PoolCounts = shown c.self.inside in
    subst (λ (xs : List ℕ). sum xs < 2 ^ 64)
    (sym (room-is c.args.allowed.now p.total c.left_of.result c.on-room.result c.on-room.ensures
    c.left_of.ensures)) (fresh-fits c.args.allowed.now p c.self.invariant)

pub add_each-requires : goal.add_each-requires
add_each-requires c = λ node.
    let p : PoolCounts = shown c.self.inside in
    let room : c.on-room.result ≡ on c.args.allowed.now (left_of p.total) =
    room-is c.args.allowed.now p.total c.left_of.result c.on-room.result c.on-room.ensures
    c.left_of.ensures in
    let few : slice_index p.total node + slice_index c.in_turn-shares.result.taken node ≤ most =
    fresh-room c.args.allowed.now p c.in_turn-shares.result c.saturating_sub-missing.result
    c.args.nodes.now c.self.invariant
    (c.in_turn-shares.ensures.shares
    ∙ ap (in_turn c.saturating_sub-missing.result c.args.nodes.now p.grow) room) node in
    omega (arith, few)

pub add_each-requires-2 : goal.add_each-requires-2
add_each-requires-2 c = λ node.
    let p : PoolCounts = shown c.self.inside in
    let room : c.on-room.result ≡ on c.args.allowed.now (left_of p.total) =
    room-is c.args.allowed.now p.total c.left_of.result c.on-room.result c.on-room.ensures
    c.left_of.ensures in
    let few : slice_index p.total node + slice_index c.in_turn-shares.result.taken node ≤ most =
    fresh-room c.args.allowed.now p c.in_turn-shares.result c.saturating_sub-missing.result
    c.args.nodes.now c.self.invariant
    (c.in_turn-shares.ensures.shares
    ∙ ap (in_turn c.saturating_sub-missing.result c.args.nodes.now p.grow) room) node in
    omega (arith, few, c.self.invariant.within node)

pub invariant_of-self : goal.invariant_of-self
invariant_of-self c =
    let p : PoolCounts = shown c.self.inside in
    let room : c.on-room.result ≡ on c.args.allowed.now (left_of p.total) =
    room-is c.args.allowed.now p.total c.left_of.result c.on-room.result c.on-room.ensures
    c.left_of.ensures in
    kept-adding c.args.allowed.now p c.saturating_sub-missing.result c.args.nodes.now
    c.in_turn-shares.result c.add_each.new.xs c.add_each-2.new.xs c.self.invariant
    (c.in_turn-shares.ensures.shares
    ∙ ap (in_turn c.saturating_sub-missing.result c.args.nodes.now p.grow) room)
    c.in_turn-shares.ensures.within c.add_each.ensures c.add_each-2.ensures

pub returns : goal.returns
returns c =
    let p : PoolCounts = shown c.self.inside in
    let room : c.on-room.result ≡ on c.args.allowed.now (left_of p.total) =
    room-is c.args.allowed.now p.total c.left_of.result c.on-room.result c.on-room.ensures
    c.left_of.ensures in
    let missing : c.saturating_sub-missing.result ≡ c.args.goal - lasting p =
    c.saturating_sub-missing.ensures ∙ ap (λ (n : ℕ). c.args.goal - n)
    (c.lasting.ensures.lasting ∙ sym (ap lasting c.self.view_is)) in
    adding-is p c.args.nodes.now c.args.allowed.now c.args.goal c.in_turn-shares.result
    c.add_each.new.xs c.add_each-2.new.xs
    (c.in_turn-shares.ensures.shares
    ∙ ap (λ (n : ℕ). in_turn n c.args.nodes.now p.grow c.on-room.result) missing
    ∙ ap (in_turn (c.args.goal - lasting p) c.args.nodes.now p.grow) room)
    c.add_each.ensures c.add_each-2.ensures
    ∙ ap (add_fresh c.args.nodes.now c.args.allowed.now c.args.goal) c.self.view_is
