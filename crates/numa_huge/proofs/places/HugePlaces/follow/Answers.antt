use Rattle.std.proofs.Common.{◌≡◌, ◌<◌, ℕ, ◌∙◌, Option, List, ap, arith, subst}
use Rattle.std.specs.Prelude.{slice_index, ◌==◌, if◌then◌else◌}
use Rattle.numa_mask.specs.NodeSet.{has}
use Rattle.numa_ranges.specs.declared.run.Run.{Run}
use Rattle.numa_placed.specs.Moves.{moved_node}
use Rattle.numa_placed.proofs.MovedNodes.{outside}
use Rattle.numa_placed.proofs.Shared.{count-le}
use Rattle.numa_placed.proofs.Sources.{sum-same}
use Rattle.numa_placed.proofs.Tallied.{leave-same}
use Rattle.numa_huge.specs.Huge.{HugePlaced, huge_at, most_pages, on_node, places_of}
use Rattle.numa_huge.specs.Kept.{AreLeaving}
use Rattle.numa_huge.specs.Moves.{count_on, following, gone_spot, leave_from, leaving}
use Rattle.numa_huge.specs.Moves.{told_following}
use Rattle.numa_huge.specs.Tallies.{HasTold}
use Rattle.numa_huge.specs.declared.last.HugeLast.TheVariants.{Nodes}
use Rattle.numa_huge.specs.declared.spot.HugeSpot.{HugeSpot}
use Rattle.numa_huge.proofs.Keeping.{keeps-shown, lying-is, pooled-same}
use Rattle.numa_huge.proofs.Own.{own-node}
use Rattle.numa_huge.proofs.Passing.{used-of}
use Rattle.numa_huge.proofs.places.HugePlaces.follow.Goals as goal

pub all_departures-told-requires : goal.all_departures-told-requires
all_departures-told-requires c node small =
    omega (
      arith,
      c.counts_of-counts.ensures.on node small,
      count-le (λ page. on_node node (huge_at c.self.inside.map.runs page)) 0 most_pages,
    )

pub leave-requires : goal.leave-requires
leave-requires c node small =
    omega (
      arith,
      c.counts_of-counts.ensures.on node small,
      used-of c.self.invariant.0 c.self.inside.pools (huge_at c.self.inside.map.runs) node
          c.self.invariant.1.pooled small,
    )

pub invariant_of-self : goal.invariant_of-self
invariant_of-self c =
    let runs : List (Run HugeSpot) = c.self.inside.map.runs in
    let spots : ℕ → Option HugeSpot = huge_at runs in
    let old : ℕ = c.args.old.now in
    let go : ℕ → ℕ = moved_node old c.args.new.now in
    let leave : AreLeaving c.self.invariant.0 old go c.counts_of-counts.result.on
    c.self.inside.pools spots = record {
      pooled = c.self.invariant.1.pooled;
      on = c.counts_of-counts.ensures.on;
      nodes = λ page node is. own-node runs page node c.self.invariant.1.own is;
      stay = λ node small out. outside old c.args.new.now node out;
    } in (
      c.self.invariant.0,
      record {
        own = c.send.ensures.own c.self.invariant.1.own;
        pooled = pooled-same c.self.invariant.0 c.leave.new.pools
            (λ page. gone_spot go (spots page)) (huge_at c.send.new.map.runs)
            (c.send.ensures.spots go c.all_departures-told.ensures.to)
            (c.leave.ensures.pooled c.self.invariant.0 go spots c.all_departures-told.ensures.to
            leave);
      },
      c.send.ensures.max_ranges ∙ c.self.invariant.2,
    )

pub returns-clause-pages : goal.returns-clause-pages
returns-clause-pages c =
    let old : ℕ = c.args.old.now in
    let new : ℕ = c.args.new.now in
    let go : ℕ → ℕ = moved_node old new in
    let spots : ℕ → Option HugeSpot = huge_at c.self.inside.map.runs in
    let pools : c.leave.new.pools ≡ leaving 256 go (count_on spots) (has old) c.self.inside.pools =
    c.leave.ensures.pools go (count_on spots) c.all_departures-told.ensures.to
    c.counts_of-counts.ensures.on in
    lying-is c.leave.new.pools (leaving 256 go (count_on spots) (has old) c.self.inside.pools)
    (huge_at c.send.new.map.runs) (λ page. gone_spot go (spots page)) pools
    (c.send.ensures.spots go c.all_departures-told.ensures.to)
    ∙ ap (λ (h : HugePlaced). following old new (places_of h)) c.self.view_is

pub returns-clause-told : goal.returns-clause-told
returns-clause-told c =
    let old : ℕ = c.args.old.now in
    let new : ℕ = c.args.new.now in
    let go : ℕ → ℕ = moved_node old new in
    let spots : ℕ → Option HugeSpot = huge_at c.self.inside.map.runs in
    let told = c.all_departures-told.result in
    let from : (node : ℕ) → node < 256
    → slice_index told.from node ≡ leave_from old new spots node =
    λ node small. c.all_departures-told.ensures.from node small
    ∙ leave-same (slice_index told.to) go (slice_index c.counts_of-counts.result.on)
    (count_on spots) node (c.all_departures-told.ensures.to node small)
    (c.counts_of-counts.ensures.on node small) in
    subst (λ (h : HugePlaced). HasTold (Nodes told) (told_following old new (huge_at h.runs)))
    c.self.view_is (record {
      moved = c.all_departures-told.ensures.moved
          ∙ sum-same 256 (slice_index told.from) (leave_from old new spots) from;
      left = c.all_departures-told.ensures.left;
      flow = λ one other small near i.
          if c.all_departures-told.ensures.to one small i == other then from one small i else 0;
    })

pub returns-clause-keeps : goal.returns-clause-keeps
returns-clause-keeps c =
    let runs : List (Run HugeSpot) = c.self.inside.map.runs in
    let spots : ℕ → Option HugeSpot = huge_at runs in
    let old : ℕ = c.args.old.now in
    let go : ℕ → ℕ = moved_node old c.args.new.now in
    keeps-shown (record { pools = c.self.inside.pools; runs = runs }) c.args.self.now
    (record { pools = c.leave.new.pools; runs = c.send.new.map.runs }) c.self.view_is
    (λ others pooled. pooled-same others c.leave.new.pools (λ page. gone_spot go (spots page))
    (huge_at c.send.new.map.runs) (c.send.ensures.spots go c.all_departures-told.ensures.to)
    (c.leave.ensures.pooled others go spots c.all_departures-told.ensures.to (record {
      pooled = pooled;
      on = c.counts_of-counts.ensures.on;
      nodes = λ page node is. own-node runs page node c.self.invariant.1.own is;
      stay = λ node small out. outside old c.args.new.now node out;
    })))

pub returns-clause-from : goal.returns-clause-from
returns-clause-from c =
    let old : ℕ = c.args.old.now in
    let new : ℕ = c.args.new.now in
    let spots : ℕ → Option HugeSpot = huge_at c.self.inside.map.runs in
    let told = c.all_departures-told.result in
    subst (λ (h : HugePlaced). (node : ℕ) → node < 256
    → slice_index told.from node ≡ leave_from old new (huge_at h.runs) node) c.self.view_is
    (λ node small. c.all_departures-told.ensures.from node small
    ∙ leave-same (slice_index told.to) (moved_node old new)
    (slice_index c.counts_of-counts.result.on) (count_on spots) node
    (c.all_departures-told.ensures.to node small) (c.counts_of-counts.ensures.on node small))
