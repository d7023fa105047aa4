use Rattle.std.proofs.Common.{◌≡◌, ℕ, ◌∙◌, Bool, List, Option, ap, arith, subst, sym}
use Rattle.std.proofs.Common.{None, Some}
use Rattle.std.specs.Prelude.{IsSomeAnd, is_some}
use Rattle.numa_ranges.specs.Ranges.{Ranges}
use Rattle.numa_pools.specs.Pools.{giver, taken_from, taking}
use Rattle.numa_huge.specs.Huge.{HugePlaced, giver_for, has_reserved, huge_at, node_of, places_of}
use Rattle.numa_huge.specs.Huge.{with_span}
use Rattle.numa_huge.specs.Kept.{AreKept}
use Rattle.numa_huge.specs.Tallies.{IsLackFor}
use Rattle.numa_huge.specs.declared.spot.HugeSpot.{HugeSpot}
use Rattle.numa_huge.specs.declared.spot.HugeSpot.TheVariants.{On}
use Rattle.numa_huge.proofs.Keeping.{keeps-same, keeps-shown, kept-touched, lying-is}
use Rattle.numa_huge.proofs.Own.{own-some}
use Rattle.numa_huge.proofs.places.HugePlaces.fault.Goals as goal

-- the node that gives the page
gives : (inside shown : HugePlaced) (page : ℕ) (nodes : List ℕ) (by : Bool)
    (given : Option ℕ) → inside ≡ shown → by ≡ has_reserved (huge_at shown.runs page)
    → given ≡ giver inside.pools nodes by → given ≡ giver_for (places_of shown) page nodes
gives inside shown page nodes by given is reserved from =
    from ∙ ap (λ (p : HugePlaced). giver p.pools nodes by) is
    ∙ ap (λ (b : Bool). giver shown.pools nodes b) reserved

pub returns-in_default-clause-node : goal.returns-in_default-clause-node
returns-in_default-clause-node c =
    gives (record { pools = c.self.inside.pools; runs = c.self.inside.map.runs })
    c.args.self.now c.args.page c.args.nodes.now c.is_reserved-by_reservation.result None
    c.self.view_is c.is_reserved-by_reservation.ensures
    (sym c.in_default.is ∙ c.giver.ensures.node)

pub put-requires-clause-page : goal.put-requires-clause-page
put-requires-clause-page c =
    own-some c.self.inside.map.runs c.args.page c.self.invariant.1.own
    (ap (λ (p : HugePlaced). is_some (huge_at p.runs c.args.page)) c.self.view_is
    ∙ c.requires.mapped)

pub put-requires-clause-some : goal.put-requires-clause-some
put-requires-clause-some c =
    ap (λ (p : HugePlaced). is_some (huge_at p.runs c.args.page)) c.self.view_is
    ∙ c.requires.mapped

pub put-requires-clause-own : goal.put-requires-clause-own
put-requires-clause-own c = c.self.invariant.1.own

pub put-requires-clause-most : goal.put-requires-clause-most
put-requires-clause-most c = c.self.invariant.2

pub invariant_of-self : goal.invariant_of-self
invariant_of-self c = (
  c.self.invariant.0,
  subst (λ (m : Ranges HugeSpot). AreKept c.self.invariant.0 c.self.inside.pools m.runs)
      (sym c.in-Err.ensures.unchanged) c.self.invariant.1,
  ap (λ (m : Ranges HugeSpot). m.max_ranges) c.in-Err.ensures.unchanged ∙ c.self.invariant.2,
)

pub returns-in-Err-clause-err : goal.returns-in-Err-clause-err
returns-in-Err-clause-err c =
    let given = gives (record { pools = c.self.inside.pools; runs = c.self.inside.map.runs })
    c.args.self.now c.args.page c.args.nodes.now c.is_reserved-by_reservation.result
    (Some c.in-Some.node) c.self.view_is c.is_reserved-by_reservation.ensures
    (sym c.in-Some.is ∙ c.giver.ensures.node) in
    subst (λ (g : Option ℕ). IsSomeAnd g (λ node. IsLackFor (with_span c.args.page 1
    (Some (On node)) (huge_at c.args.self.now.runs)) c.in-Err.why)) given
    (subst (λ (p : HugePlaced). IsLackFor (with_span c.args.page 1 (Some (On c.in-Some.node))
    (huge_at p.runs)) c.in-Err.why) c.self.view_is c.in-Err.ensures.err)

pub returns-in-Err-clause-unchanged : goal.returns-in-Err-clause-unchanged
returns-in-Err-clause-unchanged c =
    ap (λ (m : Ranges HugeSpot). record { pools = c.self.inside.pools; runs = m.runs })
    c.in-Err.ensures.unchanged ∙ c.self.view_is

pub invariant_of-self-2 : goal.invariant_of-self-2
invariant_of-self-2 c =
    let runs = c.self.inside.map.runs in
    let pools = c.self.inside.pools in
    let node = c.in-Some.node in
    let by = c.is_reserved-by_reservation.result in
    let nowhere = ap (λ (p : HugePlaced). node_of (huge_at p.runs c.args.page)) c.self.view_is
    ∙ c.requires.untouched in
    let took : c.take.result ≡ Some node =
    c.take.ensures.node ∙ sym c.giver.ensures.node ∙ c.in-Some.is in
    let reserved = c.is_reserved-by_reservation.ensures
    ∙ sym (ap (λ (p : HugePlaced). has_reserved (huge_at p.runs c.args.page)) c.self.view_is) in (
      c.self.invariant.0,
      kept-touched c.self.invariant.0 pools c.take.new.self runs c.put.new.map.runs c.args.page
          node (own-some runs c.args.page c.self.invariant.1.own
          (ap (λ (p : HugePlaced). is_some (huge_at p.runs c.args.page)) c.self.view_is
          ∙ c.requires.mapped))
          (omega (arith, c.keep.ensures.frees)) nowhere c.in-Some.ensures.free
          c.self.invariant.1 c.in_default-put.ensures.own c.in_default-put.ensures.ok
          (c.take.ensures.pools ∙ ap (λ (g : Option ℕ). taken_from pools g by) took
          ∙ ap (λ (b : Bool). taking pools node b) reserved),
      c.put.ensures.max_ranges ∙ c.self.invariant.2,
    )

pub returns-clause-node : goal.returns-clause-node
returns-clause-node c =
    gives (record { pools = c.self.inside.pools; runs = c.self.inside.map.runs })
    c.args.self.now c.args.page c.args.nodes.now c.is_reserved-by_reservation.result
    (Some c.in-Some.node) c.self.view_is c.is_reserved-by_reservation.ensures
    (sym c.in-Some.is ∙ c.giver.ensures.node)

pub returns-clause-pages : goal.returns-clause-pages
returns-clause-pages c =
    let page = c.args.page in
    let node = c.in-Some.node in
    let by = c.is_reserved-by_reservation.result in
    let took : c.take.result ≡ Some node =
    c.take.ensures.node ∙ sym c.giver.ensures.node ∙ c.in-Some.is in
    lying-is c.take.new.self
    (taking c.args.self.now.pools node (has_reserved (huge_at c.args.self.now.runs page)))
    (huge_at c.put.new.map.runs)
    (with_span page 1 (Some (On node)) (huge_at c.args.self.now.runs))
    (c.take.ensures.pools
    ∙ ap (λ (g : Option ℕ). taken_from c.self.inside.pools g by) took
    ∙ ap (λ (p : HugePlaced). taking p.pools node by) c.self.view_is
    ∙ ap (λ (b : Bool). taking c.args.self.now.pools node b) c.is_reserved-by_reservation.ensures)
    (λ other. c.in_default-put.ensures.ok other
    ∙ ap (λ (p : HugePlaced). with_span page 1 (Some (On node)) (huge_at p.runs) other)
    c.self.view_is)

pub returns-in_default-clause-keeps : goal.returns-in_default-clause-keeps
returns-in_default-clause-keeps c = λ others pooled. pooled

pub returns-in-Err-clause-keeps : goal.returns-in-Err-clause-keeps
returns-in-Err-clause-keeps c = keeps-same c.args.self.now
    (record { pools = c.self.inside.pools; runs = c.put.new.map.runs })
    (ap (λ (m : Ranges HugeSpot). record { pools = c.self.inside.pools; runs = m.runs })
    c.in-Err.ensures.unchanged ∙ c.self.view_is)

pub returns-clause-keeps : goal.returns-clause-keeps
returns-clause-keeps c =
    let runs = c.self.inside.map.runs in
    let pools = c.self.inside.pools in
    let node = c.in-Some.node in
    let by = c.is_reserved-by_reservation.result in
    let nowhere = ap (λ (p : HugePlaced). node_of (huge_at p.runs c.args.page)) c.self.view_is
    ∙ c.requires.untouched in
    let took : c.take.result ≡ Some node =
    c.take.ensures.node ∙ sym c.giver.ensures.node ∙ c.in-Some.is in
    let reserved = c.is_reserved-by_reservation.ensures
    ∙ sym (ap (λ (p : HugePlaced). has_reserved (huge_at p.runs c.args.page)) c.self.view_is) in
    keeps-shown (record { pools = pools; runs = runs }) c.args.self.now
    (record { pools = c.take.new.self; runs = c.put.new.map.runs }) c.self.view_is
    (λ others pooled. (kept-touched others pools c.take.new.self runs c.put.new.map.runs c.args.page
    node (own-some runs c.args.page c.self.invariant.1.own
    (ap (λ (p : HugePlaced). is_some (huge_at p.runs c.args.page)) c.self.view_is
    ∙ c.requires.mapped))
    (omega (arith, c.keep.ensures.frees)) nowhere c.in-Some.ensures.free
    (record { own = c.self.invariant.1.own; pooled = pooled }) c.in_default-put.ensures.own
    c.in_default-put.ensures.ok
    (c.take.ensures.pools ∙ ap (λ (g : Option ℕ). taken_from pools g by) took
    ∙ ap (λ (b : Bool). taking pools node b) reserved)).pooled)
