use Rattle.std.proofs.Common.{◌≡◌, ◌<◌, ◌^◌, ◌+◌, ℕ, sym, subst, ◌∙◌, refl, get_or, length, arith}
use Rattle.std.proofs.Common.{replicate, rules, set, length-set}
use Rattle.std.proofs.lemmas.Simd.{get_or-replicate}
use Rattle.numa_maps.proofs.Placed.{CountsTo, counts-start, counts-room, counts-next, counts-end}
use Rattle.numa_maps.specs.Listing.{placed_in}
use Rattle.numa_maps.specs.Residents.{Kept}
use Rattle.numa_maps.proofs.resident.Resident.pages_by_node.Goals as goal

pub loop-placement-init : goal.loop-placement-init
loop-placement-init c =
    let all : c.into_iter-placement-iterator.result ≡ placed_in c.args.self.now c.args.range.now =
    c.into_iter-placement-iterator.ensures.into_iter_gives
    ∙ c.placed_in-placement-items.ensures.placed in
    record {
      counts =
          subst (λ (left : Kept). CountsTo (replicate 256 0) left
          (placed_in c.args.self.now c.args.range.now)) (sym all)
          (counts-start (replicate 256 0) (placed_in c.args.self.now c.args.range.now)
          (λ node small. get_or-replicate 256 node 0 0 small));
      long = refl;
      few = subst (λ (kept : Kept). length kept < 2 ^ 63) c.placed_in-placement-items.ensures.placed
          c.placed_in-placement-items.ensures.few;
    }

pub overflow_add-pages : goal.overflow_add-pages
overflow_add-pages c =
    let all : Kept = placed_in c.args.self.now c.args.range.now in
    let counts = subst (λ (left : Kept). CountsTo c.loop-placement.pages left all)
    c.in-Some.ensures.steps c.loop-placement.invariant.counts in
    let small : c.in-Some.placement.now.node < 256 = search rules in
    let room = counts-room c.loop-placement.pages (c.in-Some.field-0-0.now, c.in-Some.placement.now)
    c.next.new.self all counts small c.loop-placement.invariant.few in
    omega (
      arith,
      subst (λ (node : ℕ). get_or c.loop-placement.pages node 0 + 1 < 2 ^ 64)
          (sym c.from.ensures) room,
    )

pub loop-placement-preserved : goal.loop-placement-preserved
loop-placement-preserved c =
    let all : Kept = placed_in c.args.self.now c.args.range.now in
    let counts = subst (λ (left : Kept). CountsTo c.loop-placement.pages left all)
    c.in-Some.ensures.steps c.loop-placement.invariant.counts in
    let small : c.in-Some.placement.now.node < length c.loop-placement.pages =
    search (rules, c.loop-placement.invariant.long) in
    let next = counts-next c.loop-placement.pages (c.in-Some.field-0-0.now, c.in-Some.placement.now)
    c.next.new.self all counts small in
    record {
      counts =
          subst (λ (node : ℕ).
          CountsTo (set c.loop-placement.pages node (get_or c.loop-placement.pages node 0 + 1))
          c.next.new.self all) (sym c.from.ensures) next;
      long = length-set _ _ _ ∙ c.loop-placement.invariant.long;
      few = c.loop-placement.invariant.few;
    }

pub returns : goal.returns
returns c = counts-end c.loop-placement.pages c.loop-placement.placement-iterator
    (placed_in c.args.self.now c.args.range.now) c.loop-placement.invariant.counts
    c.in-None.ensures.steps.0
