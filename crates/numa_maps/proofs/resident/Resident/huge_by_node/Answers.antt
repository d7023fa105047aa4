use Rattle.std.proofs.Common.{◌≡◌, ◌<◌, ◌^◌, ◌+◌, ℕ, sym, subst, ◌∙◌, refl, get_or, length, arith}
use Rattle.std.proofs.Common.{replicate, rules, set, length-set, ap}
use Rattle.std.proofs.lemmas.Simd.{get_or-replicate}
use Rattle.numa_maps.proofs.Lowest.{counts-small, lowest-few, lowest-none, lows-next}
use Rattle.numa_maps.proofs.Placed.{CountsTo, counts-start, counts-end}
use Rattle.numa_requests.specs.declared.placement.Placement.{Placement}
use Rattle.numa_maps.specs.Listing.{lowest_from, placed_in}
use Rattle.numa_maps.specs.Residents.{Kept}
use Rattle.numa_maps.proofs.resident.Resident.huge_by_node.Goals as goal

pub loop-page-init : goal.loop-page-init
loop-page-init c =
    let all : c.into_iter-page-iterator.result ≡ placed_in c.args.self.now c.args.range.now =
    c.into_iter-page-iterator.ensures.into_iter_gives
    ∙ c.placed_in-page-items.ensures.placed in
    record {
      counts =
          subst (λ (left : Kept). CountsTo (replicate 256 0) (lowest_from 0 left)
          (lowest_from 0 (placed_in c.args.self.now c.args.range.now))) (sym all)
          (counts-start (replicate 256 0) (lowest_from 0 (placed_in c.args.self.now
          c.args.range.now)) (λ node small. get_or-replicate 256 node 0 0 small));
      long = refl;
      few = subst (λ (kept : Kept). length kept < 2 ^ 63) c.placed_in-page-items.ensures.placed
          c.placed_in-page-items.ensures.few;
    }

pub overflow_add-pages : goal.overflow_add-pages
overflow_add-pages c =
    let all : Kept = placed_in c.args.self.now c.args.range.now in
    let small : c.in-Some.placement.now.node < 256 = search rules in
    omega (
      arith,
      c.lowest_part-lowest.ensures.one,
      counts-small c.loop-page.pages (lowest_from c.loop-page.next c.loop-page.page-iterator)
          (lowest_from 0 all) c.in-Some.placement.now.node c.loop-page.invariant.counts small
          (omega (arith, lowest-few 0 all, c.loop-page.invariant.few)),
    )

pub loop-page-preserved : goal.loop-page-preserved
loop-page-preserved c =
    let all : Kept = lowest_from 0 (placed_in c.args.self.now c.args.range.now) in
    let at : ℕ × Placement = (c.in-Some.page.now, c.in-Some.placement.now) in
    let counts = subst (λ (left : Kept).
    CountsTo c.loop-page.pages (lowest_from c.loop-page.next left) all) c.in-Some.ensures.steps
    c.loop-page.invariant.counts in
    let small : c.in-Some.placement.now.node < length c.loop-page.pages =
    search (rules, c.loop-page.invariant.long) in
    record {
      counts =
          subst (λ (n : ℕ). CountsTo (set c.loop-page.pages c.in-Some.placement.now.node
          (get_or c.loop-page.pages c.in-Some.placement.now.node 0
          + c.lowest_part-lowest.result)) (lowest_from n c.next.new.self) all)
          (sym c.page_behind-met.ensures)
          (lows-next c.loop-page.pages c.loop-page.next c.lowest_part-lowest.result at
          c.next.new.self all counts small c.lowest_part-lowest.ensures.lowest);
      long = length-set _ _ _ ∙ c.loop-page.invariant.long;
      few = c.loop-page.invariant.few;
    }

pub returns : goal.returns
returns c = counts-end c.loop-page.pages (lowest_from c.loop-page.next c.loop-page.page-iterator)
    (lowest_from 0 (placed_in c.args.self.now c.args.range.now)) c.loop-page.invariant.counts
    (ap (λ (kept : Kept). lowest_from c.loop-page.next kept) c.in-None.ensures.steps.0
    ∙ lowest-none c.loop-page.next)
