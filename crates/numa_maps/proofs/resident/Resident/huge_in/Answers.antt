use Rattle.std.proofs.Common.{◌≡◌, ◌<◌, ◌^◌, ℕ, ap, arith, length, subst, ◌∙◌}
use Rattle.numa_maps.specs.Listing.{lowest_from, placed_in}
use Rattle.numa_maps.specs.Residents.{Kept}
use Rattle.numa_maps.proofs.Lowest.{lowest-few, lowest-length, lowest-none}
use Rattle.numa_maps.proofs.resident.Resident.huge_in.Goals as goal

pub loop-page-init : goal.loop-page-init
loop-page-init c =
    let all : c.into_iter-page-iterator.result ≡ placed_in c.args.self.now c.args.range.now =
    c.into_iter-page-iterator.ensures.into_iter_gives
    ∙ c.placed_in-page-items.ensures.placed in
    record {
      counts = omega (arith, ap (λ (kept : Kept). length (lowest_from 0 kept)) all);
      few = subst (λ (kept : Kept). length kept < 2 ^ 63) c.placed_in-page-items.ensures.placed
          c.placed_in-page-items.ensures.few;
    }

pub overflow_add-count : goal.overflow_add-count
overflow_add-count c = omega (
  arith,
  c.loop-page.invariant.counts,
  c.loop-page.invariant.few,
  c.lowest_part-lowest.ensures.one,
  lowest-few 0 (placed_in c.args.self.now c.args.range.now),
)

pub loop-page-preserved : goal.loop-page-preserved
loop-page-preserved c = record {
  counts = omega (
    arith,
    c.loop-page.invariant.counts,
    ap (λ (kept : Kept). length (lowest_from c.loop-page.next kept)) c.in-Some.ensures.steps,
    lowest-length c.loop-page.next (c.in-Some.page.now, c.in-Some.field-0-1.now) c.next.new.self,
    c.lowest_part-lowest.ensures.lowest,
    ap (λ (n : ℕ). length (lowest_from n c.next.new.self)) c.page_behind-met.ensures,
  );
  few = c.loop-page.invariant.few;
}

pub returns-clause-count : goal.returns-clause-count
returns-clause-count c = omega (
  arith,
  c.loop-page.invariant.counts,
  ap (λ (kept : Kept). length (lowest_from c.loop-page.next kept)) c.in-None.ensures.steps.0,
  ap (λ (kept : Kept). length kept) (lowest-none c.loop-page.next),
)

pub returns-clause-few : goal.returns-clause-few
returns-clause-few c = omega (
  arith,
  c.loop-page.invariant.counts,
  c.loop-page.invariant.few,
  lowest-few 0 (placed_in c.args.self.now c.args.range.now),
)
