use Rattle.std.proofs.Common.{◌≡◌, ℕ, ◌∙◌, ◌^◌, ap, arith, get_or}
use Rattle.std.proofs.lemmas.Simd.{get_or-replicate}
use Rattle.numa_ranges.specs.Counts.{count_pages}
use Rattle.numa_ranges.proofs.Counted.{count-none}
use Rattle.numa_placed.specs.Spots.{spot_at}
use Rattle.numa_page_state.specs.Sending.{has_gone}
use Rattle.numa_page_state.proofs.Flows.{went-on}
use Rattle.numa_page_state.proofs.between.flow_to_others.Goals as goal

pub loop-page-init : goal.loop-page-init
loop-page-init c = record {
  near = omega arith;
  few = λ to small. omega (arith, get_or-replicate {A = ℕ} 256 to 0 0 small);
  counts = λ to small apart. omega (
    arith,
    get_or-replicate {A = ℕ} 256 to 0 0 small,
    count-none (has_gone (spot_at c.args.before.now) (spot_at c.args.after.now) c.args.from to) 0 0
        (λ page low high. absurd (omega (arith, low, high))),
  );
}

pub loop-page-preserved : goal.loop-page-preserved
loop-page-preserved c = record {
  near = c.add_some-next.ensures.within;
  few = c.add_some-next.ensures.few;
  counts = λ to small apart. went-on (spot_at c.args.before.now) (spot_at c.args.after.now)
      c.args.from to c.loop-page.page c.add_some-next.result (get_or c.loop-page.flow to 0)
      (get_or c.add_some-next.new.flow to 0) (omega (arith, c.add_some-next.ensures.rises))
      (c.loop-page.invariant.counts to small apart)
      (c.add_some-next.ensures.flow to small apart);
}

pub returns : goal.returns
returns c to small apart =
    let all : c.loop-page.page ≡ 2 ^ 35 =
    omega (arith, c.loop-page.invariant.near, c.loop-page-test.false) in
    c.loop-page.invariant.counts to small apart
    ∙ ap (count_pages (has_gone (spot_at c.args.before.now) (spot_at c.args.after.now) c.args.from
    to) 0) all
