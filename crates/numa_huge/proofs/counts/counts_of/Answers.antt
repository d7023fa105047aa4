use Rattle.std.proofs.Common.{◌≡◌, ℕ, ◌+◌, ◌-◌, ◌≤◌, Bool, Option, ap, sym, subst, arith, refl}
use Rattle.std.proofs.lemmas.Simd.{get_or-replicate}
use Rattle.numa_ranges.proofs.Counted.{count-agree}
use Rattle.numa_placed.proofs.Shared.{count-le}
use Rattle.numa_placed.proofs.Stating.{AreLeft, left-fits, left-next}
use Rattle.numa_huge.specs.Huge.{has_reserved, huge_at, on_node, spot_in}
use Rattle.numa_huge.specs.Shared.{part_where}
use Rattle.numa_huge.specs.declared.spot.HugeSpot.{HugeSpot}
use Rattle.numa_huge.proofs.Left.{left-behind, left-none, left-step, left_where}
use Rattle.numa_huge.proofs.counts.counts_of.Goals as goal

pub loop-run-init : goal.loop-run-init
loop-run-init c =
    let runs = c.args.map.now.runs in
    let part = c.iter_from-run-items.result in
    let all : c.into_iter-run-iterator.result ≡ part =
    c.into_iter-run-iterator.ensures.into_iter_gives in
    record {
      on = λ node small. omega (
        arith,
        get_or-replicate {A = ℕ} 256 node 0 0 small,
        ap (λ left. left_where (on_node node) left c.args.first c.args.pages) all,
        count-agree (λ page. on_node node (huge_at part page))
            (λ page. on_node node (huge_at runs page)) c.args.first c.args.pages
            (λ page low. ap (λ p. on_node node (spot_in p))
            (c.iter_from-run-items.ensures.pages page low)),
      );
      reserved = omega (
        arith,
        ap (λ left. left_where has_reserved left c.args.first c.args.pages) all,
        count-agree (λ page. has_reserved (huge_at part page))
            (λ page. has_reserved (huge_at runs page)) c.args.first c.args.pages
            (λ page low. ap (λ p. has_reserved (spot_in p))
            (c.iter_from-run-items.ensures.pages page low)),
      );
      left = subst AreLeft (sym all)
          (record { low = 0; apart = c.iter_from-run-items.ensures.rising });
    }

pub loop-run-preserved : goal.loop-run-preserved
loop-run-preserved c =
    let size : c.args.first + c.args.pages - c.args.first ≡ c.args.pages = omega arith in
    let part : (test : Option HugeSpot → Bool) → part_where test c.in-Some.run' c.args.first
    (c.args.first + c.args.pages - c.args.first)
    ≡ part_where test c.in-Some.run' c.args.first c.args.pages =
    λ test i. part_where test c.in-Some.run' c.args.first (size i) in
    record {
      on = λ node small. omega (
        arith,
        part (on_node node),
        c.add_shared.ensures.on node small,
        c.loop-run.invariant.on node small,
        left-step (on_node node) refl c.args.first c.args.pages c.loop-run.run-iterator
            c.next.new.self
            c.in-Some.run' c.loop-run.invariant.left c.in-Some.ensures.steps,
      );
      reserved = omega (
        arith,
        part has_reserved,
        c.add_shared.ensures.reserved,
        c.loop-run.invariant.reserved,
        left-step has_reserved refl c.args.first c.args.pages c.loop-run.run-iterator
            c.next.new.self
            c.in-Some.run' c.loop-run.invariant.left c.in-Some.ensures.steps,
      );
      left = left-next c.loop-run.run-iterator c.next.new.self c.in-Some.run'
          c.loop-run.invariant.left c.in-Some.ensures.steps;
    }

pub add_shared-requires-clause-run : goal.add_shared-requires-clause-run
add_shared-requires-clause-run c =
    left-fits c.loop-run.run-iterator c.next.new.self c.in-Some.run' c.loop-run.invariant.left
    c.in-Some.ensures.steps

pub add_shared-requires-clause-room : goal.add_shared-requires-clause-room
add_shared-requires-clause-room c node small =
    omega (
      arith,
      c.loop-run.invariant.on node small,
      count-le (λ page. on_node node (huge_at c.args.map.now.runs page)) c.args.first c.args.pages,
      c.requires.within,
    )

pub add_shared-requires-clause-reserved : goal.add_shared-requires-clause-reserved
add_shared-requires-clause-reserved c =
    omega (
      arith,
      c.loop-run.invariant.reserved,
      count-le (λ page. has_reserved (huge_at c.args.map.now.runs page)) c.args.first c.args.pages,
      c.requires.within,
    )

pub returns-then-run-end : goal.returns-then-run-end
returns-then-run-end c =
    let over : c.args.first + c.args.pages ≤ c.in-Some.run'.first = omega arith in
    record {
      on = λ node small. omega (
        arith,
        c.loop-run.invariant.on node small,
        left-behind (on_node node) refl c.args.first c.args.pages c.loop-run.run-iterator
            c.next.new.self c.in-Some.run' c.loop-run.invariant.left c.in-Some.ensures.steps over,
      );
      reserved = omega (
        arith,
        c.loop-run.invariant.reserved,
        left-behind has_reserved refl c.args.first c.args.pages c.loop-run.run-iterator
            c.next.new.self c.in-Some.run' c.loop-run.invariant.left c.in-Some.ensures.steps over,
      );
    }

pub returns : goal.returns
returns c = record {
  on = λ node small. omega (
    arith,
    c.loop-run.invariant.on node small,
    ap (λ left. left_where (on_node node) left c.args.first c.args.pages)
        c.in-None.ensures.steps.0,
    left-none (on_node node) refl c.args.first c.args.pages,
  );
  reserved = omega (
    arith,
    c.loop-run.invariant.reserved,
    ap (λ left. left_where has_reserved left c.args.first c.args.pages) c.in-None.ensures.steps.0,
    left-none has_reserved refl c.args.first c.args.pages,
  );
}
