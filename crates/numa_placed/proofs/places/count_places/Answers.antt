use Rattle.std.proofs.Common.{◌≡◌, ℕ, ◌+◌, ◌-◌, ◌≤◌, ◌∙◌, Bool, List, ap, sym, subst, arith}
use Rattle.std.proofs.Common.{refl}
use Rattle.std.proofs.lemmas.Simd.{get_or-replicate}
use Rattle.numa_ranges.specs.Runs.{page_at}
use Rattle.numa_ranges.proofs.Counted.{count-agree}
use Rattle.numa_placed.specs.Spots.{is_off, is_on}
use Rattle.numa_placed.specs.Turns.{HasOwn, kept_spot, part_where, spots_of}
use Rattle.numa_placed.specs.declared.spot.Spot.{Spot}
use Rattle.numa_placed.proofs.Owned.{AllOwn, left-behind, left-none, left-step, left_where, own-all}
use Rattle.numa_placed.proofs.Owned.{says-kept}
use Rattle.numa_placed.proofs.Shared.{count-le}
use Rattle.numa_placed.proofs.Stating.{AreLeft, left-fits, left-next}
use Rattle.numa_placed.proofs.places.count_places.Goals as goal

pub loop-run-init : goal.loop-run-init
loop-run-init c =
    let nodes = c.args.places.now.nodes.items in
    let runs = c.args.places.now.map.runs in
    let part = c.iter_from-run-items.result in
    let all : c.into_iter-run-iterator.result ≡ part =
    c.into_iter-run-iterator.ensures.into_iter_gives in
    record {
      counts = λ node small. omega (
        arith,
        get_or-replicate {A = ℕ} 256 node 0 0 small,
        ap (λ left. left_where (is_on node) nodes left c.args.first c.args.pages) all,
        count-agree (λ page. is_on node (kept_spot nodes (page_at part page)))
            (λ page. is_on node (spots_of c.args.places.now page)) c.args.first c.args.pages
            (λ page low. ap (λ p. is_on node (kept_spot nodes p))
            (c.iter_from-run-items.ensures.pages page low)),
      );
      off = ap (λ left. left_where is_off nodes left c.args.first c.args.pages) all
          ∙ count-agree (λ page. is_off (kept_spot nodes (page_at part page)))
          (λ page. is_off (spots_of c.args.places.now page)) c.args.first c.args.pages
          (λ page low. ap (λ p. is_off (kept_spot nodes p))
          (c.iter_from-run-items.ensures.pages page low));
      own = subst (AllOwn nodes c.args.first) (sym all) (own-all nodes c.args.first 0 part
          c.iter_from-run-items.ensures.rising (says-kept nodes c.args.first runs part
          c.requires.kept.whole c.requires.kept.named c.iter_from-run-items.ensures.rising
          c.iter_from-run-items.ensures.pages));
      left = subst AreLeft (sym all)
          (record { low = 0; apart = c.iter_from-run-items.ensures.rising });
    }

pub loop-run-preserved : goal.loop-run-preserved
loop-run-preserved c =
    let nodes = c.args.places.now.nodes.items in
    let same : c.deref.result.now ≡ nodes = c.deref.ensures.value in
    let size : c.args.first + c.args.pages - c.args.first ≡ c.args.pages = omega arith in
    let part : (test : Spot → Bool) → part_where test c.deref.result.now c.in-Some.run'
    c.args.first (c.args.first + c.args.pages - c.args.first)
    ≡ part_where test nodes c.in-Some.run' c.args.first c.args.pages =
    λ test. λ i. part_where test (same i) c.in-Some.run' c.args.first (size i) in
    record {
      counts = λ node small. omega (
        arith,
        part (is_on node),
        c.add_shared.ensures.counts node small,
        c.loop-run.invariant.counts node small,
        left-step (is_on node) refl nodes c.args.first c.args.pages c.loop-run.run-iterator
            c.next.new.self c.in-Some.run' c.loop-run.invariant.left c.loop-run.invariant.own
            c.in-Some.ensures.steps,
      );
      off = omega (
        arith,
        part is_off,
        c.add_shared.ensures.off,
        c.loop-run.invariant.off,
        left-step is_off refl nodes c.args.first c.args.pages c.loop-run.run-iterator
            c.next.new.self c.in-Some.run' c.loop-run.invariant.left c.loop-run.invariant.own
            c.in-Some.ensures.steps,
      );
      own = (subst (AllOwn nodes c.args.first) c.in-Some.ensures.steps
          c.loop-run.invariant.own).1;
      left = left-next c.loop-run.run-iterator c.next.new.self c.in-Some.run'
          c.loop-run.invariant.left c.in-Some.ensures.steps;
    }

pub add_shared-requires-clause-run : goal.add_shared-requires-clause-run
add_shared-requires-clause-run c =
    left-fits c.loop-run.run-iterator c.next.new.self c.in-Some.run' c.loop-run.invariant.left
    c.in-Some.ensures.steps

pub add_shared-requires-clause-own : goal.add_shared-requires-clause-own
add_shared-requires-clause-own c =
    subst (λ (nodes : List ℕ). HasOwn nodes c.args.first c.in-Some.run') (sym c.deref.ensures.value)
    (subst (AllOwn c.args.places.now.nodes.items c.args.first) c.in-Some.ensures.steps
    c.loop-run.invariant.own).0

pub add_shared-requires-clause-room : goal.add_shared-requires-clause-room
add_shared-requires-clause-room c node small =
    omega (
      arith,
      c.loop-run.invariant.counts node small,
      count-le (λ page. is_on node (spots_of c.args.places.now page)) c.args.first c.args.pages,
      c.requires.within,
    )

pub returns-then-run-end-clause-counts : goal.returns-then-run-end-clause-counts
returns-then-run-end-clause-counts c node small =
    let over : c.args.first + c.args.pages ≤ c.in-Some.run'.first = omega arith in
    omega (
      arith,
      c.loop-run.invariant.counts node small,
      left-behind (is_on node) refl c.args.places.now.nodes.items c.args.first c.args.pages
          c.loop-run.run-iterator c.next.new.self c.in-Some.run' c.loop-run.invariant.left
          c.in-Some.ensures.steps over,
    )

pub returns-then-run-end-clause-off : goal.returns-then-run-end-clause-off
returns-then-run-end-clause-off c =
    let over : c.args.first + c.args.pages ≤ c.in-Some.run'.first = omega arith in
    omega (
      arith,
      c.loop-run.invariant.off,
      left-behind is_off refl c.args.places.now.nodes.items c.args.first c.args.pages
          c.loop-run.run-iterator c.next.new.self c.in-Some.run' c.loop-run.invariant.left
          c.in-Some.ensures.steps over,
    )

pub returns-clause-counts : goal.returns-clause-counts
returns-clause-counts c node small =
    let nodes = c.args.places.now.nodes.items in
    omega (
      arith,
      c.loop-run.invariant.counts node small,
      ap (λ left. left_where (is_on node) nodes left c.args.first c.args.pages)
          c.in-None.ensures.steps.0,
      left-none (is_on node) refl nodes c.args.first c.args.pages,
    )

pub returns-clause-off : goal.returns-clause-off
returns-clause-off c =
    let nodes = c.args.places.now.nodes.items in
    omega (
      arith,
      c.loop-run.invariant.off,
      ap (λ left. left_where is_off nodes left c.args.first c.args.pages)
          c.in-None.ensures.steps.0,
      left-none is_off refl nodes c.args.first c.args.pages,
    )
