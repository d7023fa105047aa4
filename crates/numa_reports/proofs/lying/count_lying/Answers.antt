use Rattle.std.proofs.Common.{ℕ, ◌-◌, arith, get_or, refl}
use Rattle.std.proofs.lemmas.Simd.{get_or-replicate}
use Rattle.numa_plan.specs.Meaning.{is_number}
use Rattle.numa_placed.proofs.Shared.{count-le}
use Rattle.numa_reports.specs.Lying.{planned_node, spots_in}
use Rattle.numa_reports.proofs.There.{counted-more, counted-none}
use Rattle.numa_reports.proofs.lying.count_lying.Goals as goal

pub loop-left-init : goal.loop-left-init
loop-left-init c = record {
  few = omega arith;
  counts = λ node small. omega (
    arith,
    get_or-replicate {A = ℕ} 256 node 0 0 small,
    counted-none c.args.asked.plan.now (spots_in c.args.asked.placed) c.args.asked.touch.task
        c.args.asked.touch.cpu
        node c.args.first c.args.pages,
  );
  long = refl;
}

pub add_alike-requires : goal.add_alike-requires
add_alike-requires c = record {
  room = λ node small. omega (
    arith,
    c.loop-left.invariant.counts node small,
    count-le (λ page. is_number node (planned_node c.args.asked.plan.now (spots_in
        c.args.asked.placed)
        c.args.asked.touch.task c.args.asked.touch.cpu page)) c.args.first (c.args.pages -
        c.loop-left.left),
    c.alike_from-alike.ensures.few,
    c.loop-left.invariant.few,
    c.requires,
  );
}

pub loop-left-preserved : goal.loop-left-preserved
loop-left-preserved c = record {
  few = omega (arith, c.loop-left.invariant.few);
  counts = λ node small. counted-more c.args.asked.plan.now (spots_in c.args.asked.placed)
      c.args.asked.touch.task c.args.asked.touch.cpu node c.args.first c.args.pages c.loop-left.left
      c.alike_from-alike.result.pages (get_or c.loop-left.counts node 0)
      (get_or c.add_alike.new.counts node 0) c.alike_from-alike.result.node
      c.loop-left.invariant.few c.alike_from-alike.ensures.few c.alike_from-alike.ensures.same
      (c.loop-left.invariant.counts node small) (c.in_default.ensures.counts node small);
  long = c.type_inv.counts;
}
