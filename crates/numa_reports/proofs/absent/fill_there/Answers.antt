use Rattle.std.proofs.Common.{◌≡◌, ℕ, ◌+◌, ◌-◌, arith, ap, sym, ◌∙◌, inl, refl}
use Rattle.numa_reports.specs.Filled.{free_behind}
use Rattle.numa_reports.specs.Lying.{absent_nodes, asked_nodes, spots_in}
use Rattle.numa_reports.proofs.Beside.{alike-free}
use Rattle.numa_reports.proofs.Repeating.{free-join, repeats-part}
use Rattle.numa_reports.proofs.Taking.{free-start}
use Rattle.numa_reports.proofs.absent.fill_there.Goals as goal

pub loop-left-init : goal.loop-left-init
loop-left-init c =
    let nodes = absent_nodes (spots_in c.args.asked.placed) (asked_nodes c.args.asked) in
    let start : c.args.first + (c.args.pages - c.args.pages) ≡ c.args.first = omega arith in
    record {
      few = omega arith;
      same = λ repeats. ap (λ (p : ℕ). free_behind nodes c.args.free.now p c.args.pages) start;
    }

pub loop-left-preserved : goal.loop-left-preserved
loop-left-preserved c =
    let own = asked_nodes c.args.asked in
    let nodes = absent_nodes (spots_in c.args.asked.placed) own in
    let alike = c.alike_from-alike.result in
    let done = c.in_ok-left.field-0 in
    let page = c.args.first + (c.args.pages - c.loop-left.left) in
    record {
      few = omega (arith, c.loop-left.invariant.few);
      same = λ repeats.
          let took = c.in_ok-left.ensures.free (repeats-part own c.args.first c.args.pages
          c.args.period page alike.pages c.args.period (omega arith)
          (omega (arith, c.loop-left.invariant.few, c.alike_from-alike.ensures.few)) (inl refl)
          repeats)
          ∙ alike-free (spots_in c.args.asked.placed) own c.loop-left.free page done alike.node
          (λ other low high. c.alike_from-alike.ensures.same other low
          (omega (arith, high, c.in_ok-left.ensures.few))) in
          free-join nodes c.loop-left.free c.fill_alike.new.free page
          (c.args.first + (c.args.pages - (c.loop-left.left - done))) done c.loop-left.left
          (c.loop-left.left - done) took
          (omega (arith, c.alike_from-alike.ensures.few, c.in_ok-left.ensures.few))
          (omega (
            arith,
            c.alike_from-alike.ensures.few,
            c.in_ok-left.ensures.few,
            c.loop-left.invariant.few,
          ))
          ∙ c.loop-left.invariant.same repeats;
    }

pub returns-clause-free : goal.returns-clause-free
returns-clause-free c repeats =
    let nodes = absent_nodes (spots_in c.args.asked.placed) (asked_nodes c.args.asked) in
    let none : c.loop-left.left ≡ 0 = omega (arith, c.loop-left-test.false) in
    sym (free-start nodes c.loop-left.free (c.args.first + (c.args.pages - c.loop-left.left)))
    ∙ sym
    (ap (λ (k : ℕ). free_behind nodes c.loop-left.free
    (c.args.first + (c.args.pages - c.loop-left.left)) k) none)
    ∙ c.loop-left.invariant.same repeats
