use Rattle.std.proofs.Common.{◌≡◌, ℕ, Bool, ◌^◌, ◌∙◌, arith, subst, sym}
use Rattle.numa_ranges.specs.Runs.{AreApart, end_of}
use Rattle.numa_ranges.proofs.Apart.{apart-top}
use Rattle.numa_placed.specs.Spots.{is_on}
use Rattle.numa_placed.specs.Turns.{spots_of}
use Rattle.numa_placed.proofs.Halving.{count-up, exact-cut}
use Rattle.numa_placed.proofs.Shared.{count-le}
use Rattle.numa_placed.proofs.cut.cut_of.Goals as goal

pub loop-run-init : goal.loop-run-init
loop-run-init c =
    let all : c.into_iter-run-iterator.result ≡ c.args.places.now.map.runs =
    c.into_iter-run-iterator.ensures.into_iter_gives ∙ c.iter-run-items.ensures.runs in
    let none = count-le (λ page. is_on c.args.node (spots_of c.args.places.now page)) 0 0 in
    record {
      within = omega arith;
      apart = subst (AreApart 0) (sym all) c.iter-run-items.ensures.rising;
      below = omega (arith, none);
    }

pub loop-run-preserved : goal.loop-run-preserved
loop-run-preserved c =
    let inv = c.loop-run.invariant in
    let run = c.in-Some.run' in
    let apart = subst (AreApart c.loop-run.low) c.in-Some.ensures.steps inv.apart in
    let on : ℕ → Bool = λ page. is_on c.args.node (spots_of c.args.places.now page) in
    let seam = count-up on c.loop-run.low (end_of run) (omega (arith, apart.0)) in
    record {
      within = apart-top (end_of run) c.next.new.self apart.3;
      apart = apart.3;
      below = omega (arith, inv.below, seam, c.count_on-here.ensures, c.if-left-here.false);
    }

pub overflow_add-end : goal.overflow_add-end
overflow_add-end c =
    let apart =
    subst (AreApart c.loop-run.low) c.in-Some.ensures.steps c.loop-run.invariant.apart in
    omega (arith, apart-top (end_of c.in-Some.run') c.next.new.self apart.3)

pub count_on-here-requires-clause-within : goal.count_on-here-requires-clause-within
count_on-here-requires-clause-within c =
    let apart =
    subst (AreApart c.loop-run.low) c.in-Some.ensures.steps c.loop-run.invariant.apart in
    omega (arith, apart.0, apart-top (end_of c.in-Some.run') c.next.new.self apart.3)

pub halved_cut-requires-clause-within : goal.halved_cut-requires-clause-within
halved_cut-requires-clause-within c =
    let apart =
    subst (AreApart c.loop-run.low) c.in-Some.ensures.steps c.loop-run.invariant.apart in
    omega (arith, apart-top (end_of c.in-Some.run') c.next.new.self apart.3)

pub returns-then-left-here-clause-end : goal.returns-then-left-here-clause-end
returns-then-left-here-clause-end c =
    let apart =
    subst (AreApart c.loop-run.low) c.in-Some.ensures.steps c.loop-run.invariant.apart in
    omega (
      arith,
      c.halved_cut.ensures.high,
      apart-top (end_of c.in-Some.run') c.next.new.self apart.3,
    )

pub returns-then-left-here-clause-cut : goal.returns-then-left-here-clause-cut
returns-then-left-here-clause-cut c =
    let on : ℕ → Bool = λ page. is_on c.args.node (spots_of c.args.places.now page) in
    let seam = count-up on c.loop-run.low c.halved_cut.result c.halved_cut.ensures.low in
    exact-cut (spots_of c.args.places.now) c.args.node c.args.pages c.halved_cut.result
    (omega (arith, seam, c.loop-run.invariant.below, c.halved_cut.ensures.cut))

pub halved_cut-requires-2-clause-few : goal.halved_cut-requires-2-clause-few
halved_cut-requires-2-clause-few c =
    let on : ℕ → Bool = λ page. is_on c.args.node (spots_of c.args.places.now page) in
    let all = count-up on c.loop-run.low (2 ^ 35) c.loop-run.invariant.within in
    omega (arith, all, c.requires.few, c.loop-run.invariant.below)

pub returns-clause-cut : goal.returns-clause-cut
returns-clause-cut c =
    let on : ℕ → Bool = λ page. is_on c.args.node (spots_of c.args.places.now page) in
    let seam = count-up on c.loop-run.low c.halved_cut-2.result c.halved_cut-2.ensures.low in
    exact-cut (spots_of c.args.places.now) c.args.node c.args.pages c.halved_cut-2.result
    (omega (arith, seam, c.loop-run.invariant.below, c.halved_cut-2.ensures.cut))
