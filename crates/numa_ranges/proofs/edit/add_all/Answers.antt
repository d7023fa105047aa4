-- One more run is added.
use Rattle.std.proofs.Common.{◌≡◌, List, ◌∷◌, ◌++◌, [], take, drop, sym, ap, subst, ◌∙◌}
use Rattle.std.proofs.Common.{append_assoc, length, arith}
use Rattle.std.proofs.lemmas.List.{length-drop}
use Rattle.numa_ranges.specs.declared.run.Run.{Run}
use Rattle.numa_ranges.specs.Edits.{IsInRange}
use Rattle.numa_ranges.specs.Gathered.{Gathered}
use Rattle.numa_ranges.proofs.Walked.{step-left, step-taken, step-all}
use Rattle.numa_ranges.proofs.edit.add_all.Goals as goal

pub unreachable-requires : goal.unreachable-requires
unreachable-requires g c =
    omega (
      arith,
      ap length c.loop-k.invariant.rest,
      ap length c.in_default.ensures.steps.0,
      length-drop c.loop-k.k c.args.rest.now,
      c.requires.within,
      c.loop-k-test.true,
    )

pub add-requires-clause-in_range : goal.add-requires-clause-in_range
add-requires-clause-in_range g c =
    step-all IsInRange c.args.rest.now c.loop-k.rest c.next.new.self c.loop-k.k c.args.count
    c.in-Some.run' c.loop-k.invariant.rest c.in-Some.ensures.steps c.loop-k-test.true
    c.requires.in_range

pub loop-k-preserved : goal.loop-k-preserved
loop-k-preserved g c =
    let more = step-taken c.args.rest.now c.loop-k.rest c.next.new.self c.loop-k.k c.in-Some.run'
    c.loop-k.invariant.rest c.in-Some.ensures.steps in
    record {
      rest = step-left c.args.rest.now c.loop-k.rest c.next.new.self c.loop-k.k c.in-Some.run'
          c.loop-k.invariant.rest c.in-Some.ensures.steps;
      gathered = λ added h.
          subst (λ (l : List (Run g.row.T.Denot)). Gathered g.T.PartialEq.eq c.add.new.self l)
          (append_assoc added (take c.loop-k.k c.args.rest.now) (c.in-Some.run' ∷ [])
          ∙ ap (λ l. added ++ l) (sym more))
          (c.add.ensures.gathered _ (c.loop-k.invariant.gathered added h));
      count = omega (arith, c.add.ensures.count, c.loop-k.invariant.count);
    }

pub add-requires-clause-room : goal.add-requires-clause-room
add-requires-clause-room g c =
    omega (arith, c.loop-k.invariant.count, c.requires.room, c.requires.len, c.loop-k-test.true)

pub returns-clause-gathered : goal.returns-clause-gathered
returns-clause-gathered g c added h =
    let all : c.loop-k.k ≡ c.args.count = omega arith in
    subst (λ n. Gathered g.T.PartialEq.eq c.loop-k.pieces (added ++ take n c.args.rest.now)) all
    (c.loop-k.invariant.gathered added h)

pub returns-clause-rest : goal.returns-clause-rest
returns-clause-rest g c =
    let all : c.loop-k.k ≡ c.args.count = omega arith in
    subst (λ n. c.loop-k.rest ≡ drop n c.args.rest.now) all c.loop-k.invariant.rest

pub returns-clause-count : goal.returns-clause-count
returns-clause-count g c = omega (arith, c.loop-k.invariant.count)
