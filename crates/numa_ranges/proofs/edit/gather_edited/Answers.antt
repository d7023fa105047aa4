-- One more row adds its parts before the span, in it and behind it.
use Rattle.std.proofs.Common.{◌≡◌, ◌++◌, List, length, take, ap, sym, subst, ◌∙◌, append_assoc}
use Rattle.std.proofs.Common.{arith, rules, refl, None, [], ◌≤◌}
use Rattle.std.proofs.lemmas.List.{length-drop}
use Rattle.numa_ranges.specs.declared.run.Run.{Run}
use Rattle.numa_ranges.specs.Edits.{edit_of, part_before, part_within, part_from}
use Rattle.numa_ranges.specs.Gathered.{AreGathered}
use Rattle.numa_ranges.specs.Runs.{end_of}
use Rattle.numa_ranges.specs.Numbered.{runs_of}
use Rattle.numa_ranges.proofs.Walked.{step-left}
use Rattle.numa_ranges.proofs.Window.{edited-more}
use Rattle.numa_ranges.proofs.Rewritten.{kept-before, kept-from, row-has, row-there}
use Rattle.numa_ranges.proofs.Rewritten.{there-placed, there-some}
use Rattle.numa_ranges.proofs.edit.gather_edited.Goals as goal

regroup : {A : Type 0} (w a b c : List A) → w ++ a ++ b ++ c ≡ w ++ (a ++ (b ++ c))
regroup w a b c = simp append_assoc

three : {A : Type 0} (w b : List A) {a c p q : List A} → p ≡ a → q ≡ c
    → w ++ p ++ b ++ q ≡ w ++ a ++ b ++ c
three w b e f = λ i. w ++ e i ++ b ++ f i

pub unreachable-requires : goal.unreachable-requires
unreachable-requires g c =
    omega (
      arith,
      ap length c.loop-k.invariant.rest,
      ap length c.in_default.ensures.steps.0,
      length-drop c.loop-k.k c.args.rest.now,
      c.requires.within,
      c.loop-k-test.true,
    )

pub add_part-requires-clause-placed : goal.add_part-requires-clause-placed
add_part-requires-clause-placed g c =
    there-placed c.args.values.now c.args.rest.now c.loop-k.k c.args.count c.in-Some.seen.now
    (row-there c.args.values.now c.args.rest.now c.loop-k.rest c.next.new.self c.loop-k.k
    c.in-Some.seen.now c.requires.numbered c.loop-k.invariant.rest c.in-Some.ensures.steps)
    c.loop-k-test.true c.requires.in_range

pub add_part-requires-in-loop-k-clause-placed : goal.add_part-requires-in-loop-k-clause-placed
add_part-requires-in-loop-k-clause-placed g c =
    there-placed c.args.values.now c.args.rest.now c.loop-k.k c.args.count c.in-Some.seen.now
    (row-there c.args.values.now c.args.rest.now c.loop-k.rest c.next.new.self c.loop-k.k
    c.in-Some.seen.now c.requires.numbered c.loop-k.invariant.rest c.in-Some.ensures.steps)
    c.loop-k-test.true c.requires.in_range

pub add_part-requires-in-loop-k-2-clause-placed : goal.add_part-requires-in-loop-k-2-clause-placed
add_part-requires-in-loop-k-2-clause-placed g c =
    there-placed c.args.values.now c.args.rest.now c.loop-k.k c.args.count c.in-Some.seen.now
    (row-there c.args.values.now c.args.rest.now c.loop-k.rest c.next.new.self c.loop-k.k
    c.in-Some.seen.now c.requires.numbered c.loop-k.invariant.rest c.in-Some.ensures.steps)
    c.loop-k-test.true c.requires.in_range

pub returns-clause-gathered : goal.returns-clause-gathered
returns-clause-gathered g c change gives =
    let all : c.loop-k.k ≡ c.args.count = omega arith in
    subst (λ n. AreGathered g.T.PartialEq.eq change c.args.values.now c.loop-k.rows
    (edit_of c.args.first c.args.end change (take n (runs_of c.args.values.now c.args.rest.now))))
    all (c.loop-k.invariant.gathered change gives)

pub loop-k-preserved : goal.loop-k-preserved
loop-k-preserved g c =
    let whole = c.args.rest.now in
    let values = c.args.values.now in
    let row = c.in-Some.seen.now in
    let inv = c.loop-k.invariant in
    let steps = c.in-Some.ensures.steps in
    let there = row-there values whole c.loop-k.rest c.next.new.self c.loop-k.k row
    c.requires.numbered inv.rest steps in
    let run = there.run in
    let some = there-some values whole c.loop-k.k c.args.count row there c.loop-k-test.true
    c.requires.some in
    let placed = there-placed values whole c.loop-k.k c.args.count row there c.loop-k-test.true
    c.requires.in_range in
    let has = row-has values row run there.one in
    let inside : end_of run ≤ 18446744073709551615 =
    omega (arith, has.first, has.pages, placed.last_page) in
    record {
      rest = step-left whole c.loop-k.rest c.next.new.self c.loop-k.k row inv.rest steps;
      gathered = λ change gives.
          let so_far = edit_of c.args.first c.args.end change
          (take c.loop-k.k (runs_of values whole)) in
          subst (λ (l : List (Run g.row.T.Denot)).
          AreGathered g.T.PartialEq.eq change values c.add_part-in-loop-k-2.new.rows l)
          (three so_far (part_within c.args.first c.args.end change run)
          (kept-before c.args.first run some)
          (kept-from c.args.end 18446744073709551615 run some inside)
          ∙ regroup so_far (part_before c.args.first run)
          (part_within c.args.first c.args.end change run) (part_from c.args.end run)
          ∙ sym (edited-more c.args.first c.args.end change (runs_of values whole) c.loop-k.k run
          there.within there.is))
          (c.add_part-in-loop-k-2.ensures.gathered change gives _ run there.one
          (c.add_part-in-loop-k.ensures.gathered change gives _ run there.one
          (c.add_part.ensures.gathered change gives _ run there.one
          (inv.gathered change gives))));
      count = omega (
        arith,
        c.add_part.ensures.count,
        c.add_part-in-loop-k.ensures.count,
        c.add_part-in-loop-k-2.ensures.count,
        inv.count,
      );
    }

pub loop-k-init : goal.loop-k-init
loop-k-init g c = record {
  rest = refl;
  gathered = λ change gives. record {
    closed = [];
    open_run = None;
    count = c.requires.none;
    kept = λ stays. search rules;
    opened = search rules;
    so_far = λ rest. refl;
  };
  count = omega (arith, c.requires.none);
}

pub add_part-requires-clause-room : goal.add_part-requires-clause-room
add_part-requires-clause-room g c = omega (arith, c.loop-k.invariant.count, c.requires.len)

pub add_part-requires-in-loop-k-clause-room : goal.add_part-requires-in-loop-k-clause-room
add_part-requires-in-loop-k-clause-room g c =
    omega (arith, c.add_part.ensures.count, c.loop-k.invariant.count, c.requires.len)

pub add_part-requires-in-loop-k-2-clause-room : goal.add_part-requires-in-loop-k-2-clause-room
add_part-requires-in-loop-k-2-clause-room g c =
    omega (
      arith,
      c.add_part-in-loop-k.ensures.count,
      c.add_part.ensures.count,
      c.loop-k.invariant.count,
      c.requires.len,
    )

pub returns-clause-count : goal.returns-clause-count
returns-clause-count g c = omega (arith, c.loop-k.invariant.count)
