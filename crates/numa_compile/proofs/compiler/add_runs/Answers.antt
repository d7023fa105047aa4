use Rattle.std.proofs.Common.{◌≡◌, ℕ, ◌+◌, ◌-◌, None, replicate, [], ◌∷◌, ◌++◌, List, Option, take}
use Rattle.std.proofs.Common.{length, get_or, Contains, refl, sym, ap, subst, ◌∙◌, arith, slice_get}
use Rattle.std.specs.Vec.{vec_len}
use Rattle.std.proofs.lemmas.List.{take_all, length-drop, append_assoc}
use Rattle.numa_mode.specs.Policy.{PolicyRecord}
use Rattle.numa_ranges.specs.Numbered.{AreNumbered, runs_of}
use Rattle.numa_ranges.specs.declared.run.Run.{Run}
use Rattle.numa_ranges.proofs.Walked.{step-short, step-read, step-left}
use Rattle.numa_plan.specs.Meaning.{PlanData}
use Rattle.numa_compile.specs.Copies.{AreCopies, AreUsed, Grows, HasRunsMore, IsUnderWay}
use Rattle.numa_compile.proofs.CompileSteps.{copied-next, served-named, under-rest, under-runs}
use Rattle.numa_compile.proofs.KnownLemmas.{known-none, range-of, range-first, rest-numbered}
use Rattle.numa_compile.proofs.KnownLemmas.{row-number}
use Rattle.numa_compile.proofs.CopyLemmas.{copies-apart, apart-take, grows-one}
use Rattle.numa_compile.proofs.PlanLemmas.{used-range}
use Rattle.numa_compile.proofs.RangeLemmas.{range-in_force}
use Rattle.numa_compile.proofs.RiseLemmas.{rises-both, rises-none}
use Rattle.numa_compile.proofs.compiler.add_runs.Goals as goal

pub loop-row-init : goal.loop-row-init
loop-row-init c = record {
  added = record {
    k = 0;
    within = omega arith;
    left = ap (runs_of c.range_rows-rows.result.1.now)
        c.into_iter-row-iterator.ensures.into_iter_gives ∙ c.range_rows-rows.ensures.runs;
    under_way = subst (λ (ks : List PolicyRecord). IsUnderWay c.args.space.now c.args.plan.now ks)
        (sym c.new-records.ensures.empty) c.requires.under_way;
    copies =
        subst (λ (rs : List (Run (Option ℕ))). AreCopies (slice_get c.new-records.result.keys) []
        rs) (λ i. sym c.requires.runs i ++ sym c.in_ok-waiting.ensures.items i) tt;
    tasks = c.requires.tasks;
    room = omega (arith, ap length c.new-records.ensures.empty);
  };
  numbered = subst (AreNumbered c.range_rows-rows.result.1.now)
      (sym c.into_iter-row-iterator.ensures.into_iter_gives) c.range_rows-rows.ensures.numbered;
  size = omega (arith, c.in-Ok.ensures.len, c.resize.new.self.ok.0);
  known = known-none (slice_get c.new-records.result.keys) c.range_rows-rows.result.1.now
      c.resize.new.self.items (length c.range_rows-rows.result.1.now)
      (let n : ℕ = length c.range_rows-rows.result.1.now in
      let no : Option (Option ℕ) = None in
      let all : ◌≡◌ {A = ℕ} (n - vec_len c.new-known.result) n =
      omega (arith, c.new-known.ensures.len) in
      c.in-Ok.ensures.items
      ∙ ((λ i. take n (c.new-known.ensures.items i) ++ replicate (all i) no)
      ∙ ap (λ (l : List (Option (Option ℕ))). l ++ replicate n no)
      (take_all n [] (omega arith))));
  rises = rises-none c.args.steps.now;
}

pub number_for_range-requires-clause-in_force : goal.number_for_range-requires-clause-in_force
number_for_range-requires-clause-in_force c =
    let ranges : List (Run (Option PolicyRecord)) = c.args.space.now.ranges in
    let row = c.in-Some.row.now in
    let range = range-of c.range_rows-rows.result.1.now row in
    let steps = range-first c.range_rows-rows.result.1.now c.loop-row.row-iterator c.next.new.self
    row c.loop-row.invariant.numbered c.in-Some.ensures.steps in
    let inv = c.loop-row.invariant.added in
    let short = step-short ranges (runs_of c.range_rows-rows.result.1.now c.loop-row.row-iterator)
    (runs_of c.range_rows-rows.result.1.now c.next.new.self) inv.k range inv.left steps in
    let read = step-read ranges (runs_of c.range_rows-rows.result.1.now c.loop-row.row-iterator)
    (runs_of c.range_rows-rows.result.1.now c.next.new.self) inv.k range range inv.left steps in
    let value : (get_or ranges inv.k range).value ≡ range.value =
    sym (ap (λ (r : Run (Option PolicyRecord)). r.value) read) in
    λ r is. range-in_force c.args.space.now inv.k range short c.survey.ensures.rising
    c.survey.ensures.ready.sound r (value ∙ is)

pub add_run-requires-clause-apart : goal.add_run-requires-clause-apart
add_run-requires-clause-apart c =
    let ranges : List (Run (Option PolicyRecord)) = c.args.space.now.ranges in
    let row = c.in-Some.row.now in
    let range = range-of c.range_rows-rows.result.1.now row in
    let steps = range-first c.range_rows-rows.result.1.now c.loop-row.row-iterator c.next.new.self
    row c.loop-row.invariant.numbered c.in-Some.ensures.steps in
    let inv = c.loop-row.invariant.added in
    let short = step-short ranges (runs_of c.range_rows-rows.result.1.now c.loop-row.row-iterator)
    (runs_of c.range_rows-rows.result.1.now c.next.new.self) inv.k range inv.left steps in
    let read = step-read ranges (runs_of c.range_rows-rows.result.1.now c.loop-row.row-iterator)
    (runs_of c.range_rows-rows.result.1.now c.next.new.self) inv.k range range inv.left steps in
    let plan : PlanData = c.number_for_range.new.plan in
    let wait : List (Run (Option ℕ)) = c.loop-row.waiting.items in
    let keys : List PolicyRecord = c.number_for_range.new.records.keys in
    let run : Run (Option ℕ) =
    record {
      first = range.first;
      pages = range.pages;
      index = range.index;
      value =
          c.in-Ok-number_for_range.value;
    } in
    let next : AreCopies (slice_get keys) (take (inv.k + 1) ranges)
    (plan.runs ++ (wait ++ run ∷ [])) =
    subst (λ (rs : List (Run (Option ℕ))). AreCopies (slice_get keys) (take (inv.k + 1) ranges) rs)
    (append_assoc plan.runs wait (run ∷ []))
    (copied-next c.loop-row.records.keys keys ranges (plan.runs ++ wait)
    (c.loop-row.plan.runs ++ wait) inv.k range range.value c.in-Ok-number_for_range.value
    short read refl (ap (λ (p : PlanData). p.runs ++ wait) c.in-Ok-number_for_range.ensures.rest)
    c.in-Ok-number_for_range.ensures.grows c.in-Ok-number_for_range.ensures.number inv.copies) in
    copies-apart (slice_get keys) 0 (take (inv.k + 1) ranges) _ next
    (apart-take 0 (inv.k + 1) ranges c.survey.ensures.rising)

pub add_run-requires-clause-named : goal.add_run-requires-clause-named
add_run-requires-clause-named c =
    let ranges : List (Run (Option PolicyRecord)) = c.args.space.now.ranges in
    let row = c.in-Some.row.now in
    let range = range-of c.range_rows-rows.result.1.now row in
    let steps = range-first c.range_rows-rows.result.1.now c.loop-row.row-iterator c.next.new.self
    row c.loop-row.invariant.numbered c.in-Some.ensures.steps in
    let inv = c.loop-row.invariant.added in
    let short = step-short ranges (runs_of c.range_rows-rows.result.1.now c.loop-row.row-iterator)
    (runs_of c.range_rows-rows.result.1.now c.next.new.self) inv.k range inv.left steps in
    let read = step-read ranges (runs_of c.range_rows-rows.result.1.now c.loop-row.row-iterator)
    (runs_of c.range_rows-rows.result.1.now c.next.new.self) inv.k range range inv.left steps in
    let plan : PlanData = c.number_for_range.new.plan in
    let wait : List (Run (Option ℕ)) = c.loop-row.waiting.items in
    let keys : List PolicyRecord = c.number_for_range.new.records.keys in
    let run : Run (Option ℕ) =
    record {
      first = range.first;
      pages = range.pages;
      index = range.index;
      value =
          c.in-Ok-number_for_range.value;
    } in
    let next : AreCopies (slice_get keys) (take (inv.k + 1) ranges)
    (plan.runs ++ (wait ++ run ∷ [])) =
    subst (λ (rs : List (Run (Option ℕ))). AreCopies (slice_get keys) (take (inv.k + 1) ranges) rs)
    (append_assoc plan.runs wait (run ∷ []))
    (copied-next c.loop-row.records.keys keys ranges (plan.runs ++ wait)
    (c.loop-row.plan.runs ++ wait) inv.k range range.value c.in-Ok-number_for_range.value
    short read refl (ap (λ (p : PlanData). p.runs ++ wait) c.in-Ok-number_for_range.ensures.rest)
    c.in-Ok-number_for_range.ensures.grows c.in-Ok-number_for_range.ensures.number inv.copies) in
    served-named c.args.space.now plan keys (take (inv.k + 1) ranges) _ c.in-Ok-number_for_range.ensures.serves
    next

pub loop-row-preserved : goal.loop-row-preserved
loop-row-preserved c =
    let ranges : List (Run (Option PolicyRecord)) = c.args.space.now.ranges in
    let row = c.in-Some.row.now in
    let range = range-of c.range_rows-rows.result.1.now row in
    let steps = range-first c.range_rows-rows.result.1.now c.loop-row.row-iterator c.next.new.self
    row c.loop-row.invariant.numbered c.in-Some.ensures.steps in
    let inv = c.loop-row.invariant.added in
    let short = step-short ranges (runs_of c.range_rows-rows.result.1.now c.loop-row.row-iterator)
    (runs_of c.range_rows-rows.result.1.now c.next.new.self) inv.k range inv.left steps in
    let read = step-read ranges (runs_of c.range_rows-rows.result.1.now c.loop-row.row-iterator)
    (runs_of c.range_rows-rows.result.1.now c.next.new.self) inv.k range range inv.left steps in
    let plan : PlanData = c.number_for_range.new.plan in
    let wait : List (Run (Option ℕ)) = c.loop-row.waiting.items in
    let keys : List PolicyRecord = c.number_for_range.new.records.keys in
    let run : Run (Option ℕ) =
    record {
      first = range.first;
      pages = range.pages;
      index = range.index;
      value =
          c.in-Ok-number_for_range.value;
    } in
    let next : AreCopies (slice_get keys) (take (inv.k + 1) ranges)
    (plan.runs ++ (wait ++ run ∷ [])) =
    subst (λ (rs : List (Run (Option ℕ))). AreCopies (slice_get keys) (take (inv.k + 1) ranges) rs)
    (append_assoc plan.runs wait (run ∷ []))
    (copied-next c.loop-row.records.keys keys ranges (plan.runs ++ wait)
    (c.loop-row.plan.runs ++ wait) inv.k range range.value c.in-Ok-number_for_range.value
    short read refl (ap (λ (p : PlanData). p.runs ++ wait) c.in-Ok-number_for_range.ensures.rest)
    c.in-Ok-number_for_range.ensures.grows c.in-Ok-number_for_range.ensures.number inv.copies) in
    let there : Contains ranges range = (inv.k, short, sym read) in
    let grows : Grows c.loop-row.records.keys range.value keys = c.in-Ok-number_for_range.ensures.grows in
    let used : AreUsed c.args.space.now keys = used-range c.args.space.now c.loop-row.records.keys
    keys range there grows inv.under_way.used in
    let more : HasRunsMore plan c.add_run.new.plan = c.in-Ok-add_run.ensures.more in
    record {
      added = record {
        k = inv.k + 1;
        within = omega (arith, short);
        left = step-left ranges (runs_of c.range_rows-rows.result.1.now c.loop-row.row-iterator)
            (runs_of c.range_rows-rows.result.1.now c.next.new.self) inv.k range inv.left steps;
        under_way = under-runs c.args.space.now plan c.add_run.new.plan keys
            (under-rest c.args.space.now c.loop-row.plan plan c.loop-row.records.keys keys
            inv.under_way c.in-Ok-number_for_range.ensures.serves used c.in-Ok-number_for_range.ensures.rest) more;
        copies =
            subst (λ (rs : List (Run (Option ℕ))).
            AreCopies (slice_get keys) (take (inv.k + 1) ranges) rs)
            (sym c.in-Ok-add_run.ensures.runs) next;
        tasks = ap (λ (p : PlanData). p.tasks) more.rest
            ∙ ap (λ (p : PlanData). p.tasks) c.in-Ok-number_for_range.ensures.rest ∙ inv.tasks;
        room =
            omega (
              arith,
              grows-one c.loop-row.records.keys range.value keys
                  c.in-Ok-number_for_range.ensures.grows,
              inv.room,
            );
      };
      numbered = rest-numbered c.range_rows-rows.result.1.now c.loop-row.row-iterator
          c.next.new.self row c.loop-row.invariant.numbered c.in-Some.ensures.steps;
      size = c.in-Ok-number_for_range.ensures.size;
      known = c.in-Ok-number_for_range.ensures.known;
      rises = rises-both c.args.steps.now c.number_for_range.new.steps c.add_run.new.steps
          (rises-both c.args.steps.now c.loop-row.steps c.number_for_range.new.steps
          c.loop-row.invariant.rises c.number_for_range.ensures.rises) c.add_run.ensures.rises;
    }

pub put_waiting-requires-clause-apart : goal.put_waiting-requires-clause-apart
put_waiting-requires-clause-apart c =
    let inv = c.loop-row.invariant.added in
    copies-apart (slice_get c.loop-row.records.keys) 0 (take inv.k c.args.space.now.ranges) _
    inv.copies (apart-take 0 inv.k c.args.space.now.ranges c.survey.ensures.rising)

pub put_waiting-requires-clause-named : goal.put_waiting-requires-clause-named
put_waiting-requires-clause-named c =
    let inv = c.loop-row.invariant.added in
    served-named c.args.space.now c.loop-row.plan c.loop-row.records.keys
    (take inv.k c.args.space.now.ranges) _ inv.under_way.serves inv.copies

pub returns-clause-under_way : goal.returns-clause-under_way
returns-clause-under_way c =
    under-runs c.args.space.now c.loop-row.plan c.put_waiting.new.plan c.loop-row.records.keys
    c.loop-row.invariant.added.under_way c.in-Ok-put_waiting.ensures.more

pub returns-clause-copies : goal.returns-clause-copies
returns-clause-copies c =
    let ranges : List (Run (Option PolicyRecord)) = c.args.space.now.ranges in
    let inv = c.loop-row.invariant.added in
    let keys : List PolicyRecord = c.loop-row.records.keys in
    let whole : take inv.k ranges ≡ ranges =
    take_all inv.k ranges
    (omega (
      arith,
      ap length inv.left,
      ap length (ap (runs_of c.range_rows-rows.result.1.now) c.in-None.ensures.steps.0),
      length-drop inv.k ranges,
    )) in
    let copies : AreCopies (slice_get keys) ranges
    (c.loop-row.plan.runs ++ c.loop-row.waiting.items) =
    subst (λ (rs : List (Run (Option PolicyRecord))). AreCopies (slice_get keys) rs
    (c.loop-row.plan.runs ++ c.loop-row.waiting.items)) whole inv.copies in
    subst (λ (rs : List (Run (Option ℕ))). AreCopies (slice_get keys) ranges rs)
    (sym c.in-Ok-put_waiting.ensures.runs) copies

pub returns-clause-tasks : goal.returns-clause-tasks
returns-clause-tasks c =
    let more : HasRunsMore c.loop-row.plan c.put_waiting.new.plan =
    c.in-Ok-put_waiting.ensures.more in
    ap (λ (p : PlanData). p.tasks) more.rest ∙ c.loop-row.invariant.added.tasks

pub returns-clause-room : goal.returns-clause-room
returns-clause-room c =
    omega (arith, c.loop-row.invariant.added.room, c.loop-row.invariant.added.within)

pub number_for_range-requires-clause-within : goal.number_for_range-requires-clause-within
number_for_range-requires-clause-within c = row-number c.range_rows-rows.result.1.now
    c.loop-row.row-iterator c.next.new.self c.in-Some.row.now c.loop-row.invariant.numbered
    c.in-Some.ensures.steps

pub number_for_range-requires-clause-size : goal.number_for_range-requires-clause-size
number_for_range-requires-clause-size c = c.loop-row.invariant.size

pub number_for_range-requires-clause-nodes : goal.number_for_range-requires-clause-nodes
number_for_range-requires-clause-nodes c = c.loop-row.invariant.added.under_way.nodes

pub number_for_range-requires-clause-serves : goal.number_for_range-requires-clause-serves
number_for_range-requires-clause-serves c = c.loop-row.invariant.added.under_way.serves

pub number_for_range-requires-clause-room : goal.number_for_range-requires-clause-room
number_for_range-requires-clause-room c =
    omega (
      arith,
      c.loop-row.invariant.added.room,
      c.loop-row.invariant.added.within,
      c.survey.ensures.ranges,
    )

pub number_for_range-requires-clause-known : goal.number_for_range-requires-clause-known
number_for_range-requires-clause-known c = c.loop-row.invariant.known

pub number_for_range-requires-clause-ready : goal.number_for_range-requires-clause-ready
number_for_range-requires-clause-ready c = c.survey.ensures.ready

pub returns-in_default-clause-rises : goal.returns-in_default-clause-rises
returns-in_default-clause-rises c = rises-none c.args.steps.now

pub returns-in_err-waiting-clause-rises : goal.returns-in_err-waiting-clause-rises
returns-in_err-waiting-clause-rises c = rises-none c.args.steps.now

pub returns-in_default-number_for_range-clause-rises : goal.returns-in_default-number_for_range-clause-rises
returns-in_default-number_for_range-clause-rises c = rises-both c.args.steps.now c.loop-row.steps
    c.number_for_range.new.steps c.loop-row.invariant.rises c.number_for_range.ensures.rises

pub returns-in_default-add_run-clause-rises : goal.returns-in_default-add_run-clause-rises
returns-in_default-add_run-clause-rises c = rises-both c.args.steps.now c.number_for_range.new.steps
    c.add_run.new.steps (rises-both c.args.steps.now c.loop-row.steps c.number_for_range.new.steps
    c.loop-row.invariant.rises c.number_for_range.ensures.rises) c.add_run.ensures.rises

pub returns-in_default-put_waiting-clause-rises : goal.returns-in_default-put_waiting-clause-rises
returns-in_default-put_waiting-clause-rises c = rises-both c.args.steps.now c.loop-row.steps
    c.put_waiting.new.steps c.loop-row.invariant.rises c.put_waiting.ensures.rises

pub returns-clause-rises : goal.returns-clause-rises
returns-clause-rises c = rises-both c.args.steps.now c.loop-row.steps c.put_waiting.new.steps
    c.loop-row.invariant.rises c.put_waiting.ensures.rises
