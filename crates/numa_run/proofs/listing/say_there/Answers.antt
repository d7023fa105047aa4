use Rattle.std.proofs.Common.{refl, ◌≡◌, ap, sym, subst, ◌∙◌, [], ◌++◌}
use Rattle.std.proofs.lemmas.List.{append-nil}
use Rattle.numa_lines.proofs.Adding.{said_both, said_nothing, said_same}
use Rattle.numa_ranges.specs.Runs.{AreApart, end_of}
use Rattle.numa_space.specs.Standing.{policy_in}
use Rattle.numa_run.specs.Listings.{there_line, there_lines}
use Rattle.numa_run.proofs.There.{apart-next, line-next}
use Rattle.numa_run.proofs.listing.say_there.Goals as goal

pub say_range-requires : goal.say_range-requires
say_range-requires g c =
    (apart-next c.loop-range.invariant.apart.0 c.in-Some.range c.loop-range.range-iterator
    c.next.new.self c.in-Some.ensures.steps c.loop-range.invariant.apart.1).1

pub loop-range-init : goal.loop-range-init
loop-range-init g c =
    let is : c.into_iter-range-iterator.result ≡ c.args.space.now.ranges =
    c.into_iter-range-iterator.ensures.into_iter_gives ∙ c.range_iter-range-items.ensures.runs in
    record {
      wrote = λ spots lies. (
        [],
        said_nothing g.W.Write.contents c.args.output.now,
        ap (λ ranges. there_lines (policy_in c.args.space.now c.args.task) c.args.resident.now
            spots ranges) (sym is),
      );
      apart = (0, subst (AreApart 0) (sym is) c.range_iter-range-items.ensures.rising);
    }

pub loop-range-preserved : goal.loop-range-preserved
loop-range-preserved g c = record {
  wrote = λ spots lies.
      let so = c.loop-range.invariant.wrote spots lies in
      let line = there_line (policy_in c.args.space.now c.args.task c.in-Some.range.first)
      c.args.resident.now spots c.in-Some.range in (
        so.0 ++ line,
        said_both g.W.Write.contents c.args.output.now c.loop-range.output c.say_range.new.output
            so.0 line so.1 (c.say_range.ensures spots lies),
        line-next (policy_in c.args.space.now c.args.task) c.args.resident.now spots
            (there_lines (policy_in c.args.space.now c.args.task) c.args.resident.now spots
            c.args.space.now.ranges) so.0 line c.in-Some.range c.loop-range.range-iterator
            c.next.new.self so.2 c.in-Some.ensures.steps refl,
      );
  apart = (
    end_of c.in-Some.range,
    (apart-next c.loop-range.invariant.apart.0 c.in-Some.range c.loop-range.range-iterator
        c.next.new.self c.in-Some.ensures.steps c.loop-range.invariant.apart.1).0,
  );
}

pub returns : goal.returns
returns g c = λ spots lies.
    let so = c.loop-range.invariant.wrote spots lies in
    let over = ap (λ ranges. so.0 ++ there_lines (policy_in c.args.space.now c.args.task)
    c.args.resident.now spots ranges) c.in-None.ensures.steps.0 in
    said_same g.W.Write.contents c.args.output.now c.loop-range.output _ _
    (sym (so.2 ∙ over ∙ append-nil so.0)) so.1
