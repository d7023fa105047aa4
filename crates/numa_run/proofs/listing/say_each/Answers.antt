use Rattle.std.proofs.Common.{refl, ◌≡◌, ap, sym, subst, ◌∙◌, [], ◌++◌}
use Rattle.std.proofs.lemmas.List.{append-nil}
use Rattle.numa_lines.proofs.Adding.{said_both, said_nothing, said_same}
use Rattle.numa_ranges.specs.Runs.{AreApart, end_of}
use Rattle.numa_space.specs.Standing.{policy_in}
use Rattle.numa_run.specs.Listings.{either_line, either_lines}
use Rattle.numa_run.proofs.There.{apart-next, either-next}
use Rattle.numa_run.proofs.listing.say_each.Goals as goal

pub say_either-requires : goal.say_either-requires
say_either-requires g c =
    (apart-next c.loop-range.invariant.apart.0 c.in-Some.range c.loop-range.range-iterator
    c.next.new.self c.in-Some.ensures.steps c.loop-range.invariant.apart.1).1

pub loop-range-init : goal.loop-range-init
loop-range-init g c =
    let is : c.into_iter-range-iterator.result ≡ c.args.space.now.ranges =
    c.into_iter-range-iterator.ensures.into_iter_gives ∙ c.range_iter-range-items.ensures.runs in
    record {
      wrote = λ spots memory lies kept. (
        [],
        said_nothing g.W.Write.contents c.args.output.now,
        ap (λ ranges. either_lines (policy_in c.args.space.now c.args.task) c.args.resident.now
            spots memory ranges) (sym is),
      );
      apart = (0, subst (AreApart 0) (sym is) c.range_iter-range-items.ensures.rising);
    }

pub loop-range-preserved : goal.loop-range-preserved
loop-range-preserved g c = record {
  wrote = λ spots memory lies kept.
      let so = c.loop-range.invariant.wrote spots memory lies kept in
      let line = either_line memory
      (policy_in c.args.space.now c.args.task c.in-Some.range.first) c.args.resident.now spots
      c.in-Some.range in (
        so.0 ++ line,
        said_both g.W.Write.contents c.args.output.now c.loop-range.output c.say_either.new.output
            so.0 line so.1 (c.say_either.ensures spots memory lies kept),
        either-next (policy_in c.args.space.now c.args.task) c.args.resident.now spots memory
            (either_lines (policy_in c.args.space.now c.args.task) c.args.resident.now spots
            memory c.args.space.now.ranges) so.0 line c.in-Some.range c.loop-range.range-iterator
            c.next.new.self so.2 c.in-Some.ensures.steps refl,
      );
  apart = (
    end_of c.in-Some.range,
    (apart-next c.loop-range.invariant.apart.0 c.in-Some.range c.loop-range.range-iterator
        c.next.new.self c.in-Some.ensures.steps c.loop-range.invariant.apart.1).0,
  );
}

pub returns : goal.returns
returns g c = λ spots memory lies kept.
    let so = c.loop-range.invariant.wrote spots memory lies kept in
    let over = ap (λ ranges. so.0 ++ either_lines (policy_in c.args.space.now c.args.task)
    c.args.resident.now spots memory ranges) c.in-None.ensures.steps.0 in
    said_same g.W.Write.contents c.args.output.now c.loop-range.output _ _
    (sym (so.2 ∙ over ∙ append-nil so.0)) so.1
