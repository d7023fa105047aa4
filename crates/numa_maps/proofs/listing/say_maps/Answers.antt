use Rattle.std.proofs.Common.{rules, ◌≡◌, ap, sym, subst, ◌∙◌, [], ◌++◌}
use Rattle.numa_lines.proofs.Adding.{said_both, said_nothing}
use Rattle.numa_ranges.specs.Runs.{AreApart, end_of}
use Rattle.numa_space.specs.Standing.{policy_in}
use Rattle.numa_maps.specs.Listing.{listing, listing_in, range_line}
use Rattle.numa_maps.proofs.Listed.{apart-next, line-next}
use Rattle.numa_maps.proofs.listing.say_maps.Goals as goal

pub write_line-requires : goal.write_line-requires
write_line-requires g c =
    (apart-next c.loop-range.invariant.apart.0 c.in-Some.range c.loop-range.range-iterator
    c.next.new.self c.in-Some.ensures.steps c.loop-range.invariant.apart.1).1

pub loop-range-init : goal.loop-range-init
loop-range-init g c =
    let is : c.into_iter-range-iterator.result ≡ c.args.space.now.ranges = search rules in
    record {
      wrote = (
        [],
        said_nothing g.W.Write.contents c.args.output.now,
        ap (λ ranges. listing (policy_in c.args.space.now c.args.task) c.args.resident.now ranges)
            (sym is),
      );
      apart = (0, subst (AreApart 0) (sym is) c.range_iter-ranges.ensures.rising);
    }

pub loop-range-preserved : goal.loop-range-preserved
loop-range-preserved g c =
    let text : c.as_bytes.result.now
    ≡ range_line (policy_in c.args.space.now c.args.task c.in-Some.range.first)
    c.args.resident.now c.in-Some.range =
    c.as_bytes.ensures.value ∙ c.as_str.ensures.value ∙ c.write_line.ensures
    ∙ ap (λ policy. range_line policy c.args.resident.now c.in-Some.range)
    c.policy_at.ensures.policy in
    record {
      wrote = (
        c.loop-range.invariant.wrote.0 ++ c.as_bytes.result.now,
        said_both g.W.Write.contents c.args.output.now c.loop-range.output c.say.new.self
            c.loop-range.invariant.wrote.0 c.as_bytes.result.now c.loop-range.invariant.wrote.1
            c.say.ensures,
        line-next (policy_in c.args.space.now c.args.task) c.args.resident.now
            (listing_in c.args.space.now c.args.task c.args.resident.now)
            c.loop-range.invariant.wrote.0 c.as_bytes.result.now c.in-Some.range
            c.loop-range.range-iterator c.next.new.self c.loop-range.invariant.wrote.2
            c.in-Some.ensures.steps text,
      );
      apart = (
        end_of c.in-Some.range,
        (apart-next c.loop-range.invariant.apart.0 c.in-Some.range c.loop-range.range-iterator
            c.next.new.self c.in-Some.ensures.steps c.loop-range.invariant.apart.1).0,
      );
    }
