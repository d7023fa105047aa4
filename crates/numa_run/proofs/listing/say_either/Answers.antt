use Rattle.std.proofs.Common.{Bool, ap, sym, ◌∙◌}
use Rattle.std.specs.Prelude.{if◌then◌else◌}
use Rattle.numa_lines.proofs.Adding.{said_same}
use Rattle.numa_space.specs.Standing.{policy_in}
use Rattle.numa_run.specs.Listings.{huge_range_line, there_line}
use Rattle.numa_run.proofs.listing.say_either.Goals as goal

pub returns-then-is_part : goal.returns-then-is_part
returns-then-is_part g c = λ spots memory lies kept.
    let policy = policy_in c.args.space.now c.args.task c.args.range.now.first in
    said_same g.W.Write.contents c.args.output.now c.say_huge_range.new.output _ _
    (ap (λ (b : Bool). if b then huge_range_line policy memory c.args.range.now
    else there_line policy c.args.resident.now spots c.args.range.now)
    (sym (sym c.is_part.ensures ∙ c.if-is_part.true))) (c.say_huge_range.ensures memory kept)

pub returns : goal.returns
returns g c = λ spots memory lies kept.
    let policy = policy_in c.args.space.now c.args.task c.args.range.now.first in
    said_same g.W.Write.contents c.args.output.now c.say_range.new.output _ _
    (ap (λ (b : Bool). if b then huge_range_line policy memory c.args.range.now
    else there_line policy c.args.resident.now spots c.args.range.now)
    (sym (sym c.is_part.ensures ∙ c.if-is_part.false))) (c.say_range.ensures spots lies)
