use Rattle.std.proofs.Common.{◌≡◌, []}
use Rattle.numa_lines.specs.Watching.{has_failed, held_in}
use Rattle.numa_maps.specs.Listing.{listing_in}
use Rattle.numaplan_handles.proofs.Written.{text-written}
use Rattle.numaplan_handles.proofs.core_questions.listing_of.Goals as goal

pub returns-clause-text : goal.returns-clause-text
returns-clause-text c =
    let none : c.new-output.result.inner.items ≡ [] = cc in
    let empty : held_in c.new-output.result ≡ [] = cc in
    text-written c.new-output.result.inner.items c.write_maps.new.output.inner.items
    (has_failed c.new-output.result) (has_failed c.write_maps.new.output)
    (held_in c.new-output.result) (held_in c.write_maps.new.output)
    (listing_in c.args.space.now c.args.task c.args.placed.now)
    none c.new-output.ensures.well empty c.in-Ok.ensures.ok c.write_maps.ensures.empty
    c.write_maps.ensures.says
