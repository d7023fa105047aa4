use Rattle.std.proofs.Common.{◌∙◌, Option, Some, ap, sym}
use Rattle.numa_lines.proofs.Adding.{said_same}
use Rattle.numa_huge.specs.Moves.{HugeMemory}
use Rattle.numa_run.proofs.There.{each-same, there-same}
use Rattle.numa_run.specs.Listings.{both_listing, there_listing}
use Rattle.numa_host_script.proofs.Told.{each-shown}
use Rattle.numa_host_script.proofs.asking.list.Goals as goal

pub returns-in-Some : goal.returns-in-Some
returns-in-Some g c = λ spots memory history process stands machine same kept lie shown.
    let space = c.args.space.now in
    let found = each-shown memory c.in-Some.kept.now.places (rw c.in-Some.is at shown) in
    said_same g.W.Write.contents c.args.output.now c.say_each.new.output _ _
    (each-same space history c.args.task c.new-resident.result spots found.0 stands
    c.range_iter.ensures.rising c.range_iter.ensures.maximal
    ∙ (λ i. both_listing (record {
      machine = sym machine i;
      bounds = process.bounds;
      history = sym same i;
      kept = (c.new-resident.ensures ∙ sym kept) i;
    }) spots (Some found.0) c.args.task)
    ∙ found.2 process spots c.args.task) (c.say_each.ensures spots found.0 lie found.1)

pub returns : goal.returns
returns g c = λ spots memory history process stands machine same kept lie none.
    let space = c.args.space.now in
    said_same g.W.Write.contents c.args.output.now c.say_there.new.output _ _
    (there-same space history c.args.task c.new-resident.result spots stands
    c.range_iter.ensures.rising c.range_iter.ensures.maximal
    ∙ (λ i. there_listing (record {
      machine = sym machine i;
      bounds = process.bounds;
      history = sym same i;
      kept = (c.new-resident.ensures ∙ sym kept) i;
    }) spots c.args.task)
    ∙ ap (λ (m : Option HugeMemory). both_listing process spots m c.args.task)
    (sym (rw c.in-None.is at none)))
    (c.say_there.ensures spots lie)
