use Rattle.std.proofs.Common.{length, arith, sym, ap, ◌∙◌}
use Rattle.std.proofs.lemmas.Bool.{eqb-true}
use Rattle.numa_mask.specs.Lists.{ends_or_fault}
use Rattle.numa_mask.proofs.Reading.{item_none, item_some, judged_back, judged_high, judged_fine}
use Rattle.numa_mask.proofs.list.read_item.Goals as goal

pub returns-then-is_empty : goal.returns-then-is_empty
returns-then-is_empty c =
    sym (item_none c.args.item.now
    (eqb-true (length c.args.item.now) 0 (sym c.if-is_empty.ensures)))

pub returns-in_default : goal.returns-in_default
returns-in_default c = ap ends_or_fault c.in_default.ensures
    ∙ sym (item_some c.args.item.now (sym c.if-is_empty.ensures))

pub returns-then-last-first : goal.returns-then-last-first
returns-then-last-first c = sym (judged_back c.in-Some.first c.in-Some.last c.if-last-first.true)
    ∙ ap ends_or_fault c.in-Some.ensures
    ∙ sym (item_some c.args.item.now (sym c.if-is_empty.ensures))

pub returns-then-last-gt255 : goal.returns-then-last-gt255
returns-then-last-gt255 c =
    sym (judged_high c.in-Some.first c.in-Some.last c.if-last-first.false (omega arith))
    ∙ ap ends_or_fault c.in-Some.ensures
    ∙ sym (item_some c.args.item.now (sym c.if-is_empty.ensures))

pub returns : goal.returns
returns c = sym (judged_fine c.in-Some.first c.in-Some.last c.if-last-first.false (omega arith))
    ∙ ap ends_or_fault c.in-Some.ensures
    ∙ sym (item_some c.args.item.now (sym c.if-is_empty.ensures))
