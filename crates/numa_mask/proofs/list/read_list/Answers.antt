use Rattle.std.proofs.Common.{◌≡◌, ◌∷◌, [], ap, sym, ◌∙◌}
use Rattle.std.proofs.lemmas.Result.{err_from_is_err_and}
use Rattle.numa_mask.proofs.Reading.{list_from, list_fault, list_more}
use Rattle.numa_mask.proofs.list.read_list.Goals as goal

pub loop-item-init : goal.loop-item-init
loop-item-init c = ap (λ s. list_from s c.into_iter-item-iterator.result) c.empty-set.ensures
    ∙ ap (list_from 0) (c.into_iter-item-iterator.ensures.into_iter_gives
    ∙ c.new-item-items.ensures)

pub returns-in_err-first : goal.returns-in_err-first
returns-in_err-first c =
    let left : c.loop-item.item-iterator ≡ c.in-Some.item.now ∷ c.next.new.self =
    c.in-Some.ensures.steps in
    let p = err_from_is_err_and c.from_residual.result c.from_residual.ensures.1 in
    rw (p.1, p.2)
    (sym (list_fault c.loop-item.set c.in-Some.item.now c.next.new.self c.in_err-first.field-0.0
    (sym c.in_err-first.ensures)) ∙ sym (ap (list_from c.loop-item.set) left)
    ∙ c.loop-item.invariant)

pub loop-item-preserved : goal.loop-item-preserved
loop-item-preserved c =
    let left : c.loop-item.item-iterator ≡ c.in-Some.item.now ∷ c.next.new.self =
    c.in-Some.ensures.steps in
    ap (λ s. list_from s c.next.new.self) c.insert_between.ensures
    ∙ sym (list_more c.loop-item.set c.in-Some.item.now c.next.new.self c.in_ok-first.first
    c.in_ok-first.last (sym c.in_ok-first.ensures))
    ∙ sym (ap (list_from c.loop-item.set) left)
    ∙ c.loop-item.invariant

pub returns : goal.returns
returns c =
    let left : c.loop-item.item-iterator ≡ [] = c.in-None.ensures.steps.0 in
    sym (ap (list_from c.loop-item.set) left) ∙ c.loop-item.invariant
