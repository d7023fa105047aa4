use Rattle.std.proofs.Common.{◌≡◌, ◌∙◌, ◌+◌, ◌++◌, ℕ, List, [], ap, get_or, subst, sym, take}
use Rattle.std.specs.Prelude.{flat_map}
use Rattle.std.proofs.lemmas.List.{flat_map_more, take_all, take_more}
use Rattle.numa_moves.specs.Sums.{AddsEach, moves_at}
use Rattle.numa_moves.specs.declared.moving.ShareMove.{ShareMove}
use Rattle.numa_moves.proofs.Summing.{each-append, each-none}
use Rattle.numa_moves.proofs.sheet.Sheet.put_each.Goals as goal

pub put_at-is_first-requires : goal.put_at-is_first-requires
put_at-is_first-requires c = record { whole = c.loop-place.invariant.whole }

pub loop-place-init : goal.loop-place-init
loop-place-init c = each-none c.args.all.now c.requires.whole

pub loop-place-preserved : goal.loop-place-preserved
loop-place-preserved c =
    let k = c.loop-place.place-index in
    let at = moves_at c.args.told.now in
    let order = c.args.order.now in
    let more : flat_map at (take (k + 1) order)
    ≡ flat_map at (take k order) ++ at (get_or order k 0) =
    ap (λ (l : List ℕ). flat_map at l) (take_more order k 0 c.loop-place-test.true)
    ∙ sym (flat_map_more at [] (take k order) (get_or order k 0)) in
    subst (λ (l : List (List ShareMove)). AddsEach c.args.all.now l c.put_at-is_first.new.all)
    (sym more) (each-append (flat_map at (take k order)) (at (get_or order k 0)) c.args.all.now
    c.loop-place.all c.put_at-is_first.new.all c.loop-place.invariant c.put_at-is_first.ensures)

pub returns : goal.returns
returns c =
    subst (λ (l : List ℕ). AddsEach c.args.all.now (flat_map (moves_at c.args.told.now) l)
    c.loop-place.all) (take_all c.loop-place.place-index c.args.order.now c.loop-place-test.false)
    c.loop-place.invariant
