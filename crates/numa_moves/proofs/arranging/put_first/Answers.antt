use Rattle.std.proofs.Common.{◌≡◌, ◌∙◌, ◌+◌, ℕ, List, [], ◌++◌, ap, drop, get_or, sym}
use Rattle.std.proofs.lemmas.List.{drop_all, drop_more}
use Rattle.numa_moves.specs.Held.{arranged}
use Rattle.numa_moves.proofs.Arranged.{arranged-next}
use Rattle.numa_moves.proofs.arranging.put_first.Goals as goal

pub loop-process-preserved : goal.loop-process-preserved
loop-process-preserved c =
    let k = c.loop-process.process-index in
    let order : List ℕ = c.args.order.now in
    arranged-next (drop k order) (drop (k + 1) order) (get_or order k 0)
    c.loop-process.holdings.items c.put_behind.new.holdings.items c.loop-process.first.items
    c.put_behind.new.others.items (arranged order c.args.holdings.now.items)
    (drop_more order k 0 c.loop-process-test.true) c.put_behind.ensures.taken
    c.in_ok-put_behind.ensures.put c.loop-process.invariant

pub returns : goal.returns
returns c =
    let k = c.loop-process.process-index in
    let order : List ℕ = c.args.order.now in
    let none : drop k order ≡ [] = drop_all k order c.loop-process-test.false in
    rw c.replace.ensures.after
    (c.in_ok-append.ensures.items
    ∙ ap (λ (o : List ℕ). c.loop-process.first.items ++ arranged o c.loop-process.holdings.items)
    (sym none) ∙ c.loop-process.invariant)
