use Rattle.std.proofs.Common.{◌∙◌, ◌+◌, ◌++◌, List, ap, drop, get_or, sym}
use Rattle.std.proofs.lemmas.List.{append-nil, drop_all, drop_more}
use Rattle.numa_moves.specs.Moving.{shares_behind}
use Rattle.numa_moves.specs.declared.moving.ShareMove.{ShareMove}
use Rattle.numa_moves.proofs.Lists.{next-behind}
use Rattle.numa_moves.proofs.moving.shares_behind.Goals as goal

pub loop-moved-init : goal.loop-moved-init
loop-moved-init c = ap (λ l. l ++ shares_behind c.args.moves.now) c.new-shares.ensures.items

pub loop-moved-preserved : goal.loop-moved-preserved
loop-moved-preserved c =
    let d : ShareMove = record {
      share = record { span = record { first = 0; pages = 0 }; node = 0; there = 0 };
      to = 0;
      moved = 0;
    } in
    next-behind (drop c.loop-moved.moved-index c.args.moves.now)
    (drop (c.loop-moved.moved-index + 1) c.args.moves.now)
    (get_or c.args.moves.now c.loop-moved.moved-index d) c.loop-moved.shares.items
    c.push_behind.new.shares.items (shares_behind c.args.moves.now)
    (drop_more c.args.moves.now c.loop-moved.moved-index d c.loop-moved-test.true)
    c.in_ok-push_behind.ensures c.loop-moved.invariant

pub returns : goal.returns
returns c =
    sym (append-nil c.loop-moved.shares.items)
    ∙ ap (λ (l : List ShareMove). c.loop-moved.shares.items ++ shares_behind l)
    (sym (drop_all c.loop-moved.moved-index c.args.moves.now c.loop-moved-test.false))
    ∙ c.loop-moved.invariant
