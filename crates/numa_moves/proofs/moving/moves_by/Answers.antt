use Rattle.std.proofs.Common.{◌≡◌, ◌∙◌, ◌+◌, ◌-◌, ◌++◌, ◌==◌, ℕ, List, [], ap, drop, get_or}
use Rattle.std.proofs.Common.{slice_index, sym}
use Rattle.std.specs.Prelude.{min, if◌then◌else◌}
use Rattle.std.proofs.lemmas.List.{append-nil, drop_all, drop_more}
use Rattle.numa_moves.specs.Moving.{less_share, moves_by}
use Rattle.numa_moves.specs.declared.share.Share.{Share}
use Rattle.numa_moves.proofs.Lists.{next-move}
use Rattle.numa_moves.proofs.moving.moves_by.Goals as goal

pub loop-share-init : goal.loop-share-init
loop-share-init c go pages are counts =
    (pages, counts, ap (λ l. l ++ moves_by go pages c.args.shares.now) c.new-moves.ensures.items)

pub loop-share-preserved : goal.loop-share-preserved
loop-share-preserved c go pages are counts =
    let d : Share = record { span = record { first = 0; pages = 0 }; node = 0; there = 0 } in
    let share = get_or c.args.shares.now c.loop-share.share-index d in
    let so = c.loop-share.invariant go pages are counts in
    let small = c.take_pages-moved.ensures.small in (
      less_share share so.0,
      λ node lt. c.take_pages-moved.ensures.left node lt
          ∙ ap (λ (k : ℕ). if share.node == node then k - share.there else k) (so.1 node lt),
      next-move go so.0 c.args.shares.now (drop c.loop-share.share-index c.args.shares.now)
          (drop (c.loop-share.share-index + 1) c.args.shares.now) share
          (slice_index c.args.to.now share.node) c.take_pages-moved.result
          c.loop-share.moves.items _ (moves_by go pages c.args.shares.now)
          (drop_more c.args.shares.now c.loop-share.share-index d c.loop-share-test.true)
          (are share.node small)
          (c.take_pages-moved.ensures.taken ∙ ap (min share.there) (so.1 share.node small))
          c.in_ok-push.ensures.items so.2,
    )

pub returns : goal.returns
returns c go pages are counts =
    let so = c.loop-share.invariant go pages are counts in
    let none : drop c.loop-share.share-index c.args.shares.now ≡ [] =
    drop_all c.loop-share.share-index c.args.shares.now c.loop-share-test.false in
    sym (append-nil c.loop-share.moves.items)
    ∙ ap (λ (l : List Share). c.loop-share.moves.items ++ moves_by go so.0 l) (sym none) ∙ so.2
