use Rattle.std.proofs.Common.{◌<◌, ◌+◌, ◌-◌, ◌++◌, ◌∙◌, ap, sym, arith, List, ℕ, append_assoc, None}
use Rattle.std.proofs.Common.{Some, drop, take, length}
use Rattle.std.proofs.lemmas.List.{take_rest, length-drop}
use Rattle.std.proofs.lemmas.Option.{slice_get_within}
use Rattle.numa_fault.specs.Fault.{list_of}
use Rattle.numa_fault.proofs.Walking.{behind}
use Rattle.numa_fault.proofs.page.take_first_or_behind.Goals as goal
use Rattle.numa_fault.proofs.page.take_first_or_behind.Goals.{In-Some-take_along}

pub returns-in_default-take_along-clause-walks : goal.returns-in_default-take_along-clause-walks
returns-in_default-take_along-clause-walks c =
    let first = c.in_default.ensures.walk in
    let more = c.in_default-take_along.ensures.walks in
    let nodes = c.in-Ok.nodes.now in (
      more.0 ++ first.0,
      more.1 ∙ ap (λ l. more.0 ++ l) first.1
          ∙ sym (append_assoc more.0 first.0 c.args.seat.now.log),
      behind c.args.pools.now.frames
          (list_of c.args.view.now.desk.machine c.args.view.now.history c.args.request)
          (take (length nodes - 1) (drop 1 nodes)) c.args.choice c.requires.some c.requires.choice
          (take_rest nodes 1 ∙ ap (drop 1) c.in-Ok.ensures.ok) first.0 more.0 None first.2 first.3
          more.2,
    )

few : (c : In-Some-take_along) → c.in-Some-take_along.rank + 1 < 256
few c =
    let nodes = c.in-Ok.nodes.now in
    let inside = slice_get_within (take (length nodes - 1) (drop 1 nodes)) c.in-Some-take_along.rank
    c.in-Some-take_along.frame.node c.in-Some-take_along.ensures.rank in
    let short = ap (λ (l : List ℕ). length l) (take_rest nodes 1) ∙ length-drop 1 nodes in
    let most = c.in-Ok.ensures.sized.1 in
    omega arith

pub overflow_add-result : goal.overflow_add-result
overflow_add-result c = let low = few c in omega arith

pub returns-clause-walks : goal.returns-clause-walks
returns-clause-walks c =
    let first = c.in_default.ensures.walk in
    let more = c.in-Some-take_along.ensures.walks in
    let nodes = c.in-Ok.nodes.now in (
      more.0 ++ first.0,
      more.1 ∙ ap (λ l. more.0 ++ l) first.1
          ∙ sym (append_assoc more.0 first.0 c.args.seat.now.log),
      behind c.args.pools.now.frames
          (list_of c.args.view.now.desk.machine c.args.view.now.history c.args.request)
          (take (length nodes - 1) (drop 1 nodes)) c.args.choice c.requires.some c.requires.choice
          (take_rest nodes 1 ∙ ap (drop 1) c.in-Ok.ensures.ok) first.0 more.0
          (Some c.in-Some-take_along.frame) first.2 first.3 more.2,
    )

pub returns-clause-few : goal.returns-clause-few
returns-clause-few c = few c
