use Rattle.std.proofs.Common.{◌≡◌, ◌∙◌, ◌<◌, ◌≤◌, ◌^◌, ◌+◌, ◌++◌, ◌∷◌, ℕ, List, [], ap, arith}
use Rattle.std.proofs.Common.{drop, get_or, length, refl, sym}
use Rattle.std.specs.Prelude.{map}
use Rattle.std.proofs.lemmas.List.{append-nil, drop_all, drop_more, take_all}
use Rattle.numa_host.proofs.Following.{partly-more, partly-next}
use Rattle.numa_moves.specs.Moving.{Moved, left_by, moves_in, nodes_by, nodes_in, rooms_by}
use Rattle.numa_moves.specs.Moving.{shares_in, told_by}
use Rattle.numa_moves.specs.Shares.{pages_on}
use Rattle.numa_moves.specs.declared.holding.Holding.{Holding}
use Rattle.numa_moves.specs.declared.holding.HoldingMoves.{HoldingMoves}
use Rattle.numa_moves.proofs.Telling.{behind, left-next, nodes-next, rooms-next, told-next}
use Rattle.numa_moves.proofs.holding.act_on_each.Goals as goal

pub loop-holding-init : goal.loop-holding-init
loop-holding-init c = record {
  partly = record {
    count = refl;
    done = λ j d low. absurd (omega (arith, low));
    rest = λ j d low. refl;
  };
  told = λ from to room sends are counted. (
    room,
    are,
    ap (λ l. map moves_in l ++ told_by from to c.args.holdings.now room)
        c.new-told.ensures.items,
    refl,
  );
  left = ap (λ (l : List HoldingMoves). map left_by l) (sym c.new-told.ensures.items);
  nodes = refl;
}

pub loop-holding-preserved : goal.loop-holding-preserved
loop-holding-preserved c =
    let d : Holding = c.holding-item.result in
    let k = c.loop-holding.holding-index in
    let olds : List Holding = c.args.holdings.now in
    let news : List Holding = c.loop-holding.holdings in
    let now : Holding = get_or news k d in
    let partly = c.loop-holding.invariant.partly in
    let inside : k < length {A = Holding} olds =
    omega (arith, c.loop-holding-test.true, partly.count) in
    let same : now ≡ get_or olds k d = partly.rest k d (omega arith) in
    let ahead : drop k olds ≡ now ∷ drop (k + 1) olds =
    drop_more olds k d inside ∙ ap (λ (h : Holding). h ∷ drop (k + 1) olds) (sym same) in
    record {
      partly = partly-more (λ (p q : Holding). Unit {0}) k olds news d c.act_on.new.holding
          partly inside tt;
      told = λ from to room sends are counted.
          let so = c.loop-holding.invariant.told from to room sends are counted in
          let few = partly-next (λ (p q : Holding). Unit {0}) k olds news d
          (λ (h : Holding). (node : ℕ) → pages_on h.shares.items node < 2 ^ 64) partly inside
          counted in (
            behind from to now so.0,
            c.in_ok-moves.ensures.rooms from to so.0 sends so.1 few,
            told-next from to (drop k olds) (drop (k + 1) olds) now c.loop-holding.told.items
                c.push.new.self.items c.in_ok-moves.moves so.0 (told_by from to olds room) ahead
                c.in_ok-push.ensures.items c.in_ok-moves.ensures.named
                (c.in_ok-moves.ensures.moves from to so.0 sends so.1 few) so.2,
            rooms-next from to (drop k olds) (drop (k + 1) olds) now so.0
                (rooms_by from to olds room) ahead so.3,
          );
      left = left-next k news now c.act_on.new.holding c.loop-holding.told.items
          c.push.new.self.items c.in_ok-moves.moves
          (omega (arith, inside, partly.count)) c.in_ok-push.ensures.items
          c.in_ok-moves.ensures.named c.in_ok-moves.ensures.same c.in_ok-moves.ensures.behind
          c.loop-holding.invariant.left;
      nodes = nodes-next (nodes_by c.args.act) k olds news d c.act_on.new.holding inside
          (omega (arith, inside, partly.count))
          (c.in_ok-moves.ensures.nodes ∙ ap (λ (h : Holding). nodes_by c.args.act h) same)
          c.loop-holding.invariant.nodes;
    }

pub returns-clause-left : goal.returns-clause-left
returns-clause-left c =
    let k = c.loop-holding.holding-index in
    let news : List Holding = c.loop-holding.holdings in
    let short : length {A = Holding} news ≤ k = omega (arith, c.loop-holding-test.false) in
    ap (λ (l : List Holding). map shares_in l) (sym (take_all k news short))
    ∙ c.loop-holding.invariant.left

pub returns-clause-nodes : goal.returns-clause-nodes
returns-clause-nodes c =
    let k = c.loop-holding.holding-index in
    let olds : List Holding = c.args.holdings.now in
    let news : List Holding = c.loop-holding.holdings in
    let short : length {A = Holding} news ≤ k = omega (arith, c.loop-holding-test.false) in
    let all : length {A = Holding} olds ≤ k =
    omega (arith, c.loop-holding-test.false, c.loop-holding.invariant.partly.count) in
    ap (λ (l : List Holding). map nodes_in l) (sym (take_all k news short))
    ∙ c.loop-holding.invariant.nodes
    ∙ ap (λ (l : List Holding). map (nodes_by c.args.act) l) (take_all k olds all)

pub returns-clause-does : goal.returns-clause-does
returns-clause-does c from to room sends are counted =
    let k = c.loop-holding.holding-index in
    let olds : List Holding = c.args.holdings.now in
    let so = c.loop-holding.invariant.told from to room sends are counted in
    let told : List Moved = map moves_in c.loop-holding.told.items in
    let short : length {A = Holding} olds ≤ k =
    omega (arith, c.loop-holding-test.false, c.loop-holding.invariant.partly.count) in
    let none : drop k olds ≡ [] = drop_all k olds short in (
      sym (append-nil told)
          ∙ ap (λ (l : List Holding). told ++ told_by from to l so.0) (sym none) ∙ so.2,
      λ node small. so.1 node small
          ∙ ap (λ (f : ℕ → ℕ). f node)
          (ap (λ (l : List Holding). rooms_by from to l so.0) (sym none) ∙ so.3),
    )
